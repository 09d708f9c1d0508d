use Rattle.std.proofs.Common.{◌≡◌, Err, ◌∙◌, rules}
use Rattle.opening.specs.Opening.{numbers_of}
use Rattle.opening.proofs.Fitting.{slip_fits, list_refused}
use Rattle.opening.proofs.Naming.{lawful}
use Rattle.opening.proofs.opening.check_opening.Goals as goal

pub returns-in_err-check_tables : goal.returns-in_err-check_tables
returns-in_err-check_tables g c = lawful _ _ _ _ (search rules)

pub returns-in_err-check : goal.returns-in_err-check
returns-in_err-check g c =
    let e : c.from_residual-in_err-check.result ≡ Err c.in_err-check.field-0.0 = search rules in
    lawful _ _ _ _
    (e ∙ list_refused (g.G.Table.meant c.args.g.now) (g.A.Table.meant c.args.a.now) (numbers_of c.args.lists.now) _ _ tt _ c.height-ropes.ensures.value c.height.ensures.value
    c.in_ok-check_sizes.ensures c.in_ok-check_tables.ensures c.in_err-check.ensures)

pub new-requires : goal.new-requires
new-requires g c =
    slip_fits (g.G.Table.meant c.args.g.now) (g.A.Table.meant c.args.a.now) (numbers_of c.args.lists.now) _ c.height.result tt c.height-ropes.ensures.value
    c.in_ok-check_sizes.ensures c.in_ok-check.ensures

pub returns : goal.returns
returns g c = lawful _ _ _ _ (search rules)
