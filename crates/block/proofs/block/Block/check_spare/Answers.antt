use Rattle.std.proofs.Common.{◌≡◌, Ok, Err, sym, ap, ◌∙◌, subst}
use Rattle.block.specs.declared.fault.Fault.{Fault}
use Rattle.block.specs.Checks.{Verdict, no_spare, spare_check}
use Rattle.block.specs.Laws.{FirstSpare}
use Rattle.block.proofs.Saying.{spare_law}
use Rattle.block.proofs.block.Block.check_spare.Goals as goal

pub returns-in-Some-clause-first : goal.returns-in-Some-clause-first
returns-in-Some-clause-first c =
    let block = c.args.self.now.bytes.now in
    let value : ◌≡◌ {A = Verdict} (Err (Fault.Spare c.args.number c.in-Some.byte)) (spare_check block c.args.number c.args.used)
    = ap (no_spare c.args.number) (sym c.in-Some.is ∙ c.spare_set.ensures) in
    subst (λ (v : Verdict). FirstSpare block c.args.number c.args.used v) (sym value) (spare_law block c.args.number c.args.used c.args.self.now.long)

pub returns-in-None-clause-first : goal.returns-in-None-clause-first
returns-in-None-clause-first c =
    let block = c.args.self.now.bytes.now in
    let value : ◌≡◌ {A = Verdict} (Ok tt) (spare_check block c.args.number c.args.used)
    = ap (no_spare c.args.number) (sym c.in-None.is ∙ c.spare_set.ensures) in
    subst (λ (v : Verdict). FirstSpare block c.args.number c.args.used v) (sym value) (spare_law block c.args.number c.args.used c.args.self.now.long)
