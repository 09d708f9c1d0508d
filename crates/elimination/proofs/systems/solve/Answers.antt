use Rattle.std.proofs.Common.{◌∙◌, ap, ◌≡◌, true, leb, length, le-leb, take, arith}
use Rattle.elimination.specs.Lines.{solved}
use Rattle.elimination.proofs.Inside.{solves}
use Rattle.std.specs.Option.{option_map}
use Rattle.elimination.proofs.Ending.{taken_out, eliminates}
use Rattle.elimination.proofs.Seen.{solved_in_seen}
use Rattle.elimination.proofs.systems.solve.Goals as goal

pub returns-then-lines-gt-MOST_UNKNOWNS-clause-beyond : goal.returns-then-lines-gt-MOST_UNKNOWNS-clause-beyond
returns-then-lines-gt-MOST_UNKNOWNS-clause-beyond c = solved_in_seen c.args.smallest c.args.lines.now

pub returns-else-lines-gt-MOST_UNKNOWNS-clause-beyond : goal.returns-else-lines-gt-MOST_UNKNOWNS-clause-beyond
returns-else-lines-gt-MOST_UNKNOWNS-clause-beyond c = solved_in_seen c.args.smallest c.args.lines.now

pub returns-else-lines-gt-MOST_UNKNOWNS-clause-law : goal.returns-else-lines-gt-MOST_UNKNOWNS-clause-law
returns-else-lines-gt-MOST_UNKNOWNS-clause-law c =
    let ls = c.args.lines.now in
    let b : leb (length ls) 32 ≡ true = le-leb _ _ c.if-lines-gt-MOST_UNKNOWNS.false in
    rw b (solves c.args.smallest ls)

pub returns-else-lines-gt-MOST_UNKNOWNS-clause-run : goal.returns-else-lines-gt-MOST_UNKNOWNS-clause-run
returns-else-lines-gt-MOST_UNKNOWNS-clause-run c =
    let s = c.args.smallest in
    let ls = c.args.lines.now in
    let h = c.unknowns_of_system-unknowns.ensures in
    let b : leb (length ls) 32 ≡ true = le-leb _ _ c.if-lines-gt-MOST_UNKNOWNS.false in
    eliminates s ls (λ l i t. omega (arith, c.told-lines i t)) _ _ _ (h.lines ∙ rw b) (h.smallest ∙ rw b)
    (ap (option_map (take (length ls))) h.unknowns ∙ taken_out (length ls) (solved s ls).1 (solves s ls) ∙ rw b)
