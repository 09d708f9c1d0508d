use Rattle.std.proofs.Common.{◌≡◌, ℕ, ◌+◌, [], List, length, sym, ap, subst, ◌∙◌, arith}
use lib.Ieee.{Float}
use Rattle.std.proofs.lemmas.List.Edits.{swap_is}
use Rattle.elimination.specs.Lines.{traded, cleared_below}
use Rattle.elimination.specs.Runs.{Clears}
use Rattle.elimination.proofs.Steps.{tried_some, tried_none}
use Rattle.elimination.proofs.Clearing.{clears}
use Rattle.elimination.proofs.columns.eliminate_column.Goals as goal

pub returns-then-not-can_be_taken : goal.returns-then-not-can_be_taken
returns-then-not-can_be_taken c =
    let ls = c.args.lines.now in
    let p = c.pivot_in_column-pivot.result in
    let t = sym c.if-not-can_be_taken.ensures in
    record {
      value = tried_none (length ls + 1) c.args.k p.place p.size ls c.pivot_in_column-pivot.ensures.value t;
      law = c.pivot_in_column-pivot.ensures.none t;
    }

pub returns : goal.returns
returns c =
    let ls = c.args.lines.now in
    let k = c.args.k in
    let w = length ls + 1 in
    let p = c.pivot_in_column-pivot.result in
    let ms = c.swap.new.self in
    let h = c.pivot_in_column-pivot.ensures in
    let t = sym c.if-not-can_be_taken.ensures in
    let e : ms ≡ traded k p.place ls = c.swap.ensures.after ∙ sym (swap_is ls k p.place [] c.requires.column h.within) in
    let d : c.clear_below.new.lines ≡ cleared_below w k (traded k p.place ls) = c.clear_below.ensures ∙ ap (λ (n : ℕ). cleared_below (n + 1) k ms) c.swap.auto.self ∙ ap (cleared_below w k) e in
    let C : List (List Float) → Type 0 = Clears w k p.place ls in
    let a = h.taken t in
    record {
      value = tried_some w k p.place p.size ls c.clear_below.new.lines h.value t d;
      law = (p.place, (a, subst C (sym d) (clears w k p.place ls (omega (arith, c.requires.column)) a.place.below h.within (λ i l. omega (arith, c.told-lines i l, c.requires.few)))));
    }
