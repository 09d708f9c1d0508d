use Rattle.std.proofs.Common.{◌≡◌, ◌+◌, ◌<◌, [], get_or, length, refl, ap, ◌∙◌, arith, add-zero}
use Rattle.std.proofs.lemmas.List.{drop_all, length-drop, take_rest, get_or-drop}
use Rattle.elimination.specs.Lines.{at, size_of, pivot_of}
use Rattle.elimination.proofs.Lines.{pick_then, pick_else}
use Rattle.elimination.proofs.Search.{pivot_taken, pivot_none}
use Rattle.elimination.proofs.Numbers.{zero_is}
use Rattle.elimination.proofs.pivots.pivot_in_column.Goals as goal
use Rattle.elimination.proofs.pivots.pivot_in_column.Goals.{then-size-best, else-size-best}

pub loop-i-init : goal.loop-i-init
loop-i-init c = (rw (add-zero, zero_is), c.requires.column)

pub loop-i-preserved : goal.loop-i-preserved
loop-i-preserved c =
    let ls = c.args.lines.now in
    let k = c.args.k in
    let j = k + c.loop-i.i in
    let d = length-drop k ls in
    let l : j < length ls = omega arith in
    let x = at (get_or ls j []) k in
    let line = ap (λ z. get_or z c.loop-i.i []) (take_rest ls k) ∙ get_or-drop k ls c.loop-i.i [] in
    let z : c.abs-size.result ≡ size_of x = c.abs-size.ensures.value ∙ ap (λ y. size_of (at y k)) line in
    let a : k + (c.loop-i.i + 1) ≡ j + 1 = omega arith in
    elim c.if-size-best.branch [
      | then-size-best w ↦ rw (w.best-is, a) (
        pick_then k j c.loop-i.best.place c.loop-i.best.size x c.abs-size.result ls l refl z w.if-size-best.true ∙ c.loop-i.invariant.0,
        l,
      )
      | else-size-best w ↦ rw (w.best-is, a) (
        pick_else k j c.loop-i.best.place c.loop-i.best.size x c.abs-size.result ls l refl z w.if-size-best.false ∙ c.loop-i.invariant.0,
        c.loop-i.invariant.1,
      )
    ]

pub returns : goal.returns
returns c =
    let ls = c.args.lines.now in
    let k = c.args.k in
    let d = length-drop k ls in
    let e = drop_all (k + c.loop-i.i) ls (omega arith) in
    let q : (c.loop-i.best.place, c.loop-i.best.size) ≡ pivot_of k ls = rw e at c.loop-i.invariant.0 in
    record {
      value = q;
      within = c.loop-i.invariant.1;
      taken = λ t. pivot_taken k ls c.loop-i.best (omega (arith, c.requires.column)) q t;
      none = λ t. pivot_none k ls c.loop-i.best.place c.loop-i.best.size (omega (arith, c.requires.column)) q t;
    }
