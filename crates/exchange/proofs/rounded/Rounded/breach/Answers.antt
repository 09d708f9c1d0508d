use Rattle.std.proofs.Common.{◌≡◌, true, false, nat_abs, ap, ◌∙◌, arith, w64, SFits, rules, to_z, of_z}
use lib.Signed.{lt_z}
use Rattle.std.proofs.lemmas.Int.{to_z-of_z}
use Rattle.job.specs.Numbers.{problem_of}
use Rattle.exchange.specs.Members.{low}
use Rattle.exchange.specs.Breaches.{value_at, side_of}
use Rattle.exchange.proofs.Choosing.{breach_is}
use Rattle.exchange.proofs.rounded.Rounded.breach.Goals as goal
use Rattle.exchange.proofs.rounded.Rounded.breach.Goals.{then-s-lower, else-s-lower}

pub returns : goal.returns
returns c =
    let P = problem_of c.args.self.now.set.job.now in
    let z = c.args.self.now.pulls.now in
    let v = c.args.limit in
    let fl : SFits w64 c.held_at-lower.result = search rules in
    let fh : SFits w64 c.held_at-upper.result = search rules in
    let fs : SFits w64 c.value_at-s.result = search rules in
    let fe : SFits w64 c.excess.result = search rules in
    let l = to_z-of_z w64 _ fl ∙ c.held_at-lower.ensures.value in
    let h = to_z-of_z w64 _ fh ∙ c.held_at-upper.ensures.value in
    let s = to_z-of_z w64 _ fs ∙ c.value_at-s.ensures.value in
    let q = c.excess.ensures.near (record {
      low_near = omega (arith, ap nat_abs (to_z-of_z w64 _ fl), c.held_at-lower.ensures.small);
      high_near = omega (arith, ap nat_abs (to_z-of_z w64 _ fh), c.held_at-upper.ensures.small);
      sum_near = omega (arith, ap nat_abs (to_z-of_z w64 _ fs), c.value_at-s.ensures.small);
    }) in
    let t = to_z-of_z w64 _ fe ∙ q ∙ rw (l, h, s) in
    let d : c.if-s-lower.side ≡ side_of (low P v) (value_at P z v) =
    elim c.if-s-lower.branch [
      | then-s-lower w ↦ let q : lt_z (value_at P z v) (low P v) ≡ true = rw (l, s) at w.if-s-lower.true in w.side-is ∙ rw q
      | else-s-lower w ↦ let q : lt_z (value_at P z v) (low P v) ≡ false = rw (l, s) at w.if-s-lower.false in w.side-is ∙ rw q
    ] in
    breach_is P z v (to_z w64 (of_z w64 c.excess.result)) c.if-s-lower.side t d
