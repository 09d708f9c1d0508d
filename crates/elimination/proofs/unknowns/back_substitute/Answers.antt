use Rattle.std.proofs.Common.{◌≡◌, ℕ, ◌+◌, ◌-◌, length, take, drop, replicate, Some, sym, refl, ap, ◌∙◌, subst, arith}
use lib.Ieee.{binary64, of_bits}
use Rattle.std.proofs.lemmas.List.{length-drop, length-take-le, drop-replicate, drop-set-lt, length-set}
use Rattle.std.specs.Option.{option_map}
use Rattle.elimination.specs.Lines.{unknowns_of, padded}
use Rattle.elimination.proofs.Numbers.{zero_is}
use Rattle.elimination.proofs.Back.{none_yet, all_found, one_found, one_outside}
use Rattle.elimination.proofs.Ending.{answered}
use Rattle.elimination.proofs.unknowns.back_substitute.Goals as goal

pub unknown-x-requires : goal.unknown-x-requires
unknown-x-requires c =
    let us = c.loop-k.unknowns in
    let n = length c.args.lines.now in
    let j = c.loop-k.k - 1 in
    let d = length-drop (j + 1) us in
    let t = length-take-le (n - (j + 1)) (drop (j + 1) us) (omega (arith, c.loop-k.invariant.1)) in
    omega (arith, c.told-lines j (omega arith))

pub loop-k-init : goal.loop-k-init
loop-k-init c =
    let n = length c.args.lines.now in
    (none_yet c.args.lines.now (replicate 32 (of_bits binary64 0)) (omega arith), refl, drop-replicate n 32 (of_bits binary64 0) ∙ rw zero_is)

pub loop-k-preserved : goal.loop-k-preserved
loop-k-preserved c =
    let ls = c.args.lines.now in
    let us = c.loop-k.unknowns in
    let j = c.loop-k.k - 1 in
    let e : c.loop-k.k ≡ j + 1 = omega arith in
    let P : ℕ → Type 0 = λ k. unknowns_of (length ls) k (drop k ls) ≡ Some (drop k (take (length ls) us)) in (
      one_found ls us (omega (arith, c.loop-k.invariant.1)) j (omega arith) c.unknown-x.result c.unknown-x.ensures (subst P e c.loop-k.invariant.0)
          (sym c.if-not-is_inside.ensures),
      length-set us j c.unknown-x.result ∙ c.loop-k.invariant.1,
      drop-set-lt (length ls) us j c.unknown-x.result (omega arith) ∙ c.loop-k.invariant.2,
    )

pub returns-then-not-is_inside : goal.returns-then-not-is_inside
returns-then-not-is_inside c =
    let ls = c.args.lines.now in
    let us = c.loop-k.unknowns in
    let j = c.loop-k.k - 1 in
    let e : c.loop-k.k ≡ j + 1 = omega arith in
    let P : ℕ → Type 0 = λ k. unknowns_of (length ls) k (drop k ls) ≡ Some (drop k (take (length ls) us)) in
    let r = ap (option_map padded)
    (one_outside ls us (omega (arith, c.loop-k.invariant.1)) j (omega arith) c.unknown-x.result c.unknown-x.ensures (subst P e c.loop-k.invariant.0)
    (sym c.if-not-is_inside.ensures)) in
    record { value = r; law = answered ls _ r }

pub returns : goal.returns
returns c =
    let ls = c.args.lines.now in
    let us = c.loop-k.unknowns in
    let e : c.loop-k.k ≡ 0 = omega arith in
    let P : ℕ → Type 0 = λ k. unknowns_of (length ls) k (drop k ls) ≡ Some (drop k (take (length ls) us)) in
    let r = all_found ls us (omega (arith, c.loop-k.invariant.1)) (subst P e c.loop-k.invariant.0) c.loop-k.invariant.2 in
    record { value = r; law = answered ls _ r }
