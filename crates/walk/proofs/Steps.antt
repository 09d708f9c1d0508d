-- The tests of a move, in words: a move passes exactly if it is a step that lowers.
use Rattle.std.proofs.Common.{◌≡◌, ◌<◌, ◌≤◌, Bool, true, false, cond, ◌⊎◌, List, length, ℤ, pos, ◌+ℤ◌, nat_abs, ◌<ℤ◌, Some, None, sym, refl, ap, ◌∙◌, inl, inr, subst, ⊎_elim, arith, pow_mono}
use lib.Signed.{lt_z}
use Rattle.std.proofs.lemmas.List.{length-set, get_or-set_same, get_or-set_other}
use Rattle.std.proofs.lemmas.Int.{ints}
use Rattle.std.proofs.lemmas.Bool.{cases_Bool, cases_eq, both_ways}
use Rattle.duality.specs.Lists.{places}
use Rattle.duality.specs.Problem.{Problem, cost}
use Rattle.job.specs.Bounds.{InBounds}
use Rattle.job.specs.Rows.{outside}
use Rattle.duality.proofs.Tests.{between_parts, between_from}
use Rattle.walk.specs.Lowering.{Step, lower, below, allowed, lowers}
use Rattle.walk.specs.Laws.{Descent, FirstDescent}
use Rattle.walk.specs.Moves.{after, candidates}
use Rattle.walk.specs.Order.{Before}
use Rattle.walk.specs.Walks.{first_move}
use Rattle.walk.specs.declared.moves.Move.{Move}
use Rattle.walk.proofs.Each.{Listed, candidates_listed, each_listed, first_holds, first_none}
use Rattle.walk.proofs.Sorting.{before_not, found_least}

lower_out : (o q o' q' : ℤ) → lower o q o' q' ≡ true → (o' <ℤ o) ⊎ ((o' ≡ o) × (q' <ℤ q))
unfolding lower
lower_out o q o' q' e =
    ⊎_elim
    (λ (y : lt_z o' o ≡ true). inl (omega (arith, ints)))
    (λ (n : lt_z o' o ≡ false).
    ⊎_elim
    (λ (y : lt_z o o' ≡ true).
    let k : false ≡ true = sym (ap (λ (b : Bool). cond b true (cond (lt_z o o') false (lt_z q' q))) n ∙ ap (λ (b : Bool). cond b false (lt_z q' q)) y) ∙ e in
    absurd (both_ways false refl k))
    (λ (m : lt_z o o' ≡ false).
    let k : lt_z q' q ≡ true = sym (ap (λ (b : Bool). cond b true (cond (lt_z o o') false (lt_z q' q))) n ∙ ap (λ (b : Bool). cond b false (lt_z q' q)) m) ∙ e in
    inr (omega (arith, ints), omega (arith, ints)))
    (cases_Bool (lt_z o o')))
    (cases_Bool (lt_z o' o))

lower_in : (o q o' q' : ℤ) → (o' <ℤ o) ⊎ ((o' ≡ o) × (q' <ℤ q)) → lower o q o' q' ≡ true
unfolding lower
lower_in o q o' q' (inl h) = let e : lt_z o' o ≡ true = grind (arith, ints) in ap (λ (b : Bool). cond b true (cond (lt_z o o') false (lt_z q' q))) e
lower_in o q o' q' (inr h) =
    let a = h.0 in
    let c = h.1 in
    let e : lt_z o' o ≡ false = grind (arith, ints) in
    let f : lt_z o o' ≡ false = grind (arith, ints) in
    let g : lt_z q' q ≡ true = grind (arith, ints) in
    ap (λ (b : Bool). cond b true (cond (lt_z o o') false (lt_z q' q))) e ∙ (ap (λ (b : Bool). cond b false (lt_z q' q)) f ∙ g)

both_true : (a b : Bool) → cond a b false ≡ true → (a ≡ true) × (b ≡ true)
both_true true b e = (refl, e)
both_true false b e = absurd (both_ways false refl e)

module _ (P : Problem) (z : List ℤ) where
  -- a listed move that passes is a step that lowers
  pub step_out : (m : Move) → Listed P.ropes m → lowers P z m ≡ true → Descent P z m
  unfolding lowers allowed below
  step_out m h e =
      let t = both_true (allowed P z m) (below P (places z) (places (after z m))) e in
      let b = between_parts (P.l m.rope) (P.u m.rope) (places z m.rope +ℤ m.by) t.0 in (
        record { rope_there = h.0; size_there = h.1; not_below = b.0; not_above = b.1 },
        lower_out (outside P (places z)) (cost P (places z)) (outside P (places (after z m))) (cost P (places (after z m))) t.1,
      )

  step_in : (m : Move) → Descent P z m → lowers P z m ≡ true
  unfolding lowers allowed below
  step_in m (s, l) =
      ap (λ (b : Bool). cond b (below P (places z) (places (after z m))) false)
      (between_from (P.l m.rope) (P.u m.rope) (places z m.rope +ℤ m.by) s.not_below s.not_above)
      ∙ lower_in (outside P (places z)) (cost P (places z)) (outside P (places (after z m))) (cost P (places (after z m))) l

  -- what the search finds
  pub found_listed : (m : Move) → first_move P z ≡ Some m → (lowers P z m ≡ true) × Listed P.ropes m
  unfolding first_move
  found_listed m e = first_holds (lowers P z) (Listed P.ropes) (candidates P.ropes) m (candidates_listed P.ropes) e

  pub found_descends : (m : Move) → first_move P z ≡ Some m → Descent P z m
  found_descends m e = let f = found_listed m e in step_out m f.1 f.0

  pub found_first : (m : Move) → first_move P z ≡ Some m → FirstDescent P z m
  unfolding first_move
  found_first m e = (found_descends m e, none)
    where
      none : (k : Move) → Before k m → Descent P z k → ⊥
      none k b d =
          ⊎_elim
          (λ (q : k ≡ m). let r = subst (λ (v : Move). Before v m) q b in before_not m m r r)
          (λ (c : Before m k). before_not m k c b)
          (each_listed (λ i. lowers P z i ≡ true → (i ≡ m) ⊎ Before m i) P.ropes k (d.0.rope_there, d.0.size_there) (found_least (lowers P z) P.ropes m e) (step_in k d))

  pub found_small : (m : Move) → first_move P z ≡ Some m → nat_abs m.by ≤ 16384
  found_small m e = let f = (found_listed m e).1.1 in omega (arith, ap nat_abs f.2, pow_mono {i = f.0} {j = 14} (omega (arith, f.1)))

  -- and where it finds none, no step lowers
  pub none_descends : first_move P z ≡ None → (m : Move) → Descent P z m → ⊥
  unfolding first_move
  none_descends e m d =
      both_ways (lowers P z m)
      (each_listed (λ k. lowers P z k ≡ false) P.ropes m (d.0.rope_there, d.0.size_there) (first_none (lowers P z) (candidates P.ropes) e))
      (step_in m d)

  -- a step leaves the point in its bounds
  pub inside_after : (m : Move) → InBounds P z → Step P z m → InBounds P (after z m)
  inside_after m h s =
      let lz : m.rope < length z = omega (arith, h.long, s.rope_there) in
      let same : places (after z m) m.rope ≡ places z m.rope +ℤ m.by = get_or-set_same z m.rope (places z m.rope +ℤ m.by) (pos 0) lz in
      record {
        long = length-set z m.rope (places z m.rope +ℤ m.by) ∙ h.long;
        not_below = λ k l.
            ⊎_elim
            (λ (e : k ≡ m.rope). rw (e, same) s.not_below)
            (λ (ne : k ≡ m.rope → ⊥). rw (get_or-set_other z m.rope k (places z m.rope +ℤ m.by) (pos 0) ne) (h.not_below k l))
            (cases_eq k m.rope);
        not_above = λ k l.
            ⊎_elim
            (λ (e : k ≡ m.rope). rw (e, same) s.not_above)
            (λ (ne : k ≡ m.rope → ⊥). rw (get_or-set_other z m.rope k (places z m.rope +ℤ m.by) (pos 0) ne) (h.not_above k l))
            (cases_eq k m.rope);
      }
