-- One turn of the search along the sizes of a rope: z is the point at the start, and the tries left it as it stood.
use Rattle.std.proofs.Common.{◌≡◌, ℕ, zero, suc, ◌+◌, ◌<◌, ◌≤◌, Bool, true, false, cond, List, [], ◌∷◌, ◌++◌, drop, ℤ, pos, neg_ℤ, ◌-ℤ◌, nat_abs, Some, Option, sym, refl, ap, ◌∙◌, subst, arith, lit<}
use Rattle.std.proofs.lemmas.List.{drop_all}
use Rattle.duality.specs.Lists.{places}
use Rattle.duality.specs.Problem.{Problem}
use Rattle.duality.proofs.Ring.{lin}
use Rattle.duality.proofs.Sizes.{nat_abs_neg}
use Rattle.terms.proofs.Bits.{back, back_is, small_of}
use Rattle.job.specs.Bounds.{InBounds}
use Rattle.job.specs.declared.numbers.Job.{Job}
use Rattle.walk.specs.Lowering.{lowers}
use Rattle.walk.specs.Moves.{move, sizes, both_ways, of_rope, after}
use Rattle.walk.specs.Running.{Tracks}
use Rattle.walk.specs.Walks.{first}
use Rattle.walk.specs.declared.moves.Move.{Move}
use Rattle.walk.specs.declared.room.Room.{Room}
use Rattle.walk.proofs.Firsts.{left_of, left_more, first_yes, first_no}

-- a size both ways, as an array
abbrev pub ways : ℤ → List ℤ
ways s = s ∷ neg_ℤ s ∷ []

-- the moves of rope k from way n of the size at place i on
abbrev pub left_in : ℕ → ℕ → ℤ → ℕ → List Move
left_in k i s n = drop n (both_ways k s) ++ left_of k (i + 1)

pub in_more : (k i : ℕ) (s : ℤ) (n : ℕ) → n < 2 → left_in k i s n ≡ move k (places (ways s) n) ∷ left_in k i s (n + 1)
in_more k i s zero l = refl
in_more k i s (suc zero) l = refl
in_more k i s (suc (suc n)) l = absurd (omega arith)

pub in_none : (k i : ℕ) (s : ℤ) (n : ℕ) → 2 ≤ n → left_in k i s n ≡ left_of k (i + 1)
in_none k i s zero l = absurd (omega arith)
in_none k i s (suc zero) l = absurd (omega arith)
in_none k i s (suc (suc n)) l = ap (λ (ms : List Move). ms ++ left_of k (i + 1)) (drop_all n [] (omega arith))

-- the array as the program reads it
module _ (s : ℤ) (h : nat_abs s ≤ 16384) where
  down_small : nat_abs (neg_ℤ s) ≤ 16384
  down_small = rw (nat_abs_neg s) h

  pub way_is : (n : ℕ) → n < 2 → back (places (s ∷ back (pos 0 -ℤ s) ∷ []) n) ≡ places (ways s) n
  way_is zero l = back_is 16384 s h (lit< tt)
  way_is (suc zero) l =
      let e : pos 0 -ℤ s ≡ neg_ℤ s = omega (arith, lin) in
      let b = back_is 16384 (neg_ℤ s) down_small (lit< tt) in
      ap back (ap back e ∙ b) ∙ b
  way_is (suc (suc n)) l = absurd (omega arith)

  pub way_small : (n : ℕ) → n < 2 → nat_abs (back (places (s ∷ back (pos 0 -ℤ s) ∷ []) n)) ≤ 16384
  way_small zero l = small_of 16384 _ _ (way_is 0 (lit< tt)) h
  way_small (suc zero) l = small_of 16384 _ _ (way_is 1 (lit< tt)) down_small
  way_small (suc (suc n)) l = absurd (omega arith)

pub in_start : (t : Move → Bool) (k i : ℕ) (s : ℤ) (r : Option Move) → i < 15 → s ≡ places sizes i → first t (left_of k i) ≡ r → first t (left_in k i s 0) ≡ r
in_start t k i s r l e inv = ap (λ (v : ℤ). first t (left_in k i v 0)) e ∙ sym (ap (first t) (left_more k i l)) ∙ inv

module _ (P : Problem) (z : List ℤ) (k i : ℕ) (s : ℤ) (n : ℕ) (l : n < 2) (d : ℤ) (ed : d ≡ places (ways s) n)
    (inv : first (lowers P z) (left_in k i s n) ≡ first (lowers P z) (of_rope k)) where
  same_test : (w : List ℤ) (b : Bool) → w ≡ z → b ≡ lowers P w (move k d) → lowers P z (move k (places (ways s) n)) ≡ b
  same_test w b ew e = sym (e ∙ ap (λ (v : List ℤ). lowers P v (move k d)) ew ∙ ap (λ (v : ℤ). lowers P z (move k v)) ed)

  pub hit : (w : List ℤ) → w ≡ z → true ≡ lowers P w (move k d) → Some (move k d) ≡ first (lowers P z) (of_rope k)
  hit w ew e =
      ap (λ (v : ℤ). Some (move k v)) ed
      ∙ sym (first_yes (lowers P z) (move k (places (ways s) n)) _ (same_test w true ew e))
      ∙ sym (ap (first (lowers P z)) (in_more k i s n l))
      ∙ inv

  pub miss : (w : List ℤ) → w ≡ z → false ≡ lowers P w (move k d) → first (lowers P z) (left_in k i s (n + 1)) ≡ first (lowers P z) (of_rope k)
  miss w ew e =
      sym (first_no (lowers P z) (move k (places (ways s) n)) _ (same_test w false ew e)) ∙ sym (ap (first (lowers P z)) (in_more k i s n l)) ∙ inv

pub hit_point : (z w y : List ℤ) (m : Move) (b : Bool) → w ≡ z → y ≡ cond b (after w m) w → y ≡ cond b (after z m) z
hit_point z w y m b ew e = e ∙ ap (λ (v : List ℤ). cond b (after v m) v) ew

-- a point that stands is in its bounds still, and tracked
pub inside_at : (P : Problem) (z w : List ℤ) → w ≡ z → InBounds P z → InBounds P w
inside_at P z w e h = subst (λ (v : List ℤ). InBounds P v) (sym e) h

pub tracks_at : (j : Job) (z w : List ℤ) (s : Room) → w ≡ z → Tracks j z s → Tracks j w s
tracks_at j z w s e h = subst (λ (v : List ℤ). Tracks j v s) (sym e) h
