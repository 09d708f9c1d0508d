-- Points inside their bounds, and points held there.
use Rattle.std.proofs.Common.{◌≡◌, ℕ, ◌+◌, ◌<◌, ◌≤◌, Bool, true, false, eqb, ◌≢◌, List, map, length, set, ℤ, pos, ◌-ℤ◌, nat_abs, ◌≤ℤ◌, is_some, Option, Decides, min, not, sym, ap, ◌∙◌, ⊎_elim, arith}
use Rattle.std.specs.List.{range_with_len}
use Rattle.std.specs.Int.{int_max, int_min}
use Rattle.std.proofs.lemmas.List.FromFn.{fill_by_all}
use Rattle.std.proofs.lemmas.List.{get_or-set_same, get_or-set_other}
use Rattle.std.proofs.lemmas.Int.{clamps}
use Rattle.std.proofs.lemmas.Bool.{cases_lt, and_parts, and_from, and_left, ne_eqb, eqb-true, eq-eqb, cond-true}
use Rattle.duality.specs.Lists.{places}
use Rattle.duality.specs.Problem.{Problem}
use Rattle.duality.proofs.Ring.{lin}
use Rattle.duality.proofs.Sizes.{sizes}
use Rattle.duality.specs.Tests.{all, between, first_not}
use Rattle.terms.proofs.Firsts.{all_from_none}
use Rattle.job.specs.Numbers.{problem_of}
use Rattle.job.specs.Bounds.{InBounds, is_in_bounds, held, clamped, HeldInside}
use Rattle.job.specs.declared.numbers.Job.{Job}
use Rattle.duality.proofs.Tests.{all_at, all_from, between_parts, between_from, ordered_at}

module _ (P : Problem) where
  abbrev pub lies : List ℤ → ℕ → Bool
  lies z k = between (P.l k) (P.u k) (places z k)

  pub wrong_length : (z : List ℤ) (n : ℕ) → n ≡ P.ropes → (length z ≡ n → ⊥) → eqb (length z) n ≡ is_in_bounds P z
  wrong_length z n q ne =
      let no' : eqb (length z) n ≡ false = ne_eqb _ _ ne in
      let no'' : eqb (length z) P.ropes ≡ false = rw q at no' in
      no' ∙ sym (and_left (eqb (length z) P.ropes) (all (lies z) P.ropes) no'')

  pub in_bounds_out : (z : List ℤ) → is_in_bounds P z ≡ true → InBounds P z
  in_bounds_out z e =
      let p = and_parts (eqb (length z) P.ropes) (all (lies z) P.ropes) e in
      let at : (k : ℕ) → k < P.ropes → lies z k ≡ true =
      λ k l. all_at (lies z) P.ropes k p.1 l in
      record {
        long = eqb-true _ _ p.0;
        not_below = λ k l. (between_parts _ _ _ (at k l)).0;
        not_above = λ k l. (between_parts _ _ _ (at k l)).1;
      }

  pub in_bounds_in : (z : List ℤ) → InBounds P z → is_in_bounds P z ≡ true
  in_bounds_in z h =
      and_from (eqb (length z) P.ropes) (all (lies z) P.ropes)
      (eq-eqb _ _ h.long)
      (all_from (lies z) P.ropes (λ k l. between_from _ _ _ (h.not_below k l) (h.not_above k l)))

  pub in_bounds_decides : (z : List ℤ) (b : Bool) → b ≡ is_in_bounds P z → Decides b (InBounds P z)
  in_bounds_decides z b e = (λ t. in_bounds_out z (sym e ∙ t), λ h. e ∙ in_bounds_in z h)

module _ (j : Job) where
  held_inside : (low high x : ℤ) → low ≤ℤ high → (low ≤ℤ held low high x) × (held low high x ≤ℤ high)
  held_inside low high x h = (omega (arith, lin, clamps), omega (arith, lin, clamps))

  pub held_is : (z : List ℤ) (k : ℕ) (low high x r : ℤ) → low ≡ (problem_of j).l k → high ≡ (problem_of j).u k → x ≡ places z k → r ≡ int_max low (int_min x high) →
      r ≡ held ((problem_of j).l k) ((problem_of j).u k) (places z k)
  held_is z k low high x r el eh ex e = let q : int_max low (int_min x high) ≡ held low high x = omega (arith, lin, clamps) in cc

  -- each place below i is held, and the others stand
  abbrev pub HeldBelow : List ℤ → List ℤ → ℕ → Type 0
  HeldBelow z y i =
      ((k : ℕ) → k < i → places y k ≡ held ((problem_of j).l k) ((problem_of j).u k) (places z k)) × ((k : ℕ) → i ≤ k → places y k ≡ places z k)

  pub held_more : (z y : List ℤ) (i : ℕ) (v : ℤ) → i < length y → HeldBelow z y i → v ≡ held ((problem_of j).l i) ((problem_of j).u i) (places y i) →
      HeldBelow z (set y i v) (i + 1)
  held_more z y i v l h e = (
    λ k m.
        ⊎_elim
        (λ (lt : k < i). let ne : k ≢ i = omega arith in get_or-set_other y i k v (pos 0) ne ∙ h.0 k lt)
        (λ (ge : i ≤ k).
        let q : k ≡ i = omega arith in
        rw q (get_or-set_same y i v (pos 0) l ∙ e ∙ ap (held ((problem_of j).l i) ((problem_of j).u i)) (h.1 i (omega arith))))
        (cases_lt k i),
    λ k m. let ne : k ≢ i = omega arith in get_or-set_other y i k v (pos 0) ne ∙ h.1 k (omega arith),
  )

  pub held_all : (z y : List ℤ) (i : ℕ) → length z ≡ (problem_of j).ropes → length y ≡ length z → (problem_of j).ropes ≤ i → HeldBelow z y i → y ≡ clamped (problem_of j) z
  held_all z y i lz ly le h =
      fill_by_all (λ k. held ((problem_of j).l k) ((problem_of j).u k) (places z k)) y (problem_of j).ropes (pos 0) (ly ∙ lz) (λ k l. h.0 k (omega arith))
      ∙ sym (cond-true (eqb (length z) (problem_of j).ropes) (map (λ k. held ((problem_of j).l k) ((problem_of j).u k) (places z k)) (range_with_len 0 (problem_of j).ropes)) z (eq-eqb _ _ lz))

  -- a point of the right length, of which no number was found outside
  pub none_outside : (z lows highs : List ℤ) (o : Option ℕ) (b : Bool) → lows ≡ j.terms.l.items → highs ≡ j.terms.u.items → length z ≡ (problem_of j).ropes →
      o ≡ first_not (λ k. between (places lows k) (places highs k) (places z k)) (min (length lows) (min (length highs) (length z))) → is_some o ≡ not b →
      b ≡ is_in_bounds (problem_of j) z
  none_outside z lows highs o b el eh long e h =
      let n : min (length (j.terms.l.items)) (min (length (j.terms.u.items)) (length z)) ≡ (problem_of j).ropes = omega (arith, j.terms.lefts.0, j.terms.rights.0) in
      let all = all_from_none (lies (problem_of j) z) (problem_of j).ropes o b (rw (el, eh, n) at e) h in
      rw (eq-eqb _ _ long) all

  pub open_at : (k : ℕ) → k < (problem_of j).ropes → (problem_of j).l k ≤ℤ (problem_of j).u k
  open_at k l = ordered_at _ _ k j.terms.wide (omega (arith, j.terms.lefts.0))

  -- of the numbers from low to high none lies nearer to x
  held_nearest : (low high x w : ℤ) → low ≤ℤ w → w ≤ℤ high → nat_abs (held low high x -ℤ x) ≤ nat_abs (w -ℤ x)
  held_nearest low high x w h k = omega (arith, lin, clamps, sizes)

  pub held_in_bounds : (z y : List ℤ) (i : ℕ) → length z ≡ (problem_of j).ropes → length y ≡ length z → (problem_of j).ropes ≤ i → HeldBelow z y i → InBounds (problem_of j) y
  held_in_bounds z y i lz ly le h =
      record {
        long = ly ∙ lz;
        not_below = λ k l. rw (h.0 k (omega arith)) (held_inside ((problem_of j).l k) ((problem_of j).u k) (places z k) (open_at k l)).0;
        not_above = λ k l. rw (h.0 k (omega arith)) (held_inside ((problem_of j).l k) ((problem_of j).u k) (places z k) (open_at k l)).1;
      }

  pub held_law : (z y : List ℤ) (i : ℕ) → length z ≡ (problem_of j).ropes → length y ≡ length z → (problem_of j).ropes ≤ i → HeldBelow z y i → HeldInside (problem_of j) z y
  held_law z y i lz ly le h =
      record {
        inside = held_in_bounds z y i lz ly le h;
        nearest = λ k l w hl hu. rw (h.0 k (omega arith)) (held_nearest ((problem_of j).l k) ((problem_of j).u k) (places z k) w hl hu);
      }
