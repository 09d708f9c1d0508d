-- Where a section's numbers lie: number q at its spot.
use Rattle.std.proofs.Common.{◌≡◌, ℕ, zero, suc, ◌+◌, ◌-◌, ◌*◌, ◌/◌, ◌%◌, ◌<◌, ◌≤◌, min, true, cond, leb, List, length, get_or, take, drop, ℤ, pos, Some, None, Option, sym, refl, ap, ◌∙◌, subst, ⊎_elim, arith}
use Rattle.std.specs.Option.{option_map}
use Rattle.std.proofs.lemmas.List.{get_or-take, get_or-drop, get_or_append_left, get_or-append_right, length-take, length-drop}
use Rattle.std.proofs.lemmas.List.FromFn.{get_or-map-range_with_len}
use Rattle.std.proofs.lemmas.Bool.{cases_lt, le-leb}
use Rattle.block.specs.Bytes.{num, number_at}
use Rattle.block.specs.Blocks.{block_at, numbers_of}
use Rattle.block.proofs.RoundTrip.{length_numbers}
use Rattle.block.specs.declared.kind.Kind.{Kind}
use Rattle.block.specs.declared.kind.Kind.TheVariants.{Head, Curvature, Rows, Costs, Bounds, Limits, Slip}
use Rattle.section.specs.Layout.{blocks_for, count_of, first_of, blocks_in}
use Rattle.section.specs.Sections.{Part, kind_at, run_at, part_at, section_at, spot_of}
use Rattle.section.specs.Numbers.{numbers_from, numbers_in, Located}

module _ (card : List ℕ) where
  byte_of : (w p q : ℕ) → q < w → get_or (take w (drop p card)) q 0 ≡ get_or card (p + q) 0
  byte_of w p q h = get_or-take w (drop p card) q 0 h ∙ get_or-drop p card q 0

  -- a number in a part of the card is the number at its place in the card
  pub num_of : (w p q s : ℕ) → q + 4 ≤ w → p + q ≡ s → num (take w (drop p card)) q ≡ num card s
  num_of w p q s h e =
      let a : get_or (take w (drop p card)) q 0 ≡ get_or card s 0 = byte_of w p q (omega arith) ∙ ap (λ i. get_or card i 0) e in
      let e₁ : p + (q + 1) ≡ s + 1 = omega arith in
      let e₂ : p + (q + 2) ≡ s + 2 = omega arith in
      let e₃ : p + (q + 3) ≡ s + 3 = omega arith in
      let b : get_or (take w (drop p card)) (q + 1) 0 ≡ get_or card (s + 1) 0 = byte_of w p (q + 1) (omega arith) ∙ ap (λ i. get_or card i 0) e₁ in
      let c : get_or (take w (drop p card)) (q + 2) 0 ≡ get_or card (s + 2) 0 = byte_of w p (q + 2) (omega arith) ∙ ap (λ i. get_or card i 0) e₂ in
      let d : get_or (take w (drop p card)) (q + 3) 0 ≡ get_or card (s + 3) 0 = byte_of w p (q + 3) (omega arith) ∙ ap (λ i. get_or card i 0) e₃ in
      rw (a, b, c, d)

  first_at : (k used q : ℕ) → q < used → get_or (numbers_of (block_at card k) used) q (pos 0) ≡ num (block_at card k) (4 + q * 4)
  unfolding numbers_of
  first_at k used q h = get_or-map-range_with_len (λ j. num (block_at card k) (4 + j * 4)) 0 used q q (pos 0) h (omega arith)

  at_spot : (k left b q : ℕ) → b ≡ blocks_for left → q < left → get_or (numbers_from card k left b) q (pos 0) ≡ num card (k * 512 + spot_of q)
  at_spot k left zero q e h = absurd (omega arith)
  at_spot k left (suc b) q e h =
      let X : List ℤ = numbers_of (block_at card k) (min left 126) in
      let Y : List ℤ = numbers_from card (k + 1) (left - 126) b in
      let count : length X ≡ min left 126 = length_numbers (block_at card k) (min left 126) in
      ⊎_elim
      (λ (less : q < 126).
      let short : q < length X = omega arith in
      let small : q < min left 126 = omega arith in
      let room : 4 + q * 4 + 4 ≤ 512 = omega arith in
      let spot : k * 512 + (4 + q * 4) ≡ k * 512 + spot_of q = omega arith in
      get_or_append_left X Y (pos 0) q short ∙ (first_at k (min left 126) q small ∙ num_of 512 (k * 512) (4 + q * 4) (k * 512 + spot_of q) room spot))
      (λ (more : 126 ≤ q).
      let full : length X ≡ 126 = omega arith in
      let next : (k + 1) * 512 + spot_of (q - 126) ≡ k * 512 + spot_of q = omega arith in
      get_or-append_right X Y 126 q (pos 0) full more ∙ (at_spot (k + 1) (left - 126) b (q - 126) (omega arith) (omega arith) ∙ ap (num card) next))
      (cases_lt q 126)

  section_at_lem : (n m : ℕ) (kind : Kind) (q : ℕ) → q < count_of kind n m → get_or (numbers_in card n m kind) q (pos 0) ≡ num card (first_of kind n m * 512 + spot_of q)
  unfolding numbers_in
  section_at_lem n m kind q h = at_spot (first_of kind n m) (count_of kind n m) (blocks_for (count_of kind n m)) q refl h

  -- a section ends within the card
  pub ends : (n m : ℕ) (kind : Kind) → first_of kind n m + blocks_for (count_of kind n m) ≤ blocks_in n m
  ends n m Head = omega arith
  ends n m Curvature = omega arith
  ends n m Rows = omega arith
  ends n m Costs = omega arith
  ends n m Bounds = omega arith
  ends n m Limits = omega arith
  ends n m Slip = omega arith

  spot_within : (count q : ℕ) → q < count → spot_of q + 4 ≤ blocks_for count * 512
  spot_within count q h =
      let block : q / 126 < blocks_for count = omega arith in
      let rest : q % 126 < 126 = omega arith in
      omega arith

  -- number q of a section stands at its spot in a card of full length
  pub number_stands : (n m : ℕ) (kind : Kind) (q : ℕ) → length card ≡ blocks_in n m * 512 → q < count_of kind n m
      → number_at card (first_of kind n m * 512 + spot_of q) ≡ Some (get_or (numbers_in card n m kind) q (pos 0))
  number_stands n m kind q long h =
      let spot = spot_within (count_of kind n m) q h in
      let end = ends n m kind in
      let at : ℕ = first_of kind n m * 512 + spot_of q in
      let room : leb (at + 4) (length card) ≡ true = le-leb (at + 4) (length card) (omega arith) in
      ap (λ t. cond t (Some (num card at)) None) room ∙ ap Some (sym (section_at_lem n m kind q h))

  located : (first n m : ℕ) → Located card first n m (section_at card first n m)
  located first n m = of_kind (kind_at card first) where
    of_kind : (o : Option Kind) → Located card first n m (option_map (part_at card first n m) o)
    of_kind None = tt
    of_kind (Some kind) = λ long e q h.
        let b : ℕ = blocks_for (count_of kind n m) in
        let end = ends n m kind in
        let room : length (run_at card first b) ≡ b * 512 = simp (length-take, length-drop) (omega arith) in
        let spot = spot_within (count_of kind n m) q h in
        let there : leb (spot_of q + 4) (length (run_at card first b)) ≡ true = le-leb (spot_of q + 4) (length (run_at card first b)) (omega arith) in
        ap (λ t. cond t (Some (num (run_at card first b) (spot_of q))) None) there
        ∙ ap Some (num_of (b * 512) (first * 512) (spot_of q) (first * 512 + spot_of q) spot refl
        ∙ (ap (λ f. num card (f * 512 + spot_of q)) e ∙ sym (section_at_lem n m kind q h)))

  pub located_at : (first n m : ℕ) (o : Option Part) → o ≡ section_at card first n m → Located card first n m o
  located_at first n m o e = subst (λ p. Located card first n m p) (sym e) (located first n m)
