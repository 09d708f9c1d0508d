-- How many numbers a section has, and the lists and the job that are read off a card.
use Rattle.std.proofs.Common.{◌≡◌, ℕ, zero, suc, ◌+◌, ◌-◌, ◌/◌, ◌<◌, min, List, [], ◌∷◌, ◌++◌, length, get_or, take, drop, ℤ, pos, IsSome, Some, Ok, Option, sym, refl, ap, ◌∙◌, subst, arith, w32, w64, SFits, to_z, of_z}
use Rattle.std.proofs.lemmas.Int.{ints, to_z-of_z}
use Rattle.std.proofs.lemmas.List.{length-append, take_more}
use Rattle.block.specs.Blocks.{block_at, numbers_of}
use Rattle.block.specs.Checks.{Verdict}
use Rattle.block.proofs.RoundTrip.{length_numbers}
use Rattle.block.specs.declared.kind.Kind.{Kind}
use Rattle.block.specs.declared.kind.Kind.TheVariants.{Costs, Bounds, Limits, Slip}
use Rattle.section.specs.Layout.{blocks_for, count_of, first_of}
use Rattle.section.specs.Numbers.{numbers_from, numbers_in}
use Rattle.table.specs.Grid.{Grid}
use Rattle.card.specs.Faults.{card_check}
use Rattle.card.specs.Grids.{curvature_grid, rows_grid}
use Rattle.opening.specs.Opening.{Numbers}
use Rattle.sheet.specs.Reading.{Job, job_on, lists_of, lists_in, lists_on, lower, passed_or, read_answer, upper}
use Rattle.sheet.specs.declared.card_job.CardLists.{CardLists}

pub same_lists_of : (x y : Numbers) → x.c ≡ y.c → x.l ≡ y.l → x.u ≡ y.u → x.lo ≡ y.lo → x.hi ≡ y.hi → x.slip ≡ y.slip → x ≡ y
same_lists_of x y c l u lo hi slip = λ i. record { c = c i; l = l i; u = u i; lo = lo i; hi = hi i; slip = slip i }

-- how many numbers a section has, by the sizes that a card is found to have
pub counts : (kind : Kind) (n m ropes rows count : ℕ) → count ≡ count_of kind ropes rows → ropes ≡ n → rows ≡ m → count ≡ count_of kind n m
counts kind n m ropes rows count e en em = e ∙ (ap (λ (k : ℕ). count_of kind k rows) en ∙ ap (count_of kind n) em)

-- a number that is there
pub given_some : (o : Option ℤ) (z : ℤ) → o ≡ Some z → IsSome o
given_some o z e = subst (λ (p : Option ℤ). IsSome p) (sym e) refl

pub given_is : (o : Option ℤ) (y z : ℤ) → o ≡ Some y → o ≡ Some z → y ≡ z
given_is o y z p q = let e : Some y ≡ Some z = sym p ∙ q in cc

-- one number more of a list, in eight bytes
pub widened_more : (nums xs new : List ℤ) (q : ℕ) (z : ℤ) → SFits w32 z → z ≡ get_or nums q (pos 0) → xs ≡ take q nums → q < length nums
    → new ≡ xs ++ to_z w64 (of_z w64 (to_z w32 (of_z w32 z))) ∷ [] → new ≡ take (q + 1) nums
widened_more nums xs new q z four at inv below e =
    let eight : SFits w64 z = omega (arith, ints) in
    let same : to_z w64 (of_z w64 (to_z w32 (of_z w32 z))) ≡ z = ap (λ (y : ℤ). to_z w64 (of_z w64 y)) (to_z-of_z w32 z four) ∙ to_z-of_z w64 z eight in
    e
    ∙ (ap (λ (v : List ℤ). v ++ to_z w64 (of_z w64 (to_z w32 (of_z w32 z))) ∷ []) inv
    ∙ (ap (λ (y : ℤ). take q nums ++ y ∷ []) (same ∙ at) ∙ sym (take_more nums q (pos 0) below)))

module _ (card : List ℕ) where
  length_from : (k left b : ℕ) → b ≡ blocks_for left → length (numbers_from card k left b) ≡ left
  length_from k left zero e = omega arith
  length_from k left (suc b) e =
      let X : List ℤ = numbers_of (block_at card k) (min left 126) in
      let Y : List ℤ = numbers_from card (k + 1) (left - 126) b in
      let here : length X ≡ min left 126 = length_numbers (block_at card k) (min left 126) in
      let rest : length Y ≡ left - 126 = length_from (k + 1) (left - 126) b (omega arith) in
      length-append X Y ∙ omega arith

  pub length_in : (n m : ℕ) (kind : Kind) → length (numbers_in card n m kind) ≡ count_of kind n m
  unfolding numbers_in
  length_in n m kind = length_from (first_of kind n m) (count_of kind n m) (blocks_for (count_of kind n m)) refl

  -- the lists of a card, from its sections
  pub lists_read : (n m : ℕ) (x : CardLists) → x.costs.items ≡ numbers_in card n m Costs → x.bounds.items ≡ numbers_in card n m Bounds
      → x.limits.items ≡ numbers_in card n m Limits → x.slip.items ≡ numbers_in card n m Slip → lists_of x ≡ lists_in card n m
  lists_read n m x c b r s =
      let B : List ℤ = numbers_in card n m Bounds in
      let R : List ℤ = numbers_in card n m Limits in
      let lb = length_in n m Bounds in
      let lr = length_in n m Limits in
      let half-b : length B / 2 ≡ n = omega arith in
      let half-r : length R / 2 ≡ m = omega arith in
      same_lists_of (lists_of x) (lists_in card n m) c
      (ap lower b ∙ ap (λ (k : ℕ). take k B) half-b) (ap upper b ∙ ap (λ (k : ℕ). drop k B) half-b)
      (ap lower r ∙ ap (λ (k : ℕ). take k R) half-r) (ap upper r ∙ ap (λ (k : ℕ). drop k R) half-r) s

  -- the job of a card, from its parts
  pub job_read : (g a : Grid) (x : Numbers) → Ok tt ≡ card_check card → g ≡ curvature_grid card → a ≡ rows_grid card → x ≡ lists_on card → Ok (record { g = g; a = a; x = x }) ≡ read_answer card
  job_read g a x ok eg ea ex =
      let job : ◌≡◌ {A = Job} (record { g = g; a = a; x = x }) (job_on card) = λ i. record { g = eg i; a = ea i; x = ex i } in
      ap Ok job ∙ ap (λ (v : Verdict). passed_or v (Ok (job_on card))) ok
