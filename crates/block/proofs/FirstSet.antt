-- The first byte that is not 0, as the place that std's search finds.
use Rattle.std.proofs.Common.{◌≡◌, ℕ, ◌+◌, ◌-◌, ◌*◌, Bool, true, false, cond, not, eqb, List, [], ◌∷◌, length, get_or, take, drop, Some, None, Ok, Option, refl, sym, ap, ◌∙◌, arith}
use Rattle.std.specs.List.{position, position_from}
use Rattle.std.specs.Option.{option_map}
use Rattle.std.proofs.lemmas.Bool.{eq-eqb}
use Rattle.std.proofs.lemmas.List.{take_all, length-drop}
use Rattle.std.proofs.lemmas.Iterator.Adapters.{position_from-zero}
use Rattle.block.specs.Checks.{is_set, first_set, spare_in, no_spare}

from_place : (k i : ℕ) (xs : List ℕ) → first_set (k + i) xs ≡ option_map (λ j. k + j) (position_from is_set i xs)
from_place k i [] = refl
from_place k i (x ∷ xs) = by_test (eqb x 0) (from_place k (i + 1) xs) where
  by_test : (t : Bool) → first_set (k + (i + 1)) xs ≡ option_map (λ j. k + j) (position_from is_set (i + 1) xs)
      → cond t (first_set (k + i + 1) xs) (Some (k + i)) ≡ option_map (λ j. k + j) (cond (not t) (Some i) (position_from is_set (i + 1) xs))
  by_test true rest = let e : k + i + 1 ≡ k + (i + 1) = omega arith in ap (λ n. first_set n xs) e ∙ rest
  by_test false rest = refl

-- where the list's first byte is byte k, the first that is set is that many bytes past k
pub first_set_is : (k : ℕ) (xs : List ℕ) (o : Option ℕ) → o ≡ position is_set xs → option_map (λ j. k + j) o ≡ first_set k xs
first_set_is k xs o e =
    let start : k + 0 ≡ k = omega arith in
    ap (option_map (λ j. k + j)) (e ∙ position_from-zero is_set xs) ∙ (sym (from_place k 0 xs) ∙ ap (λ n. first_set n xs) start)

-- what a slice has from a byte on
pub rest_of : (block xs rest : List ℕ) (from : ℕ) → xs ≡ take 510 block → rest ≡ take (length xs - from) (drop from xs) → rest ≡ drop from (take 510 block)
rest_of block xs rest from e r = r ∙ (take_all (length xs - from) (drop from xs) (omega (arith, length-drop from xs)) ∙ ap (drop from) e)

-- a spare byte that is found past the numbers, where byte 1 is 0
pub spare_found : (block rest : List ℕ) (used : ℕ) (o : Option ℕ) → get_or block 1 0 ≡ 0 → rest ≡ drop (4 + used * 4) (take 510 block) → o ≡ position is_set rest
    → option_map (λ j. 4 + used * 4 + j) o ≡ spare_in block used
spare_found block rest used o zero r e =
    let first : eqb (get_or block 1 0) 0 ≡ true = eq-eqb (get_or block 1 0) 0 zero in
    first_set_is (4 + used * 4) rest o e
    ∙ (ap (first_set (4 + used * 4)) r
    ∙ sym (ap (λ t. cond t (first_set (4 + used * 4) (drop (4 + used * 4) (take 510 block))) (Some 1)) first))

-- a check of spare bytes passes only where none is set
pub spare_ok : (number : ℕ) (o : Option ℕ) → no_spare number o ≡ Ok tt → o ≡ None
spare_ok number None e = refl
spare_ok number (Some k) e = let z : ◌≡◌ {A = ℕ} 0 1 = cc in absurd (omega arith)
