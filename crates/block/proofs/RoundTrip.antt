-- A block that passes is the block of its numbers, and a block that is written passes and is read back.
use Rattle.std.proofs.Common.{◌≡◌, ℕ, suc, ◌+◌, ◌-◌, ◌*◌, ◌/◌, ◌%◌, ◌<◌, ◌≤◌, Bool, true, false, cond, eqb, List, [], ◌∷◌, ◌++◌, map, length, get_or, take, drop, replicate, ℤ, pos, Some, None, Ok, Err, Option, sym, refl, ap, ◌∙◌, arith, w32, SFits}
use Rattle.std.specs.List.{flat_map, range_with_len}
use Rattle.std.proofs.lemmas.List.{append_assoc, length-take, length-drop, take-append-drop, take-take, replicate-append-replicate, take_at, drop_at, drop_all, get_or-append-add, drop_more}
use Rattle.std.proofs.lemmas.List.FromFn.{length-map-range_with_len}
use Rattle.std.proofs.lemmas.Bool.{eqb-true, eq-eqb}
use Rattle.block.specs.declared.fault.Fault.{Fault}
use Rattle.block.specs.Bytes.{le16, num, bytes2, bytes4}
use Rattle.block.specs.Blocks.{weighed, check_of, filled, body_of, block_of, numbers_of}
use Rattle.block.specs.Checks.{Verdict, and_then, first_set, spare_in, sum_check, name_check, spare_check, block_check}
use Rattle.block.specs.Laws.{Exact}
use Rattle.block.proofs.LittleEndian.{two_back}
use Rattle.block.proofs.FirstSet.{spare_ok}
use Rattle.block.proofs.NumbersAsBytes.{drop_four, numbers_bytes, none_set, zeros_none, zero_numbers, joined4_append, read_back}
use Rattle.block.proofs.Laying.{length_body, length_joined4, body_splits}

-- what a block that passes says
pub record Passed (block : List ℕ) (letter number used : ℕ) : Type 0 where
  pub sum_is : le16 block 510 ≡ check_of block
  pub letter_is : get_or block 0 0 ≡ letter
  pub number_is : le16 block 2 ≡ number
  pub second_is : get_or block 1 0 ≡ 0
  pub rest_is : first_set (4 + used * 4) (drop (4 + used * 4) (take 510 block)) ≡ None

pub then_ok : (a b : Verdict) → and_then a b ≡ Ok tt → (a ≡ Ok tt) × (b ≡ Ok tt)
then_ok (Ok tt) b e = (refl, e)
then_ok (Err f) b e = let z : ◌≡◌ {A = ℕ} 0 1 = cc in absurd (omega arith)

pub cond_ok : (t : Bool) (v : Verdict) (f : Fault) → cond t v (Err f) ≡ Ok tt → (t ≡ true) × (v ≡ Ok tt)
cond_ok true v f e = (refl, e)
cond_ok false v f e = let z : ◌≡◌ {A = ℕ} 0 1 = cc in absurd (omega arith)

pub cond_none : (t : Bool) (o : Option ℕ) (k : ℕ) → cond t o (Some k) ≡ None → (t ≡ true) × (o ≡ None)
cond_none true o k e = (refl, e)
cond_none false o k e = let z : ◌≡◌ {A = ℕ} 0 1 = cc in absurd (omega arith)

module _ (block : List ℕ) (letter number used : ℕ) where
  pub passed : block_check block letter number used ≡ Ok tt → Passed block letter number used
  passed e =
      let s = then_ok (sum_check block number) (and_then (name_check block letter number) (spare_check block number used)) e in
      let n = then_ok (name_check block letter number) (spare_check block number used) s.1 in
      let sum = cond_ok (eqb (le16 block 510) (check_of block)) (Ok tt) (Fault.CheckSum number) s.0 in
      let name = cond_ok (eqb (get_or block 0 0) letter) (cond (eqb (le16 block 2) number) (Ok tt) (Err (Fault.Name number))) (Fault.Name number) n.0 in
      let place = cond_ok (eqb (le16 block 2) number) (Ok tt) (Fault.Name number) name.1 in
      let spare = cond_none (eqb (get_or block 1 0) 0) (first_set (4 + used * 4) (drop (4 + used * 4) (take 510 block))) 1 (spare_ok number (spare_in block used) n.1) in
      record {
        sum_is = eqb-true (le16 block 510) (check_of block) sum.0;
        letter_is = eqb-true (get_or block 0 0) letter name.0;
        number_is = eqb-true (le16 block 2) number place.0;
        second_is = eqb-true (get_or block 1 0) 0 spare.0;
        rest_is = spare.1;
      }

  pub passes : Passed block letter number used → block_check block letter number used ≡ Ok tt
  passes p =
      let a = eq-eqb (le16 block 510) (check_of block) p.sum_is in
      let b = eq-eqb (get_or block 0 0) letter p.letter_is in
      let c = eq-eqb (le16 block 2) number p.number_is in
      let d = eq-eqb (get_or block 1 0) 0 p.second_is in
      let f = p.rest_is in
      rw (a, b, c, d, f)

pub length_numbers : (block : List ℕ) (used : ℕ) → length (numbers_of block used) ≡ used
unfolding numbers_of
length_numbers block used = length-map-range_with_len (λ j. num block (4 + j * 4)) 0 used

-- the two bytes of the number that two bytes write
pub two_bytes : (a b : ℕ) → a < 256 → b < 256 → bytes2 (a + b * 256) ≡ a ∷ b ∷ []
two_bytes a b ha hb =
    let p : (a + b * 256) % 256 ≡ a = omega arith in
    let d : (a + b * 256) / 256 ≡ b = omega arith in
    let q : (a + b * 256) / 256 % 256 ≡ b = ap (λ n. n % 256) d ∙ omega arith in
    cc

module _ (block : List ℕ) (small : (k : ℕ) → get_or block k 0 < 256) (long : length block ≡ 512) (letter number used : ℕ) (le : used ≤ 126) (p : Passed block letter number used) where
  front_is : take (4 + used * 4) block ≡ letter ∷ 0 ∷ (bytes2 number ++ flat_map bytes4 (numbers_of block used))
  unfolding numbers_of
  front_is =
      let more : 4 + used * 4 ≡ suc (suc (suc (suc (used * 4)))) = omega arith in
      let nums : flat_map bytes4 (numbers_of block used) ≡ take (used * 4) (drop 4 block) = numbers_bytes block small used 0 (omega arith) in
      let two : bytes2 number ≡ get_or block 2 0 ∷ get_or block 3 0 ∷ [] = ap bytes2 (sym p.number_is) ∙ two_bytes (get_or block 2 0) (get_or block 3 0) (small 2) (small 3) in
      let four : block ≡ get_or block 0 0 ∷ get_or block 1 0 ∷ get_or block 2 0 ∷ get_or block 3 0 ∷ drop 4 block = drop_four block 0 (omega arith) in
      let l = p.letter_is in
      let z = p.second_is in
      ap (λ n. take n block) more
      ∙ (ap (take (suc (suc (suc (suc (used * 4)))))) four
      ∙ (ap (λ x. x ∷ get_or block 1 0 ∷ get_or block 2 0 ∷ get_or block 3 0 ∷ take (used * 4) (drop 4 block)) l
      ∙ (ap (λ x. letter ∷ x ∷ get_or block 2 0 ∷ get_or block 3 0 ∷ take (used * 4) (drop 4 block)) z
      ∙ (ap (λ t. letter ∷ 0 ∷ (t ++ take (used * 4) (drop 4 block))) (sym two) ∙ ap (λ t. letter ∷ 0 ∷ (bytes2 number ++ t)) (sym nums)))))

  back_is : drop (4 + used * 4) (take 510 block) ≡ replicate (506 - used * 4) 0
  back_is =
      let n : length (drop (4 + used * 4) (take 510 block)) ≡ 506 - used * 4 = simp (length-drop, length-take) (omega arith) in
      none_set (4 + used * 4) (drop (4 + used * 4) (take 510 block)) p.rest_is ∙ ap (λ m. replicate m 0) n

  pub body_is : take 510 block ≡ body_of letter number (numbers_of block used)
  unfolding body_of
  body_is =
      let nums : List ℤ = numbers_of block used in
      let count : length nums ≡ used = length_numbers block used in
      let X : List ℕ = flat_map bytes4 nums in
      let spare : flat_map bytes4 (filled nums) ≡ X ++ replicate ((126 - length nums) * 4) 0 = joined4_append nums (replicate (126 - length nums) (pos 0)) ∙ ap (λ r. X ++ r) (zero_numbers (126 - length nums)) in
      let zeros : replicate ((126 - length nums) * 4) 0 ++ (0 ∷ 0 ∷ []) ≡ replicate (506 - used * 4) 0 = replicate-append-replicate ((126 - length nums) * 4) 2 0 ∙ ap (λ m. replicate m 0) (omega (arith, count)) in
      let tail : flat_map bytes4 (filled nums) ++ (0 ∷ 0 ∷ []) ≡ X ++ replicate (506 - used * 4) 0
      = ap (λ r. r ++ (0 ∷ 0 ∷ [])) spare ∙ (append_assoc X (replicate ((126 - length nums) * 4) 0) (0 ∷ 0 ∷ []) ∙ ap (λ r. X ++ r) zeros) in
      sym (take-append-drop (4 + used * 4) (take 510 block))
      ∙ (ap (λ f. f ++ drop (4 + used * 4) (take 510 block)) (take-take (4 + used * 4) 510 block (omega arith) ∙ front_is)
      ∙ (ap (λ b. (letter ∷ 0 ∷ (bytes2 number ++ X)) ++ b) back_is
      ∙ ap (λ t. letter ∷ 0 ∷ (bytes2 number ++ t)) (sym tail)))

  pub block_back : block ≡ block_of letter number (numbers_of block used)
  unfolding block_of
  block_back =
      let body : List ℕ = body_of letter number (numbers_of block used) in
      let e : drop 510 block ≡ get_or block 510 0 ∷ get_or block 511 0 ∷ [] = drop_more block 510 0 (omega arith) ∙ ap (λ r. get_or block 510 0 ∷ r) (drop_more block 511 0 (omega arith) ∙ ap (λ r. get_or block 511 0 ∷ r) (drop_all 512 block (omega arith))) in
      let s : le16 block 510 ≡ weighed 0 body % 65521 = p.sum_is ∙ ap (λ b. weighed 0 b % 65521) body_is in
      sym (take-append-drop 510 block)
      ∙ (ap (λ r. take 510 block ++ r) (e ∙ (sym (two_bytes (get_or block 510 0) (get_or block 511 0) (small 510) (small 511)) ∙ ap bytes2 s))
      ∙ ap (λ f. f ++ bytes2 (weighed 0 body % 65521)) body_is)

-- what is written: each part of the block, and that it passes
module _ (letter number : ℕ) (nums : List ℤ) (hn : number < 65536) (le : length nums ≤ 126) where
  sum_at : ℕ
  sum_at = weighed 0 (body_of letter number nums) % 65521

  pub take_block : take 510 (block_of letter number nums) ≡ body_of letter number nums
  unfolding block_of
  take_block = take_at (body_of letter number nums) (bytes2 (weighed 0 (body_of letter number nums) % 65521)) 510 (length_body letter number nums le)

  pub block_passed : Passed (block_of letter number nums) letter number (length nums)
  unfolding block_of body_of
  block_passed =
      let body : List ℕ = body_of letter number nums in
      let s : ℕ = weighed 0 body % 65521 in
      let long : length body ≡ 510 = length_body letter number nums le in
      let g0 : get_or (body ++ bytes2 s) 510 0 ≡ s % 256 = ap (λ n. get_or (body ++ bytes2 s) (n + 0) 0) (sym long) ∙ get_or-append-add body (bytes2 s) 0 0 in
      let g1 : get_or (body ++ bytes2 s) 511 0 ≡ s / 256 % 256 = ap (λ n. get_or (body ++ bytes2 s) (n + 1) 0) (sym long) ∙ get_or-append-add body (bytes2 s) 1 0 in
      let sum : get_or (body ++ bytes2 s) 510 0 + get_or (body ++ bytes2 s) 511 0 * 256 ≡ s = ap (λ n. n + get_or (body ++ bytes2 s) 511 0 * 256) g0 ∙ (ap (λ n. s % 256 + n * 256) g1 ∙ two_back s (omega arith)) in
      let F : List ℕ = letter ∷ 0 ∷ (bytes2 number ++ flat_map bytes4 nums) in
      let count : length F ≡ 4 + length nums * 4 = omega (arith, length_joined4 nums) in
      record {
        sum_is = sum ∙ sym (ap (λ b. weighed 0 b % 65521) take_block);
        letter_is = refl;
        number_is = two_back number hn;
        second_is = refl;
        rest_is = ap (λ b. first_set (4 + length nums * 4) (drop (4 + length nums * 4) b)) (take_block ∙ body_splits letter number nums le)
            ∙ (ap (first_set (4 + length nums * 4)) (drop_at F (replicate (506 - length nums * 4) 0) (4 + length nums * 4) count) ∙ zeros_none (4 + length nums * 4) (506 - length nums * 4));
      }

  pub block_read : ((k : ℕ) → k < length nums → SFits w32 (get_or nums k (pos 0))) → numbers_of (block_of letter number nums) (length nums) ≡ nums
  unfolding numbers_of block_of body_of
  block_read fits =
      let body : List ℕ = body_of letter number nums in
      let S : List ℕ = bytes2 (weighed 0 body % 65521) in
      let Z : List ℕ = flat_map bytes4 (replicate (126 - length nums) (pos 0)) in
      let H : List ℕ = letter ∷ 0 ∷ bytes2 number in
      let e : flat_map bytes4 (filled nums) ++ (0 ∷ 0 ∷ []) ++ S ≡ flat_map bytes4 nums ++ (Z ++ (0 ∷ 0 ∷ []) ++ S)
      = ap (λ r. r ++ (0 ∷ 0 ∷ []) ++ S) (joined4_append nums (replicate (126 - length nums) (pos 0))) ∙ simp append_assoc in
      ap (λ b. map (λ i. num b (4 + i * 4)) (range_with_len 0 (length nums))) (ap (λ t. H ++ t) e)
      ∙ read_back nums fits H (Z ++ (0 ∷ 0 ∷ []) ++ S) 0 refl

module _ (block : List ℕ) (long : length block ≡ 512) (letter number used : ℕ) (hn : number < 65536) where
  made_passes : used ≤ 126 → block ≡ block_of letter number (numbers_of block used) → block_check block letter number used ≡ Ok tt
  made_passes le e =
      let nums : List ℤ = numbers_of block used in
      let count : length nums ≡ used = length_numbers block used in
      let short : length nums ≤ 126 = omega arith in
      ap (λ b. block_check b letter number used) e
      ∙ (ap (block_check (block_of letter number nums) letter number) (sym count)
      ∙ passes (block_of letter number nums) letter number (length nums) (block_passed letter number nums hn short))

  -- exactly the block that is made of its own numbers passes
  pub exact_at : ((k : ℕ) → get_or block k 0 < 256) → (v : Verdict) → v ≡ block_check block letter number used → Exact block letter number used v
  exact_at small v e =
      record {
        made = λ le p. block_back block small long letter number used le (passed block letter number used (sym e ∙ p));
        passes = λ le b. e ∙ made_passes le b;
      }

  -- and a block with a fault is made of no numbers
  pub inexact_at : (v : Verdict) (f : Fault) → v ≡ Err f → v ≡ block_check block letter number used → Exact block letter number used v
  inexact_at v f r e = record { made = λ le p. cc; passes = λ le b. e ∙ made_passes le b }
