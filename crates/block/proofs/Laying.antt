-- The numbers of a block as bytes: lengths, places, and one number more.
use Rattle.std.proofs.Common.{◌≡◌, ℕ, suc, ◌+◌, ◌-◌, ◌*◌, ◌%◌, ◌<◌, ◌≤◌, min, List, [], ◌∷◌, ◌++◌, length, get_or, take, drop, replicate, ℤ, pos, sym, refl, ap, ◌∙◌, ⊎_elim, arith}
use lib.Seq.{paste}
use Rattle.std.specs.List.{flat_map}
use Rattle.std.proofs.lemmas.List.{take_more, length-take, length-take-le, length-append, length-replicate, flat_map_more, take_all, take_at, drop_at, drop-drop, drop-replicate, append-nil, append_assoc, replicate-append-replicate}
use Rattle.std.proofs.lemmas.List.Edits.{paste-paste}
use Rattle.std.proofs.lemmas.Bool.{cases_lt}
use Rattle.block.specs.Blocks.{weighed, check_of, filled, body_of, block_of}
use Rattle.block.specs.Bytes.{bytes2, bytes4}
use Rattle.block.proofs.NumbersAsBytes.{zero_numbers, joined4_append}

pub length_filled : (nums : List ℤ) → length nums ≤ 126 → length (filled nums) ≡ 126
length_filled nums h = simp (length-append, length-replicate) (omega arith)

pub length_joined4 : (zs : List ℤ) → length (flat_map bytes4 zs) ≡ length zs * 4
length_joined4 [] = refl
length_joined4 (z ∷ zs) = omega (arith, length_joined4 zs)

pub joined4_more : (zs : List ℤ) (j : ℕ) → j < length zs → flat_map bytes4 (take (j + 1) zs) ≡ flat_map bytes4 (take j zs) ++ bytes4 (get_or zs j (pos 0))
joined4_more zs j h = ap (flat_map bytes4) (take_more zs j (pos 0) h) ∙ sym (flat_map_more bytes4 [] (take j zs) (get_or zs j (pos 0)))

-- one turn of the loop that writes the numbers
pub numbers_more : (d : List ℕ) (nums : List ℤ) (j : ℕ) → length d ≡ 512 → length nums ≤ 126 → j < length nums
    → paste (paste d 4 (flat_map bytes4 (take j nums)) (j * 4)) (4 + j * 4) (bytes4 (get_or nums j (pos 0))) 4 ≡ paste d 4 (flat_map bytes4 (take (j + 1) nums)) ((j + 1) * 4)
numbers_more d nums j ld le h =
    let lt : length (take j nums) ≡ j = length-take-le j nums (omega arith) in
    let ls : j * 4 ≡ length (flat_map bytes4 (take j nums)) = omega (arith, length_joined4 (take j nums)) in
    paste-paste d 4 (flat_map bytes4 (take j nums)) (bytes4 (get_or nums j (pos 0))) (j * 4) 4 ls refl (omega arith)
    ∙ (ap (λ s. paste d 4 s (j * 4 + 4)) (sym (joined4_more nums j h))
    ∙ ap (λ n. paste d 4 (flat_map bytes4 (take (j + 1) nums)) n) (omega arith))

pub length_body : (letter number : ℕ) (nums : List ℤ) → length nums ≤ 126 → length (body_of letter number nums) ≡ 510
unfolding body_of
length_body letter number nums le =
    omega (arith, length-append (flat_map bytes4 (filled nums)) (0 ∷ 0 ∷ []), length_joined4 (filled nums), length_filled nums le)

-- a part written behind a front that zeros follow
zeros_pasted : (front part : List ℕ) (k n m : ℕ) → length front ≡ k → length part ≡ n → n ≤ m → paste (front ++ replicate m 0) k part n ≡ (front ++ part) ++ replicate (m - n) 0
zeros_pasted front part k n m lf lp h =
    let whole : List ℕ = front ++ replicate m 0 in
    let rest : drop (k + n) whole ≡ replicate (m - n) 0
    = sym (drop-drop n k whole) ∙ (ap (drop n) (drop_at front (replicate m 0) k lf) ∙ drop-replicate n m 0) in
    ap (λ f. (f ++ take n part) ++ drop (k + n) whole) (take_at front (replicate m 0) k lf)
    ∙ (ap (λ p. (front ++ p) ++ drop (k + n) whole) (take_all n part (omega arith)) ∙ ap (λ r. (front ++ part) ++ r) rest)

zero_next : (letter m : ℕ) → (letter ∷ []) ++ replicate (suc m) 0 ≡ (letter ∷ 0 ∷ []) ++ replicate m 0
zero_next letter m = refl

module _ (letter number : ℕ) (nums : List ℤ) (le : length nums ≤ 126) where
  -- the body has its letter, a 0, the number, the numbers, and zeros up to its end
  pub body_splits : body_of letter number nums ≡ (letter ∷ 0 ∷ (bytes2 number ++ flat_map bytes4 nums)) ++ replicate (506 - length nums * 4) 0
  unfolding body_of
  body_splits =
      let X : List ℕ = flat_map bytes4 nums in
      let spare : flat_map bytes4 (filled nums) ≡ X ++ replicate ((126 - length nums) * 4) 0 = joined4_append nums (replicate (126 - length nums) (pos 0)) ∙ ap (λ r. X ++ r) (zero_numbers (126 - length nums)) in
      let same : (126 - length nums) * 4 + 2 ≡ 506 - length nums * 4 = omega arith in
      let zeros : replicate ((126 - length nums) * 4) 0 ++ (0 ∷ 0 ∷ []) ≡ replicate (506 - length nums * 4) 0 = replicate-append-replicate ((126 - length nums) * 4) 2 0 ∙ ap (λ m. replicate m 0) same in
      ap (λ t. letter ∷ 0 ∷ (bytes2 number ++ t))
      (ap (λ r. r ++ (0 ∷ 0 ∷ [])) spare ∙ (append_assoc X (replicate ((126 - length nums) * 4) 0) (0 ∷ 0 ∷ []) ∙ ap (λ r. X ++ r) zeros))

  -- the writes as the code makes them, into zeros: o₁ .. o₄ are what the block holds after each
  pub all_written : {o₁ o₂ o₃ o₄ two sums : List ℕ} {s : ℕ} {part : List ℤ} → part ≡ nums → o₁ ≡ paste (replicate 512 0) 0 (letter ∷ []) 1 → two ≡ bytes2 number → o₂ ≡ paste o₁ 2 two (length two)
      → o₃ ≡ paste o₂ 4 (flat_map bytes4 part) (length part * 4) → s ≡ check_of o₃ → sums ≡ bytes2 s → o₄ ≡ paste o₃ 510 sums (length sums)
      → o₄ ≡ block_of letter number nums
  unfolding block_of
  all_written {o₁} {o₂} {o₃} {o₄} {two} {sums} {s} {part} p e₁ t e₂ e₃ es u e₄ =
      let body : List ℕ = body_of letter number nums in
      let X : List ℕ = flat_map bytes4 nums in
      let F : List ℕ = letter ∷ 0 ∷ bytes2 number in
      let long : length body ≡ 510 = length_body letter number nums le in
      let f₁ : o₁ ≡ (letter ∷ 0 ∷ []) ++ replicate 510 0 = e₁ ∙ (zeros_pasted [] (letter ∷ []) 0 1 512 refl refl (omega arith) ∙ zero_next letter 510) in
      let f₂ : o₂ ≡ F ++ replicate 508 0
      = e₂ ∙ (ap (λ b. paste o₁ 2 b (length b)) t ∙ (ap (λ o. paste o 2 (bytes2 number) 2) f₁ ∙ zeros_pasted (letter ∷ 0 ∷ []) (bytes2 number) 2 2 510 refl refl (omega arith))) in
      let f₃ : o₃ ≡ (F ++ X) ++ replicate (508 - length nums * 4) 0
      = e₃ ∙ (ap (λ z. paste o₂ 4 (flat_map bytes4 z) (length z * 4)) p ∙ (ap (λ o. paste o 4 X (length nums * 4)) f₂ ∙ zeros_pasted F X 4 (length nums * 4) 508 refl (length_joined4 nums) (omega arith))) in
      let same : 508 - length nums * 4 ≡ 506 - length nums * 4 + 2 = omega arith in
      let zeros : (F ++ X) ++ replicate (508 - length nums * 4) 0 ≡ body ++ replicate 2 0
      = ap (λ m. (F ++ X) ++ replicate m 0) same
      ∙ (ap (λ r. (F ++ X) ++ r) (sym (replicate-append-replicate (506 - length nums * 4) 2 0))
      ∙ (sym (append_assoc (F ++ X) (replicate (506 - length nums * 4) 0) (replicate 2 0)) ∙ ap (λ b. b ++ replicate 2 0) (sym body_splits))) in
      let f : o₃ ≡ body ++ replicate 2 0 = f₃ ∙ zeros in
      let fs : s ≡ weighed 0 body % 65521 = es ∙ (ap check_of f ∙ ap (λ b. weighed 0 b % 65521) (take_at body (replicate 2 0) 510 long)) in
      e₄ ∙ (ap (λ b. paste o₃ 510 b (length b)) u ∙ (ap (λ o. paste o 510 (bytes2 s) 2) f
      ∙ (zeros_pasted body (bytes2 s) 510 2 2 long refl (omega arith) ∙ (append-nil (body ++ bytes2 s) ∙ ap (λ n. body ++ bytes2 n) fs))))

pub length_block : (letter number : ℕ) (nums : List ℤ) → length nums ≤ 126 → length (block_of letter number nums) ≡ 512
unfolding block_of
length_block letter number nums le =
    omega (arith, length-append (body_of letter number nums) (bytes2 (weighed 0 (body_of letter number nums) % 65521)), length_body letter number nums le)

-- a block is given no more numbers than it has places for
pub length_part : (nums : List ℤ) → length (take 126 nums) ≤ 126
length_part nums = simp length-take (omega arith)

-- the first numbers of a list, as the code cuts them
pub first_part : (n : ℕ) (nums : List ℤ) → n ≡ min (length nums) 126 → take n nums ≡ take 126 nums
first_part n nums e =
    ⊎_elim
    (λ (less : length nums < 126). take_all n nums (omega arith) ∙ sym (take_all 126 nums (omega arith)))
    (λ (more : 126 ≤ length nums). let same : n ≡ 126 = omega arith in ap (λ k. take k nums) same)
    (cases_lt (length nums) 126)
