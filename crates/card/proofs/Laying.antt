-- A card as it is written: one block more, one section more.
use Rattle.std.proofs.Common.{◌≡◌, ℕ, zero, suc, ◌+◌, ◌-◌, ◌*◌, ◌<◌, ◌≤◌, min, List, [], ◌∷◌, ◌++◌, length, get_or, take, drop, ℤ, pos, sym, refl, ap, ◌∙◌, subst, ⊎_elim, arith, w32, SFits}
use lib.Seq.{paste}
use Rattle.std.proofs.lemmas.List.{get_or-take, get_or-drop, nil_from_length, take_all, take_at, drop_at, drop_all, append-nil, append_assoc, length-append, length-take, length-drop, drop-drop}
use Rattle.std.proofs.lemmas.List.Edits.{paste-paste, paste_all}
use Rattle.std.proofs.lemmas.Bool.{cases_lt}
use Rattle.block.specs.Blocks.{block_of, Fit}
use Rattle.block.specs.Writes.{put_block}
use Rattle.block.proofs.Laying.{length_block, length_part}
use Rattle.block.specs.declared.kind.Kind.{Kind}
use Rattle.block.specs.declared.kind.Kind.TheVariants.{Curvature, Rows, Costs, Bounds, Limits, Slip}
use Rattle.block.specs.Kinds.{letter_of}
use Rattle.section.specs.Layout.{blocks_for, count_of, first_of, blocks_in}
use Rattle.card.specs.Cards.{laid, section_of, head_of, card_of}

pub length_laid : (letter k : ℕ) (nums : List ℤ) (b : ℕ) → length (laid letter k nums b) ≡ b * 512
length_laid letter k nums zero = refl
length_laid letter k nums (suc b) =
    omega (arith, length-append (block_of letter k (take 126 nums)) (laid letter (k + 1) (drop 126 nums) b), length_block letter k (take 126 nums) (length_part nums), length_laid letter (k + 1) (drop 126 nums) b)

pub laid_push : (letter k : ℕ) (nums : List ℤ) (b : ℕ) → laid letter k nums (suc b) ≡ laid letter k nums b ++ block_of letter (k + b) (take 126 (drop (b * 126) nums))
laid_push letter k nums zero = append-nil (block_of letter k (take 126 nums)) ∙ ap (λ j. block_of letter j (take 126 nums)) (omega arith)
laid_push letter k nums (suc b) =
    let number : k + 1 + b ≡ k + suc b = omega arith in
    let from : 126 + b * 126 ≡ suc b * 126 = omega arith in
    let B : List ℕ = block_of letter k (take 126 nums) in
    let L : List ℕ = laid letter (k + 1) (drop 126 nums) b in
    ap (λ t. B ++ t)
    (laid_push letter (k + 1) (drop 126 nums) b
    ∙ (ap (λ j. L ++ block_of letter j (take 126 (drop (b * 126) (drop 126 nums)))) number
    ∙ ap (λ t. L ++ block_of letter (k + suc b) (take 126 t)) (drop-drop (b * 126) 126 nums ∙ ap (λ n. drop n nums) from)))
    ∙ sym (append_assoc B L (block_of letter (k + suc b) (take 126 (drop (suc b * 126) nums))))

-- a part off the front of a list is its first 126 numbers, and the others are left
pub part_is : (part rest : List ℤ) → length part ≡ min 126 (length (part ++ rest)) → (take 126 part ≡ take 126 (part ++ rest)) × (rest ≡ drop 126 (part ++ rest))
part_is part rest e =
    let all : length (part ++ rest) ≡ length part + length rest = length-append part rest in
    ⊎_elim
    (λ (short : length part < 126).
    let none : rest ≡ [] = nil_from_length rest (omega arith) in (
      sym (ap (λ t. take 126 (part ++ t)) none ∙ ap (take 126) (append-nil part)),
      none ∙ sym (drop_all 126 (part ++ rest) (omega arith)),
    ))
    (λ (whole : 126 ≤ length part).
    let long : length part ≡ 126 = omega arith in (
      take_all 126 part (omega arith) ∙ sym (take_at part rest 126 long),
      sym (drop_at part rest 126 long),
    ))
    (cases_lt (length part) 126)

-- one turn of the loop that writes a run
pub run_more : (d out : List ℕ) (letter k b : ℕ) (nums : List ℤ) → out ≡ paste d (k * 512) (laid letter k nums b) (b * 512) → k * 512 ≤ length d
    → put_block out (k + b) (block_of letter (k + b) (take 126 (drop (b * 126) nums))) ≡ paste d (k * 512) (laid letter k nums (b + 1)) ((b + 1) * 512)
run_more d out letter k b nums inv room =
    let B : List ℕ = block_of letter (k + b) (take 126 (drop (b * 126) nums)) in
    let L : List ℕ = laid letter k nums b in
    let long : 512 ≡ length B = sym (length_block letter (k + b) (take 126 (drop (b * 126) nums)) (length_part (drop (b * 126) nums))) in
    let at : (k + b) * 512 ≡ k * 512 + b * 512 = omega arith in
    let count : b * 512 + 512 ≡ (b + 1) * 512 = omega arith in
    let one : suc b ≡ b + 1 = omega arith in
    ap (λ o. paste o ((k + b) * 512) B 512) inv
    ∙ (ap (λ p. paste (paste d (k * 512) L (b * 512)) p B 512) at
    ∙ (paste-paste d (k * 512) L B (b * 512) 512 (sym (length_laid letter k nums b)) long room
    ∙ (ap (λ t. paste d (k * 512) t (b * 512 + 512)) (sym (laid_push letter k nums b) ∙ ap (laid letter k nums) one)
    ∙ ap (λ n. paste d (k * 512) (laid letter k nums (b + 1)) n) count)))

-- the numbers fit, one part more
pub fits_more : (nums : List ℤ) (b : ℕ) → ((k : ℕ) → k < b * 126 → k < length nums → SFits w32 (get_or nums k (pos 0))) → Fit (take 126 (drop (b * 126) nums))
    → (k : ℕ) → k < (b + 1) * 126 → k < length nums → SFits w32 (get_or nums k (pos 0))
fits_more nums b below here k h l =
    ⊎_elim
    (λ (less : k < b * 126). below k less l)
    (λ (more : b * 126 ≤ k).
    let i : ℕ = k - b * 126 in
    let lt : k - b * 126 < 126 = omega arith in
    let at : b * 126 + (k - b * 126) ≡ k = omega arith in
    let room : k - b * 126 < length (take 126 (drop (b * 126) nums)) = simp (length-take, length-drop) (omega arith) in
    let same : get_or (take 126 (drop (b * 126) nums)) (k - b * 126) (pos 0) ≡ get_or nums k (pos 0)
    = get_or-take 126 (drop (b * 126) nums) (k - b * 126) (pos 0) lt ∙ (get_or-drop (b * 126) nums (k - b * 126) (pos 0) ∙ ap (λ j. get_or nums j (pos 0)) at) in
    subst (λ z. SFits w32 z) same (here (k - b * 126) room))
    (cases_lt k (b * 126))

-- one section more on a card that is written up to there
section_more : (d o o' S : List ℕ) (p q : ℕ) (n m : ℕ) (nums : Kind → List ℤ) (kind : Kind) → p ≤ length d → o ≡ paste d 0 S p → p ≡ length S → first_of kind n m * 512 ≡ p
    → o' ≡ paste o (first_of kind n m * 512) (laid (letter_of kind) (first_of kind n m) (nums kind) (blocks_for (count_of kind n m))) (blocks_for (count_of kind n m) * 512)
    → p + blocks_for (count_of kind n m) * 512 ≡ q → (o' ≡ paste d 0 (S ++ section_of n m nums kind) q) × (q ≡ length (S ++ section_of n m nums kind))
unfolding section_of
section_more d o o' S p q n m nums kind room e l at e' sum =
    let T : List ℕ = laid (letter_of kind) (first_of kind n m) (nums kind) (blocks_for (count_of kind n m)) in
    let t : ℕ = blocks_for (count_of kind n m) * 512 in
    let lt : t ≡ length T = sym (length_laid (letter_of kind) (first_of kind n m) (nums kind) (blocks_for (count_of kind n m))) in
    let start : first_of kind n m * 512 ≡ 0 + p = omega arith in (
      e' ∙ (ap (λ a. paste o a T t) start ∙ (ap (λ x. paste x (0 + p) T t) e ∙ (paste-paste d 0 S T p t l lt (omega arith) ∙ ap (λ a. paste d 0 (S ++ T) a) sum))),
      omega (arith, length-append S T, lt),
    )

module _ (d : List ℕ) (n m : ℕ) (nums : Kind → List ℤ) (long : length d ≡ blocks_in n m * 512) where
  at : Kind → ℕ
  at kind = first_of kind n m * 512

  -- what writing a section does to what is there
  abbrev pub Adds : Kind → List ℕ → List ℕ → Type 0
  Adds kind o o' = o' ≡ paste o (first_of kind n m * 512) (laid (letter_of kind) (first_of kind n m) (nums kind) (blocks_for (count_of kind n m))) (blocks_for (count_of kind n m) * 512)

  pub card_written : (o₀ o₁ o₂ o₃ o₄ o₅ o₆ : List ℕ) → o₀ ≡ paste d 0 (head_of n m) 512
      → Adds Curvature o₀ o₁ → Adds Rows o₁ o₂ → Adds Costs o₂ o₃ → Adds Bounds o₃ o₄ → Adds Limits o₄ o₅ → Adds Slip o₅ o₆ → o₆ ≡ card_of n m nums
  unfolding card_of
  card_written o₀ o₁ o₂ o₃ o₄ o₅ o₆ e₀ e₁ e₂ e₃ e₄ e₅ e₆ =
      let B : List ℕ = head_of n m in
      let s : Kind → List ℕ = section_of n m nums in
      let lb : 512 ≡ length B = sym (length_block 72 0 (pos n ∷ pos m ∷ []) (omega arith)) in
      let g = section_more d o₀ o₁ B 512 (first_of Rows n m * 512) n m nums Curvature (omega arith) e₀ lb refl e₁ (omega arith) in
      let a = section_more d o₁ o₂ (B ++ s Curvature) (first_of Rows n m * 512) (first_of Costs n m * 512) n m nums Rows (omega arith) g.0 g.1 refl e₂ (omega arith) in
      let c = section_more d o₂ o₃ (B ++ s Curvature ++ s Rows) (first_of Costs n m * 512) (first_of Bounds n m * 512) n m nums Costs (omega arith) a.0 a.1 refl e₃ (omega arith) in
      let b = section_more d o₃ o₄ (B ++ s Curvature ++ s Rows ++ s Costs) (first_of Bounds n m * 512) (first_of Limits n m * 512) n m nums Bounds (omega arith) c.0 c.1 refl e₄ (omega arith) in
      let r = section_more d o₄ o₅ (B ++ s Curvature ++ s Rows ++ s Costs ++ s Bounds) (first_of Limits n m * 512) (first_of Slip n m * 512) n m nums Limits (omega arith) b.0 b.1 refl e₅ (omega arith) in
      let l = section_more d o₅ o₆ (B ++ s Curvature ++ s Rows ++ s Costs ++ s Bounds ++ s Limits) (first_of Slip n m * 512) (blocks_in n m * 512) n m nums Slip (omega arith) r.0 r.1 refl e₆ (omega arith) in
      let W : List ℕ = B ++ s Curvature ++ s Rows ++ s Costs ++ s Bounds ++ s Limits ++ s Slip in
      let none : drop (blocks_in n m * 512) d ≡ [] = drop_all (blocks_in n m * 512) d (omega arith) in
      l.0 ∙ (paste_all d 0 W (blocks_in n m * 512) l.1 ∙ (ap (λ t. W ++ t) (ap (λ k. drop k d) (let z : 0 + blocks_in n m * 512 ≡ blocks_in n m * 512 = omega arith in z) ∙ none) ∙ (append-nil W ∙ simp append_assoc)))
