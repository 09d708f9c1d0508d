-- A card that passes is the card that is made of its own sizes and numbers.
use Rattle.std.proofs.Common.{◌≡◌, ℕ, zero, suc, ◌+◌, ◌-◌, ◌*◌, ◌%◌, ◌<◌, ◌≤◌, min, true, ◌&&◌, eqb, leb, List, [], ◌∷◌, ◌++◌, length, get_or, take, drop, ℤ, pos, negsuc, nat_abs, Ok, sym, refl, ap, ◌∙◌, ⊎_elim, arith}
use lib.Signed.{le_z}
use Rattle.std.proofs.lemmas.List.{take-append-drop, drop-drop, take_at, drop_at, take_all, drop_all, length-take, length-drop, get_or-take, get_or-drop, append-nil, take-take, get_or_past, drop-take}
use Rattle.std.proofs.lemmas.Bool.{cases_lt, eqb-true, leb-true, and_parts}
use Rattle.block.specs.declared.fault.Fault.{Fault}
use Rattle.block.specs.Bytes.{num}
use Rattle.block.specs.Blocks.{block_at, block_of, numbers_of}
use Rattle.block.specs.Checks.{Verdict, and_then, block_check, sum_check, name_check, spare_check}
use Rattle.block.proofs.RoundTrip.{then_ok, cond_ok, passed, block_back, length_numbers}
use Rattle.block.specs.declared.kind.Kind.{Kind}
use Rattle.block.specs.declared.kind.Kind.TheVariants.{Curvature, Rows, Costs, Bounds, Limits, Slip}
use Rattle.block.specs.Kinds.{letter_of}
use Rattle.section.specs.Layout.{InRange, blocks_for, count_of, first_of, blocks_in}
use Rattle.card.specs.Faults.{n_of, m_of, in_size, size_check, head_check, length_check, full_check, run_check, section_check, sections_check, card_check}
use Rattle.card.specs.Cards.{laid, section_of, head_of, card_of}
use Rattle.section.specs.Numbers.{numbers_from, numbers_in}
use Rattle.section.proofs.Spots.{num_of}

-- a list from p on: q elements, and the list from p + q on
split_at : (xs : List ℕ) (p q r : ℕ) → p + q ≡ r → drop p xs ≡ take q (drop p xs) ++ drop r xs
split_at xs p q r e = sym (take-append-drop q (drop p xs)) ∙ ap (λ t. take q (drop p xs) ++ t) (drop-drop q p xs ∙ ap (λ n. drop n xs) e)

take_two : (xs : List ℕ) (m n : ℕ) → take (m + n) xs ≡ take m xs ++ take n (drop m xs)
take_two xs m n =
    sym (take-append-drop m (take (m + n) xs)) ∙ (ap (λ t. t ++ drop m (take (m + n) xs)) (take-take m (m + n) xs (omega arith)) ∙ ap (λ t. take m xs ++ t) (drop-take m n xs))

-- a size that is not negative is the number that the head has
pub size_is : (low : ℕ) (z : ℤ) → le_z (pos low) z ≡ true → pos (nat_abs z) ≡ z
size_is low (pos n) h = refl
size_is low (negsuc n) h = let z : ◌≡◌ {A = ℕ} 0 1 = cc in absurd (omega arith)

-- a head that passes, and the sizes that it gives
pub record Sized (card : List ℕ) : Type 0 where
  pub pass : block_check (block_at card 0) 72 0 2 ≡ Ok tt
  pub ropes : pos (n_of card) ≡ num card 4
  pub rows : pos (m_of card) ≡ num card 8
  pub range : InRange (n_of card) (m_of card)

-- a card that passes
pub record Sound (card : List ℕ) : Type 0 where
  pub enough : 512 ≤ length card
  pub head : head_check card ≡ Ok tt
  pub sizes : Sized card
  pub full : length card ≡ blocks_in (n_of card) (m_of card) * 512
  pub sections : sections_check card (n_of card) (m_of card) ≡ Ok tt

module _ (card : List ℕ) where
  -- what a head that passes says of the sizes
  sized : head_check card ≡ Ok tt → Sized card
  sized ok =
      let h : List ℕ = block_at card 0 in
      let s = then_ok (sum_check h 0) (and_then (name_check h 72 0) (and_then (size_check card) (spare_check h 0 2))) ok in
      let n = then_ok (name_check h 72 0) (and_then (size_check card) (spare_check h 0 2)) s.1 in
      let z = then_ok (size_check card) (spare_check h 0 2) n.1 in
      let t = cond_ok (in_size (num card 4) (num card 8)) (Ok tt) (Fault.Sizes 0) z.0 in
      let p = and_parts (le_z (pos 1) (num card 4) && le_z (num card 4) (pos 16)) (le_z (pos 0) (num card 8) && le_z (num card 8) (pos 32)) t.0 in
      let q = and_parts (le_z (pos 1) (num card 4)) (le_z (num card 4) (pos 16)) p.0 in
      let r = and_parts (le_z (pos 0) (num card 8)) (le_z (num card 8) (pos 32)) p.1 in
      let a = s.0 in
      let b = n.0 in
      let c = z.1 in
      let ropes : pos (n_of card) ≡ num card 4 = size_is 1 (num card 4) q.0 in
      let rows : pos (m_of card) ≡ num card 8 = size_is 0 (num card 8) r.0 in
      record {
        pass = rw (a, b, c);
        ropes = ropes;
        rows = rows;
        range = record {
          some = leb-true 1 (n_of card) (ap (le_z (pos 1)) ropes ∙ q.0);
          few = leb-true (n_of card) 16 (ap (λ z. le_z z (pos 16)) ropes ∙ q.1);
          short = leb-true (m_of card) 32 (ap (λ z. le_z z (pos 32)) rows ∙ r.1);
        };
      }

  -- what a card that passes says of its length and its parts
  pub sound : card_check card ≡ Ok tt → Sound card
  sound ok =
      let n : ℕ = n_of card in
      let m : ℕ = m_of card in
      let a = then_ok (length_check (length card)) (and_then (head_check card) (and_then (full_check (length card) n m) (sections_check card n m))) ok in
      let b = then_ok (head_check card) (and_then (full_check (length card) n m) (sections_check card n m)) a.1 in
      let c = then_ok (full_check (length card) n m) (sections_check card n m) b.1 in
      let l = cond_ok (leb 512 (length card) && (leb (length card) 7680 && eqb (length card % 512) 0)) (Ok tt) (Fault.Length (length card)) a.0 in
      let lp = and_parts (leb 512 (length card)) (leb (length card) 7680 && eqb (length card % 512) 0) l.0 in
      let f = cond_ok (eqb (length card) (blocks_in n m * 512)) (Ok tt) (Fault.Length (length card)) c.0 in
      record {
        enough = leb-true 512 (length card) lp.0;
        head = b.0;
        sizes = sized b.0;
        full = eqb-true (length card) (blocks_in n m * 512) f.0;
        sections = c.1;
      }

module _ (card : List ℕ) (small : (k : ℕ) → get_or card k 0 < 256) where
  small_at : (p k : ℕ) → get_or (take 512 (drop p card)) k 0 < 256
  small_at p k =
      ⊎_elim
      (λ less. rw (get_or-take 512 (drop p card) k 0 less, get_or-drop p card k 0) (small (p + k)))
      (λ (more : 512 ≤ k). let past : length (take 512 (drop p card)) ≤ k = simp length-take (omega arith) in rw (get_or_past (take 512 (drop p card)) k 0 past) (omega arith))
      (cases_lt k 512)

  -- the numbers of the first block are the first 126, or all of them in the last block
  cut_run : (k left b : ℕ) → suc b ≡ blocks_for left
      → (take 126 (numbers_of (block_at card k) (min left 126) ++ numbers_from card (k + 1) (left - 126) b) ≡ numbers_of (block_at card k) (min left 126))
      × (drop 126 (numbers_of (block_at card k) (min left 126) ++ numbers_from card (k + 1) (left - 126) b) ≡ numbers_from card (k + 1) (left - 126) b)
  cut_run k left b e =
      let X : List ℤ = numbers_of (block_at card k) (min left 126) in
      let Y : List ℤ = numbers_from card (k + 1) (left - 126) b in
      let count : length X ≡ min left 126 = length_numbers (block_at card k) (min left 126) in
      ⊎_elim
      (λ less.
      let b0 : b ≡ 0 = omega arith in
      let none : Y ≡ [] = ap (numbers_from card (k + 1) (left - 126)) b0 in
      let alone : X ++ Y ≡ X = ap (λ y. X ++ y) none ∙ append-nil X in
      let short : length X ≤ 126 = omega arith in
      (ap (take 126) alone ∙ take_all 126 X short, ap (drop 126) alone ∙ (drop_all 126 X short ∙ sym none)))
      (λ more. let full : length X ≡ 126 = omega arith in (take_at X Y 126 full, drop_at X Y 126 full))
      (cases_lt left 126)

  pub run_laid : (letter k left b : ℕ) → b ≡ blocks_for left → (k + b) * 512 ≤ length card → run_check card letter k left b ≡ Ok tt
      → take (b * 512) (drop (k * 512) card) ≡ laid letter k (numbers_from card k left b) b
  run_laid letter k left zero e long ok = refl
  run_laid letter k left (suc b) e long ok =
      let parts = then_ok (block_check (block_at card k) letter k (min left 126)) (run_check card letter (k + 1) (left - 126) b) ok in
      let whole : length (block_at card k) ≡ 512 = simp (length-take, length-drop) (omega arith) in
      let here : block_at card k ≡ block_of letter k (numbers_of (block_at card k) (min left 126))
      = block_back (block_at card k) (small_at (k * 512)) whole letter k (min left 126) (omega arith) (passed (block_at card k) letter k (min left 126) parts.0) in
      let rest : take (b * 512) (drop ((k + 1) * 512) card) ≡ laid letter (k + 1) (numbers_from card (k + 1) (left - 126) b) b
      = run_laid letter (k + 1) (left - 126) b (omega arith) (omega arith) parts.1 in
      let X : List ℤ = numbers_of (block_at card k) (min left 126) in
      let Y : List ℤ = numbers_from card (k + 1) (left - 126) b in
      let both : (take 126 (X ++ Y) ≡ X) × (drop 126 (X ++ Y) ≡ Y) = cut_run k left b e in
      let next : k * 512 + 512 ≡ (k + 1) * 512 = omega arith in
      let more : suc b * 512 ≡ 512 + b * 512 = omega arith in
      ap (λ n. take n (drop (k * 512) card)) more
      ∙ (take_two (drop (k * 512) card) 512 (b * 512)
      ∙ (ap (λ t. block_at card k ++ take (b * 512) t) (drop-drop 512 (k * 512) card ∙ ap (λ n. drop n card) next)
      ∙ (ap (λ t. t ++ take (b * 512) (drop ((k + 1) * 512) card)) (here ∙ ap (block_of letter k) (sym both.0))
      ∙ ap (λ t. block_of letter k (take 126 (X ++ Y)) ++ t) (rest ∙ ap (λ y. laid letter (k + 1) y b) (sym both.1)))))

  -- one section
  pub section_laid : (n m : ℕ) (kind : Kind) → (first_of kind n m + blocks_for (count_of kind n m)) * 512 ≤ length card → section_check card kind n m ≡ Ok tt
      → take (blocks_for (count_of kind n m) * 512) (drop (first_of kind n m * 512) card) ≡ section_of n m (numbers_in card n m) kind
  unfolding section_check section_of numbers_in
  section_laid n m kind long ok = run_laid (letter_of kind) (first_of kind n m) (count_of kind n m) (blocks_for (count_of kind n m)) refl long ok

  -- what follows a section
  after : (n m : ℕ) (kind : Kind) (r : ℕ) (rest : List ℕ) → (first_of kind n m + blocks_for (count_of kind n m)) * 512 ≤ length card → section_check card kind n m ≡ Ok tt
      → (first_of kind n m + blocks_for (count_of kind n m)) * 512 ≡ r → drop r card ≡ rest → drop (first_of kind n m * 512) card ≡ section_of n m (numbers_in card n m) kind ++ rest
  after n m kind r rest long ok e same =
      split_at card (first_of kind n m * 512) (blocks_for (count_of kind n m) * 512) r (omega arith)
      ∙ (ap (λ t. t ++ drop r card) (section_laid n m kind long ok) ∙ ap (λ t. section_of n m (numbers_in card n m) kind ++ t) same)

  pub sections_laid : (n m : ℕ) → length card ≡ blocks_in n m * 512 → sections_check card n m ≡ Ok tt
      → drop 512 card ≡ section_of n m (numbers_in card n m) Curvature ++ (section_of n m (numbers_in card n m) Rows ++ (section_of n m (numbers_in card n m) Costs
      ++ (section_of n m (numbers_in card n m) Bounds ++ (section_of n m (numbers_in card n m) Limits ++ section_of n m (numbers_in card n m) Slip))))
  sections_laid n m long ok =
      let c : Kind → Verdict = λ kind. section_check card kind n m in
      let g = then_ok (c Curvature) (and_then (c Rows) (and_then (c Costs) (and_then (c Bounds) (and_then (c Limits) (c Slip))))) ok in
      let a = then_ok (c Rows) (and_then (c Costs) (and_then (c Bounds) (and_then (c Limits) (c Slip)))) g.1 in
      let o = then_ok (c Costs) (and_then (c Bounds) (and_then (c Limits) (c Slip))) a.1 in
      let b = then_ok (c Bounds) (and_then (c Limits) (c Slip)) o.1 in
      let r = then_ok (c Limits) (c Slip) b.1 in
      let none : drop (blocks_in n m * 512) card ≡ [] = drop_all (blocks_in n m * 512) card (omega arith) in
      let fl : drop (first_of Slip n m * 512) card ≡ section_of n m (numbers_in card n m) Slip
      = after n m Slip (blocks_in n m * 512) [] (omega arith) r.1 refl none ∙ append-nil (section_of n m (numbers_in card n m) Slip) in
      after n m Curvature (first_of Rows n m * 512) _ (omega arith) g.0 refl
      (after n m Rows (first_of Costs n m * 512) _ (omega arith) a.0 refl
      (after n m Costs (first_of Bounds n m * 512) _ (omega arith) o.0 refl
      (after n m Bounds (first_of Limits n m * 512) _ (omega arith) b.0 refl
      (after n m Limits (first_of Slip n m * 512) _ (omega arith) r.0 refl fl))))

  head_laid : 512 ≤ length card → head_check card ≡ Ok tt → block_at card 0 ≡ head_of (n_of card) (m_of card)
  unfolding numbers_of
  head_laid long ok =
      let h : List ℕ = block_at card 0 in
      let s = sized card ok in
      let whole : length h ≡ 512 = simp length-take (omega arith) in
      let first : num h 4 ≡ pos (n_of card) = num_of card 512 0 4 4 (omega arith) refl ∙ sym s.ropes in
      let second : num h 8 ≡ pos (m_of card) = num_of card 512 0 8 8 (omega arith) refl ∙ sym s.rows in
      block_back h (small_at 0) whole 72 0 2 (omega arith) (passed h 72 0 2 s.pass)
      ∙ (ap (λ x. block_of 72 0 (x ∷ num h 8 ∷ [])) first ∙ ap (λ x. block_of 72 0 (pos (n_of card) ∷ x ∷ [])) second)

  pub card_back : card_check card ≡ Ok tt → card ≡ card_of (n_of card) (m_of card) (numbers_in card (n_of card) (m_of card))
  unfolding card_of
  card_back ok =
      let s = sound card ok in
      sym (take-append-drop 512 card)
      ∙ (ap (λ t. t ++ drop 512 card) (head_laid s.enough s.head)
      ∙ ap (λ t. head_of (n_of card) (m_of card) ++ t) (sections_laid (n_of card) (m_of card) s.full s.sections))
