-- Exactly the cards that are made of sizes in range and of numbers pass.
use Rattle.std.proofs.Common.{◌≡◌, ℕ, ◌+◌, ◌<◌, ◌≤◌, cond, List, length, get_or, ℤ, Ok, Err, unsigned_abs, sym, ap, ◌∙◌, arith}
use Rattle.block.specs.declared.fault.Fault.TheVariants.{Sizes}
use Rattle.block.specs.Blocks.{block_at}
use Rattle.block.specs.Bytes.{num}
use Rattle.block.specs.Checks.{Verdict, and_then, name_check, spare_check, sum_check}
use Rattle.section.proofs.Spots.{num_of}
use Rattle.card.specs.Faults.{n_of, m_of, in_size, length_check, size_check, first_check, head_check, full_check, sections_check, card_check}
use Rattle.card.specs.Laws.{Exact}
use Rattle.card.proofs.Whole.{card_back}
use Rattle.card.proofs.Passing.{card_passes}

pub exact_at : (card : List ℕ) → ((k : ℕ) → get_or card k 0 < 256) → (v : Verdict) → v ≡ card_check card → Exact card v
exact_at card small v value =
    record {
      made = λ e. card_back card small (sym value ∙ e);
      passes = λ n m nums proper e. value ∙ (ap card_check e ∙ card_passes n m proper.sizes nums proper);
    }

-- the first block's numbers are the card's
num_first : (card head : List ℕ) → head ≡ block_at card 0 → (p : ℕ) → p + 4 ≤ 512 → num head p ≡ num card p
num_first card head e p h = ap (λ b. num b p) e ∙ num_of card 512 0 p p h (omega arith)

pub ropes_first : (card head : List ℕ) → head ≡ block_at card 0 → n_of head ≡ n_of card
ropes_first card head e = ap unsigned_abs (num_first card head e 4 (omega arith))

pub rows_first : (card head : List ℕ) → head ≡ block_at card 0 → m_of head ≡ m_of card
rows_first card head e = ap unsigned_abs (num_first card head e 8 (omega arith))

size_first : (card head : List ℕ) → head ≡ block_at card 0 → size_check head ≡ size_check card
size_first card head e =
    ap (λ (z : ℤ). cond (in_size z (num head 8)) (Ok tt) (Err (Sizes 0))) (num_first card head e 4 (omega arith))
    ∙ ap (λ (z : ℤ). cond (in_size (num card 4) z) (Ok tt) (Err (Sizes 0))) (num_first card head e 8 (omega arith))

head_first : (card head : List ℕ) → head ≡ block_at card 0 → first_check head ≡ head_check card
head_first card head e =
    ap (λ (b : List ℕ). and_then (sum_check b 0) (and_then (name_check b 72 0) (and_then (size_check head) (spare_check b 0 2)))) e
    ∙ ap (λ (v : Verdict). and_then (sum_check (block_at card 0) 0) (and_then (name_check (block_at card 0) 72 0) (and_then v (spare_check (block_at card 0) 0 2))))
    (size_first card head e)

-- the check of a card, by its first block
abbrev pub check_by : List ℕ → List ℕ → ℕ → ℕ → Verdict
check_by card head n m = and_then (length_check (length card)) (and_then (first_check head) (and_then (full_check (length card) n m) (sections_check card n m)))

pub checked : (card head : List ℕ) → head ≡ block_at card 0 → (n m : ℕ) → n ≡ n_of head → m ≡ m_of head → (v : Verdict) → v ≡ check_by card head n m → v ≡ card_check card
checked card head e n m en em v value =
    value
    ∙ ap (λ (h : Verdict). and_then (length_check (length card)) (and_then h (and_then (full_check (length card) n m) (sections_check card n m)))) (head_first card head e)
    ∙ ap (λ (k : ℕ). and_then (length_check (length card)) (and_then (head_check card) (and_then (full_check (length card) k m) (sections_check card k m)))) (en ∙ ropes_first card head e)
    ∙ ap (λ (k : ℕ). and_then (length_check (length card)) (and_then (head_check card) (and_then (full_check (length card) (n_of card) k) (sections_check card (n_of card) k)))) (em ∙ rows_first card head e)
