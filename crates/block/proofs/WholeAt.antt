-- What a card that has block k, or has it not, says of its length.
use Rattle.std.proofs.Common.{◌≡◌, ℕ, ◌+◌, ◌-◌, ◌*◌, ◌<◌, ◌≤◌, Bool, true, false, cond, leb, List, length, get_or, take, drop, Some, None, sym, refl, ap, ◌∙◌, ⊎_elim, arith}
use Rattle.std.proofs.lemmas.List.{get_or-take, get_or-drop, get_or_past, length-take, length-drop, take_all}
use Rattle.std.proofs.lemmas.Bool.{cases_lt, leb-true, le-leb}
use Rattle.block.specs.Blocks.{block_at, whole_at}

module _ (card : List ℕ) (k : ℕ) where
  pub whole_some : (bs : List ℕ) → Some bs ≡ whole_at card k → (k * 512 + 512 ≤ length card) × (bs ≡ block_at card k)
  whole_some bs e = by_test (leb (k * 512 + 512) (length card)) refl e where
    by_test : (t : Bool) → t ≡ leb (k * 512 + 512) (length card) → Some bs ≡ cond t (Some (block_at card k)) None → (k * 512 + 512 ≤ length card) × (bs ≡ block_at card k)
    by_test true p q = (leb-true (k * 512 + 512) (length card) (sym p), (cc))
    by_test false p q = let z : ◌≡◌ {A = ℕ} 0 1 = cc in absurd (omega arith)

  pub whole_none : None ≡ whole_at card k → leb (k * 512 + 512) (length card) ≡ false
  whole_none e = by_test (leb (k * 512 + 512) (length card)) refl e where
    by_test : (t : Bool) → t ≡ leb (k * 512 + 512) (length card) → None ≡ cond t (Some (block_at card k)) None → leb (k * 512 + 512) (length card) ≡ false
    by_test true p q = let z : ◌≡◌ {A = ℕ} 0 1 = cc in absurd (omega arith)
    by_test false p q = sym p

  pub block_byte : (q : ℕ) → q < 512 → get_or (block_at card k) q 0 ≡ get_or card (k * 512 + q) 0
  block_byte q h = get_or-take 512 (drop (k * 512) card) q 0 h ∙ get_or-drop (k * 512) card q 0

  -- the first 512 bytes of what stands from block k on
  pub whole_read : (rest bs : List ℕ) → rest ≡ take (length card - k * 512) (drop (k * 512) card) → 512 ≤ length rest → bs ≡ take 512 rest → Some bs ≡ whole_at card k
  whole_read rest bs r long b =
      let all : rest ≡ drop (k * 512) card = r ∙ take_all (length card - k * 512) (drop (k * 512) card) (omega (arith, length-drop (k * 512) card)) in
      let room : leb (k * 512 + 512) (length card) ≡ true = le-leb (k * 512 + 512) (length card) (omega (arith, length-drop (k * 512) card, ap length all)) in
      ap Some (b ∙ ap (take 512) all) ∙ sym (ap (λ t. cond t (Some (block_at card k)) None) room)

  -- the bytes of a block are bytes of the card, or none
  pub block_small : ((q : ℕ) → get_or card q 0 < 256) → (q : ℕ) → get_or (block_at card k) q 0 < 256
  block_small small q =
      ⊎_elim
      (λ (less : q < 512). rw (block_byte q less) (small (k * 512 + q)))
      (λ (more : 512 ≤ q). let past : length (block_at card k) ≤ q = simp length-take (omega arith) in rw (get_or_past (block_at card k) q 0 past) (omega arith))
      (cases_lt q 512)
