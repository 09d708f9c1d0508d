-- A run of blocks under one letter, one block on.
use Rattle.std.proofs.Common.{◌≡◌, ℕ, suc, ◌+◌, ◌-◌, ◌<◌, min, List, [], ◌∷◌, Ok, Err, sym, ap, ◌∙◌, arith}
use Rattle.block.specs.declared.fault.Fault.{Fault}
use Rattle.block.specs.Blocks.{block_at}
use Rattle.block.specs.Checks.{Verdict, and_then, block_check}
use Rattle.block.specs.declared.kind.Kind.{Kind}
use Rattle.section.specs.Layout.{blocks_for}
use Rattle.card.specs.Faults.{run_check, section_check}

blocks_more : (left : ℕ) → 0 < left → blocks_for left ≡ suc (blocks_for (left - 126))
blocks_more left h = omega arith

module _ (card : List ℕ) (letter k left : ℕ) (h : 0 < left) (used : ℕ) (e : used ≡ min left 126) where
  run_more : run_check card letter k left (blocks_for left)
      ≡ and_then (block_check (block_at card k) letter k used) (run_check card letter (k + 1) (left - used) (blocks_for (left - used)))
  run_more =
      let less : left - 126 ≡ left - used = omega arith in
      ap (run_check card letter k left) (blocks_more left h)
      ∙ (ap (λ u. and_then (block_check (block_at card k) letter k u) (run_check card letter (k + 1) (left - 126) (blocks_for (left - 126)))) (sym e)
      ∙ ap (λ l. and_then (block_check (block_at card k) letter k used) (run_check card letter (k + 1) l (blocks_for l))) less)

  pub run_past : block_check (block_at card k) letter k used ≡ Ok tt → run_check card letter k left (blocks_for left) ≡ run_check card letter (k + 1) (left - used) (blocks_for (left - used))
  run_past ok = run_more ∙ ap (λ v. and_then v (run_check card letter (k + 1) (left - used) (blocks_for (left - used)))) ok

  pub run_stops : (f : Fault) → block_check (block_at card k) letter k used ≡ Err f → run_check card letter k left (blocks_for left) ≡ Err f
  run_stops f err = run_more ∙ ap (λ v. and_then v (run_check card letter (k + 1) (left - used) (blocks_for (left - used)))) err

-- the checks of these sections, one after the other
abbrev pub list_check : List ℕ → ℕ → ℕ → List Kind → Verdict
list_check card n m [] = Ok tt
list_check card n m (kind ∷ kinds) = and_then (section_check card kind n m) (list_check card n m kinds)
