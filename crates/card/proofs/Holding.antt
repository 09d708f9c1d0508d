-- The tables of a card that passes have the numbers of its sections.
use Rattle.std.proofs.Common.{◌≡◌, ℕ, ◌+◌, ◌*◌, ◌<◌, ◌≤◌, true, cond, leb, List, length, ℤ, pos, Some, None, unwrap_or, sym, refl, ap, ◌∙◌, subst, arith}
use Rattle.std.proofs.lemmas.Nat.{mul-add-lt}
use Rattle.std.proofs.lemmas.Bool.{le-leb}
use Rattle.block.specs.Bytes.{num, number_at}
use Rattle.block.specs.declared.kind.Kind.{Kind}
use Rattle.block.specs.declared.kind.Kind.TheVariants.{Curvature, Rows}
use Rattle.section.specs.Layout.{blocks_for, count_of, first_of}
use Rattle.section.specs.Sections.{spot_of}
use Rattle.section.proofs.Spots.{number_stands}
use Rattle.table.specs.Grid.{Grid, cut, height_of, limited}
use Rattle.table.proofs.Places.{place_inside}
use Rattle.card.specs.Faults.{n_of, m_of}
use Rattle.card.specs.Grids.{size_at, section_grid, curvature_grid, rows_grid, Holds}
use Rattle.card.proofs.Whole.{Sound}

module _ (card : List ℕ) (s : Sound card) where
  size_stands : (at n : ℕ) → at + 4 ≤ 512 → pos n ≡ num card at → size_at card at ≡ pos n
  size_stands at n h e =
      let enough = s.enough in
      let room : leb (at + 4) (length card) ≡ true = le-leb (at + 4) (length card) (omega arith) in
      ap (λ t. unwrap_or (cond t (Some (num card at)) None) (pos 0)) room ∙ sym e

  ropes_stand : size_at card 4 ≡ pos (n_of card)
  ropes_stand = size_stands 4 (n_of card) (omega arith) s.sizes.ropes

  rows_stand : size_at card 8 ≡ pos (m_of card)
  rows_stand = size_stands 8 (m_of card) (omega arith) s.sizes.rows

  few : cut (pos (n_of card)) ≡ n_of card
  few = let h = s.sizes.range.few in omega arith

  holds : (kind : Kind) (rows : ℕ) → rows ≤ 64 → count_of kind (n_of card) (m_of card) ≡ rows * n_of card
      → Holds card kind rows (section_grid card (first_of kind (n_of card) (m_of card)) (pos rows) (pos (n_of card)))
  holds kind rows high count =
      let n : ℕ = n_of card in
      let m : ℕ = m_of card in
      let g : Grid = section_grid card (first_of kind n m) (pos rows) (pos n) in
      let tall : height_of g ≡ rows = omega arith in
      record {
        high = tall;
        wide = few;
        places = λ i j hi hj.
            let within = mul-add-lt i n j rows hi hj in
            let less : i * n + j < count_of kind n m = omega (arith, count) in
            place_inside g i j (omega (arith, tall)) (omega (arith, few))
            ∙ (ap (λ w. limited (number_at card (first_of kind n m * 512 + spot_of (i * w + j)))) few
            ∙ ap limited (number_stands card n m kind (i * n + j) s.full less));
      }

  pub holds_curvature : Holds card Curvature (n_of card) (curvature_grid card)
  holds_curvature =
      subst (λ (z : ℤ). Holds card Curvature (n_of card) (section_grid card 1 z z)) (sym ropes_stand)
      (holds Curvature (n_of card) (let h = s.sizes.range.few in omega arith) refl)

  pub holds_rows : Holds card Rows (m_of card) (rows_grid card)
  holds_rows =
      let first : 1 + blocks_for (n_of card * n_of card) ≡ 1 + blocks_for (cut (size_at card 4) * cut (size_at card 4))
      = ap (λ (k : ℕ). 1 + blocks_for (k * k)) (sym few ∙ sym (ap cut ropes_stand)) in
      subst (λ (f : ℕ). Holds card Rows (m_of card) (section_grid card f (size_at card 8) (size_at card 4))) first
      (subst (λ (z : ℤ). Holds card Rows (m_of card) (section_grid card (1 + blocks_for (n_of card * n_of card)) z (size_at card 4))) (sym rows_stand)
      (subst (λ (z : ℤ). Holds card Rows (m_of card) (section_grid card (1 + blocks_for (n_of card * n_of card)) (pos (m_of card)) z)) (sym ropes_stand)
      (holds Rows (m_of card) (let h = s.sizes.range.short in omega arith) refl)))
