use Rattle.std.proofs.Common.{◌≡◌, ℕ, ℤ, ap, ◌∙◌, w64, SFits, to_z, of_z, rules}
use Rattle.std.proofs.lemmas.Int.{to_z-of_z}
use Rattle.block.specs.declared.kind.Kind.TheVariants.{Rows}
use Rattle.section.specs.Layout.{first_of}
use Rattle.table.specs.Grid.{cut}
use Rattle.card.specs.Grids.{size_at, section_grid}
use Rattle.card.proofs.Whole.{sound}
use Rattle.card.proofs.Holding.{holds_rows}
use Rattle.card.proofs.card_table.CardTable.rows.Goals as goal

pub returns : goal.returns
returns c =
    let card = c.args.card.now in
    let fits-n : SFits w64 c.size_at-ropes.result = search rules in
    let fits-m : SFits w64 c.size_at-rows.result = search rules in
    let ropes : to_z w64 (of_z w64 c.size_at-ropes.result) ≡ size_at card 4 = to_z-of_z w64 c.size_at-ropes.result fits-n ∙ c.size_at-ropes.ensures in
    let rows : to_z w64 (of_z w64 c.size_at-rows.result) ≡ size_at card 8 = to_z-of_z w64 c.size_at-rows.result fits-m ∙ c.size_at-rows.ensures in
    let n : c.cut_size.result ≡ cut (size_at card 4) = c.cut_size.ensures ∙ ap cut ropes in
    let m : c.cut_size-2.result ≡ cut (size_at card 8) = c.cut_size-2.ensures ∙ ap cut rows in
    let first : c.first_of.result ≡ first_of Rows (cut (size_at card 4)) (cut (size_at card 8))
    = c.first_of.ensures.value ∙ (ap (λ (k : ℕ). first_of Rows k c.cut_size-2.result) n ∙ ap (λ (k : ℕ). first_of Rows (cut (size_at card 4)) k) m) in
    record {
      meant = ap (λ (f : ℕ). section_grid card f (to_z w64 (of_z w64 c.size_at-rows.result)) (to_z w64 (of_z w64 c.size_at-ropes.result))) first
          ∙ (ap (λ (z : ℤ). section_grid card (first_of Rows (cut (size_at card 4)) (cut (size_at card 8))) z (to_z w64 (of_z w64 c.size_at-ropes.result))) rows
          ∙ ap (λ (z : ℤ). section_grid card (first_of Rows (cut (size_at card 4)) (cut (size_at card 8))) (size_at card 8) z) ropes);
      holds = λ ok. holds_rows card (sound card ok);
    }
