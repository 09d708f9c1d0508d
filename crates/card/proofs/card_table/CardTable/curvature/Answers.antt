use Rattle.std.proofs.Common.{◌≡◌, ℕ, ap, ◌∙◌, w64, SFits, to_z, of_z, rules}
use Rattle.std.proofs.lemmas.Int.{to_z-of_z}
use Rattle.card.specs.Grids.{size_at, section_grid}
use Rattle.card.proofs.Whole.{sound}
use Rattle.card.proofs.Holding.{holds_curvature}
use Rattle.card.proofs.card_table.CardTable.curvature.Goals as goal

pub returns : goal.returns
returns c =
    let card = c.args.card.now in
    let fits : SFits w64 c.size_at-ropes.result = search rules in
    let ropes : to_z w64 (of_z w64 c.size_at-ropes.result) ≡ size_at card 4 = to_z-of_z w64 c.size_at-ropes.result fits ∙ c.size_at-ropes.ensures in
    record {
      meant = ap (λ (f : ℕ). section_grid card f (to_z w64 (of_z w64 c.size_at-ropes.result)) (to_z w64 (of_z w64 c.size_at-ropes.result))) c.first_of.ensures.value
          ∙ ap (λ z. section_grid card 1 z z) ropes;
      holds = λ ok. holds_curvature card (sound card ok);
    }
