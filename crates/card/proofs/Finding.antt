-- On a card that passes, each section that has numbers is found at its first block.
use Rattle.std.proofs.Common.{◌≡◌, ℕ, ◌+◌, ◌*◌, ◌<◌, ◌≤◌, Bool, cond, List, length, get_or, Some, None, Ok, sym, refl, ap, ◌∙◌, subst, arith}
use Rattle.std.specs.Option.{option_map}
use Rattle.std.proofs.lemmas.Bool.{le-leb}
use Rattle.block.specs.Kinds.{letter_of, kind_of}
use Rattle.block.specs.declared.kind.Kind.{Kind}
use Rattle.block.specs.declared.kind.Kind.TheVariants.{Head, Curvature, Rows, Costs, Bounds, Limits, Slip}
use Rattle.block.proofs.WholeAt.{block_byte}
use Rattle.section.specs.Layout.{count_of, first_of, blocks_in, HasBlock}
use Rattle.section.specs.Sections.{part_at, section_at}
use Rattle.section.proofs.Spots.{ends, located_at}
use Rattle.card.specs.Faults.{n_of, m_of, card_check}
use Rattle.card.specs.Faulty.{Says}
use Rattle.card.specs.Held.{HoldsNumbers}
use Rattle.card.proofs.Saying.{card_says}

kind_back : (kind : Kind) → kind_of (letter_of kind) ≡ Some kind
kind_back Head = refl
kind_back Curvature = refl
kind_back Rows = refl
kind_back Costs = refl
kind_back Bounds = refl
kind_back Limits = refl
kind_back Slip = refl

module _ (card : List ℕ) (ok : card_check card ≡ Ok tt) (kind : Kind) (some : 0 < count_of kind (n_of card) (m_of card)) where
  sound : Says card (Ok tt)
  sound = subst (Says card) ok (card_says card)

  there : first_of kind (n_of card) (m_of card) * 512 + 512 ≤ length card
  there =
      let full : length card ≡ blocks_in (n_of card) (m_of card) * 512 = sound.1 in
      let end = ends card (n_of card) (m_of card) kind in
      omega arith

  has : HasBlock kind (n_of card) (m_of card) (first_of kind (n_of card) (m_of card))
  has = record { from = omega arith; to = omega arith }

  letter_there : get_or card (first_of kind (n_of card) (m_of card) * 512) 0 ≡ letter_of kind
  letter_there =
      let first : ℕ = first_of kind (n_of card) (m_of card) in
      let at : first * 512 + 0 ≡ first * 512 = omega arith in
      let passes = sound.2 first (omega (arith, there)) in
      sym (block_byte card first 0 (omega arith) ∙ ap (λ (i : ℕ). get_or card i 0) at) ∙ (passes.named kind has).0

  pub found : section_at card (first_of kind (n_of card) (m_of card)) (n_of card) (m_of card) ≡ Some (part_at card (first_of kind (n_of card) (m_of card)) (n_of card) (m_of card) kind)
  found =
      let first : ℕ = first_of kind (n_of card) (m_of card) in
      ap (λ (t : Bool). option_map (part_at card first (n_of card) (m_of card)) (cond t (kind_of (get_or card (first * 512) 0)) None)) (le-leb (first * 512 + 512) (length card) there)
      ∙ (ap (λ (l : ℕ). option_map (part_at card first (n_of card) (m_of card)) (kind_of l)) letter_there
      ∙ ap (option_map (part_at card first (n_of card) (m_of card))) (kind_back kind))

  pub held : HoldsNumbers card kind (Some (part_at card (first_of kind (n_of card) (m_of card)) (n_of card) (m_of card) kind))
  held =
      let first : ℕ = first_of kind (n_of card) (m_of card) in
      located_at card first (n_of card) (m_of card) (Some (part_at card first (n_of card) (m_of card) kind)) (sym found) sound.1 refl
