use Rattle.std.proofs.Common.{◌≡◌, ℕ, ◌<◌, Bool, cond, Some, None, sym, ap, ◌∙◌, subst, arith}
use Rattle.std.specs.Option.{option_map}
use Rattle.block.proofs.Saying.{differ}
use Rattle.section.specs.Layout.{count_of, first_of}
use Rattle.section.specs.Sections.{Part, part_at, part_of, section_at}
use Rattle.card.specs.Faults.{n_of, m_of}
use Rattle.card.specs.Held.{HoldsNumbers, section_on}
use Rattle.card.proofs.Finding.{found, held}
use Rattle.card.proofs.sound_card.SoundCard.section.Goals as goal

pub returns : goal.returns
returns c =
    let s = c.args.self.now in
    let card = s.bytes.now in
    let kind = c.args.kind in
    let part : Part = part_at card (first_of kind (n_of card) (m_of card)) (n_of card) (m_of card) kind in
    let count : c.count.result ≡ count_of kind (n_of card) (m_of card)
    = c.count.ensures.value ∙ (ap (λ (k : ℕ). count_of kind k s.sizes.rows) s.ropes ∙ ap (count_of kind (n_of card)) s.rows) in
    let first : c.first.result ≡ first_of kind (n_of card) (m_of card)
    = c.first.ensures.value ∙ (ap (λ (k : ℕ). first_of kind k s.sizes.rows) s.ropes ∙ ap (first_of kind (n_of card)) s.rows) in
    let some : 0 < count_of kind (n_of card) (m_of card) = omega (arith, count) in
    let there : option_map part_of c.at.result ≡ Some part
    = c.at.ensures.value
    ∙ (ap (λ (f : ℕ). section_at card f s.sizes.ropes s.sizes.rows) first
    ∙ (ap (λ (k : ℕ). section_at card (first_of kind (n_of card) (m_of card)) k s.sizes.rows) s.ropes
    ∙ (ap (section_at card (first_of kind (n_of card) (m_of card)) (n_of card)) s.rows ∙ found card s.passes kind some))) in
    let on : section_on card kind ≡ Some part
    = ap (λ (t : Bool). cond t None (Some part)) (differ (count_of kind (n_of card) (m_of card)) 0 (λ e. omega arith)) in
    record { value = there ∙ sym on; numbers = subst (HoldsNumbers card kind) (sym there) (held card s.passes kind some) }
