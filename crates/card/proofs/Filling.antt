-- The contents of a card: counts and fits of the sections, kind by kind.
use Rattle.std.proofs.Common.{◌≡◌, ℕ, suc, ◌+◌, ◌<◌, ◌≤◌, ⊎_elim, subst, drop, length, get_or, List, [], ◌∷◌, ℤ, pos, sym, refl, ap, ◌∙◌, arith, w32, to_z}
use lib.Seq.{paste, drop-cons}
use Rattle.std.proofs.lemmas.Bool.{cases_lt}
use Rattle.block.specs.Blocks.{Fit}
use Rattle.std.proofs.lemmas.List.{append-nil}
use Rattle.std.proofs.lemmas.Int.{to_z_pos}
use Rattle.block.specs.declared.kind.Kind.{Kind}
use Rattle.block.specs.declared.kind.Kind.TheVariants.{Head, Curvature, Rows, Costs, Bounds, Limits, Slip}
use Rattle.card.specs.declared.contents.Contents.{Contents}
use Rattle.section.specs.declared.sizes.Sizes.{Sizes}
use Rattle.card.specs.declared.contents.Numbers.{Numbers}
use Rattle.card.specs.Contents.{numbers, part_of, written, bytes_needed, Counted}
use Rattle.card.proofs.Laying.{card_written}
use Rattle.card.specs.Cards.{section_into, head_of}

-- contents have what their sizes ask for
pub all_counted : (x : Contents) → Counted x.sizes (numbers x)
all_counted x Head = refl
all_counted x Curvature = x.square
all_counted x Rows = x.lined
all_counted x Costs = x.priced
all_counted x Bounds = x.bounded
all_counted x Limits = x.limited
all_counted x Slip = x.slipped

-- writing a section's numbers is writing the numbers that they are
pub section_as : (s : Sizes) (kind : Kind) (o o' : List ℕ) (xs ys : List ℤ) → xs ≡ ys
    → o' ≡ section_into s kind o xs
    → o' ≡ section_into s kind o ys
section_as s kind o o' xs ys e w = w ∙ ap (λ zs. section_into s kind o zs) e

-- the head as a section is its one block
pub head_as : (s : Sizes) (o o' : List ℕ) (xs : List ℤ) → xs ≡ pos s.ropes ∷ pos s.rows ∷ []
    → o' ≡ section_into s Head o xs → o' ≡ paste o 0 (head_of s.ropes s.rows) 512
head_as s o o' xs e w =
    section_as s Head o o' xs (pos s.ropes ∷ pos s.rows ∷ []) e w ∙ ap (λ b. paste o 0 b 512) (append-nil (head_of s.ropes s.rows))

-- the sizes as four-byte numbers
pub sizes_as : (s : Sizes) (a b : ℕ) → a ≡ s.ropes → b ≡ s.rows → to_z w32 a ∷ to_z w32 b ∷ [] ≡ pos s.ropes ∷ pos s.rows ∷ []
sizes_as s a b e f =
    let n : to_z w32 a ≡ pos a = to_z_pos w32 a (omega (arith, s.few)) in
    let m : to_z w32 b ≡ pos b = to_z_pos w32 b (omega (arith, s.short)) in
    ap (λ z. z ∷ to_z w32 b ∷ []) (n ∙ ap pos e) ∙ ap (λ z. pos s.ropes ∷ z ∷ []) (m ∙ ap pos f)

-- a list of bytes with these sections written into it, one after the other
abbrev pub parts_into : Sizes → Numbers → List Kind → List ℕ → List ℕ
parts_into s y [] out = out
parts_into s y (kind ∷ kinds) out = parts_into s y kinds (section_into s kind out (part_of y kind))

-- the head and the six sections after it are the card
pub all_written : (x : Contents) (d o : List ℕ) → length d ≡ bytes_needed x → o ≡ paste d 0 (head_of x.sizes.ropes x.sizes.rows) 512
    → parts_into x.sizes x.numbers (Curvature ∷ Rows ∷ Costs ∷ Bounds ∷ Limits ∷ Slip ∷ []) o ≡ written x
all_written x d o long e = card_written d x.sizes.ropes x.sizes.rows (numbers x) long o _ _ _ _ _ _ e refl refl refl refl refl refl

-- one section more is written, whose numbers fit
pub parts_more : (s : Sizes) (y : Numbers) (kinds : List Kind) (i : ℕ) (d : Kind) (o o' : List ℕ) → i < length kinds → o' ≡ section_into s (get_or kinds i d) o (part_of y (get_or kinds i d))
    → parts_into s y (drop (i + 1) kinds) o' ≡ parts_into s y (drop i kinds) o
parts_more s y kinds i d o o' h e =
    let one : i + 1 ≡ suc i = omega arith in
    ap (λ k. parts_into s y (drop k kinds) o') one
    ∙ ap (parts_into s y (drop (suc i) kinds)) e
    ∙ sym (ap (λ ks. parts_into s y ks o) (drop-cons kinds i d h))

pub fits_on : (y : Numbers) (kinds : List Kind) (i : ℕ) (d : Kind) → ((k : ℕ) → k < i → Fit (part_of y (get_or kinds k d))) → Fit (part_of y (get_or kinds i d))
    → (k : ℕ) → k < i + 1 → Fit (part_of y (get_or kinds k d))
fits_on y kinds i d below here k h =
    ⊎_elim
    (λ (less : k < i). below k less)
    (λ (more : i ≤ k). let same : i ≡ k = omega arith in subst (λ j. Fit (part_of y (get_or kinds j d))) same here)
    (cases_lt k i)
