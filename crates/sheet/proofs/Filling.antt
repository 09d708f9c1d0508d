-- The contents of a job's card, and what is written of them.
use Rattle.std.proofs.Common.{◌≡◌, ℕ, ◌*◌, ◌≤◌, Bool, true, cond, leb, List, [], ◌∷◌, ◌++◌, length, drop, ℤ, pos, IfOk, IsOk, IsSome, Some, None, Ok, Err, Option, Result, sym, refl, ap, ◌∙◌, subst, arith}
use Rattle.std.specs.Option.{option_or}
use Rattle.std.proofs.lemmas.List.{length-append}
use Rattle.std.proofs.lemmas.Bool.{le-leb}
use Rattle.block.specs.declared.fault.Fault.{Fault}
use Rattle.block.specs.declared.fault.Fault.TheVariants.{Short}
use Rattle.block.specs.declared.kind.Kind.{Kind}
use Rattle.block.specs.declared.kind.Kind.TheVariants.{Head, Curvature, Rows, Costs, Bounds, Limits, Slip}
use Rattle.section.specs.declared.sizes.Sizes.{Sizes}
use Rattle.section.specs.Layout.{blocks_in, numbers_for}
use Rattle.table.specs.Grid.{Grid, height_of, matrix_of}
use Rattle.card.specs.declared.contents.Contents.{Contents}
use Rattle.card.specs.declared.contents.Numbers.{Numbers as Lent}
use Rattle.card.specs.Cards.{card_of}
use Rattle.card.specs.Contents as card
use Rattle.card.specs.Contents.{Counted, numbers, written, bytes_needed}
use Rattle.card.specs.Faults.{card_check}
use Rattle.card.specs.Laws.{Reads}
use Rattle.opening.specs.Fits.{Fits}
use Rattle.opening.specs.Opening.{Numbers, open_fault}
use Rattle.opening.specs.declared.refusal.Refusal.{Refusal}
use Rattle.opening.specs.declared.refusal.Refusal.TheVariants.{Card}
use Rattle.opening.proofs.Firsts.{or_both}
use Rattle.opening.specs.Firsts.{unless}
use Rattle.reading.proofs.Listed.{listed_long}
use Rattle.sheet.specs.declared.job_numbers.JobNumbers.{JobNumbers}
use Rattle.sheet.specs.Gathering.{Gathers, Lends}
use Rattle.sheet.specs.Laws.{Carries}
use Rattle.sheet.specs.Numbers.{job_numbers, card_for, bytes_for}
use Rattle.sheet.specs.Writing.{write_answer, write_after}
use Rattle.sheet.proofs.Carrying.{same_card, carries}

-- the numbers of a job that fits are as many in each section as the sizes ask for
module _ (s : Sizes) (g a : Grid) (x : Numbers) (f : Fits g a x) (er : s.ropes ≡ height_of g) (em : s.rows ≡ height_of a) where
  count_job : (kind : Kind) → length (job_numbers g a x kind) ≡ numbers_for s kind
  count_job Head = refl
  count_job Curvature = listed_long (height_of g) (height_of g) (matrix_of g) ∙ ap (λ (k : ℕ). k * k) (sym er)
  count_job Rows = listed_long (height_of a) (height_of g) (matrix_of a) ∙ ap (λ (k : ℕ). k * height_of g) (sym em) ∙ ap (λ (k : ℕ). s.rows * k) (sym er)
  count_job Costs = f.long.c ∙ sym er
  count_job Bounds = let l = f.long.l in let u = f.long.u in length-append x.l x.u ∙ omega arith
  count_job Limits = let l = f.long.lo in let u = f.long.hi in length-append x.lo x.hi ∙ omega arith
  count_job Slip = f.long.slip ∙ ap (λ (k : ℕ). k * k) (sym er)

  -- what is lent of gathered numbers are the job's
  pub lent_job : (y : JobNumbers) (lent : Lent) → Gathers y g a x → Lends lent y → (kind : Kind) → card.sections_of s lent kind ≡ job_numbers g a x kind
  lent_job y lent h l Head = ap (λ (k : ℕ). pos k ∷ pos s.rows ∷ []) er ∙ ap (λ (k : ℕ). pos (height_of g) ∷ pos k ∷ []) em
  lent_job y lent h l Curvature = l.curvature ∙ h.curvature
  lent_job y lent h l Rows = l.rows ∙ h.rows
  lent_job y lent h l Costs = l.costs ∙ h.costs
  lent_job y lent h l Bounds = l.bounds ∙ h.bounds
  lent_job y lent h l Limits = l.limits ∙ h.limits
  lent_job y lent h l Slip = l.slip ∙ h.slip

  pub counted : (y : JobNumbers) (lent : Lent) → Gathers y g a x → Lends lent y → Counted s (card.sections_of s lent)
  counted y lent h l kind = ap length (lent_job y lent h l kind) ∙ count_job kind

  -- the contents that are made of them have the job's numbers
  pub contents_are : (y : JobNumbers) (lent : Lent) → Gathers y g a x → Lends lent y → (o : Option Contents) (made : Contents) → card.Built o s (card.sections_of s lent) → o ≡ Some made
      → (kind : Kind) → numbers made kind ≡ job_numbers g a x kind
  contents_are y lent h l None made b e = let z : ◌≡◌ {A = ℕ} 0 1 = cc in absurd (omega arith)
  contents_are y lent h l (Some v) made b e = λ kind. let same : v ≡ made = cc in ap (λ (w : Contents). numbers w kind) (sym same) ∙ (b.1 kind ∙ lent_job y lent h l kind)

-- what is told where opening refuses, whatever else would
pub opening_refused : {X : Type 0} (u : X) (o rest : Option Refusal) (v : ℕ) (r : Result ℕ Refusal) (e : Refusal) → r ≡ Err e → Err e ≡ unless o u → r ≡ unless (option_or o rest) v
opening_refused u None rest v r e told q = let z : ◌≡◌ {A = ℕ} 0 1 = cc in absurd (omega arith)
opening_refused u (Some x) rest v r e told q = let same : e ≡ x = cc in told ∙ ap Err same

-- sections that have as many numbers as the sizes ask for make contents
pub built : (o : Option Contents) (s : Sizes) (nums : Kind → List ℤ) → card.Built o s nums → Counted s nums → IsSome o
built None s nums b all = absurd (b all)
built (Some x) s nums b all = refl

module _ (y : Contents) (g a : Grid) (x : Numbers) (e : (kind : Kind) → numbers y kind ≡ job_numbers g a x kind) where
  as_ropes : y.sizes.ropes ≡ height_of g
  as_ropes = let h = e Head in cc

  as_rows : y.sizes.rows ≡ height_of a
  as_rows = let h = e Head in cc

  card_is : written y ≡ card_for g a x
  card_is =
      ap (λ (k : ℕ). card_of k y.sizes.rows (numbers y)) as_ropes
      ∙ ap (λ (k : ℕ). card_of (height_of g) k (numbers y)) as_rows
      ∙ same_card (height_of g) (height_of a) (numbers y) (job_numbers g a x) (e Curvature) (e Rows) (e Costs) (e Bounds) (e Limits) (e Slip)

  needed_is : bytes_needed y ≡ bytes_for g a
  needed_is = ap (λ (k : ℕ). blocks_in k y.sizes.rows * 512) as_ropes ∙ ap (λ (k : ℕ). blocks_in (height_of g) k * 512) as_rows

  card_carries : Fits g a x → card_check (written y) ≡ Ok tt → Reads (written y) y.sizes.ropes y.sizes.rows (numbers y) → Carries (card_for g a x) g a x
  card_carries f ok r =
      subst (λ (w : List ℕ). Carries w g a x) card_is
      (carries (written y) g a x (numbers y) f ok
      (subst (λ (k : ℕ). Reads (written y) (height_of g) k (numbers y)) as_rows (subst (λ (k : ℕ). Reads (written y) k y.sizes.rows (numbers y)) as_ropes r)) e)

  module _ (out : List ℕ) (room : bytes_for g a ≤ length out) (w : Result ℕ Fault) (wrote : w ≡ card.write_answer y out) where
    has_room : leb (bytes_needed y) (length out) ≡ true
    has_room = le-leb (bytes_needed y) (length out) (let h = needed_is in omega arith)

    is_written : w ≡ Ok (bytes_needed y)
    is_written = wrote ∙ ap (λ (b : Bool). cond b (Ok (bytes_needed y)) (Err (Short (bytes_needed y)))) has_room

    pub can_write : IsOk w
    can_write = subst (λ (v : Result ℕ Fault). IsOk v) (sym is_written) refl

    pub used_is : (used : ℕ) → w ≡ Ok used → ◌≡◌ {A = Result ℕ Refusal} (Ok used) (Ok (bytes_for g a))
    used_is used e = let h = is_written in let same : used ≡ bytes_needed y = cc in ap Ok (same ∙ needed_is)

    module _ (r : Result ℕ Refusal) (used : r ≡ Ok (bytes_for g a)) where
      pub answered : open_fault g a x ≡ None → r ≡ write_answer g a x (length out)
      answered none =
          let fits : cond (leb (bytes_for g a) (length out)) None (Some (Card (Short (bytes_for g a)))) ≡ None
          = ap (λ (b : Bool). cond b None (Some (Card (Short (bytes_for g a))))) (le-leb (bytes_for g a) (length out) room) in
          used ∙ sym (ap (λ (o : Option Refusal). unless o (bytes_for g a)) (or_both _ _ none fits))

      pub left : (after : List ℕ) → after ≡ card.write_after y out → after ≡ write_after g a x out r
      left after e =
          e
          ∙ ap (λ (b : Bool). cond b (written y ++ drop (bytes_needed y) out) out) has_room
          ∙ ap (λ (v : List ℕ). v ++ drop (bytes_needed y) out) card_is
          ∙ ap (λ (k : ℕ). card_for g a x ++ drop k out) needed_is
          ∙ sym (ap (write_after g a x out) used)

      pub carried : Fits g a x → IfOk w (λ _. card_check (written y) ≡ Ok tt) → IfOk w (λ _. Reads (written y) y.sizes.ropes y.sizes.rows (numbers y))
          → IfOk r (λ _. Carries (card_for g a x) g a x)
      carried f ok reads =
          subst (λ (q : Result ℕ Refusal). IfOk q (λ _. Carries (card_for g a x) g a x)) (sym used)
          (card_carries f
          (subst (λ (v : Result ℕ Fault). IfOk v (λ _. card_check (written y) ≡ Ok tt)) is_written ok)
          (subst (λ (v : Result ℕ Fault). IfOk v (λ _. Reads (written y) y.sizes.ropes y.sizes.rows (numbers y))) is_written reads))

-- a list is long enough for the card, by the bytes that the sizes ask for
pub room_for : (n m needed len : ℕ) (g a : Grid) → n ≡ height_of g → m ≡ height_of a → needed ≡ blocks_in n m * 512 → needed ≤ len → bytes_for g a ≤ len
room_for n m needed len g a en em e h =
    let d : needed ≡ bytes_for g a = e ∙ ap (λ (k : ℕ). blocks_in k m * 512) en ∙ ap (λ (k : ℕ). blocks_in (height_of g) k * 512) em in
    omega arith
