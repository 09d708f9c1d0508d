-- A job that was read off a card, opened.
use Rattle.std.proofs.Common.{◌≡◌, ℕ, List, Ok, Err, Result, sym, refl, ap, ◌∙◌, arith}
use Rattle.block.specs.Checks.{Verdict}
use Rattle.card.specs.Faults.{card_check}
use Rattle.opening.specs.Firsts.{unless}
use Rattle.opening.specs.Opening.{Numbers, open_fault}
use Rattle.opening.specs.declared.refusal.Refusal.{Refusal}
use Rattle.calls.specs.Opened.{opened}
use Rattle.calls.specs.States.{State}
use Rattle.sheet.specs.Loading.{load_answer, opened_on}
use Rattle.sheet.specs.Reading.{Job, job_on, passed_or, read_answer}

-- a refusal of the reading is one of the loading
refused_by : {X Y : Type 0} (v : Verdict) (x : X) (r : Result Y Refusal) (e : Refusal) → Err e ≡ passed_or v (Ok x) → Err e ≡ passed_or v r
refused_by (Ok u) x r e p = let z : ◌≡◌ {A = ℕ} 0 1 = cc in absurd (omega arith)
refused_by (Err f) x r e p = ap Err (let same : e ≡ _ = cc in same)

read_by : {X : Type 0} (v : Verdict) (j k : X) → Ok j ≡ passed_or v (Ok k) → (v ≡ Ok tt) × (j ≡ k)
read_by (Ok u) j k e = (refl, cc)
read_by (Err f) j k e = let z : ◌≡◌ {A = ℕ} 0 1 = cc in absurd (omega arith)

module _ (card : List ℕ) where
  pub not_read : (e : Refusal) → Err e ≡ read_answer card → Err e ≡ load_answer card
  not_read e p = refused_by (card_check card) (job_on card) (opened_on card) e p

  -- what opening says of the job that was read
  module _ (j : Job) (read : Ok j ≡ read_answer card) (x : Numbers) (same : x ≡ j.x) where
    pub read_passes : card_check card ≡ Ok tt
    read_passes = (read_by (card_check card) j (job_on card) read).0

    pub read_is : j ≡ job_on card
    read_is = (read_by (card_check card) j (job_on card) read).1

    pub lists_are : x ≡ (job_on card).x
    lists_are = same ∙ ap (λ (k : Job). k.x) read_is

    pub loaded : (r : Result State Refusal) → r ≡ unless (open_fault j.g j.a x) (opened j.g j.a x) → r ≡ load_answer card
    loaded r e =
        e
        ∙ ap (λ (y : Numbers). unless (open_fault j.g j.a y) (opened j.g j.a y)) same
        ∙ ap (λ (k : Job). unless (open_fault k.g k.a k.x) (opened k.g k.a k.x)) read_is
        ∙ sym (ap (λ (v : Verdict). passed_or v (opened_on card)) read_passes)
