-- What the parts of a solve make together.
use Rattle.std.proofs.Common.{◌≡◌, ℕ, suc, ◌+◌, ◌-◌, true, List, [], ◌∷◌, ◌++◌, take, ℤ, sym, refl, ap, ◌∙◌, zero-add}
use lib.Ieee.{Float}
use Rattle.duality.specs.Problem.{Problem}
use Rattle.elimination.specs.Lines.{largest}
use Rattle.terms.specs.Numbers.{Numbers}
use Rattle.job.specs.Bounds.{is_in_bounds}
use Rattle.job.proofs.Holding.{in_bounds_in}
use Rattle.exchange.specs.declared.members.Offer.{Offer as Found}
use Rattle.exchange.specs.declared.members.Member.{Member}
use Rattle.exchange.specs.declared.members.Step.{Step}
use Rattle.exchange.specs.declared.members.Step.TheVariants as step
use Rattle.exchange.specs.Steps.{OffersInside}
use Rattle.exchange.specs.Runs.{Run, stepped, offers_of, run_from, exchanged}
use Rattle.exchange.proofs.Running.{run_starts}
use Rattle.calls.specs.States.{State}
use Rattle.calls.specs.Offers.{Offer, point, pair, took, took_all}
use Rattle.calls.specs.Solving.{found_offers, last_found, point_found, pair_found}
use Rattle.calls.proofs.Taking.{offers_same}

-- offers one after the other

pub took_append : (s : State) (os ps : List Offer) → took_all s (os ++ ps) ≡ took_all (took_all s os) ps
took_append s [] ps = refl
took_append s (o ∷ os) ps = took_append (took s o) os ps

found_append : (x : Numbers) (os ps : List Found) → found_offers x (os ++ ps) ≡ found_offers x os ++ found_offers x ps
found_append x [] ps = refl
found_append x (o ∷ os) ps = ap (λ (qs : List Offer). point (point_found x o) ∷ pair (pair_found x o) ∷ qs) (found_append x os ps)

last_append : (x : Numbers) (z : List ℤ) (os ps : List Found) → last_found x z (os ++ ps) ≡ last_found x (last_found x z os) ps
last_append x z [] ps = refl
last_append x z (o ∷ os) ps = last_append x (point_found x o) os ps

pub found_took : (s : State) (x : Numbers) (os ps : List Found) → took_all s (found_offers x (os ++ ps)) ≡ took_all (took_all s (found_offers x os)) (found_offers x ps)
found_took s x os ps = ap (took_all s) (found_append x os ps) ∙ took_append s (found_offers x os) (found_offers x ps)

-- a point that a step found lies inside the bounds
pub step_inside : (P : Problem) (x : Numbers) (st : Step) (z z' : List ℤ) → x.ropes ≡ P.ropes → OffersInside P st → is_in_bounds P z ≡ true → z' ≡ last_found x z (offers_of st) → is_in_bounds P z' ≡ true
step_inside P x step.Stuck z z' e law old ez = ap (is_in_bounds P) ez ∙ old
step_inside P x (step.Found o ch) z z' e law old ez =
    ap (is_in_bounds P) (ez ∙ ap (λ (n : ℕ). take n o.point) e) ∙ in_bounds_in P (take P.ropes o.point) law.0

-- a run of the exchange after k of B steps: from s₀ and z₀ to s and z, with what is left to do
pub record Exchanging (P : Problem) (B k : ℕ) (s₀ s : State) (z₀ z : List ℤ) (ms : List Member) (f : Float) : Type 0 where
  pub numbers : s.numbers ≡ s₀.numbers
  pub taken : took_all s (found_offers s₀.numbers (run_from (B - k) P ms f).offers) ≡ took_all s₀ (found_offers s₀.numbers (exchanged P B).offers)
  pub last : last_found s₀.numbers z (run_from (B - k) P ms f).offers ≡ last_found s₀.numbers z₀ (exchanged P B).offers
  pub steps : k + (run_from (B - k) P ms f).steps ≡ (exchanged P B).steps
  pub ending : (run_from (B - k) P ms f).ending ≡ (exchanged P B).ending
  pub smallest : (run_from (B - k) P ms f).smallest ≡ (exchanged P B).smallest
  pub inside : is_in_bounds P z ≡ true

pub exchange_starts : (P : Problem) (B : ℕ) (s : State) (z : List ℤ) (ms : List Member) (f : Float) → ms ≡ [] → f ≡ largest
    → is_in_bounds P z ≡ true → Exchanging P B 0 s s z z ms f
exchange_starts P B s z ms f a b i =
    let r = run_starts P B ms f a b in
    record {
      numbers = refl;
      taken = ap (λ (x : Run). took_all s (found_offers s.numbers x.offers)) r;
      last = ap (λ (x : Run). last_found s.numbers z x.offers) r;
      steps = zero-add _ ∙ ap (λ (x : Run). x.steps) r;
      ending = ap (λ (x : Run). x.ending) r;
      smallest = ap (λ (x : Run). x.smallest) r;
      inside = i;
    }

module _ (P : Problem) (B k : ℕ) (s₀ s s' : State) (z₀ z z' : List ℤ) (ms : List Member) (f : Float) (st : Step)
    (before : Exchanging P B k s₀ s z₀ z ms f) (es : s' ≡ took_all s (found_offers s.numbers (offers_of st))) (ez : z' ≡ last_found s.numbers z (offers_of st)) where
  x : Numbers
  x = s₀.numbers

  es₀ : s' ≡ took_all s (found_offers x (offers_of st))
  unfolding x
  es₀ = es ∙ ap (λ (y : Numbers). took_all s (found_offers y (offers_of st))) before.numbers

  ez₀ : z' ≡ last_found x z (offers_of st)
  unfolding x
  ez₀ = ez ∙ ap (λ (y : Numbers). last_found y z (offers_of st)) before.numbers

  pub more_numbers : s'.numbers ≡ s₀.numbers
  more_numbers = ap (λ (t : State). t.numbers) es ∙ (offers_same s (found_offers s.numbers (offers_of st))).numbers ∙ before.numbers

  module _ (rest : Run) (er : run_from (B - k) P ms f ≡ stepped (offers_of st) rest) where
    pub more_taken : took_all s' (found_offers s₀.numbers rest.offers) ≡ took_all s₀ (found_offers s₀.numbers (exchanged P B).offers)
    unfolding x es₀
    more_taken =
        ap (λ (t : State). took_all t (found_offers s₀.numbers rest.offers)) es₀ ∙ sym (found_took s s₀.numbers (offers_of st) rest.offers)
        ∙ sym (ap (λ (r : Run). took_all s (found_offers s₀.numbers r.offers)) er) ∙ before.taken

    pub more_last : last_found s₀.numbers z' rest.offers ≡ last_found s₀.numbers z₀ (exchanged P B).offers
    unfolding x ez₀
    more_last =
        ap (λ (w : List ℤ). last_found s₀.numbers w rest.offers) ez₀ ∙ sym (last_append s₀.numbers z (offers_of st) rest.offers)
        ∙ sym (ap (λ (r : Run). last_found s₀.numbers z r.offers) er) ∙ before.last

    pub more_steps : k + suc rest.steps ≡ (exchanged P B).steps
    more_steps = sym (ap (λ (r : Run). k + r.steps) er) ∙ before.steps

    pub more_ending : rest.ending ≡ (exchanged P B).ending
    more_ending = sym (ap (λ (r : Run). r.ending) er) ∙ before.ending

    pub more_smallest : rest.smallest ≡ (exchanged P B).smallest
    more_smallest = sym (ap (λ (r : Run). r.smallest) er) ∙ before.smallest
