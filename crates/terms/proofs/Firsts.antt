-- The first place that fails a test: there is none exactly if each passes, and what `position` says of it.
use Rattle.std.proofs.Common.{◌≡◌, ℕ, zero, suc, ◌<◌, Bool, true, false, ◌&&◌, Some, None, Option, List, length, slice_index_or, refl, sym, ap, ◌∙◌, not, arith}
use Rattle.std.specs.List.{AllWithin, HoldsAt}
use Rattle.std.specs.Option.{MatchOption, is_none, is_some}
use Rattle.std.specs.Prelude.{MatchBool}
use Rattle.duality.specs.Tests.{all, or_here, first_not}
use Rattle.duality.proofs.Tests.{all_from, all_not, first_at}

none_here : (o : Option ℕ) (b : Bool) (n : ℕ) → is_none (or_here o b n) ≡ (is_none o && b)
none_here (Some k) b n = refl
none_here None true n = refl
none_here None false n = refl

pub none_is_all : (p : ℕ → Bool) (n : ℕ) → is_none (first_not p n) ≡ all p n
none_is_all p zero = refl
none_is_all p (suc n) = rw (none_is_all p n) at (none_here (first_not p n) (p n) n)

-- as a test for none answers
pub all_from_none : (p : ℕ → Bool) (n : ℕ) (o : Option ℕ) (b : Bool) → o ≡ first_not p n → is_some o ≡ not b → b ≡ all p n
all_from_none p n o true e h = let k : is_none o ≡ all p n = rw e (none_is_all p n) in ap not (sym h) ∙ k
all_from_none p n o false e h = let k : is_none o ≡ all p n = rw e (none_is_all p n) in ap not (sym h) ∙ k

pub first_all : (p : ℕ → Bool) (n : ℕ) → ((k : ℕ) → k < n → p k ≡ true) → first_not p n ≡ None
first_all p zero h = refl
first_all p (suc n) h =
    let below : first_not p n ≡ None = first_all p n (λ k l. h k (omega arith)) in
    let here : p n ≡ true = h n (omega arith) in
    cc

-- what `position` finds is the first place that fails a test, where its closure answers that the test fails
pub first_position : {B : Type 0} (p : ℕ → Bool) (xs : List B) (d : B) (Yes No : B → Type 0)
    → ((k : ℕ) → k < length xs → Yes (slice_index_or xs k d) → p k ≡ false) → ((k : ℕ) → k < length xs → No (slice_index_or xs k d) → p k ≡ true) → (o : Option ℕ)
    → MatchOption o (AllWithin No xs 0 (length xs)) (λ i. (i < length xs) × HoldsAt Yes xs i × AllWithin No xs 0 i) → o ≡ first_not p (length xs)
first_position p xs d Yes No fails passes None none = sym (first_all p (length xs) (λ k l. passes k l (none k d (omega arith) l)))
first_position p xs d Yes No fails passes (Some i) found =
    sym (first_at p i (length xs) (first_all p i (λ k l. passes k (omega arith) (found.2 k d (omega arith) l))) (fails i found.0 (found.1 d)) found.0)

-- what `all` answers is whether each place passes a test, where its closure answers that test
pub all_places : {B : Type 0} (p : ℕ → Bool) (xs : List B) (d : B) (Yes No : B → Type 0)
    → ((k : ℕ) → k < length xs → Yes (slice_index_or xs k d) → p k ≡ true) → ((k : ℕ) → k < length xs → No (slice_index_or xs k d) → p k ≡ false) → (b : Bool)
    → MatchBool b (AllWithin Yes xs 0 (length xs)) ((k : ℕ) × (k < length xs) × HoldsAt No xs k) → b ≡ all p (length xs)
all_places p xs d Yes No passes fails true each = sym (all_from p (length xs) (λ k l. passes k l (each k d (omega arith) l)))
all_places p xs d Yes No passes fails false (k, l, found) = sym (all_not p k (length xs) (fails k l (found d)) l)
