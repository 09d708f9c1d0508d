-- Tests over places: a loop's step, its exits, and what a passed test says of each place.
use Rattle.std.proofs.Common.{◌≡◌, ℕ, zero, suc, ◌+◌, ◌<◌, ◌≤◌, Bool, true, false, List, length, ℤ, pos, nat_abs, ◌≤ℤ◌, ◌<ℤ◌, Some, None, Option, refl, ap, ⊎_elim, add-one, arith}
use lib.Signed.{le_z}
use Rattle.std.proofs.lemmas.List.{get_or_past}
use Rattle.std.proofs.lemmas.Int.{ints}
use Rattle.std.proofs.lemmas.Bool.{cases_lt, and_parts, and_from, and_left, and_right, leb-true}
use Rattle.duality.specs.Lists.{places}
use Rattle.duality.specs.Tests.{all, or_here, first_not, within, all_within, between, in_order}

pub all_more : (p : ℕ → Bool) (i : ℕ) → all p i ≡ true → p i ≡ true → all p (i + 1) ≡ true
all_more p i e t = rw add-one (and_from (all p i) (p i) e t)

pub all_not : (p : ℕ → Bool) (i n : ℕ) → p i ≡ false → i < n → all p n ≡ false
all_not p i zero f l = absurd (omega arith)
all_not p i (suc n) f l =
    ⊎_elim
    (λ (lt : i < n). and_left (all p n) (p n) (all_not p i n f lt))
    (λ (le : n ≤ i). let q : n ≡ i = omega arith in and_right (all p n) (p n) (rw q f))
    (cases_lt i n)

pub all_at : (p : ℕ → Bool) (n k : ℕ) → all p n ≡ true → k < n → p k ≡ true
all_at p zero k e l = absurd (omega arith)
all_at p (suc n) k e l =
    ⊎_elim
    (λ (lt : k < n). all_at p n k (and_parts (all p n) (p n) e).0 lt)
    (λ (le : n ≤ k). let q : k ≡ n = omega arith in rw q (and_parts (all p n) (p n) e).1)
    (cases_lt k n)

pub all_from : (p : ℕ → Bool) (n : ℕ) → ((k : ℕ) → k < n → p k ≡ true) → all p n ≡ true
all_from p zero h = refl
all_from p (suc n) h = and_from (all p n) (p n) (all_from p n (λ k l. h k (omega arith))) (h n (omega arith))

pub first_more : (p : ℕ → Bool) (i : ℕ) → first_not p i ≡ None → p i ≡ true → first_not p (i + 1) ≡ None
first_more p i e t = rw (add-one, first_not, e, t)

pub first_at : (p : ℕ → Bool) (i n : ℕ) → first_not p i ≡ None → p i ≡ false → i < n → first_not p n ≡ Some i
first_at p i zero e f h = absurd (omega arith)
first_at p i (suc n) e f h =
    ⊎_elim
    (λ (lt : i < n). let d : first_not p n ≡ Some i = first_at p i n e f lt in cc)
    (λ (le : n ≤ i). let q : n ≡ i = omega arith in let d : first_not p n ≡ None = rw q e in let t : p n ≡ false = rw q f in cc)
    (cases_lt i n)

pub first_none : (p : ℕ → Bool) (n k : ℕ) → first_not p n ≡ None → k < n → p k ≡ true
first_none p zero k e l = absurd (omega arith)
first_none p (suc n) k e l =
    let h = passed (first_not p n) (p n) n e in
    ⊎_elim
    (λ (lt : k < n). first_none p n k h.0 lt)
    (λ (le : n ≤ k). let q : k ≡ n = omega arith in rw q h.1)
    (cases_lt k n)
  where
    passed : (o : Option ℕ) (b : Bool) (n : ℕ) → or_here o b n ≡ None → (o ≡ None) × (b ≡ true)
    passed None true n e = (refl, refl)
    passed None false n e = let c : ◌≡◌ {A = ℕ} 0 1 = cc in absurd (omega arith)
    passed (Some k) b n e = let c : ◌≡◌ {A = ℕ} 0 1 = cc in absurd (omega arith)

-- past the end a list has 0, so a limit holds of every place
pub within_at : (limit : ℕ) (xs : List ℤ) (k : ℕ) → all_within limit xs ≡ true → nat_abs (places xs k) ≤ limit
within_at limit xs k e =
    ⊎_elim
    (λ (lt : k < length xs). leb-true _ _ (all_at (λ i. within limit (places xs i)) (length xs) k e lt))
    (λ (le : length xs ≤ k). omega (arith, ap nat_abs (get_or_past xs k (pos 0) le)))
    (cases_lt k (length xs))

pub le_le_z : (a b : ℤ) → a ≤ℤ b → le_z a b ≡ true
le_le_z a b h = grind (arith, ints)

pub lt_le_z : (a b : ℤ) → b <ℤ a → le_z a b ≡ false
lt_le_z a b h = grind (arith, ints)

pub le_z_le : (a b : ℤ) → le_z a b ≡ true → a ≤ℤ b
le_z_le a b h = grind (arith, ints)

pub ordered_at : (lows highs : List ℤ) (k : ℕ) → in_order lows highs ≡ true → k < length lows → places lows k ≤ℤ places highs k
ordered_at lows highs k e l = le_z_le _ _ (all_at (λ i. le_z (places lows i) (places highs i)) (length lows) k e l)

pub between_parts : (low high x : ℤ) → between low high x ≡ true → (low ≤ℤ x) × (x ≤ℤ high)
between_parts low high x e =
    let p = and_parts (le_z low x) (le_z x high) e in
    (le_z_le low x p.0, le_z_le x high p.1)

pub between_from : (low high x : ℤ) → low ≤ℤ x → x ≤ℤ high → between low high x ≡ true
between_from low high x h k = and_from (le_z low x) (le_z x high) (le_le_z low x h) (le_le_z x high k)
