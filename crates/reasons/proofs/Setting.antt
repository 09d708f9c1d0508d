-- One number of a list set to another: what still holds of the list.
use Rattle.std.proofs.Common.{◌≡◌, ℕ, ◌<◌, true, ◌&&◌, ◌≢◌, List, length, set, ℤ, pos, ap, ◌∙◌, ⊎_elim, arith, length-set, get_or-set_other, get_or-set_same}
use lib.Signed.{le_z}
use Rattle.std.proofs.lemmas.Bool.{cases_eq, and_parts}
use Rattle.duality.specs.Lists.{places}
use Rattle.duality.specs.Tests.{within, all_within, in_order}
use Rattle.duality.proofs.Tests.{all_from, all_at}
use Rattle.calls.specs.Refusing.{ordered}

pub within_set : (limit : ℕ) (xs : List ℤ) (i : ℕ) (v : ℤ) → i < length xs → within limit v ≡ true → all_within limit xs ≡ true → all_within limit (set xs i v) ≡ true
within_set limit xs i v lt new old =
    all_from (λ k. within limit (places (set xs i v) k)) (length (set xs i v))
    (λ k l. ⊎_elim
    (λ (e : k ≡ i). ap (within limit) (ap (places (set xs i v)) e ∙ get_or-set_same xs i v (pos 0) lt) ∙ new)
    (λ (ne : k ≢ i). ap (within limit) (get_or-set_other xs i k v (pos 0) ne) ∙ all_at (λ k. within limit (places xs k)) (length xs) k old (omega (arith, length-set xs i v)))
    (cases_eq k i))

pub order_set : (lows highs : List ℤ) (i : ℕ) (l h : ℤ) → i < length lows → i < length highs → le_z l h ≡ true → in_order lows highs ≡ true
    → in_order (set lows i l) (set highs i h) ≡ true
order_set lows highs i l h ll lh new old =
    all_from (λ k. le_z (places (set lows i l) k) (places (set highs i h) k)) (length (set lows i l))
    (λ k b. ⊎_elim
    (λ (e : k ≡ i).
    let el : places (set lows i l) k ≡ l = ap (places (set lows i l)) e ∙ get_or-set_same lows i l (pos 0) ll in
    let eh : places (set highs i h) k ≡ h = ap (places (set highs i h)) e ∙ get_or-set_same highs i h (pos 0) lh in
    rw (el, eh) new)
    (λ (ne : k ≢ i).
    let el : places (set lows i l) k ≡ places lows k = get_or-set_other lows i k l (pos 0) ne in
    let eh : places (set highs i h) k ≡ places highs k = get_or-set_other highs i k h (pos 0) ne in
    rw (el, eh) (all_at (λ k. le_z (places lows k) (places highs k)) (length lows) k old (omega (arith, length-set lows i l))))
    (cases_eq k i))

pub ordered_parts : (limit : ℕ) (low high : ℤ) → ordered limit low high ≡ true → (within limit low ≡ true) × (within limit high ≡ true) × (le_z low high ≡ true)
ordered_parts limit low high e =
    let p = and_parts (within limit low && within limit high) (le_z low high) e in
    let q = and_parts (within limit low) (within limit high) p.0 in
    (q.0, q.1, p.1)
