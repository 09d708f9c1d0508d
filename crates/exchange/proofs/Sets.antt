-- A working set that a member enters or leaves.
use Rattle.std.proofs.Common.{◌≡◌, ℕ, zero, suc, ◌+◌, ◌<◌, ◌≤◌, Bool, true, false, ◌||◌, List, [], ◌∷◌, ◌++◌, length, get_or, take, drop, sym, refl, ap, ◌∙◌, ⊎_elim, add-one, arith, ltb-true, lt-ltb}
use Rattle.std.proofs.lemmas.List.Edits.{length-remove, get_or-remove_below, get_or-remove_above}
use Rattle.std.proofs.lemmas.List.{length-append, get_or_append_left, get_or_push, take-append-le, take_at, take-take, length-take-le}
use Rattle.std.proofs.lemmas.Bool.{cases_lt, or_parts, or_from}
use Rattle.std.specs.List.{remove}
use Rattle.exchange.specs.Members.{Of, OfAll, is_of, Fitting}
use Rattle.exchange.specs.Breaches.{same, holds, Apart}
use Rattle.exchange.specs.declared.members.Limit.{Limit}
use Rattle.exchange.specs.declared.members.Limit.TheVariants.{Row, Bound}
use Rattle.exchange.specs.declared.members.Member.{Member}

pub of_is : (n m : ℕ) (v : Limit) → is_of n m v ≡ true → Of n m v
of_is n m (Row i) e = ltb-true i m e
of_is n m (Bound j) e = ltb-true j n e

pub is_of_lem : (n m : ℕ) (v : Limit) → Of n m v → is_of n m v ≡ true
is_of_lem n m (Row i) h = lt-ltb i m h
is_of_lem n m (Bound j) h = lt-ltb j n h

pub of_all : (n m : ℕ) (ms : List Member) → Fitting n m ms → OfAll n m ms
of_all n m ms h k d l = of_is n m (get_or ms k d).limit (h k d l)

-- a place before the end, or the end
place : {A : Type 0} (k n : ℕ) → k < n + 1 → (k < n → A) → (k ≡ n → A) → A
place k n l f g = ⊎_elim f (λ h. g (omega arith)) (cases_lt k n)

pub fitting_push : (n m : ℕ) (ms : List Member) (w : Member) → Fitting n m ms → Of n m w.limit → Fitting n m (ms ++ w ∷ [])
fitting_push n m ms w h o k d l =
    place k (length ms) (omega (arith, length-append ms (w ∷ [])))
    (λ a. ap (λ z. is_of n m z.limit) (get_or_append_left ms (w ∷ []) d k a) ∙ h k d a)
    (λ e. ap (λ z. is_of n m z.limit) (get_or_push ms w d k (sym e)) ∙ is_of_lem n m w.limit o)

pub fitting_removed : (n m : ℕ) (ms : List Member) (i : ℕ) → i < length ms → Fitting n m ms → Fitting n m (remove ms i)
fitting_removed n m ms i t h k d l =
    let r = length-remove ms i t in
    ⊎_elim
    (λ a. ap (λ z. is_of n m z.limit) (get_or-remove_below ms i d k a t) ∙ h k d (omega arith))
    (λ b. ap (λ z. is_of n m z.limit) (get_or-remove_above ms i d k b t) ∙ h (k + 1) d (omega arith))
    (cases_lt k i)

holds-++ : (xs ys : List Member) (v : Limit) → holds (xs ++ ys) v ≡ (holds xs v || holds ys v)
holds-++ [] ys v = refl
holds-++ (x ∷ xs) ys v = ap (λ z. same x.limit v || z) (holds-++ xs ys v) ∙ sym (or_assoc (same x.limit v) (holds xs v) (holds ys v))
  where
    or_assoc : (a b c : Bool) → ((a || b) || c) ≡ (a || (b || c))
    or_assoc true b c = refl
    or_assoc false b c = refl

pub apart_push : (ms : List Member) (w : Member) → Apart ms → holds ms w.limit ≡ false → Apart (ms ++ w ∷ [])
apart_push ms w h o k d l =
    place k (length ms) (omega (arith, length-append ms (w ∷ [])))
    (λ a. let t = take-append-le k ms (w ∷ []) (omega arith) in let g = get_or_append_left ms (w ∷ []) d k a in rw (t, g) (h k d a))
    (λ e. let t = take_at ms (w ∷ []) k (sym e) in let g = get_or_push ms w d k (sym e) in rw (t, g) o)

-- what the first k of a set hold once the member at i has left is held by the first k + 1 of before
fewer : (ms : List Member) (i k : ℕ) (v : Limit) → i ≤ k → k < length ms → holds (take (suc k) ms) v ≡ false → holds (take k (remove ms i)) v ≡ false
fewer [] i k v a b e = absurd (omega arith)
fewer (x ∷ ms) zero k v a b e = (or_parts (same x.limit v) (holds (take k ms) v) e).1
fewer (x ∷ ms) (suc i) zero v a b e = absurd (omega arith)
fewer (x ∷ ms) (suc i) (suc k) v a b e =
    let p = or_parts (same x.limit v) (holds (take (suc k) ms) v) e in
    or_from (same x.limit v) (holds (take k (remove ms i)) v) p.0 (fewer ms i k v (omega arith) (omega arith) p.1)

take_removed_below : (ms : List Member) (i k : ℕ) → k ≤ i → i < length ms → take k (remove ms i) ≡ take k ms
take_removed_below ms i k l t = take-append-le k (take i ms) (drop (suc i) ms) (omega (arith, length-take-le i ms (omega arith))) ∙ take-take k i ms l

pub apart_removed : (ms : List Member) (i : ℕ) → i < length ms → Apart ms → Apart (remove ms i)
apart_removed ms i t h k d l =
    let r = length-remove ms i t in
    ⊎_elim
    (λ a. let g = get_or-remove_below ms i d k a t in let p = take_removed_below ms i k (omega arith) t in rw (p, g) (h k d (omega arith)))
    (λ b.
    let g = get_or-remove_above ms i d k b t in
    let e : holds (take (suc k) ms) (get_or ms (k + 1) d).limit ≡ false = ap (λ (n : ℕ). holds (take n ms) (get_or ms (k + 1) d).limit) (sym (add-one k)) ∙ h (k + 1) d (omega arith) in
    rw g (fewer ms i k (get_or ms (k + 1) d).limit b (omega arith) e))
    (cases_lt k i)
