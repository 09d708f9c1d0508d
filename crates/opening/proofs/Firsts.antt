-- The first of several answers: a loop's step, its exits, and what it says where there is none.
use Rattle.std.proofs.Common.{◌≡◌, ℕ, zero, suc, ◌<◌, ◌≤◌, Bool, true, false, cond, Some, None, Option, refl, ap, ◌∙◌, ⊎_elim, arith, Ok, Err}
use Rattle.std.proofs.lemmas.Bool.{cases_lt}
use Rattle.std.specs.Option.{option_or, option_map}
use Rattle.duality.specs.Tests.{first_not}
use Rattle.duality.proofs.Tests.{first_at}
use Rattle.opening.specs.Firsts.{first_of, unless}
use Rattle.opening.specs.declared.refusal.Refusal.{Refusal}

pub of_at : {X : Type 0} (f : ℕ → Option X) (i n : ℕ) (x : X) → first_of f i ≡ None → f i ≡ Some x → i < n → first_of f n ≡ Some x
of_at f i zero x e g h = absurd (omega arith)
of_at f i (suc n) x e g h =
    ⊎_elim
    (λ (lt : i < n). let d : first_of f n ≡ Some x = of_at f i n x e g lt in cc)
    (λ (le : n ≤ i). let q : n ≡ i = omega arith in let d : first_of f n ≡ None = rw q e in let t : f n ≡ Some x = rw q g in cc)
    (cases_lt i n)

pub or_none : {X : Type 0} (o p : Option X) → option_or o p ≡ None → (o ≡ None) × (p ≡ None)
or_none None p e = (refl, e)
or_none (Some x) p e = let z : ◌≡◌ {A = ℕ} 0 1 = cc in absurd (omega arith)

pub or_both : {X : Type 0} (o p : Option X) → o ≡ None → p ≡ None → option_or o p ≡ None
or_both o p e d = rw e d

pub of_none : {X : Type 0} (f : ℕ → Option X) (n k : ℕ) → first_of f n ≡ None → k < n → f k ≡ None
of_none f zero k e l = absurd (omega arith)
of_none f (suc n) k e l =
    let h = or_none (first_of f n) (f n) e in
    ⊎_elim
    (λ (lt : k < n). of_none f n k h.0 lt)
    (λ (le : n ≤ k). let q : k ≡ n = omega arith in rw q h.1)
    (cases_lt k n)

pub of_all : {X : Type 0} (f : ℕ → Option X) (n : ℕ) → ((k : ℕ) → k < n → f k ≡ None) → first_of f n ≡ None
of_all f zero h = refl
of_all f (suc n) h = or_both (first_of f n) (f n) (of_all f n (λ k l. h k (omega arith))) (h n (omega arith))

pub mapped_none : {X Y : Type 0} (f : X → Y) (o : Option X) → option_map f o ≡ None → o ≡ None
mapped_none f None e = refl
mapped_none f (Some x) e = let z : ◌≡◌ {A = ℕ} 0 1 = cc in absurd (omega arith)

pub cond_none : {X : Type 0} (b : Bool) (x : X) → cond b None (Some x) ≡ None → b ≡ true
cond_none true x e = refl
cond_none false x e = let z : ◌≡◌ {A = ℕ} 0 1 = cc in absurd (omega arith)

-- a loop that stops at the first place that fails
pub stops_at : {Y : Type 0} (f : ℕ → Y) (p : ℕ → Bool) (i n : ℕ) → first_not p i ≡ None → p i ≡ false → i < n → option_map f (first_not p n) ≡ Some (f i)
stops_at f p i n e t l = ap (option_map f) (first_at p i n e t l)

-- none of six answers is given
pub six_none : {X : Type 0} (s t l m o p : Option X) → option_or (option_or (option_or (option_or (option_or s t) l) m) o) p ≡ None →
    (s ≡ None) × (t ≡ None) × (l ≡ None) × (m ≡ None) × (o ≡ None) × (p ≡ None)
six_none s t l m o p e =
    let a = or_none (option_or (option_or (option_or (option_or s t) l) m) o) p e in
    let b = or_none (option_or (option_or (option_or s t) l) m) o a.0 in
    let c = or_none (option_or (option_or s t) l) m b.0 in
    let d = or_none (option_or s t) l c.0 in
    let f = or_none s t d.0 in
    (f.0, f.1, d.1, c.1, b.1, a.1)

pub six_in : {X : Type 0} (s t l m o p : Option X) → s ≡ None → t ≡ None → l ≡ None → m ≡ None → o ≡ None → p ≡ None →
    option_or (option_or (option_or (option_or (option_or s t) l) m) o) p ≡ None
six_in s t l m o p es et el em eo ep = rw (es, et, el, em, eo, ep)

-- a loop along rows and columns that refuses at the first place that fails
pub refused_at : {X : Type 0} (x : X) (F : ℕ → ℕ → Refusal) (f : ℕ → Option Refusal) (p : ℕ → ℕ → Bool) (m n : ℕ) → ((i : ℕ) → f i ≡ option_map (F i) (first_not (p i) n))
    → (i j : ℕ) → first_of f i ≡ None → i < m → first_not (p i) j ≡ None → p i j ≡ false → j < n → Err (F i j) ≡ unless (first_of f m) x
refused_at x F f p m n line i j rows h row t w =
    let here : f i ≡ Some (F i j) = line i ∙ stops_at (F i) (p i) j n row t w in
    let first : first_of f m ≡ Some (F i j) = of_at f i m (F i j) rows here h in
    cc

-- where a check passed, there is no reason to refuse
pub none_of : {X : Type 0} (o : Option Refusal) (x y : X) → Ok y ≡ unless o x → o ≡ None
none_of None x y e = refl
none_of (Some f) x y e = let z : ◌≡◌ {A = ℕ} 0 1 = cc in absurd (omega arith)
