-- Loops that fold, and searches through members.
use Rattle.std.proofs.Common.{◌≡◌, ℕ, ◌+◌, ◌<◌, ◌≤◌, true, false, ◌||◌, List, [], ◌∷◌, length, get_or, drop, ℤ, pos, sym, refl, ap, ◌∙◌, ◌⊎◌, inl, inr, add-one, arith}
use Rattle.std.proofs.Math.Nat.{add-zero}
use Rattle.std.proofs.lemmas.List.{get_or-drop, drop-drop, length-drop}
use Rattle.std.specs.List.{list_any}
use Rattle.exchange.specs.Breaches.{same, holds, upto}
use Rattle.exchange.specs.Offers.{pressure_of, inside_limit}
use Rattle.exchange.specs.declared.members.Limit.{Limit}
use Rattle.exchange.specs.declared.members.Member.{Member}

pub upto_more : {X : Type 0} (f : X → ℕ → X) (x : X) (n : ℕ) → upto f x (n + 1) ≡ f (upto f x n) n
upto_more f x n = rw add-one

pub holds_any : (ms : List Member) (v : Limit) → list_any (λ (m : Member). same m.limit v) ms ≡ holds ms v
holds_any [] v = refl
holds_any (m ∷ ms) v = ap (λ z. same m.limit v || z) (holds_any ms v)

module _ (m : Member) (y : ℤ) (v : Limit) (ms us : List Member) (ys zs : List ℤ) (e : ms ≡ m ∷ us) (f : ys ≡ y ∷ zs) where
  pub pressure_more : same m.limit v ≡ false → pressure_of ms ys v ≡ pressure_of us zs v
  pressure_more h = rw (e, f, h)

  pub pressure_here : same m.limit v ≡ true → pressure_of ms ys v ≡ inside_limit y
  pressure_here h = rw (e, f, h)

pub pressure_none : (ms : List Member) (ys : List ℤ) (v : Limit) → (ms ≡ []) ⊎ (ys ≡ []) → pressure_of ms ys v ≡ pos 0
pressure_none [] ys v h = refl
pressure_none (m ∷ ms) [] v h = refl
pressure_none (m ∷ ms) (y ∷ ys) v (inl e) = cc
pressure_none (m ∷ ms) (y ∷ ys) v (inr e) = cc

-- what is left of a list, one step on and at the end
module _ {X : Type 0} (xs ys us : List X) (x : X) (k : ℕ) (e : ys ≡ drop k xs) (f : ys ≡ x ∷ us) where
  pub next_here : (d : X) → get_or xs k d ≡ x
  next_here d = ap (λ (n : ℕ). get_or xs n d) (sym (add-zero k)) ∙ sym (get_or-drop k xs 0 d) ∙ ap (λ z. get_or z 0 d) (sym e ∙ f)

  pub next_left : us ≡ drop (k + 1) xs
  next_left = ap (drop 1) (sym f ∙ e) ∙ drop-drop 1 k xs

  pub next_within : k < length xs
  next_within = let q = ap length (sym f ∙ e) ∙ length-drop k xs in omega (arith, q)

pub none_left : {X : Type 0} (xs : List X) (k : ℕ) → drop k xs ≡ [] → length xs ≤ k
none_left xs k e = let q = sym (length-drop k xs) ∙ ap length e in omega (arith, q)
