-- Lists that grow number by number.
use Rattle.std.proofs.Common.{◌≡◌, ℕ, ◌+◌, ◌<◌, ◌≤◌, List, [], ◌∷◌, ◌++◌, length, ℤ, pos, sym, ap, ◌∙◌, ⊎_elim, arith}
use Rattle.std.proofs.lemmas.List.{length_push, get_or_push, get_or_append_left}
use Rattle.std.proofs.lemmas.Bool.{cases_lt}
use Rattle.duality.specs.Lists.{places}
use Rattle.duality.specs.Sums.{Vector}
use Rattle.walk.specs.Running.{Lists}

pub lists_none : (xs : List ℤ) (v : Vector) → xs ≡ [] → Lists 0 xs v
lists_none xs v e = (ap length e, λ k l. absurd (omega arith))

pub lists_more : (n : ℕ) (xs ys : List ℤ) (v : Vector) (x : ℤ) → Lists n xs v → ys ≡ xs ++ x ∷ [] → x ≡ v n → Lists (n + 1) ys v
lists_more n xs ys v x h e ex = (
  ap length e ∙ length_push xs x ∙ ap (λ (k : ℕ). k + 1) h.0,
  λ k l.
      ap (λ (zs : List ℤ). places zs k) e
      ∙ ⊎_elim
      (λ (lt : k < n). get_or_append_left xs (x ∷ []) (pos 0) k (omega (arith, h.0)) ∙ h.1 k lt)
      (λ (ge : n ≤ k). let q : k ≡ n = omega arith in get_or_push xs x (pos 0) k (h.0 ∙ sym q) ∙ ex ∙ ap v (sym q))
      (cases_lt k n),
)

pub lists_all : (i n : ℕ) (xs : List ℤ) (v : Vector) → i ≡ n → Lists i xs v → Lists n xs v
lists_all i n xs v e h = rw e at h
