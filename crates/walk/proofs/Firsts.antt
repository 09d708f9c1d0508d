-- The first move of a list that passes.
use Rattle.std.proofs.Common.{◌≡◌, ℕ, suc, ◌+◌, ◌-◌, ◌<◌, ◌≤◌, Bool, true, false, cond, List, [], ◌∷◌, ◌++◌, drop, pos, Some, None, sym, refl, ap, ◌∙◌, ⊎_elim, arith}
use Rattle.std.specs.List.{range_with_len, flat_map}
use Rattle.std.proofs.lemmas.List.{drop_more, drop_all}
use Rattle.std.proofs.lemmas.Bool.{cases_Bool}
use Rattle.duality.specs.Lists.{places}
use Rattle.walk.specs.Moves.{sizes, both_ways, of_rope, candidates}
use Rattle.walk.specs.Walks.{first}
use Rattle.walk.specs.declared.moves.Move.{Move}
use Rattle.walk.proofs.Sizes.{sizes_long}

pub first_yes : (t : Move → Bool) (m : Move) (ms : List Move) → t m ≡ true → first t (m ∷ ms) ≡ Some m
unfolding first
first_yes t m ms e = ap (λ (b : Bool). cond b (Some m) (first t ms)) e

pub first_no : (t : Move → Bool) (m : Move) (ms : List Move) → t m ≡ false → first t (m ∷ ms) ≡ first t ms
unfolding first
first_no t m ms e = ap (λ (b : Bool). cond b (Some m) (first t ms)) e

pub first_after : (t : Move → Bool) (xs ys : List Move) → first t xs ≡ None → first t (xs ++ ys) ≡ first t ys
first_after t [] ys e = refl
first_after t (x ∷ xs) ys e =
    ⊎_elim
    (λ (h : t x ≡ true). let c : ◌≡◌ {A = ℕ} 0 1 = cc (first_yes t x xs h, e) in absurd (omega arith))
    (λ (h : t x ≡ false). first_no t x (xs ++ ys) h ∙ first_after t xs ys (sym (first_no t x xs h) ∙ e))
    (cases_Bool (t x))

pub first_before : (t : Move → Bool) (xs ys : List Move) (m : Move) → first t xs ≡ Some m → first t (xs ++ ys) ≡ Some m
unfolding first
first_before t [] ys m e = let c : ◌≡◌ {A = ℕ} 0 1 = cc in absurd (omega arith)
first_before t (x ∷ xs) ys m e =
    ⊎_elim
    (λ (h : t x ≡ true). first_yes t x (xs ++ ys) h ∙ (sym (first_yes t x xs h) ∙ e))
    (λ (h : t x ≡ false). first_no t x (xs ++ ys) h ∙ first_before t xs ys m (sym (first_no t x xs h) ∙ e))
    (cases_Bool (t x))

-- the moves of rope k from place i of the table on
abbrev pub left_of : ℕ → ℕ → List Move
left_of k i = flat_map (both_ways k) (drop i sizes)

pub left_start : (k : ℕ) → left_of k 0 ≡ of_rope k
unfolding of_rope
left_start k = refl

pub left_more : (k i : ℕ) → i < 15 →
    left_of k i ≡ both_ways k (places sizes i) ++ left_of k (i + 1)
left_more k i l = ap (flat_map (both_ways k)) (drop_more sizes i (pos 0) (omega (arith, sizes_long)))

pub left_none : (k i : ℕ) → 15 ≤ i → left_of k i ≡ []
left_none k i l = ap (flat_map (both_ways k)) (drop_all i sizes (omega (arith, sizes_long)))

-- the moves of n ropes, from rope k on
abbrev pub ropes_from : ℕ → ℕ → List Move
ropes_from k n = flat_map of_rope (range_with_len k n)

pub ropes_start : (n : ℕ) → ropes_from 0 n ≡ candidates n
unfolding candidates
ropes_start n = refl

pub ropes_more : (k n : ℕ) → k < n → ropes_from k (n - k) ≡ of_rope k ++ ropes_from (k + 1) (n - (k + 1))
ropes_more k n l = let e : n - k ≡ suc (n - (k + 1)) = omega arith in ap (ropes_from k) e

pub ropes_none : (k n : ℕ) → n ≤ k → ropes_from k (n - k) ≡ []
ropes_none k n l = let e : n - k ≡ 0 = omega arith in ap (ropes_from k) e
