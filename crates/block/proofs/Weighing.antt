-- The weighed sum of a front of a list, one byte on.
use Rattle.std.proofs.Common.{◌≡◌, ℕ, suc, ◌+◌, ◌*◌, ◌<◌, List, [], ◌∷◌, ◌++◌, length, get_or, take, ap, ◌∙◌, arith}
use Rattle.std.proofs.lemmas.List.{take_more, length-take-le}
use Rattle.block.specs.Blocks.{weighed}

pub weighed_push : (k : ℕ) (xs : List ℕ) (y : ℕ) → weighed k (xs ++ y ∷ []) ≡ weighed k xs + (k + length xs + 1) * y
weighed_push k [] y = omega arith
weighed_push k (x ∷ xs) y =
    let e : k + 1 + length xs + 1 ≡ k + suc (length xs) + 1 = omega arith in
    omega (arith, weighed_push (k + 1) xs y, ap (λ n. n * y) e)

pub weighed_more : (xs : List ℕ) (i : ℕ) → i < length xs → weighed 0 (take (i + 1) xs) ≡ weighed 0 (take i xs) + (i + 1) * get_or xs i 0
weighed_more xs i h =
    ap (weighed 0) (take_more xs i 0 h) ∙ (weighed_push 0 (take i xs) (get_or xs i 0)
    ∙ ap (λ n. weighed 0 (take i xs) + (n + 1) * get_or xs i 0) (let e : length (take i xs) ≡ i = length-take-le i xs (omega arith) in omega arith))
