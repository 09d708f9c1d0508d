-- A matrix row by row, gathered number by number.
use Rattle.std.proofs.Common.{◌≡◌, ℕ, ◌+◌, ◌*◌, ◌/◌, ◌%◌, ◌<◌, List, length, get_or, ℤ, pos, sym, ap, ◌∙◌, arith}
use Rattle.std.proofs.lemmas.Nat.{div-add-mod', div_below, mod_below}
use Rattle.std.proofs.lemmas.List.{ext_get_or}
use Rattle.duality.specs.Sums.{Matrix}
use Rattle.reading.specs.Plain.{listed}
use Rattle.reading.proofs.Listed.{listed_long, listed_at}

-- a list that has the numbers of a matrix place by place
pub rows_from : (m n : ℕ) (M : Matrix) (xs : List ℤ) → 0 < n → length xs ≡ m * n
    → ((i j : ℕ) → i < m → j < n → M i j ≡ get_or xs (i * n + j) (pos 0)) → listed m n M ≡ xs
rows_from m n M xs some long same =
    ext_get_or (pos 0) (listed m n M) xs (listed_long m n M ∙ sym long)
    (λ q h.
    let all = listed_long m n M in
    let less : q < m * n = omega arith in
    let i : q / n < m = div_below q n m some less in
    let j : q % n < n = mod_below q n some in
    sym (ap (λ (k : ℕ). get_or (listed m n M) k (pos 0)) (div-add-mod' q n))
    ∙ listed_at m n M (q / n) (q % n) i j
    ∙ same (q / n) (q % n) i j
    ∙ ap (λ (k : ℕ). get_or xs k (pos 0)) (div-add-mod' q n))
