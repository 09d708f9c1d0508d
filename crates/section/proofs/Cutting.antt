-- A part of a list that is cut at the list's own end.
use Rattle.std.proofs.Common.{◌≡◌, ℕ, ◌+◌, ◌-◌, ◌<◌, ◌≤◌, min, List, length, take, drop, sym, ap, ◌∙◌, ⊎_elim, arith}
use Rattle.std.proofs.lemmas.List.{take_all, drop_all, length-drop}
use Rattle.std.proofs.lemmas.Bool.{cases_lt}

drop_cut : (xs : List ℕ) (p from : ℕ) → from ≡ min (length xs) p → drop from xs ≡ drop p xs
drop_cut xs p from e =
    ⊎_elim
    (λ (past : length xs < p). let all : length xs ≤ from = omega arith in drop_all from xs all ∙ sym (drop_all p xs (omega arith)))
    (λ (within : p ≤ length xs). let same : from ≡ p = omega arith in ap (λ n. drop n xs) same)
    (cases_lt (length xs) p)

take_cut : (ys : List ℕ) (q size : ℕ) → size ≡ min (length ys) q → take size ys ≡ take q ys
take_cut ys q size e =
    ⊎_elim
    (λ (short : length ys < q). let all : length ys ≤ size = omega arith in take_all size ys all ∙ sym (take_all q ys (omega arith)))
    (λ (long : q ≤ length ys). let same : size ≡ q = omega arith in ap (λ n. take n ys) same)
    (cases_lt (length ys) q)

pub part_cut : (xs : List ℕ) (p q from to : ℕ) → from ≡ min (length xs) p → to ≡ min (length xs) (from + q) → take (to - from) (drop from xs) ≡ take q (drop p xs)
part_cut xs p q from to e f =
    let left : length (drop from xs) ≡ length xs - from = length-drop from xs in
    take_cut (drop from xs) q (to - from) (omega arith) ∙ ap (take q) (drop_cut xs p from e)
