-- What a check answers, case by case.
use Rattle.std.proofs.Common.{◌≡◌, ℕ, List, length, ℤ, Ok, sym, ap, ◌∙◌}
use Rattle.lines.specs.Answers.{room_check, point_check, or_else, sheet_check}

pub both_pass : (out : List ℕ) (z : List ℤ) → Ok tt ≡ room_check (length out) → Ok tt ≡ point_check z → sheet_check out z ≡ Ok tt
both_pass out z room point = ap (λ c. or_else c (point_check z)) (sym room) ∙ sym point
