-- Lists as vectors: a write is a shift of one place.
use Rattle.std.proofs.Common.{◌≡◌, ℕ, ◌<◌, ◌≤◌, List, length, set, ℤ, pos, ◌+ℤ◌, ◌∙◌, arith, get_or-set_other, get_or-set_same}
use Rattle.duality.specs.Lists.{places}
use Rattle.duality.proofs.Shifts.{Shift}

pub set_shift : (n j : ℕ) (d v : ℤ) (xs : List ℤ) → j < n → n ≤ length xs → v ≡ places xs j +ℤ d → Shift n j d (places xs) (places (set xs j v))
set_shift n j d v xs l h e =
    record {
      inside = l;
      at = get_or-set_same xs j v (pos 0) (omega arith) ∙ e;
      off = λ k m ne. get_or-set_other xs j k v (pos 0) ne;
    }
