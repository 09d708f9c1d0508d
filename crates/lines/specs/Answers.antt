-- What is refused, what is answered, and what stands in the list after it.
use Rattle.std.specs.Prelude.{ℕ, cond, List, ◌++◌, length, drop, ℤ, Some, None, Ok, Err, Option, Result, nat_le}
use Rattle.duality.specs.Lists.{places}
use Rattle.duality.specs.Tests.{first_not, within}
use Rattle.lines.specs.declared.unwritten.Unwritten.{Unwritten}
use Rattle.lines.specs.declared.unwritten.Unwritten.TheVariants.{Short, Many, Far}

abbrev pub Check : Type 0
Check = Result (Unit {0}) Unwritten

-- every text fits 320 bytes
abbrev pub room_check : ℕ → Check
room_check bytes = cond (nat_le 320 bytes) (Ok tt) (Err (Short 320))

-- the first place whose number lies beyond ±32768
abbrev pub first_far : List ℤ → Option ℕ
first_far z = first_not (λ k. within 32768 (places z k)) (length z)

abbrev pub near_check : Option ℕ → Check
near_check None = Ok tt
near_check (Some k) = Err (Far k)

abbrev pub point_check : List ℤ → Check
point_check z = cond (nat_le (length z) 16) (near_check (first_far z)) (Err (Many (length z)))

-- the first refusal of two
abbrev pub or_else : Check → Check → Check
or_else (Ok _) c = c
or_else (Err e) c = Err e

abbrev pub sheet_check : List ℕ → List ℤ → Check
sheet_check out z = or_else (room_check (length out)) (point_check z)

-- how many bytes the text has
abbrev pub answered : Check → List ℕ → Result ℕ Unwritten
answered (Ok _) text = Ok (length text)
answered (Err e) text = Err e

-- the text and then the bytes that stood past it, or the list as it stood
abbrev pub list_after : Check → List ℕ → List ℕ → List ℕ
list_after (Ok _) text out = text ++ drop (length text) out
list_after (Err e) text out = out
