-- What writing a job answers, and what it leaves.
use Rattle.std.specs.Prelude.{ℕ, cond, List, ◌++◌, drop, Some, None, Ok, Err, Option, Result, nat_le}
use Rattle.std.specs.Option.{option_or}
use Rattle.block.specs.declared.fault.Fault.TheVariants.{Short}
use Rattle.table.specs.Grid.{Grid}
use Rattle.opening.specs.Opening.{Numbers, open_fault}
use Rattle.opening.specs.declared.refusal.Refusal.{Refusal}
use Rattle.opening.specs.declared.refusal.Refusal.TheVariants.{Card}
use Rattle.opening.specs.Firsts.{unless}
use Rattle.sheet.specs.Numbers.{card_for, bytes_for}

-- opening's refusals, then a list that is too short
abbrev pub write_refusal : Grid → Grid → Numbers → ℕ → Option Refusal
write_refusal g a x room = option_or (open_fault g a x) (cond (nat_le (bytes_for g a) room) None (Some (Card (Short (bytes_for g a)))))

-- how many bytes the card has
abbrev pub write_answer : Grid → Grid → Numbers → ℕ → Result ℕ Refusal
write_answer g a x room = unless (write_refusal g a x room) (bytes_for g a)

-- the card and then the bytes that stood past it, or the list as it stood
abbrev pub write_after : Grid → Grid → Numbers → List ℕ → Result ℕ Refusal → List ℕ
write_after g a x out (Ok used) = card_for g a x ++ drop used out
write_after g a x out (Err refusal) = out
