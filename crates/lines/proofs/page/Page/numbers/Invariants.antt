use Rattle.std.proofs.Common.{◌≡◌, ◌++◌, take}
use Rattle.lines.proofs.Spreading.{spread}
use Rattle.lines.proofs.page.Page.numbers.Given as goal

abbrev pub invariant-loop-z : goal.invariant-loop-z
invariant-loop-z l = l.self.text.bytes ≡ l.initial.self.text.bytes ++ spread (take l.z-index l.numbers)
