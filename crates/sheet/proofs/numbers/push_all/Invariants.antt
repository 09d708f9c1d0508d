use Rattle.std.proofs.Common.{◌≡◌, ◌++◌, take}
use Rattle.sheet.proofs.numbers.push_all.Given as goal

-- the numbers so far stand at the end
abbrev pub invariant-loop-x : goal.invariant-loop-x
invariant-loop-x g l = l.numbers.items ≡ l.initial.numbers.items ++ take l.x-index l.xs
