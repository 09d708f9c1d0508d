-- What the parts of a solve rest on.
use Rattle.std.specs.Prelude.{◌≡◌}
use Rattle.job.specs.declared.numbers.Job.{Job}
use Rattle.job.specs.Numbers.{numbers_of}
use Rattle.reading.specs.Plain.{plain}
use Rattle.calls.specs.States.{State}

-- the job was read of the tables and the numbers in force
abbrev pub ReadOf : State → Job → Type 0
ReadOf s j = numbers_of j ≡ plain s.g s.a s.numbers
