-- How the verdicts on offers are printed.
use Rattle.std.specs.Prelude.{ℕ, List, codes}
use Rattle.calls.specs.declared.answers.Verdict.{Verdict}
use Rattle.calls.specs.declared.answers.Verdict.TheVariants.{Taken, Kept}

abbrev pub name_of : Verdict → List ℕ
name_of Taken = codes "taken"
name_of Kept = codes "kept"
