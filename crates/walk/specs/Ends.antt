-- How the ends of walks are printed.
use Rattle.std.specs.Prelude.{ℕ, List, codes}
use Rattle.walk.specs.declared.ends.End.{End}
use Rattle.walk.specs.declared.ends.End.TheVariants.{Settled, Spent}

abbrev pub name_of : End → List ℕ
name_of Settled = codes "settled"
name_of Spent = codes "spent"
