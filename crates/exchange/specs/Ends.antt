-- How the ends of exchanges are printed.
use Rattle.std.specs.Prelude.{ℕ, List, codes}
use Rattle.exchange.specs.declared.members.End.{End}
use Rattle.exchange.specs.declared.members.End.TheVariants.{Done, Full, Stuck, Spent}

abbrev pub name_of : End → List ℕ
name_of Done = codes "done"
name_of Full = codes "full"
name_of Stuck = codes "stuck"
name_of Spent = codes "spent"
