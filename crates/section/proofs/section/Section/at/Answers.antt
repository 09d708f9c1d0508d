use Rattle.std.proofs.Common.{Some, rules}
use Rattle.section.specs.Sections.{part_of}
use Rattle.section.proofs.Spots.{located_at}
use Rattle.section.proofs.section.Section.at.Goals as goal

pub returns-clause-located : goal.returns-clause-located
returns-clause-located c = located_at c.args.card.now c.args.first c.args.sizes.now.ropes c.args.sizes.now.rows (Some (part_of c.new.result)) (search rules)
