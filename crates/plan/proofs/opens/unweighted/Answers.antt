use Rattle.std.proofs.Common.{pos, ◌∙◌}
use Rattle.std.proofs.lemmas.List.{take-replicate}
use Rattle.plan.proofs.opens.unweighted.Goals as goal

pub returns-clause-multipliers : goal.returns-clause-multipliers
returns-clause-multipliers c = c.copied-2.ensures ∙ take-replicate c.args.rows 32 (pos 0) c.requires.rows
