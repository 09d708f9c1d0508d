use Rattle.job.specs.Numbers.{problem_of}
use Rattle.plan.proofs.Walking.{walk_answers, walk_ends}
use Rattle.plan.proofs.solves.walk_down.Goals as goal

pub unwrap-requires : goal.unwrap-requires
unwrap-requires c = walk_answers (problem_of c.args.job.now) c.args.budget c.args.at.now c.walk.result c.requires c.walk.ensures.value

pub returns-clause-value : goal.returns-clause-value
returns-clause-value c =
    walk_ends (problem_of c.args.job.now) c.args.budget c.args.at.now c.walk.result c.requires c.walk.ensures.value c.walk.new.point c.unwrap.result
    c.walk.ensures.point c.unwrap.ensures
