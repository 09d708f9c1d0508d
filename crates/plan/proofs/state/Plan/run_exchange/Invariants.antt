use Rattle.std.proofs.Common.{◌≡◌}
use Rattle.job.specs.Numbers.{problem_of}
use Rattle.plan.specs.Solves.{ReadOf}
use Rattle.plan.specs.Standing.{Stands}
use Rattle.plan.specs.View.{view}
use Rattle.plan.proofs.Solving.{Exchanging}
use Rattle.plan.proofs.state.Plan.run_exchange.Given as goal

abbrev pub invariant-loop-k : goal.invariant-loop-k
invariant-loop-k g l =
    Exchanging (problem_of l.job) l.budget l.k (view g.G.Table.meant g.A.Table.meant l.initial.self) (view g.G.Table.meant g.A.Table.meant l.self)
    l.initial.at l.at l.exchange.members.items l.exchange.smallest
    × Stands (view g.G.Table.meant g.A.Table.meant l.self) l.bests
    × ReadOf (view g.G.Table.meant g.A.Table.meant l.self) l.job
    × (l.exchange.job.now ≡ l.job)
