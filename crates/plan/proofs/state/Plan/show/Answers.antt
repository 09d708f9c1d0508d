use Rattle.std.proofs.Common.{rules}
use Rattle.calls.proofs.Showing.{show_law, show_honest}
use Rattle.plan.specs.View.{view}
use Rattle.plan.proofs.state.Plan.show.Goals as goal

pub returns-in-Some-default-clause-law : goal.returns-in-Some-default-clause-law
returns-in-Some-default-clause-law g c = show_law (view g.G.Table.meant g.A.Table.meant c.args.self.now) c.args.out.now _ _ (search rules) (search rules)

pub returns-in-None-Some-clause-law : goal.returns-in-None-Some-clause-law
returns-in-None-Some-clause-law g c = show_law (view g.G.Table.meant g.A.Table.meant c.args.self.now) c.args.out.now _ _ (search rules) (search rules)

pub returns-in-None-None-clause-law : goal.returns-in-None-None-clause-law
returns-in-None-None-clause-law g c = show_law (view g.G.Table.meant g.A.Table.meant c.args.self.now) c.args.out.now _ _ (search rules) (search rules)

pub returns-in-Some-default-clause-fair_law : goal.returns-in-Some-default-clause-fair_law
returns-in-Some-default-clause-fair_law g c = show_honest (view g.G.Table.meant g.A.Table.meant c.args.self.now) c.args.out.now _ _ (search rules) (search rules)

pub returns-in-None-Some-clause-fair_law : goal.returns-in-None-Some-clause-fair_law
returns-in-None-Some-clause-fair_law g c = show_honest (view g.G.Table.meant g.A.Table.meant c.args.self.now) c.args.out.now _ _ (search rules) (search rules)

pub returns-in-None-None-clause-fair_law : goal.returns-in-None-None-clause-fair_law
returns-in-None-None-clause-fair_law g c = show_honest (view g.G.Table.meant g.A.Table.meant c.args.self.now) c.args.out.now _ _ (search rules) (search rules)
