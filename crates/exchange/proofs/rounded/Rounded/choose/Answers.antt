use Rattle.std.proofs.Common.{◌≡◌, true, false, pos, arith, w64, SFits, rules}
use lib.Signed.{lt_z}
use Rattle.std.proofs.lemmas.Int.{to_z-of_z}
use Rattle.job.specs.Numbers.{problem_of}
use Rattle.exchange.proofs.Choosing.{chosen_enter, chosen_full, chosen_leave, chosen_done}
use Rattle.exchange.proofs.rounded.Rounded.choose.Goals as goal

pub returns-then-self-ropes : goal.returns-then-self-ropes
returns-then-self-ropes c =
    let f : SFits w64 c.worst-breach.result.ticks = search rules in
    let t : lt_z (pos 0) c.worst-breach.result.ticks ≡ true = rw (to_z-of_z w64 _ f) at c.if-breach-gt0.true in
    chosen_enter (problem_of c.args.self.now.set.job.now) c.args.self.now.set.members.now c.args.self.now.pulls.now c.args.self.now.pressures.now c.worst-breach.result c.worst-breach.ensures t
    (omega (arith, c.if-self-ropes.true, c.ropes.ensures))

pub returns-then-breach-gt0 : goal.returns-then-breach-gt0
returns-then-breach-gt0 c =
    let f : SFits w64 c.worst-breach.result.ticks = search rules in
    let t : lt_z (pos 0) c.worst-breach.result.ticks ≡ true = rw (to_z-of_z w64 _ f) at c.if-breach-gt0.true in
    chosen_full (problem_of c.args.self.now.set.job.now) c.args.self.now.set.members.now c.args.self.now.pulls.now c.args.self.now.pressures.now c.worst-breach.result c.worst-breach.ensures t (omega (arith, c.if-self-ropes.false, c.ropes.ensures))

pub returns-then-wrong-gt0 : goal.returns-then-wrong-gt0
returns-then-wrong-gt0 c =
    let f : SFits w64 c.worst-breach.result.ticks = search rules in
    let t : lt_z (pos 0) c.worst-breach.result.ticks ≡ false = rw (to_z-of_z w64 _ f) at c.if-breach-gt0.false in
    chosen_leave (problem_of c.args.self.now.set.job.now) c.args.self.now.set.members.now c.args.self.now.pulls.now c.args.self.now.pressures.now c.worst-breach.result c.worst-breach.ensures
    c.most_wrong-wrong.result c.most_wrong-wrong.ensures t c.if-wrong-gt0.true

pub returns-else-wrong-gt0 : goal.returns-else-wrong-gt0
returns-else-wrong-gt0 c =
    let f : SFits w64 c.worst-breach.result.ticks = search rules in
    let t : lt_z (pos 0) c.worst-breach.result.ticks ≡ false = rw (to_z-of_z w64 _ f) at c.if-breach-gt0.false in
    chosen_done (problem_of c.args.self.now.set.job.now) c.args.self.now.set.members.now c.args.self.now.pulls.now c.args.self.now.pressures.now c.worst-breach.result c.worst-breach.ensures
    c.most_wrong-wrong.result c.most_wrong-wrong.ensures t c.if-wrong-gt0.false
