use Rattle.std.proofs.Common.{◌≡◌, true, false, sym, w64, SFits, rules}
use lib.Signed.{lt_z}
use Rattle.std.proofs.lemmas.Int.{to_z-of_z}
use Rattle.job.specs.Numbers.{problem_of}
use Rattle.exchange.proofs.Choosing.{worse_held, worse_taken, worse_left}
use Rattle.exchange.proofs.rounded.Rounded.worse.Goals as goal
use Rattle.exchange.proofs.rounded.Rounded.worse.Goals.{else-other-best-via-then-other-best+else-not-holds, else-other-best-via-else-other-best}

pub returns-then-not-holds : goal.returns-then-not-holds
returns-then-not-holds c =
    let fb : SFits w64 c.args.best.ticks = search rules in
    let fo : SFits w64 c.breach-other.result.ticks = search rules in
    let t : lt_z c.args.best.ticks c.breach-other.result.ticks ≡ true = rw (to_z-of_z w64 _ fb, to_z-of_z w64 _ fo) at c.if-other-best.true in
    worse_taken (problem_of c.args.self.now.set.job.now) c.args.self.now.set.members.now c.args.self.now.pulls.now c.args.best c.args.limit c.breach-other.result
    (sym c.if-not-holds.ensures) c.breach-other.ensures t

pub returns-else-other-best : goal.returns-else-other-best
returns-else-other-best c =
    let P = problem_of c.args.self.now.set.job.now in
    let ms = c.args.self.now.set.members.now in
    let z = c.args.self.now.pulls.now in
    elim c.else-other-best.branch [
      | else-other-best-via-then-other-best+else-not-holds w ↦ worse_held P ms z c.args.best c.args.limit (sym w.if-not-holds.ensures)
      | else-other-best-via-else-other-best w ↦
          let fb : SFits w64 c.args.best.ticks = search rules in
          let fo : SFits w64 c.breach-other.result.ticks = search rules in
          let t : lt_z c.args.best.ticks c.breach-other.result.ticks ≡ false = rw (to_z-of_z w64 _ fb, to_z-of_z w64 _ fo) at w.if-other-best.false in
          worse_left P ms z c.args.best c.args.limit c.breach-other.result c.breach-other.ensures t
    ]
