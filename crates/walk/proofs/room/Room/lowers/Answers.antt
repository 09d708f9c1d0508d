use Rattle.std.proofs.Common.{sym, ap, ◌∙◌, w64, SFits, to_z, rules}
use Rattle.std.proofs.lemmas.Int.{to_z-of_z}
use Rattle.terms.proofs.Bits.{back}
use Rattle.walk.proofs.Looking.{looks_are, looks_not}
use Rattle.walk.proofs.room.Room.lowers.Goals as goal

pub returns-then-gain-ge0 : goal.returns-then-gain-ge0
returns-then-gain-ge0 c =
    let fo : SFits w64 c.args.self.now.rows.outside = search rules in
    let fb : SFits w64 c.gain_after-gain.result = search rules in
    let e = c.shift-shift.ensures in
    looks_not c.args.self.now.job.now c.args.self.now c.args.m _ _ _ c.gain_after-gain.result _ e.job e.rope e.by
    (sym (to_z-of_z w64 _ fo) ∙ ap (to_z w64) c.if-self-eq0.true) c.gain_after-gain.ensures (to_z-of_z w64 _ fb) c.if-gain-ge0.true

pub returns : goal.returns
returns c =
    let fo : SFits w64 c.args.self.now.rows.outside = search rules in
    let fa : SFits w64 c.outside_after-after.result = search rules in
    let fb : SFits w64 c.gain_after-gain.result = search rules in
    let e = c.shift-shift.ensures in
    looks_are c.args.self.now.job.now c.args.self.now c.args.m _ _ _ (back c.args.self.now.rows.outside) c.outside_after-after.result _ c.gain_after-gain.result _ c.lower.result
    e.job e.rope e.by (to_z-of_z w64 _ fo) c.outside_after-after.ensures (to_z-of_z w64 _ fa) c.gain_after-gain.ensures (to_z-of_z w64 _ fb) c.lower.ensures
