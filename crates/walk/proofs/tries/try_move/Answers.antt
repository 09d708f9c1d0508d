use Rattle.std.proofs.Common.{arith}
use Rattle.std.proofs.lemmas.Int.{ints}
use Rattle.terms.proofs.Reading.{l_item, u_item}
use Rattle.walk.proofs.Following.{point_small, tame}
use Rattle.walk.proofs.Tried.{refused, accepted, point_is}
use Rattle.walk.proofs.tries.try_move.Goals as goal

pub overflow_add-next : goal.overflow_add-next
overflow_add-next c = omega (arith, ints, point_small c.args.room.now.job.now _ c.requires.inside c.args.m.rope, c.requires.movable.small)

pub returns-then-not-between-clause-value : goal.returns-then-not-between-clause-value
returns-then-not-between-clause-value c =
    let zs = point_small c.args.room.now.job.now _ c.requires.inside c.args.m.rope in
    refused c.args.room.now.job.now c.args.z.now c.args.m _ _ _ c.between.result
    (l_item c.args.room.now.job.now.terms c.args.m.rope _ c.deref.ensures.0)
    (u_item c.args.room.now.job.now.terms c.args.m.rope _ c.deref-2.ensures.0) (omega (arith, ints, c.requires.movable.small)) c.between.ensures
    c.if-not-between.true

pub probe-requires : goal.probe-requires
probe-requires c =
    record {
      tame = tame c.args.room.now.job.now _ _ c.requires.inside c.requires.tracks;
      movable = c.requires.movable;
      near = point_small c.args.room.now.job.now _ c.requires.inside c.args.m.rope;
    }

pub returns : goal.returns
returns c =
    let zs = point_small c.args.room.now.job.now _ c.requires.inside c.args.m.rope in
    record {
      value = accepted c.args.room.now.job.now c.args.z.now c.args.m _ _ _ c.between.result
          (l_item c.args.room.now.job.now.terms c.args.m.rope _ c.deref.ensures.0)
          (u_item c.args.room.now.job.now.terms c.args.m.rope _ c.deref-2.ensures.0) (omega (arith, ints, c.requires.movable.small)) c.between.ensures
          c.args.room.now c.probe.result c.requires.inside c.requires.tracks c.requires.movable.there c.if-not-between.false c.probe.ensures.value;
      point = point_is c.args.z.now c.args.m.rope _ c.probe.new.spot _ c.probe.ensures.after;
    }
