use Rattle.std.proofs.Common.{sym, refl, ◌∙◌, arith}
use Rattle.job.specs.Numbers.{problem_of}
use Rattle.walk.proofs.AlongSizes.{inside_at, tracks_at}
use Rattle.walk.proofs.AlongRopes.{either_stands, ropes_holds, ropes_end, rope_hit, rope_miss, rope_point, miss_point}
use Rattle.walk.proofs.searches.search.Goals as goal

pub loop-rope-init : goal.loop-rope-init
loop-rope-init c = (refl, ropes_holds (problem_of c.args.room.now.job.now) c.args.z.now)

pub try_rope-found-requires : goal.try_rope-found-requires
try_rope-found-requires c =
    record {
      inside = inside_at _ _ _ c.loop-rope.invariant.0 c.requires.inside;
      tracks = tracks_at _ _ _ _ c.loop-rope.invariant.0 c.requires.tracks;
      rope = omega (arith, c.ropes-rope-end.ensures, c.loop-rope-test.true);
    }

pub returns-then-is_some : goal.returns-then-is_some
returns-then-is_some c =
    record {
      value = rope_hit (problem_of c.args.room.now.job.now) c.args.z.now c.loop-rope.z c.loop-rope.rope c.try_rope-found.result c.loop-rope.invariant.0 (omega (arith, c.ropes-rope-end.ensures, c.loop-rope-test.true)) c.loop-rope.invariant.1
          c.try_rope-found.ensures.value c.if-is_some.ensures;
      point = rope_point c.args.z.now c.loop-rope.z c.try_rope-found.new.z c.try_rope-found.result c.args.may c.loop-rope.invariant.0 c.try_rope-found.ensures.point;
    }

pub loop-rope-preserved : goal.loop-rope-preserved
loop-rope-preserved c = (
  miss_point c.args.z.now c.loop-rope.z c.try_rope-found.new.z c.try_rope-found.result c.args.may c.loop-rope.invariant.0 c.try_rope-found.ensures.point
      c.if-is_some.ensures,
  rope_miss (problem_of c.args.room.now.job.now) c.args.z.now c.loop-rope.z c.loop-rope.rope c.try_rope-found.result c.loop-rope.invariant.0 (omega (arith, c.ropes-rope-end.ensures, c.loop-rope-test.true)) c.loop-rope.invariant.1
      c.try_rope-found.ensures.value c.if-is_some.ensures,
)

pub returns : goal.returns
returns c =
    record {
      value = ropes_end (problem_of c.args.room.now.job.now) c.args.z.now c.loop-rope.rope (omega (arith, c.ropes-rope-end.ensures, c.loop-rope-test.false)) c.loop-rope.invariant.1;
      point = c.loop-rope.invariant.0 ∙ sym (either_stands c.args.may c.args.z.now);
    }
