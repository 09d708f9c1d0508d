use Rattle.std.proofs.Common.{sym, refl, ap, ◌∙◌, lit<}
use Rattle.duality.specs.Lists.{places}
use Rattle.terms.proofs.Bits.{back_is, small_back}
use Rattle.job.specs.Numbers.{problem_of}
use Rattle.walk.specs.Moves.{sizes}
use Rattle.walk.specs.Lowering.{lowers}
use Rattle.walk.specs.Walks.{first}
use Rattle.walk.proofs.Sizes.{sizes_small}
use Rattle.walk.proofs.Firsts.{left_start, left_none}
use Rattle.walk.proofs.AlongSizes.{way_is, way_small, in_start, hit, miss}
use Rattle.walk.proofs.searches.try_rope.Goals as goal

pub loop-size-init : goal.loop-size-init
loop-size-init c = (refl, ap (first (lowers (problem_of c.args.room.now.job.now) c.args.z.now)) (left_start c.args.rope))

pub loop-by-init : goal.loop-by-init
unfolding sizes
loop-by-init c = (
  c.loop-size.invariant.0,
  in_start (lowers (problem_of c.args.room.now.job.now) c.args.z.now) c.args.rope c.loop-size.size-index _ _ c.loop-size-test.true
      (back_is 16384 (places sizes c.loop-size.size-index) (sizes_small c.loop-size.size-index) (lit< tt)) c.loop-size.invariant.1,
)

pub try_move-requires-clause-movable : goal.try_move-requires-clause-movable
unfolding sizes
try_move-requires-clause-movable c =
    let h = small_back 16384 (places sizes c.loop-size.size-index) (sizes_small c.loop-size.size-index) (lit< tt) in
    record { there = c.requires.rope; small = way_small _ h c.loop-by.by-index c.loop-by-test.true }

pub returns-then-try_move-clause-value : goal.returns-then-try_move-clause-value
unfolding sizes
returns-then-try_move-clause-value c =
    let h = small_back 16384 (places sizes c.loop-size.size-index) (sizes_small c.loop-size.size-index) (lit< tt) in
    hit (problem_of c.args.room.now.job.now) c.args.z.now c.args.rope c.loop-size.size-index _ c.loop-by.by-index c.loop-by-test.true _
    (way_is _ h c.loop-by.by-index c.loop-by-test.true) c.loop-by.invariant.1 c.loop-by.z c.loop-by.invariant.0 c.if-try_move.ensures.value

pub loop-by-preserved : goal.loop-by-preserved
unfolding sizes
loop-by-preserved c =
    let h = small_back 16384 (places sizes c.loop-size.size-index) (sizes_small c.loop-size.size-index) (lit< tt) in (
      c.if-try_move.ensures.point ∙ c.loop-by.invariant.0,
      miss (problem_of c.args.room.now.job.now) c.args.z.now c.args.rope c.loop-size.size-index _ c.loop-by.by-index c.loop-by-test.true _
          (way_is _ h c.loop-by.by-index c.loop-by-test.true) c.loop-by.invariant.1 c.loop-by.z c.loop-by.invariant.0 c.if-try_move.ensures.value,
    )

pub returns-clause-value : goal.returns-clause-value
unfolding first
returns-clause-value c =
    sym (ap (first (lowers (problem_of c.args.room.now.job.now) c.args.z.now)) (left_none c.args.rope c.loop-size.size-index c.loop-size-test.false))
    ∙ c.loop-size.invariant.1
