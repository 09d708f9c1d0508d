use Rattle.std.proofs.Common.{◌<◌, ◌∙◌, arith, w64, SFits, rules}
use Rattle.std.proofs.lemmas.Int.{to_z-of_z}
use Rattle.std.proofs.lemmas.Bool.{and_from, lt-ltb}
use Rattle.job.proofs.Given.{given, given_is}
use Rattle.job.specs.Numbers.{problem_of}
use Rattle.walk.proofs.Following.{a_point}
use Rattle.walk.proofs.Listing.{lists_none, lists_more, lists_all}
use Rattle.walk.proofs.slopes.Slopes.at.Goals as goal

pub loop-k-init : goal.loop-k-init
loop-k-init c = lists_none _ _ c.new-slopes.ensures

pub unwrap-requires : goal.unwrap-requires
unwrap-requires c =
    let l : c.loop-k.k < (problem_of c.args.job.now).ropes = omega (arith, c.ropes-k-end.ensures, c.loop-k-test.true) in
    given _ _ _ c.gradient.ensures.value (and_from _ _ (lt-ltb _ _ l) (a_point c.args.job.now c.args.z.now c.requires))

pub loop-k-preserved : goal.loop-k-preserved
loop-k-preserved c =
    let f : SFits w64 c.unwrap.result = search rules in
    let l : c.loop-k.k < (problem_of c.args.job.now).ropes = omega (arith, c.ropes-k-end.ensures, c.loop-k-test.true) in
    lists_more c.loop-k.k _ _ _ _ c.loop-k.invariant c.push.ensures.items
    (to_z-of_z w64 _ f
    ∙ given_is _ _ _ _ c.gradient.ensures.value (and_from _ _ (lt-ltb _ _ l) (a_point c.args.job.now c.args.z.now c.requires)) c.unwrap.ensures)

pub returns : goal.returns
returns c = lists_all c.loop-k.k (problem_of c.args.job.now).ropes _ _ (omega (arith, c.ropes-k-end.ensures, c.loop-k-test.false, c.loop-k.auto.k-end)) c.loop-k.invariant
