use Rattle.std.proofs.Common.{◌<◌, ◌∙◌, arith, w64, SFits, rules}
use Rattle.std.proofs.lemmas.Int.{to_z-of_z}
use Rattle.std.proofs.lemmas.Bool.{and_from, lt-ltb}
use Rattle.job.proofs.Given.{given, given_is}
use Rattle.job.proofs.Reading.{wider}
use Rattle.job.specs.Numbers.{problem_of}
use Rattle.walk.proofs.Following.{a_point}
use Rattle.walk.proofs.Listing.{lists_none, lists_more, lists_all}
use Rattle.walk.proofs.sums.RowSums.at.Goals as goal

pub loop-i-init : goal.loop-i-init
loop-i-init c = lists_none _ _ c.new-sums.ensures

pub unwrap-requires : goal.unwrap-requires
unwrap-requires c =
    let l : c.loop-i.i < (problem_of c.args.job.now).rows = omega (arith, c.rows-i-end.ensures, c.loop-i-test.true) in
    let p = wider (problem_of c.args.job.now).ropes c.args.z.now (a_point c.args.job.now c.args.z.now c.requires) in
    given _ _ _ c.row_sum.ensures (and_from _ _ (lt-ltb _ _ l) p)

pub loop-i-preserved : goal.loop-i-preserved
loop-i-preserved c =
    let f : SFits w64 c.unwrap.result = search rules in
    let l : c.loop-i.i < (problem_of c.args.job.now).rows = omega (arith, c.rows-i-end.ensures, c.loop-i-test.true) in
    let p = wider (problem_of c.args.job.now).ropes c.args.z.now (a_point c.args.job.now c.args.z.now c.requires) in
    lists_more c.loop-i.i _ _ _ _ c.loop-i.invariant c.push.ensures.items
    (to_z-of_z w64 _ f ∙ given_is _ _ _ _ c.row_sum.ensures (and_from _ _ (lt-ltb _ _ l) p) c.unwrap.ensures)

pub unwrap-outside-requires : goal.unwrap-outside-requires
unwrap-outside-requires c = given _ _ _ c.outside.ensures.value (a_point c.args.job.now c.args.z.now c.requires)

pub returns : goal.returns
returns c =
    let f : SFits w64 c.unwrap-outside.result = search rules in
    record {
      sums = lists_all c.loop-i.i (problem_of c.args.job.now).rows _ _ (omega (arith, c.rows-i-end.ensures, c.loop-i-test.false, c.loop-i.auto.i-end)) c.loop-i.invariant;
      outside = to_z-of_z w64 _ f ∙ given_is _ _ _ _ c.outside.ensures.value (a_point c.args.job.now c.args.z.now c.requires) c.unwrap-outside.ensures;
    }
