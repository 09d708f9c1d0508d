use Rattle.std.proofs.Common.{◌≡◌, true, ◌&&◌, ltb, nat_abs, ap, ◌∙◌, subst, arith, w64, SFits, rules, lt-ltb}
use Rattle.std.proofs.lemmas.Int.{to_z-of_z}
use Rattle.std.proofs.lemmas.Bool.{and_from}
use Rattle.duality.specs.Lists.{places}
use Rattle.duality.specs.Tests.{many_within}
use Rattle.job.proofs.Given.{given, given_is}
use Rattle.job.proofs.Reading.{row_small}
use Rattle.job.specs.Numbers.{problem_of}
use Rattle.terms.proofs.Reading.{many_small}
use Rattle.exchange.specs.Members.{Of}
use Rattle.exchange.specs.declared.members.Limit.{Limit}
use Rattle.exchange.proofs.rounded.Rounded.value_at.Goals as goal

pub unwrap-requires : goal.unwrap-requires
unwrap-requires c =
    let j = c.args.self.now.set.job.now in
    let P : Limit → Type 0 = Of (problem_of j).ropes (problem_of j).rows in
    given _ _ _ c.row_sum.ensures (and_from _ _ (lt-ltb _ _ (subst P c.in-Row.is c.requires)) c.args.self.now.point)

pub returns-in-Row-clause-small : goal.returns-in-Row-clause-small
returns-in-Row-clause-small c =
    let j = c.args.self.now.set.job.now in
    let z = c.args.self.now.pulls.now in
    let i = c.in-Row.i in
    let P : Limit → Type 0 = Of (problem_of j).ropes (problem_of j).rows in
    let h = subst P c.in-Row.is c.requires in
    let f : SFits w64 c.unwrap.result = search rules in
    let b : (ltb i (problem_of j).rows && many_within (problem_of j).ropes 1073741824 z) ≡ true = and_from _ _ (lt-ltb _ _ h) c.args.self.now.point in
    let e = to_z-of_z w64 _ f ∙ given_is _ _ _ _ c.row_sum.ensures b c.unwrap.ensures in
    omega (arith, ap nat_abs e, row_small j (places z) 1073741824 i (many_small (problem_of j).ropes 1073741824 z c.args.self.now.point))

pub returns-in-Bound-clause-small : goal.returns-in-Bound-clause-small
returns-in-Bound-clause-small c =
    let j = c.args.self.now.set.job.now in
    let z = c.args.self.now.pulls.now in
    let f : SFits w64 (places z c.in-Bound.j) = search rules in
    omega (arith, ap nat_abs (to_z-of_z w64 _ f), many_small (problem_of j).ropes 1073741824 z c.args.self.now.point c.in-Bound.j)
