use Rattle.std.proofs.Common.{false, sym, refl}
use Rattle.std.proofs.lemmas.Bool.{both_ways}
use Rattle.job.specs.Numbers.{problem_of}
use Rattle.walk.proofs.Alone.{alone}
use Rattle.walk.proofs.Answered.{walked_not, stays, walked_is, walked_to_is}
use Rattle.walk.proofs.Lawful.{lawful}
use Rattle.walk.proofs.walks.walk.Goals as goal

pub returns-then-not-in_bounds : goal.returns-then-not-in_bounds
returns-then-not-in_bounds c =
    let no' = sym c.if-not-in_bounds.ensures.value in
    record {
      value = walked_not (problem_of c.args.job.now) c.args.budget c.args.point.now no';
      point = stays (problem_of c.args.job.now) c.args.budget c.args.point.now no';
      law = tt;
      alone = tt;
      refused = (λ h. both_ways false refl (c.if-not-in_bounds.ensures.law.1 h), refl);
    }

pub descend-requires : goal.descend-requires
descend-requires c = c.if-not-in_bounds.ensures.law.0 refl

pub returns : goal.returns
returns c =
    let i = sym c.if-not-in_bounds.ensures.value in
    let e = c.descend.ensures in
    let law = lawful (problem_of c.args.job.now) c.args.budget c.args.point.now c.descend.new.z _ (c.if-not-in_bounds.ensures.law.0 refl) e in
    record {
      value = walked_is (problem_of c.args.job.now) c.args.budget c.args.point.now c.descend.new.z _ i e;
      point = walked_to_is (problem_of c.args.job.now) c.args.budget c.args.point.now c.descend.new.z _ i e;
      law = law;
      alone = alone (problem_of c.args.job.now) c.args.budget c.args.point.now c.descend.new.z _ law;
      refused = tt;
    }
