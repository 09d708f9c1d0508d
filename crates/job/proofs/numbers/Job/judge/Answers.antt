use Rattle.std.proofs.Common.{◌≡◌, ◌^◌, ◌<◌, true, false, sym, ap, ◌∙◌, arith, lit<, length}
use Rattle.std.proofs.lemmas.Bool.{cond-true}
use Rattle.duality.specs.Lists.{places}
use Rattle.job.specs.Numbers.{problem_of}
use Rattle.terms.specs.Findings.{keeps_row, finding}
use Rattle.duality.specs.Tests.{first_not}
use Rattle.terms.proofs.Bits.{back_of}
use Rattle.terms.proofs.Reading.{many_small, hi_item, lo_item}
use Rattle.job.proofs.Reading.{row_small}
use Rattle.duality.proofs.Tests.{first_more, first_at, first_none}
use Rattle.job.proofs.Outside.{meets_is, row_met, row_broken}
use Rattle.job.proofs.numbers.Job.judge.Goals as goal

pub row_at-requires : goal.row_at-requires
row_at-requires c =
    record { row = omega (arith, c.loop-i-test.true, ap length c.deref-lo-items.ensures.0); point = sym c.if-not-is_point.ensures }

pub returns-then-not-between : goal.returns-then-not-between
returns-then-not-between c =
    let p = sym c.if-not-is_point.ensures in
    let l : c.loop-i.i < (problem_of c.args.self.now).rows = omega (arith, c.loop-i-test.true, ap length c.deref-lo-items.ensures.0) in
    let lo = lo_item c.args.self.now.terms c.loop-i.i _ c.deref-lo-items.ensures.0 in
    let hi = hi_item c.args.self.now.terms c.loop-i.i _ c.deref.ensures.0 in
    let s = back_of (2 ^ 54) c.row_at.result _ c.row_at.ensures (row_small c.args.self.now (places c.args.z.now) 1073741824 c.loop-i.i
    (many_small _ 1073741824 c.args.z.now p)) (lit< tt) in
    let no' = meets_is c.args.self.now c.args.z.now c.loop-i.i _ _ _ false lo hi s c.if-not-between.ensures in
    let P = problem_of c.args.self.now in
    let x = places c.args.z.now in
    record {
      value = ap finding (sym (first_at (keeps_row P x) c.loop-i.i (problem_of c.args.self.now).rows c.loop-i.invariant no' l)) ∙ sym (cond-true _ _ _ p);
      law = (l, row_broken P x c.loop-i.i no', λ k l. row_met P x k (first_none (keeps_row P x) c.loop-i.i k c.loop-i.invariant l));
    }

pub loop-i-preserved : goal.loop-i-preserved
loop-i-preserved c =
    let p = sym c.if-not-is_point.ensures in
    let l : c.loop-i.i < (problem_of c.args.self.now).rows = omega (arith, c.loop-i-test.true, ap length c.deref-lo-items.ensures.0) in
    let lo = lo_item c.args.self.now.terms c.loop-i.i _ c.deref-lo-items.ensures.0 in
    let hi = hi_item c.args.self.now.terms c.loop-i.i _ c.deref.ensures.0 in
    let s = back_of (2 ^ 54) c.row_at.result _ c.row_at.ensures (row_small c.args.self.now (places c.args.z.now) 1073741824 c.loop-i.i
    (many_small _ 1073741824 c.args.z.now p)) (lit< tt) in
    first_more (keeps_row (problem_of c.args.self.now) (places c.args.z.now)) c.loop-i.i c.loop-i.invariant
    (meets_is c.args.self.now c.args.z.now c.loop-i.i _ _ _ true lo hi s c.if-not-between.ensures)

pub returns : goal.returns
returns c =
    let e : c.loop-i.i ≡ (problem_of c.args.self.now).rows = omega (arith, c.loop-i-test.false, c.loop-i.auto.i-end, ap length c.deref-lo-items.ensures.0) in
    let all = ap (first_not (keeps_row (problem_of c.args.self.now) (places c.args.z.now))) (sym e) ∙ c.loop-i.invariant in
    record {
      value = ap finding (sym all) ∙ sym (cond-true _ _ _ (sym c.if-not-is_point.ensures));
      law = λ k l. row_met (problem_of c.args.self.now) (places c.args.z.now) k (first_none (keeps_row (problem_of c.args.self.now) (places c.args.z.now))
          (problem_of c.args.self.now).rows k all l);
    }
