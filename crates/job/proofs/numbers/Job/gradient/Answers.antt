use Rattle.std.proofs.Common.{◌^◌, ◌<◌, sym, arith, lit<}
use Rattle.std.proofs.lemmas.Bool.{lt-ltb, and_from}
use Rattle.duality.specs.Lists.{places}
use Rattle.job.specs.Numbers.{problem_of}
use Rattle.terms.proofs.Bits.{fits}
use Rattle.terms.proofs.Reading.{c_item}
use Rattle.job.proofs.Reading.{answered}
use Rattle.job.proofs.Scoring.{along_back, across_back, both_small, twice_fits, gradient_fits, gradient_is}
use Rattle.job.proofs.Gradient.{cost_change}
use Rattle.job.proofs.numbers.Job.gradient.Goals as goal

pub overflow_add-result : goal.overflow_add-result
overflow_add-result c =
    let p = sym c.if-is_point.ensures in
    let x = along_back c.args.self.now c.args.z.now p c.args.j c.along.result c.along.ensures in
    let y = across_back c.args.self.now c.args.z.now p c.args.j c.across.result c.across.ensures in
    fits (2 ^ 40) _ (both_small c.args.self.now c.args.z.now p c.args.j _ _ x y) (lit< tt)

pub overflow_mul-result : goal.overflow_mul-result
overflow_mul-result c =
    twice_fits c.args.self.now c.args.z.now (sym c.if-is_point.ensures) c.args.j _ (c_item c.args.self.now.terms c.args.j _ c.deref.ensures.0)

pub overflow_add-result-then-is_point : goal.overflow_add-result-then-is_point
overflow_add-result-then-is_point c =
    let p = sym c.if-is_point.ensures in
    let x = along_back c.args.self.now c.args.z.now p c.args.j c.along.result c.along.ensures in
    let y = across_back c.args.self.now c.args.z.now p c.args.j c.across.result c.across.ensures in
    gradient_fits c.args.self.now c.args.z.now p c.args.j _ _ _ x y (c_item c.args.self.now.terms c.args.j _ c.deref.ensures.0)

pub returns-then-is_point : goal.returns-then-is_point
returns-then-is_point c =
    let p = sym c.if-is_point.ensures in
    let x = along_back c.args.self.now c.args.z.now p c.args.j c.along.result c.along.ensures in
    let y = across_back c.args.self.now c.args.z.now p c.args.j c.across.result c.across.ensures in
    let l : c.args.j < (problem_of c.args.self.now).ropes = omega (arith, c.if-j-ropes.true, c.ropes.ensures) in
    let g = gradient_is c.args.self.now c.args.z.now p c.args.j _ _ _ x y (c_item c.args.self.now.terms c.args.j _ c.deref.ensures.0) in
    record {
      value = answered _ _ _ (and_from _ _ (lt-ltb _ _ l) p) g;
      law = cost_change (problem_of c.args.self.now) (places c.args.z.now) c.args.j _ l g;
    }
