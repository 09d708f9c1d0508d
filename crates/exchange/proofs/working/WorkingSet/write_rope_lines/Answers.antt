use Rattle.std.proofs.Common.{ℕ, ◌+◌, List, ap, ◌∙◌, arith}
use lib.Ieee.{Float}
use Rattle.job.specs.Numbers.{problem_of}
use Rattle.exchange.specs.Systems.{size_of, floats, rope_line}
use Rattle.exchange.specs.declared.working.WorkingSet.{WorkingSet}
use Rattle.exchange.proofs.Writing.{none_begun, place_long, one_line, all_lines, width_few}
use Rattle.exchange.proofs.working.WorkingSet.write_rope_lines.Goals as goal

abbrev line : WorkingSet → ℕ → List Float
line s r = floats (rope_line (problem_of s.job.now) s.members.now r)

abbrev width : WorkingSet → ℕ
width s = size_of (problem_of s.job.now) s.members.now + 1

pub loop-r-init : goal.loop-r-init
loop-r-init c =
    let s = c.args.self.now in
    none_begun (width s) 0 (line s) (width_few s) c.args.lines.now c.told-lines

pub write_rope_line-requires : goal.write_rope_line-requires
write_rope_line-requires c =
    let s = c.args.self.now in
    record {
      rope = omega (arith, c.requires);
      all = place_long (width s) 0 (line s) (width_few s) _ c.loop-r.r c.loop-r.lines (ap (λ (i : ℕ). i + 1) c.size-width.ensures) (omega arith) (c.loop-r.invariant.1 c.loop-r.r (omega arith));
    }

pub loop-r-preserved : goal.loop-r-preserved
loop-r-preserved c =
    let s = c.args.self.now in
    let e = ap (λ (i : ℕ). i + 1) c.size-width.ensures in
    one_line (width s) 0 (line s) (width_few s) _ c.loop-r.r c.loop-r.lines c.write_rope_line.new.line e (omega arith) c.loop-r.invariant
    (c.write_rope_line.auto.line ∙ place_long (width s) 0 (line s) (width_few s) _ c.loop-r.r c.loop-r.lines e (omega arith) (c.loop-r.invariant.1 c.loop-r.r (omega arith))) c.write_rope_line.ensures

pub returns : goal.returns
returns c =
    let s = c.args.self.now in
    all_lines (width s) (problem_of s.job.now).ropes (line s) (width_few s) c.loop-r.lines (c.loop-r.auto.lines ∙ c.requires) c.loop-r.r (omega (arith, c.requires)) c.loop-r.invariant
