use Rattle.std.proofs.Common.{◌≡◌, ℕ, map, length, replicate, pos, ap, ◌∙◌, arith, lit<}
use lib.Ieee.{binary64, of_int, of_bits}
use Rattle.std.specs.List.{range_with_len}
use Rattle.job.specs.Numbers.{problem_of}
use Rattle.terms.proofs.Bits.{back_is}
use Rattle.exchange.specs.Members.{weight, held_at}
use Rattle.exchange.proofs.Writing.{zeros, line_joined}
use Rattle.exchange.proofs.working.WorkingSet.write_member_line.Goals as goal

pub returns : goal.returns
returns c =
    let P = problem_of c.args.self.now.job.now in
    let m = length c.args.self.now.members.now in
    let w = c.args.member in
    let s = c.split_at_mut-weights.ensures in
    let t = c.split_at_mut-zeros.ensures in
    let l : length c.split_at_mut-zeros.result.0.now ≡ m = omega (arith, s.back_len, t.front_len, c.requires.all, c.ropes.ensures) in
    let none = c.fill.ensures.after (λ y e. e) ∙ ap (λ (i : ℕ). replicate i (of_bits binary64 0)) l ∙ zeros m in
    let right = c.float.ensures ∙ ap (of_int binary64) (back_is 536870912 c.held_at.result c.held_at.ensures.small (lit< tt) ∙ c.held_at.ensures.value) in
    line_joined (map (weight P w.limit) (range_with_len 0 P.ropes)) (replicate m (pos 0)) (held_at P w) c.write_weights.new.line c.fill.new.self c.split_at_mut-zeros.result.1.now c.float.result
    c.write_weights.ensures none right (omega (arith, s.back_len, t.back_len, c.requires.all, c.ropes.ensures))
