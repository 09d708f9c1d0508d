use Rattle.std.proofs.Common.{◌≡◌, ◌+◌, ◌++◌, map, length, drop, ap, ◌∙◌, arith}
use Rattle.std.proofs.lemmas.List.{length-take-le}
use Rattle.std.specs.List.{range_with_len}
use Rattle.job.specs.Numbers.{problem_of}
use Rattle.elimination.specs.Lines.{seen}
use Rattle.exchange.specs.Systems.{size_of, rope_line, floats, system_of}
use Rattle.exchange.proofs.Writing.{seen_parts}
use Rattle.exchange.proofs.working.WorkingSet.fill_square.Goals as goal

pub returns : goal.returns
unfolding system_of
returns c =
    let s = c.args.self.now in
    let P = problem_of s.job.now in
    let ms = s.members.now in
    let w = size_of P ms + 1 in
    let t = c.split_at_mut-ropes.ensures in
    let rest = c.split_at_mut-ropes.result.1.now in
    let a : length c.write_rope_lines.new.lines ≡ P.ropes = c.write_rope_lines.auto.lines ∙ omega (arith, t.front_len, c.ropes.ensures) in
    let b : length c.write_member_lines.new.lines ≡ length ms =
    c.write_member_lines.auto.lines ∙ length-take-le (length ms) rest (omega (arith, t.back_len, c.ropes.ensures, s.job.now.terms.some.1, s.few)) in
    seen_parts w P.ropes (length ms) c.write_rope_lines.new.lines c.write_member_lines.new.lines (drop (length ms) rest) a b
    ∙ ap (λ z. z ++ seen w c.write_member_lines.new.lines) c.write_rope_lines.ensures
    ∙ ap (λ z. map (λ r. floats (rope_line P ms r)) (range_with_len 0 P.ropes) ++ z) c.write_member_lines.ensures
