use Rattle.std.proofs.Common.{◌≡◌, ℕ, ◌+◌, ◌*◌, ◌-◌, List, map, take, drop, ℤ, neg_ℤ, nat_abs, ap, ◌∙◌, arith, lit<}
use lib.Ieee.{binary64, of_int}
use Rattle.std.specs.List.{range_with_len}
use Rattle.duality.specs.Lists.{places}
use Rattle.job.specs.Numbers.{problem_of}
use Rattle.terms.proofs.Bits.{back_is}
use Rattle.job.proofs.Reading.{g_small}
use Rattle.exchange.specs.Members.{weight}
use Rattle.exchange.specs.Systems.{floats}
use Rattle.exchange.specs.declared.members.Member.{Member}
use Rattle.exchange.proofs.Writing.{row_run, small_run, line_joined}
use Rattle.exchange.proofs.working.WorkingSet.write_rope_line.Goals as goal

pub write-requires-clause-small : goal.write-requires-clause-small
write-requires-clause-small c =
    let j = c.args.self.now.job.now in
    let n = c.ropes-ropes.result in
    small_run 536870912 ((c.args.r + 1) * n - c.args.r * n) (c.args.r * n) c.deref.result.now (λ k. omega (arith, ap (λ (z : List ℤ). nat_abs (places z k)) c.deref.ensures.0, g_small j k))

pub returns : goal.returns
returns c =
    let j = c.args.self.now.job.now in
    let P = problem_of j in
    let ms = c.args.self.now.members.now in
    let r = c.args.r in
    let n = P.ropes in
    let g = j.g.items in
    let s = c.split_at_mut-coefficients.ensures in
    let t = c.split_at_mut-pushes.ensures in
    let m : (r + 1) * n - r * n ≡ n = omega arith in
    let run =
    ap (λ (z : List ℤ). take ((r + 1) * c.ropes-ropes.result - r * c.ropes-ropes.result) (drop (r * c.ropes-ropes.result) z)) c.deref.ensures.0
    ∙ ap (λ (i : ℕ). take ((r + 1) * i - r * i) (drop (r * i) g)) c.ropes-ropes.ensures
    ∙ ap (λ (i : ℕ). take i (drop (r * n) g)) m
    ∙ row_run n r g c.requires.rope j.matrix.0 in
    let right = c.minus.ensures ∙ ap (λ z. of_int binary64 (neg_ℤ z)) (back_is 536870912 c.price.result c.price.ensures.small (lit< tt) ∙ c.price.ensures.value) in
    line_joined (map (P.G r) (range_with_len 0 n)) (map (λ (w : Member). neg_ℤ (weight P w.limit r)) ms) (neg_ℤ (P.c r)) c.write.new.line c.write_pushes.new.line c.split_at_mut-pushes.result.1.now c.minus.result
    (c.write.ensures ∙ ap floats run) c.write_pushes.ensures right (omega (arith, s.back_len, t.back_len, c.requires.all, c.ropes-ropes.ensures))
