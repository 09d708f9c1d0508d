use Rattle.std.proofs.Common.{◌≡◌, ℕ, sym, ap, ◌∙◌, arith}
use Rattle.job.specs.Numbers.{problem_of}
use Rattle.exchange.specs.Breaches.{upto, worse, worst, worst_row, unbroken}
use Rattle.exchange.specs.declared.members.Limit.TheVariants.{Row, Bound}
use Rattle.exchange.proofs.Folds.{upto_more}
use Rattle.exchange.proofs.rounded.Rounded.worst.Goals as goal

pub loop-i-preserved : goal.loop-i-preserved
loop-i-preserved c =
    let P = problem_of c.args.self.now.set.job.now in
    let ms = c.args.self.now.set.members.now in
    let z = c.args.self.now.pulls.now in
    c.worse-best.ensures ∙ ap (λ b. worse P ms z b (Row c.loop-i.i)) c.loop-i.invariant ∙ sym (upto_more (λ b i. worse P ms z b (Row i)) unbroken c.loop-i.i)

pub loop-j-init : goal.loop-j-init
loop-j-init c =
    let P = problem_of c.args.self.now.set.job.now in
    let ms = c.args.self.now.set.members.now in
    let z = c.args.self.now.pulls.now in
    let e : c.loop-i.i ≡ P.rows = omega (arith, c.rows-i-end.ensures) in
    c.loop-i.invariant ∙ ap (λ (n : ℕ). upto (λ b i. worse P ms z b (Row i)) unbroken n) e

pub loop-j-preserved : goal.loop-j-preserved
loop-j-preserved c =
    let P = problem_of c.args.self.now.set.job.now in
    let ms = c.args.self.now.set.members.now in
    let z = c.args.self.now.pulls.now in
    c.worse-best-in-loop-j.ensures ∙ ap (λ b. worse P ms z b (Bound c.loop-j.j)) c.loop-j.invariant ∙ sym (upto_more (λ b i. worse P ms z b (Bound i)) (worst_row P ms z) c.loop-j.j)

pub returns : goal.returns
unfolding worst
returns c =
    let P = problem_of c.args.self.now.set.job.now in
    let ms = c.args.self.now.set.members.now in
    let z = c.args.self.now.pulls.now in
    let e : c.loop-j.j ≡ P.ropes = omega (arith, c.ropes-j-end.ensures) in
    c.loop-j.invariant ∙ ap (λ (n : ℕ). upto (λ b i. worse P ms z b (Bound i)) (worst_row P ms z) n) e
