use Rattle.std.proofs.Common.{◌≡◌, ℕ, ap, ◌∙◌, arith, lit<}
use lib.Ieee.{Float, nan, binary64, of_int}
use Rattle.std.proofs.lemmas.List.Edits.{fill_by_more}
use Rattle.job.specs.Numbers.{problem_of}
use Rattle.terms.proofs.Bits.{back_is}
use Rattle.exchange.specs.Members.{weight}
use Rattle.exchange.proofs.Writing.{written_range}
use Rattle.exchange.proofs.working.WorkingSet.write_weights.Goals as goal

pub loop-j-preserved : goal.loop-j-preserved
loop-j-preserved c =
    let P = problem_of c.args.self.now.job.now in
    let k = c.loop-j.j in
    let f : ℕ → Float = λ i. of_int binary64 (weight P c.args.limit i) in
    let e : c.float.result ≡ f k = c.float.ensures ∙ ap (of_int binary64) (back_is 536870912 c.weight.result c.weight.ensures.small (lit< tt) ∙ c.weight.ensures.value) in
    rw e (fill_by_more f c.loop-j.line k nan (omega arith) c.loop-j.invariant)

pub returns : goal.returns
returns c =
    let P = problem_of c.args.self.now.job.now in
    written_range (weight P c.args.limit) P.ropes c.loop-j.line (c.loop-j.auto.line ∙ c.requires.all) (λ i l. c.loop-j.invariant i (omega (arith, c.requires.all)))
