use Rattle.std.proofs.Common.{◌≡◌, ℕ, neg_ℤ, ap, ◌∙◌, arith, lit<}
use lib.Ieee.{Float, nan, binary64, of_int}
use Rattle.std.proofs.lemmas.List.{get_or_default}
use Rattle.std.proofs.lemmas.List.Edits.{fill_by_more}
use Rattle.job.specs.Numbers.{problem_of}
use Rattle.terms.proofs.Bits.{back_is}
use Rattle.exchange.specs.Members.{blank, weight}
use Rattle.exchange.specs.Systems.{member_at}
use Rattle.exchange.specs.declared.members.Member.{Member}
use Rattle.exchange.proofs.Writing.{written_map}
use Rattle.exchange.proofs.working.WorkingSet.write_pushes.Goals as goal

pub loop-k-preserved : goal.loop-k-preserved
loop-k-preserved c =
    let P = problem_of c.args.self.now.job.now in
    let ms = c.args.self.now.members.now in
    let r = c.args.r in
    let k = c.loop-k.k in
    let f : ℕ → Float = λ i. of_int binary64 (neg_ℤ (weight P (member_at ms i).limit r)) in
    let e : c.minus.result ≡ f k =
    c.minus.ensures
    ∙ ap (λ z. of_int binary64 (neg_ℤ z))
    (back_is 536870912 c.weight.result c.weight.ensures.small (lit< tt) ∙ c.weight.ensures.value ∙ ap (λ (w : Member). weight P w.limit r) (get_or_default ms k _ blank (omega arith))) in
    rw e (fill_by_more f c.loop-k.line k nan (omega arith) c.loop-k.invariant)

pub returns : goal.returns
returns c =
    let P = problem_of c.args.self.now.job.now in
    written_map (λ (w : Member). neg_ℤ (weight P w.limit c.args.r)) c.args.self.now.members.now blank c.loop-k.line (c.loop-k.auto.line ∙ c.requires.all) (λ i l. c.loop-k.invariant i (omega arith))
