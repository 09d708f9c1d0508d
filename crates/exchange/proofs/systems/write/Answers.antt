use Rattle.std.proofs.Common.{◌≡◌, ℕ, ap, ◌∙◌, arith, lit<}
use lib.Ieee.{Float, nan, binary64, of_int}
use Rattle.std.proofs.lemmas.List.Edits.{fill_by_more}
use Rattle.duality.specs.Lists.{places}
use Rattle.terms.proofs.Bits.{back_is}
use Rattle.exchange.proofs.Writing.{written}
use Rattle.exchange.proofs.systems.write.Goals as goal

pub loop-k-preserved : goal.loop-k-preserved
loop-k-preserved c =
    let xs = c.args.xs.now in
    let k = c.loop-k.k in
    let f : ℕ → Float = λ i. of_int binary64 (places xs i) in
    let e : c.float.result ≡ f k = c.float.ensures ∙ ap (of_int binary64) (back_is 536870912 (places xs k) (c.requires.small k (omega arith)) (lit< tt)) in
    rw e (fill_by_more f c.loop-k.line k nan (omega arith) c.loop-k.invariant)

pub returns : goal.returns
returns c = written c.args.xs.now c.loop-k.line (c.loop-k.auto.line ∙ c.requires.same) (λ i l. c.loop-k.invariant i (omega arith))
