use Rattle.std.proofs.Common.{◌≡◌, ◌+◌, ◌*◌, length, get_or, ℤ, pos, ap, ◌∙◌, arith, w32, SFits, rules, below_more}
use lib.Seq.{paste}
use Rattle.std.proofs.lemmas.Int.{to_z-of_z}
use Rattle.block.specs.Bytes.{bytes4}
use Rattle.block.proofs.Laying.{numbers_more}
use Rattle.block.proofs.writes.put_numbers.Goals as goal

pub loop-j-preserved : goal.loop-j-preserved
loop-j-preserved c =
    let z : ℤ = get_or c.args.numbers.now c.loop-j.j (pos 0) in
    let fits : SFits w32 z = search rules in
    let same : c.to_le_bytes.result ≡ bytes4 z = c.to_le_bytes.ensures ∙ ap bytes4 (to_z-of_z w32 z fits) in
    let at = 4 + c.loop-j.j * 4 in (
      c.put.ensures
          ∙ (ap (λ b. paste c.loop-j.bytes at b (length b)) same
          ∙ (ap (λ o. paste o at (bytes4 z) 4) c.loop-j.invariant.0
          ∙ numbers_more c.args.bytes.now c.args.numbers.now c.loop-j.j (omega arith) (omega arith) (omega arith))),
      below_more (λ k. SFits w32 (get_or c.args.numbers.now k (pos 0))) c.loop-j.j c.loop-j.invariant.1 fits,
    )
