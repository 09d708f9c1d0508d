use Rattle.std.proofs.Common.{◌≡◌, ℕ, ◌<◌, length, ℤ, pos, ◌∙◌, arith, w64, SFits, rules}
use Rattle.std.proofs.lemmas.Int.{to_z-of_z}
use Rattle.std.proofs.lemmas.List.FromFn.{fill_by_all}
use Rattle.std.proofs.lemmas.List.Edits.{fill_by_more}
use Rattle.terms.proofs.Bits.{back}
use Rattle.exchange.specs.Offers.{pressure_of}
use Rattle.exchange.specs.declared.members.Limit.TheVariants.{Row}
use Rattle.exchange.proofs.rounded.Rounded.fill_multipliers.Goals as goal

pub loop-i-preserved : goal.loop-i-preserved
loop-i-preserved c =
    let f : ℕ → ℤ = λ i. pressure_of c.args.self.now.set.members.now c.args.self.now.pressures.now (Row i) in
    let fit : SFits w64 c.pressure_of.result = search rules in
    let e : back c.pressure_of.result ≡ f c.loop-i.i = to_z-of_z w64 _ fit ∙ c.pressure_of.ensures in
    let h : c.loop-i.i < length c.loop-i.multipliers = omega arith in
    rw e (fill_by_more f c.loop-i.multipliers c.loop-i.i (pos 0) h c.loop-i.invariant)

pub returns : goal.returns
returns c =
    let f : ℕ → ℤ = λ i. pressure_of c.args.self.now.set.members.now c.args.self.now.pressures.now (Row i) in
    fill_by_all f c.loop-i.multipliers (length c.args.multipliers.now) (pos 0) c.loop-i.auto.multipliers (λ k t. c.loop-i.invariant k (omega arith))
