use Rattle.std.proofs.Common.{ℕ, map, pos, ap, ◌∙◌, arith}
use Rattle.std.specs.List.{range_with_len}
use Rattle.job.specs.Numbers.{problem_of}
use Rattle.exchange.specs.Offers.{pressure_of, multipliers}
use Rattle.exchange.specs.declared.members.Limit.TheVariants.{Row}
use Rattle.exchange.proofs.Filling.{zeros_long, filled_is}
use Rattle.exchange.proofs.rounded.Rounded.multipliers.Goals as goal

pub returns : goal.returns
returns c =
    let j = c.args.self.now.set.job.now in
    let ms = c.args.self.now.set.members.now in
    let ys = c.args.self.now.pressures.now in
    let q = c.rows.ensures in
    let l = zeros_long (pos 0) 32 c.rows.result (omega (arith, q, j.terms.few)) in
    filled_is 32 c.rows.result c.fill_multipliers.new.multipliers (multipliers (problem_of j) ms ys)
    (c.fill_multipliers.auto.multipliers ∙ l) (c.fill_multipliers.ensures ∙ ap (λ (n : ℕ). map (λ i. pressure_of ms ys (Row i)) (range_with_len 0 n)) (l ∙ q))
