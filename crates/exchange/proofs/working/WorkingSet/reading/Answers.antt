use Rattle.std.proofs.Common.{◌≡◌, ℕ, ◌-◌, true, List, length, take, drop, ℤ, sym, refl, ap, ◌∙◌, subst}
use Rattle.std.proofs.lemmas.List.FromFn.{length-map-range_with_len}
use Rattle.job.specs.Numbers.{problem_of}
use Rattle.duality.specs.Tests.{many_within}
use Rattle.exchange.specs.Rounding.{pulled, pressed}
use Rattle.exchange.specs.Choice.{chosen}
use Rattle.exchange.specs.Offers.{multipliers, filled}
use Rattle.exchange.proofs.Readings.{front, pulls_long, pressures_long, pulls_are, pressures_are, pulls_point, offer_is}
use Rattle.exchange.proofs.working.WorkingSet.reading.Goals as goal

pub invariant_of-solution : goal.invariant_of-solution
invariant_of-solution c =
    let X = c.args.unknowns.now in
    let n = (problem_of c.args.self.now.job.now).ropes in
    let m = length c.args.self.now.members.now in
    let q = c.ropes-ropes.ensures in
    let h = c.requires.all in
    let s = c.split_at_mut-pulls.ensures in
    let P : List ℤ → Type 0 = λ z. many_within n 1073741824 z ≡ true in
    let l = pulls_long n m X h in
    let k = pressures_long n m X h in
    let x = pulls_are n m X h _ c.rounded-pulls.result (s.front ∙ ap (λ (i : ℕ). take i X) q) c.rounded-pulls.ensures in
    let y = pressures_are n m X h _ _ c.rounded-pressures.result (s.back ∙ ap (λ (i : ℕ). drop i X) q) c.in_parts.ensures c.rounded-pressures.ensures in
    record {
      point = subst P (sym (front 16 c.ropes-ropes.result (pulled (take n X)) c.rounded-pulls.result (l ∙ sym q) x)) (pulls_point n m X h c.requires.inside);
      paired = ap length (front 16 m (pressed (drop n X)) c.rounded-pressures.result k y) ∙ k;
    }

pub returns : goal.returns
returns c =
    let ms = c.args.self.now.members.now in
    let X = c.args.unknowns.now in
    let n = (problem_of c.args.self.now.job.now).ropes in
    let m = length ms in
    let q = c.ropes-ropes.ensures in
    let h = c.requires.all in
    let Q = problem_of c.args.self.now.job.now in
    let s = c.split_at_mut-pulls.ensures in
    let l = pulls_long n m X h in
    let k = pressures_long n m X h in
    let x = pulls_are n m X h _ c.rounded-pulls.result (s.front ∙ ap (λ (i : ℕ). take i X) q) c.rounded-pulls.ensures in
    let y = pressures_are n m X h _ _ c.rounded-pressures.result (s.back ∙ ap (λ (i : ℕ). drop i X) q) c.in_parts.ensures c.rounded-pressures.ensures in
    let fx = front 16 c.ropes-ropes.result (pulled (take n X)) c.rounded-pulls.result (l ∙ sym q) x in
    let fy = front 16 m (pressed (drop n X)) c.rounded-pressures.result k y in
    record {
      offer =
          offer_is Q ms X (pulled (take n X)) (pressed (drop n X)) c.point_of-point.result c.multipliers-multipliers.result c.rounded-pulls.result
          l refl refl x c.point_of-point.ensures (length-map-range_with_len _ 0 n)
          (c.multipliers-multipliers.ensures ∙ ap (λ z. filled 32 (multipliers Q ms z)) fy);
      choice = c.choose-choice.ensures ∙ ap (λ z. chosen Q ms z (take (m - 0) c.rounded-pressures.result)) fx ∙ ap (λ z. chosen Q ms (pulled (take n X)) z) fy;
    }
