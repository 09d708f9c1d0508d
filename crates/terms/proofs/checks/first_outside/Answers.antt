use Rattle.std.proofs.Common.{◌≡◌, ℕ, ◌<◌, true, false, length, min, ℤ, pos, ap, ◌∙◌, rules, tests, arith}
use Rattle.std.proofs.lemmas.Iterator.{IsFirst-from_position, YieldsList-from_slice, YieldsList-from_zip}
use Rattle.std.proofs.lemmas.Slice.Zip.{length-zip, get_or-zip}
use Rattle.std.specs.List.{zip}
use Rattle.duality.specs.Lists.{places}
use Rattle.duality.specs.Tests.{between as is_between}
use Rattle.terms.proofs.Firsts.{first_position}
use Rattle.terms.proofs.checks.first_outside.Goals as goal

pub returns : goal.returns
returns c =
    let lows = c.args.lows.now in
    let highs = c.args.highs.now in
    let xs = c.args.xs.now in
    let pairs = zip highs xs in
    let all = zip lows pairs in
    let lp = length-zip highs xs in
    let la = length-zip lows pairs in
    let long : length all ≡ min (length lows) (min (length highs) (length xs)) = la ∙ ap (min (length lows)) lp in
    let at = λ (k : ℕ) (l : k < length all).
    get_or-zip lows pairs k (pos 0, (pos 0, pos 0)) (omega arith) (omega arith)
    ∙ ap (λ (z : ℤ × ℤ). (places lows k, z)) (get_or-zip highs xs k (pos 0, pos 0) (omega arith) (omega arith)) in
    rw long at
    (first_position (λ k. is_between (places lows k) (places highs k) (places xs k)) all (pos 0, (pos 0, pos 0)) (λ p. is_between p.0 p.1.0 p.1.1 ≡ false)
    (λ p. is_between p.0 p.1.0 p.1.1 ≡ true) (λ k l h. rw (at k l) at h) (λ k l h. rw (at k l) at h) c.position.result
    (IsFirst-from_position c.position.new.self _ c.position.result (λ p. is_between p.0 p.1.0 p.1.1 ≡ false) (λ p. is_between p.0 p.1.0 p.1.1 ≡ true) c.position.ensures.ran
    (YieldsList-from_zip (YieldsList-from_slice lows cc) (YieldsList-from_zip (YieldsList-from_slice highs cc) (YieldsList-from_slice xs cc)))
    (λ x q k. search (rules, tests)) (λ x q k. search (rules, tests))))
