use Rattle.std.proofs.Common.{◌≡◌, ℕ, ◌<◌, length, pos, ◌≤ℤ◌, ◌<ℤ◌, rules, tests, arith}
use lib.Signed.{le_z}
use Rattle.std.proofs.lemmas.Iterator.{IsFirst-from_position, YieldsList-from_slice, YieldsList-from_zip}
use Rattle.std.proofs.lemmas.Slice.Zip.{length-zip, get_or-zip}
use Rattle.std.specs.List.{zip}
use Rattle.duality.specs.Lists.{places}
use Rattle.duality.proofs.Tests.{le_le_z, lt_le_z}
use Rattle.terms.proofs.Firsts.{first_position}
use Rattle.opening.proofs.listed.first_above.Goals as goal

pub returns : goal.returns
returns c =
    let lows = c.args.lows.now in
    let highs = c.args.highs.now in
    let long : length (zip lows highs) ≡ length lows = let l = length-zip lows highs in omega arith in
    let at = λ (k : ℕ) (l : k < length (zip lows highs)). get_or-zip lows highs k (pos 0, pos 0) (omega arith) (omega arith) in
    rw long at
    (first_position (λ k. le_z (places lows k) (places highs k)) (zip lows highs) (pos 0, pos 0) (λ p. p.1 <ℤ p.0) (λ p. p.0 ≤ℤ p.1)
    (λ k l h. lt_le_z _ _ (rw (at k l) at h))
    (λ k l h. le_le_z _ _ (rw (at k l) at h))
    c.position.result
    (IsFirst-from_position c.position.new.self _ c.position.result (λ p. p.1 <ℤ p.0) (λ p. p.0 ≤ℤ p.1) c.position.ensures.ran
    (YieldsList-from_zip (YieldsList-from_slice lows cc) (YieldsList-from_slice highs cc)) (λ x q k. search (rules, tests)) (λ x q k. search (rules, tests))))
