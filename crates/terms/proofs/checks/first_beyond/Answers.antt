use Rattle.std.proofs.Common.{◌≡◌, true, false, pos, rules, tests}
use Rattle.std.proofs.lemmas.Iterator.{IsFirst-from_position, YieldsList-from_slice}
use Rattle.duality.specs.Lists.{places}
use Rattle.duality.specs.Tests.{within as is_within}
use Rattle.terms.proofs.Firsts.{first_position}
use Rattle.terms.proofs.checks.first_beyond.Goals as goal

pub returns : goal.returns
returns c =
    let limit = c.args.limit in
    let xs = c.args.xs.now in
    first_position (λ k. is_within limit (places xs k)) xs (pos 0) (λ x. is_within limit x ≡ false) (λ x. is_within limit x ≡ true) (λ k l h. h) (λ k l h. h)
    c.position.result
    (IsFirst-from_position c.position.new.self _ c.position.result (λ x. is_within limit x ≡ false) (λ x. is_within limit x ≡ true) c.position.ensures.ran
    (YieldsList-from_slice xs cc) (λ x q k. search (rules, tests)) (λ x q k. search (rules, tests)))
