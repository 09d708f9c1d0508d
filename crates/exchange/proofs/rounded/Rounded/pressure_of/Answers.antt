use Rattle.std.proofs.Common.{◌≡◌, true, false, sym, ap, ◌∙◌, w64, SFits, rules, tests}
use Rattle.std.proofs.lemmas.Int.{to_z-of_z}
use Rattle.std.proofs.lemmas.Slice.Zip.{either_empty_from_Zip}
use Rattle.std.specs.Slice.Iter.{iter_rest}
use Rattle.std.specs.Iterator.Adapters.{zip_first, zip_second}
use Rattle.exchange.specs.Breaches.{same}
use Rattle.exchange.specs.Offers.{inside_limit}
use Rattle.exchange.proofs.Folds.{pressure_more, pressure_here, pressure_none}
use Rattle.exchange.proofs.rounded.Rounded.pressure_of.Goals as goal

pub loop-member-init : goal.loop-member-init
loop-member-init c =
    let h = c.into_iter-member-iterator.ensures.into_iter_gives in
    let f = ap (λ z. iter_rest (zip_first z)) h ∙ ap iter_rest c.zip-member-items.ensures.first ∙ c.iter.ensures.rest in
    let g = ap (λ z. iter_rest (zip_second z)) h ∙ c.zip-member-items.ensures.second.0 in
    rw (f, g)

pub loop-member-preserved : goal.loop-member-preserved
loop-member-preserved c =
    let e : c.eq.result ≡ same c.in-Some.member.now.limit c.args.limit = search (rules, tests) in
    let f : same c.in-Some.member.now.limit c.args.limit ≡ false = sym e ∙ c.if-eq.false in
    let h = c.in-Some.ensures.steps in
    sym (pressure_more c.in-Some.member.now c.in-Some.pressure.now c.args.limit _ _ _ _ h.0 h.1 f) ∙ c.loop-member.invariant

pub returns-then-eq : goal.returns-then-eq
returns-then-eq c =
    let e : c.eq.result ≡ same c.in-Some.member.now.limit c.args.limit = search (rules, tests) in
    let t : same c.in-Some.member.now.limit c.args.limit ≡ true = sym e ∙ c.if-eq.true in
    let h = c.in-Some.ensures.steps in
    let f : SFits w64 c.inside_limit.result = search rules in
    let g : SFits w64 c.in-Some.pressure.now = search rules in
    to_z-of_z w64 _ f ∙ c.inside_limit.ensures ∙ ap inside_limit (to_z-of_z w64 _ g)
    ∙ sym (pressure_here c.in-Some.member.now c.in-Some.pressure.now c.args.limit _ _ _ _ h.0 h.1 t) ∙ c.loop-member.invariant

pub returns : goal.returns
returns c =
    let h = either_empty_from_Zip c.loop-member.member-iterator c.next.new.self _ c.in-None.is c.next.ensures.steps in
    sym (pressure_none _ _ c.args.limit h) ∙ c.loop-member.invariant
