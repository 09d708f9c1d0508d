use Rattle.std.proofs.Common.{◌≡◌, ◌<◌, List, length, get_or, take, ℤ, pos, Some, sym, ap, ◌∙◌, subst, arith, rules, w32, SFits}
use Rattle.std.specs.Option.{option_map}
use Rattle.std.proofs.lemmas.List.{nil_from_length, length-take-le, take_all}
use Rattle.section.specs.Numbers.{numbers_in}
use Rattle.section.specs.Sections.{part_of}
use Rattle.card.specs.Faults.{n_of, m_of}
use Rattle.card.specs.Held.{HoldsNumbers, count_on}
use Rattle.sheet.proofs.Counts.{counts, given_is, given_some, length_in, widened_more}
use Rattle.sheet.proofs.reads.section_numbers.Goals as goal

pub returns-in_default : goal.returns-in_default
returns-in_default g c =
    let card = c.args.card.now.bytes.now in
    let none : count_on card c.args.kind ≡ 0 = subst (HoldsNumbers card c.args.kind) (ap (option_map part_of) c.in_default.is) c.section.ensures.numbers in
    c.new-numbers.ensures ∙ sym (nil_from_length (numbers_in card (n_of card) (m_of card) c.args.kind) (length_in card (n_of card) (m_of card) c.args.kind ∙ none))

pub unwrap-requires : goal.unwrap-requires
unwrap-requires g c =
    let card = c.args.card.now.bytes.now in
    let holds : HoldsNumbers card c.args.kind (Some (part_of c.in-Some.section)) = subst (HoldsNumbers card c.args.kind) (ap (option_map part_of) c.in-Some.is) c.section.ensures.numbers in
    let count = counts c.args.kind (n_of card) (m_of card) c.sizes.result.ropes c.sizes.result.rows c.count-q-end.result c.count-q-end.ensures.value c.sizes.ensures.0 c.sizes.ensures.1 in
    let less : c.loop-q.q < count_on card c.args.kind = omega (arith, c.loop-q-test.true, count) in
    given_some c.value.result _ (c.value.ensures ∙ holds c.loop-q.q less)

pub push-requires : goal.push-requires
push-requires g c =
    let card = c.args.card.now.bytes.now in
    let nums : List ℤ = numbers_in card (n_of card) (m_of card) c.args.kind in
    let count = counts c.args.kind (n_of card) (m_of card) c.sizes.result.ropes c.sizes.result.rows c.count-q-end.result c.count-q-end.ensures.value c.sizes.ensures.0 c.sizes.ensures.1 in
    let less : c.loop-q.q < count_on card c.args.kind = omega (arith, c.loop-q-test.true, count) in
    let all : length nums ≡ count_on card c.args.kind = length_in card (n_of card) (m_of card) c.args.kind in
    let so-far : length (take c.loop-q.q nums) ≡ c.loop-q.q = length-take-le c.loop-q.q nums (omega arith) in
    (search rules, omega (arith, ap length c.loop-q.invariant, so-far, less, c.requires))

pub loop-q-preserved : goal.loop-q-preserved
loop-q-preserved g c =
    let card = c.args.card.now.bytes.now in
    let nums : List ℤ = numbers_in card (n_of card) (m_of card) c.args.kind in
    let holds : HoldsNumbers card c.args.kind (Some (part_of c.in-Some.section)) = subst (HoldsNumbers card c.args.kind) (ap (option_map part_of) c.in-Some.is) c.section.ensures.numbers in
    let count = counts c.args.kind (n_of card) (m_of card) c.sizes.result.ropes c.sizes.result.rows c.count-q-end.result c.count-q-end.ensures.value c.sizes.ensures.0 c.sizes.ensures.1 in
    let less : c.loop-q.q < count_on card c.args.kind = omega (arith, c.loop-q-test.true, count) in
    let four : SFits w32 c.unwrap.result = search rules in
    widened_more nums c.loop-q.numbers.items c.push.new.self.items c.loop-q.q c.unwrap.result four
    (given_is c.value.result c.unwrap.result (get_or nums c.loop-q.q (pos 0)) c.unwrap.ensures (c.value.ensures ∙ holds c.loop-q.q less))
    c.loop-q.invariant (omega (arith, less, length_in card (n_of card) (m_of card) c.args.kind)) c.push.ensures.items

pub returns : goal.returns
returns g c =
    let card = c.args.card.now.bytes.now in
    let nums : List ℤ = numbers_in card (n_of card) (m_of card) c.args.kind in
    let count = counts c.args.kind (n_of card) (m_of card) c.sizes.result.ropes c.sizes.result.rows c.count-q-end.result c.count-q-end.ensures.value c.sizes.ensures.0 c.sizes.ensures.1 in
    c.loop-q.invariant ∙ take_all c.loop-q.q nums (omega (arith, c.loop-q-test.false, count, length_in card (n_of card) (m_of card) c.args.kind))
