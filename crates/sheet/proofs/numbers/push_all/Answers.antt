use Rattle.std.proofs.Common.{ℕ, ◌<◌, ◌++◌, List, length, get_or, take, ℤ, pos, sym, refl, ap, ◌∙◌, arith, rules}
use Rattle.std.proofs.lemmas.List.{append-nil, length-append, length-take-le, take_all}
use Rattle.sheet.proofs.Narrowing.{narrow_more}
use Rattle.sheet.proofs.numbers.push_all.Goals as goal

pub loop-x-init : goal.loop-x-init
loop-x-init g c = sym (append-nil c.args.numbers.now.items)

pub push-requires : goal.push-requires
push-requires g c =
    let xs : List ℤ = c.args.xs.now in
    let i : ℕ = c.loop-x.x-index in
    let less : i < length xs = c.loop-x-test.true in (
      search rules,
      omega (arith, ap length c.loop-x.invariant, length-append c.args.numbers.now.items (take i xs), length-take-le i xs (omega arith), c.requires.room),
    )

pub loop-x-preserved : goal.loop-x-preserved
loop-x-preserved g c =
    narrow_more c.args.numbers.now.items c.loop-x.numbers.items c.args.xs.now c.push.new.self.items c.loop-x.x-index (get_or c.args.xs.now c.loop-x.x-index (pos 0)) c.requires.near
    c.loop-x.invariant c.loop-x-test.true c.push.ensures.items refl

pub returns : goal.returns
returns g c =
    c.loop-x.invariant ∙ ap (λ (ys : List ℤ). c.args.numbers.now.items ++ ys) (take_all c.loop-x.x-index c.args.xs.now (omega (arith, c.loop-x-test.false)))
