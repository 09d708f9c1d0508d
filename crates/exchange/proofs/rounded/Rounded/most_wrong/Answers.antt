use Rattle.std.proofs.Common.{◌≡◌, ℕ, length, drop, None, sym, refl, ap, ◌∙◌, arith, w64, SFits, rules, ⊎_elim}
use Rattle.std.proofs.lemmas.Int.{to_z-of_z}
use Rattle.std.proofs.lemmas.Slice.Zip.{either_empty_from_Zip}
use Rattle.std.specs.Iterator.Adapters.{enumerate_source, enumerate_count}
use Rattle.exchange.specs.Breaches.{upto}
use Rattle.exchange.specs.Choice.{wrongness, more_wrong, unwronged, most_wrong}
use Rattle.exchange.specs.declared.members.Wrong.{Wrong}
use Rattle.exchange.proofs.Choosing.{wrong_here, wrong_taken, wrong_left}
use Rattle.exchange.proofs.Folds.{next_left, next_within, none_left}
use Rattle.exchange.proofs.rounded.Rounded.most_wrong.Goals as goal

abbrev make : ℕ → ℕ → Wrong
make s k = record { size = s; place = k }

pub loop-k-preserved-then-size-most : goal.loop-k-preserved-then-size-most
loop-k-preserved-then-size-most c =
    let ms = c.args.self.now.set.members.now in
    let ys = c.args.self.now.pressures.now in
    let k = enumerate_count c.loop-k.k-iterator in
    let i = c.loop-k.invariant in
    let h = c.in-Some.ensures.steps in
    let f : SFits w64 c.in-Some.pressure.now = search rules in
    let q = c.wrongness-size.ensures ∙ ap (wrongness c.in-Some.member.now.side) (to_z-of_z w64 _ f) ∙ wrong_here ms _ _ ys _ _ c.in-Some.member.now c.in-Some.pressure.now k i.1 h.0.0 i.2 h.0.1 in (
      ap (λ (n : ℕ). make c.wrongness-size.result n) h.1 ∙ wrong_taken ms ys c.loop-k.most k c.wrongness-size.result i.0 q c.if-size-most.true
          ∙ ap (λ (n : ℕ). upto (more_wrong ms ys) unwronged n) (sym h.2),
      next_left ms _ _ _ k i.1 h.0.0 ∙ ap (λ (n : ℕ). drop n ms) (sym h.2),
      next_left ys _ _ _ k i.2 h.0.1 ∙ ap (λ (n : ℕ). drop n ys) (sym h.2),
      (let w = next_within ms _ _ _ k i.1 h.0.0 in omega (arith, h.2, w)),
    )

pub loop-k-preserved : goal.loop-k-preserved
loop-k-preserved c =
    let ms = c.args.self.now.set.members.now in
    let ys = c.args.self.now.pressures.now in
    let k = enumerate_count c.loop-k.k-iterator in
    let i = c.loop-k.invariant in
    let h = c.in-Some.ensures.steps in
    let f : SFits w64 c.in-Some.pressure.now = search rules in
    let q = c.wrongness-size.ensures ∙ ap (wrongness c.in-Some.member.now.side) (to_z-of_z w64 _ f) ∙ wrong_here ms _ _ ys _ _ c.in-Some.member.now c.in-Some.pressure.now k i.1 h.0.0 i.2 h.0.1 in (
      wrong_left ms ys c.loop-k.most k c.wrongness-size.result i.0 q c.if-size-most.false ∙ ap (λ (n : ℕ). upto (more_wrong ms ys) unwronged n) (sym h.2),
      next_left ms _ _ _ k i.1 h.0.0 ∙ ap (λ (n : ℕ). drop n ms) (sym h.2),
      next_left ys _ _ _ k i.2 h.0.1 ∙ ap (λ (n : ℕ). drop n ys) (sym h.2),
      (let w = next_within ms _ _ _ k i.1 h.0.0 in omega (arith, h.2, w)),
    )

pub returns : goal.returns
unfolding most_wrong
returns c =
    let ms = c.args.self.now.set.members.now in
    let ys = c.args.self.now.pressures.now in
    let k = enumerate_count c.loop-k.k-iterator in
    let i = c.loop-k.invariant in
    let p = c.args.self.now.paired in
    let e : k ≡ length ms =
    ⊎_elim
    (λ a. let l = none_left ms k (sym i.1 ∙ a) in omega (arith, l, i.3))
    (λ b. let l = none_left ys k (sym i.2 ∙ b) in omega (arith, l, i.3, p))
    (either_empty_from_Zip (enumerate_source c.loop-k.k-iterator) (enumerate_source c.next.new.self) None refl c.in-None.ensures.steps.0) in
    i.0 ∙ ap (λ (n : ℕ). upto (more_wrong ms ys) unwronged n) e
