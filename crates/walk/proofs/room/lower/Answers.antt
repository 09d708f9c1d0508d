use Rattle.std.proofs.Common.{◌≡◌, refl, ℤ, Bool, true, false, pos, ap, sym, ◌∙◌, int_lt, rules, arith, to_z, of_z, w64, SFits}
use Rattle.std.proofs.lemmas.Int.{ints, to_z-of_z}
use Rattle.std.proofs.lemmas.Bool.{ne_eqb}
use Rattle.duality.proofs.Ring.{lin}
use Rattle.walk.specs.Lowering.{lower}
use Rattle.walk.proofs.room.lower.Goals as goal

-- as many ticks: what the cost changes by decides
level : (o p y : ℤ) → int_lt p o ≡ false → p ≡ o → lower o (pos 0) p y ≡ int_lt y (pos 0)
unfolding lower
level o p y f e = let g : int_lt o p ≡ false = cc in rw (f, g) refl

-- more ticks
more : (o p y : ℤ) → int_lt p o ≡ false → (p ≡ o → ⊥) → lower o (pos 0) p y ≡ false
unfolding lower
more o p y f n = by (int_lt o p) refl
  where
    by : (t : Bool) → int_lt o p ≡ t → lower o (pos 0) p y ≡ false
    by true g = rw (f, g) refl
    by false g = absurd (n (omega (arith, ints, lin)))

pub returns-then-after-before : goal.returns-then-after-before
unfolding lower
returns-then-after-before c = search rules

pub returns-then-after-before-2 : goal.returns-then-after-before-2
returns-then-after-before-2 c =
    let a : SFits w64 c.args.after = search rules in
    let b : SFits w64 c.args.before = search rules in
    let y : SFits w64 c.args.by = search rules in
    let e = sym (to_z-of_z w64 _ a) ∙ ap (to_z w64) c.if-after-before-2.true ∙ to_z-of_z w64 _ b in
    let f : int_lt c.args.after c.args.before ≡ false = rw (to_z-of_z w64 _ a, to_z-of_z w64 _ b) at c.if-after-before.false in
    rw (to_z-of_z w64 _ y) (sym (level _ _ _ f e))

pub returns-else-after-before-2 : goal.returns-else-after-before-2
returns-else-after-before-2 c =
    let a : SFits w64 c.args.after = search rules in
    let b : SFits w64 c.args.before = search rules in
    let f : int_lt c.args.after c.args.before ≡ false = rw (to_z-of_z w64 _ a, to_z-of_z w64 _ b) at c.if-after-before.false in
    ne_eqb _ _ c.if-after-before-2.false ∙ sym (more _ _ c.args.by f (λ e. c.if-after-before-2.false (ap (of_z w64) e)))
