-- The definitions of breaches and choices, case by case.
use Rattle.std.proofs.Common.{◌≡◌, ℕ, ◌+◌, ◌<◌, ◌≤◌, Bool, true, false, cond, ltb, List, ◌∷◌, length, drop, ℤ, pos, sym, ap, ◌∙◌, le-ltb, lt-ltb, refl}
use lib.Signed.{lt_z}
use Rattle.duality.specs.Lists.{places}
use Rattle.duality.specs.Problem.{Problem}
use Rattle.terms.specs.Ticks.{excess}
use Rattle.exchange.specs.Members.{low, high}
use Rattle.exchange.specs.Systems.{member_at}
use Rattle.exchange.specs.Breaches.{holds, value_at, side_of, breach, worse, worst, upto}
use Rattle.exchange.specs.Choice.{wrongness, more_wrong, unwronged, most_wrong, chosen}
use Rattle.exchange.specs.declared.members.Limit.{Limit}
use Rattle.exchange.specs.declared.members.Side.{Side}
use Rattle.exchange.specs.declared.members.Member.{Member}
use Rattle.exchange.specs.declared.members.Breach.{Breach}
use Rattle.exchange.specs.declared.members.Wrong.{Wrong}
use Rattle.exchange.specs.declared.members.Choice.TheVariants.{Enter, Leave, Full, Done}
use Rattle.exchange.proofs.Folds.{upto_more, next_here}

pub breach_is : (P : Problem) (z : List ℤ) (v : Limit) (t : ℤ) (sd : Side) → t ≡ excess (low P v) (high P v) (value_at P z v) → sd ≡ side_of (low P v) (value_at P z v) →
    ◌≡◌ {A = Breach} (record { ticks = t; member = record { limit = v; side = sd } }) (breach P z v)
unfolding breach
breach_is P z v t sd e f = rw (e, f)

module _ (P : Problem) (ms : List Member) (z : List ℤ) (b : Breach) (v : Limit) where
  pub worse_held : holds ms v ≡ true → b ≡ worse P ms z b v
  unfolding worse
  worse_held h = rw h

  pub worse_taken : (o : Breach) → holds ms v ≡ false → o ≡ breach P z v → lt_z b.ticks o.ticks ≡ true → o ≡ worse P ms z b v
  unfolding worse
  worse_taken o h e t = let t' : lt_z b.ticks (breach P z v).ticks ≡ true = ap (λ y. lt_z b.ticks y.ticks) (sym e) ∙ t in rw (h, t') e

  pub worse_left : (o : Breach) → o ≡ breach P z v → lt_z b.ticks o.ticks ≡ false → b ≡ worse P ms z b v
  unfolding worse
  worse_left o e t = let t' : lt_z b.ticks (breach P z v).ticks ≡ false = ap (λ y. lt_z b.ticks y.ticks) (sym e) ∙ t in rw t' (sym (either (holds ms v)))
    where
      either : (h : Bool) → cond h b b ≡ b
      either true = refl
      either false = refl

pub wrong_here : (ms us vs : List Member) (ys ws zs : List ℤ) (m : Member) (y : ℤ) (k : ℕ) → us ≡ drop k ms → us ≡ m ∷ vs → ws ≡ drop k ys → ws ≡ y ∷ zs →
    wrongness m.side y ≡ wrongness (member_at ms k).side (places ys k)
wrong_here ms us vs ys ws zs m y k a b e f =
    ap (λ z. wrongness z.side y) (sym (next_here ms us vs m k a b _)) ∙ ap (wrongness (member_at ms k).side) (sym (next_here ys ws zs y k e f (pos 0)))

module _ (ms : List Member) (ys : List ℤ) (b : Wrong) (k s : ℕ) (e : b ≡ upto (more_wrong ms ys) unwronged k) (q : s ≡ wrongness (member_at ms k).side (places ys k)) where
  here : more_wrong ms ys b k ≡ upto (more_wrong ms ys) unwronged (k + 1)
  here = ap (λ y. more_wrong ms ys y k) e ∙ sym (upto_more (more_wrong ms ys) unwronged k)

  pub wrong_taken : b.size < s → ◌≡◌ {A = Wrong} (record { size = s; place = k }) (upto (more_wrong ms ys) unwronged (k + 1))
  wrong_taken h = let t : ltb b.size (wrongness (member_at ms k).side (places ys k)) ≡ true = ap (ltb b.size) (sym q) ∙ lt-ltb b.size s h in rw q (sym (rw t at (sym here)))

  pub wrong_left : s ≤ b.size → b ≡ upto (more_wrong ms ys) unwronged (k + 1)
  wrong_left h = let t : ltb b.size (wrongness (member_at ms k).side (places ys k)) ≡ false = ap (ltb b.size) (sym q) ∙ le-ltb b.size s h in sym (rw t at (sym here))

module _ (P : Problem) (ms : List Member) (z ys : List ℤ) (b : Breach) (e : b ≡ worst P ms z) where
  pub chosen_enter : lt_z (pos 0) b.ticks ≡ true → length ms < P.ropes → Enter b.member ≡ chosen P ms z ys
  unfolding chosen
  chosen_enter t h = let l : ltb (length ms) P.ropes ≡ true = lt-ltb _ _ h in rw (← e, t, l)

  pub chosen_full : lt_z (pos 0) b.ticks ≡ true → P.ropes ≤ length ms → Full ≡ chosen P ms z ys
  unfolding chosen
  chosen_full t h = let l : ltb (length ms) P.ropes ≡ false = le-ltb _ _ h in rw (← e, t, l)

  pub chosen_leave : (m : Wrong) → m ≡ most_wrong ms ys → lt_z (pos 0) b.ticks ≡ false → 0 < m.size → Leave m.place ≡ chosen P ms z ys
  unfolding chosen
  chosen_leave m f t h = let l : ltb 0 m.size ≡ true = lt-ltb _ _ h in rw (← e, t, ← f, l)

  pub chosen_done : (m : Wrong) → m ≡ most_wrong ms ys → lt_z (pos 0) b.ticks ≡ false → m.size ≤ 0 → Done ≡ chosen P ms z ys
  unfolding chosen
  chosen_done m f t h = let l : ltb 0 m.size ≡ false = le-ltb _ _ h in rw (← e, t, ← f, l)
