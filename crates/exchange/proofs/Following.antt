-- Every choice that is made can be followed, of any set: one with more members than ropes too, for which Full has no meaning.
use Rattle.std.proofs.Common.{Bool, true, false, cond, ltb, List, length, ℤ, pos, ◌≡◌, inl, inr, refl, ltb-true, arith, true≢false, sym, ◌∙◌}
use lib.Signed.{lt_z}
use Rattle.duality.specs.Problem.{Problem}
use Rattle.exchange.specs.Breaches.{worst}
use Rattle.exchange.specs.Choice.{most_wrong, chosen}
use Rattle.exchange.specs.Steps.{Follows}
use Rattle.exchange.specs.declared.members.Member.{Member}
use Rattle.exchange.specs.declared.members.Choice.TheVariants.{Enter, Leave, Full, Done}
use Rattle.exchange.proofs.Meanings.{Told, MostTold, worst_told, most_told}

pub chosen_follows : (P : Problem) (ms : List Member) (z ys : List ℤ) → Follows P.ropes P.rows ms (chosen P ms z ys)
unfolding chosen
chosen_follows P ms z ys = broken (worst_told P ms z) (lt_z (pos 0) (worst P ms z).ticks) refl
  where
    enters : Told P ms z (worst P ms z) → lt_z (pos 0) (worst P ms z).ticks ≡ true → (t : Bool) → ltb (length ms) P.ropes ≡ t →
        Follows P.ropes P.rows ms (cond t (Enter (worst P ms z).member) Full)
    enters (inl h) e true f = let n : lt_z (pos 0) (worst P ms z).ticks ≡ false = rw h.0 in absurd (true≢false (sym e ∙ n))
    enters (inr w) e true f = (ltb-true _ _ f, w.free.0, w.free.1)
    enters w e false f = tt

    leaves : MostTold ms ys (most_wrong ms ys) → (t : Bool) → ltb 0 (most_wrong ms ys).size ≡ t → Follows P.ropes P.rows ms (cond t (Leave (most_wrong ms ys).place) Done)
    leaves (inl h) true f = let s = ltb-true _ _ f in absurd (omega (arith, h.0, s))
    leaves (inr h) true f = h.1.wrong.0
    leaves m false f = tt

    broken : Told P ms z (worst P ms z) → (t : Bool) → lt_z (pos 0) (worst P ms z).ticks ≡ t →
        Follows P.ropes P.rows ms (cond t (cond (ltb (length ms) P.ropes) (Enter (worst P ms z).member) Full) (cond (ltb 0 (most_wrong ms ys).size) (Leave (most_wrong ms ys).place) Done))
    broken w true e = enters w e (ltb (length ms) P.ropes) refl
    broken w false e = leaves (most_told ms ys) (ltb 0 (most_wrong ms ys).size) refl
