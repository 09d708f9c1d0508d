-- A run, one step after another, and the law of whole runs.
use Rattle.std.proofs.Common.{◌≡◌, ℕ, suc, ◌+◌, ◌-◌, ◌<◌, ◌≤◌, List, [], ◌∷◌, Some, None, sym, ap, ◌∙◌, arith}
use native.Mathlib.Nat.{sub-zero}
use lib.Ieee.{Float}
use Rattle.duality.specs.Problem.{Problem}
use Rattle.elimination.specs.Lines.{largest}
use Rattle.exchange.specs.Steps.{solved_at, step_at, members_after, changed}
use Rattle.exchange.specs.Runs.{Run, over, stepped, offers_of, or_over, end_after, after_step, run_from, exchanged, report_at, report_of}
use Rattle.exchange.specs.declared.members.Member.{Member}
use Rattle.exchange.specs.declared.members.Step.{Step}
use Rattle.exchange.specs.declared.members.Step.TheVariants.{Stuck, Found}
use Rattle.exchange.specs.declared.members.End.{End}
use Rattle.exchange.specs.declared.members.End.TheVariants as end

-- what comes after a step that is no end, and after one that is
goes_on : (st : Step) (t : Float) (ms : List Member) (next : List Member → Float → Run) → None ≡ end_after st → after_step st t ms next ≡ stepped (offers_of st) (next (members_after ms st) t)
goes_on Stuck t ms next e = let z : ◌≡◌ {A = ℕ} 0 1 = cc in absurd (omega arith)
goes_on (Found o ch) t ms next e = ap (λ z. stepped (o ∷ []) (or_over z t (next (changed ms ch) t))) (sym e)

ends_there : (st : Step) (t : Float) (ms : List Member) (next : List Member → Float → Run) (x : End) → Some x ≡ end_after st → after_step st t ms next ≡ stepped (offers_of st) (over x t)
ends_there Stuck t ms next x e = let z : end.Stuck ≡ x = cc in ap (λ y. stepped [] (over y t)) z
ends_there (Found o ch) t ms next x e = ap (λ z. stepped (o ∷ []) (or_over z t (next (changed ms ch) t))) (sym e)

module _ (P : Problem) (B k : ℕ) (ms : List Member) (s : Float) (l : k < B) (st : Step) (es : st ≡ step_at P ms s) where
  one_step : run_from (B - k) P ms s ≡ after_step st (solved_at P ms s).0 ms (run_from (B - (k + 1)) P)
  one_step = let e : B - k ≡ suc (B - (k + 1)) = omega arith in rw e (ap (λ z. after_step z (solved_at P ms s).0 ms (run_from (B - (k + 1)) P)) (sym es))

  pub turn_on : (ms' : List Member) (s' : Float) → ms' ≡ members_after ms st → s' ≡ (solved_at P ms s).0 → None ≡ end_after st →
      run_from (B - k) P ms s ≡ stepped (offers_of st) (run_from (B - (k + 1)) P ms' s')
  turn_on ms' s' a b e =
      one_step ∙ goes_on st (solved_at P ms s).0 ms (run_from (B - (k + 1)) P) e
      ∙ ap (λ z. stepped (offers_of st) (run_from (B - (k + 1)) P z (solved_at P ms s).0)) (sym a)
      ∙ ap (λ z. stepped (offers_of st) (run_from (B - (k + 1)) P ms' z)) (sym b)

  pub turn_over : (s' : Float) (x : End) → s' ≡ (solved_at P ms s).0 → Some x ≡ end_after st → run_from (B - k) P ms s ≡ stepped (offers_of st) (over x s')
  turn_over s' x b e =
      one_step ∙ ends_there st (solved_at P ms s).0 ms (run_from (B - (k + 1)) P) x e ∙ ap (λ z. stepped (offers_of st) (over x z)) (sym b)

pub run_starts : (P : Problem) (B : ℕ) (ms : List Member) (s : Float) → ms ≡ [] → s ≡ largest → run_from (B - 0) P ms s ≡ exchanged P B
unfolding exchanged
run_starts P B ms s a b = rw (sub-zero, a, b)

pub run_spent : (P : Problem) (B k : ℕ) (ms : List Member) (s : Float) → B ≤ k → run_from (B - k) P ms s ≡ over end.Spent s
run_spent P B k ms s l = let e : B - k ≡ 0 = omega arith in rw e

pub report_is : (r : Run) (k : ℕ) (x : End) (s : Float) → k ≡ r.steps → x ≡ r.ending → s ≡ r.smallest → report_at k x s ≡ report_of r
report_is r k x s a b c = rw (a, b, c)
