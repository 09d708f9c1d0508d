-- The point that is shown has few numbers, and none too far.
use Rattle.std.proofs.Common.{◌≡◌, ℕ, zero, suc, ◌≤◌, Bool, true, false, cond, eqb, leb, List, length, take, replicate, ℤ, pos, Some, None, Ok, Err, Option, sym, refl, ap, ◌∙◌, arith}
use Rattle.std.proofs.lemmas.List.{length-replicate, get_or-replicate, take-replicate}
use Rattle.std.proofs.lemmas.Bool.{and_parts, and_from, eq-eqb, eqb-true, le-leb}
use Rattle.duality.specs.Lists.{places}
use Rattle.duality.specs.Tests.{all, first_not, or_here, within, all_within, many_within}
use Rattle.duality.proofs.Tests.{all_from}
use Rattle.lines.specs.declared.unwritten.Unwritten.TheVariants.{Many}
use Rattle.lines.specs.Answers.{first_far, near_check, point_check}
use Rattle.lines.specs.Texts.{sheet_text}
use Rattle.opening.specs.declared.refusal.Refusal.TheVariants.{OfferLength}
use Rattle.table.specs.Grid.{Grid}
use Rattle.table.specs.declared.interface.Table.{Ghosts}
use Rattle.calls.specs.States.{State}
use Rattle.calls.specs.declared.answers.Report.{Report}
use Rattle.calls.specs.declared.answers.Shown.{Shown}
use Rattle.calls.specs.Steps.{unless, shown, show_answer, point_shown}
use Rattle.arrayvec.specs.ArrayVec.{ArrayVec}
use Rattle.plan.specs.Inside.{held_within}
use Rattle.plan.specs.View.{held, view}
use Rattle.plan.specs.declared.state.Plan.{Plan}
use Rattle.print.specs.Printing.{point_of, plan_text}

all_none : (p : ℕ → Bool) (n : ℕ) → all p n ≡ true → first_not p n ≡ None
all_none p zero e = refl
all_none p (suc n) e =
    let h = and_parts (all p n) (p n) e in
    ap (λ o. or_here o (p n) n) (all_none p n h.0) ∙ ap (λ b. or_here None b n) h.1

point_passes : (n : ℕ) (z : List ℤ) → n ≤ 16 → many_within n 32768 z ≡ true → point_check z ≡ Ok tt
point_passes n z few e =
    let h = and_parts (eqb (length z) n) (all_within 32768 z) e in
    let long : length z ≡ n = eqb-true _ _ h.0 in
    let short : leb (length z) 16 ≡ true = le-leb _ _ (omega arith) in
    ap (λ b. cond b (near_check (first_far z)) (Err (Many (length z)))) short ∙ ap near_check (all_none (λ k. within 32768 (places z k)) (length z) h.1)

zeros_near : (n : ℕ) → many_within n 32768 (replicate n (pos 0)) ≡ true
zeros_near n =
    let zs = replicate n (pos 0) in
    and_from (eqb (length zs) n) (all_within 32768 zs) (eq-eqb _ _ (length-replicate n (pos 0)))
    (all_from (λ k. within 32768 (places zs k)) (length zs)
    (λ k l. ap (within 32768) (get_or-replicate n k (pos 0) (pos 0) (omega (arith, length-replicate n (pos 0))))))

-- the point of a plan, where it is held, and else zeros
shown_near : (proof point : Option (ArrayVec ℤ)) (n : ℕ) → held_within n 32768 point ≡ true
    → many_within n 32768 (cond (eqb (length (replicate n (pos 0))) n) (point_shown (held proof) (held point) (replicate n (pos 0))) (replicate n (pos 0))) ≡ true
shown_near proof point n = by (eqb (length (replicate n (pos 0))) n) proof point
  where
    by : (b : Bool) (r h : Option (ArrayVec ℤ)) → held_within n 32768 h ≡ true
        → many_within n 32768 (cond b (point_shown (held r) (held h) (replicate n (pos 0))) (replicate n (pos 0))) ≡ true
    by true (Some y) h e = zeros_near n
    by true None (Some z) e = e
    by true None None e = zeros_near n
    by false r h e = zeros_near n

pub shown_passes : {G A : Type 0} {ofG : Ghosts G} {ofA : Ghosts A} (mg : G → Grid) (ma : A → Grid) (p : Plan G A ofG ofA) (z : List ℤ) → z ≡ point_of (view mg ma p) → point_check z ≡ Ok tt
shown_passes mg ma p z e =
    let n = length p.terms.c.items in
    point_passes n z p.terms.some.1 (ap (many_within n 32768) e ∙ shown_near p.proof p.point n p.pulls)

pub text_is : (r : Report) (s : State) (v : Shown) (z : List ℤ) → v ≡ shown s → z ≡ point_of s → sheet_text r v z ≡ plan_text r s
text_is r s v z ev ez = ap (λ (x : Shown). sheet_text r x z) ev ∙ ap (sheet_text r (shown s)) ez

-- zeros, as many as there are ropes, at the start of a list of sixteen
pub zeros_of : (m n : ℕ) → m ≤ 16 → m ≡ n → take m (replicate 16 (pos 0)) ≡ replicate n (pos 0)
zeros_of m n few e = take-replicate m 16 (pos 0) few ∙ ap (λ (k : ℕ). replicate k (pos 0)) e

-- a list of zeros has the length that is asked for
pub shows_zeros : (s : State) → Ok (shown s) ≡ show_answer s (length (replicate s.numbers.ropes (pos 0)))
shows_zeros s =
    let n = s.numbers.ropes in
    sym (ap (λ b. unless (cond b None (Some (OfferLength n))) (shown s)) (eq-eqb (length (replicate n (pos 0))) n (length-replicate n (pos 0))))

-- what is shown in a list of zeros
pub seen_is : (s : State) (list : List ℤ) (v : Shown) → list ≡ replicate s.numbers.ropes (pos 0) → Ok v ≡ show_answer s (length list) → v ≡ shown s
seen_is s list v e a =
    let right = shows_zeros s in
    let same = ap (λ l. show_answer s (length l)) e in
    cc
