use Rattle.std.proofs.Common.{◌≡◌, ◌+◌, ◌≤◌, List, length, take, Option, sym, refl, ap, ◌∙◌, subst, arith}
use lib.Ieee.{Float}
use Rattle.std.specs.Option.{option_map}
use Rattle.job.specs.Numbers.{problem_of}
use Rattle.elimination.specs.Lines.{padded, Solves}
use Rattle.exchange.specs.Systems.{size_of}
use Rattle.exchange.specs.Offers.{offered, pulls_of, pressures_of}
use Rattle.exchange.specs.Steps.{Follows, choice_at, solved_at, OffersInside}
use Rattle.exchange.specs.declared.members.Choice.{Choice}
use Rattle.exchange.specs.declared.members.Member.{Member}
use Rattle.exchange.specs.declared.members.Offer.{Offer}
use Rattle.exchange.specs.declared.members.Step.TheVariants.{Found}
use Rattle.exchange.proofs.Offering.{offered_inside}
use Rattle.exchange.proofs.Meanings.{chosen_means, job_ordered}
use Rattle.exchange.proofs.Following.{chosen_follows}
use Rattle.exchange.proofs.Stepping.{Pair, system_solved, law_kept, none_from, some_from, array_front, front_long, front_inside, step_stuck, step_found, step_lawful}
use Rattle.exchange.proofs.exchanges.Exchange.step.Goals as goal

pub returns-in_default : goal.returns-in_default
returns-in_default c =
    let e = c.args.self.now in
    let j = e.job.now in
    let P = problem_of j in
    let ms = e.members.items in
    let h : P.ropes + length ms ≤ 32 = omega (arith, e.few, j.terms.some.1) in
    let d = c.deref.ensures.0 in
    let k : c.size-size.result ≡ size_of P ms = c.size-size.ensures ∙ ap (size_of P) d in
    let q = system_solved P ms c.deref.result.now c.size-size.result e.smallest c.fill_square.new.lines d k h (omega arith) c.fill_square.ensures in
    let n = none_from (solved_at P ms e.smallest).1 (sym c.in_default.is ∙ c.solve-solution.ensures.unknowns ∙ ap (λ (p : Pair). option_map padded p.1) q) in
    let v = step_stuck P ms e.smallest n in
    let t = c.solve-solution.ensures.smallest ∙ ap (λ (p : Pair). p.0) q in
    record {
      value = v;
      members = refl;
      smallest = t;
      job = refl;
      inside = tt;
      choice = λ us. chosen_means P ms (pulls_of P us) (pressures_of P us) e.few;
      law = step_lawful P ms e.few e.apart (job_ordered j) e.smallest _ _ v t;
    }

pub reading-choice-requires : goal.reading-choice-requires
reading-choice-requires c =
    let e = c.args.self.now in
    let j = e.job.now in
    let P = problem_of j in
    let ms = e.members.items in
    let h : P.ropes + length ms ≤ 32 = omega (arith, e.few, j.terms.some.1) in
    let d = c.deref.ensures.0 in
    let k : c.size-size.result ≡ size_of P ms = c.size-size.ensures ∙ ap (size_of P) d in
    let q = system_solved P ms c.deref.result.now c.size-size.result e.smallest c.fill_square.new.lines d k h (omega arith) c.fill_square.ensures in
    let X = c.in-Some.unknowns in
    let u = some_from (solved_at P ms e.smallest).1 X (sym c.in-Some.is ∙ c.solve-solution.ensures.unknowns ∙ ap (λ (p : Pair). option_map padded p.1) q) in
    let us = u.0 in
    let S : Option (List Float) → Type 0 = Solves c.size-size.result in
    let w = subst S (ap (λ (p : Pair). p.1) q ∙ u.1.0) (law_kept c.size-size.result c.fill_square.new.lines _ (omega arith) c.solve-solution.ensures.law) in
    record {
      all = front_long c.size-size.result us X u.1.1 w ∙ c.size-size.ensures;
      inside = λ i l. front_inside c.size-size.result us X u.1.1 w i (omega (arith, c.size-size.ensures));
    }

pub follow-requires : goal.follow-requires
follow-requires c =
    let e = c.args.self.now in
    let P = problem_of e.job.now in
    let vs = c.deref.result.now in
    let us = take c.size-size.result c.in-Some.unknowns in
    let ch = c.reading-choice.result.1 in
    let A : Choice → Type 0 = Follows P.ropes P.rows vs in
    let B : List Member → Type 0 = λ x. Follows P.ropes P.rows x ch in
    let d = c.deref.ensures.0 in
    subst B d (subst A (sym c.reading-choice.ensures.choice) (chosen_follows P vs (pulls_of P us) (pressures_of P us)))

pub returns : goal.returns
returns c =
    let e = c.args.self.now in
    let j = e.job.now in
    let P = problem_of j in
    let ms = e.members.items in
    let h : P.ropes + length ms ≤ 32 = omega (arith, e.few, j.terms.some.1) in
    let d = c.deref.ensures.0 in
    let k : c.size-size.result ≡ size_of P ms = c.size-size.ensures ∙ ap (size_of P) d in
    let q = system_solved P ms c.deref.result.now c.size-size.result e.smallest c.fill_square.new.lines d k h (omega arith) c.fill_square.ensures in
    let X = c.in-Some.unknowns in
    let u = some_from (solved_at P ms e.smallest).1 X (sym c.in-Some.is ∙ c.solve-solution.ensures.unknowns ∙ ap (λ (p : Pair). option_map padded p.1) q) in
    let us = u.0 in
    let S : Option (List Float) → Type 0 = Solves c.size-size.result in
    let w = subst S (ap (λ (p : Pair). p.1) q ∙ u.1.0) (law_kept c.size-size.result c.fill_square.new.lines _ (omega arith) c.solve-solution.ensures.law) in
    let r = array_front c.size-size.result us X u.1.1 w in
    let o = c.reading-choice.ensures.offer ∙ ap (λ (x : List Member). offered P x (take c.size-size.result X)) d ∙ ap (offered P ms) r in
    let L : Offer → Type 0 = λ y. OffersInside (problem_of j) (Found y c.reading-choice.result.1) in
    let v =
    step_found P ms e.smallest us c.reading-choice.result.0 c.reading-choice.result.1 u.1.0 o
    (c.reading-choice.ensures.choice ∙ ap (λ (x : List Member). choice_at P x (take c.size-size.result X)) d ∙ ap (choice_at P ms) r) in
    let t = c.follow.ensures.smallest ∙ c.solve-solution.ensures.smallest ∙ ap (λ (p : Pair). p.0) q in
    record {
      value = v;
      members = c.follow.ensures.members;
      smallest = t;
      job = c.follow.ensures.job;
      inside = subst L (sym o) (offered_inside j ms us c.reading-choice.result.1 (omega (arith, w.0, k)));
      choice = λ xs. chosen_means P ms (pulls_of P xs) (pressures_of P xs) e.few;
      law = step_lawful P ms e.few e.apart (job_ordered j) e.smallest _ _ v t;
    }
