use Rattle.std.proofs.Common.{◌≡◌, length, sym, ◌∙◌, arith}
use Rattle.terms.specs.Numbers.{ropes_of}
use Rattle.std.proofs.lemmas.Bool.{eq-eqb, ne_eqb}
use Rattle.duality.specs.Lists.{places}
use Rattle.evaluate.specs.Stated.{problem_of}
use Rattle.evaluate.specs.Findings.{BoundKept}
use Rattle.evaluate.proofs.Firsts.{bound_decides, finds, found_is, found_no_point}
use Rattle.evaluate.proofs.Bounding.{lies, first_lies}
use Rattle.evaluate.proofs.bounds.check_bounds.Goals as goal

pub returns-then-z-ropes : goal.returns-then-z-ropes
returns-then-z-ropes c =
    let t = c.args.terms.now in
    let z = c.args.z.now in
    record {
      value = λ g a. found_no_point _ (lies t z) (ropes_of t) (ne_eqb _ _ (λ e. c.if-z-ropes.true (e ∙ sym c.ropes.ensures)));
      law = λ g a. tt;
    }

pub returns-in-Some : goal.returns-in-Some
returns-in-Some c =
    let t = c.args.terms.now in
    let z = c.args.z.now in
    let long : length z ≡ ropes_of t = omega arith in
    let e = found_is _ (lies t z) (ropes_of t) _ (eq-eqb _ _ long) (first_lies t z _ _ _ long c.deref.ensures.0 c.deref-2.ensures.0 c.in-Some.ensures) in
    record {
      value = λ g a. e;
      law = λ g a. finds _ (lies t z) (BoundKept (problem_of g a t) (places z)) (bound_decides (problem_of g a t) (places z)) (ropes_of t) _ e;
    }

pub returns-in-None : goal.returns-in-None
returns-in-None c =
    let t = c.args.terms.now in
    let z = c.args.z.now in
    let long : length z ≡ ropes_of t = omega arith in
    let e = found_is _ (lies t z) (ropes_of t) _ (eq-eqb _ _ long) (first_lies t z _ _ _ long c.deref.ensures.0 c.deref-2.ensures.0 c.in-None.ensures) in
    record {
      value = λ g a. e;
      law = λ g a. finds _ (lies t z) (BoundKept (problem_of g a t) (places z)) (bound_decides (problem_of g a t) (places z)) (ropes_of t) _ e;
    }
