use Rattle.std.proofs.Common.{◌<◌, ◌≤◌, sym, ◌∙◌, arith, w64, SFits, rules}
use Rattle.std.proofs.lemmas.Int.{to_z-of_z}
use Rattle.std.proofs.lemmas.Bool.{eq-eqb}
use Rattle.duality.specs.Lists.{places}
use Rattle.job.specs.Numbers.{problem_of}
use Rattle.terms.proofs.Reading.{l_item, u_item}
use Rattle.job.proofs.Holding.{open_at, held_is, held_more, held_all, held_law}
use Rattle.job.proofs.numbers.Job.clamp.Goals as goal

pub clamp-requires : goal.clamp-requires
clamp-requires c =
    let m : c.loop-j.j < (problem_of c.args.self.now).ropes = omega (arith, c.loop-j-test.true, (c.if-z-ropes.false ∙ c.ropes.ensures)) in
    rw (l_item c.args.self.now.terms c.loop-j.j _ c.deref.ensures.0, u_item c.args.self.now.terms c.loop-j.j _ c.deref-in-loop-j.ensures.0)
    (open_at c.args.self.now c.loop-j.j m)

pub loop-j-preserved : goal.loop-j-preserved
loop-j-preserved c =
    let f : SFits w64 (places c.loop-j.z c.loop-j.j) = search rules in
    let r : SFits w64 c.clamp.result = search rules in
    let m : c.loop-j.j < (problem_of c.args.self.now).ropes = omega (arith, c.loop-j-test.true, (c.if-z-ropes.false ∙ c.ropes.ensures)) in
    held_more c.args.self.now c.args.z.now c.loop-j.z c.loop-j.j _ (omega (arith, c.loop-j-test.true, c.loop-j.auto.z)) c.loop-j.invariant
    (to_z-of_z w64 _ r
    ∙ held_is c.args.self.now c.loop-j.z c.loop-j.j _ _ _ c.clamp.result (l_item c.args.self.now.terms c.loop-j.j _ c.deref.ensures.0)
    (u_item c.args.self.now.terms c.loop-j.j _ c.deref-in-loop-j.ensures.0) (to_z-of_z w64 _ f) c.clamp.ensures.value)

pub returns : goal.returns
returns c =
    let all : (problem_of c.args.self.now).ropes ≤ c.loop-j.j = omega (arith, c.loop-j-test.false, (c.if-z-ropes.false ∙ c.ropes.ensures)) in
    record {
      value = sym (eq-eqb _ _ (c.if-z-ropes.false ∙ c.ropes.ensures));
      after = held_all c.args.self.now c.args.z.now c.loop-j.z c.loop-j.j (c.if-z-ropes.false ∙ c.ropes.ensures) c.loop-j.auto.z all c.loop-j.invariant;
      law = λ _. held_law c.args.self.now c.args.z.now c.loop-j.z c.loop-j.j (c.if-z-ropes.false ∙ c.ropes.ensures) c.loop-j.auto.z all c.loop-j.invariant;
    }
