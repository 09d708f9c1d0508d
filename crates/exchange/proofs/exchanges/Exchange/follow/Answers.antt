use Rattle.std.proofs.Common.{◌≡◌, List, [], ◌∷◌, ◌++◌, sym, subst, arith, lit<}
use Rattle.std.specs.List.{remove}
use Rattle.job.specs.Numbers.{problem_of}
use Rattle.exchange.specs.Members.{Fitting}
use Rattle.exchange.specs.Breaches.{Apart}
use Rattle.exchange.specs.Steps.{Follows}
use Rattle.exchange.specs.declared.members.Choice.{Choice}
use Rattle.exchange.specs.declared.members.Member.{Member}
use Rattle.exchange.proofs.Sets.{fitting_push, fitting_removed, apart_push, apart_removed}
use Rattle.exchange.proofs.exchanges.Exchange.follow.Goals as goal

pub push-requires : goal.push-requires
push-requires c =
    let e = c.args.self.now in
    let Q = problem_of e.job.now in
    let P : Choice → Type 0 = Follows Q.ropes Q.rows e.members.items in
    let f = subst P c.in-Enter.is c.requires in
    (lit< tt, omega (arith, f.0, e.job.now.terms.some.1))

pub invariant_of-self : goal.invariant_of-self
invariant_of-self c =
    let e = c.args.self.now in
    let Q = problem_of e.job.now in
    let ms = e.members.items in
    let w = c.in-Enter.member in
    let P : Choice → Type 0 = Follows Q.ropes Q.rows ms in
    let f = subst P c.in-Enter.is c.requires in
    let i : c.push.new.self.items ≡ ms ++ w ∷ [] = c.push.ensures.items in
    let F : List Member → Type 0 = Fitting Q.ropes Q.rows in
    let A : List Member → Type 0 = Apart in
    record {
      few = omega (arith, f.0, c.push.ensures.len);
      fitting = subst F (sym i) (fitting_push Q.ropes Q.rows ms w e.fitting f.1);
      apart = subst A (sym i) (apart_push ms w e.apart f.2);
    }

pub invariant_of-self-in-Leave : goal.invariant_of-self-in-Leave
invariant_of-self-in-Leave c =
    let e = c.args.self.now in
    let Q = problem_of e.job.now in
    let ms = e.members.items in
    let k = c.in-Leave.k in
    let P : Choice → Type 0 = Follows Q.ropes Q.rows ms in
    let f = subst P c.in-Leave.is c.requires in
    let i : c.remove.new.self.items ≡ remove ms k = c.remove.ensures.items in
    let F : List Member → Type 0 = Fitting Q.ropes Q.rows in
    let A : List Member → Type 0 = Apart in
    record {
      few = omega (arith, c.remove.ensures.len, e.few);
      fitting = subst F (sym i) (fitting_removed Q.ropes Q.rows ms k f e.fitting);
      apart = subst A (sym i) (apart_removed ms k f e.apart);
    }
