use Rattle.std.proofs.Common.{List, ℤ, nat_abs, length, ap, ◌∙◌, arith}
use Rattle.duality.specs.Lists.{places}
use Rattle.walk.proofs.Raising.{raised_items}
use Rattle.walk.proofs.slopes.Slopes.shift.Goals as goal

pub shift_slopes-requires : goal.shift_slopes-requires
shift_slopes-requires c =
    record {
      long = ap length c.deref_mut.ensures.value ∙ c.requires.0;
      slopes_small = λ i. omega (arith, ap (λ (xs : List ℤ). nat_abs (places xs i)) c.deref_mut.ensures.value, c.requires.1 i);
    }

pub returns : goal.returns
returns c = raised_items c.args.self.now.slopes _ _ _ _ c.deref_mut.ensures.value c.shift_slopes.ensures
