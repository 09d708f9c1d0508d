use Rattle.std.proofs.Common.{List, ℤ, nat_abs, length, ap, ◌∙◌, arith, w64, SFits, rules}
use Rattle.std.proofs.lemmas.Int.{to_z-of_z}
use Rattle.duality.specs.Lists.{places}
use Rattle.walk.proofs.Raising.{raised_items}
use Rattle.walk.proofs.sums.RowSums.shift.Goals as goal

pub shift_sums-requires : goal.shift_sums-requires
shift_sums-requires c =
    record {
      long = ap length c.deref_mut.ensures.value ∙ c.requires.0;
      sums_small = λ i. omega (arith, ap (λ (xs : List ℤ). nat_abs (places xs i)) c.deref_mut.ensures.value, c.requires.1 i);
    }

pub returns : goal.returns
returns c =
    let f : SFits w64 c.outside_after-self.result = search rules in
    record {
      sums = raised_items c.args.self.now.sums _ _ _ _ c.deref_mut.ensures.value c.shift_sums.ensures;
      outside = to_z-of_z w64 _ f ∙ c.outside_after-self.ensures;
    }
