-- A plan as the state that it stands for.
use Rattle.std.specs.Prelude.{List, ℤ, Option}
use Rattle.std.specs.Option.{option_map}
use Rattle.arrayvec.specs.ArrayVec.{ArrayVec}
use Rattle.table.specs.Grid.{Grid}
use Rattle.table.specs.declared.interface.Table.{Ghosts}
use Rattle.terms.specs.Numbers.{numbers_of}
use Rattle.evaluate.specs.declared.pair.Pair.{Pair as Offered}
use Rattle.calls.specs.States.{Pair, State}
use Rattle.plan.specs.declared.state.Plan.{Plan}

abbrev pub held : Option (ArrayVec ℤ) → Option (List ℤ)
held o = option_map (λ v. v.items) o

-- a pair that is offered
abbrev pub pair_of : Offered → Pair
pair_of q = record { point = q.point.now; multipliers = q.multipliers.now }

-- where the tables of the two kinds mean these grids
abbrev pub view : {G A : Type 0} {ofG : Ghosts G} {ofA : Ghosts A} → (G → Grid) → (A → Grid) → Plan G A ofG ofA → State
view meantG meantA p =
    record {
      g = meantG p.g;
      a = meantA p.a;
      numbers = numbers_of p.terms;
      point = held p.point;
      proof = held p.proof;
      pair = record { point = p.pair.point.items; multipliers = p.pair.multipliers.items };
    }
