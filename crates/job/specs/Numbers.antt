-- The numbers of a job, when they fit, and the problem that they state.
use Rattle.std.specs.Prelude.{ℕ, ◌*◌, Bool, cond, ◌&&◌, List, length, ℤ, Some, None, Option, ◌==◌}
use Rattle.duality.specs.Lists.{places, by_rows}
use Rattle.duality.specs.Problem.{Problem}
use Rattle.duality.specs.Tests.{all_within}
use Rattle.terms.specs.Numbers.{Numbers as Terms, numbers_of as terms_of}
use Rattle.job.specs.declared.numbers.Job.{Job}

pub record Numbers : Type 0 where
  pub terms : Terms
  pub g : List ℤ
  pub a : List ℤ

abbrev pub numbers : Terms → (g a : List ℤ) → Numbers
numbers t g a = record { terms = t; g = g; a = a }

abbrev pub numbers_of : Job → Numbers
numbers_of j = numbers (terms_of j.terms) j.g.items j.a.items

-- matrices as long as so many ropes and rows ask for, with numbers within their limit
abbrev pub matrices : (ropes rows : ℕ) → (g a : List ℤ) → Bool
matrices ropes rows g a = length g == ropes * ropes && length a == ropes * rows && all_within 1048576 g && all_within 1048576 a

-- numbers whose matrices fit their terms, or nothing
abbrev pub fitting : Numbers → Option Numbers
fitting x = cond (matrices x.terms.ropes x.terms.rows x.g x.a) (Some x) None

-- a_ij stands rope by rope
abbrev pub problem : Numbers → Problem
problem x =
    record {
      ropes = x.terms.ropes;
      rows = x.terms.rows;
      G = by_rows x.terms.ropes x.g;
      c = places x.terms.c;
      A = λ i j. by_rows x.terms.rows x.a j i;
      lo = places x.terms.lo;
      hi = places x.terms.hi;
      l = places x.terms.l;
      u = places x.terms.u;
    }

-- the problem that a job stands for
abbrev pub problem_of : Job → Problem
problem_of j = problem (numbers_of j)
