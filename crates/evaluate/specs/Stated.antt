-- The problem that two tables and numbers beside them state.
use Rattle.duality.specs.Lists.{places}
use Rattle.duality.specs.Problem.{Problem}
use Rattle.table.specs.Grid.{Grid, matrix_of}
use Rattle.terms.specs.Numbers.{Numbers, numbers_of}
use Rattle.terms.specs.declared.numbers.Terms.{Terms}

-- the problem that a table G, a table A and these numbers state; a blank is 0
abbrev pub stated : Grid → Grid → Numbers → Problem
stated g a x =
    record {
      ropes = x.ropes;
      rows = x.rows;
      G = matrix_of g;
      c = places x.c;
      A = matrix_of a;
      lo = places x.lo;
      hi = places x.hi;
      l = places x.l;
      u = places x.u;
    }

-- the same of terms
abbrev pub problem_of : Grid → Grid → Terms → Problem
problem_of g a t = stated g a (numbers_of t)
