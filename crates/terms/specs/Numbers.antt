-- The numbers of a problem beside its matrices, with their sizes, when they fit.
use Rattle.std.specs.Prelude.{ℕ, Bool, cond, ◌&&◌, List, length, ℤ, Some, None, Option, ◌==◌, nat_le, nat_lt}
use Rattle.duality.specs.Tests.{all_within, in_order}
use Rattle.terms.specs.declared.numbers.Terms.{Terms}

pub record Numbers : Type 0 where
  pub ropes : ℕ
  pub rows : ℕ
  pub c : List ℤ
  pub l : List ℤ
  pub u : List ℤ
  pub lo : List ℤ
  pub hi : List ℤ

-- the sizes follow from the lists: a linear cost for each rope, a lower limit for each row
abbrev pub numbers : (c l u lo hi : List ℤ) → Numbers
numbers c l u lo hi = record { ropes = length c; rows = length lo; c = c; l = l; u = u; lo = lo; hi = hi }

-- how many ropes and rows terms are for
abbrev pub ropes_of : Terms → ℕ
ropes_of t = length t.c.items

abbrev pub rows_of : Terms → ℕ
rows_of t = length t.lo.items

abbrev pub numbers_of : Terms → Numbers
numbers_of t =
    record {
      ropes = ropes_of t;
      rows = rows_of t;
      c = t.c.items;
      l = t.l.items;
      u = t.u.items;
      lo = t.lo.items;
      hi = t.hi.items;
    }

-- a number of each kind for each of 1 to 16 ropes, and for each of 0 to 32 rows
abbrev pub sizes : (c l u lo hi : ℕ) → Bool
sizes c l u lo hi = nat_lt 0 c && nat_le c 16 && nat_le lo 32 && l == c && u == c && hi == lo

-- numbers within their limits, and no lower one above its upper one
abbrev pub limited : (c l u lo hi : List ℤ) → Bool
limited c l u lo hi =
    all_within 268435456 c && all_within 32768 l && all_within 32768 u && all_within 536870912 lo && all_within 536870912 hi && in_order l u && in_order lo hi

-- numbers that fit, or nothing
abbrev pub fitting : Numbers → Option Numbers
fitting x =
    cond (sizes (length x.c) (length x.l) (length x.u) (length x.lo) (length x.hi) && limited x.c x.l x.u x.lo x.hi) (Some x) None
