-- What passed tests say of the numbers of terms.
use Rattle.std.proofs.Common.{◌≡◌, ℕ, ◌<◌, ◌≤◌, true, List, ℤ}
use Rattle.std.proofs.lemmas.Bool.{and_parts, ltb-true, leb-true, eqb-true}
use Rattle.duality.specs.Tests.{all_within, in_order}
use Rattle.terms.specs.Numbers.{sizes, limited}

pub record Sized (c l u lo hi : ℕ) : Type 0 where
  pub some : 0 < c
  pub few_ropes : c ≤ 16
  pub few_rows : lo ≤ 32
  pub l_long : l ≡ c
  pub u_long : u ≡ c
  pub hi_long : hi ≡ lo

pub sized_parts : (c l u lo hi : ℕ) → sizes c l u lo hi ≡ true → Sized c l u lo hi
sized_parts c l u lo hi e =
    let p₅ = and_parts _ _ e in
    let p₄ = and_parts _ _ p₅.0 in
    let p₃ = and_parts _ _ p₄.0 in
    let p₂ = and_parts _ _ p₃.0 in
    let p₁ = and_parts _ _ p₂.0 in
    record {
      some = ltb-true _ _ p₁.0;
      few_ropes = leb-true _ _ p₁.1;
      few_rows = leb-true _ _ p₂.1;
      l_long = eqb-true _ _ p₃.1;
      u_long = eqb-true _ _ p₄.1;
      hi_long = eqb-true _ _ p₅.1;
    }

pub record Limited (c l u lo hi : List ℤ) : Type 0 where
  pub c_in : all_within 268435456 c ≡ true
  pub l_in : all_within 32768 l ≡ true
  pub u_in : all_within 32768 u ≡ true
  pub lo_in : all_within 536870912 lo ≡ true
  pub hi_in : all_within 536870912 hi ≡ true
  pub bounds_open : in_order l u ≡ true
  pub rows_open : in_order lo hi ≡ true

pub limited_parts : (c l u lo hi : List ℤ) → limited c l u lo hi ≡ true → Limited c l u lo hi
limited_parts c l u lo hi e =
    let p₆ = and_parts _ _ e in
    let p₅ = and_parts _ _ p₆.0 in
    let p₄ = and_parts _ _ p₅.0 in
    let p₃ = and_parts _ _ p₄.0 in
    let p₂ = and_parts _ _ p₃.0 in
    let p₁ = and_parts _ _ p₂.0 in
    record { c_in = p₁.0; l_in = p₁.1; u_in = p₂.1; lo_in = p₃.1; hi_in = p₄.1; bounds_open = p₅.1; rows_open = p₆.1 }

-- of the lists behind slices that were tested
pub limited_lists : (c l u lo hi c' l' u' lo' hi' : List ℤ) → c' ≡ c → l' ≡ l → u' ≡ u → lo' ≡ lo → hi' ≡ hi → limited c' l' u' lo' hi' ≡ true → Limited c l u lo hi
limited_lists c l u lo hi c' l' u' lo' hi' ec el eu elo ehi e = rw (ec, el, eu, elo, ehi) at (limited_parts c' l' u' lo' hi' e)

-- of the lengths that were asked for
pub sized_vecs : (c l u lo hi c' l' u' lo' hi' : ℕ) → c' ≡ c → l' ≡ l → u' ≡ u → lo' ≡ lo → hi' ≡ hi → sizes c' l' u' lo' hi' ≡ true → Sized c l u lo hi
sized_vecs c l u lo hi c' l' u' lo' hi' ec el eu elo ehi e = rw (ec, el, eu, elo, ehi) at (sized_parts c' l' u' lo' hi' e)
