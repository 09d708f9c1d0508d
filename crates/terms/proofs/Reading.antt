-- What is read of terms and points: the numbers are small, and a read gives the number at its place.
use Rattle.std.proofs.Common.{◌≡◌, ℕ, ◌≤◌, true, eqb, List, length, ℤ, nat_abs, sym, ap, ◌∙◌, lit<}
use Rattle.std.proofs.lemmas.Bool.{and_parts, eqb-true}
use Rattle.duality.specs.Lists.{places}
use Rattle.duality.specs.Tests.{all_within, many_within}
use Rattle.duality.proofs.Tests.{within_at}
use Rattle.terms.specs.declared.numbers.Terms.{Terms}
use Rattle.terms.proofs.Bits.{back, item_back}

pub many_long : (n limit : ℕ) (z : List ℤ) → many_within n limit z ≡ true → length z ≡ n
many_long n limit z e = eqb-true _ _ (and_parts (eqb (length z) n) (all_within limit z) e).0

pub many_small : (n limit : ℕ) (z : List ℤ) → many_within n limit z ≡ true → (k : ℕ) → nat_abs (places z k) ≤ limit
many_small n limit z e k = within_at limit z k (and_parts (eqb (length z) n) (all_within limit z) e).1

-- of a list that was tested against a length, as the code has it
pub many_at : (n m limit : ℕ) (z : List ℤ) → n ≡ m → many_within n limit z ≡ true → many_within m limit z ≡ true
many_at n m limit z e p = ap (λ (k : ℕ). many_within k limit z) (sym e) ∙ p

module _ (t : Terms) where
  pub c_small : (k : ℕ) → nat_abs (places t.c.items k) ≤ 268435456
  c_small k = within_at 268435456 t.c.items k t.prices

  pub l_small : (k : ℕ) → nat_abs (places t.l.items k) ≤ 32768
  l_small k = within_at 32768 t.l.items k t.lefts.1

  pub u_small : (k : ℕ) → nat_abs (places t.u.items k) ≤ 32768
  u_small k = within_at 32768 t.u.items k t.rights.1

  pub lo_small : (k : ℕ) → nat_abs (places t.lo.items k) ≤ 536870912
  lo_small k = within_at 536870912 t.lo.items k t.floors

  pub hi_small : (k : ℕ) → nat_abs (places t.hi.items k) ≤ 536870912
  hi_small k = within_at 536870912 t.hi.items k t.ceilings.1

  -- what a read of one of the lists gives, as the next call takes it
  pub c_item : (i : ℕ) (xs : List ℤ) → xs ≡ t.c.items → back (places xs i) ≡ places t.c.items i
  c_item i xs e = item_back 268435456 xs t.c.items i e (c_small i) (lit< tt)

  pub l_item : (i : ℕ) (xs : List ℤ) → xs ≡ t.l.items → back (places xs i) ≡ places t.l.items i
  l_item i xs e = item_back 32768 xs t.l.items i e (l_small i) (lit< tt)

  pub u_item : (i : ℕ) (xs : List ℤ) → xs ≡ t.u.items → back (places xs i) ≡ places t.u.items i
  u_item i xs e = item_back 32768 xs t.u.items i e (u_small i) (lit< tt)

  pub lo_item : (i : ℕ) (xs : List ℤ) → xs ≡ t.lo.items → back (places xs i) ≡ places t.lo.items i
  lo_item i xs e = item_back 536870912 xs t.lo.items i e (lo_small i) (lit< tt)

  pub hi_item : (i : ℕ) (xs : List ℤ) → xs ≡ t.hi.items → back (places xs i) ≡ places t.hi.items i
  hi_item i xs e = item_back 536870912 xs t.hi.items i e (hi_small i) (lit< tt)
