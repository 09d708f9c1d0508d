-- Each check finds no fault exactly where its part fits.
use Rattle.std.proofs.Common.{◌≡◌, ℕ, ◌*◌, ◌≤◌, true, ◌&&◌, ◌||◌, eqb, ltb, leb, List, length, ℤ, pos, nat_abs, ◌≤ℤ◌, is_some, Ok, Err, Some, None, Option, unwrap_or, sym, refl, ap, ◌∙◌, inl, inr, ⊎_elim, arith}
use lib.Signed.{le_z}
use Rattle.std.proofs.lemmas.Bool.{and_parts, and_from, or_cases, or_left, or_right, cond-true, ltb-true, lt-ltb, leb-true, le-leb, eqb-true, eq-eqb, false≢true}
use Rattle.std.specs.Option.{option_map, option_or}
use Rattle.duality.specs.Convex.{Symmetric, SlipHolds, remainder}
use Rattle.duality.specs.Lists.{places, by_rows}
use Rattle.duality.specs.Sums.{Matrix}
use Rattle.duality.specs.Tests.{first_not, within}
use Rattle.duality.proofs.Ring.{lin}
use Rattle.duality.proofs.Slip.{slip_sound}
use Rattle.duality.proofs.Tests.{all_from, first_none, le_z_le, le_le_z}
use Rattle.table.specs.Grid.{Grid, height_of, width_of, place_of, matrix_of}
use Rattle.opening.specs.Firsts.{unless}
use Rattle.opening.specs.Fits.{Sized, Filled, Long, Near, Limited, Ordered, Fits, TellsFit}
use Rattle.opening.specs.Opening.{
  Numbers,
  is_square,
  is_lined,
  size_fault,
  sizes_fault,
  is_number,
  line_fault,
  places_fault,
  same,
  mirror_fault,
  symmetry_fault,
  tables_fault,
  length_fault,
  lengths_fault,
  limit_fault,
  limits_fault,
  order_fault,
  orders_fault,
  SlipNumbers,
  dominates,
  slip_fault,
  open_fault,
}
use Rattle.opening.specs.declared.refusal.List.{List as Name}
use Rattle.opening.specs.declared.refusal.List.TheVariants as name
use Rattle.opening.specs.declared.refusal.Refusal.{Refusal}
use Rattle.opening.specs.declared.refusal.Refusal.TheVariants.{Place, Asymmetric, Length, Limit, Slip}
use Rattle.terms.proofs.Firsts.{first_all}
use Rattle.opening.proofs.Firsts.{none_of, or_none, or_both, of_none, of_all, mapped_none, cond_none, six_none, six_in}

-- sizes

pub sized_out : (g a : Grid) → sizes_fault g a ≡ None → Sized g a
sized_out g a e =
    let p = or_none (size_fault (is_square g) g) (size_fault (is_lined (height_of g) a) a) e in
    let s = and_parts (ltb 0 (height_of g) && leb (height_of g) 16) (eqb (width_of g) (height_of g)) (cond_none (is_square g) _ p.0) in
    let t = and_parts (ltb 0 (height_of g)) (leb (height_of g) 16) s.0 in
    let u = and_parts (leb (height_of a) 32) (eqb (height_of a) 0 || eqb (width_of a) (height_of g)) (cond_none (is_lined (height_of g) a) _ p.1) in
    record {
      some_ropes = ltb-true _ _ t.0;
      few_ropes = leb-true _ _ t.1;
      square = eqb-true _ _ s.1;
      few_rows = leb-true _ _ u.0;
      across =
          ⊎_elim
          (λ (z : eqb (height_of a) 0 ≡ true). inl (eqb-true _ _ z))
          (λ (w : eqb (width_of a) (height_of g) ≡ true). inr (eqb-true _ _ w))
          (or_cases (eqb (height_of a) 0) (eqb (width_of a) (height_of g)) u.1);
    }

pub sized_in : (g a : Grid) → Sized g a → sizes_fault g a ≡ None
sized_in g a s =
    or_both (size_fault (is_square g) g) (size_fault (is_lined (height_of g) a) a)
    (cond-true (is_square g) None _
    (and_from (ltb 0 (height_of g) && leb (height_of g) 16) (eqb (width_of g) (height_of g))
    (and_from (ltb 0 (height_of g)) (leb (height_of g) 16) (lt-ltb _ _ s.some_ropes) (le-leb _ _ s.few_ropes))
    (eq-eqb _ _ s.square)))
    (cond-true (is_lined (height_of g) a) None _
    (and_from (leb (height_of a) 32) (eqb (height_of a) 0 || eqb (width_of a) (height_of g)) (le-leb _ _ s.few_rows)
    (⊎_elim
    (λ (z : height_of a ≡ 0). or_left (eqb (height_of a) 0) (eqb (width_of a) (height_of g)) (eq-eqb _ _ z))
    (λ (w : width_of a ≡ height_of g). or_right (eqb (height_of a) 0) (eqb (width_of a) (height_of g)) (eq-eqb _ _ w))
    s.across)))

-- places

number_out : (limit : ℕ) (o : Option ℤ) → is_number limit o ≡ true → (is_some o ≡ true) × (nat_abs (unwrap_or o (pos 0)) ≤ limit)
number_out limit None e = absurd (false≢true e)
number_out limit (Some x) e = (refl, leb-true _ _ e)

number_in : (limit : ℕ) (o : Option ℤ) → is_some o ≡ true → nat_abs (unwrap_or o (pos 0)) ≤ limit → is_number limit o ≡ true
number_in limit None e h = absurd (false≢true e)
number_in limit (Some x) e h = le-leb _ _ h

filled_out : (limit : ℕ) (t : Grid) → places_fault limit t ≡ None → Filled limit t
filled_out limit t e i j h w =
    let line = mapped_none (Place i) (first_not (λ k. is_number limit (place_of t i k)) (width_of t)) (of_none (line_fault limit t) (height_of t) i e h) in
    number_out limit (place_of t i j) (first_none (λ k. is_number limit (place_of t i k)) (width_of t) j line w)

filled_in : (limit : ℕ) (t : Grid) → Filled limit t → places_fault limit t ≡ None
filled_in limit t f =
    of_all (line_fault limit t) (height_of t) (λ i h.
    ap (option_map (Place i)) (first_all (λ j. is_number limit (place_of t i j)) (width_of t) (λ j w. number_in limit (place_of t i j) (f i j h w).0 (f i j h w).1)))

-- symmetry

pub same_out : (x y : ℤ) → same x y ≡ true → x ≡ y
same_out x y e =
    let p = and_parts (le_z x y) (le_z y x) e in
    let below : x ≤ℤ y = le_z_le x y p.0 in
    let above : y ≤ℤ x = le_z_le y x p.1 in
    omega (arith, lin)

pub same_in : (x y : ℤ) → x ≡ y → same x y ≡ true
same_in x y e = and_from (le_z x y) (le_z y x) (le_le_z x y (omega (arith, lin))) (le_le_z y x (omega (arith, lin)))

symmetric_out : (g : Grid) → width_of g ≡ height_of g → symmetry_fault g ≡ None → Symmetric (height_of g) (matrix_of g)
symmetric_out g s e i j h w =
    let line = mapped_none (Asymmetric i) (first_not (λ k. same (matrix_of g i k) (matrix_of g k i)) (width_of g)) (of_none (mirror_fault g) (height_of g) i e h) in
    same_out (matrix_of g i j) (matrix_of g j i) (first_none (λ k. same (matrix_of g i k) (matrix_of g k i)) (width_of g) j line (omega arith))

symmetric_in : (g : Grid) → width_of g ≡ height_of g → Symmetric (height_of g) (matrix_of g) → symmetry_fault g ≡ None
symmetric_in g s f =
    of_all (mirror_fault g) (height_of g) (λ i h.
    ap (option_map (Asymmetric i)) (first_all (λ j. same (matrix_of g i j) (matrix_of g j i)) (width_of g) (λ j w. same_in (matrix_of g i j) (matrix_of g j i) (f i j h (omega arith)))))

-- lists

pub long_out : (n m : ℕ) (x : Numbers) → lengths_fault n m x ≡ None → Long n m x
long_out n m x e =
    let p = six_none (length_fault name.Costs n x.c) (length_fault name.LowerBounds n x.l) (length_fault name.UpperBounds n x.u) (length_fault name.LowerLimits m x.lo)
    (length_fault name.UpperLimits m x.hi) (length_fault name.Slip (n * n) x.slip) e in
    record {
      c = one name.Costs n x.c p.0;
      l = one name.LowerBounds n x.l p.1;
      u = one name.UpperBounds n x.u p.2;
      lo = one name.LowerLimits m x.lo p.3;
      hi = one name.UpperLimits m x.hi p.4;
      slip = one name.Slip (n * n) x.slip p.5;
    }
  where
    one : (list : Name) (k : ℕ) (xs : List ℤ) → length_fault list k xs ≡ None → length xs ≡ k
    one list k xs d = eqb-true _ _ (cond_none (eqb (length xs) k) (Length list) d)

long_in : (n m : ℕ) (x : Numbers) → Long n m x → lengths_fault n m x ≡ None
long_in n m x h =
    six_in (length_fault name.Costs n x.c) (length_fault name.LowerBounds n x.l) (length_fault name.UpperBounds n x.u) (length_fault name.LowerLimits m x.lo)
    (length_fault name.UpperLimits m x.hi) (length_fault name.Slip (n * n) x.slip)
    (one name.Costs n x.c h.c) (one name.LowerBounds n x.l h.l) (one name.UpperBounds n x.u h.u) (one name.LowerLimits m x.lo h.lo)
    (one name.UpperLimits m x.hi h.hi) (one name.Slip (n * n) x.slip h.slip)
  where
    one : (list : Name) (k : ℕ) (xs : List ℤ) → length xs ≡ k → length_fault list k xs ≡ None
    one list k xs d = cond-true (eqb (length xs) k) None (Some (Length list)) (eq-eqb _ _ d)

near_out : (list : Name) (limit : ℕ) (xs : List ℤ) → limit_fault list limit xs ≡ None → Near limit xs
near_out list limit xs e k h =
    leb-true _ _ (first_none (λ k. within limit (places xs k)) (length xs) k (mapped_none (Limit list) (first_not (λ k. within limit (places xs k)) (length xs)) e) h)

near_in : (list : Name) (limit : ℕ) (xs : List ℤ) → Near limit xs → limit_fault list limit xs ≡ None
near_in list limit xs h = ap (option_map (Limit list)) (first_all (λ k. within limit (places xs k)) (length xs) (λ k l. le-leb _ _ (h k l)))

limited_out : (x : Numbers) → limits_fault x ≡ None → Limited x
limited_out x e =
    let p = six_none (limit_fault name.Costs 268435456 x.c) (limit_fault name.LowerBounds 32768 x.l) (limit_fault name.UpperBounds 32768 x.u)
    (limit_fault name.LowerLimits 536870912 x.lo) (limit_fault name.UpperLimits 536870912 x.hi) (limit_fault name.Slip 131072 x.slip) e in
    record {
      c = near_out name.Costs 268435456 x.c p.0;
      l = near_out name.LowerBounds 32768 x.l p.1;
      u = near_out name.UpperBounds 32768 x.u p.2;
      lo = near_out name.LowerLimits 536870912 x.lo p.3;
      hi = near_out name.UpperLimits 536870912 x.hi p.4;
      slip = near_out name.Slip 131072 x.slip p.5;
    }

limited_in : (x : Numbers) → Limited x → limits_fault x ≡ None
limited_in x h =
    six_in (limit_fault name.Costs 268435456 x.c) (limit_fault name.LowerBounds 32768 x.l) (limit_fault name.UpperBounds 32768 x.u)
    (limit_fault name.LowerLimits 536870912 x.lo) (limit_fault name.UpperLimits 536870912 x.hi) (limit_fault name.Slip 131072 x.slip)
    (near_in name.Costs 268435456 x.c h.c) (near_in name.LowerBounds 32768 x.l h.l) (near_in name.UpperBounds 32768 x.u h.u)
    (near_in name.LowerLimits 536870912 x.lo h.lo) (near_in name.UpperLimits 536870912 x.hi h.hi)
    (near_in name.Slip 131072 x.slip h.slip)

ordered_out : (list : Name) (lows highs : List ℤ) → order_fault list lows highs ≡ None → Ordered lows highs
ordered_out list lows highs e k h =
    let p = λ (k : ℕ). le_z (places lows k) (places highs k) in
    le_z_le _ _ (first_none p (length lows) k (mapped_none (Limit list) (first_not p (length lows)) e) h)

ordered_in : (list : Name) (lows highs : List ℤ) → Ordered lows highs → order_fault list lows highs ≡ None
ordered_in list lows highs h = ap (option_map (Limit list)) (first_all (λ k. le_z (places lows k) (places highs k)) (length lows) (λ k l. le_le_z _ _ (h k l)))

-- the slip

-- where the checks before it passed
pub slip_fits : {X : Type 0} (g a : Grid) (x : Numbers) (n m : ℕ) (y : X) → n ≡ height_of g → Ok y ≡ unless (sizes_fault g a) y
    → Ok y ≡ unless (option_or (lengths_fault n m x) (option_or (limits_fault x) (orders_fault x))) y → SlipNumbers n x.slip
slip_fits g a x n m y q s e =
    let l = or_none (lengths_fault n m x) (option_or (limits_fault x) (orders_fault x)) (none_of _ y y e) in
    let limited = limited_out x (or_none (limits_fault x) (orders_fault x) l.1).0 in
    record {
      few = rw q (sized_out g a (none_of (sizes_fault g a) y y s)).few_ropes;
      long = (long_out n m x l.0).slip;
      near = all_from (λ k. within 131072 (places x.slip k)) (length x.slip) (λ k l. le-leb _ _ (limited.slip k l));
    }

slip_out : (n : ℕ) (G : Matrix) (slip : List ℤ) → slip_fault n G slip ≡ None → SlipHolds n G (by_rows n slip)
slip_out n G slip e i h =
    let R = remainder n G (by_rows n slip) in
    le_z_le _ _ (first_none (dominates n R) n i (mapped_none Slip (first_not (dominates n R) n) e) h)

slip_in : (n : ℕ) (G : Matrix) (slip : List ℤ) → SlipHolds n G (by_rows n slip) → slip_fault n G slip ≡ None
slip_in n G slip h = ap (option_map Slip) (first_all (dominates n (remainder n G (by_rows n slip))) n (λ i l. le_le_z _ _ (h i l)))

-- all of it

-- the checks that follow one another, from the last
module _ (g a : Grid) (x : Numbers) where
  abbrev from_slip : Option Refusal
  from_slip = slip_fault (height_of g) (matrix_of g) x.slip

  abbrev from_orders : Option Refusal
  from_orders = option_or (orders_fault x) from_slip

  abbrev from_limits : Option Refusal
  from_limits = option_or (limits_fault x) from_orders

  abbrev from_lengths : Option Refusal
  from_lengths = option_or (lengths_fault (height_of g) (height_of a) x) from_limits

  abbrev from_tables : Option Refusal
  from_tables = option_or (tables_fault g a) from_lengths

  fits_out : open_fault g a x ≡ None → Fits g a x
  fits_out e =
      let p₁ = or_none (sizes_fault g a) from_tables e in
      let p₂ = or_none (tables_fault g a) from_lengths p₁.1 in
      let p₃ = or_none (lengths_fault (height_of g) (height_of a) x) from_limits p₂.1 in
      let p₄ = or_none (limits_fault x) from_orders p₃.1 in
      let p₅ = or_none (orders_fault x) from_slip p₄.1 in
      let t = or_none (option_or (places_fault 4096 g) (places_fault 1024 a)) (symmetry_fault g) p₂.0 in
      let f = or_none (places_fault 4096 g) (places_fault 1024 a) t.0 in
      let o = or_none (order_fault name.LowerBounds x.l x.u) (order_fault name.LowerLimits x.lo x.hi) p₅.0 in
      let s = sized_out g a p₁.0 in
      record {
        sized = s;
        curved = filled_out 4096 g f.0;
        lined = filled_out 1024 a f.1;
        symmetric = symmetric_out g s.square t.1;
        long = long_out (height_of g) (height_of a) x p₃.0;
        limited = limited_out x p₄.0;
        bounds_open = ordered_out name.LowerBounds x.l x.u o.0;
        limits_open = ordered_out name.LowerLimits x.lo x.hi o.1;
        slip_holds = slip_out (height_of g) (matrix_of g) x.slip p₅.1;
      }

  fits_in : Fits g a x → open_fault g a x ≡ None
  fits_in h =
      or_both (sizes_fault g a) from_tables (sized_in g a h.sized)
      (or_both (tables_fault g a) from_lengths
      (or_both (option_or (places_fault 4096 g) (places_fault 1024 a)) (symmetry_fault g)
      (or_both (places_fault 4096 g) (places_fault 1024 a) (filled_in 4096 g h.curved) (filled_in 1024 a h.lined))
      (symmetric_in g h.sized.square h.symmetric))
      (or_both (lengths_fault (height_of g) (height_of a) x) from_limits (long_in (height_of g) (height_of a) x h.long)
      (or_both (limits_fault x) from_orders (limited_in x h.limited)
      (or_both (orders_fault x) from_slip
      (or_both (order_fault name.LowerBounds x.l x.u) (order_fault name.LowerLimits x.lo x.hi) (ordered_in name.LowerBounds x.l x.u h.bounds_open)
      (ordered_in name.LowerLimits x.lo x.hi h.limits_open))
      (slip_in (height_of g) (matrix_of g) x.slip h.slip_holds)))))

-- a list is refused where the checks before it passed
pub list_refused : {X : Type 0} (g a : Grid) (x : Numbers) (n m : ℕ) (y : X) (e : Refusal) → n ≡ height_of g → m ≡ height_of a → Ok y ≡ unless (sizes_fault g a) y
    → Ok y ≡ unless (tables_fault g a) y → Err e ≡ unless (option_or (lengths_fault n m x) (option_or (limits_fault x) (orders_fault x))) y → Err e ≡ unless (open_fault g a x) y
list_refused g a x n m y e en em s t h =
    rw (none_of (sizes_fault g a) y y s, none_of (tables_fault g a) y y t)
    (listed (lengths_fault (height_of g) (height_of a) x) (limits_fault x) (orders_fault x) (slip_fault (height_of g) (matrix_of g) x.slip) (rw (en, em) at h))
  where
    listed : (l m o p : Option Refusal) → Err e ≡ unless (option_or l (option_or m o)) y → Err e ≡ unless (option_or l (option_or m (option_or o p))) y
    listed (Some f) m o p h = h
    listed None (Some f) o p h = h
    listed None None (Some f) p h = h
    listed None None None p h = let z : ◌≡◌ {A = ℕ} 0 1 = cc in absurd (omega arith)

pub tells_fit : (g a : Grid) (x : Numbers) (r : Option Refusal) → r ≡ open_fault g a x → TellsFit g a x r
tells_fit g a x r e =
    record {
      fits = λ d. fits_out g a x (sym e ∙ d);
      only = λ h. e ∙ fits_in g a x h;
      convex = λ d. let h = fits_out g a x (sym e ∙ d) in slip_sound (height_of g) (matrix_of g) (by_rows (height_of g) x.slip) h.symmetric h.slip_holds;
    }
