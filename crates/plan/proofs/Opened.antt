-- What fits at the opening of a plan.
use Rattle.std.proofs.Common.{◌≡◌, ℕ, ◌<◌, ◌≤◌, true, ltb, leb, List, length, replicate, ℤ, pos, nat_abs, Some, None, sym, refl, ap, ◌∙◌, subst, arith}
use lib.ListN.{length-replicate, get_or-replicate}
use Rattle.std.proofs.lemmas.Bool.{and_from, eq-eqb, le-leb, lt-ltb, cond-true}
use Rattle.duality.specs.Lists.{places}
use Rattle.duality.specs.Tests.{in_order, many_within}
use Rattle.duality.proofs.Tests.{all_from, le_le_z}
use Rattle.table.specs.Grid.{Grid}
use Rattle.opening.specs.Opening.{Numbers, open_fault}
use Rattle.opening.specs.Fits.{Fits, Ordered}
use Rattle.opening.proofs.Fitting.{tells_fit}
use Rattle.terms.specs.Numbers.{numbers, fitting, sizes, limited}
use Rattle.reasons.proofs.Fitting.{near_all, near_many}

ordered_all : (lows highs : List ℤ) → Ordered lows highs → in_order lows highs ≡ true
ordered_all lows highs h = all_from _ (length lows) (λ k l. le_le_z (places lows k) (places highs k) (h k l))

pub fits_of : (g a : Grid) (x : Numbers) → open_fault g a x ≡ None → Fits g a x
fits_of g a x e = (tells_fit g a x (open_fault g a x) refl).fits e

sizes_true : (g a : Grid) (x : Numbers) → Fits g a x → sizes (length x.c) (length x.l) (length x.u) (length x.lo) (length x.hi) ≡ true
sizes_true g a x f =
    let n = f.long.c in
    let m = f.long.lo in
    let s = f.sized in
    let some : 0 < length x.c = omega (arith, n, s.some_ropes) in
    let few : length x.c ≤ 16 = omega (arith, n, s.few_ropes) in
    let rows : length x.lo ≤ 32 = omega (arith, m, s.few_rows) in
    let el : length x.l ≡ length x.c = f.long.l ∙ sym n in
    let eu : length x.u ≡ length x.c = f.long.u ∙ sym n in
    let eh : length x.hi ≡ length x.lo = f.long.hi ∙ sym m in
    and_from _ _
    (and_from _ _
    (and_from _ _
    (and_from _ _
    (and_from (ltb 0 (length x.c)) (leb (length x.c) 16) (lt-ltb 0 (length x.c) some) (le-leb (length x.c) 16 few))
    (le-leb (length x.lo) 32 rows))
    (eq-eqb (length x.l) (length x.c) el))
    (eq-eqb (length x.u) (length x.c) eu))
    (eq-eqb (length x.hi) (length x.lo) eh)

limited_true : (g a : Grid) (x : Numbers) → Fits g a x → limited x.c x.l x.u x.lo x.hi ≡ true
limited_true g a x f =
    let t = f.limited in
    and_from _ _
    (and_from _ _
    (and_from _ _
    (and_from _ _
    (and_from _ _
    (and_from _ _
    (near_all 268435456 x.c t.c)
    (near_all 32768 x.l t.l))
    (near_all 32768 x.u t.u))
    (near_all 536870912 x.lo t.lo))
    (near_all 536870912 x.hi t.hi))
    (ordered_all x.l x.u f.bounds_open))
    (ordered_all x.lo x.hi f.limits_open)

pub fitting_is : (g a : Grid) (x : Numbers) → open_fault g a x ≡ None
    → fitting (numbers x.c x.l x.u x.lo x.hi) ≡ Some (numbers x.c x.l x.u x.lo x.hi)
fitting_is g a x e =
    let f = fits_of g a x e in
    cond-true _ _ _ (and_from _ _ (sizes_true g a x f) (limited_true g a x f))

pub zeros_fit : (n k limit : ℕ) (xs : List ℤ) → n ≡ k → xs ≡ replicate k (pos 0) → many_within n limit xs ≡ true
zeros_fit n k limit xs en ex =
    let long : length xs ≡ k = ap length ex ∙ length-replicate k (pos 0) in
    near_many n limit xs (long ∙ sym en)
    (λ i l.
    let z : places xs i ≡ pos 0 = ap (λ (ys : List ℤ). places ys i) ex ∙ get_or-replicate k i (pos 0) (pos 0) (omega (arith, long)) in
    subst (λ v. nat_abs v ≤ limit) (sym z) (omega arith))

pub lower_fit : (g a : Grid) (x : Numbers) → open_fault g a x ≡ None → (n : ℕ) (xs : List ℤ) → n ≡ length x.c → xs ≡ x.l → many_within n 32768 xs ≡ true
lower_fit g a x e n xs en ex =
    let f = fits_of g a x e in
    ap (many_within n 32768) ex ∙ near_many n 32768 x.l (f.long.l ∙ (sym f.long.c ∙ sym en)) f.limited.l
