-- A job that is written and read again, and a card that is read and written again.
use Rattle.std.proofs.Common.{◌≡◌, ℕ, ◌+◌, ◌*◌, ◌<◌, ◌≤◌, Bool, true, false, cond, ◌⊎◌, List, get_or, take, drop, ℤ, pos, is_some, Some, None, Ok, Option, unwrap_or, sym, refl, ap, ◌∙◌, subst, inl, inr, ⊎_elim, arith}
use Rattle.std.proofs.lemmas.List.{take-append-drop, take_at, drop_at}
use Rattle.std.proofs.lemmas.Bool.{cases_lt, false≢true}
use Rattle.duality.specs.Tests.{within}
use Rattle.block.specs.declared.kind.Kind.{Kind}
use Rattle.block.specs.declared.kind.Kind.TheVariants.{Curvature, Rows, Costs, Bounds, Limits, Slip}
use Rattle.section.specs.Layout.{count_of}
use Rattle.section.specs.Numbers.{numbers_in}
use Rattle.table.specs.Grid.{Grid, height_of, width_of, limited, place_of, matrix_of}
use Rattle.table.proofs.Alikes.{alike}
use Rattle.table.proofs.Places.{place_inside, place_outside}
use Rattle.card.specs.Cards.{card_of, section_of}
use Rattle.card.specs.Faults.{n_of, m_of, card_check}
use Rattle.card.specs.Grids.{curvature_grid, rows_grid, Holds}
use Rattle.card.specs.Laws.{Reads}
use Rattle.card.proofs.Holding.{holds_curvature, holds_rows}
use Rattle.card.proofs.Whole.{sound}
use Rattle.opening.specs.Fits.{Filled, Fits}
use Rattle.opening.specs.Opening.{Numbers, open_fault}
use Rattle.opening.proofs.Fitting.{tells_fit}
use Rattle.reading.specs.Plain.{listed}
use Rattle.reading.proofs.Listed.{listed_at}
use Rattle.sheet.specs.Laws.{Carries, SameAgain}
use Rattle.sheet.specs.Numbers.{job_numbers}
use Rattle.sheet.specs.Reading.{lists_in, lists_on}
use Rattle.sheet.proofs.Counts.{length_in, same_lists_of}
use Rattle.sheet.proofs.Flat.{rows_from}
use Rattle.sheet.proofs.Moving.{fits_moved}

-- cards of the same numbers are the same; the head has the sizes alone
pub same_card : (n m : ℕ) (f h : Kind → List ℤ)
    → f Curvature ≡ h Curvature → f Rows ≡ h Rows → f Costs ≡ h Costs → f Bounds ≡ h Bounds → f Limits ≡ h Limits → f Slip ≡ h Slip
    → card_of n m f ≡ card_of n m h
unfolding card_of section_of
same_card n m f h eg ea ec eb er el = rw (eg, ea, ec, eb, er, el)

-- a number within the limit of a place stays as it is

given : (b : Bool) (z : ℤ) → is_some (cond b (Some z) None) ≡ true → b ≡ true
given true z e = refl
given false z e = absurd (false≢true e)

number_given : (o : Option ℤ) (z : ℤ) → o ≡ limited (Some z) → is_some o ≡ true → unwrap_or o (pos 0) ≡ z
number_given o z e s =
    let t : within 1048576 z ≡ true = given (within 1048576 z) z (ap is_some (sym e) ∙ s) in
    let d : o ≡ Some z = e ∙ ap (λ (b : Bool). cond b (Some z) None) t in
    ap (λ (p : Option ℤ). unwrap_or p (pos 0)) d

limited_again : (o : Option ℤ) → is_some (limited o) ≡ true → limited (Some (unwrap_or (limited o) (pos 0))) ≡ limited o
limited_again None e = absurd (false≢true e)
limited_again (Some z) e =
    let t : within 1048576 z ≡ true = given (within 1048576 z) z e in
    ap (λ (b : Bool). limited (Some (unwrap_or (cond b (Some z) None) (pos 0)))) t

place_again : (g : Grid) (i j : ℕ) → i < height_of g → j < width_of g → is_some (place_of g i j) ≡ true → limited (Some (matrix_of g i j)) ≡ place_of g i j
place_again g i j hi hj e =
    let p = place_inside g i j hi hj in
    subst (λ (o : Option ℤ). limited (Some (unwrap_or o (pos 0))) ≡ o) (sym p) (limited_again (g.cell i j) (ap is_some (sym p) ∙ e))

-- a table of a card, and the table that the section was written from
same_places : (w : List ℕ) (n m rows limit : ℕ) (kind : Kind) (t g : Grid) → n_of w ≡ n → m_of w ≡ m → Holds w kind rows t → rows ≡ height_of g
    → (height_of g ≡ 0) ⊎ (width_of g ≡ n) → numbers_in w n m kind ≡ listed (height_of g) n (matrix_of g) → Filled limit g
    → (i j : ℕ) → place_of t i j ≡ place_of g i j
same_places w n m rows limit kind t g en em h er wide nums full i j =
    ⊎_elim
    (λ (hi : i < height_of g).
    ⊎_elim
    (λ (none : height_of g ≡ 0). absurd (omega arith))
    (λ (as_wide : width_of g ≡ n).
    ⊎_elim
    (λ (hj : j < n).
    let on : numbers_in w (n_of w) (m_of w) kind ≡ listed (height_of g) n (matrix_of g)
    = ap (λ (k : ℕ). numbers_in w k (m_of w) kind) en ∙ ap (λ (k : ℕ). numbers_in w n k kind) em ∙ nums in
    h.places i j (omega arith) (omega arith)
    ∙ ap (λ (xs : List ℤ). limited (Some (get_or xs (i * n_of w + j) (pos 0)))) on
    ∙ ap (λ (k : ℕ). limited (Some (get_or (listed (height_of g) n (matrix_of g)) (i * k + j) (pos 0)))) en
    ∙ ap (λ (z : ℤ). limited (Some z)) (listed_at (height_of g) n (matrix_of g) i j hi hj)
    ∙ place_again g i j hi (omega arith) (full i j hi (omega arith)).0)
    (λ (past : n ≤ j).
    let wt = h.wide in
    place_outside t i j (λ p. let q = p.1 in omega arith) ∙ sym (place_outside g i j (λ p. let q = p.1 in omega arith)))
    (cases_lt j n))
    wide)
    (λ (past : height_of g ≤ i).
    let ht = h.high in
    place_outside t i j (λ p. let q = p.0 in omega arith) ∙ sym (place_outside g i j (λ p. let q = p.0 in omega arith)))
    (cases_lt i (height_of g))

pub carries : (w : List ℕ) (g a : Grid) (x : Numbers) (nums : Kind → List ℤ) → Fits g a x → card_check w ≡ Ok tt → Reads w (height_of g) (height_of a) nums
    → ((kind : Kind) → nums kind ≡ job_numbers g a x kind) → Carries w g a x
carries w g a x nums f ok r e =
    let n : ℕ = height_of g in
    let m : ℕ = height_of a in
    let s = sound w ok in
    let hg = holds_curvature w s in
    let ha = holds_rows w s in
    let on : (kind : Kind) → numbers_in w n m kind ≡ job_numbers g a x kind = λ kind. r.section kind ∙ e kind in
    let high-g : height_of (curvature_grid w) ≡ height_of g = hg.high ∙ r.ropes in
    let wide-g : width_of (curvature_grid w) ≡ width_of g = hg.wide ∙ r.ropes ∙ sym f.sized.square in
    let places-g : (i j : ℕ) → place_of (curvature_grid w) i j ≡ place_of g i j
    = same_places w n m (n_of w) 4096 Curvature (curvature_grid w) g r.ropes r.rows hg r.ropes (inr f.sized.square) (on Curvature) f.curved in
    let high-a : height_of (rows_grid w) ≡ height_of a = ha.high ∙ r.rows in
    let wide-a : (height_of a ≡ 0) ⊎ (width_of (rows_grid w) ≡ width_of a)
    = ⊎_elim (λ (none : height_of a ≡ 0). inl none) (λ (level : width_of a ≡ height_of g). inr (ha.wide ∙ r.ropes ∙ sym level)) f.sized.across in
    let places-a : (i j : ℕ) → place_of (rows_grid w) i j ≡ place_of a i j
    = same_places w n m (m_of w) 1024 Rows (rows_grid w) a r.ropes r.rows ha r.rows f.sized.across (on Rows) f.lined in
    let long = f.long in
    let low : take n (numbers_in w n m Bounds) ≡ x.l = ap (take n) (on Bounds) ∙ take_at x.l x.u n long.l in
    let high : drop n (numbers_in w n m Bounds) ≡ x.u = ap (drop n) (on Bounds) ∙ drop_at x.l x.u n long.l in
    let least : take m (numbers_in w n m Limits) ≡ x.lo = ap (take m) (on Limits) ∙ take_at x.lo x.hi m long.lo in
    let most : drop m (numbers_in w n m Limits) ≡ x.hi = ap (drop m) (on Limits) ∙ drop_at x.lo x.hi m long.lo in
    let back : lists_in w n m ≡ x = same_lists_of (lists_in w n m) x (on Costs) low high least most (on Slip) in
    let lists : lists_on w ≡ x = ap (λ (k : ℕ). lists_in w k (m_of w)) r.ropes ∙ ap (lists_in w n) r.rows ∙ back in
    record {
      passes = ok;
      curvature = alike (curvature_grid w) g high-g wide-g places-g;
      high = high-a;
      wide = wide-a;
      rows = places-a;
      lists = lists;
      opens =
          (tells_fit (curvature_grid w) (rows_grid w) (lists_on w) (open_fault (curvature_grid w) (rows_grid w) (lists_on w)) refl).only
          (subst (λ (y : Numbers). Fits (curvature_grid w) (rows_grid w) y) (sym lists)
          (fits_moved g a (curvature_grid w) (rows_grid w) x high-g wide-g places-g high-a wide-a places-a f));
    }

-- a table that was read off a card, row by row again
rows_back : (card : List ℕ) (kind : Kind) (rows limit : ℕ) (t : Grid) → 0 < n_of card → Holds card kind rows t → Filled limit t → count_of kind (n_of card) (m_of card) ≡ rows * n_of card
    → listed rows (n_of card) (matrix_of t) ≡ numbers_in card (n_of card) (m_of card) kind
rows_back card kind rows limit t some h full count =
    let high = h.high in
    let wide = h.wide in
    rows_from rows (n_of card) (matrix_of t) (numbers_in card (n_of card) (m_of card) kind) some (length_in card (n_of card) (m_of card) kind ∙ count)
    (λ i j hi hj. number_given (place_of t i j) _ (h.places i j hi hj) (full i j (omega arith) (omega arith)).0)

pub same_again : (card : List ℕ) → (card_check card ≡ Ok tt → card ≡ card_of (n_of card) (m_of card) (numbers_in card (n_of card) (m_of card))) → SameAgain card
same_again card made ok none =
    let n : ℕ = n_of card in
    let m : ℕ = m_of card in
    let g : Grid = curvature_grid card in
    let a : Grid = rows_grid card in
    let x : Numbers = lists_on card in
    let s = sound card ok in
    let f = (tells_fit g a x (open_fault g a x) refl).fits none in
    let hg = holds_curvature card s in
    let ha = holds_rows card s in
    let some : 0 < n = omega (arith, s.sizes.range.some) in
    let as-n : height_of g ≡ n = hg.high in
    let as-m : height_of a ≡ m = ha.high in
    let eg : job_numbers g a x Curvature ≡ numbers_in card n m Curvature = ap (λ (k : ℕ). listed k k (matrix_of g)) as-n ∙ rows_back card Curvature n 4096 g some hg f.curved refl in
    let ea : job_numbers g a x Rows ≡ numbers_in card n m Rows
    = ap (λ (k : ℕ). listed k (height_of g) (matrix_of a)) as-m ∙ ap (λ (k : ℕ). listed m k (matrix_of a)) as-n ∙ rows_back card Rows m 1024 a some ha f.lined refl in
    ap (λ (k : ℕ). card_of k (height_of a) (job_numbers g a x)) as-n
    ∙ ap (λ (k : ℕ). card_of n k (job_numbers g a x)) as-m
    ∙ same_card n m (job_numbers g a x) (numbers_in card n m) eg ea refl (take-append-drop n (numbers_in card n m Bounds)) (take-append-drop m (numbers_in card n m Limits)) refl
    ∙ sym (made ok)
