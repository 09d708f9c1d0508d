-- A system has one elimination: its lines are left one way, and have one answer.
use Rattle.std.proofs.Common.{◌≡◌, ◌≢◌, ℕ, suc, ◌+◌, ◌<◌, ◌≤◌, ◌⊎◌, inl, inr, true, false, List, [], ◌∷◌, length, Some, None, Option, sym, refl, ap, ◌∙◌, subst, ⊎_elim, arith}
use lib.Ieee.{Float, nan, lt}
use Rattle.std.specs.Float.{◌<ᶠ◌}
use Rattle.std.proofs.lemmas.Float.{le_of_lt, le_of_not-lt, le_right}
use Rattle.std.proofs.lemmas.Bool.{cases_lt}
use Rattle.std.proofs.lemmas.List.{ext_get_or}
use Rattle.elimination.specs.Lines.{smallest, inside, unknown_of}
use Rattle.elimination.specs.Runs.{line_at, size_at, HasPivot, Takable, Takes, HasNone, ClearedBy, Clears, Lead, sizes, Least, Unknowns, Outside, Ends, Elimination}
use Rattle.elimination.specs.declared.pivots.Pivot.{Pivot}
use Rattle.elimination.proofs.Search.{no_more}

not_later : (ls : List (List Float)) (k i j : ℕ) → HasPivot ls k i → HasPivot ls k j → Takable (size_at ls k i) → Takable (size_at ls k j) → i < j → ⊥
not_later ls k i j f g a b l =
    let x = size_at ls k i in
    let y = size_at ls k j in
    g.first i f.below l
    (le_of_not-lt x y (le_right smallest x (le_of_lt smallest x a.0)) (le_right smallest y (le_of_lt smallest y b.0)) (no_more (lt x y) (f.largest j g.below g.within)))

one_place : (ls : List (List Float)) (k : ℕ) (p q : Pivot) → Takes ls k p → Takes ls k q → p.place ≡ q.place
one_place ls k p q f g =
    let a = subst Takable f.size f.takable in
    let b = subst Takable g.size g.takable in
    ⊎_elim (λ l. absurd (not_later ls k p.place q.place f.place g.place a b l))
    (λ l. ⊎_elim (λ m. absurd (not_later ls k q.place p.place g.place f.place b a m)) (λ m. omega arith) (cases_lt q.place p.place))
    (cases_lt p.place q.place)

abbrev made : ℕ → Float → Pivot
made i x = record { place = i; size = x }

one_pivot : (ls : List (List Float)) (k : ℕ) (p q : Pivot) → Takes ls k p → Takes ls k q → p ≡ q
one_pivot ls k p q f g =
    let e = one_place ls k p q f g in
    ap (λ (i : ℕ). made i p.size) e ∙ ap (λ (x : Float). made q.place x) (f.size ∙ ap (size_at ls k) e ∙ sym g.size)

one_line : (w k : ℕ) (ps xs ys zs : List Float) → ClearedBy w k ps xs ys → ClearedBy w k ps xs zs → ys ≡ zs
one_line w k ps xs ys zs f g =
    let m = f.long in
    ext_get_or nan ys zs (f.long ∙ sym g.long)
    (λ c l.
    ⊎_elim
    (λ a. ⊎_elim (λ b. f.loses c a b (omega arith) ∙ sym (g.loses c a b (omega arith))) (λ b. f.stays c (inr b) ∙ sym (g.stays c (inr b))) (cases_lt c w))
    (λ a. f.stays c (inl a) ∙ sym (g.stays c (inl a)))
    (cases_lt k c))

one_clearing : (w k p : ℕ) (ls ms ns : List (List Float)) → Clears w k p ls ms → Clears w k p ls ns → ms ≡ ns
one_clearing w k p ls ms ns f g =
    let m = f.long in
    let below = λ (i : ℕ) (a : k < i) (l : i < length ls) (ne : i ≢ p). one_line w k (line_at ls p) (line_at ls i) (line_at ms i) (line_at ns i) (f.below i a l ne) (g.below i a l ne) in
    let Same : ℕ → Type 0 = λ i. line_at ms i ≡ line_at ns i in
    ext_get_or [] ms ns (f.long ∙ sym g.long)
    (λ i l.
    ⊎_elim (λ a. f.above i a ∙ sym (g.above i a))
    (λ a. ⊎_elim
    (λ b. ⊎_elim (λ c. below i b (omega arith) (λ e. omega arith))
    (λ c. ⊎_elim (λ d. below i b (omega arith) (λ e. omega arith))
    (λ d. let e : i ≡ p = omega arith in
    subst Same (sym e) (one_line w k (line_at ls p) (line_at ls k) (line_at ms p) (line_at ns p) (f.traded (omega arith)) (g.traded (omega arith))))
    (cases_lt p i))
    (cases_lt i p))
    (λ b. let e : i ≡ k = omega arith in subst Same (sym e) (f.pivot ∙ sym g.pivot))
    (cases_lt k i))
    (cases_lt i k))

-- after c columns of n nothing more can be done
abbrev Stops : ℕ → ℕ → List (List Float) → Type 0
Stops n c ms = (c ≡ n) ⊎ HasNone ms c

goes_on : (n k : ℕ) (ls : List (List Float)) (p : Pivot) → length ls ≡ n → Takes ls k p → ¬ (Stops n k ls)
goes_on n k ls p l t (inl e) = let a = t.place.below in let b = t.place.within in omega arith
goes_on n k ls p l t (inr h) = h p.place t.place (subst Takable t.size t.takable)

stops_here : (n k : ℕ) (ls ms : List (List Float)) → ls ≡ ms → Stops n (k + 0) ms → Stops n k ls
stops_here n k ls ms e h =
    let f : k + 0 ≡ k = omega arith in
    let P : ℕ → Type 0 = λ c. Stops n c ls in
    let Q : List (List Float) → Type 0 = Stops n (k + 0) in
    subst P f (subst Q (sym e) h)

stops_there : (n k m : ℕ) (ms : List (List Float)) → Stops n (k + suc m) ms → Stops n (suc k + m) ms
stops_there n k m ms h = let e : k + suc m ≡ suc k + m = omega arith in let P : ℕ → Type 0 = λ c. Stops n c ms in subst P e h

stops_first : (n c : ℕ) (ms : List (List Float)) → Stops n c ms → Stops n (0 + c) ms
stops_first n c ms h = let e : c ≡ 0 + c = omega arith in let P : ℕ → Type 0 = λ i. Stops n i ms in subst P e h

one_run : (w n k : ℕ) (ps qs : List Pivot) (ls ms ns : List (List Float)) → length ls ≡ n → Lead w k ps ls ms → Lead w k qs ls ns → Stops n (k + length ps) ms → Stops n (k + length qs) ns →
    (ms ≡ ns) × (ps ≡ qs)
one_run w n k [] [] ls ms ns l f g a b = (sym f ∙ g, refl)
one_run w n k [] (q ∷ qs) ls ms ns l f g a b = absurd (goes_on n k ls q l g.0 (stops_here n k ls ms f a))
one_run w n k (p ∷ ps) [] ls ms ns l f g a b = absurd (goes_on n k ls p l f.0 (stops_here n k ls ns g b))
one_run w n k (p ∷ ps) (q ∷ qs) ls ms ns l f g a b =
    let P : ℕ → Type 0 = λ i. Clears w k i ls g.1.0 in
    let c : f.1.0 ≡ g.1.0 = one_clearing w k p.place ls f.1.0 g.1.0 f.1.1.0 (subst P (sym (one_place ls k p q f.0 g.0)) g.1.1.0) in
    let L : List (List Float) → Type 0 = λ vs. Lead w (suc k) qs vs ns in
    let r = one_run w n (suc k) ps qs f.1.0 ms ns (f.1.1.0.long ∙ l) f.1.1.1 (subst L (sym c) g.1.1.1) (stops_there n k (length ps) ms a) (stops_there n k (length qs) ns b) in
    (r.0, ap (λ (q : Pivot). q ∷ ps) (one_pivot ls k p q f.0 g.0) ∙ ap (λ rs. q ∷ rs) r.1)

none_after : (n k : ℕ) (ls : List (List Float)) (xs : List Float) → Unknowns n k ls xs → k + length xs ≡ n
none_after n k ls [] h = omega arith
none_after n k ls (x ∷ xs) h = omega (arith, none_after n (suc k) ls xs h.2)

one_answer : (n k : ℕ) (ls : List (List Float)) (xs ys : List Float) → Unknowns n k ls xs → Unknowns n k ls ys → xs ≡ ys
one_answer n k ls [] [] f g = refl
one_answer n k ls [] (y ∷ ys) f g = absurd (omega (arith, none_after n (suc k) ls ys g.2))
one_answer n k ls (x ∷ xs) [] f g = absurd (omega (arith, none_after n (suc k) ls xs f.2))
one_answer n k ls (x ∷ xs) (y ∷ ys) f g =
    let e = one_answer n (suc k) ls xs ys f.2 g.2 in
    ap (λ z. x ∷ z) e ∙ ap (λ z. z ∷ ys) (f.0 ∙ ap (unknown_of n k (line_at ls k)) e ∙ sym g.0)

-- the unknown of line k, among all from line j on
inside_there : (n j k : ℕ) (ls : List (List Float)) (xs : List Float) → Unknowns n j ls xs → j ≤ k → k < n → (ys : List Float) × (Unknowns n (suc k) ls ys × (inside (unknown_of n k (line_at ls k) ys) ≡ true))
inside_there n j k ls [] h a b = absurd (omega arith)
inside_there n j k ls (x ∷ xs) h a b =
    ⊎_elim (λ l. inside_there n (suc j) k ls xs h.2 (omega arith) b)
    (λ l.
    let e : j ≡ k = omega arith in
    let P : ℕ → Type 0 = λ i. Unknowns n (suc i) ls xs × (inside (unknown_of n i (line_at ls i) xs) ≡ true) in
    (xs, subst P e (h.2, ap inside (sym h.0) ∙ h.1)))
    (cases_lt j k)

not_outside : (n : ℕ) (ls : List (List Float)) (xs : List Float) → Unknowns n 0 ls xs → ¬ (Outside n ls)
not_outside n ls xs h o =
    let k = o.0 in
    let w = inside_there n 0 k ls xs h (omega arith) o.1.0 in
    let e = one_answer n (suc k) ls w.0 o.1.1.0 w.1.0 o.1.1.1.0 in
    let z : true ≡ false = sym w.1.1 ∙ ap (λ ys. inside (unknown_of n k (line_at ls k) ys)) e ∙ o.1.1.1.1 in
    cc

one_end : (n c : ℕ) (ms : List (List Float)) (us vs : Option (List Float)) → Ends n c ms us → Ends n c ms vs → us ≡ vs
one_end n c ms None None f g = refl
one_end n c ms None (Some ys) (inl f) g = absurd (omega (arith, f.0, g.0))
one_end n c ms None (Some ys) (inr f) g = absurd (not_outside n ms ys g.1 f.1)
one_end n c ms (Some xs) None f (inl g) = absurd (omega (arith, f.0, g.0))
one_end n c ms (Some xs) None f (inr g) = absurd (not_outside n ms xs f.1 g.1)
one_end n c ms (Some xs) (Some ys) f g = ap Some (one_answer n 0 ms xs ys f.1 g.1)

ends_stop : (n c : ℕ) (ms : List (List Float)) (us : Option (List Float)) → Ends n c ms us → Stops n c ms
ends_stop n c ms None (inl h) = inr h.1
ends_stop n c ms None (inr h) = inl h.0
ends_stop n c ms (Some xs) h = inl h.0

-- the columns of a system are done one way, and leave one answer
pub one_solution : (ls ms ns : List (List Float)) (ps qs : List Pivot) (us vs : Option (List Float)) → Lead (length ls + 1) 0 ps ls ms → Ends (length ls) (length ps) ms us →
    Lead (length ls + 1) 0 qs ls ns → Ends (length ls) (length qs) ns vs → (ns ≡ ms) × (vs ≡ us) × (qs ≡ ps)
one_solution ls ms ns ps qs us vs f a g b =
    let n = length ls in
    let r = one_run (n + 1) n 0 ps qs ls ms ns refl f g (stops_first n (length ps) ms (ends_stop n (length ps) ms us a)) (stops_first n (length qs) ns (ends_stop n (length qs) ns vs b)) in
    let P : List (List Float) → Type 0 = λ x. Ends n (length qs) x vs in
    let Q : ℕ → Type 0 = λ c. Ends n c ms vs in
    (sym r.0, one_end n (length ps) ms vs us (subst Q (ap length (sym r.1)) (subst P (sym r.0) b)) a, sym r.1)

least_one : (xs : List Float) (t u : Float) → Least xs t → Least xs u → ¬ (u <ᶠ t)
least_one xs t u f g = let a = g.among in let P : Float → Type 0 = λ x. ¬ (x <ᶠ t) in subst P a.2 (f.least a.0 u a.1)

pub one_elimination : (s t u : Float) (ls ms ns : List (List Float)) (us vs : Option (List Float)) → Elimination s ls ms t us → Elimination s ls ns u vs →
    (ns ≡ ms) × (vs ≡ us) × (¬ (u <ᶠ t)) × (¬ (t <ᶠ u))
one_elimination s t u ls ms ns us vs f g =
    let r = one_solution ls ms ns f.pivots g.pivots us vs f.columns f.end g.columns g.end in
    let P : List Pivot → Type 0 = λ ps. Least (s ∷ sizes ps) u in
    let h = subst P r.2 g.size in
    (r.0, r.1, least_one (s ∷ sizes f.pivots) t u f.size h, least_one (s ∷ sizes f.pivots) u t h f.size)
