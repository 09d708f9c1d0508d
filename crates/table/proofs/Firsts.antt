-- The first record for a place, as a loop along the records finds it.
use Rattle.std.proofs.Common.{◌≡◌, ℕ, ◌+◌, ◌-◌, ◌<◌, ◌≤◌, Bool, true, false, cond, List, [], ◌∷◌, ◌++◌, length, get_or, drop, reverse, ℤ, pos, negsuc, Some, None, Option, Bor, unwrap_or, Decides, sym, refl, ap, ◌∙◌, ⊎_elim, arith}
use Rattle.std.proofs.lemmas.List.{at_drop_more, at_drop_all, get_or-reverse}
use Rattle.std.proofs.lemmas.Bool.{eqb-true, eq-eqb, false≢true, cases_Bool, cond-true, cond-false}
use Rattle.std.proofs.lemmas.Bool.Decides.{Decides-and}
use Rattle.std.specs.List.{AllByRecursion, find}
use Rattle.std.specs.Option.{MatchOption, option_map}
use Rattle.table.specs.declared.triplets.Record.{Record}
use Rattle.duality.specs.Lists.{places}
use Rattle.table.specs.Grid.{cut, width_of, limited, product_of}
use Rattle.table.specs.Lines.{line_grid}
use Rattle.table.specs.Records.{is_index, is_for, recorded, triplet_grid, Written}
use Rattle.table.specs.RecordLaws.{For, NotFor, Told}
use Rattle.table.proofs.Alikes.{same_product}
use Rattle.table.proofs.Bounds.{cut_below}
use Rattle.table.proofs.Places.{place_inside}

pub recorded_end : (rs : List Record) (k i j : ℕ) → length rs ≤ k → recorded (drop k rs) i j ≡ pos 0
recorded_end rs k i j h = at_drop_all (λ l. recorded l i j) rs k h

-- in the words of the records ----------------------------------------------------------

index_decides : (z : ℤ) (k : ℕ) → Decides (is_index z k) (z ≡ pos k)
index_decides (pos n) k = (λ e. ap (λ (m : ℕ). pos m) (eqb-true n k e), λ e. let q : n ≡ k = cc in eq-eqb n k q)
index_decides (negsuc n) k = (λ e. absurd (false≢true e), λ e. let q : ◌≡◌ {A = ℕ} 0 1 = cc in absurd (omega arith))

for_decides : (r : Record) (i j : ℕ) → Decides (is_for r i j) (For i j r)
for_decides r i j = Decides-and (is_index r.row i) (is_index r.column j) (index_decides r.row i) (index_decides r.column j)

not_for : (r : Record) (i j : ℕ) → NotFor i j r → is_for r i j ≡ false
not_for r i j n = ⊎_elim (λ t. absurd (n ((for_decides r i j).0 t))) (λ f. f) (cases_Bool (is_for r i j))

recorded_first : (before after : List Record) (r : Record) (i j : ℕ) → AllByRecursion (NotFor i j) before → For i j r → recorded (before ++ (r ∷ after)) i j ≡ r.number
recorded_first [] after r i j n f = cond-true (is_for r i j) r.number (recorded after i j) ((for_decides r i j).1 f)
recorded_first (b ∷ before) after r i j n f =
    cond-false (is_for b i j) b.number (recorded (before ++ (r ∷ after)) i j) (not_for b i j n.0) ∙ recorded_first before after r i j n.1 f

recorded_absent : (rs : List Record) (i j : ℕ) → AllByRecursion (NotFor i j) rs → recorded rs i j ≡ pos 0
recorded_absent [] i j n = refl
recorded_absent (r ∷ rs) i j n = cond-false (is_for r i j) r.number (recorded rs i j) (not_for r i j n.0) ∙ recorded_absent rs i j n.1

pub told : (high wide : ℤ) (rs : List Record) → Told high wide rs (triplet_grid high wide rs)
told high wide rs =
    record {
      tall = refl;
      broad = refl;
      first = λ i j h w before after r e n f.
          place_inside (triplet_grid high wide rs) i j h w
          ∙ ap (λ (z : ℤ). limited (Some z)) (ap (λ (l : List Record). recorded l i j) e ∙ recorded_first before after r i j n f);
      absent = λ i j h w n. place_inside (triplet_grid high wide rs) i j h w ∙ ap (λ (z : ℤ). limited (Some z)) (recorded_absent rs i j n);
    }

-- a row of numbers, written from the last record to the first ------------------------------

pub row_more : (rs : List Record) (n : ℕ) (r : Record) (i : ℕ) (old new : List ℤ) → n < length rs → length old ≡ 64 → r ≡ get_or (reverse rs) n r
    → ((j : ℕ) → j < 64 → places old j ≡ recorded (drop (length rs - n) rs) i j) → Written old r i new
    → (j : ℕ) → j < 64 → places new j ≡ recorded (drop (length rs - (n + 1)) rs) i j
row_more rs n r i old new inside long here before written j h =
    let k = length rs - 1 - n in
    let next : k + 1 ≡ length rs - n = omega arith in
    let now : k ≡ length rs - (n + 1) = omega arith in
    let at : get_or rs k r ≡ r = sym (get_or-reverse rs n r inside) ∙ sym here in
    let told : recorded (drop k rs) i j ≡ cond (is_for r i j) r.number (recorded (drop (length rs - n) rs) i j) =
    at_drop_more (λ l. recorded l i j) rs k r (omega arith)
    ∙ ap (λ (s : Record). cond (is_for s i j) s.number (recorded (drop (k + 1) rs) i j)) at
    ∙ ap (λ (m : ℕ). cond (is_for r i j) r.number (recorded (drop m rs) i j)) next in
    written j (omega arith)
    ∙ ap (λ (z : ℤ). cond (is_for r i j) r.number z) (before j h)
    ∙ sym told
    ∙ ap (λ (m : ℕ). recorded (drop m rs) i j) now

pub line_product : (high wide : ℤ) (rs : List Record) (i : ℕ) (xs ns : List ℤ) → i < cut high → length ns ≡ cut wide → ((j : ℕ) → j < cut wide → places ns j ≡ recorded rs i j)
    → product_of (line_grid ns) 0 xs ≡ product_of (triplet_grid high wide rs) i xs
line_product high wide rs i xs ns inside long same =
    let w : width_of (line_grid ns) ≡ cut wide = let b = cut_below wide in omega arith in
    same_product (line_grid ns) (triplet_grid high wide rs) 0 i xs (λ _. inside) (λ _. omega arith) w (λ j h.
    let l : j < cut wide = omega arith in
    place_inside (line_grid ns) 0 j (omega arith) h
    ∙ ap (λ (z : ℤ). limited (Some z)) (same j l)
    ∙ sym (place_inside (triplet_grid high wide rs) i j inside l))

-- the number of the record that `find` gives
recorded_found : (rs : List Record) (i j : ℕ) → recorded rs i j ≡ unwrap_or (option_map (λ r. r.number) (find (λ r. is_for r i j) rs)) (pos 0)
recorded_found [] i j = refl
recorded_found (r ∷ rs) i j = here (is_for r i j) (recorded_found rs i j)
  where
    here : (b : Bool) → recorded rs i j ≡ unwrap_or (option_map (λ r. r.number) (find (λ r. is_for r i j) rs)) (pos 0)
        → cond b r.number (recorded rs i j) ≡ unwrap_or (option_map (λ r. r.number) (cond b (Some r) (find (λ r. is_for r i j) rs))) (pos 0)
    here true e = refl
    here false e = e

pub found_number : (rs : List Record) (i j : ℕ) (Q : Bor Record → Type 0) (o : Option (Bor Record)) (z : ℤ) → option_map (λ y. y.now) o ≡ find (λ r. is_for r i j) rs
    → MatchOption o (z ≡ pos 0) Q → ((y : Bor Record) → Q y → z ≡ y.now.number) → z ≡ recorded rs i j
found_number rs i j Q None z e h k = h ∙ sym (recorded_found rs i j ∙ ap (λ (o : Option Record). unwrap_or (option_map (λ r. r.number) o) (pos 0)) (sym e))
found_number rs i j Q (Some y) z e h k = k y h ∙ sym (recorded_found rs i j ∙ ap (λ (o : Option Record). unwrap_or (option_map (λ r. r.number) o) (pos 0)) (sym e))
