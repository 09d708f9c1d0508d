-- What stands beyond the right side of a system is not read.
use Rattle.std.proofs.Common.{◌≡◌, ℕ, zero, suc, ◌+◌, ◌-◌, ◌<◌, ◌≤◌, Bool, true, false, cond, List, [], ◌∷◌, ◌++◌, map, length, get_or, take, drop, set, Some, None, Option, sym, refl, ap, ◌∙◌, arith}
use lib.Ieee.{Float, nan, binary64, div, lt}
use Rattle.std.proofs.lemmas.List.{take-take, take-map, drop-map, map-set, map-append, length-map, get_or-take}
use Rattle.elimination.specs.Lines.{at, lose, less, cleared, seen, size_of, pick, pivot_of, cleared_below, traded, takable, column_done, lesser, Triangle, columns_done, triangle_of, rest, unknown_of, one_more, unknowns_of, solved, solved_in}
use Rattle.elimination.proofs.Inside.{found_long, columns_long}
use Rattle.elimination.proofs.Back.{drop_of_take}

take_less : (m : ℕ) (f : Float) (xs ys : List Float) → take m (less f xs ys) ≡ less f (take m xs) ys
take_less zero f xs ys = refl
take_less (suc m) f [] ys = refl
take_less (suc m) f (x ∷ xs) [] = refl
take_less (suc m) f (x ∷ xs) (y ∷ ys) = ap (λ z. lose f x y ∷ z) (take_less m f xs ys)

take_parts : (a w : ℕ) (f : Float) (xs ys : List Float) → a ≤ w → take w (take a xs ++ less f (drop a xs) ys) ≡ take a (take w xs) ++ less f (drop a (take w xs)) ys
take_parts zero w f xs ys h = take_less w f xs ys
take_parts (suc a) zero f xs ys h = absurd (omega arith)
take_parts (suc a) (suc w) f [] ys h = refl
take_parts (suc a) (suc w) f (x ∷ xs) ys h = ap (λ z. x ∷ z) (take_parts a w f xs ys (omega arith))

take_cleared : (w k : ℕ) (p xs : List Float) → k < w → take w (cleared k p xs) ≡ cleared k p (take w xs)
take_cleared w k p xs h =
    let e = get_or-take w xs k nan h in
    take_parts (k + 1) w (div binary64 (at xs k) (at p k)) xs (drop (k + 1) p) (omega arith) ∙ rw e

seen_pick : (w k i p : ℕ) (s : Float) (ls : List (List Float)) → k < w → pick k i p s (seen w ls) ≡ pick k i p s ls
seen_pick w k i p s [] h = refl
seen_pick w k i p s (xs ∷ ls) h =
    let e : at (take w xs) k ≡ at xs k = get_or-take w xs k nan h in
    ap (λ x. pick k (suc i) (cond (lt s (size_of x)) i p) (cond (lt s (size_of x)) (size_of x) s) (seen w ls)) e
    ∙ seen_pick w k (suc i) (cond (lt s (size_of (at xs k))) i p) (cond (lt s (size_of (at xs k))) (size_of (at xs k)) s) ls h

pub line_seen : (w : ℕ) (ls : List (List Float)) (i : ℕ) → get_or (seen w ls) i [] ≡ take w (get_or ls i [])
line_seen zero [] i = refl
line_seen (suc w) [] i = refl
line_seen w (xs ∷ ls) zero = refl
line_seen w (xs ∷ ls) (suc i) = line_seen w ls i

module _ (w k : ℕ) (h : k < w) where
  pub seen_pivot : (ls : List (List Float)) → pivot_of k (seen w ls) ≡ pivot_of k ls
  seen_pivot ls = ap (pick k k k _) (drop-map (take w) k ls) ∙ seen_pick w k k k _ (drop k ls) h

  seen_traded : (i j : ℕ) (ls : List (List Float)) → traded i j (seen w ls) ≡ seen w (traded i j ls)
  seen_traded i j ls =
      let a = line_seen w ls i in
      let b = line_seen w ls j in
      rw (a, b) (sym (map-set (take w) (set ls i (get_or ls j [])) j (get_or ls i []) ∙ ap (λ z. set z j (take w (get_or ls i []))) (map-set (take w) ls i (get_or ls j []))))

  seen_map : (p : List Float) (ls : List (List Float)) → map (cleared k p) (seen w ls) ≡ seen w (map (cleared k p) ls)
  seen_map p [] = refl
  seen_map p (xs ∷ ls) = let e = take_cleared w k p xs h in rw e (ap (λ z. cleared k p (take w xs) ∷ z) (seen_map p ls))

  seen_below : (ls : List (List Float)) → cleared_below w k (seen w ls) ≡ seen w (cleared_below w k ls)
  seen_below ls =
      let p = take w (get_or ls k []) in
      let e : take w (get_or (seen w ls) k []) ≡ p = ap (take w) (line_seen w ls k) ∙ take-take w w (get_or ls k []) (omega arith) in
      ap (λ z. take (k + 1) (seen w ls) ++ map (cleared k z) (drop (k + 1) (seen w ls))) e
      ∙ ap (λ z. z ++ map (cleared k p) (drop (k + 1) (seen w ls))) (take-map (take w) (k + 1) ls)
      ∙ ap (λ z. seen w (take (k + 1) ls) ++ map (cleared k p) z) (drop-map (take w) (k + 1) ls)
      ∙ ap (λ z. seen w (take (k + 1) ls) ++ z) (seen_map p (drop (k + 1) ls))
      ∙ sym (map-append (take w) (take (k + 1) ls) (map (cleared k p) (drop (k + 1) ls)))

  seen_done : (ls : List (List Float)) → column_done w k (seen w ls) ≡ seen w (column_done w k ls)
  seen_done ls =
      let e = seen_pivot ls in
      rw e (ap (cleared_below w k) (seen_traded k (pivot_of k ls).0 ls) ∙ seen_below (traded k (pivot_of k ls).0 ls))

abbrev seen_of : ℕ → Triangle → Triangle
seen_of w t = record { whole = t.whole; least = t.least; lines = seen w t.lines }

seen_columns : (w m k : ℕ) (s : Float) (ls : List (List Float)) → k + m ≤ w → columns_done w m k s (seen w ls) ≡ seen_of w (columns_done w m k s ls)
seen_columns w zero k s ls h = refl
seen_columns w (suc m) k s ls h =
    let e = seen_pivot w k (omega arith) ls in
    let d = seen_done w k (omega arith) ls in
    ap (λ (z : ℕ × Float). cond (takable z.1) (columns_done w m (suc k) (lesser s z.1) (column_done w k (seen w ls))) (record { whole = false; least = s; lines = seen w ls })) e
    ∙ go (takable (pivot_of k ls).1)
    (ap (columns_done w m (suc k) (lesser s (pivot_of k ls).1)) d ∙ seen_columns w m (suc k) (lesser s (pivot_of k ls).1) (column_done w k ls) (omega arith))
  where
    go : (b : Bool) → columns_done w m (suc k) (lesser s (pivot_of k ls).1) (column_done w k (seen w ls)) ≡ seen_of w (columns_done w m (suc k) (lesser s (pivot_of k ls).1) (column_done w k ls)) →
        cond b (columns_done w m (suc k) (lesser s (pivot_of k ls).1) (column_done w k (seen w ls))) (record { whole = false; least = s; lines = seen w ls })
        ≡ seen_of w (cond b (columns_done w m (suc k) (lesser s (pivot_of k ls).1) (column_done w k ls)) (record { whole = false; least = s; lines = ls }))
    go true q = q
    go false q = refl

rest_take : (m : ℕ) (b : Float) (cs xs : List Float) → length xs ≤ m → rest b (take m cs) xs ≡ rest b cs xs
rest_take m b cs [] h = refl
rest_take zero b cs (x ∷ xs) h = absurd (omega arith)
rest_take (suc m) b [] (x ∷ xs) h = refl
rest_take (suc m) b (c ∷ cs) (x ∷ xs) h = rest_take m (lose c b x) cs xs (omega arith)

seen_unknown : (n k : ℕ) (line xs : List Float) → k + length xs < n → unknown_of n k (take (n + 1) line) xs ≡ unknown_of n k line xs
seen_unknown n k line xs h =
    let ln : n < n + 1 = omega arith in
    let lk : k < n + 1 = omega arith in
    let a = get_or-take (n + 1) line n nan ln in
    let b = get_or-take (n + 1) line k nan lk in
    let d = drop_of_take (k + 1) (n + 1) line (omega arith) in
    rw (a, b, d) (ap (λ z. div binary64 z (at line k)) (rest_take (n + 1 - (k + 1)) (at line n) (drop (k + 1) line) xs (omega arith)))

seen_unknowns : (n k : ℕ) (ls : List (List Float)) → k + length ls ≤ n → unknowns_of n k (seen (n + 1) ls) ≡ unknowns_of n k ls
seen_unknowns n k [] h = refl
seen_unknowns n k (line ∷ ls) h =
    ap (one_more n k (take (n + 1) line)) (seen_unknowns n (suc k) ls (omega arith)) ∙ go (unknowns_of n (suc k) ls) (λ xs e. found_long n (suc k) ls xs e)
  where
    go : (o : Option (List Float)) → ((xs : List Float) → o ≡ Some xs → length xs ≡ length ls) → one_more n k (take (n + 1) line) o ≡ one_more n k line o
    go None q = refl
    go (Some xs) q = let e = seen_unknown n k line xs (omega (arith, q xs refl)) in rw e

module _ (s : Float) (ls : List (List Float)) where
  pub solved_seen : solved s (seen (length ls + 1) ls) ≡ solved s ls
  unfolding solved
  solved_seen =
      let l = length-map ls (take (length ls + 1)) in
      let e = seen_columns (length ls + 1) (length ls) 0 s ls (omega arith) in
      let t = triangle_of s ls in
      let u = seen_unknowns (length ls) 0 t.lines (omega (arith, columns_long (length ls + 1) (length ls) 0 s ls)) in
      rw (l, e, u)

  pub solved_in_seen : solved_in s (seen (length ls + 1) ls) ≡ solved_in s ls
  solved_in_seen =
      let l = length-map ls (take (length ls + 1)) in
      rw (l, solved_seen)
