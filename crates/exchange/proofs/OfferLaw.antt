-- The offer that is made has its meaning, and no other has it.
use Rattle.std.proofs.Common.{◌≡◌, ℕ, zero, suc, ◌-◌, ◌<◌, ◌≤◌, Bool, true, false, cond, ◌||◌, List, [], ◌∷◌, ◌++◌, length, take, drop, replicate, ℤ, pos, ◌-ℤ◌, ◌≤ℤ◌, nat_abs, ◌⊎◌, inl, inr, sym, refl, ap, ◌∙◌, subst, ⊎_elim, true≢false, arith, eqb-true, eq-eqb}
use Rattle.std.proofs.lemmas.List.FromFn.{length-map-range_with_len, get_or-map-range_with_len}
use Rattle.std.proofs.lemmas.List.{ext_get_or, take-append-drop, get_or-take, take_all}
use Rattle.std.proofs.lemmas.Int.{clamps}
use Rattle.std.proofs.lemmas.Bool.{cases_lt}
use Rattle.duality.specs.Lists.{places}
use Rattle.duality.specs.Problem.{Problem}
use Rattle.duality.proofs.Ring.{lin}
use Rattle.duality.proofs.Sizes.{sizes}
use Rattle.job.specs.Bounds.{HeldInside, held}
use Rattle.exchange.specs.Systems.{member_at}
use Rattle.exchange.specs.Breaches.{same, holds, Apart}
use Rattle.exchange.specs.Meanings.{HeldWithin, OfferOf}
use Rattle.exchange.specs.Offers.{filled, inside_bounds, inside_limit, pressure_of, multipliers}
use Rattle.exchange.specs.declared.members.Limit.{Limit}
use Rattle.exchange.specs.declared.members.Limit.TheVariants.{Row, Bound}
use Rattle.exchange.specs.declared.members.Member.{Member}
use Rattle.exchange.specs.declared.members.Offer.{Offer}
use Rattle.exchange.proofs.Filling.{take_filled_up, drop_filled_up}
use Rattle.exchange.proofs.Meanings.{Ordered}

-- held inside a limit, and nearest
limit_held : (y : ℤ) → HeldWithin 16777216 y (inside_limit y)
limit_held y = record { within = omega (arith, sizes, clamps); nearest = λ v h. omega (arith, lin, clamps, sizes) }

limit_only : (y w : ℤ) → HeldWithin 16777216 y w → w ≡ inside_limit y
limit_only y w h =
    let k = limit_held y in
    let a = h.nearest (inside_limit y) k.within in
    let b = h.within in
    omega (arith, lin, clamps, sizes)

held_only : (low high x y : ℤ) → low ≤ℤ high → low ≤ℤ y → y ≤ℤ high → ((w : ℤ) → low ≤ℤ w → w ≤ℤ high → nat_abs (y -ℤ x) ≤ nat_abs (w -ℤ x)) → y ≡ held low high x
held_only low high x y o a b n =
    let c = n (held low high x) (omega (arith, lin, clamps)) (omega (arith, lin, clamps)) in
    omega (arith, lin, clamps, sizes)

-- whose limit is held
same_is : (v w : Limit) → same v w ≡ true → v ≡ w
same_is (Row i) (Row k) e = ap (λ (n : ℕ). Row n) (eqb-true i k e)
same_is (Row i) (Bound k) e = absurd (true≢false (sym e))
same_is (Bound i) (Row k) e = absurd (true≢false (sym e))
same_is (Bound i) (Bound k) e = ap (λ (n : ℕ). Bound n) (eqb-true i k e)

same_self : (v : Limit) → same v v ≡ true
same_self (Row i) = eq-eqb i i refl
same_self (Bound i) = eq-eqb i i refl

holds_there : (ms : List Member) (v : Limit) (k i : ℕ) → i < k → i < length ms → (member_at ms i).limit ≡ v → holds (take k ms) v ≡ true
holds_there [] v k i a l e = absurd (omega arith)
holds_there (w ∷ ms) v zero i a l e = absurd (omega arith)
holds_there (w ∷ ms) v (suc k) zero a l e = let t : same w.limit v ≡ true = rw e (same_self v) in rw t
holds_there (w ∷ ms) v (suc k) (suc i) a l e = let t : holds (take k ms) v ≡ true = holds_there ms v k i (omega arith) (omega arith) e in rw t (or_true (same w.limit v))
  where
    or_true : (b : Bool) → (b || true) ≡ true
    or_true true = refl
    or_true false = refl

-- in a set that holds no limit twice one member holds a limit
one_holder : (ms : List Member) (v : Limit) → Apart ms → (i k : ℕ) → i < length ms → k < length ms → (member_at ms i).limit ≡ v → (member_at ms k).limit ≡ v → i ≡ k
one_holder ms v a i k l m e f =
    ⊎_elim (λ h. absurd (earlier i k l m e f h)) (λ h. ⊎_elim (λ g. absurd (earlier k i m l f e g)) (λ g. omega arith) (cases_lt k i)) (cases_lt i k)
  where
    earlier : (i k : ℕ) → i < length ms → k < length ms → (member_at ms i).limit ≡ v → (member_at ms k).limit ≡ v → i < k → ⊥
    earlier i k l m e f h = true≢false (sym (holds_there ms v k i h l e) ∙ ap (holds (take k ms)) (sym f) ∙ a k _ m)

-- the multiplier of a limit: 0, or that of a member which holds it
abbrev PressedAs : List Member → List ℤ → Limit → Bool → ℤ → Type 0
PressedAs ms ys v h p = ((h ≡ false) × (p ≡ pos 0)) ⊎ ((k : ℕ) × (k < length ms) × ((member_at ms k).limit ≡ v) × (p ≡ inside_limit (places ys k)))

pressed_by : (ms : List Member) (ys : List ℤ) (v : Limit) → length ys ≡ length ms → PressedAs ms ys v (holds ms v) (pressure_of ms ys v)
pressed_by [] ys v l = inl (refl, refl)
pressed_by (w ∷ ms) [] v l = absurd (omega arith)
pressed_by (w ∷ ms) (y ∷ ys) v l = at (same w.limit v) refl (pressed_by ms ys v (omega arith))
  where
    at : (b : Bool) → same w.limit v ≡ b → PressedAs ms ys v (holds ms v) (pressure_of ms ys v) →
        PressedAs (w ∷ ms) (y ∷ ys) v (b || holds ms v) (cond b (inside_limit y) (pressure_of ms ys v))
    at true e h = inr (0, omega arith, same_is w.limit v e, refl)
    at false e (inl h) = inl h
    at false e (inr h) = inr (suc h.0, omega (arith, h.1), h.2, h.3)

joined : (n : ℕ) (y us vs : List ℤ) → take n y ≡ us → drop n y ≡ vs → y ≡ us ++ vs
joined n y us vs e f = sym (take-append-drop n y) ∙ ap (λ xs. xs ++ drop n y) e ∙ ap (λ xs. us ++ xs) f

module _ (P : Problem) (ms : List Member) (z ys : List ℤ) (lz : length z ≡ P.ropes) (ly : length ys ≡ length ms) where
  abbrev made : Offer
  made = record { point = filled 16 (inside_bounds P z); multipliers = filled 32 (multipliers P ms ys) }

  abbrev Pressed : Limit → Type 0
  Pressed v = PressedAs ms ys v (holds ms v) (pressure_of ms ys v)

  point_long : length (inside_bounds P z) ≡ P.ropes
  point_long = length-map-range_with_len (λ k. held (P.l k) (P.u k) (places z k)) 0 P.ropes

  point_at : (k : ℕ) → k < P.ropes → places (inside_bounds P z) k ≡ held (P.l k) (P.u k) (places z k)
  point_at k l = get_or-map-range_with_len (λ k. held (P.l k) (P.u k) (places z k)) 0 P.ropes k k (pos 0) l (omega arith)

  rows_long : length (multipliers P ms ys) ≡ P.rows
  rows_long = length-map-range_with_len (λ i. pressure_of ms ys (Row i)) 0 P.rows

  row_at : (i : ℕ) → i < P.rows → places (multipliers P ms ys) i ≡ pressure_of ms ys (Row i)
  row_at i l = get_or-map-range_with_len (λ i. pressure_of ms ys (Row i)) 0 P.rows i i (pos 0) l (omega arith)

  -- a place of a list that is filled up
  filled_at : (i : ℕ) → i < P.rows → places (filled 32 (multipliers P ms ys)) i ≡ pressure_of ms ys (Row i)
  filled_at i l = sym (get_or-take P.rows (filled 32 (multipliers P ms ys)) i (pos 0) l) ∙ ap (λ xs. places xs i) (take_filled_up 32 P.rows (multipliers P ms ys) rows_long) ∙ row_at i l

  pub offer_made : Ordered P → Apart ms → OfferOf P ms z ys made
  offer_made ordered apart =
      let t = take_filled_up 16 P.ropes (inside_bounds P z) point_long in
      let H : List ℤ → Type 0 = HeldInside P z in
      record {
        point =
            subst H (sym t)
            (record {
              inside = record {
                long = point_long;
                not_below = λ k l. let o = ordered (Bound k) l in let e = point_at k l in omega (arith, lin, clamps, o, e);
                not_above = λ k l. let o = ordered (Bound k) l in let e = point_at k l in omega (arith, lin, clamps, o, e);
              };
              nearest = λ k l w a b. let e = point_at k l in omega (arith, lin, clamps, sizes, e);
            });
        rows = ap length (take_filled_up 32 P.rows (multipliers P ms ys) rows_long) ∙ rows_long;
        pressed = λ i k l m e. pressed i k l m e (pressed_by ms ys (Row i) ly);
        free = λ i l e. free i l e (pressed_by ms ys (Row i) ly);
        past_ropes = drop_filled_up 16 P.ropes (inside_bounds P z) point_long;
        past_rows = drop_filled_up 32 P.rows (multipliers P ms ys) rows_long;
      }
    where
      pressed : (i k : ℕ) → i < P.rows → k < length ms → (member_at ms k).limit ≡ Row i → Pressed (Row i) → HeldWithin 16777216 (places ys k) (places (filled 32 (multipliers P ms ys)) i)
      pressed i k l m e (inl h) = absurd (true≢false (sym (holds_there ms (Row i) (length ms) k m m e) ∙ ap (λ xs. holds xs (Row i)) (take_all (length ms) ms (omega arith)) ∙ h.0))
      pressed i k l m e (inr h) =
          let q = one_holder ms (Row i) apart h.0 k h.1 m h.2 e in
          let W : ℤ → Type 0 = HeldWithin 16777216 (places ys k) in
          subst W (sym (filled_at i l ∙ h.3 ∙ ap (λ n. inside_limit (places ys n)) q)) (limit_held (places ys k))

      free : (i : ℕ) → i < P.rows → holds ms (Row i) ≡ false → Pressed (Row i) → places (filled 32 (multipliers P ms ys)) i ≡ pos 0
      free i l e (inl h) = filled_at i l ∙ h.1
      free i l e (inr h) = absurd (true≢false (sym (holds_there ms (Row i) (length ms) h.0 h.1 h.1 h.2) ∙ ap (λ xs. holds xs (Row i)) (take_all (length ms) ms (omega arith)) ∙ e))

  point_only : Ordered P → (y : List ℤ) → HeldInside P z (take P.ropes y) → drop P.ropes y ≡ replicate (16 - P.ropes) (pos 0) → y ≡ made.point
  point_only ordered y h d =
      let front : take P.ropes y ≡ inside_bounds P z =
      ext_get_or (pos 0) (take P.ropes y) (inside_bounds P z) (h.inside.long ∙ sym point_long)
      (λ k l.
      let m : k < P.ropes = omega (arith, l, h.inside.long) in
      held_only (P.l k) (P.u k) (places z k) _ (ordered (Bound k) m) (h.inside.not_below k m) (h.inside.not_above k m) (h.nearest k m) ∙ sym (point_at k m)) in
      let back : drop P.ropes y ≡ replicate (16 - length (inside_bounds P z)) (pos 0) = d ∙ ap (λ (n : ℕ). replicate (16 - n) (pos 0)) (sym point_long) in
      joined P.ropes y _ _ front back

  rows_only : (y : List ℤ) → length (take P.rows y) ≡ P.rows → ((i : ℕ) → i < P.rows → places y i ≡ pressure_of ms ys (Row i)) → drop P.rows y ≡ replicate (32 - P.rows) (pos 0) →
      y ≡ made.multipliers
  rows_only y l h d =
      let front : take P.rows y ≡ multipliers P ms ys =
      ext_get_or (pos 0) (take P.rows y) (multipliers P ms ys) (l ∙ sym rows_long)
      (λ i t. let m : i < P.rows = omega (arith, l, t) in get_or-take P.rows y i (pos 0) m ∙ h i m ∙ sym (row_at i m)) in
      let back : drop P.rows y ≡ replicate (32 - length (multipliers P ms ys)) (pos 0) = d ∙ ap (λ (n : ℕ). replicate (32 - n) (pos 0)) (sym rows_long) in
      joined P.rows y _ _ front back

  pub offer_only : Ordered P → (o : Offer) → OfferOf P ms z ys o → o ≡ made
  offer_only ordered o h =
      ap (λ xs. record { point = xs; multipliers = o.multipliers }) (point_only ordered o.point h.point h.past_ropes)
      ∙ ap (λ xs. record { point = made.point; multipliers = xs }) (rows_only o.multipliers h.rows (λ i l. of_row i l (pressed_by ms ys (Row i) ly)) h.past_rows)
    where
      of_row : (i : ℕ) → i < P.rows → Pressed (Row i) → places o.multipliers i ≡ pressure_of ms ys (Row i)
      of_row i l (inl t) = h.free i l t.0 ∙ sym t.1
      of_row i l (inr t) = limit_only (places ys t.0) _ (h.pressed i t.0 l t.1 t.2) ∙ sym t.3
