-- A step, put together from its system, its reading and its choice.
use Rattle.std.proofs.Common.{true, ◌≡◌, ℕ, ◌+◌, ◌<◌, ◌≤◌, leb, List, [], ◌∷◌, length, take, Some, None, Option, sym, refl, ap, ◌∙◌, subst, arith, le-leb, zero, suc, ◌++◌, map, replicate, ℤ, pos, neg_ℤ}
use lib.Ieee.{Float, binary64, of_int}
use Rattle.std.proofs.lemmas.List.FromFn.{length-map-range_with_len}
use Rattle.std.proofs.lemmas.List.Elements.{All-append}
use Rattle.std.specs.List.{All, range_with_len}
use Rattle.exchange.specs.Members.{weight, held_at}
use Rattle.std.proofs.lemmas.List.{take_at, length-take-le, length-append, length-map, length-replicate}
use Rattle.std.specs.Option.{option_map}
use Rattle.duality.specs.Problem.{Problem}
use Rattle.elimination.specs.Lines.{seen, at, inside, solved, left, solved_in, padded, Solves}
use Rattle.elimination.specs.Runs.{Elimination, Unknowns, Least, sizes}
use Rattle.elimination.specs.declared.pivots.Pivot.{Pivot}
use Rattle.elimination.proofs.Clearing.{AllLong}
use Rattle.elimination.proofs.Ending.{is_run}
use Rattle.elimination.proofs.Only.{one_solution}
use Rattle.elimination.proofs.Seen.{solved_seen}
use Rattle.exchange.specs.Systems.{size_of, rope_line, member_line, floats, system_of}
use Rattle.exchange.specs.Meanings.{OfferOf, Means}
use Rattle.exchange.specs.Offers.{offered, pulls_of, pressures_of}
use Rattle.exchange.specs.Steps.{solved_at, choice_at, found, step_at, Solution, StepMeans, LawfulStep}
use Rattle.exchange.specs.declared.members.Member.{Member}
use Rattle.exchange.specs.declared.members.Offer.{Offer}
use Rattle.exchange.specs.declared.members.Choice.{Choice}
use Rattle.exchange.specs.declared.members.Step.{Step}
use Rattle.exchange.specs.declared.members.Step.TheVariants.{Stuck, Found}
use Rattle.exchange.specs.Breaches.{Apart}
use Rattle.exchange.proofs.OfferLaw.{offer_made, offer_only}
use Rattle.exchange.proofs.Readings.{pulls_long, pressures_long}
use Rattle.exchange.proofs.Meanings.{Ordered, chosen_means, same_choice}

abbrev pub Pair : Type 0
Pair = Float × Option (List Float)

-- the system that was written in the first lines of the square is the working set's
pub system_solved : (P : Problem) (ms vs : List Member) (n : ℕ) (s : Float) (L : List (List Float)) → vs ≡ ms → n ≡ size_of P ms → size_of P ms ≤ 32 → n ≤ length L →
    seen (size_of P vs + 1) (take (size_of P vs) L) ≡ system_of P vs → ◌≡◌ {A = Pair} (solved_in s (take n L)) (solved_at P ms s)
system_solved P ms vs n s L e l h q r =
    let t : length (take n L) ≡ n = length-take-le n L q in
    let b : leb (length (take n L)) 32 ≡ true = le-leb _ _ (omega arith) in
    let R : List Member → Type 0 = λ us. seen (size_of P us + 1) (take (size_of P us) L) ≡ system_of P us in
    let c : seen (length (take n L) + 1) (take n L) ≡ system_of P ms = ap (λ (m : ℕ). seen (m + 1) (take n L)) t ∙ ap (λ (m : ℕ). seen (m + 1) (take m L)) l ∙ subst R e r in
    rw b (sym (solved_seen s (take n L)) ∙ ap (solved s) c)

pub law_kept : (n : ℕ) (L : List (List Float)) (o : Option (List Float)) → n ≤ length L → Solves (length (take n L)) o → Solves n o
law_kept n L o q w = let P : ℕ → Type 0 = λ m. Solves m o in subst P (length-take-le n L q) w

pub none_from : (o : Option (List Float)) → ◌≡◌ {A = Option (List Float)} None (option_map padded o) → o ≡ None
none_from None e = refl
none_from (Some us) e = let z : ◌≡◌ {A = ℕ} 0 1 = cc in absurd (omega arith)

pub some_from : (o : Option (List Float)) (X : List Float) → Some X ≡ option_map padded o → (us : List Float) × ((o ≡ Some us) × (X ≡ padded us))
some_from None X e = let z : ◌≡◌ {A = ℕ} 0 1 = cc in absurd (omega arith)
some_from (Some us) X e = let f : X ≡ padded us = cc in (us, (refl, f))

-- the unknowns in their array
module _ (n : ℕ) (us X : List Float) (e : X ≡ padded us) (w : Solves n (Some us)) where
  pub array_front : take n X ≡ us
  array_front = ap (take n) e ∙ take_at us _ n w.0

  pub front_long : length (take n X) ≡ n
  front_long = ap length array_front ∙ w.0

  pub front_inside : (k : ℕ) → k < n → inside (at (take n X) k) ≡ true
  front_inside k l = ap (λ z. inside (at z k)) array_front ∙ w.1 k (omega (arith, w.0))

-- the system of a set is square, with a right side
each_long : {X : Type 0} (f : X → List Float) (w : ℕ) → ((x : X) → w ≤ length (f x)) → (xs : List X) → All (λ line. w ≤ length line) (map f xs)
each_long f w h [] k d l = absurd (omega arith)
each_long f w h (x ∷ xs) zero d l = h x
each_long f w h (x ∷ xs) (suc k) d l = each_long f w h xs k d (omega arith)

-- a line in three parts
line_long : (xs ys : List ℤ) (z : ℤ) (n m : ℕ) → length xs ≡ n → length ys ≡ m → n + m + 1 ≤ length (floats (xs ++ (ys ++ z ∷ [])))
line_long xs ys z n m a b =
    let e = length-map (xs ++ (ys ++ z ∷ [])) (of_int binary64) in
    omega (arith, e, length-append xs (ys ++ z ∷ []), length-append ys (z ∷ []), a, b)

system_size : (P : Problem) (ms : List Member) → length (system_of P ms) ≡ size_of P ms
unfolding system_of
system_size P ms =
    let f : ℕ → List Float = λ r. floats (rope_line P ms r) in
    let g : Member → List Float = λ v. floats (member_line P ms v) in
    length-append (map f (range_with_len 0 P.ropes)) (map g ms) ∙ omega (arith, length-map-range_with_len f 0 P.ropes, length-map ms g)

pub system_long : (P : Problem) (ms : List Member) → AllLong (length (system_of P ms) + 1) (system_of P ms)
unfolding system_of
system_long P ms i l =
    let w = size_of P ms + 1 in
    let f : ℕ → List Float = λ r. floats (rope_line P ms r) in
    let g : Member → List Float = λ v. floats (member_line P ms v) in
    let n = length-map-range_with_len f 0 P.ropes in
    let m = length-map ms g in
    let r = each_long f w
    (λ k. line_long (map (P.G k) (range_with_len 0 P.ropes)) (map (λ v. neg_ℤ (weight P v.limit k)) ms) (neg_ℤ (P.c k)) P.ropes (length ms) (length-map-range_with_len (P.G k) 0 P.ropes)
    (length-map ms (λ v. neg_ℤ (weight P v.limit k)))) (range_with_len 0 P.ropes) in
    let q = each_long g w
    (λ v. line_long (map (weight P v.limit) (range_with_len 0 P.ropes)) (replicate (length ms) (pos 0)) (held_at P v) P.ropes (length ms)
    (length-map-range_with_len (weight P v.limit) 0 P.ropes) (length-replicate (length ms) (pos 0))) ms in
    let all = All-append (λ line. w ≤ length line) (map f (range_with_len 0 P.ropes)) (map g ms) r q i [] l in
    omega (arith, all, n, m, length-append (map f (range_with_len 0 P.ropes)) (map g ms))

module _ (P : Problem) (ms : List Member) (s : Float) where
  pub step_stuck : (solved_at P ms s).1 ≡ None → Stuck ≡ step_at P ms s
  step_stuck e = rw e

  pub step_found : (us : List Float) (o : Offer) (ch : Choice) → (solved_at P ms s).1 ≡ Some us → o ≡ offered P ms us → ch ≡ choice_at P ms us → Found o ch ≡ step_at P ms s
  step_found us o ch e p q = rw (e, p, q)

-- as many unknowns as lines
unknowns_long : (n k : ℕ) (ls : List (List Float)) (xs : List Float) → Unknowns n k ls xs → k + length xs ≡ n
unknowns_long n k ls [] h = omega arith
unknowns_long n k ls (x ∷ xs) h = omega (arith, unknowns_long n (suc k) ls xs h.2)

module _ (P : Problem) (ms : List Member) where
  -- what is solved is brought to its end by some pivots
  module _ (s : Float) where
    abbrev whole : Elimination s (system_of P ms) (left s (system_of P ms)) (solved_at P ms s).0 (solved_at P ms s).1
    whole = is_run s (system_of P ms) (system_long P ms)

    solution_at : Solution P ms whole.pivots (solved_at P ms s).1
    solution_at = (left s (system_of P ms), whole.columns, whole.end)

  -- there is an unknown for each rope and each member
  long : (ps : List Pivot) (us : List Float) → Solution P ms ps (Some us) → length us ≡ P.ropes + length ms
  long ps us h = omega (arith, unknowns_long (length (system_of P ms)) 0 h.0 us h.2.1, system_size P ms)

  found_means : (few : length ms ≤ P.ropes) → Apart ms → Ordered P → (ps : List Pivot) (o : Option (List Float)) → Solution P ms ps o → StepMeans P ms ps (found P ms o)
  unfolding offered
  found_means few apart ordered ps None h = h
  found_means few apart ordered ps (Some us) h =
      let l = long ps us h in (
        us,
        h,
        offer_made P ms (pulls_of P us) (pressures_of P us) (pulls_long P.ropes (length ms) us l) (pressures_long P.ropes (length ms) us l) ordered apart,
        chosen_means P ms (pulls_of P us) (pressures_of P us) few,
      )

  one_answer : (ps qs : List Pivot) (us vs : Option (List Float)) → Solution P ms ps us → Solution P ms qs vs → (vs ≡ us) × (qs ≡ ps)
  one_answer ps qs us vs f g = let r = one_solution (system_of P ms) f.0 g.0 ps qs us vs f.1 f.2 g.1 g.2 in (r.1, r.2)

  -- a step is the only one of its meaning
  pub same_step : Ordered P → (ps qs : List Pivot) (a b : Step) → StepMeans P ms ps a → StepMeans P ms qs b → (qs ≡ ps) × (b ≡ a)
  same_step ordered ps qs Stuck Stuck m n = ((one_answer ps qs None None m n).1, refl)
  same_step ordered ps qs Stuck (Found o ch) m n = let e : Some n.0 ≡ None = (one_answer ps qs None (Some n.0) m n.1).0 in let z : ◌≡◌ {A = ℕ} 0 1 = cc in absurd (omega arith)
  same_step ordered ps qs (Found o ch) Stuck m n = let e : None ≡ Some m.0 = (one_answer ps qs (Some m.0) None m.1 n).0 in let z : ◌≡◌ {A = ℕ} 0 1 = cc in absurd (omega arith)
  same_step ordered ps qs (Found o ch) (Found p c) m n =
      let r = one_answer ps qs (Some m.0) (Some n.0) m.1 n.1 in
      let q : Some n.0 ≡ Some m.0 = r.0 in
      let e : n.0 ≡ m.0 = cc in
      let M : List Float → Type 0 = λ us. Means P ms (pulls_of P us) (pressures_of P us) c in
      let f = same_choice P ms (pulls_of P m.0) (pressures_of P m.0) ordered c ch (subst M e n.3) m.3 in
      let l = long ps m.0 m.1 in
      let only = offer_only P ms (pulls_of P m.0) (pressures_of P m.0) (pulls_long P.ropes (length ms) m.0 l) (pressures_long P.ropes (length ms) m.0 l) ordered in
      let O : List Float → Type 0 = λ us. OfferOf P ms (pulls_of P us) (pressures_of P us) p in
      let g : p ≡ o = only p (subst O e n.2) ∙ sym (only o m.2) in
      (r.1, ap (λ x. Found x c) g ∙ ap (λ x. Found o x) f)

  pub step_lawful : length ms ≤ P.ropes → Apart ms → Ordered P → (s : Float) (st : Step) (t : Float) → st ≡ step_at P ms s → t ≡ (solved_at P ms s).0 → LawfulStep P ms s st t
  step_lawful few apart ordered s st t e f =
      let w = whole s in
      let S : Step → Type 0 = StepMeans P ms w.pivots in
      let m = subst S (sym e) (found_means few apart ordered w.pivots (solved_at P ms s).1 (solution_at s)) in
      let L : Float → Type 0 = Least (s ∷ sizes w.pivots) in
      record { pivots = w.pivots; means = m; smallest = subst L (sym f) w.size; alone = λ ps x h. same_step ordered w.pivots ps st x m h }
