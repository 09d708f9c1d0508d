-- How an elimination ends.
use Rattle.std.proofs.Common.{◌≡◌, ℕ, zero, suc, ◌+◌, Bool, true, false, cond, inl, inr, List, ◌∷◌, ◌≤◌, ◌-◌, leb, replicate, take, le-leb, length, drop, Some, None, Option, sym, refl, add-one, zero-add, ap, ◌∙◌, subst, arith}
use lib.Ieee.{Float}
use Rattle.std.proofs.lemmas.Bool.{lt-leb}
use Rattle.std.proofs.lemmas.List.{drop_all, take_at}
use Rattle.elimination.specs.Lines.{inside, unknown_of, one_more, unknowns_of, Triangle, triangle_of, solved, solved_in, left, left_in, padded, none, Solves}
use Rattle.elimination.specs.Runs.{line_at, HasNone, Unknowns, Triangular, Answered, Ends, Elimination, Eliminates}
use Rattle.elimination.proofs.Back.{unknowns_step}
use Rattle.elimination.proofs.Clearing.{AllLong}
use Rattle.elimination.proofs.Inside.{columns_long, unknowns_solve}
use Rattle.elimination.proofs.Leading.{Led, led}
use Rattle.elimination.proofs.Only.{one_elimination}
use Rattle.std.specs.Option.{option_map}

next : (k n : ℕ) (ls : List (List Float)) (xs : List Float) → Unknowns n (k + 1) ls xs → Unknowns n (suc k) ls xs
next k n ls xs h = let P : ℕ → Type 0 = λ j. Unknowns n j ls xs in subst P (add-one k) h

pub backed : (m k : ℕ) (ls : List (List Float)) → k + m ≡ length ls → Answered (length ls) k ls (unknowns_of (length ls) k (drop k ls))
backed zero k ls e = let d = drop_all k ls (omega arith) in rw d (omega arith)
backed (suc m) k ls e =
    let n = length ls in
    let P : Option (List Float) → Type 0 = Answered n k ls in
    subst P (sym (unknowns_step n k ls (omega arith))) (go (unknowns_of n (k + 1) (drop (k + 1) ls)) (backed m (k + 1) ls (omega arith)))
  where
    inside_or : (x : Float) (xs : List Float) (b : Bool) → inside x ≡ b → x ≡ unknown_of (length ls) k (line_at ls k) xs → Unknowns (length ls) (k + 1) ls xs → Answered (length ls) k ls (cond b (Some (x ∷ xs)) None)
    inside_or x xs true f q h = (q, f, next k (length ls) ls xs h)
    inside_or x xs false f q h = (k, (omega arith, (xs, (next k (length ls) ls xs h, ap inside (sym q) ∙ f))))

    go : (o : Option (List Float)) → Answered (length ls) (k + 1) ls o → Answered (length ls) k ls (one_more (length ls) k (line_at ls k) o)
    go None h = h
    go (Some xs) h = inside_or (unknown_of (length ls) k (line_at ls k) xs) xs (inside (unknown_of (length ls) k (line_at ls k) xs)) refl refl h

-- the unknowns filled up, and taken out again
pub taken_out : (n : ℕ) (o : Option (List Float)) → Solves n o → option_map (take n) (option_map padded o) ≡ o
taken_out n None h = refl
taken_out n (Some us) h = ap Some (take_at us (replicate (32 - length us) none) n h.0)

pub answered : (ls : List (List Float)) (r : Option (List Float)) → r ≡ option_map padded (unknowns_of (length ls) 0 ls) → Answered (length ls) 0 ls (option_map (take (length ls)) r)
answered ls r e =
    let n = length ls in
    let P : Option (List Float) → Type 0 = Answered n 0 ls in
    subst P (sym (ap (option_map (take n)) e ∙ taken_out n (unknowns_of n 0 ls) (unknowns_solve n ls refl))) (backed n 0 ls (omega arith))

module _ (s : Float) (ls : List (List Float)) (g : AllLong (length ls + 1) ls) where
  abbrev n : ℕ
  n = length ls

  abbrev t : Triangle
  t = triangle_of s ls

  run : Led (n + 1) n 0 s ls t
  run = led (n + 1) n n 0 s ls (omega arith) (omega arith) refl g

  ends_at : length run.pivots ≡ n → (o : Option (List Float)) → Answered n 0 t.lines o → Ends n (length run.pivots) t.lines o
  ends_at e None h = inr (e, h)
  ends_at e (Some xs) h = (e, h)

  ends_so : (b : Bool) → t.whole ≡ b → Ends n (length run.pivots) t.lines (cond b (unknowns_of n 0 t.lines) None)
  ends_so true f =
      let l = columns_long (n + 1) n 0 s ls in
      let P : ℕ → Type 0 = λ m. Answered m 0 t.lines (unknowns_of m 0 t.lines) in
      ends_at (omega (arith, run.whole f)) (unknowns_of n 0 t.lines) (subst P l (backed (length t.lines) 0 t.lines (omega arith)))
  ends_so false f =
      let q = run.stuck f in
      let P : ℕ → Type 0 = HasNone t.lines in
      inl (omega (arith, q.0), subst P (zero-add (length run.pivots)) q.1)

  pub triangular : Triangular s ls t.lines t.least t.whole
  triangular =
      let P : ℕ → Type 0 = HasNone t.lines in
      record {
        pivots = run.pivots;
        columns = run.leads;
        size = run.least.is;
        all = λ e. omega (arith, run.whole e);
        stuck = λ e. let q = run.stuck e in (omega (arith, q.0), subst P (zero-add (length run.pivots)) q.1);
      }

  pub triangular_from : (x : Triangle) → x ≡ t → Triangular s ls x.lines x.least x.whole
  triangular_from x e = let P : Triangle → Type 0 = λ y. Triangular s ls y.lines y.least y.whole in subst P (sym e) triangular

  -- the run that the definitions describe is one
  pub is_run : Elimination s ls (left s ls) (solved s ls).0 (solved s ls).1
  unfolding solved left
  is_run = record { pivots = run.pivots; columns = run.leads; size = run.least.is; end = ends_so t.whole refl }

module _ (s : Float) (ls : List (List Float)) (g : length ls ≤ 32 → AllLong (length ls + 1) ls) (ms : List (List Float)) (t : Float) (us : Option (List Float)) (em : ms ≡ left_in s ls)
    (et : t ≡ (solved_in s ls).0) (eu : us ≡ (solved_in s ls).1) where
  here : length ls ≤ 32 → Elimination s ls ms t us
  here h =
      let b : leb (length ls) 32 ≡ true = le-leb _ _ h in
      let a : ms ≡ left s ls = em ∙ rw b in
      let c : t ≡ (solved s ls).0 = et ∙ rw b in
      let d : us ≡ (solved s ls).1 = eu ∙ rw b in
      rw (a, c, d) (is_run s ls (g h))

  pub eliminates : Eliminates s ls ms t us
  eliminates =
      record {
        run = here;
        only = λ ns u vs h e. one_elimination s t u ls ms ns us vs (here h) e;
        large = λ h. let b : leb (length ls) 32 ≡ false = lt-leb _ _ h in (eu ∙ rw b, em ∙ rw b, et ∙ rw b);
      }
