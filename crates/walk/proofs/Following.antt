-- The running sums follow a move.
use Rattle.std.proofs.Common.{◌≡◌, ℕ, ◌^◌, ◌<◌, ◌≤◌, true, eqb, List, length, set, ℤ, pos, ◌+ℤ◌, ◌*ℤ◌, nat_abs, sym, refl, ap, ◌∙◌, ⊎_elim, arith}
use Rattle.std.proofs.lemmas.List.{get_or_past}
use Rattle.std.proofs.lemmas.Int.{ints}
use Rattle.std.proofs.lemmas.Bool.{cases_lt, and_from, eq-eqb, le-leb}
use Rattle.duality.specs.Lists.{places}
use Rattle.duality.specs.Problem.{row_at, cost}
use Rattle.duality.specs.Sums.{Vector}
use Rattle.duality.proofs.Lists.{set_shift}
use Rattle.duality.proofs.Shifts.{Shift, dot_shift}
use Rattle.duality.proofs.Sums.{∑-cong}
use Rattle.job.specs.Bounds.{InBounds}
use Rattle.job.specs.Numbers.{problem_of}
use Rattle.job.specs.Points.{gradient}
use Rattle.duality.specs.Tests.{many_within}
use Rattle.terms.specs.Ticks.{excess}
use Rattle.job.specs.Rows.{outside}
use Rattle.duality.specs.Tests.{within, all_within}
use Rattle.job.specs.declared.numbers.Job.{Job}
use Rattle.job.proofs.Gradient.{gradient_shift, cost_by_gradient}
use Rattle.job.proofs.Reading.{row_small, gradient_small}
use Rattle.terms.proofs.Reading.{l_small, u_small}
use Rattle.duality.proofs.Tests.{all_from}
use Rattle.walk.specs.Running.{Lists, SumsAt, Tracks, Tame, outside_after, gain_of, Raised, Shifted}
use Rattle.walk.specs.Moves.{after}
use Rattle.walk.specs.declared.moves.Move.{Move}
use Rattle.walk.specs.declared.sums.RowSums.{RowSums}
use Rattle.walk.specs.declared.room.Room.{Room}

-- a point in its bounds has small numbers, so the running sums of one are small
past_small : (xs : List ℤ) (k b : ℕ) → length xs ≤ k → nat_abs (places xs k) ≤ b
past_small xs k b l = omega (arith, ap nat_abs (get_or_past xs k (pos 0) l))

pub point_small : (j : Job) (z : List ℤ) → InBounds (problem_of j) z → (k : ℕ) → nat_abs (places z k) ≤ 32768
point_small j z h k =
    ⊎_elim
    (λ (l : k < (problem_of j).ropes).
    let a = h.not_below k l in
    let b = h.not_above k l in
    let x = l_small j.terms k in
    let y = u_small j.terms k in
    omega (arith, ints))
    (λ (l : (problem_of j).ropes ≤ k). past_small z k 32768 (omega (arith, h.long)))
    (cases_lt k (problem_of j).ropes)

-- the running sums of a point are small
pub tame : (j : Job) (z : List ℤ) (r : Room) → InBounds (problem_of j) z → Tracks j z r → Tame j r
tame j z r h t =
    record {
      rows = (
        t.rows.sums.0,
        λ k.
            ⊎_elim
            (λ (l : k < (problem_of j).rows). omega (arith, ap nat_abs (t.rows.sums.1 k l), row_small j (places z) 32768 k (point_small j z h)))
            (λ (l : (problem_of j).rows ≤ k). past_small r.rows.sums.items k (2 ^ 39) (omega (arith, t.rows.sums.0)))
            (cases_lt k (problem_of j).rows),
      );
      cost = (
        t.cost.0,
        λ k.
            ⊎_elim
            (λ (l : k < (problem_of j).ropes). omega (arith, ap nat_abs (t.cost.1 k l), gradient_small j (places z) k (point_small j z h)))
            (λ (l : (problem_of j).ropes ≤ k). past_small r.cost.slopes.items k (2 ^ 41) (omega (arith, t.cost.0)))
            (cases_lt k (problem_of j).ropes),
      );
    }

-- rope k of z moves by d
module _ (j : Job) (z : List ℤ) (k : ℕ) (d : ℤ) (l : k < (problem_of j).ropes) (long : length z ≡ (problem_of j).ropes) where
  shift : Shift (problem_of j).ropes k d (places z) (places (set z k (places z k +ℤ d)))
  shift = set_shift (problem_of j).ropes k d (places z k +ℤ d) z l (omega (arith, long)) refl

  row_moved : (i : ℕ) → row_at (problem_of j) (places (set z k (places z k +ℤ d))) i ≡ row_at (problem_of j) (places z) i +ℤ (problem_of j).A i k *ℤ d
  row_moved i = dot_shift (problem_of j).ropes k d ((problem_of j).A i) (places z) (places (set z k (places z k +ℤ d))) shift

  gradient_moved : (i : ℕ) → gradient (problem_of j) (places (set z k (places z k +ℤ d))) i ≡ gradient (problem_of j) (places z) i +ℤ ((problem_of j).G i k +ℤ (problem_of j).G k i) *ℤ d
  gradient_moved i = gradient_shift (problem_of j) k d (places z) (places (set z k (places z k +ℤ d))) shift i

  pub cost_moved : cost (problem_of j) (places (set z k (places z k +ℤ d))) ≡ cost (problem_of j) (places z) +ℤ gain_of (gradient (problem_of j) (places z) k) ((problem_of j).G k k) d
  unfolding gain_of
  cost_moved = cost_by_gradient (problem_of j) k d (places z) (places (set z k (places z k +ℤ d))) shift

  pub outside_moved : (s : RowSums) → SumsAt (problem_of j) z s → outside_after (problem_of j) s k d ≡ outside (problem_of j) (places (set z k (places z k +ℤ d)))
  unfolding outside_after outside
  outside_moved s t =
      ∑-cong (problem_of j).rows (λ i. excess ((problem_of j).lo i) ((problem_of j).hi i) (places s.sums.items i +ℤ (problem_of j).A i k *ℤ d))
      (λ i. excess ((problem_of j).lo i) ((problem_of j).hi i) (row_at (problem_of j) (places (set z k (places z k +ℤ d))) i))
      (λ i li. ap (excess ((problem_of j).lo i) ((problem_of j).hi i)) (ap (λ (v : ℤ). v +ℤ (problem_of j).A i k *ℤ d) (t.sums.1 i li) ∙ sym (row_moved i)))

-- a list that is raised as its vector rises
lists_raised : (n : ℕ) (xs ys : List ℤ) (v v' w : Vector) (d : ℤ) → Lists n xs v → Raised xs ys w d → ((i : ℕ) → v' i ≡ v i +ℤ w i *ℤ d) → Lists n ys v'
lists_raised n xs ys v v' w d h r e = (
  r.long ∙ h.0,
  λ i l. r.each i (omega (arith, h.0)) ∙ ap (λ (x : ℤ). x +ℤ w i *ℤ d) (h.1 i l) ∙ sym (e i),
)

pub tracks_after : (j : Job) (z : List ℤ) (m : Move) → m.rope < (problem_of j).ropes → length z ≡ (problem_of j).ropes → (r r' : Room) → Tracks j z r → Shifted j r r' m →
    Tracks j (after z m) r'
tracks_after j z m l long r r' t h =
    record {
      rows = record {
        sums = lists_raised (problem_of j).rows r.rows.sums.items r'.rows.sums.items (row_at (problem_of j) (places z)) (row_at (problem_of j) (places (after z m)))
            (λ i. (problem_of j).A i m.rope) m.by t.rows.sums h.rows.sums (row_moved j z m.rope m.by l long);
        outside = h.rows.outside ∙ outside_moved j z m.rope m.by l long r.rows t.rows;
      };
      cost = lists_raised (problem_of j).ropes r.cost.slopes.items r'.cost.slopes.items (gradient (problem_of j) (places z)) (gradient (problem_of j) (places (after z m)))
          (λ i. (problem_of j).G i m.rope +ℤ (problem_of j).G m.rope i) m.by t.cost h.cost (gradient_moved j z m.rope m.by l long);
    }

pub a_point : (j : Job) (z : List ℤ) → InBounds (problem_of j) z → many_within (problem_of j).ropes 32768 z ≡ true
a_point j z h =
    and_from (eqb (length z) (problem_of j).ropes) (all_within 32768 z) (eq-eqb _ _ h.long)
    (all_from (λ k. within 32768 (places z k)) (length z) (λ k _. le-leb _ _ (point_small j z h k)))
