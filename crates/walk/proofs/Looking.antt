-- What the running sums say of a move is what the definitions say of the point after it.
use Rattle.std.proofs.Common.{◌≡◌, ℕ, ◌<◌, Bool, true, false, cond, List, length, ℤ, pos, ◌+ℤ◌, ◌≤ℤ◌, sym, refl, ap, ◌∙◌, arith}
use lib.Signed.{lt_z, le_z}
use Rattle.std.proofs.lemmas.Int.{ints}
use Rattle.duality.specs.Lists.{places}
use Rattle.duality.specs.Problem.{Problem, cost}
use Rattle.duality.proofs.Sums.{∑-nonneg}
use Rattle.job.specs.Numbers.{problem_of}
use Rattle.job.specs.Points.{gradient}
use Rattle.job.specs.Rows.{outside}
use Rattle.job.specs.declared.numbers.Job.{Job}
use Rattle.job.proofs.Outside.{excess_nonneg}
use Rattle.walk.specs.Lowering.{lower, below}
use Rattle.walk.specs.Running.{Tracks, outside_after, gain_of, gain_after, looks_lower}
use Rattle.walk.specs.Moves.{after}
use Rattle.walk.specs.declared.moves.Move.{Move}
use Rattle.walk.proofs.Following.{outside_moved, cost_moved}
use Rattle.walk.proofs.Ticks.{ticks}
use Rattle.walk.specs.declared.room.Room.{Room}

-- what the parts of the test are handed
same_at : (f : Problem → ℕ → ℤ → ℤ) (i j : Job) (k k' : ℕ) (d d' : ℤ) → i ≡ j → k ≡ k' → d ≡ d' → f (problem_of i) k d ≡ f (problem_of j) k' d'
same_at f i j k k' d d' e ek ed = cc

-- the test as the program puts it together
pub looks_are : (j : Job) (r : Room) (m : Move) (i : Job) (k : ℕ) (d o a a' b b' : ℤ) (t : Bool) → i ≡ j → k ≡ m.rope → d ≡ m.by → o ≡ r.rows.outside →
    a ≡ outside_after (problem_of i) r.rows k d → a' ≡ a → b ≡ gain_after (problem_of i) r.cost k d → b' ≡ b → t ≡ lower o (pos 0) a' b' → t ≡ looks_lower j r m
unfolding looks_lower
looks_are j r m i k d o a a' b b' t ei ek ed eo ea ea' eb eb' et =
    let f : a ≡ outside_after (problem_of j) r.rows m.rope m.by = ea ∙ same_at (λ P. outside_after P r.rows) i j k m.rope d m.by ei ek ed in
    let g : b ≡ gain_after (problem_of j) r.cost m.rope m.by = eb ∙ same_at (λ P. gain_after P r.cost) i j k m.rope d m.by ei ek ed in
    cc

cond_same : (b : Bool) → cond b false false ≡ false
cond_same true = refl
cond_same false = refl

lower_not : (o o' x : ℤ) → o ≡ pos 0 → pos 0 ≤ℤ o' → pos 0 ≤ℤ x → lower o (pos 0) o' x ≡ false
unfolding lower
lower_not o o' x e h k =
    let a : lt_z o' o ≡ false = grind (arith, ints) in
    let b : lt_z x (pos 0) ≡ false = grind (arith, ints) in
    ap (λ (t : Bool). cond t true (cond (lt_z o o') false (lt_z x (pos 0)))) a ∙ ap (λ (t : Bool). cond (lt_z o o') false t) b ∙ cond_same (lt_z o o')

-- where every row is met, a move lowers only if the cost falls
pub looks_not : (j : Job) (r : Room) (m : Move) (i : Job) (k : ℕ) (d b b' : ℤ) → i ≡ j → k ≡ m.rope → d ≡ m.by → r.rows.outside ≡ pos 0 →
    b ≡ gain_after (problem_of i) r.cost k d → b' ≡ b → le_z (pos 0) b' ≡ true → false ≡ looks_lower j r m
unfolding looks_lower outside_after
looks_not j r m i k d b b' ei ek ed eo eb eb' h =
    let g : b' ≡ gain_after (problem_of j) r.cost m.rope m.by = eb' ∙ eb ∙ same_at (λ P. gain_after P r.cost) i j k m.rope d m.by ei ek ed in
    let n : pos 0 ≤ℤ b' = omega (arith, ints) in
    let a = ∑-nonneg (problem_of j).rows (ticks j r.rows m.rope m.by) (λ i _. excess_nonneg ((problem_of j).lo i) ((problem_of j).hi i) _) in
    sym (lower_not r.rows.outside _ _ eo a (rw g at n))

lt_shift : (q x : ℤ) → lt_z x (pos 0) ≡ lt_z (q +ℤ x) q
lt_shift q x = grind (arith, ints)

lower_shift : (o o' q x : ℤ) → lower o (pos 0) o' x ≡ lower o q o' (q +ℤ x)
unfolding lower
lower_shift o o' q x = ap (λ (b : Bool). cond (lt_z o' o) true (cond (lt_z o o') false b)) (lt_shift q x)

pub looks : (j : Job) (z : List ℤ) (r : Room) (m : Move) → length z ≡ (problem_of j).ropes → Tracks j z r → m.rope < (problem_of j).ropes →
    looks_lower j r m ≡ below (problem_of j) (places z) (places (after z m))
unfolding looks_lower below
looks j z r m long t l =
    let o = outside_moved j z m.rope m.by l long r.rows t.rows in
    let q = cost_moved j z m.rope m.by l long in
    let h = t.cost.1 m.rope l in
    let e = t.rows.outside in
    let sh = lower_shift (outside (problem_of j) (places z)) (outside (problem_of j) (places (after z m))) (cost (problem_of j) (places z))
    (gain_of (gradient (problem_of j) (places z) m.rope) ((problem_of j).G m.rope m.rope) m.by) in
    cc
