-- Running sums: what a walk keeps beside its point, so that a try need not sum over all ropes again.
use Rattle.std.specs.Prelude.{◌≡◌, ℕ, ◌^◌, ◌<◌, ◌≤◌, Bool, List, length, ℤ, pos, ◌+ℤ◌, ◌*ℤ◌, unsigned_abs}
use Rattle.duality.specs.Lists.{places}
use Rattle.duality.specs.Sums.{Vector, ∑}
use Rattle.duality.specs.Problem.{Problem, row_at}
use Rattle.job.specs.Numbers.{problem_of}
use Rattle.job.specs.Points.{gradient}
use Rattle.terms.specs.Ticks.{excess}
use Rattle.job.specs.Rows.{outside}
use Rattle.job.specs.declared.numbers.Job.{Job}
use Rattle.walk.specs.Lowering.{lower}
use Rattle.walk.specs.declared.moves.Move.{Move}
use Rattle.walk.specs.declared.sums.RowSums.{RowSums}
use Rattle.walk.specs.declared.slopes.Slopes.{Slopes}
use Rattle.walk.specs.declared.room.Room.{Room}

-- a list of n numbers, those of the vector
abbrev pub Lists : ℕ → List ℤ → Vector → Type 0
Lists n xs v = (length xs ≡ n) × ((k : ℕ) → k < n → places xs k ≡ v k)

-- a list of n numbers, none beyond ±limit
abbrev pub Small : (n limit : ℕ) → List ℤ → Type 0
Small n limit xs = (length xs ≡ n) × ((k : ℕ) → unsigned_abs (places xs k) ≤ limit)

-- each number of a list goes up by d times its weight
pub record Raised (xs ys : List ℤ) (w : Vector) (d : ℤ) : Type 0 where
  pub long : length ys ≡ length xs
  pub each : (k : ℕ) → k < length xs → places ys k ≡ places xs k +ℤ w k *ℤ d

-- the rows: their sums, and the ticks outside them

pub record SumsAt (P : Problem) (z : List ℤ) (s : RowSums) : Type 0 where
  pub sums : Lists P.rows s.sums.items (row_at P (places z))
  pub outside : s.outside ≡ outside P (places z)

-- sums so small that a sum takes them
abbrev pub SmallSums : Problem → RowSums → Type 0
SmallSums P s = Small P.rows (2 ^ 39) s.sums.items

-- the ticks outside once rope k has moved by d
unfoldable pub outside_after : Problem → RowSums → ℕ → ℤ → ℤ
outside_after P s k d = ∑ P.rows (λ i. excess (P.lo i) (P.hi i) (places s.sums.items i +ℤ P.A i k *ℤ d))

pub record SumsShifted (P : Problem) (s s' : RowSums) (k : ℕ) (d : ℤ) : Type 0 where
  pub sums : Raised s.sums.items s'.sums.items (λ i. P.A i k) d
  pub outside : s'.outside ≡ outside_after P s k d

-- the cost: its gradient

abbrev pub SlopesAt : Problem → List ℤ → Slopes → Type 0
SlopesAt P z s = Lists P.ropes s.slopes.items (gradient P (places z))

abbrev pub SmallSlopes : Problem → Slopes → Type 0
SmallSlopes P s = Small P.ropes (2 ^ 41) s.slopes.items

-- how the cost changes when a rope with this slope and this curvature moves by d
unfoldable pub gain_of : ℤ → ℤ → ℤ → ℤ
gain_of slope curve d = d *ℤ (slope +ℤ curve *ℤ d)

-- and when rope k does
abbrev pub gain_after : Problem → Slopes → ℕ → ℤ → ℤ
gain_after P s k d = gain_of (places s.slopes.items k) (P.G k k) d

abbrev pub SlopesShifted : Problem → (s s' : Slopes) → ℕ → ℤ → Type 0
SlopesShifted P s s' k d = Raised s.slopes.items s'.slopes.items (λ i. P.G i k +ℤ P.G k i) d

-- both, on one job

-- a change of a rope of the job, no larger than the largest size
pub record Movable (j : Job) (m : Move) : Type 0 where
  pub there : m.rope < (problem_of j).ropes
  pub small : unsigned_abs m.by ≤ 16384

-- the running sums are those of z
pub record Tracks (j : Job) (z : List ℤ) (r : Room) : Type 0 where
  pub rows : SumsAt (problem_of j) z r.rows
  pub cost : SlopesAt (problem_of j) z r.cost

pub record Tame (j : Job) (r : Room) : Type 0 where
  pub rows : SmallSums (problem_of j) r.rows
  pub cost : SmallSlopes (problem_of j) r.cost

-- whether a move lowers, by the running sums alone
unfoldable pub looks_lower : Job → Room → Move → Bool
looks_lower j r m = lower r.rows.outside (pos 0) (outside_after (problem_of j) r.rows m.rope m.by) (gain_after (problem_of j) r.cost m.rope m.by)

-- the running sums once a move was made
pub record Shifted (j : Job) (r r' : Room) (m : Move) : Type 0 where
  pub rows : SumsShifted (problem_of j) r.rows r'.rows m.rope m.by
  pub cost : SlopesShifted (problem_of j) r.cost r'.cost m.rope m.by
