-- One move that was tried.
use Rattle.std.proofs.Common.{◌≡◌, ℕ, ◌<◌, Bool, true, false, cond, List, set, ℤ, pos, ◌+ℤ◌, sym, ap, ◌∙◌}
use Rattle.std.proofs.lemmas.List.{set-get_or}
use Rattle.duality.specs.Lists.{places}
use Rattle.job.specs.Bounds.{InBounds}
use Rattle.job.specs.Numbers.{problem_of}
use Rattle.duality.specs.Tests.{between}
use Rattle.job.specs.declared.numbers.Job.{Job}
use Rattle.walk.specs.Lowering.{below, allowed, lowers}
use Rattle.walk.specs.Moves.{after}
use Rattle.walk.specs.declared.moves.Move.{Move}
use Rattle.walk.specs.Running.{Tracks, looks_lower}
use Rattle.walk.specs.declared.room.Room.{Room}
use Rattle.walk.proofs.Looking.{looks}

-- the bounds test of a move, as the program reads it
module _ (j : Job) (z : List ℤ) (m : Move) (low high x : ℤ) (b : Bool) (el : low ≡ (problem_of j).l m.rope) (eh : high ≡ (problem_of j).u m.rope)
    (ex : x ≡ places z m.rope +ℤ m.by) (e : b ≡ between low high x) where
  allowed_is : b ≡ allowed (problem_of j) z m
  unfolding allowed
  allowed_is = cc

  pub refused : b ≡ false → false ≡ lowers (problem_of j) z m
  unfolding lowers
  refused no' = ap (λ (a : Bool). cond a (below (problem_of j) (places z) (places (after z m))) false) (sym no' ∙ allowed_is)

  pub accepted : (r : Room) (t : Bool) → InBounds (problem_of j) z → Tracks j z r → m.rope < (problem_of j).ropes → b ≡ true → t ≡ looks_lower j r m → t ≡ lowers (problem_of j) z m
  unfolding lowers
  accepted r t ins tr l yes' et =
      et
      ∙ looks j z r m ins.long tr l
      ∙ ap (λ (a : Bool). cond a (below (problem_of j) (places z) (places (after z m))) false) (sym yes' ∙ allowed_is)

-- the guard leaves the new number where the move was kept, and else the old one
pub point_is : (z : List ℤ) (k : ℕ) (b : Bool) (spot next : ℤ) → spot ≡ cond b next (places z k) → set z k spot ≡ cond b (set z k next) z
point_is z k true spot next e = ap (set z k) e
point_is z k false spot next e = ap (set z k) e ∙ set-get_or z k (pos 0)
