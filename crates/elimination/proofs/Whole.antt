-- The two halves of a solution joined.
use Rattle.std.proofs.Common.{◌≡◌, ◌+◌, true, false, List, length, None, Option, refl, ap, ◌∙◌}
use lib.Ieee.{Float}
use Rattle.elimination.specs.Lines.{triangle_of, unknowns_of, solved, left}
use Rattle.elimination.proofs.Inside.{columns_long}

module _ (s : Float) (ls : List (List Float)) where
  pub left_is : (triangle_of s ls).lines ≡ left s ls
  unfolding left
  left_is = refl

  pub least_is : (triangle_of s ls).least ≡ (solved s ls).0
  unfolding solved
  least_is = refl

  pub stuck_whole : (triangle_of s ls).whole ≡ false → ◌≡◌ {A = Option (List Float)} None (solved s ls).1
  unfolding solved
  stuck_whole f = rw f

  pub found_whole : (ms : List (List Float)) → ms ≡ (triangle_of s ls).lines → (triangle_of s ls).whole ≡ true → unknowns_of (length ms) 0 ms ≡ (solved s ls).1
  unfolding solved
  found_whole ms e f = let l = ap length e ∙ columns_long (length ls + 1) (length ls) 0 s ls in rw (f, l, e)
