-- The seven kinds of section, and the letter of each.
use Rattle.std.specs.Prelude.{◌≡◌, ℕ, cond, Some, None, Option, ◌==◌}
use Rattle.block.specs.declared.kind.Kind.{Kind}
use Rattle.block.specs.declared.kind.Kind.TheVariants.{Head, Curvature, Rows, Costs, Bounds, Limits, Slip}

-- H, G, A, C, B, R, L
abbrev pub letter_of : Kind → ℕ
letter_of Head = 72
letter_of Curvature = 71
letter_of Rows = 65
letter_of Costs = 67
letter_of Bounds = 66
letter_of Limits = 82
letter_of Slip = 76

-- the kind that a letter names
abbrev pub kind_of : ℕ → Option Kind
kind_of letter =
    cond (letter == 72) (Some Head) (cond (letter == 71) (Some Curvature) (cond (letter == 65) (Some Rows) (cond (letter == 67) (Some Costs)
    (cond (letter == 66) (Some Bounds) (cond (letter == 82) (Some Limits) (cond (letter == 76) (Some Slip) None))))))

-- the letters tell the kinds apart: a letter names a kind exactly if it is that kind's letter
pub record Names (letter : ℕ) (named : Option Kind) : Type 0 where
  pub right : (kind : Kind) → named ≡ Some kind → letter_of kind ≡ letter
  pub all : (kind : Kind) → letter_of kind ≡ letter → named ≡ Some kind
