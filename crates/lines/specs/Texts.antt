-- The text that the program shows.
use Rattle.std.specs.Prelude.{ℕ, List, [], ◌∷◌, ◌++◌, map, ℤ, codes, decimal}
use Rattle.std.specs.Fmt.{signed_decimal}
use Rattle.exchange.specs.declared.members.End.{End as ExchangeEnd}
use Rattle.exchange.specs.Ends.{name_of as exchange_word}
use Rattle.walk.specs.declared.ends.End.{End as WalkEnd}
use Rattle.walk.specs.Ends.{name_of as walk_word}
use Rattle.calls.specs.declared.answers.Found.{Found}
use Rattle.calls.specs.declared.answers.Found.TheVariants.{NoneExists, Point, NoPoint}
use Rattle.calls.specs.declared.answers.Report.{Report}
use Rattle.calls.specs.declared.answers.Shown.{Shown}

-- the words of a line after the first, each after a blank, and byte 10
abbrev pub rest : List (List ℕ) → List ℕ
rest [] = 10 ∷ []
rest (w ∷ ws) = 32 ∷ (w ++ rest ws)

abbrev pub line : List ℕ → List (List ℕ) → List ℕ
line w ws = w ++ rest ws

abbrev pub exchange_line : ℕ → ExchangeEnd → List ℕ
exchange_line steps end = line (codes "exchange") (decimal steps ∷ exchange_word end ∷ [])

abbrev pub moves_line : ℕ → WalkEnd → List ℕ
moves_line moves end = line (codes "moves") (decimal moves ∷ walk_word end ∷ [])

abbrev pub cost_line : ℤ → List ℕ
cost_line cost = line (codes "cost") (signed_decimal cost ∷ [])

abbrev pub floor_line : ℤ → List ℕ
floor_line floor = line (codes "floor") (signed_decimal floor ∷ [])

abbrev pub gap_line : ℤ → List ℕ
gap_line gap = line (codes "gap") (signed_decimal gap ∷ [])

abbrev pub point_line : List ℤ → List ℕ
point_line z = line (codes "point") (map signed_decimal z)

abbrev pub point_lines : ℤ → ℤ → ℤ → List ℤ → List ℕ
point_lines cost floor gap z = cost_line cost ++ (floor_line floor ++ (gap_line gap ++ point_line z))

-- what was found, and the floor
abbrev pub found_text : ℤ → List ℤ → Found → List ℕ
found_text floor z NoneExists = line (codes "none exists") [] ++ floor_line floor
found_text floor z NoPoint = line (codes "no point") [] ++ floor_line floor
found_text floor z (Point cost gap) = point_lines cost floor gap z

-- the text of a sheet: what a solve did and what is shown after it, with a point z where one was found
unfoldable pub sheet_text : Report → Shown → List ℤ → List ℕ
sheet_text r s z = exchange_line r.steps r.exchange ++ (moves_line r.moves r.walk ++ found_text s.floor z s.found)

-- the text of a refusal: its number and its first place
unfoldable pub refusal_text : ℕ → ℕ → List ℕ
refusal_text number place = line (codes "refused") (decimal number ∷ codes "at" ∷ decimal place ∷ [])
