-- How a refusal of a plan is told: a number, the layer that met it, and two places, 0 where there is none.
-- A fault of a card is told as the card tells it.
use Rattle.std.specs.Prelude.{◌≡◌, ℕ}
use Rattle.block.specs.declared.fault.Layer.TheVariants.{Table, Plan}
use Rattle.block.specs.declared.fault.Notice.{Notice}
use Rattle.block.specs.Notices as card
use Rattle.opening.specs.declared.refusal.List.{List}
use Rattle.opening.specs.declared.refusal.List.TheVariants as list
use Rattle.opening.specs.declared.refusal.Refusal.{Refusal}
use Rattle.opening.specs.declared.refusal.Refusal.TheVariants.{
  Card,
  Sizes,
  Place,
  Asymmetric,
  Length,
  Limit,
  Slip,
  OfferLength,
  OfferLimit,
  Bound,
  Row,
  NoProof,
  NoSuch,
  Amendment,
}

-- c, l, u, lo, hi, slip
abbrev pub list_number : List → ℕ
list_number list.Costs = 0
list_number list.LowerBounds = 1
list_number list.UpperBounds = 2
list_number list.LowerLimits = 3
list_number list.UpperLimits = 4
list_number list.Slip = 5

abbrev pub at_table : ℕ → ℕ → ℕ → Notice
at_table number first second = record { number = number; layer = Table; first = first; second = second }

abbrev pub at_plan : ℕ → ℕ → ℕ → Notice
at_plan number first second = record { number = number; layer = Plan; first = first; second = second }

abbrev pub notice_of : Refusal → Notice
notice_of (Card fault) = card.notice_of fault
notice_of (Sizes height width) = at_table 10 height width
notice_of (Place row column) = at_table 11 row column
notice_of (Asymmetric row column) = at_table 12 row column
notice_of (Length list) = at_plan 13 (list_number list) 0
notice_of (Limit list index) = at_plan 14 (list_number list) index
notice_of (Slip row) = at_plan 15 row 0
notice_of (OfferLength needed) = at_plan 20 needed 0
notice_of (OfferLimit index) = at_plan 21 index 0
notice_of (Bound rope) = at_plan 22 rope 0
notice_of (Row row) = at_plan 23 row 0
notice_of NoProof = at_plan 24 0 0
notice_of (NoSuch index) = at_plan 30 index 0
notice_of (Amendment index) = at_plan 31 index 0

-- Law: no other refusal is told so.
abbrev pub ToldApart : Refusal → Notice → Type 0
ToldApart r told = (s : Refusal) → notice_of s ≡ told → s ≡ r
