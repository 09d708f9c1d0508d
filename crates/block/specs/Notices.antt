-- How a fault of a card is told: a number, the layer that met it, and two places, 0 where there is none.
use Rattle.std.specs.Prelude.{ℕ, List, ◌++◌, codes, decimal}
use Rattle.block.specs.declared.fault.Fault.{Fault}
use Rattle.block.specs.declared.fault.Fault.TheVariants.{Length, CheckSum, Name, Sizes, Spare, Short}
use Rattle.block.specs.declared.fault.Layer.{Layer}
use Rattle.block.specs.declared.fault.Layer.TheVariants.{Card, Table, Plan}
use Rattle.block.specs.declared.fault.Notice.{Notice}

abbrev pub at_card : ℕ → ℕ → ℕ → Notice
at_card number first second = record { number = number; layer = Card; first = first; second = second }

abbrev pub notice_of : Fault → Notice
notice_of (Length bytes) = at_card 1 bytes 0
notice_of (CheckSum block) = at_card 2 block 0
notice_of (Name block) = at_card 3 block 0
notice_of (Sizes block) = at_card 4 block 0
notice_of (Spare block byte) = at_card 5 block byte
notice_of (Short needed) = at_card 6 needed 0

-- how each layer is printed
abbrev pub name_of : Layer → List ℕ
name_of Card = codes "card"
name_of Table = codes "table"
name_of Plan = codes "plan"

-- a notice is printed as its number and its first place, 0 as any other
abbrev pub notice_text : Notice → List ℕ
notice_text n = codes "refused " ++ (decimal n.number ++ (codes " at " ++ decimal n.first))

-- a fault is printed as its notice
abbrev pub fault_text : Fault → List ℕ
fault_text fault = notice_text (notice_of fault)
