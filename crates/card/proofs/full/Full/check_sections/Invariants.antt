use Rattle.std.proofs.Common.{◌≡◌, drop}
use Rattle.card.specs.Faults.{sections_check}
use Rattle.card.proofs.Runs.{list_check}
use Rattle.card.proofs.full.Full.check_sections.Given as goal

-- the sections that are left give the answer
abbrev pub invariant-loop-kind : goal.invariant-loop-kind
invariant-loop-kind l =
    sections_check l.self.card.now l.self.sizes.ropes l.self.sizes.rows ≡ list_check l.self.card.now l.self.sizes.ropes l.self.sizes.rows (drop l.kind-index l.kind-items)
