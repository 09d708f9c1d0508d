use Rattle.lines.proofs.Legible.{legible}
use Rattle.lines.proofs.writes.write_sheet.Goals as goal

pub returns-in_err-check_room-clause-legible : goal.returns-in_err-check_room-clause-legible
returns-in_err-check_room-clause-legible c = legible

pub returns-in_err-point-clause-legible : goal.returns-in_err-point-clause-legible
returns-in_err-point-clause-legible c = legible

pub returns-clause-legible : goal.returns-clause-legible
returns-clause-legible c = legible
