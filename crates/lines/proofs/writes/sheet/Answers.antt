use Rattle.lines.proofs.Adding.{sheet_is}
use Rattle.lines.proofs.writes.sheet.Goals as goal

pub returns : goal.returns
returns c =
    sheet_is c.args.report.now c.args.shown.now c.args.point.numbers.now c.new-page.result.text.bytes c.labelled.new.self.text.bytes c.word.new.self.text.bytes
    c.labelled-2.new.self.text.bytes c.word-2.new.self.text.bytes c.add_found.new.page.text.bytes c.exchange_ending.result.now c.walk_ending.result.now
    c.new-page.ensures c.labelled.ensures.text c.word.ensures.text c.exchange_ending.ensures.word c.labelled-2.ensures.text c.word-2.ensures.text
    c.walk_ending.ensures.word c.add_found.ensures
