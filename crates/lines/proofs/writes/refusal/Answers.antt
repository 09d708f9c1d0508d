use Rattle.std.proofs.Common.{append_assoc}
use Rattle.lines.specs.Texts.{refusal_text}
use Rattle.lines.proofs.writes.refusal.Goals as goal

pub returns : goal.returns
unfolding refusal_text
returns c = rw (c.entry.ensures.text, c.labelled.ensures.text, c.new-page.ensures) (simp append_assoc)
