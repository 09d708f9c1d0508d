use Rattle.std.proofs.Common.{◌≡◌, map, ap, ◌∙◌, arith}
use Rattle.std.proofs.lemmas.Grind.{common_steps}
use Rattle.calls.specs.Runs.{after_all}
use Rattle.plan.specs.View.{view}
use Rattle.session.specs.Said.{asked_of, told}
use Rattle.session.specs.Answering.{answered}
use Rattle.session.proofs.Turns.{told_all, run_honest, run_left, run_fair, run_fairly}
use Rattle.session.proofs.runs.run.Goals as goal

pub returns : goal.returns
returns g c =
    let s = view g.G.Table.meant g.A.Table.meant c.args.plan.now in
    let t = view g.G.Table.meant g.A.Table.meant c.loop-slot.plan in
    let asked = c.args.asked.now in
    let ms = map asked_of asked in
    let now = c.loop-slot.slot-items in
    let answers : now ≡ answered s asked = grind (arith, common_steps) in
    let after : t ≡ after_all s ms = grind (arith, common_steps) in
    let heard = ap told answers ∙ told_all s asked in
    record {
      answers = answers;
      told = heard;
      after = after;
      law = run_honest s ms _ heard;
      left = run_left s t ms after;
      fair = run_fair s t ms after;
      fair_law = run_fairly s ms _ heard;
    }
