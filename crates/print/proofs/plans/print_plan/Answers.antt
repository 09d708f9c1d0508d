use Rattle.std.proofs.Common.{◌≡◌, replicate, pos, Ok, refl, ap, ◌∙◌, rules}
use Rattle.calls.specs.States.{State}
use Rattle.calls.specs.Steps.{shown, shown_in}
use Rattle.calls.proofs.Showing.{show_law, show_honest}
use Rattle.lines.specs.Texts.{sheet_text}
use Rattle.plan.specs.View.{view}
use Rattle.print.specs.Printing.{point_of, plan_text}
use Rattle.print.proofs.Points.{shown_passes, text_is, zeros_of, shows_zeros, seen_is}
use Rattle.print.proofs.Rooms.{room_refused, sheet_answer, sheet_after, printed_answer, printed_fits}
use Rattle.print.proofs.plans.print_plan.Goals as goal

pub returns : goal.returns
returns g c =
    let s : State = view g.G.Table.meant g.A.Table.meant c.args.plan.now in
    let n = s.numbers.ropes in
    let r = c.args.report.now in
    let out = c.args.out.now in
    let z = c.show.new.out in
    let v = c.in_ok-seen.seen in
    let zeros = zeros_of c.ropes.result n c.ropes.ensures.few c.ropes.ensures.value in
    let point : z ≡ point_of s = c.in_ok-seen.ensures.wrote ∙ ap (shown_in s) zeros in
    let passes = shown_passes g.G.Table.meant g.A.Table.meant c.args.plan.now z point in
    let text = text_is r s v z (seen_is s _ v zeros c.in_ok-seen.ensures.answer) point in
    let refused : c.map_err.result ≡ room_refused c.write_sheet.result = search rules in
    let answer =
    printed_answer out (plan_text r s) c.write_sheet.result c.map_err.result refused
    (sheet_answer out (sheet_text r v z) (plan_text r s) z _ passes text c.write_sheet.ensures.answer) in
    let after = sheet_after out (sheet_text r v z) (plan_text r s) _ z passes text c.write_sheet.ensures.after in
    record {
      answer = answer;
      after = after;
      fits = printed_fits out c.write_sheet.new.out (plan_text r s) _ answer after c.write_sheet.auto.out;
      law = show_law s (replicate n (pos 0)) (Ok (shown s)) (point_of s) (shows_zeros s) refl;
      fair_law = show_honest s (replicate n (pos 0)) (Ok (shown s)) (point_of s) (shows_zeros s) refl;
    }
