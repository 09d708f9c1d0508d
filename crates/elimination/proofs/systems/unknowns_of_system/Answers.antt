use Rattle.std.proofs.Common.{ap, sym, ◌∙◌}
use Rattle.std.specs.Option.{option_map}
use Rattle.elimination.specs.Lines.{padded}
use Rattle.elimination.proofs.Whole.{left_is, least_is, stuck_whole, found_whole}
use Rattle.elimination.proofs.systems.unknowns_of_system.Goals as goal

pub returns : goal.returns
returns c =
    let s = c.args.smallest.now in
    let ls = c.args.lines.now in
    let h = c.eliminate.ensures in
    record {
      smallest = h.smallest ∙ least_is s ls;
      unknowns = c.back_substitute.ensures.value ∙ ap (option_map padded) (found_whole s ls c.eliminate.new.lines h.lines (sym c.in_ok-eliminate.ensures.whole));
      lines = h.lines ∙ left_is s ls;
    }

pub returns-in_err-eliminate : goal.returns-in_err-eliminate
returns-in_err-eliminate c =
    let s = c.args.smallest.now in
    let ls = c.args.lines.now in
    let h = c.eliminate.ensures in
    record {
      smallest = h.smallest ∙ least_is s ls;
      unknowns = c.from_residual.ensures ∙ ap (option_map padded) (stuck_whole s ls (sym c.in_err-eliminate.ensures.whole));
      lines = h.lines ∙ left_is s ls;
    }
