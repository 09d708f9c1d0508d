use Rattle.std.proofs.Common.{◌∙◌, w64, SFits, rules, tests}
use Rattle.std.proofs.lemmas.Int.{to_z-of_z}
use Rattle.std.proofs.lemmas.Iterator.{YieldsList-from_slice}
use Rattle.std.proofs.lemmas.Iterator.Search.{find_from_yields_List}
use Rattle.table.specs.Records.{is_for}
use Rattle.table.proofs.Firsts.{found_number}
use Rattle.table.proofs.triplets.first_number.Goals as goal

pub returns : goal.returns
returns c =
    let fits : SFits w64 c.map_or.result = search rules in
    to_z-of_z w64 _ fits
    ∙ found_number c.args.records.now c.args.i c.args.j _ c.find.result _
    (find_from_yields_List (λ r. is_for r c.args.i c.args.j) c.find.new.self _ c.find.result c.find.ensures.ran (YieldsList-from_slice c.args.records.now cc) (λ x b q k. search (rules, tests)))
    c.map_or.ensures (λ y q. search (rules, tests))
