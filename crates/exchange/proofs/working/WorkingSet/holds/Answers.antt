use Rattle.std.proofs.Common.{◌∙◌, rules, tests}
use Rattle.std.proofs.lemmas.Iterator.{YieldsList-from_slice}
use Rattle.std.proofs.lemmas.Iterator.Search.{any_from_yields_List}
use Rattle.exchange.specs.declared.members.Member.{Member}
use Rattle.exchange.specs.Breaches.{same}
use Rattle.exchange.proofs.Folds.{holds_any}
use Rattle.exchange.proofs.working.WorkingSet.holds.Goals as goal

pub returns : goal.returns
returns c =
    let ms = c.args.self.now.members.now in
    let v = c.args.limit in
    any_from_yields_List (λ (m : Member). same m.limit v) _ _ c.any.result c.any.ensures.ran (YieldsList-from_slice ms cc) (λ x b q k. search (rules, tests)) ∙ holds_any ms v
