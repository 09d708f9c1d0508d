use Rattle.std.proofs.Common.{◌≡◌, ◌∙◌, rules}
use Rattle.elimination.specs.Nearest.{nearest, nearest_whole}
use Rattle.elimination.proofs.Halves.{nearest_law}
use Rattle.elimination.proofs.rounding.nearest.Goals as goal

pub returns : goal.returns
unfolding nearest
returns c =
    let e : c.saturating_f64_to_i64.result ≡ nearest c.args.x = cc in
    record {
      value = search (rules, e);
      law = λ m. let f : c.saturating_f64_to_i64.result ≡ nearest_whole c.args.x = e ∙ nearest_law c.args.x m in search (rules, f);
    }
