use Rattle.std.proofs.Common.{sym, subst, arith}
use Rattle.table.specs.Grid.{Grid}
use Rattle.table.specs.Layers.{flipped}
use Rattle.job.specs.Numbers.{problem_of}
use Rattle.reading.specs.Listings.{ShowsA}
use Rattle.reading.proofs.Listings.{same_grid, listing_shows_down}
use Rattle.reading.proofs.matrices.rows.Goals as goal

pub returns : goal.returns
returns c =
    let job = c.args.job.now in
    let P = problem_of job in
    let value = same_grid _ _ _ _ _ _ c.ropes.ensures c.rows.ensures c.deref.ensures.0 in
    record {
      value = value;
      law =
          subst (λ (h : Grid). ShowsA P (flipped h)) (sym value)
          (listing_shows_down P.ropes P.rows job.a.items (omega (arith, job.terms.some.1)) (omega (arith, job.terms.few)) job.weights.1);
    }
