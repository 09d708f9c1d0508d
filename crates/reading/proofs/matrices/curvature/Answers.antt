use Rattle.std.proofs.Common.{sym, subst, arith}
use Rattle.table.specs.Grid.{Grid}
use Rattle.job.specs.Numbers.{problem_of}
use Rattle.reading.specs.Listings.{ShowsG}
use Rattle.reading.proofs.Listings.{same_grid, listing_shows}
use Rattle.reading.proofs.matrices.curvature.Goals as goal

pub returns : goal.returns
returns c =
    let job = c.args.job.now in
    let P = problem_of job in
    let value = same_grid _ _ _ _ _ _ c.ropes.ensures c.ropes-2.ensures c.deref.ensures.0 in
    record {
      value = value;
      law =
          subst (λ (h : Grid). ShowsG P (h)) (sym value)
          (listing_shows P.ropes P.ropes job.g.items (omega (arith, job.terms.some.1)) (omega (arith, job.terms.some.1)) job.matrix.1);
    }
