-- A plan that was opened without a fault is fair, and what later laws rest on holds of it.
use Rattle.std.proofs.Common.{◌≡◌, None, sym, refl, subst}
use Rattle.duality.specs.Convex.{Symmetric, Convex}
use Rattle.table.specs.Grid.{Grid, matrix_of}
use Rattle.opening.specs.Opening.{Numbers, open_fault}
use Rattle.opening.proofs.Fitting.{tells_fit}
use Rattle.calls.specs.Opened.{opened, Sound}
use Rattle.calls.specs.Fairness.{Fair}

pub opened_sound : (g a : Grid) (x : Numbers) → open_fault g a x ≡ None → Sound g a x (opened g a x)
opened_sound g a x e =
    let told = tells_fit g a x (open_fault g a x) refl in
    let fits = told.fits e in
    record {
      fits = fits;
      symmetric = subst (λ n. Symmetric n (matrix_of g)) (sym fits.long.c) fits.symmetric;
      convex = subst (λ n. Convex n (matrix_of g)) (sym fits.long.c) (told.convex e);
    }

pub opened_fair : (g a : Grid) (x : Numbers) → open_fault g a x ≡ None → Fair (opened g a x)
opened_fair g a x e =
    let sound = opened_sound g a x e in
    record { point_lawful = tt; proof_lawful = tt; symmetric = sound.symmetric; convex = sound.convex }
