use Rattle.std.proofs.Common.{◌≡◌, List, [], ◌∷◌, None, sym, refl, ap, ◌∙◌, ◌⊎◌, inl, inr}
use lib.Ieee.{Float}
use Rattle.std.proofs.lemmas.Iterator.{zips}
use Rattle.std.proofs.lemmas.Slice.Zip.{either_empty_from_Zip}
use Rattle.std.proofs.iter.Yields.{fronts}
use Rattle.std.specs.Slice.Iter.{iter_rest}
use Rattle.std.specs.Iterator.Adapters.{zip_first, zip_second}
use Rattle.std.specs.declared.iter.Zip.{Zip}
use Rattle.std.specs.declared.slice.Iter.{Iter}
use Rattle.elimination.specs.Lines.{rest}
use Rattle.elimination.proofs.unknowns.remainder.Goals as goal

rest_nil : (b : Float) (xs : List Float) → rest b [] xs ≡ b
rest_nil b [] = refl
rest_nil b (x ∷ xs) = refl

ended : (s t : Zip (Iter Float) (Iter Float)) (b : Float) → zips fronts fronts s None t → rest b (iter_rest (zip_first s)) (iter_rest (zip_second s)) ≡ b
ended s t b h = by (either_empty_from_Zip s t None refl h)
  where
    by : (iter_rest (zip_first s) ≡ []) ⊎ (iter_rest (zip_second s) ≡ []) → rest b (iter_rest (zip_first s)) (iter_rest (zip_second s)) ≡ b
    by (inl e) = rw e (rest_nil b (iter_rest (zip_second s)))
    by (inr e) = rw e

pub loop-a-init : goal.loop-a-init
loop-a-init c =
    let h = c.into_iter-a-iterator.ensures.into_iter_gives in
    let f = ap (λ z. iter_rest (zip_first z)) h ∙ ap iter_rest c.zip-a-items.ensures.first ∙ c.iter.ensures.rest in
    let g = ap (λ z. iter_rest (zip_second z)) h ∙ c.zip-a-items.ensures.second.0 in
    ap (λ z. rest c.args.right z (iter_rest (zip_second c.into_iter-a-iterator.result))) f ∙ ap (λ z. rest c.args.right c.args.coefficients.now z) g

pub loop-a-preserved : goal.loop-a-preserved
loop-a-preserved c =
    let h = c.in-Some.ensures.steps in
    sym (ap (λ z. rest c.loop-a.left z (iter_rest (zip_second c.loop-a.a-iterator))) h.0 ∙ ap
    (λ z. rest c.loop-a.left (c.in-Some.a.now ∷ iter_rest (zip_first c.next.new.self)) z) h.1) ∙ c.loop-a.invariant

pub returns : goal.returns
returns c = sym (ended c.loop-a.a-iterator c.next.new.self c.loop-a.left c.in-None.ensures.steps) ∙ c.loop-a.invariant
