use Rattle.std.proofs.Common.{◌≡◌, ℕ, List, [], ◌∷◌, drop, get_or, sym, refl, ap, ◌∙◌, subst, arith}
use Rattle.block.specs.Blocks.{Fit}
use Rattle.block.specs.declared.kind.Kind.{Kind}
use Rattle.block.specs.declared.kind.Kind.TheVariants.{Head, Curvature, Rows, Costs, Bounds, Limits, Slip}
use Rattle.card.specs.Contents.{numbers}
use Rattle.card.proofs.Filling.{all_counted, all_written, fits_on, head_as, parts_into, parts_more, section_as, sizes_as}
use Rattle.card.proofs.writes.write_all.Goals as goal

kinds : List Kind
kinds = Curvature ∷ Rows ∷ Costs ∷ Bounds ∷ Limits ∷ Slip ∷ []

pub loop-kind-preserved : goal.loop-kind-preserved
unfolding kinds
loop-kind-preserved c =
    let x = c.args.x.now in
    let i = c.loop-kind.kind-index in
    let kept = c.loop-kind.invariant in
    let wrote = c.write_section-in-loop-kind in
    record {
      laid =
          parts_more x.sizes x.numbers kinds i Head c.loop-kind.out wrote.new.out c.loop-kind-test.true
          (section_as x.sizes (get_or kinds i Head) c.loop-kind.out wrote.new.out c.section.result.now _ c.section.ensures wrote.ensures.value)
          ∙ kept.laid;
      fits = fits_on x.numbers kinds i Head kept.fits (subst Fit c.section.ensures wrote.ensures.fits);
    }

pub returns-clause-value : goal.returns-clause-value
unfolding kinds
returns-clause-value c =
    let x = c.args.x.now in
    let s = x.sizes in
    let all : c.loop-kind.kind-index ≡ 6 = omega arith in
    let head = sizes_as s c.ropes.result c.rows.result c.ropes.ensures c.rows.ensures in
    sym (ap (λ (k : ℕ). parts_into s x.numbers (drop k kinds) c.loop-kind.out) all)
    ∙ c.loop-kind.invariant.laid
    ∙ all_written x c.args.out.now c.write_section.new.out c.requires (head_as s c.args.out.now c.write_section.new.out _ head c.write_section.ensures.value)

pub returns-clause-proper : goal.returns-clause-proper
returns-clause-proper c =
    let x = c.args.x.now in
    let s = x.sizes in
    let fit = c.loop-kind.invariant.fits in
    record {
      sizes = record { some = s.some; few = s.few; short = s.short };
      head = refl;
      counts = all_counted x;
      fits = λ kind. elim kind as (λ k. Fit (numbers x k)) [
        | Head ↦ subst Fit (sizes_as s c.ropes.result c.rows.result c.ropes.ensures c.rows.ensures) c.write_section.ensures.fits
        | Curvature ↦ fit 0 (omega arith)
        | Rows ↦ fit 1 (omega arith)
        | Costs ↦ fit 2 (omega arith)
        | Bounds ↦ fit 3 (omega arith)
        | Limits ↦ fit 4 (omega arith)
        | Slip ↦ fit 5 (omega arith)
      ];
    }
