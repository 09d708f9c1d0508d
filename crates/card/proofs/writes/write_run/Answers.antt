use Rattle.std.proofs.Common.{◌≡◌, ℕ, ◌+◌, ◌*◌, ◌<◌, ◌≤◌, Bool, true, cond, leb, ◌++◌, List, length, take, drop, ℤ, sym, ap, ◌∙◌, subst, arith}
use Rattle.std.proofs.lemmas.List.{drop-drop, length-drop}
use Rattle.std.proofs.lemmas.Bool.{le-leb}
use Rattle.std.specs.Slice.Iter.{chunks_rest}
use Rattle.block.specs.Kinds.{letter_of}
use Rattle.block.specs.Blocks.{block_of, Fit}
use Rattle.block.specs.Writes.{put_block}
use Rattle.card.proofs.Laying.{part_is, run_more, fits_more}
use Rattle.card.proofs.writes.write_run.Goals as goal

pub loop-b-preserved : goal.loop-b-preserved
loop-b-preserved c =
    let nums : List ℤ = c.args.numbers.now in
    let b : ℕ = c.loop-b.b-iterator.count in
    let kept = c.loop-b.invariant in
    let step = c.in-Some.ensures.steps in
    let part : List ℤ = c.in-Some.part.now in
    let rest : List ℤ = chunks_rest c.next.new.self.iter in
    let xs : part ++ rest ≡ drop (b * 126) nums = sym step.0.1.0 ∙ kept.rest in
    let cut = part_is part rest (omega (arith, step.0.1.1, kept.size, ap length step.0.1.0)) in
    let first : take 126 part ≡ take 126 (drop (b * 126) nums) = cut.0 ∙ ap (take 126) xs in
    let next : b * 126 + 126 ≡ (b + 1) * 126 = omega arith in
    let out : List ℕ = c.loop-b.out in
    let more : b * 126 < length nums = omega (arith, step.0.1.2, ap length kept.rest, length-drop (b * 126) nums) in
    let room : (c.args.first + b) * 512 + 512 ≤ length out = omega (arith, more, c.loop-b.auto.out, c.requires.0) in
    let has : c.write_block.result ≡ true
    = c.write_block.ensures.has ∙ (ap (λ (k : ℕ). leb ((c.args.first + k) * 512 + 512) (length out)) step.1 ∙ le-leb ((c.args.first + b) * 512 + 512) (length out) room) in
    let put : c.write_block.new.card ≡ put_block out (c.args.first + b) (block_of (letter_of c.args.kind) (c.args.first + b) (take 126 (drop (b * 126) nums)))
    = c.write_block.ensures.value
    ∙ (ap (λ (t : Bool). cond t (put_block out (c.args.first + c.in-Some.b) (block_of (letter_of c.args.kind) (c.args.first + c.in-Some.b) (take 126 part))) out) has
    ∙ (ap (λ (j : ℕ). put_block out (c.args.first + j) (block_of (letter_of c.args.kind) (c.args.first + j) (take 126 part))) step.1
    ∙ ap (λ (xs : List ℤ). put_block out (c.args.first + b) (block_of (letter_of c.args.kind) (c.args.first + b) xs)) first)) in
    let lie : c.args.first * 512 ≤ length c.args.out.now = omega arith in
    let after = put ∙ run_more c.args.out.now out (letter_of c.args.kind) c.args.first b nums kept.laid lie in
    let fit = fits_more nums b kept.fits (subst Fit first (c.write_block.ensures.fits has)) in
    rw (step.2) (record {
      laid = after;
      fits = fit;
      few = omega (arith, more);
      size = step.0.0 ∙ kept.size;
      rest = cut.1 ∙ (ap (drop 126) xs ∙ (drop-drop 126 (b * 126) nums ∙ ap (λ k. drop k nums) next));
    })
