use Rattle.std.proofs.Common.{◌<◌, length, ◌∙◌, arith}
use Rattle.std.proofs.lemmas.List.{length_push}
use Rattle.std.specs.Slice.Iter.{chunks_exact_rest}
use Rattle.opening.proofs.Slips.{row_inside, row_past, rows_end, product_fits, gram_fits, gram_more}
use Rattle.opening.proofs.slip.Slip.gram.Goals as goal

pub bounds-row-i : goal.bounds-row-i
bounds-row-i g c = let e = c.in-Some.ensures.steps.1.1 in omega (arith, c.requires.row, c.loop-row.invariant.size, e)

pub overflow_mul-sum : goal.overflow_mul-sum
overflow_mul-sum g c =
    let s = c.args.self.now in
    product_fits s.ropes s.numbers.now s.fit c.args.i c.args.j (length c.loop-row.yielded) c.requires.row c.requires.column c.in-Some.row.now _ (chunks_exact_rest c.next.new.self)
    c.loop-row.invariant.rest c.in-Some.ensures.steps.1.0 (c.in-Some.ensures.steps.1.1 ∙ c.loop-row.invariant.size)

pub overflow_add-sum : goal.overflow_add-sum
overflow_add-sum g c =
    let s = c.args.self.now in
    gram_fits s.ropes s.numbers.now s.fit c.args.i c.args.j (length c.loop-row.yielded) c.requires.row c.requires.column c.in-Some.row.now _ (chunks_exact_rest c.next.new.self)
    c.loop-row.invariant.rest c.in-Some.ensures.steps.1.0 (c.in-Some.ensures.steps.1.1 ∙ c.loop-row.invariant.size) _ c.loop-row.invariant.sum

pub loop-row-preserved : goal.loop-row-preserved
loop-row-preserved g c =
    let s = c.args.self.now in
    let next = chunks_exact_rest c.next.new.self in
    let steps = c.in-Some.ensures.steps in
    let long = steps.1.1 ∙ c.loop-row.invariant.size in
    let k = length c.loop-row.yielded in
    let inside = row_inside s.ropes s.numbers.now s.fit c.args.i c.args.j k c.requires.row c.requires.column c.in-Some.row.now _ next c.loop-row.invariant.rest steps.1.0 long in
    record {
      sum =
          rw length_push
          (gram_more s.ropes s.numbers.now s.fit c.args.i c.args.j k c.requires.row c.requires.column c.in-Some.row.now _ next c.loop-row.invariant.rest steps.1.0 long _
          c.loop-row.invariant.sum);
      few = rw length_push (omega arith);
      size = steps.0 ∙ c.loop-row.invariant.size;
      rest = rw length_push (row_past s.ropes s.numbers.now s.fit c.args.i c.args.j k c.requires.row c.requires.column c.in-Some.row.now _ next c.loop-row.invariant.rest steps.1.0 long);
    }

pub returns : goal.returns
returns g c =
    let s = c.args.self.now in
    let short : length (chunks_exact_rest c.loop-row.row-iterator) < s.ropes = omega (arith, c.in-None.ensures.steps.1.0, c.loop-row.invariant.size) in
    let all = rows_end s.ropes s.numbers.now s.fit (length c.loop-row.yielded) _ c.loop-row.invariant.rest short c.loop-row.invariant.few in
    rw all at c.loop-row.invariant.sum
