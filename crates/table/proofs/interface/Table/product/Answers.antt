use Rattle.std.proofs.Common.{◌≡◌, ◌≤◌, true, false, get_or, pos, nat_abs, is_some, None, sym, ap, ◌∙◌, arith, w64, SFits, rules, below_more}
use Rattle.std.proofs.lemmas.Int.{to_z-of_z}
use Rattle.std.proofs.lemmas.Bool.{leb-true, leb-false}
use Rattle.duality.specs.Lists.{places}
use Rattle.duality.specs.Tests.{within}
use Rattle.table.specs.Grid.{place_of, product_of, width_of}
use Rattle.table.specs.Laws.{Multiplies}
use Rattle.table.proofs.Along.{sum_to, term_fits, sum_fits, sum_more, some_more, none_not}
use Rattle.table.proofs.Products.{product_none, product_lawful, multiplies_product}
use Rattle.table.proofs.Integers.{mul_held}
use Rattle.table.proofs.interface.Table.product.Goals as goal

pub returns-then-not-within : goal.returns-then-not-within
returns-then-not-within g c =
    let grid = g.Self.Table.meant c.args.self.now in
    let far : within 1073741824 (places c.args.xs.now c.loop-j.j) ≡ false = search (rules, to_z-of_z) in
    let e : None ≡ product_of grid c.args.i c.args.xs.now =
    sym (product_none grid c.args.i c.args.xs.now (λ s m. let l = m.long in omega (arith, leb-false _ _ far, m.near c.loop-j.j (omega arith)))) in
    let p = product_lawful grid c.args.i c.args.xs.now None e in
    record { value = e; bound = tt; exactly = p.1 }

pub returns-in_err-number : goal.returns-in_err-number
returns-in_err-number g c =
    let grid = g.Self.Table.meant c.args.self.now in
    let none : product_of grid c.args.i c.args.xs.now ≡ None =
    product_none grid c.args.i c.args.xs.now (λ s m.
    let l = m.long in
    none_not (place_of grid c.args.i c.loop-j.j) c.in_err-number.ensures.value (m.present c.loop-j.j (omega arith))) in
    let e : c.from_residual.result ≡ product_of grid c.args.i c.args.xs.now = ◌∙◌ {b = None} c.from_residual.ensures (sym none) in
    let p = product_lawful grid c.args.i c.args.xs.now c.from_residual.result e in
    record { value = e; bound = p.0; exactly = p.1 }

pub overflow_mul-sum : goal.overflow_mul-sum
overflow_mul-sum g c =
    let fn : SFits w64 c.in_ok-number.number = search rules in
    let fx : SFits w64 (get_or c.args.xs.now c.loop-j.j (pos 0)) = search rules in
    let near : within 1073741824 (get_or c.args.xs.now c.loop-j.j (pos 0)) ≡ true = search (rules, to_z-of_z) in
    let m = leb-true _ _ near in
    simp to_z-of_z (term_fits c.in_ok-number.number (get_or c.args.xs.now c.loop-j.j (pos 0)) c.in_ok-number.ensures.bound m)

pub overflow_add-sum : goal.overflow_add-sum
overflow_add-sum g c =
    let fn : SFits w64 c.in_ok-number.number = search rules in
    let fx : SFits w64 (get_or c.args.xs.now c.loop-j.j (pos 0)) = search rules in
    let near : within 1073741824 (get_or c.args.xs.now c.loop-j.j (pos 0)) ≡ true = search (rules, to_z-of_z) in
    let m = leb-true _ _ near in
    let f = term_fits c.in_ok-number.number (get_or c.args.xs.now c.loop-j.j (pos 0)) c.in_ok-number.ensures.bound m in
    sum_fits (g.Self.Table.meant c.args.self.now) c.args.i c.loop-j.j c.args.xs.now _ _ c.in_ok-number.number (get_or c.args.xs.now c.loop-j.j (pos 0))
    c.loop-j.invariant.0 (mul_held _ _ fn fx f) c.loop-j.invariant.2 (omega arith) c.in_ok-number.ensures.bound m

pub loop-j-preserved : goal.loop-j-preserved
loop-j-preserved g c =
    let grid = g.Self.Table.meant c.args.self.now in
    let fn : SFits w64 c.in_ok-number.number = search rules in
    let fx : SFits w64 (get_or c.args.xs.now c.loop-j.j (pos 0)) = search rules in
    let near : within 1073741824 (get_or c.args.xs.now c.loop-j.j (pos 0)) ≡ true = search (rules, to_z-of_z) in
    let m = leb-true _ _ near in
    let f = term_fits c.in_ok-number.number (get_or c.args.xs.now c.loop-j.j (pos 0)) c.in_ok-number.ensures.bound m in
    let here = c.in_ok-number.ensures.value in (
      to_z-of_z w64 _ (overflow_add-sum g c) ∙ sum_more grid c.args.i c.loop-j.j c.args.xs.now _ _ c.in_ok-number.number c.loop-j.invariant.0 (mul_held _ _ fn fx f) here,
      below_more (λ k. is_some (place_of grid c.args.i k) ≡ true) _ c.loop-j.invariant.1 (some_more (place_of grid c.args.i c.loop-j.j) _ here),
      below_more (λ k. nat_abs (places c.args.xs.now k) ≤ 1073741824) _ c.loop-j.invariant.2 m,
    )

pub returns : goal.returns
returns g c =
    let grid = g.Self.Table.meant c.args.self.now in
    let w : width_of grid ≡ c.loop-j.j = omega arith in
    let m : Multiplies grid c.args.i c.args.xs.now _ = record {
      inside = omega arith;
      long = omega arith;
      near = λ k h. c.loop-j.invariant.2 k (omega arith);
      present = λ k h. c.loop-j.invariant.1 k (omega arith);
      total = c.loop-j.invariant.0 ∙ ap (sum_to grid c.args.i c.args.xs.now) (sym w);
    } in
    let e = sym (multiplies_product grid c.args.i c.args.xs.now _ m) in
    let p = product_lawful grid c.args.i c.args.xs.now _ e in
    record { value = e; bound = p.0; exactly = p.1 }
