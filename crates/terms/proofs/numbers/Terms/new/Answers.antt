use Rattle.std.proofs.Common.{◌≤◌, length, sym, ap, ◌∙◌, arith}
use Rattle.terms.proofs.Fitting.{sized_parts, sized_vecs, limited_lists}
use Rattle.terms.proofs.numbers.Terms.new.Goals as goal

pub invariant_of-result : goal.invariant_of-result
invariant_of-result c =
    let sizes = sym c.sizes_fit.ensures ∙ c.if-not-sizes_fit.false in
    let f = sized_parts _ _ _ _ _ sizes in
    let few_l : length c.args.l.now ≤ 16 = omega (arith, f.l_long, f.few_ropes) in
    let few_u : length c.args.u.now ≤ 16 = omega (arith, f.u_long, f.few_ropes) in
    let few_hi : length c.args.hi.now ≤ 32 = omega (arith, f.hi_long, f.few_rows) in
    let ec = sym (c.placed.ensures.whole f.few_ropes) in
    let el = sym (c.placed-2.ensures.whole few_l) in
    let eu = sym (c.placed-3.ensures.whole few_u) in
    let elo = sym (c.placed-4.ensures.whole f.few_rows) in
    let ehi = sym (c.placed-5.ensures.whole few_hi) in
    let s = sized_vecs _ _ _ _ _ _ _ _ _ _ (ap length ec) (ap length el) (ap length eu) (ap length elo) (ap length ehi) sizes in
    let t = limited_lists _ _ _ _ _ _ _ _ _ _ ec el eu elo ehi (sym c.limits_fit.ensures ∙ c.if-not-limits_fit.false) in
    record {
      some = (s.some, s.few_ropes);
      few = s.few_rows;
      prices = t.c_in;
      lefts = (s.l_long, t.l_in);
      rights = (s.u_long, t.u_in);
      floors = t.lo_in;
      ceilings = (s.hi_long, t.hi_in);
      wide = t.bounds_open;
      «open» = t.rows_open;
    }
