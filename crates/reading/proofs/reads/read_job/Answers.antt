use Rattle.std.proofs.Common.{sym, ap, ◌∙◌}
use Rattle.table.specs.Layers.{flipped}
use Rattle.table.specs.Grid.{matrix_of}
use Rattle.terms.specs.Numbers.{Numbers as Terms, numbers_of as terms_of}
use Rattle.reading.proofs.Agreeing.{same_points, same_floor}
use Rattle.reading.proofs.Stated.{read_is, kept, read_plain, job_agrees}
use Rattle.reading.proofs.reads.read_job.Goals as goal

pub invariant_of-result : goal.invariant_of-result
invariant_of-result g c =
    let gm = g.G.Table.meant c.args.g.now in
    let n = c.ropes-ropes.ensures ∙ sym (ap (λ (x : Terms). x.ropes) c.copy_of.ensures) in
    let m = c.rows.ensures ∙ sym (ap (λ (x : Terms). x.rows) c.copy_of.ensures) in
    let gs = read_is _ _ _ (matrix_of gm) c.numbers_in.result c.unwrap.result c.numbers_in.ensures.value c.unwrap.ensures in
    let ws = read_is _ _ _ _ c.numbers_in-2.result c.unwrap-2.result c.numbers_in-2.ensures.value c.unwrap-2.ensures in
    record { matrix = kept _ _ _ _ gm _ gs n n; weights = kept _ _ _ _ (flipped (g.A.Table.meant c.over.result.below.now)) _ ws n m }

pub returns : goal.returns
returns g c =
    let gm = g.G.Table.meant c.args.g.now in
    let am = g.A.Table.meant c.args.a.now in
    let gs = read_is _ _ _ (matrix_of gm) c.numbers_in.result c.unwrap.result c.numbers_in.ensures.value c.unwrap.ensures in
    let ws = read_is _ _ _ _ c.numbers_in-2.result c.unwrap-2.result c.numbers_in-2.ensures.value c.unwrap-2.ensures in
    let value = read_plain gm am (terms_of c.args.terms.now) (terms_of c.copy_of.result) _ _ _ _ _ c.ropes-ropes.ensures c.rows.ensures
    (ap (λ r. flipped (g.A.Table.meant r.now)) c.over.ensures.holds) c.copy_of.ensures gs ws in
    let law = job_agrees gm am c.args.terms.now _ value in
    record { value = value; law = law; points = same_points _ _ law; floors = same_floor _ _ law }
