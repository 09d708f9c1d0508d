use Rattle.std.proofs.Common.{◌≡◌, ℕ, ◌*◌, ◌≤◌, length, sym, ap, ◌∙◌, subst, arith}
use Rattle.std.proofs.lemmas.List.{append-nil}
use Rattle.std.proofs.lemmas.Nat.{mul-le}
use Rattle.table.specs.Grid.{height_of, matrix_of}
use Rattle.opening.specs.Fits.{Near}
use Rattle.opening.specs.Opening.{numbers_of}
use Rattle.reading.specs.Plain.{listed}
use Rattle.reading.proofs.Listed.{listed_long}
use Rattle.reading.proofs.Stated.{read_is}
use Rattle.sheet.proofs.Narrowing.{near_listed}
use Rattle.sheet.proofs.writes.numbers_of_job.Goals as goal

pub list_numbers-requires : goal.list_numbers-requires
list_numbers-requires g c =
    let G = g.G.Table.meant c.args.g.now in
    let n = c.ropes-n.result in
    let square : c.deref.result.now ≡ listed n n (matrix_of G)
    = c.deref.ensures.0 ∙ read_is n n 256 (matrix_of G) c.numbers_in.result c.unwrap-square.result c.numbers_in.ensures.value c.unwrap-square.ensures in
    let few : n * n ≤ 256 = mul-le n n 16 16 (omega (arith, c.ropes-n.ensures, c.args.sizes.now.few)) (omega (arith, c.ropes-n.ensures, c.args.sizes.now.few)) in
    (omega arith, (subst (Near 536870912) (sym square) (near_listed n n G), (λ k h. omega arith, omega (arith, ap length square, listed_long n n (matrix_of G), few))))

pub list_numbers-requires-2 : goal.list_numbers-requires-2
list_numbers-requires-2 g c =
    let A = g.A.Table.meant c.args.a.now in
    let n = c.ropes-n.result in
    let m = c.rows-m.result in
    let weights : c.deref-2.result.now ≡ listed m n (matrix_of A)
    = c.deref-2.ensures.0 ∙ read_is m n 512 (matrix_of A) c.numbers_in-2.result c.unwrap-weights.result c.numbers_in-2.ensures.value c.unwrap-weights.ensures in
    let few : m * n ≤ 512 = mul-le m n 32 16 (omega (arith, c.rows-m.ensures, c.args.sizes.now.short)) (omega (arith, c.ropes-n.ensures, c.args.sizes.now.few)) in
    (omega arith, (subst (Near 536870912) (sym weights) (near_listed m n A), (λ k h. omega arith, omega (arith, ap length weights, listed_long m n (matrix_of A), few))))

pub returns : goal.returns
returns g c =
    let G = g.G.Table.meant c.args.g.now in
    let A = g.A.Table.meant c.args.a.now in
    let x = numbers_of c.args.lists.now in
    let n : c.ropes-n.result ≡ height_of G = c.ropes-n.ensures ∙ c.requires.ropes in
    let m : c.rows-m.result ≡ height_of A = c.rows-m.ensures ∙ c.requires.rows in
    record {
      curvature = c.list_numbers.ensures ∙ (append-nil c.deref.result.now ∙ (c.deref.ensures.0
          ∙ (read_is _ _ 256 (matrix_of G) c.numbers_in.result c.unwrap-square.result c.numbers_in.ensures.value c.unwrap-square.ensures
          ∙ ap (λ (k : ℕ). listed k k (matrix_of G)) n)));
      rows = c.list_numbers-2.ensures ∙ (append-nil c.deref-2.result.now ∙ (c.deref-2.ensures.0
          ∙ (read_is _ _ 512 (matrix_of A) c.numbers_in-2.result c.unwrap-weights.result c.numbers_in-2.ensures.value c.unwrap-weights.ensures
          ∙ (ap (λ (k : ℕ). listed k c.ropes-n.result (matrix_of A)) m ∙ ap (λ (k : ℕ). listed (height_of A) k (matrix_of A)) n))));
      costs = c.list_numbers-3.ensures ∙ append-nil x.c;
      bounds = c.list_numbers-4.ensures;
      limits = c.list_numbers-5.ensures;
      slip = c.list_numbers-6.ensures ∙ append-nil x.slip;
    }
