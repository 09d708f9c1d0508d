-- Which section has a block: one, and no other.
use Rattle.std.proofs.Common.{◌≡◌, ℕ, ◌<◌, ◌≤◌, true, false, cond, leb, sym, refl, ◌∙◌, ⊎_elim, arith}
use Rattle.std.proofs.lemmas.Bool.{cases_lt, le-leb, lt-leb}
use Rattle.block.specs.declared.kind.Kind.{Kind}
use Rattle.block.specs.declared.kind.Kind.TheVariants.{Head, Curvature, Rows, Costs, Bounds, Limits, Slip}
use Rattle.section.specs.Layout.{first_of, blocks_in, HasBlock}

module _ (n m b : ℕ) where
  -- the last section that starts at block b or before it
  owner : Kind
  owner =
      cond (leb (first_of Slip n m) b) Slip
      (cond (leb (first_of Limits n m) b) Limits
      (cond (leb (first_of Bounds n m) b) Bounds
      (cond (leb (first_of Costs n m) b) Costs (cond (leb (first_of Rows n m) b) Rows (cond (leb 1 b) Curvature Head)))))

  starts : (kind : Kind) → first_of kind n m ≤ b → leb (first_of kind n m) b ≡ true
  starts kind h = le-leb (first_of kind n m) b h

  later : (kind : Kind) → b < first_of kind n m → leb (first_of kind n m) b ≡ false
  later kind h = lt-leb (first_of kind n m) b h

  is_owner : (kind : Kind) → HasBlock kind n m b → owner ≡ kind
  unfolding owner
  is_owner Slip h = let e = starts Slip h.from in rw e refl
  is_owner Limits h = let e = starts Limits h.from in let f = later Slip h.to in rw (e, f) refl
  is_owner Bounds h = let t = h.to in let e = starts Bounds h.from in let f = later Slip (omega arith) in let g = later Limits (omega arith) in rw (e, f, g) refl
  is_owner Costs h =
      let t = h.to in
      let e = starts Costs h.from in
      let f = later Slip (omega arith) in
      let g = later Limits (omega arith) in
      let i = later Bounds (omega arith) in
      rw (e, f, g, i) refl
  is_owner Rows h =
      let t = h.to in
      let e = starts Rows h.from in
      let f = later Slip (omega arith) in
      let g = later Limits (omega arith) in
      let i = later Bounds (omega arith) in
      let j = later Costs (omega arith) in
      rw (e, f, g, i, j) refl
  is_owner Curvature h =
      let t = h.to in
      let e = starts Curvature h.from in
      let f = later Slip (omega arith) in
      let g = later Limits (omega arith) in
      let i = later Bounds (omega arith) in
      let j = later Costs (omega arith) in
      let k = later Rows (omega arith) in
      rw (e, f, g, i, j, k) refl
  is_owner Head h =
      let t = h.to in
      let e = later Curvature (omega arith) in
      let f = later Slip (omega arith) in
      let g = later Limits (omega arith) in
      let i = later Bounds (omega arith) in
      let j = later Costs (omega arith) in
      let k = later Rows (omega arith) in
      rw (e, f, g, i, j, k) refl

  pub same_kind : (j k : Kind) → HasBlock j n m b → HasBlock k n m b → j ≡ k
  same_kind j k p q = sym (is_owner j p) ∙ is_owner k q

  -- a block after the head that the card has is some section's
  pub has_kind : 1 ≤ b → b < blocks_in n m → (kind : Kind) × HasBlock kind n m b
  has_kind some less =
      ⊎_elim
      (λ (h : b < first_of Rows n m). (Curvature, record { from = some; to = h }))
      (λ (a : first_of Rows n m ≤ b).
      ⊎_elim
      (λ (h : b < first_of Costs n m). (Rows, record { from = a; to = h }))
      (λ (c : first_of Costs n m ≤ b).
      ⊎_elim
      (λ (h : b < first_of Bounds n m). (Costs, record { from = c; to = h }))
      (λ (d : first_of Bounds n m ≤ b).
      ⊎_elim
      (λ (h : b < first_of Limits n m). (Bounds, record { from = d; to = h }))
      (λ (e : first_of Limits n m ≤ b).
      ⊎_elim
      (λ (h : b < first_of Slip n m). (Limits, record { from = e; to = h }))
      (λ (f : first_of Slip n m ≤ b). (Slip, record { from = f; to = less }))
      (cases_lt b (first_of Slip n m)))
      (cases_lt b (first_of Limits n m)))
      (cases_lt b (first_of Bounds n m)))
      (cases_lt b (first_of Costs n m)))
      (cases_lt b (first_of Rows n m))
