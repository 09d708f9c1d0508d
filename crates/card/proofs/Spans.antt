-- What the check of a span of blocks tells: that each of them passes, or at which of them it stops.
use Rattle.std.proofs.Common.{◌≡◌, ℕ, zero, suc, ◌+◌, ◌-◌, ◌*◌, ◌<◌, ◌≤◌, min, List, Ok, Err, sym, refl, ap, ◌∙◌, subst, ⊎_elim, arith}
use Rattle.std.proofs.lemmas.Bool.{cases_lt}
use Rattle.block.specs.declared.fault.Fault.{Fault}
use Rattle.block.specs.declared.kind.Kind.{Kind}
use Rattle.block.specs.declared.kind.Kind.TheVariants.{Curvature, Rows, Costs, Bounds, Limits, Slip}
use Rattle.block.specs.Blocks.{block_at}
use Rattle.block.specs.Checks.{Verdict, and_then, block_check}
use Rattle.block.specs.Kinds.{letter_of}
use Rattle.section.specs.Layout.{blocks_for, count_of, first_of, blocks_in, HasBlock, used_in}
use Rattle.card.specs.Faults.{run_check, section_check, sections_check}
use Rattle.card.proofs.Owners.{same_kind}

module _ (card : List ℕ) (n m : ℕ) where
  -- the check of block b as one of a section
  abbrev pub checked_as : Kind → ℕ → Verdict
  checked_as kind b = block_check (block_at card b) (letter_of kind) b (used_in kind n m b)

  -- all blocks from `low` up to `high` pass
  abbrev pub AllPass : ℕ → ℕ → Type 0
  AllPass low high = (kind : Kind) (b : ℕ) → HasBlock kind n m b → low ≤ b → b < high → checked_as kind b ≡ Ok tt

  -- one of them has this fault, and those before it pass
  pub record Stops (low high : ℕ) (f : Fault) : Type 0 where
    pub kind : Kind
    pub at : ℕ
    pub has : HasBlock kind n m at
    pub from : low ≤ at
    pub to : at < high
    pub before : AllPass low at
    pub fault : checked_as kind at ≡ Err f

  abbrev pub Span : ℕ → ℕ → Verdict → Type 0
  Span low high (Ok u) = AllPass low high
  Span low high (Err f) = Stops low high f

  both_pass : (low mid high : ℕ) → AllPass low mid → AllPass mid high → AllPass low high
  both_pass low mid high p q kind b has from to =
      ⊎_elim (λ (less : b < mid). p kind b has from less) (λ (more : mid ≤ b). q kind b has more to) (cases_lt b mid)

  -- two spans, one after the other
  span_join : (low mid high : ℕ) (v w : Verdict) → low ≤ mid → mid ≤ high → Span low mid v → Span mid high w → Span low high (and_then v w)
  span_join low mid high (Ok u) (Ok t) h k p q = both_pass low mid high p q
  span_join low mid high (Ok u) (Err f) h k p q =
      let from = q.from in
      record { kind = q.kind; at = q.at; has = q.has; from = omega arith; to = q.to; before = both_pass low mid q.at p q.before; fault = q.fault }
  span_join low mid high (Err f) w h k p q =
      let to = p.to in
      record { kind = p.kind; at = p.at; has = p.has; from = p.from; to = omega arith; before = p.before; fault = p.fault }

  -- the span of one block
  span_one : (kind : Kind) (b : ℕ) → HasBlock kind n m b → (v : Verdict) → checked_as kind b ≡ v → Span b (b + 1) v
  span_one kind b has (Ok u) e = λ k j its from to.
      let here : b ≡ j = omega arith in
      subst (λ (i : ℕ). HasBlock k n m i → checked_as k i ≡ Ok tt) here
      (λ (h : HasBlock k n m b). subst (λ (s : Kind). checked_as s b ≡ Ok tt) (same_kind n m b kind k has h) e) its
  span_one kind b has (Err f) e =
      record { kind = kind; at = b; has = has; from = omega arith; to = omega arith; before = λ k j its from to. absurd (omega arith); fault = e }

  span_run : (kind : Kind) (k left b : ℕ) → first_of kind n m ≤ k → k + b ≡ first_of kind n m + blocks_for (count_of kind n m)
      → left ≡ count_of kind n m - (k - first_of kind n m) * 126 → Span k (k + b) (run_check card (letter_of kind) k left b)
  span_run kind k left zero low end l = λ s j its from to. absurd (omega arith)
  span_run kind k left (suc b) low end l =
      let has : HasBlock kind n m k = record { from = low; to = omega arith } in
      let used : min left 126 ≡ used_in kind n m k = omega arith in
      let v : Verdict = block_check (block_at card k) (letter_of kind) k (min left 126) in
      let w : Verdict = run_check card (letter_of kind) (k + 1) (left - 126) b in
      let one : Span k (k + 1) v = span_one kind k has v (ap (block_check (block_at card k) (letter_of kind) k) (sym used)) in
      let next : k + 1 + b ≡ k + suc b = omega arith in
      let more : Span (k + 1) (k + suc b) w
      = subst (λ (j : ℕ). Span (k + 1) j w) next (span_run kind (k + 1) (left - 126) b (omega arith) (omega arith) (omega arith)) in
      span_join k (k + 1) (k + suc b) v w (omega arith) (omega arith) one more

  span_section : (kind : Kind) → Span (first_of kind n m) (first_of kind n m + blocks_for (count_of kind n m)) (section_check card kind n m)
  unfolding section_check
  span_section kind = span_run kind (first_of kind n m) (count_of kind n m) (blocks_for (count_of kind n m)) (omega arith) refl (omega arith)

  pub span_sections : Span 1 (blocks_in n m) (sections_check card n m)
  span_sections =
      let c : Kind → Verdict = λ kind. section_check card kind n m in
      let slip : Span (first_of Slip n m) (blocks_in n m) (c Slip) = span_section Slip in
      let limits : Span (first_of Limits n m) (blocks_in n m) (and_then (c Limits) (c Slip))
      = span_join (first_of Limits n m) (first_of Slip n m) (blocks_in n m) (c Limits) (c Slip) (omega arith) (omega arith) (span_section Limits) slip in
      let bounds : Span (first_of Bounds n m) (blocks_in n m) (and_then (c Bounds) (and_then (c Limits) (c Slip)))
      = span_join (first_of Bounds n m) (first_of Limits n m) (blocks_in n m) (c Bounds) _ (omega arith) (omega arith) (span_section Bounds) limits in
      let costs : Span (first_of Costs n m) (blocks_in n m) (and_then (c Costs) (and_then (c Bounds) (and_then (c Limits) (c Slip))))
      = span_join (first_of Costs n m) (first_of Bounds n m) (blocks_in n m) (c Costs) _ (omega arith) (omega arith) (span_section Costs) bounds in
      let rows : Span (first_of Rows n m) (blocks_in n m) (and_then (c Rows) (and_then (c Costs) (and_then (c Bounds) (and_then (c Limits) (c Slip)))))
      = span_join (first_of Rows n m) (first_of Costs n m) (blocks_in n m) (c Rows) _ (omega arith) (omega arith) (span_section Rows) costs in
      span_join 1 (first_of Rows n m) (blocks_in n m) (c Curvature) _ (omega arith) (omega arith) (span_section Curvature) rows

  -- where each block passes, the whole span does
  pub all_pass : (v : Verdict) → Span 1 (blocks_in n m) v → AllPass 1 (blocks_in n m) → v ≡ Ok tt
  all_pass (Ok u) s p = refl
  all_pass (Err f) s p = let e : ◌≡◌ {A = Verdict} (Ok tt) (Err f) = sym (p s.kind s.at s.has s.from s.to) ∙ s.fault in let z : ◌≡◌ {A = ℕ} 0 1 = cc in absurd (omega arith)

  -- and where one has a fault, with those before it passing, the span has that fault
  pub stops_there : (v : Verdict) → Span 1 (blocks_in n m) v → (kind : Kind) (b : ℕ) → HasBlock kind n m b → 1 ≤ b → b < blocks_in n m → AllPass 1 b → (f : Fault)
      → checked_as kind b ≡ Err f → v ≡ Err f
  stops_there (Ok u) s kind b has from to before f e =
      let z : ◌≡◌ {A = Verdict} (Ok tt) (Err f) = sym (s kind b has from to) ∙ e in let y : ◌≡◌ {A = ℕ} 0 1 = cc in absurd (omega arith)
  stops_there (Err g) s kind b has from to before f e =
      ⊎_elim
      (λ (less : s.at < b).
      let z : ◌≡◌ {A = Verdict} (Ok tt) (Err g) = sym (before s.kind s.at s.has s.from less) ∙ s.fault in let y : ◌≡◌ {A = ℕ} 0 1 = cc in absurd (omega arith))
      (λ (more : b ≤ s.at).
      ⊎_elim
      (λ (past : b < s.at).
      let z : ◌≡◌ {A = Verdict} (Ok tt) (Err f) = sym (s.before kind b has from past) ∙ e in let y : ◌≡◌ {A = ℕ} 0 1 = cc in absurd (omega arith))
      (λ (same : s.at ≤ b).
      let here : s.at ≡ b = omega arith in
      let its : HasBlock s.kind n m b = subst (HasBlock s.kind n m) here s.has in
      let there : checked_as s.kind b ≡ Err g = ap (checked_as s.kind) (sym here) ∙ s.fault in
      sym there ∙ (ap (λ (k : Kind). checked_as k b) (same_kind n m b s.kind kind its has) ∙ e))
      (cases_lt b s.at))
      (cases_lt s.at b)
