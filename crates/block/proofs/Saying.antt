-- What a check of a block answers is so, and what is so is answered.
use Rattle.std.proofs.Common.{◌≡◌, ℕ, suc, ◌+◌, ◌-◌, ◌*◌, ◌<◌, ◌≤◌, Bool, true, false, cond, eqb, List, [], ◌∷◌, length, get_or, take, drop, Some, None, Ok, Err, Option, sym, refl, ap, ◌∙◌, subst, inl, inr, ⊎_elim, arith}
use Rattle.std.proofs.lemmas.List.{get_or-take, get_or-drop, length-take, length-drop}
use Rattle.std.proofs.lemmas.Bool.{eqb-true, eqb-false, eq-eqb, cases_lt}
use Rattle.block.specs.declared.fault.Fault.{Fault}
use Rattle.block.specs.Bytes.{le16}
use Rattle.block.specs.Blocks.{check_of}
use Rattle.block.specs.Checks.{Verdict, and_then, first_set, spare_in, no_spare, sum_check, name_check, spare_check, block_check}
use Rattle.block.specs.Laws.{Summed, Named, IsSpare, Clean, FirstSet, FirstSpare, Says, Rightly}
use Rattle.block.proofs.FirstSet.{spare_ok}

-- j is the first byte of the list that is set, where the list's first byte is byte k
record First (k j : ℕ) (xs : List ℕ) : Type 0 where
  from : k ≤ j
  to : j < k + length xs
  set : get_or xs (j - k) 0 ≡ 0 → ⊥
  clear : (i : ℕ) → k ≤ i → i < j → get_or xs (i - k) 0 ≡ 0

none_is : (k : ℕ) (xs : List ℕ) → first_set k xs ≡ None → (i : ℕ) → k ≤ i → i < k + length xs → get_or xs (i - k) 0 ≡ 0
none_is k [] e i low high = absurd (omega arith)
none_is k (x ∷ xs) e i low high = by_test (eqb x 0) refl e (none_is (k + 1) xs) where
  by_test : (t : Bool) → t ≡ eqb x 0 → cond t (first_set (k + 1) xs) (Some k) ≡ None
      → (first_set (k + 1) xs ≡ None → (i : ℕ) → k + 1 ≤ i → i < k + 1 + length xs → get_or xs (i - (k + 1)) 0 ≡ 0) → get_or (x ∷ xs) (i - k) 0 ≡ 0
  by_test true p q rest =
      ⊎_elim
      (λ (here : i < k + 1). let at : i - k ≡ 0 = omega arith in ap (λ n. get_or (x ∷ xs) n 0) at ∙ eqb-true x 0 (sym p))
      (λ (later : k + 1 ≤ i). let at : i - k ≡ suc (i - (k + 1)) = omega arith in ap (λ n. get_or (x ∷ xs) n 0) at ∙ rest q i later (omega arith))
      (cases_lt i (k + 1))
  by_test false p q rest = let z : ◌≡◌ {A = ℕ} 0 1 = cc in absurd (omega arith)

some_is : (k j : ℕ) (xs : List ℕ) → first_set k xs ≡ Some j → First k j xs
some_is k j [] e = let z : ◌≡◌ {A = ℕ} 0 1 = cc in absurd (omega arith)
some_is k j (x ∷ xs) e = by_test (eqb x 0) refl e (some_is (k + 1) j xs) where
  later_first : x ≡ 0 → First (k + 1) j xs → First k j (x ∷ xs)
  later_first zero f =
      let low : k + 1 ≤ j = f.from in
      let high : j < k + 1 + length xs = f.to in
      let at : j - k ≡ suc (j - (k + 1)) = omega arith in
      record {
        from = omega arith;
        to = omega arith;
        set = λ e. f.set (sym (ap (λ n. get_or (x ∷ xs) n 0) at) ∙ e);
        clear = λ i l h.
            ⊎_elim
            (λ (here : i < k + 1). let same : i - k ≡ 0 = omega arith in ap (λ n. get_or (x ∷ xs) n 0) same ∙ zero)
            (λ (later : k + 1 ≤ i). let same : i - k ≡ suc (i - (k + 1)) = omega arith in ap (λ n. get_or (x ∷ xs) n 0) same ∙ f.clear i later h)
            (cases_lt i (k + 1));
      }

  here_first : (x ≡ 0 → ⊥) → k ≡ j → First k j (x ∷ xs)
  here_first ne same =
      let at : j - k ≡ 0 = omega arith in
      record {
        from = omega arith;
        to = omega arith;
        set = λ e. ne (sym (ap (λ n. get_or (x ∷ xs) n 0) at) ∙ e);
        clear = λ i l h. absurd (omega arith);
      }

  by_test : (t : Bool) → t ≡ eqb x 0 → cond t (first_set (k + 1) xs) (Some k) ≡ Some j → (first_set (k + 1) xs ≡ Some j → First (k + 1) j xs) → First k j (x ∷ xs)
  by_test true p q rest = later_first (eqb-true x 0 (sym p)) (rest q)
  by_test false p q rest = here_first (eqb-false x 0 (sym p)) (cc)

pub differ : (a b : ℕ) → (a ≡ b → ⊥) → eqb a b ≡ false
differ a b apart = by_test (eqb a b) refl where
  by_test : (t : Bool) → t ≡ eqb a b → t ≡ false
  by_test false p = refl
  by_test true p = absurd (apart (eqb-true a b (sym p)))

module _ (block : List ℕ) (number used : ℕ) (long : length block ≡ 512) where
  from : ℕ
  from = 4 + used * 4

  tail : List ℕ
  tail = drop (4 + used * 4) (take 510 block)

  length_tail : length tail ≡ 510 - from
  unfolding tail from
  length_tail = simp (length-drop, length-take) (omega arith)

  -- a byte of the tail is that byte of the block
  tail_at : (i : ℕ) → from ≤ i → i < 510 → get_or tail (i - from) 0 ≡ get_or block i 0
  unfolding tail from
  tail_at i low high =
      let at : 4 + used * 4 + (i - (4 + used * 4)) ≡ i = omega arith in
      get_or-drop (4 + used * 4) (take 510 block) (i - (4 + used * 4)) 0 ∙ (ap (λ n. get_or (take 510 block) n 0) at ∙ get_or-take 510 block i 0 high)

  spare_clean : spare_in block used ≡ None → (k : ℕ) → IsSpare used k → get_or block k 0 ≡ 0
  unfolding tail from
  spare_clean e k spare = by_test (eqb (get_or block 1 0) 0) refl e where
    by_test : (t : Bool) → t ≡ eqb (get_or block 1 0) 0 → cond t (first_set from tail) (Some 1) ≡ None → get_or block k 0 ≡ 0
    by_test true p q =
        ⊎_elim
        (λ (one : k ≡ 1). ap (λ n. get_or block n 0) one ∙ eqb-true (get_or block 1 0) 0 (sym p))
        (λ (within : (4 + used * 4 ≤ k) × (k < 510)).
        sym (tail_at k within.0 within.1) ∙ none_is from tail q k within.0 (omega (arith, length_tail, within.0, within.1)))
        spare
    by_test false p q = let z : ◌≡◌ {A = ℕ} 0 1 = cc in absurd (omega arith)

  spare_earliest : (k : ℕ) → spare_in block used ≡ Some k → FirstSet block used k
  unfolding tail from
  spare_earliest k e = by_test (eqb (get_or block 1 0) 0) refl e where
    late : get_or block 1 0 ≡ 0 → First from k tail → FirstSet block used k
    late zero f =
        let low : from ≤ k = f.from in
        let high : k < 510 = omega (arith, f.to, length_tail) in
        record {
          spare = inr (low, high);
          set = λ z. f.set (tail_at k low high ∙ z);
          first = λ i less spare.
              ⊎_elim
              (λ (one : i ≡ 1). ap (λ n. get_or block n 0) one ∙ zero)
              (λ (within : (4 + used * 4 ≤ i) × (i < 510)). sym (tail_at i within.0 within.1) ∙ f.clear i within.0 less)
              spare;
        }

    early : (get_or block 1 0 ≡ 0 → ⊥) → 1 ≡ k → FirstSet block used k
    early ne one =
        record {
          spare = inl (sym one);
          set = λ z. ne (ap (λ n. get_or block n 0) one ∙ z);
          first = λ i less spare. absurd (⊎_elim (λ (same : i ≡ 1). omega arith) (λ (within : (4 + used * 4 ≤ i) × (i < 510)). omega (arith, within.0)) spare);
        }

    by_test : (t : Bool) → t ≡ eqb (get_or block 1 0) 0 → cond t (first_set from tail) (Some 1) ≡ Some k → FirstSet block used k
    by_test true p q = late (eqb-true (get_or block 1 0) 0 (sym p)) (some_is from k tail q)
    by_test false p q = early (eqb-false (get_or block 1 0) 0 (sym p)) (cc)

  refused_some : (o : Option ℕ) (k : ℕ) → no_spare number o ≡ Err (Fault.Spare number k) → o ≡ Some k
  refused_some None k e = let z : ◌≡◌ {A = ℕ} 0 1 = cc in absurd (omega arith)
  refused_some (Some j) k e = let same : j ≡ k = cc in ap Some same

  -- the spare byte that is named is the first that is set, and where none is named, all are 0
  pub spare_law : FirstSpare block number used (spare_check block number used)
  spare_law =
      let at : (k : ℕ) → spare_check block number used ≡ Err (Fault.Spare number k) → FirstSet block used k = λ k e. spare_earliest k (refused_some (spare_in block used) k e) in
      record {
        clean = λ e. spare_clean (spare_ok number (spare_in block used) e);
        spare = λ k e. (at k e).spare;
        set = λ k e. (at k e).set;
        first = λ k e. (at k e).first;
      }

  -- no spare byte is found where all are 0
  none_of : (o : Option ℕ) → spare_in block used ≡ o → Clean block used → spare_in block used ≡ None
  none_of None e clean = e
  none_of (Some j) e clean = let f = spare_earliest j e in absurd (f.set (clean j f.spare))

  -- the first spare byte that is set is found
  first_of : (o : Option ℕ) (k : ℕ) → spare_in block used ≡ o → FirstSet block used k → spare_in block used ≡ Some k
  first_of None k e first = absurd (first.set (spare_clean e k first.spare))
  first_of (Some j) k e first =
      let f = spare_earliest j e in
      ⊎_elim
      (λ (less : j < k). absurd (f.set (first.first j less f.spare)))
      (λ (more : k ≤ j).
      ⊎_elim
      (λ (past : k < j). absurd (first.set (f.first k past first.spare)))
      (λ (least : j ≤ k). let same : j ≡ k = omega arith in e ∙ ap Some same)
      (cases_lt k j))
      (cases_lt j k)

  module _ (letter : ℕ) where
    named_or : Bool → Bool → Verdict
    named_or t u = cond t (cond u (Ok tt) (Err (Fault.Name number))) (Err (Fault.Name number))

    -- what the check answers is so
    pub says : Says block letter number used (block_check block letter number used)
    says = by_sum (eqb (le16 block 510) (check_of block)) refl where
      by_spare : Summed block → Named block letter number → (o : Option ℕ) → spare_in block used ≡ o → Says block letter number used (no_spare number o)
      by_spare s n None e = (s, n, spare_clean e)
      by_spare s n (Some k) e = (refl, s, n, spare_earliest k e)

      by_number : Summed block → get_or block 0 0 ≡ letter → (u : Bool) → u ≡ eqb (le16 block 2) number
          → Says block letter number used (and_then (cond u (Ok tt) (Err (Fault.Name number))) (spare_check block number used))
      by_number s l true p = by_spare s (l, eqb-true _ _ (sym p)) (spare_in block used) refl
      by_number s l false p = (refl, s, λ n. eqb-false _ _ (sym p) n.1)

      by_letter : Summed block → (t : Bool) → t ≡ eqb (get_or block 0 0) letter
          → Says block letter number used (and_then (cond t (cond (eqb (le16 block 2) number) (Ok tt) (Err (Fault.Name number))) (Err (Fault.Name number))) (spare_check block number used))
      by_letter s true p = by_number s (eqb-true _ _ (sym p)) (eqb (le16 block 2) number) refl
      by_letter s false p = (refl, s, λ n. eqb-false _ _ (sym p) n.0)

      by_sum : (t : Bool) → t ≡ eqb (le16 block 510) (check_of block)
          → Says block letter number used (and_then (cond t (Ok tt) (Err (Fault.CheckSum number))) (and_then (name_check block letter number) (spare_check block number used)))
      by_sum true p = by_letter (eqb-true _ _ (sym p)) (eqb (get_or block 0 0) letter) refl
      by_sum false p = (refl, eqb-false _ _ (sym p))

    pub summed : Summed block → sum_check block number ≡ Ok tt
    summed s = ap (λ t. cond t (Ok tt) (Err (Fault.CheckSum number))) (eq-eqb _ _ s)

    pub missummed : (Summed block → ⊥) → sum_check block number ≡ Err (Fault.CheckSum number)
    missummed wrong = ap (λ t. cond t (Ok tt) (Err (Fault.CheckSum number))) (differ (le16 block 510) (check_of block) wrong)

    pub named : Named block letter number → name_check block letter number ≡ Ok tt
    unfolding named_or
    named n = ap (λ t. named_or t (eqb (le16 block 2) number)) (eq-eqb _ _ n.0) ∙ ap (λ u. named_or true u) (eq-eqb _ _ n.1)

    pub misnamed : (Named block letter number → ⊥) → name_check block letter number ≡ Err (Fault.Name number)
    unfolding named_or
    misnamed wrong = by_letter (eqb (get_or block 0 0) letter) (eqb (le16 block 2) number) refl refl where
      by_letter : (t u : Bool) → t ≡ eqb (get_or block 0 0) letter → u ≡ eqb (le16 block 2) number → named_or t u ≡ Err (Fault.Name number)
      by_letter true true p q = absurd (wrong (eqb-true _ _ (sym p), eqb-true _ _ (sym q)))
      by_letter true false p q = refl
      by_letter false u p q = refl

    after_sum : Summed block → (v : Verdict) → and_then (sum_check block number) v ≡ v
    after_sum s v = ap (λ a. and_then a v) (summed s)

    after_name : Named block letter number → (v : Verdict) → and_then (name_check block letter number) v ≡ v
    after_name n v = ap (λ a. and_then a v) (named n)

    rest : Verdict
    rest = and_then (name_check block letter number) (spare_check block number used)

    -- what is so is answered
    pub said : (v : Verdict) → Says block letter number used v → block_check block letter number used ≡ v
    unfolding named_or rest
    said (Ok u) (s, n, clean) =
        after_sum s rest ∙ (after_name n (spare_check block number used) ∙ ap (no_spare number) (none_of (spare_in block used) refl clean))
    said (Err (Fault.CheckSum b)) (e, wrong) =
        ap (λ a. and_then a rest) (missummed wrong) ∙ ap (λ k. Err (Fault.CheckSum k)) (sym e)
    said (Err (Fault.Name b)) (e, s, wrong) =
        after_sum s rest ∙ (ap (λ a. and_then a (spare_check block number used)) (misnamed wrong) ∙ ap (λ k. Err (Fault.Name k)) (sym e))
    said (Err (Fault.Spare b k)) (e, s, n, first) =
        after_sum s rest ∙ (after_name n (spare_check block number used)
        ∙ (ap (no_spare number) (first_of (spare_in block used) k refl first) ∙ ap (λ j. Err (Fault.Spare j k)) (sym e)))
    said (Err (Fault.Length n)) never = absurd never
    said (Err (Fault.Sizes n)) never = absurd never
    said (Err (Fault.Short n)) never = absurd never

    pub rightly : (v : Verdict) → v ≡ block_check block letter number used → Rightly (Says block letter number used) v
    rightly v e w = (λ f. subst (Says block letter number used) (sym e ∙ f) says, λ s. e ∙ said w s)
