-- A card that is made of sizes and numbers passes, and its numbers are read back.
use Rattle.std.proofs.Common.{◌≡◌, ℕ, zero, suc, ◌+◌, ◌-◌, ◌*◌, ◌%◌, ◌<◌, ◌≤◌, min, true, cond, ◌&&◌, eqb, leb, List, [], ◌∷◌, ◌++◌, length, get_or, take, drop, ℤ, pos, nat_abs, Some, Ok, Err, sym, refl, ap, ◌∙◌, subst, ⊎_elim, arith, w32, SFits}
use Rattle.std.proofs.lemmas.Nat.{mul-le}
use Rattle.std.proofs.lemmas.List.{take-append-drop, drop-drop, take_at, drop_at, length-take, length-drop, length-append, append_assoc, append-nil, get_or-take, get_or-drop}
use Rattle.std.proofs.lemmas.Bool.{cases_lt, eq-eqb, le-leb, and_from}
use Rattle.block.specs.declared.fault.Fault.{Fault}
use Rattle.block.specs.Bytes.{le16, num}
use Rattle.block.specs.Blocks.{check_of, block_at, block_of, numbers_of, Fit}
use Rattle.block.specs.Checks.{Verdict, and_then, first_set, no_spare, sum_check, name_check, spare_check, block_check}
use Rattle.block.proofs.Laying.{length_block, length_part}
use Rattle.block.proofs.RoundTrip.{passes, block_passed, block_read}
use Rattle.block.specs.declared.kind.Kind.{Kind}
use Rattle.block.specs.declared.kind.Kind.TheVariants.{Head, Curvature, Rows, Costs, Bounds, Limits, Slip}
use Rattle.block.specs.Kinds.{letter_of}
use Rattle.section.specs.Layout.{InRange, blocks_for, count_of, first_of, blocks_in}
use Rattle.card.specs.Faults.{n_of, m_of, in_size, size_check, head_check, length_check, full_check, run_check, section_check, sections_check, card_check}
use Rattle.card.specs.Cards.{laid, section_of, head_of, card_of}
use Rattle.section.specs.Numbers.{numbers_from, numbers_in}
use Rattle.card.specs.Laws.{Proper, Reads}
use Rattle.section.proofs.Spots.{num_of}
use Rattle.card.proofs.Laying.{length_laid}

fit_take : (nums : List ℤ) → Fit nums → Fit (take 126 nums)
fit_take nums f k h =
    let a : length (take 126 nums) ≡ min 126 (length nums) = length-take 126 nums in
    let less : k < 126 = omega arith in
    let in_all : k < length nums = omega arith in
    rw (get_or-take 126 nums k (pos 0) less) (f k in_all)

fit_drop : (nums : List ℤ) → Fit nums → Fit (drop 126 nums)
fit_drop nums f k h =
    let a : length (drop 126 nums) ≡ length nums - 126 = length-drop 126 nums in
    let in_all : 126 + k < length nums = omega arith in
    rw (get_or-drop 126 nums k (pos 0)) (f (126 + k) in_all)

pub run_passes : (card : List ℕ) (letter k : ℕ) (nums : List ℤ) (left b : ℕ) (rest : List ℕ) → left ≡ length nums → b ≡ blocks_for left → k + b ≤ 65536 → Fit nums
    → drop (k * 512) card ≡ laid letter k nums b ++ rest
    → (run_check card letter k left b ≡ Ok tt) × (numbers_from card k left b ≡ nums)
run_passes card letter k nums left zero rest l e small fit d =
    let none : length nums ≡ 0 = omega arith in
    (refl, sym (empty nums none)) where
      empty : (xs : List ℤ) → length xs ≡ 0 → xs ≡ []
      empty [] h = refl
      empty (x ∷ xs) h = absurd (omega arith)
run_passes card letter k nums left (suc b) rest l e small fit d =
    let P : List ℤ = take 126 nums in
    let B : List ℕ = block_of letter k P in
    let L : List ℕ = laid letter (k + 1) (drop 126 nums) b in
    let lp : length P ≡ min left 126 = length-take 126 nums ∙ (let x : min 126 (length nums) ≡ min left 126 = omega arith in x) in
    let short : length P ≤ 126 = length_part nums in
    let lb : length B ≡ 512 = length_block letter k P short in
    let d' : drop (k * 512) card ≡ B ++ (L ++ rest) = d ∙ append_assoc B L rest in
    let here : block_at card k ≡ B = ap (take 512) d' ∙ take_at B (L ++ rest) 512 lb in
    let next : k * 512 + 512 ≡ (k + 1) * 512 = omega arith in
    let on : drop ((k + 1) * 512) card ≡ L ++ rest = sym (drop-drop 512 (k * 512) card ∙ ap (λ n. drop n card) next) ∙ (ap (drop 512) d' ∙ drop_at B (L ++ rest) 512 lb) in
    let ld : left - 126 ≡ length (drop 126 nums) = (let x : left - 126 ≡ length nums - 126 = omega arith in x) ∙ sym (length-drop 126 nums) in
    let tail = run_passes card letter (k + 1) (drop 126 nums) (left - 126) b rest ld (omega arith) (omega arith) (fit_drop nums fit) on in
    let hk : k < 65536 = omega arith in
    let okB : block_check (block_at card k) letter k (min left 126) ≡ Ok tt
    = ap (λ x. block_check x letter k (min left 126)) here ∙ (ap (block_check B letter k) (sym lp) ∙ passes B letter k (length P) (block_passed letter k P hk short)) in
    let nums-here : numbers_of (block_at card k) (min left 126) ≡ P
    = ap (λ x. numbers_of x (min left 126)) here ∙ (ap (numbers_of B) (sym lp) ∙ block_read letter k P hk short (fit_take nums fit)) in (
      ap (λ v. and_then v (run_check card letter (k + 1) (left - 126) b)) okB ∙ tail.0,
      ap (λ x. x ++ numbers_from card (k + 1) (left - 126) b) nums-here ∙ (ap (λ y. P ++ y) tail.1 ∙ take-append-drop 126 nums),
    )

both_ok : (a b : Verdict) → a ≡ Ok tt → b ≡ Ok tt → and_then a b ≡ Ok tt
both_ok a b e f = ap (λ v. and_then v b) e ∙ f

length_section : (n m : ℕ) (nums : Kind → List ℤ) (kind : Kind) → length (section_of n m nums kind) ≡ blocks_for (count_of kind n m) * 512
unfolding section_of
length_section n m nums kind = length_laid (letter_of kind) (first_of kind n m) (nums kind) (blocks_for (count_of kind n m))

-- past a section stands what follows it
past : (card : List ℕ) (n m : ℕ) (nums : Kind → List ℤ) (kind : Kind) (rest : List ℕ) (r : ℕ) → drop (first_of kind n m * 512) card ≡ section_of n m nums kind ++ rest
    → first_of kind n m * 512 + blocks_for (count_of kind n m) * 512 ≡ r → drop r card ≡ rest
past card n m nums kind rest r d e =
    ap (λ k. drop k card) (sym e)
    ∙ (sym (drop-drop (blocks_for (count_of kind n m) * 512) (first_of kind n m * 512) card)
    ∙ (ap (drop (blocks_for (count_of kind n m) * 512)) d ∙ drop_at (section_of n m nums kind) rest (blocks_for (count_of kind n m) * 512) (length_section n m nums kind)))

section_passes : (card : List ℕ) (n m : ℕ) (nums : Kind → List ℤ) (kind : Kind) (rest : List ℕ) → length (nums kind) ≡ count_of kind n m → first_of kind n m + blocks_for (count_of kind n m) ≤ 65536 → Fit (nums kind)
    → drop (first_of kind n m * 512) card ≡ section_of n m nums kind ++ rest → (section_check card kind n m ≡ Ok tt) × (numbers_in card n m kind ≡ nums kind)
unfolding section_check section_of numbers_in
section_passes card n m nums kind rest l small fit d =
    run_passes card (letter_of kind) (first_of kind n m) (nums kind) (count_of kind n m) (blocks_for (count_of kind n m)) rest (sym l) refl small fit d

-- what a head that is written gives
module _ (n m : ℕ) (sizes : InRange n m) where
  few : n ≤ 16
  few = sizes.few

  short : m ≤ 32
  short = sizes.short

  nums_head : List ℤ
  nums_head = pos n ∷ pos m ∷ []

  fits_head : Fit (pos n ∷ pos m ∷ [])
  fits_head k h =
      ⊎_elim
      (λ (first : k < 1). let at : k ≡ 0 = omega arith in subst (λ i. SFits w32 (get_or (pos n ∷ pos m ∷ []) i (pos 0))) (sym at) (record { sfits = omega (arith, sizes.few) }))
      (λ (second : 1 ≤ k). let at : k ≡ 1 = omega arith in subst (λ i. SFits w32 (get_or (pos n ∷ pos m ∷ []) i (pos 0))) (sym at) (record { sfits = omega (arith, sizes.short) }))
      (cases_lt k 1)

  pub head_read : numbers_of (head_of n m) 2 ≡ pos n ∷ pos m ∷ []
  head_read = block_read 72 0 (pos n ∷ pos m ∷ []) (omega arith) (omega arith) fits_head

  pub head_n : num (head_of n m) 4 ≡ pos n
  unfolding numbers_of
  head_n = ap (λ (xs : List ℤ). get_or xs 0 (pos 0)) head_read

  pub head_m : num (head_of n m) 8 ≡ pos m
  unfolding numbers_of
  head_m = ap (λ (xs : List ℤ). get_or xs 1 (pos 0)) head_read

  at_most : blocks_in n m ≤ 15
  at_most =
      let p : n * n ≤ 256 = mul-le n n 16 16 sizes.few sizes.few in
      let q : m * n ≤ 512 = mul-le m n 32 16 sizes.short sizes.few in
      omega (arith, sizes.few, sizes.short)

  pub sizes_pass : in_size (pos n) (pos m) ≡ true
  sizes_pass =
      and_from (leb 1 n && leb n 16) (leb 0 m && leb m 32)
      (and_from (leb 1 n) (leb n 16) (le-leb 1 n sizes.some) (le-leb n 16 sizes.few))
      (and_from (leb 0 m) (leb m 32) (le-leb 0 m (omega arith)) (le-leb m 32 sizes.short))

  -- a card that begins with the head
  module _ (K : List ℕ) (hd : block_at K 0 ≡ head_of n m) where
    pub card_n : num K 4 ≡ pos n
    card_n = sym (num_of K 512 0 4 4 (omega arith) refl) ∙ (ap (λ b. num b 4) hd ∙ head_n)

    pub card_m : num K 8 ≡ pos m
    card_m = sym (num_of K 512 0 8 8 (omega arith) refl) ∙ (ap (λ b. num b 8) hd ∙ head_m)

    head_passes : head_check K ≡ Ok tt
    head_passes =
        let p = block_passed 72 0 (pos n ∷ pos m ∷ []) (omega arith) (omega arith) in
        let B : List ℕ = head_of n m in
        let a : sum_check B 0 ≡ Ok tt = ap (λ t. cond t (Ok tt) (Err (Fault.CheckSum 0))) (eq-eqb (le16 B 510) (check_of B) p.sum_is) in
        let b : name_check B 72 0 ≡ Ok tt
        = ap (λ t. cond t (cond (eqb (le16 B 2) 0) (Ok tt) (Err (Fault.Name 0))) (Err (Fault.Name 0))) (eq-eqb (get_or B 0 0) 72 p.letter_is)
        ∙ ap (λ t. cond t (Ok tt) (Err (Fault.Name 0))) (eq-eqb (le16 B 2) 0 p.number_is) in
        let c : size_check K ≡ Ok tt = ap (λ z. cond (in_size z (num K 8)) (Ok tt) (Err (Fault.Sizes 0))) card_n
        ∙ (ap (λ z. cond (in_size (pos n) z) (Ok tt) (Err (Fault.Sizes 0))) card_m ∙ ap (λ t. cond t (Ok tt) (Err (Fault.Sizes 0))) sizes_pass) in
        let d : spare_check B 0 2 ≡ Ok tt
        = ap (no_spare 0) (ap (λ t. cond t (first_set 12 (drop 12 (take 510 B))) (Some 1)) (eq-eqb (get_or B 1 0) 0 p.second_is) ∙ p.rest_is) in
        ap (λ h. and_then (sum_check h 0) (and_then (name_check h 72 0) (and_then (size_check K) (spare_check h 0 2)))) hd
        ∙ both_ok (sum_check B 0) (and_then (name_check B 72 0) (and_then (size_check K) (spare_check B 0 2))) a
        (both_ok (name_check B 72 0) (and_then (size_check K) (spare_check B 0 2)) b (both_ok (size_check K) (spare_check B 0 2) c d))

    whole : ((kind : Kind) → section_check K kind n m ≡ Ok tt) → length K ≡ blocks_in n m * 512 → card_check K ≡ Ok tt
    whole ok long =
        let most = at_most in
        let least : 1 ≤ blocks_in n m = omega arith in
        let o : Kind → Verdict = λ kind. section_check K kind n m in
        let G : ℕ → ℕ → Verdict = λ x y. and_then (full_check (length K) x y) (sections_check K x y) in
        let okS : sections_check K n m ≡ Ok tt
        = both_ok (o Curvature) (and_then (o Rows) (and_then (o Costs) (and_then (o Bounds) (and_then (o Limits) (o Slip))))) (ok Curvature)
        (both_ok (o Rows) (and_then (o Costs) (and_then (o Bounds) (and_then (o Limits) (o Slip)))) (ok Rows)
        (both_ok (o Costs) (and_then (o Bounds) (and_then (o Limits) (o Slip))) (ok Costs)
        (both_ok (o Bounds) (and_then (o Limits) (o Slip)) (ok Bounds) (both_ok (o Limits) (o Slip) (ok Limits) (ok Slip))))) in
        let okF : full_check (length K) n m ≡ Ok tt = ap (λ t. cond t (Ok tt) (Err (Fault.Length (length K)))) (eq-eqb (length K) (blocks_in n m * 512) long) in
        let low : 512 ≤ length K = omega arith in
        let high : length K ≤ 7680 = omega arith in
        let even : length K % 512 ≡ 0 = ap (λ t. t % 512) long ∙ omega arith in
        let okL : length_check (length K) ≡ Ok tt
        = ap (λ t. cond t (Ok tt) (Err (Fault.Length (length K))))
        (and_from (leb 512 (length K)) (leb (length K) 7680 && eqb (length K % 512) 0) (le-leb 512 (length K) low)
        (and_from (leb (length K) 7680) (eqb (length K % 512) 0) (le-leb (length K) 7680 high) (eq-eqb (length K % 512) 0 even))) in
        let okG : G (n_of K) (m_of K) ≡ Ok tt
        = ap (λ x. G (nat_abs x) (m_of K)) card_n ∙ (ap (λ x. G n (nat_abs x)) card_m ∙ both_ok (full_check (length K) n m) (sections_check K n m) okF okS) in
        both_ok (length_check (length K)) (and_then (head_check K) (G (n_of K) (m_of K))) okL
        (both_ok (head_check K) (G (n_of K) (m_of K)) head_passes okG)

  module _ (nums : Kind → List ℤ) (proper : Proper n m nums) where
    -- what follows a section on a written card
    follows : Kind → List ℕ
    follows Head =
        section_of n m nums Curvature ++ (section_of n m nums Rows ++ (section_of n m nums Costs ++ (section_of n m nums Bounds ++ (section_of n m nums Limits ++ section_of n m nums Slip))))
    follows Curvature = section_of n m nums Rows ++ (section_of n m nums Costs ++ (section_of n m nums Bounds ++ (section_of n m nums Limits ++ section_of n m nums Slip)))
    follows Rows = section_of n m nums Costs ++ (section_of n m nums Bounds ++ (section_of n m nums Limits ++ section_of n m nums Slip))
    follows Costs = section_of n m nums Bounds ++ (section_of n m nums Limits ++ section_of n m nums Slip)
    follows Bounds = section_of n m nums Limits ++ section_of n m nums Slip
    follows Limits = section_of n m nums Slip
    follows Slip = []

    pub begins : take 512 (card_of n m nums) ≡ head_of n m
    unfolding card_of follows
    begins = take_at (head_of n m) (follows Head) 512 (length_block 72 0 (pos n ∷ pos m ∷ []) (omega arith))

    pub length_card : length (card_of n m nums) ≡ blocks_in n m * 512
    unfolding card_of follows
    length_card =
        let s : Kind → List ℕ = section_of n m nums in
        let ls = length_section n m nums in
        omega (
          arith,
          length-append (head_of n m) (follows Head),
          length-append (s Curvature) (follows Curvature),
          length-append (s Rows) (follows Rows),
          length-append (s Costs) (follows Costs),
          length-append (s Bounds) (follows Bounds),
          length-append (s Limits) (s Slip),
          length_block 72 0 (pos n ∷ pos m ∷ []) (omega arith),
          ls Curvature,
          ls Rows,
          ls Costs,
          ls Bounds,
          ls Limits,
          ls Slip,
        )

    -- each section stands at its first block; the head's block is a section of its own
    stands_head : drop (first_of Head n m * 512) (card_of n m nums) ≡ section_of n m nums Head ++ follows Head
    unfolding card_of follows section_of
    stands_head = ap (λ b. b ++ follows Head) (sym (append-nil (head_of n m)) ∙ sym (ap (λ xs. block_of 72 0 (take 126 xs) ++ []) proper.head))

    stands_curvature : drop (first_of Curvature n m * 512) (card_of n m nums) ≡ section_of n m nums Curvature ++ follows Curvature
    unfolding card_of follows
    stands_curvature = drop_at (head_of n m) (follows Head) 512 (length_block 72 0 (pos n ∷ pos m ∷ []) (omega arith))

    stands_rows : drop (first_of Rows n m * 512) (card_of n m nums) ≡ section_of n m nums Rows ++ follows Rows
    unfolding follows
    stands_rows = past (card_of n m nums) n m nums Curvature (follows Curvature) (first_of Rows n m * 512) stands_curvature (omega arith)

    stands_costs : drop (first_of Costs n m * 512) (card_of n m nums) ≡ section_of n m nums Costs ++ follows Costs
    unfolding follows
    stands_costs = past (card_of n m nums) n m nums Rows (follows Rows) (first_of Costs n m * 512) stands_rows (omega arith)

    stands_bounds : drop (first_of Bounds n m * 512) (card_of n m nums) ≡ section_of n m nums Bounds ++ follows Bounds
    unfolding follows
    stands_bounds = past (card_of n m nums) n m nums Costs (follows Costs) (first_of Bounds n m * 512) stands_costs (omega arith)

    stands_limits : drop (first_of Limits n m * 512) (card_of n m nums) ≡ section_of n m nums Limits ++ follows Limits
    unfolding follows
    stands_limits = past (card_of n m nums) n m nums Bounds (follows Bounds) (first_of Limits n m * 512) stands_bounds (omega arith)

    stands_slip : drop (first_of Slip n m * 512) (card_of n m nums) ≡ section_of n m nums Slip ++ follows Slip
    unfolding follows
    stands_slip = past (card_of n m nums) n m nums Limits (follows Limits) (first_of Slip n m * 512) stands_limits (omega arith) ∙ sym (append-nil (section_of n m nums Slip))

    stands : (kind : Kind) → drop (first_of kind n m * 512) (card_of n m nums) ≡ section_of n m nums kind ++ follows kind
    stands Head = stands_head
    stands Curvature = stands_curvature
    stands Rows = stands_rows
    stands Costs = stands_costs
    stands Bounds = stands_bounds
    stands Limits = stands_limits
    stands Slip = stands_slip

    near : (kind : Kind) → first_of kind n m + blocks_for (count_of kind n m) ≤ 65536
    near Head = omega arith
    near Curvature = let most = at_most in omega arith
    near Rows = let most = at_most in omega arith
    near Costs = let most = at_most in omega arith
    near Bounds = let most = at_most in omega arith
    near Limits = let most = at_most in omega arith
    near Slip = let most = at_most in omega arith

    pub passing : (kind : Kind) → (section_check (card_of n m nums) kind n m ≡ Ok tt) × (numbers_in (card_of n m nums) n m kind ≡ nums kind)
    passing kind = section_passes (card_of n m nums) n m nums kind (follows kind) (proper.counts kind) (near kind) (proper.fits kind) (stands kind)

    pub card_passes : card_check (card_of n m nums) ≡ Ok tt
    card_passes = whole (card_of n m nums) begins (λ kind. (passing kind).0) length_card

    pub card_reads : Reads (card_of n m nums) n m nums
    card_reads =
        record {
          ropes = ap nat_abs (card_n (card_of n m nums) begins);
          rows = ap nat_abs (card_m (card_of n m nums) begins);
          section = λ kind. (passing kind).1;
        }
