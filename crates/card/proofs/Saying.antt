-- What the check of a card answers is so, and what is so is answered.
use Rattle.std.proofs.Common.{◌≡◌, ℕ, ◌+◌, ◌*◌, ◌/◌, ◌%◌, ◌<◌, ◌≤◌, Bool, true, false, cond, ◌&&◌, eqb, leb, List, length, get_or, ℤ, pos, Ok, Err, inl, inr, sym, refl, ap, ◌∙◌, subst, ⊎_elim, arith}
use lib.Signed.{le_z}
use Rattle.std.proofs.lemmas.List.{length-take, length-drop}
use Rattle.std.proofs.lemmas.Bool.{cases_lt, eqb-true, eqb-false, eq-eqb, leb-true, le-leb, and_parts, and_from, false≢true}
use Rattle.block.specs.declared.fault.Fault.{Fault}
use Rattle.block.specs.declared.kind.Kind.{Kind}
use Rattle.block.specs.declared.kind.Kind.TheVariants.{Head}
use Rattle.block.specs.Bytes.{le16, num}
use Rattle.block.specs.Blocks.{block_at, check_of}
use Rattle.block.specs.Checks.{Verdict, and_then, sum_check, name_check, spare_check}
use Rattle.block.specs.Kinds.{letter_of}
use Rattle.block.specs.Laws.{Summed, Named, Clean, FirstSet, Rightly}
use Rattle.block.specs.Laws as one
use Rattle.block.proofs.Saying.{says, said, summed, missummed, named, misnamed, differ}
use Rattle.section.specs.Layout.{blocks_in, HasBlock, used_in}
use Rattle.card.specs.Faults.{n_of, m_of, in_size, size_check, head_check, full_check, sections_check, card_check}
use Rattle.card.specs.Faulty.{Whole, Full, Sizable, NamedAt, CleanAt, FirstSetAt, BlockPasses, Reached, Says}
use Rattle.card.proofs.Owners.{same_kind, has_kind}
use Rattle.card.proofs.Spans.{checked_as, AllPass, Span, span_sections, all_pass, stops_there}
use Rattle.card.proofs.Whole.{size_is}
use Rattle.card.proofs.Passing.{sizes_pass}

-- a passing answer is none that refuses
apart : (v : Verdict) (f : Fault) → v ≡ Ok tt → v ≡ Err f → ⊥
apart v f p q = let e : ◌≡◌ {A = Verdict} (Ok tt) (Err f) = sym p ∙ q in let z : ◌≡◌ {A = ℕ} 0 1 = cc in absurd (omega arith)

-- the length, as the check tests it
whole_tests : (len : ℕ) → Bool
whole_tests len = leb 512 len && (leb len 7680 && eqb (len % 512) 0)

module _ (card : List ℕ) where
  whole_if : whole_tests (length card) ≡ true → Whole card
  unfolding whole_tests
  whole_if e =
      let p = and_parts (leb 512 (length card)) (leb (length card) 7680 && eqb (length card % 512) 0) e in
      let q = and_parts (leb (length card) 7680) (eqb (length card % 512) 0) p.1 in
      let low = leb-true 512 (length card) p.0 in
      let high = leb-true (length card) 7680 q.0 in
      let even : length card % 512 ≡ 0 = eqb-true (length card % 512) 0 q.1 in
      (length card / 512, omega arith, omega arith, omega (arith, even))

  whole_test : Whole card → whole_tests (length card) ≡ true
  unfolding whole_tests
  whole_test w =
      let some : 1 ≤ w.0 = w.1 in
      let few : w.0 ≤ 15 = w.2 in
      let long : length card ≡ w.0 * 512 = w.3 in
      let even : length card % 512 ≡ 0 = ap (λ (k : ℕ). k % 512) long ∙ omega arith in
      and_from (leb 512 (length card)) (leb (length card) 7680 && eqb (length card % 512) 0) (le-leb 512 (length card) (omega arith))
      (and_from (leb (length card) 7680) (eqb (length card % 512) 0) (le-leb (length card) 7680 (omega arith)) (eq-eqb (length card % 512) 0 even))

  -- the sizes, as the check tests them
  sizable : in_size (num card 4) (num card 8) ≡ true → Sizable card
  sizable e =
      let p = and_parts (le_z (pos 1) (num card 4) && le_z (num card 4) (pos 16)) (le_z (pos 0) (num card 8) && le_z (num card 8) (pos 32)) e in
      let q = and_parts (le_z (pos 1) (num card 4)) (le_z (num card 4) (pos 16)) p.0 in
      let r = and_parts (le_z (pos 0) (num card 8)) (le_z (num card 8) (pos 32)) p.1 in
      let ropes : pos (n_of card) ≡ num card 4 = size_is 1 (num card 4) q.0 in
      let rows : pos (m_of card) ≡ num card 8 = size_is 0 (num card 8) r.0 in
      record {
        ropes = sym ropes;
        rows = sym rows;
        range = record {
          some = leb-true 1 (n_of card) (ap (le_z (pos 1)) ropes ∙ q.0);
          few = leb-true (n_of card) 16 (ap (λ z. le_z z (pos 16)) ropes ∙ q.1);
          short = leb-true (m_of card) 32 (ap (λ z. le_z z (pos 32)) rows ∙ r.1);
        };
      }

  size_test : Sizable card → in_size (num card 4) (num card 8) ≡ true
  size_test s =
      ap (λ (z : ℤ). in_size z (num card 8)) s.ropes ∙ (ap (λ (z : ℤ). in_size (pos (n_of card)) z) s.rows ∙ sizes_pass (n_of card) (m_of card) s.range)

  block_long : (b : ℕ) → b * 512 + 512 ≤ length card → length (block_at card b) ≡ 512
  block_long b room = simp (length-take, length-drop) (omega arith)

  -- one block that the card has, under the section that it belongs to
  module _ (b : ℕ) (room : b * 512 + 512 ≤ length card) (kind : Kind) (has : HasBlock kind (n_of card) (m_of card) b) where
    abbrev Tells : Verdict → Type 0
    Tells v = one.Says (block_at card b) (letter_of kind) b (used_in kind (n_of card) (m_of card) b) v

    tells : (v : Verdict) → checked_as card (n_of card) (m_of card) kind b ≡ v → Tells v
    tells v e = subst (λ w. one.Says (block_at card b) (letter_of kind) b (used_in kind (n_of card) (m_of card) b) w) e
        (says (block_at card b) b (used_in kind (n_of card) (m_of card) b) (block_long b room) (letter_of kind))

    told : (v : Verdict) → Tells v → checked_as card (n_of card) (m_of card) kind b ≡ v
    told v t = said (block_at card b) b (used_in kind (n_of card) (m_of card) b) (block_long b room) (letter_of kind) v t

    named_all : Named (block_at card b) (letter_of kind) b → NamedAt card b
    named_all h k its = subst (λ (s : Kind). Named (block_at card b) (letter_of s) b) (same_kind (n_of card) (m_of card) b kind k has its) h

    clean_all : Clean (block_at card b) (used_in kind (n_of card) (m_of card) b) → CleanAt card b
    clean_all h k its =
        subst (λ (s : Kind). Clean (block_at card b) (used_in s (n_of card) (m_of card) b)) (same_kind (n_of card) (m_of card) b kind k has its) h

    first_all : (i : ℕ) → FirstSet (block_at card b) (used_in kind (n_of card) (m_of card) b) i → FirstSetAt card b i
    first_all i h k its =
        subst (λ (s : Kind). FirstSet (block_at card b) (used_in s (n_of card) (m_of card) b) i) (same_kind (n_of card) (m_of card) b kind k has its) h

    pub block_passes : (b ≡ 0 → Sizable card) → checked_as card (n_of card) (m_of card) kind b ≡ Ok tt → BlockPasses card b
    block_passes sizes e = let t = tells (Ok tt) e in record { summed = t.0; named = named_all t.1; sizes = sizes; clean = clean_all t.2 }

    pub block_ok : BlockPasses card b → checked_as card (n_of card) (m_of card) kind b ≡ Ok tt
    block_ok p = told (Ok tt) (p.summed, p.named kind has, p.clean kind has)

    -- what is wrong with the block is wrong with the card
    pub block_says : (b ≡ 0 → Sizable card) → Reached card b → (f : Fault) → checked_as card (n_of card) (m_of card) kind b ≡ Err f → Says card (Err f)
    block_says sizes reached f e = from f (tells (Err f) e) where
      from : (f : Fault) → Tells (Err f) → Says card (Err f)
      from (Fault.CheckSum c) t = subst (λ (k : ℕ). Says card (Err (Fault.CheckSum k))) (sym t.0) (reached, t.1)
      from (Fault.Name c) t =
          subst (λ (k : ℕ). Says card (Err (Fault.Name k))) (sym t.0) (reached, t.1, λ (all : NamedAt card b). t.2 (all kind has))
      from (Fault.Spare c i) t =
          subst (λ (k : ℕ). Says card (Err (Fault.Spare k i))) (sym t.0) (reached, t.1, named_all t.2, sizes, first_all i t.3)
      from (Fault.Length c) t = absurd t
      from (Fault.Sizes c) t = absurd t
      from (Fault.Short c) t = absurd t

    pub sum_told : (Summed (block_at card b) → ⊥) → checked_as card (n_of card) (m_of card) kind b ≡ Err (Fault.CheckSum b)
    sum_told wrong = told (Err (Fault.CheckSum b)) (refl, wrong)

    pub name_told : Summed (block_at card b) → (NamedAt card b → ⊥) → checked_as card (n_of card) (m_of card) kind b ≡ Err (Fault.Name b)
    name_told s wrong = told (Err (Fault.Name b)) (refl, s, λ (h : Named (block_at card b) (letter_of kind) b). wrong (named_all h))

    pub spare_told : (i : ℕ) → Summed (block_at card b) → NamedAt card b → FirstSetAt card b i → checked_as card (n_of card) (m_of card) kind b ≡ Err (Fault.Spare b i)
    spare_told i s h first = told (Err (Fault.Spare b i)) (refl, s, h kind has, first kind has)

  -- the head is the first block, and what its check finds
  head_has : HasBlock Head (n_of card) (m_of card) 0
  head_has = record { from = omega arith; to = omega arith }

  module _ (w : Whole card) where
    enough : 0 * 512 + 512 ≤ length card
    enough = let some : 1 ≤ w.0 = w.1 in let long : length card ≡ w.0 * 512 = w.3 in omega arith

    head_reached : Reached card 0
    head_reached =
        let e = enough in
        record { whole = w; there = omega arith; full = λ h. absurd (omega arith); before = λ k h. absurd (omega arith) }

    -- where the sizes are in range, the head is checked as any block
    head_sized : Sizable card → head_check card ≡ checked_as card (n_of card) (m_of card) Head 0
    head_sized s =
        let b : List ℕ = block_at card 0 in
        ap (λ (t : Bool). and_then (sum_check b 0) (and_then (name_check b 72 0) (and_then (cond t (Ok tt) (Err (Fault.Sizes 0))) (spare_check b 0 2)))) (size_test s)

    -- and else no spare byte is looked at
    head_unsized : (Sizable card → ⊥) → head_check card ≡ and_then (sum_check (block_at card 0) 0) (and_then (name_check (block_at card 0) 72 0) (Err (Fault.Sizes 0)))
    head_unsized wrong = by_test (in_size (num card 4) (num card 8)) refl where
      by_test : (t : Bool) → t ≡ in_size (num card 4) (num card 8)
          → and_then (sum_check (block_at card 0) 0) (and_then (name_check (block_at card 0) 72 0) (and_then (cond t (Ok tt) (Err (Fault.Sizes 0))) (spare_check (block_at card 0) 0 2)))
          ≡ and_then (sum_check (block_at card 0) 0) (and_then (name_check (block_at card 0) 72 0) (Err (Fault.Sizes 0)))
      by_test true p = absurd (wrong (sizable (sym p)))
      by_test false p = refl

    -- what an answer to the head says
    abbrev HeadSays : Verdict → Type 0
    HeadSays (Ok u) = BlockPasses card 0
    HeadSays (Err f) = Says card (Err f)

    unsized_says : (Sizable card → ⊥) → HeadSays (and_then (sum_check (block_at card 0) 0) (and_then (name_check (block_at card 0) 72 0) (Err (Fault.Sizes 0))))
    unsized_says wrong = by_sum (eqb (le16 (block_at card 0) 510) (check_of (block_at card 0))) refl where
      by_number : Summed (block_at card 0) → get_or (block_at card 0) 0 0 ≡ 72 → (u : Bool) → u ≡ eqb (le16 (block_at card 0) 2) 0
          → HeadSays (and_then (cond u (Ok tt) (Err (Fault.Name 0))) (Err (Fault.Sizes 0)))
      by_number s l true p = (head_reached, s, named_all 0 enough Head head_has (l, eqb-true _ _ (sym p)), refl, wrong)
      by_number s l false p = (head_reached, s, λ (all : NamedAt card 0). eqb-false _ _ (sym p) (all Head head_has).1)

      by_letter : Summed (block_at card 0) → (t : Bool) → t ≡ eqb (get_or (block_at card 0) 0 0) 72
          → HeadSays (and_then (cond t (cond (eqb (le16 (block_at card 0) 2) 0) (Ok tt) (Err (Fault.Name 0))) (Err (Fault.Name 0))) (Err (Fault.Sizes 0)))
      by_letter s true p = by_number s (eqb-true _ _ (sym p)) (eqb (le16 (block_at card 0) 2) 0) refl
      by_letter s false p = (head_reached, s, λ (all : NamedAt card 0). eqb-false _ _ (sym p) (all Head head_has).0)

      by_sum : (t : Bool) → t ≡ eqb (le16 (block_at card 0) 510) (check_of (block_at card 0))
          → HeadSays (and_then (cond t (Ok tt) (Err (Fault.CheckSum 0))) (and_then (name_check (block_at card 0) 72 0) (Err (Fault.Sizes 0))))
      by_sum true p = by_letter (eqb-true _ _ (sym p)) (eqb (get_or (block_at card 0) 0 0) 72) refl
      by_sum false p = (head_reached, eqb-false _ _ (sym p))

    sized_says : Sizable card → (v : Verdict) → checked_as card (n_of card) (m_of card) Head 0 ≡ v → HeadSays v
    sized_says s (Ok u) e = block_passes 0 enough Head head_has (λ _. s) e
    sized_says s (Err f) e = block_says 0 enough Head head_has (λ _. s) head_reached f e

    head_says : HeadSays (head_check card)
    head_says = by_test (in_size (num card 4) (num card 8)) refl where
      by_test : (t : Bool) → t ≡ in_size (num card 4) (num card 8) → HeadSays (head_check card)
      by_test true p = let s = sizable (sym p) in subst HeadSays (sym (head_sized s)) (sized_says s _ refl)
      by_test false p =
          let wrong : Sizable card → ⊥ = λ s. false≢true (p ∙ size_test s) in
          subst HeadSays (sym (head_unsized wrong)) (unsized_says wrong)

    head_ok : BlockPasses card 0 → head_check card ≡ Ok tt
    head_ok p = head_sized (p.sizes refl) ∙ block_ok 0 enough Head head_has p

    after_sum : Verdict
    after_sum = and_then (name_check (block_at card 0) 72 0) (and_then (size_check card) (spare_check (block_at card 0) 0 2))

    head_missummed : (Summed (block_at card 0) → ⊥) → head_check card ≡ Err (Fault.CheckSum 0)
    unfolding after_sum
    head_missummed wrong = ap (λ a. and_then a after_sum) (missummed (block_at card 0) 0 2 (block_long 0 enough) 72 wrong)

    head_misnamed : Summed (block_at card 0) → (NamedAt card 0 → ⊥) → head_check card ≡ Err (Fault.Name 0)
    unfolding after_sum
    head_misnamed s wrong =
        ap (λ a. and_then a after_sum) (summed (block_at card 0) 0 2 (block_long 0 enough) 72 s)
        ∙ ap (λ a. and_then a (and_then (size_check card) (spare_check (block_at card 0) 0 2)))
        (misnamed (block_at card 0) 0 2 (block_long 0 enough) 72 (λ (h : Named (block_at card 0) 72 0). wrong (named_all 0 enough Head head_has h)))

    head_missized : Summed (block_at card 0) → NamedAt card 0 → (Sizable card → ⊥) → head_check card ≡ Err (Fault.Sizes 0)
    head_missized s h wrong =
        head_unsized wrong
        ∙ (ap (λ a. and_then a (and_then (name_check (block_at card 0) 72 0) (Err (Fault.Sizes 0)))) (summed (block_at card 0) 0 2 (block_long 0 enough) 72 s)
        ∙ ap (λ a. and_then a (Err (Fault.Sizes 0))) (named (block_at card 0) 0 2 (block_long 0 enough) 72 (h Head head_has)))

    head_spare : (i : ℕ) → Summed (block_at card 0) → NamedAt card 0 → Sizable card → FirstSetAt card 0 i → head_check card ≡ Err (Fault.Spare 0 i)
    head_spare i s h z first = head_sized z ∙ spare_told 0 enough Head head_has i s h first

  -- a block of a card of full length is there as a whole
  fits_in : (b : ℕ) → Full card → b * 512 < length card → (b < blocks_in (n_of card) (m_of card)) × (b * 512 + 512 ≤ length card)
  fits_in b full there = let long : length card ≡ blocks_in (n_of card) (m_of card) * 512 = full in (omega arith, omega arith)

  -- the checks after the length, and after the head
  from_head : Verdict
  from_head = and_then (head_check card) (and_then (full_check (length card) (n_of card) (m_of card)) (sections_check card (n_of card) (m_of card)))

  from_full : Verdict
  from_full = and_then (full_check (length card) (n_of card) (m_of card)) (sections_check card (n_of card) (m_of card))

  sections_say : Whole card → BlockPasses card 0 → Full card → (v : Verdict) → Span card (n_of card) (m_of card) 1 (blocks_in (n_of card) (m_of card)) v → Says card v
  sections_say w head full (Ok u) all = (
    w,
    full,
    λ b there.
        let room = fits_in b full there in
        ⊎_elim
        (λ (first : b < 1). let zero : 0 ≡ b = omega arith in subst (BlockPasses card) zero head)
        (λ (some : 1 ≤ b).
        let k = has_kind (n_of card) (m_of card) b some room.0 in
        block_passes b room.1 k.0 k.1 (λ e. absurd (omega arith)) (all k.0 b k.1 some room.0))
        (cases_lt b 1),
  )
  sections_say w head full (Err f) s =
      let to : s.at < blocks_in (n_of card) (m_of card) = s.to in
      let from : 1 ≤ s.at = s.from in
      let long : length card ≡ blocks_in (n_of card) (m_of card) * 512 = full in
      let there : s.at * 512 < length card = omega arith in
      let reached : Reached card s.at
      = record {
        whole = w;
        there = there;
        full = λ _. full;
        before = λ k less.
            ⊎_elim
            (λ (first : k < 1). let zero : 0 ≡ k = omega arith in subst (BlockPasses card) zero head)
            (λ (some : 1 ≤ k).
            let room = fits_in k full (omega arith) in
            let own = has_kind (n_of card) (m_of card) k some room.0 in
            block_passes k room.1 own.0 own.1 (λ e. absurd (omega arith)) (s.before own.0 k own.1 some less))
            (cases_lt k 1);
      } in
      block_says s.at (fits_in s.at full there).1 s.kind s.has (λ e. absurd (omega arith)) reached f s.fault

  pub card_says : Says card (card_check card)
  unfolding whole_tests
  card_says = by_length (whole_tests (length card)) refl where
    by_full : Whole card → BlockPasses card 0 → (t : Bool) → t ≡ eqb (length card) (blocks_in (n_of card) (m_of card) * 512)
        → Says card (and_then (cond t (Ok tt) (Err (Fault.Length (length card)))) (sections_check card (n_of card) (m_of card)))
    by_full w head true p = sections_say w head (eqb-true _ _ (sym p)) _ (span_sections card (n_of card) (m_of card))
    by_full w head false p = (refl, inr (w, head, eqb-false _ _ (sym p)))

    by_head : (w : Whole card) → (v : Verdict) → HeadSays w v → Says card (and_then v (and_then (full_check (length card) (n_of card) (m_of card)) (sections_check card (n_of card) (m_of card))))
    by_head w (Ok u) head = by_full w head (eqb (length card) (blocks_in (n_of card) (m_of card) * 512)) refl
    by_head w (Err f) s = s

    by_length : (t : Bool) → t ≡ whole_tests (length card)
        → Says card (and_then (cond t (Ok tt) (Err (Fault.Length (length card)))) (and_then (head_check card) (and_then (full_check (length card) (n_of card) (m_of card)) (sections_check card (n_of card) (m_of card)))))
    by_length true p = let w = whole_if (sym p) in by_head w (head_check card) (head_says w)
    by_length false p = (refl, inl (λ (w : Whole card). false≢true (p ∙ whole_test w)))

  through_length : Whole card → card_check card ≡ from_head
  unfolding whole_tests from_head
  through_length w = ap (λ t. and_then (cond t (Ok tt) (Err (Fault.Length (length card)))) from_head) (whole_test w)

  through_head : (w : Whole card) → BlockPasses card 0 → from_head ≡ from_full
  unfolding from_head from_full
  through_head w head = ap (λ a. and_then a from_full) (head_ok w head)

  through_full : Full card → from_full ≡ sections_check card (n_of card) (m_of card)
  unfolding from_full
  through_full full =
      ap (λ t. and_then (cond t (Ok tt) (Err (Fault.Length (length card)))) (sections_check card (n_of card) (m_of card))) (eq-eqb (length card) (blocks_in (n_of card) (m_of card) * 512) full)

  -- blocks that pass, as the sections have them
  as_sections : (high : ℕ) → Full card → high ≤ blocks_in (n_of card) (m_of card) → ((b : ℕ) → b < high → BlockPasses card b) → AllPass card (n_of card) (m_of card) 1 high
  as_sections high full few all kind b has from to =
      let long : length card ≡ blocks_in (n_of card) (m_of card) * 512 = full in
      block_ok b (omega arith) kind has (all b to)

  -- the first fault is at block b
  at_block : (b : ℕ) → Reached card b → (f : Fault) → (b ≡ 0 → head_check card ≡ Err f)
      → (1 ≤ b → b * 512 + 512 ≤ length card → (kind : Kind) → HasBlock kind (n_of card) (m_of card) b → checked_as card (n_of card) (m_of card) kind b ≡ Err f) → card_check card ≡ Err f
  unfolding from_head from_full
  at_block b r f head other =
      ⊎_elim
      (λ (first : b < 1). through_length r.whole ∙ ap (λ a. and_then a from_full) (head (omega arith)))
      (λ (some : 1 ≤ b).
      let full = r.full some in
      let room = fits_in b full r.there in
      let k = has_kind (n_of card) (m_of card) b some room.0 in
      through_length r.whole ∙ (through_head r.whole (r.before 0 (omega arith)) ∙ (through_full full
      ∙ stops_there card (n_of card) (m_of card) _ (span_sections card (n_of card) (m_of card)) k.0 b k.1 some room.0
      (as_sections b full (let less = room.0 in omega arith) r.before) f (other some room.1 k.0 k.1))))
      (cases_lt b 1)

  card_said : (v : Verdict) → Says card v → card_check card ≡ v
  unfolding whole_tests from_head from_full
  card_said (Ok u) (w, full, all) =
      let long : length card ≡ blocks_in (n_of card) (m_of card) * 512 = full in
      through_length w ∙ (through_head w (all 0 (let e = enough w in omega arith)) ∙ (through_full full
      ∙ all_pass card (n_of card) (m_of card) _ (span_sections card (n_of card) (m_of card)) (as_sections (blocks_in (n_of card) (m_of card)) full (omega arith) (λ b less. all b (omega arith)))))
  card_said (Err (Fault.Length k)) (e, inl wrong) =
      ap (λ t. and_then (cond t (Ok tt) (Err (Fault.Length (length card)))) from_head) (not_whole (whole_tests (length card)) refl) ∙ ap (λ j. Err (Fault.Length j)) (sym e)
    where
      not_whole : (t : Bool) → t ≡ whole_tests (length card) → t ≡ false
      not_whole true p = absurd (wrong (whole_if (sym p)))
      not_whole false p = refl
  card_said (Err (Fault.Length k)) (e, inr (w, head, wrong)) =
      through_length w ∙ (through_head w head
      ∙ (ap (λ t. and_then (cond t (Ok tt) (Err (Fault.Length (length card)))) (sections_check card (n_of card) (m_of card))) (differ (length card) (blocks_in (n_of card) (m_of card) * 512) wrong)
      ∙ ap (λ j. Err (Fault.Length j)) (sym e)))
  card_said (Err (Fault.CheckSum b)) (r, wrong) =
      at_block b r (Fault.CheckSum b)
      (λ e. head_missummed r.whole (subst (λ k. Summed (block_at card k) → ⊥) e wrong) ∙ ap (λ k. Err (Fault.CheckSum k)) (sym e))
      (λ some room kind has. sum_told b room kind has wrong)
  card_said (Err (Fault.Name b)) (r, s, wrong) =
      at_block b r (Fault.Name b)
      (λ e. head_misnamed r.whole (subst (λ k. Summed (block_at card k)) e s) (subst (λ k. NamedAt card k → ⊥) e wrong) ∙ ap (λ k. Err (Fault.Name k)) (sym e))
      (λ some room kind has. name_told b room kind has s wrong)
  card_said (Err (Fault.Sizes b)) (r, s, h, e, wrong) =
      at_block b r (Fault.Sizes b)
      (λ z. head_missized r.whole (subst (λ k. Summed (block_at card k)) e s) (subst (NamedAt card) e h) wrong ∙ ap (λ k. Err (Fault.Sizes k)) (sym e))
      (λ some room kind has. absurd (omega arith))
  card_said (Err (Fault.Spare b i)) (r, s, h, sizes, first) =
      at_block b r (Fault.Spare b i)
      (λ e.
      head_spare r.whole i (subst (λ k. Summed (block_at card k)) e s) (subst (NamedAt card) e h) (sizes e) (subst (λ k. FirstSetAt card k i) e first)
      ∙ ap (λ k. Err (Fault.Spare k i)) (sym e))
      (λ some room kind has. spare_told b room kind has i s h first)
  card_said (Err (Fault.Short k)) never = absurd never

  pub rightly : (v : Verdict) → v ≡ card_check card → Rightly (Says card) v
  rightly v e w = (λ f. subst (Says card) (sym e ∙ f) card_says, λ s. e ∙ card_said w s)
