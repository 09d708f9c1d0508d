-- The choice that is made has its meaning, and no other has it.
use Rattle.std.proofs.Common.{◌≡◌, ℕ, ◌<◌, ◌≤◌, Bool, true, false, cond, ltb, List, length, ℤ, pos, negsuc, nat_abs, ◌≤ℤ◌, ◌<ℤ◌, ◌⊎◌, inl, inr, sym, refl, ap, ◌∙◌, subst, ⊎_elim, true≢false, arith, ltb-true, ltb-false, lt-ltb, le-ltb}
use lib.Signed.{lt_z}
use Rattle.std.proofs.lemmas.Int.{ints, clamps}
use Rattle.std.proofs.lemmas.Bool.{cases_order}
use Rattle.duality.specs.Lists.{places}
use Rattle.duality.specs.Problem.{Problem}
use Rattle.duality.proofs.Ring.{lin}
use Rattle.duality.proofs.Tests.{ordered_at}
use Rattle.terms.specs.Ticks.{excess}
use Rattle.job.specs.Numbers.{problem_of}
use Rattle.job.specs.declared.numbers.Job.{Job}
use Rattle.exchange.specs.Members.{Of, low, high}
use Rattle.exchange.specs.Systems.{member_at}
use Rattle.exchange.specs.Breaches.{holds, value_at, ticks, side_of, breach, worse, worst_row, worst, unbroken}
use Rattle.exchange.specs.Choice.{wrongness, more_wrong, unwronged, most_wrong, chosen}
use Rattle.exchange.specs.Meanings.{Before, Free, Past, Breaks, MeetsFree, Enters, Wrong, WrongAt, Leaves, Means}
use Rattle.exchange.specs.Steps.{Follows}
use Rattle.exchange.specs.declared.members.Limit.{Limit}
use Rattle.exchange.specs.declared.members.Limit.TheVariants.{Row, Bound}
use Rattle.exchange.specs.declared.members.Side.{Side}
use Rattle.exchange.specs.declared.members.Side.TheVariants.{Lower, Upper}
use Rattle.exchange.specs.declared.members.Member.{Member}
use Rattle.exchange.specs.declared.members.Breach.{Breach}
use Rattle.exchange.specs.declared.members.Wrong.{Wrong as Most}
use Rattle.exchange.specs.declared.members.Choice.{Choice}
use Rattle.exchange.specs.declared.members.Choice.TheVariants.{Enter, Leave, Full, Done}
use Rattle.exchange.proofs.Searches.{Turn, Found, upto_found}

less : (a b : ℤ) → lt_z a b ≡ true → a <ℤ b
less a b e = grind (arith, ints)

not_less : (a b : ℤ) → lt_z a b ≡ false → b ≤ℤ a
not_less a b e = grind (arith, ints)

-- outside, on the side that is named
outside_past : (lower upper s : ℤ) → pos 0 <ℤ excess lower upper s → Past (side_of lower s) lower upper s
unfolding excess
outside_past lower upper s h = at (lt_z s lower) refl
  where
    at : (t : Bool) → lt_z s lower ≡ t → Past (cond t Lower Upper) lower upper s
    at true e = less s lower e
    at false e = let g = not_less s lower e in omega (arith, lin, clamps)

-- inside both, or past one of them
inside_meets : (lower upper s : ℤ) → excess lower upper s ≤ℤ pos 0 → (lower ≤ℤ s) × (s ≤ℤ upper)
unfolding excess
inside_meets lower upper s h = (omega (arith, lin, clamps), omega (arith, lin, clamps))

past_outside : (sd : Side) (lower upper s : ℤ) → Past sd lower upper s → pos 0 <ℤ excess lower upper s
unfolding excess
past_outside Lower lower upper s h = omega (arith, lin, clamps)
past_outside Upper lower upper s h = omega (arith, lin, clamps)

-- a number that is past a limit does not meet it, and is past it on one side only
past_unmet : (sd : Side) (lower upper s : ℤ) → Past sd lower upper s → (lower ≤ℤ s) × (s ≤ℤ upper) → ⊥
past_unmet Lower lower upper s h m = let a = m.0 in omega (arith, ints)
past_unmet Upper lower upper s h m = let a = m.1 in omega (arith, ints)

past_side : (sd sd' : Side) (lower upper s : ℤ) → lower ≤ℤ upper → Past sd lower upper s → Past sd' lower upper s → sd ≡ sd'
past_side Lower Lower lower upper s o h k = refl
past_side Lower Upper lower upper s o h k = absurd (omega (arith, ints))
past_side Upper Lower lower upper s o h k = absurd (omega (arith, ints))
past_side Upper Upper lower upper s o h k = refl

-- the search for the limit that is furthest outside
abbrev depth : Breach → ℤ
depth b = b.ticks

module _ (P : Problem) (ms : List Member) (z : List ℤ) where
  -- along the limits that f names
  module _ (f : ℕ → Limit) where
    abbrev Apart : ℕ → Type 0
    Apart k = holds ms (f k) ≡ false

    abbrev broken : ℕ → Breach
    broken k = breach P z (f k)

    turn : (b : Breach) (k : ℕ) → Turn depth broken Apart b k (worse P ms z b (f k))
    unfolding worse
    turn b k = held (holds ms (f k)) refl
      where
        taken : holds ms (f k) ≡ false → (t : Bool) → lt_z b.ticks (breach P z (f k)).ticks ≡ t → Turn depth broken Apart b k (cond t (breach P z (f k)) b)
        taken h true e = inl (refl, h, less b.ticks (breach P z (f k)).ticks e)
        taken h false e = inr (refl, λ _. not_less b.ticks (breach P z (f k)).ticks e)

        held : (x : Bool) → holds ms (f k) ≡ x → Turn depth broken Apart b k (cond x b (cond (lt_z b.ticks (breach P z (f k)).ticks) (breach P z (f k)) b))
        held true h = inr (refl, λ g. absurd (true≢false (sym h ∙ g)))
        held false h = taken h (lt_z b.ticks (breach P z (f k)).ticks) refl

  ticks_are : (v : Limit) → (breach P z v).ticks ≡ ticks P z v
  unfolding breach
  ticks_are v = refl

  breaks : (v : Limit) → pos 0 <ℤ ticks P z v → Breaks P z (breach P z v).member
  unfolding breach
  breaks v h = outside_past (low P v) (high P v) (value_at P z v) h

  limit_is : (v : Limit) → (breach P z v).member.limit ≡ v
  unfolding breach
  limit_is v = refl

  -- what the search finds: nothing outside, or what is first and furthest
  pub record Worst (b : Breach) : Type 0 where
    pub free : Free P ms b.member.limit
    pub above : pos 0 <ℤ b.ticks
    pub broken : Breaks P z b.member
    pub furthest : (v : Limit) → Free P ms v → ticks P z v ≤ℤ ticks P z b.member.limit
    pub first : (v : Limit) → Free P ms v → Before v b.member.limit → ticks P z v <ℤ ticks P z b.member.limit

  abbrev pub Told : Breach → Type 0
  Told b = ((b.ticks ≡ pos 0) × MeetsFree P ms z) ⊎ Worst b

  -- of limit v, the first and furthest, by its ticks
  worst_at : (b : Breach) (v : Limit) → b ≡ breach P z v → Free P ms v → pos 0 <ℤ b.ticks → ((x : Limit) → Free P ms x → ticks P z x ≤ℤ b.ticks) →
      ((x : Limit) → Free P ms x → Before x v → ticks P z x <ℤ b.ticks) → Told b
  worst_at b v e o a m f =
      let T : Breach → Type 0 = Told in
      let t : b.ticks ≡ ticks P z v = ap depth e ∙ ticks_are v in
      subst T (sym e)
      (inr (record {
        free = rw (limit_is v) o;
        above = rw (ticks_are v) (rw t at a);
        broken = breaks v (rw t at a);
        furthest = λ x h. rw (limit_is v) (rw t at (m x h));
        first = λ x h n. rw (limit_is v) (rw t at (f x h (rw (limit_is v) at n)));
      }))

  told : (b w : Breach) → Found depth (broken Row) (Apart Row) unbroken P.rows b → Found depth (broken Bound) (Apart Bound) b P.ropes w → Told w
  told b w (inl r) (inl s) =
      let e : w.ticks ≡ pos 0 = ap depth (s.is ∙ r.is) in
      inl (e, λ v o. inside_meets (low P v) (high P v) (value_at P z v) (none v o))
    where
      none : (v : Limit) → Free P ms v → ticks P z v ≤ℤ pos 0
      none (Row i) o = rw (← ticks_are (Row i)) (r.most i o.0 o.1)
      none (Bound j) o = let h = s.most j o.0 o.1 in let e = ap depth r.is in let t = ticks_are (Bound j) in omega (arith, ints, h, e, t)
  told b w (inr r) (inl s) =
      worst_at w (Row r.place) (s.is ∙ r.is) (r.within, r.counted) (let e = ap depth s.is in let a = r.above in omega (arith, ints, e, a)) most first
    where
      most : (x : Limit) → Free P ms x → ticks P z x ≤ℤ w.ticks
      most (Row i) o = let e = ap depth s.is in let h = r.most i o.0 o.1 in let t = ticks_are (Row i) in omega (arith, ints, e, h, t)
      most (Bound j) o = let e = ap depth s.is in let h = s.most j o.0 o.1 in let t = ticks_are (Bound j) in omega (arith, ints, e, h, t)

      first : (x : Limit) → Free P ms x → Before x (Row r.place) → ticks P z x <ℤ w.ticks
      first (Row i) o l = let e = ap depth s.is in let h = r.first i l o.1 in let t = ticks_are (Row i) in omega (arith, ints, e, h, t)
      first (Bound j) o l = absurd l
  told b w f (inr s) = worst_at w (Bound s.place) s.is (s.within, s.counted) (above f) (most f) (first f)
    where
      start : Found depth (broken Row) (Apart Row) unbroken P.rows b → (i : ℕ) → i < P.rows → Apart Row i → ticks P z (Row i) ≤ℤ b.ticks
      start (inl r) i l o = let e = ap depth r.is in let h = r.most i l o in let t = ticks_are (Row i) in omega (arith, ints, e, h, t)
      start (inr r) i l o = let h = r.most i l o in let t = ticks_are (Row i) in omega (arith, ints, h, t)

      above : Found depth (broken Row) (Apart Row) unbroken P.rows b → pos 0 <ℤ w.ticks
      above (inl r) = let e = ap depth r.is in let a = s.above in omega (arith, ints, e, a)
      above (inr r) = let h = r.above in let a = s.above in omega (arith, ints, h, a)

      most : Found depth (broken Row) (Apart Row) unbroken P.rows b → (x : Limit) → Free P ms x → ticks P z x ≤ℤ w.ticks
      most g (Row i) o = let h = start g i o.0 o.1 in let a = s.above in omega (arith, ints, h, a)
      most g (Bound j) o = let h = s.most j o.0 o.1 in let t = ticks_are (Bound j) in omega (arith, ints, h, t)

      first : Found depth (broken Row) (Apart Row) unbroken P.rows b → (x : Limit) → Free P ms x → Before x (Bound s.place) → ticks P z x <ℤ w.ticks
      first g (Row i) o l = let h = start g i o.0 o.1 in let a = s.above in omega (arith, ints, h, a)
      first g (Bound j) o l = let h = s.first j l o.1 in let t = ticks_are (Bound j) in omega (arith, ints, h, t)

  pub worst_told : Told (worst P ms z)
  unfolding worst
  worst_told =
      told (worst_row P ms z) _ (upto_found depth (broken Row) (Apart Row) (λ b i. worse P ms z b (Row i)) (turn Row) unbroken P.rows)
      (upto_found depth (broken Bound) (Apart Bound) (λ b j. worse P ms z b (Bound j)) (turn Bound) (worst_row P ms z) P.ropes)

-- the search for the multiplier that is most wrong
wrong_size : (sd : Side) (y : ℤ) → Wrong sd y → (wrongness sd y ≡ nat_abs y) × (0 < nat_abs y)
wrong_size Lower (pos n) h = absurd (omega (arith, ints))
wrong_size Lower (negsuc n) h = (refl, omega arith)
wrong_size Upper (pos n) h = let t : lt_z (pos 0) (pos n) ≡ true = grind (arith, ints, h) in (rw t, omega (arith, ints, h))
wrong_size Upper (negsuc n) h = absurd (omega (arith, ints))

size_wrong : (sd : Side) (y : ℤ) → 0 < wrongness sd y → Wrong sd y
size_wrong Lower y h = at (lt_z y (pos 0)) refl
  where
    at : (t : Bool) → lt_z y (pos 0) ≡ t → y <ℤ pos 0
    at true e = less y (pos 0) e
    at false e = let g : 0 < 0 = rw e at h in absurd (omega arith)
size_wrong Upper y h = at (lt_z (pos 0) y) refl
  where
    at : (t : Bool) → lt_z (pos 0) y ≡ t → pos 0 <ℤ y
    at true e = less (pos 0) y e
    at false e = let g : 0 < 0 = rw e at h in absurd (omega arith)

module _ (ms : List Member) (ys : List ℤ) where
  abbrev size : Most → ℤ
  size b = pos b.size

  abbrev wrong_at : ℕ → ℕ
  wrong_at k = wrongness (member_at ms k).side (places ys k)

  abbrev candidate : ℕ → Most
  candidate k = record { size = wrong_at k; place = k }

  abbrev Any : ℕ → Type 0
  Any k = Unit {0}

  wrong_turn : (b : Most) (k : ℕ) → Turn size candidate Any b k (more_wrong ms ys b k)
  wrong_turn b k = at (ltb b.size (wrong_at k)) refl
    where
      at : (t : Bool) → ltb b.size (wrong_at k) ≡ t → Turn size candidate Any b k (cond t (candidate k) b)
      at true e = let l = ltb-true _ _ e in inl (refl, tt, omega (arith, ints, l))
      at false e = let l = ltb-false _ _ e in inr (refl, λ _. omega (arith, ints, l))

  abbrev pub MostTold : Most → Type 0
  MostTold b = ((b.size ≡ 0) × ((k : ℕ) → WrongAt ms ys k → ⊥)) ⊎ ((0 < b.size) × Leaves ms ys b.place)

  pub most_told : MostTold (most_wrong ms ys)
  unfolding most_wrong
  most_told = told (most_wrong ms ys) (upto_found size candidate Any (more_wrong ms ys) wrong_turn unwronged (length ms))
    where
      told : (b : Most) → Found size candidate Any unwronged (length ms) b → MostTold b
      told b (inl h) = inl (ap (λ (w : Most). w.size) h.is, λ k w. let m = h.most k w.0 tt in let s = wrong_size _ _ w.1 in absurd (omega (arith, ints, m, s.0, s.1)))
      told b (inr h) =
          let e = ap (λ (w : Most). w.size) h.is in
          let f = ap (λ (w : Most). w.place) h.is in
          let L : ℕ → Type 0 = Leaves ms ys in
          let a : 0 < b.size = let a = h.above in omega (arith, ints, a) in
          let w = size_wrong (member_at ms h.place).side (places ys h.place) (omega (arith, a, e)) in
          let t = (wrong_size _ _ w).0 in
          inr (
            a,
            subst L (sym f) (record {
              wrong = (h.within, w);
              most = λ i v. let m = h.most i v.0 tt in let s = (wrong_size _ _ v.1).0 in omega (arith, ints, m, s, t, e);
              first = λ i v l. let m = h.first i l tt in let s = (wrong_size _ _ v.1).0 in omega (arith, ints, m, s, t, e);
            }),
          )

-- who is chosen has the meaning of the choice
module _ (P : Problem) (ms : List Member) (z ys : List ℤ) (few : length ms ≤ P.ropes) where
  pub chosen_means : Means P ms z ys (chosen P ms z ys)
  unfolding chosen
  chosen_means = on (worst_told P ms z) (most_told ms ys)
    where
      enters : Worst P ms z (worst P ms z) → (t : Bool) → ltb (length ms) P.ropes ≡ t → Means P ms z ys (cond t (Enter (worst P ms z).member) Full)
      enters w true e = record { room = ltb-true _ _ e; free = w.free; broken = w.broken; furthest = w.furthest; first = w.first }
      enters w false e = let l = ltb-false _ _ e in (omega arith, ((worst P ms z).member, w.free, w.broken))

      leaves : MeetsFree P ms z → MostTold ms ys (most_wrong ms ys) → Means P ms z ys (cond (ltb 0 (most_wrong ms ys).size) (Leave (most_wrong ms ys).place) Done)
      leaves m (inl h) = let t : ltb 0 (most_wrong ms ys).size ≡ false = le-ltb _ _ (omega (arith, h.0)) in rw t (m, h.1)
      leaves m (inr h) = let t : ltb 0 (most_wrong ms ys).size ≡ true = lt-ltb _ _ h.0 in rw t (m, h.1)

      on : Told P ms z (worst P ms z) → MostTold ms ys (most_wrong ms ys) →
          Means P ms z ys (cond (lt_z (pos 0) (worst P ms z).ticks) (cond (ltb (length ms) P.ropes) (Enter (worst P ms z).member) Full)
          (cond (ltb 0 (most_wrong ms ys).size) (Leave (most_wrong ms ys).place) Done))
      on (inl h) m = let t : lt_z (pos 0) (worst P ms z).ticks ≡ false = rw h.0 in rw t (leaves h.1 m)
      on (inr w) m = let t : lt_z (pos 0) (worst P ms z).ticks ≡ true = let a = w.above in grind (arith, ints, a) in rw t (enters w (ltb (length ms) P.ropes) refl)

-- a choice can be followed: who enters is new and of the problem, who leaves is there
pub means_follows : (P : Problem) (ms : List Member) (z ys : List ℤ) (ch : Choice) → Means P ms z ys ch → Follows P.ropes P.rows ms ch
means_follows P ms z ys (Enter w) m = (m.room, m.free.0, m.free.1)
means_follows P ms z ys (Leave k) m = m.1.wrong.0
means_follows P ms z ys Full m = tt
means_follows P ms z ys Done m = tt

-- two choices with their meanings are one
compared : (v w : Limit) → (v ≡ w) ⊎ (Before v w ⊎ Before w v)
compared (Row i) (Row k) = ⊎_elim (λ e. inl (ap (λ (n : ℕ). Row n) e)) (λ h. inr h) (cases_order i k)
compared (Row i) (Bound k) = inr (inl tt)
compared (Bound i) (Row k) = inr (inr tt)
compared (Bound i) (Bound k) = ⊎_elim (λ e. inl (ap (λ (n : ℕ). Bound n) e)) (λ h. inr h) (cases_order i k)

abbrev pub Ordered : Problem → Type 0
Ordered P = (v : Limit) → Of P.ropes P.rows v → low P v ≤ℤ high P v

pub job_ordered : (j : Job) → Ordered (problem_of j)
job_ordered j (Row i) l = ordered_at j.terms.lo.items j.terms.hi.items i j.terms.open l
job_ordered j (Bound k) l = ordered_at j.terms.l.items j.terms.u.items k j.terms.wide (omega (arith, l, j.terms.lefts.0))

module _ (P : Problem) (ms : List Member) (z ys : List ℤ) (ordered : Ordered P) where
  unmet : (w : Member) → Free P ms w.limit → Breaks P z w → MeetsFree P ms z → ⊥
  unmet w o b m = past_unmet w.side (low P w.limit) (high P w.limit) (value_at P z w.limit) b (m w.limit o)

  same_member : (v w : Member) → Enters P ms z v → Enters P ms z w → v ≡ w
  same_member v w a b =
      ⊎_elim limits
      (⊎_elim (λ l. let f = b.first v.limit a.free l in let g = a.furthest w.limit b.free in absurd (omega (arith, ints, f, g)))
      (λ l. let f = a.first w.limit b.free l in let g = b.furthest v.limit a.free in absurd (omega (arith, ints, f, g))))
      (compared v.limit w.limit)
    where
      limits : v.limit ≡ w.limit → v ≡ w
      limits e =
          let B : Limit → Type 0 = λ x. Past w.side (low P x) (high P x) (value_at P z x) in
          let s = past_side v.side w.side _ _ _ (ordered v.limit a.free.0) a.broken (subst B (sym e) b.broken) in
          ap (λ x. record { limit = x; side = v.side }) e ∙ ap (λ x. record { limit = w.limit; side = x }) s

  same_place : (k i : ℕ) → Leaves ms ys k → Leaves ms ys i → k ≡ i
  same_place k i a b =
      ⊎_elim (λ e. e)
      (⊎_elim (λ l. let f = b.first k a.wrong l in let g = a.most i b.wrong in absurd (omega (arith, f, g)))
      (λ l. let f = a.first i b.wrong l in let g = b.most k a.wrong in absurd (omega (arith, f, g))))
      (cases_order k i)

  pub same_choice : (a b : Choice) → Means P ms z ys a → Means P ms z ys b → a ≡ b
  same_choice (Enter v) (Enter w) m n = ap (λ x. Enter x) (same_member v w m n)
  same_choice (Enter v) (Leave k) m n = absurd (unmet v m.free m.broken n.0)
  same_choice (Enter v) Full m n = absurd (let r = m.room in omega (arith, n.0))
  same_choice (Enter v) Done m n = absurd (unmet v m.free m.broken n.0)
  same_choice (Leave k) (Enter w) m n = absurd (unmet w n.free n.broken m.0)
  same_choice (Leave k) (Leave i) m n = ap (λ (x : ℕ). Leave x) (same_place k i m.1 n.1)
  same_choice (Leave k) Full m n = absurd (unmet n.1.0 n.1.1 n.1.2 m.0)
  same_choice (Leave k) Done m n = absurd (n.1 k m.1.wrong)
  same_choice Full (Enter w) m n = absurd (let r = n.room in omega (arith, m.0))
  same_choice Full (Leave i) m n = absurd (unmet m.1.0 m.1.1 m.1.2 n.0)
  same_choice Full Full m n = refl
  same_choice Full Done m n = absurd (unmet m.1.0 m.1.1 m.1.2 n.0)
  same_choice Done (Enter w) m n = absurd (unmet w n.free n.broken m.0)
  same_choice Done (Leave i) m n = absurd (m.1 i n.1.wrong)
  same_choice Done Full m n = absurd (unmet n.1.0 n.1.1 n.1.2 m.0)
  same_choice Done Done m n = refl
