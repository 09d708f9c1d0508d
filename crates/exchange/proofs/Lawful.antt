-- A run is a list of steps, each with its meaning; and no other run keeps to the law.
use Rattle.std.proofs.Common.{◌≡◌, IfSome, ℕ, zero, suc, ◌≤◌, List, [], ◌∷◌, ◌++◌, length, Some, None, Option, ◌⊎◌, inl, inr, sym, refl, ap, ◌∙◌, subst, arith}
use lib.Ieee.{Float}
use Rattle.std.proofs.lemmas.List.Edits.{length-remove}
use Rattle.std.proofs.lemmas.List.{length-append}
use Rattle.std.specs.List.{flat_map, All}
use Rattle.std.specs.Float.{NotNan}
use Rattle.std.proofs.lemmas.List.Elements.{All-append}
use Rattle.duality.specs.Problem.{Problem}
use Rattle.job.specs.Numbers.{problem_of}
use Rattle.job.specs.declared.numbers.Job.{Job}
use Rattle.elimination.specs.Lines.{largest}
use Rattle.elimination.specs.Runs.{Least, Takable, sizes}
use Rattle.elimination.specs.declared.pivots.Pivot.{Pivot}
use Rattle.exchange.specs.Systems.{system_of}
use Rattle.exchange.specs.Breaches.{Apart}
use Rattle.exchange.proofs.Sets.{apart_push, apart_removed}
use Rattle.exchange.specs.Steps.{solved_at, step_at, members_after, StepMeans, LawfulStep}
use Rattle.exchange.specs.Runs.{Run, over, stepped, offers_of, after_step, run_from, exchanged, report_of}
use Rattle.exchange.specs.Laws.{Turn, Due, Follow, last, EndsAs, taken, Told, LawfulRun, AloneRun}
use Rattle.exchange.specs.declared.members.Member.{Member}
use Rattle.exchange.specs.declared.members.Report.{Report}
use Rattle.exchange.specs.declared.members.Choice.TheVariants.{Enter, Leave, Full, Done}
use Rattle.exchange.specs.declared.members.Step.{Step}
use Rattle.exchange.specs.declared.members.Step.TheVariants.{Stuck, Found}
use Rattle.exchange.specs.declared.members.End.{End}
use Rattle.exchange.specs.declared.members.End.TheVariants as end
use Rattle.exchange.proofs.Meanings.{Ordered, job_ordered}
use Rattle.exchange.proofs.Stepping.{same_step, step_lawful}
use Rattle.exchange.proofs.Smallest.{lead_takable, least_alone, least_number, least_on, told, told_same, largest_number}

-- what is left of a run from the set ms on, by its turns
record Taken (P : Problem) (b : ℕ) (ms : List Member) (s : Float) (r : Run) : Type 0 where
  pub turns : List Turn
  pub follow : Follow P ms turns
  pub counted : r.steps ≡ length turns
  pub within_budget : r.steps ≤ b
  pub offered : r.offers ≡ flat_map (λ t. offers_of t.step) turns
  pub ends : EndsAs b turns r.ending
  pub smallest : Least (s ∷ taken turns) r.smallest

-- a turn before others
ends_later : (b : ℕ) (t : Turn) (ts : List Turn) (x : End) → Due t.step → EndsAs b ts x → EndsAs (suc b) (t ∷ ts) x
ends_later b t [] end.Done d h = absurd (let e = h.1 in let z : ◌≡◌ {A = ℕ} 0 1 = cc in omega arith)
ends_later b t [] end.Full d h = absurd (let e = h.1 in let z : ◌≡◌ {A = ℕ} 0 1 = cc in omega arith)
ends_later b t [] end.Stuck d h = absurd (let z : ◌≡◌ {A = ℕ} 0 1 = cc in omega arith)
ends_later b t [] end.Spent d h = (d, ap suc h.1)
ends_later b t (u ∷ ts) end.Done d h = h
ends_later b t (u ∷ ts) end.Full d h = h
ends_later b t (u ∷ ts) end.Stuck d h = h
ends_later b t (u ∷ ts) end.Spent d h = (h.0, ap suc h.1)

due_or_not : (st : Step) → Due st ⊎ ¬ (Due st)
due_or_not Stuck = inr (λ d. d)
due_or_not (Found o (Enter w)) = inl tt
due_or_not (Found o (Leave k)) = inl tt
due_or_not (Found o Full) = inr (λ d. d)
due_or_not (Found o Done) = inr (λ d. d)

-- a set that a step leaves is no larger than there are ropes
few_after : (P : Problem) (ms : List Member) (ps : List Pivot) (st : Step) → length ms ≤ P.ropes → StepMeans P ms ps st → length (members_after ms st) ≤ P.ropes
few_after P ms ps Stuck l m = l
few_after P ms ps (Found o (Enter w)) l m = let r = m.3.room in omega (arith, length-append ms (w ∷ []), r)
few_after P ms ps (Found o (Leave k)) l m = let w = m.3.1.wrong.0 in omega (arith, length-remove ms k w)
few_after P ms ps (Found o Full) l m = l
few_after P ms ps (Found o Done) l m = l

-- and holds no limit twice
apart_after : (P : Problem) (ms : List Member) (ps : List Pivot) (st : Step) → Apart ms → StepMeans P ms ps st → Apart (members_after ms st)
apart_after P ms ps Stuck a m = a
apart_after P ms ps (Found o (Enter w)) a m = apart_push ms w a m.3.free.1
apart_after P ms ps (Found o (Leave k)) a m = apart_removed ms k m.3.1.wrong.0 a
apart_after P ms ps (Found o Full) a m = a
apart_after P ms ps (Found o Done) a m = a

-- each pivot that a step takes can be taken
means_takable : (P : Problem) (ms : List Member) (ps : List Pivot) (st : Step) → StepMeans P ms ps st → All Takable (sizes ps)
means_takable P ms ps Stuck m = lead_takable _ 0 ps (system_of P ms) m.0 m.1
means_takable P ms ps (Found o ch) m = lead_takable _ 0 ps (system_of P ms) m.1.0 m.1.1

all_takable : (P : Problem) (ms : List Member) (ts : List Turn) → Follow P ms ts → All Takable (taken ts)
all_takable P ms [] f = λ k d l. absurd (omega arith)
all_takable P ms (t ∷ ts) f = All-append Takable (sizes t.pivots) (taken ts) (means_takable P ms t.pivots t.step f.0) (all_takable P (members_after ms t.step) ts f.2)

module _ (P : Problem) (ordered : Ordered P) where
  module _ (b : ℕ) (ms : List Member) (s : Float) (n : NotNan s) where
    goes : (st : Step) (t : Float) (h : LawfulStep P ms s st t) (r : Run) → Due st → Taken P b (members_after ms st) t r → Taken P (suc b) ms s (stepped (offers_of st) r)
    goes st t h r e k =
        record {
          turns = record { step = st; pivots = h.pivots } ∷ k.turns;
          follow = (h.means, λ i. absurd (i e), k.follow);
          counted = ap suc k.counted;
          within_budget = let w = k.within_budget in omega arith;
          offered = ap (λ os. offers_of st ++ os) k.offered;
          ends = ends_later b (record { step = st; pivots = h.pivots }) k.turns r.ending e k.ends;
          smallest = least_on s (sizes h.pivots) t h.smallest (means_takable P ms h.pivots st h.means) (taken k.turns) r.smallest n k.smallest;
        }

    halts : (st : Step) (t : Float) (h : LawfulStep P ms s st t) (x : End) → EndsAs (suc b) (record { step = st; pivots = h.pivots } ∷ []) x → Taken P (suc b) ms s (stepped (offers_of st) (over x t))
    halts st t h x e =
        record {
          turns = record { step = st; pivots = h.pivots } ∷ [];
          follow = (h.means, λ i. refl, tt);
          counted = refl;
          within_budget = omega arith;
          offered = refl;
          ends = e;
          smallest = least_on s (sizes h.pivots) t h.smallest (means_takable P ms h.pivots st h.means) [] t n (least_alone t);
        }

    taken_after : (st : Step) (t : Float) (next : List Member → Float → Run) → LawfulStep P ms s st t → Taken P b (members_after ms st) t (next (members_after ms st) t) →
        Taken P (suc b) ms s (after_step st t ms next)
    taken_after Stuck t next h k = halts Stuck t h end.Stuck refl
    taken_after (Found o (Enter w)) t next h k = goes (Found o (Enter w)) t h _ tt k
    taken_after (Found o (Leave i)) t next h k = goes (Found o (Leave i)) t h _ tt k
    taken_after (Found o Full) t next h k = halts (Found o Full) t h end.Full (o, refl)
    taken_after (Found o Done) t next h k = halts (Found o Done) t h end.Done (o, refl)

  taken_from : (b : ℕ) (ms : List Member) (s : Float) → length ms ≤ P.ropes → Apart ms → NotNan s → Taken P b ms s (run_from b P ms s)
  taken_from zero ms s l a n = record { turns = []; follow = tt; counted = refl; within_budget = omega arith; offered = refl; ends = (tt, refl); smallest = least_alone s }
  taken_from (suc b) ms s l a n =
      let st = step_at P ms s in
      let t = (solved_at P ms s).0 in
      let h = step_lawful P ms l a ordered s st t refl refl in
      taken_after b ms s n st t (run_from b P) h
      (taken_from b (members_after ms st) t (few_after P ms h.pivots st l h.means) (apart_after P ms h.pivots st a h.means) (least_number s (sizes h.pivots) t h.smallest (means_takable P ms h.pivots st h.means) n))

  -- two runs of the same budget take the same turns
  abbrev Ended : List Turn → Type 0
  Ended ts = (st : Step) × (last ts ≡ Some st) × ¬ (Due st)

  abbrev Whole : ℕ → List Turn → Type 0
  Whole b ts = (length ts ≤ b) × (Ended ts ⊎ (length ts ≡ b))

  whole : (b : ℕ) (ts : List Turn) (x : End) → length ts ≤ b → EndsAs b ts x → Whole b ts
  whole b ts end.Done l h = (l, inl (Found h.0 Done, h.1, λ d. d))
  whole b ts end.Full l h = (l, inl (Found h.0 Full, h.1, λ d. d))
  whole b ts end.Stuck l h = (l, inl (Stuck, h, λ d. d))
  whole b ts end.Spent l h = (l, inr h.1)

  ended_later : (t : Turn) (ts : List Turn) → Due t.step → Ended (t ∷ ts) → Ended ts
  ended_later t [] d h = let e = h.1 in let q : t.step ≡ h.0 = cc in absurd (h.2 (subst Due q d))
  ended_later t (u ∷ ts) d h = h

  whole_later : (b : ℕ) (t : Turn) (ts : List Turn) → Due t.step → Whole (suc b) (t ∷ ts) → Whole b ts
  whole_later b t ts d (l, inl h) = (omega arith, inl (ended_later t ts d h))
  whole_later b t ts d (l, inr n) = (omega arith, inr (omega arith))

  none_left : (b : ℕ) (t : Turn) (ts : List Turn) → Whole b [] → Whole b (t ∷ ts) → ⊥
  none_left b t ts (l, inl h) w = let e = h.1 in let z : ◌≡◌ {A = ℕ} 0 1 = cc in omega arith
  none_left b t ts (l, inr n) w = let k = w.0 in omega arith

  same_turns : (b : ℕ) (ms : List Member) → length ms ≤ P.ropes → (xs ys : List Turn) → Follow P ms xs → Follow P ms ys → Whole b xs → Whole b ys → ys ≡ xs
  same_turns b ms l [] [] f g v w = refl
  same_turns b ms l [] (y ∷ ys) f g v w = absurd (none_left b y ys v w)
  same_turns b ms l (x ∷ xs) [] f g v w = absurd (none_left b x xs w v)
  same_turns zero ms l (x ∷ xs) (y ∷ ys) f g v w = absurd (let k = v.0 in omega arith)
  same_turns (suc b) ms l (x ∷ xs) (y ∷ ys) f g v w =
      let e = same_step P ms ordered x.pivots y.pivots x.step y.step f.0 g.0 in
      let q : y ≡ x = ap (λ st. record { step = st; pivots = y.pivots }) e.1 ∙ ap (λ ps. record { step = x.step; pivots = ps }) e.0 in
      let F : Turn → Type 0 = λ t. Follow P (members_after ms t.step) ys in
      let W : Turn → Type 0 = λ t. Whole (suc b) (t ∷ ys) in
      let I : Turn → Type 0 = λ t. ¬ (Due t.step) → ys ≡ [] in
      ap (λ t. t ∷ ys) q ∙ ap (λ ts. x ∷ ts)
      (rest (due_or_not x.step) (subst F q g.2) (subst I q g.1) (subst W q w) (same_turns b (members_after ms x.step) (few_after P ms x.pivots x.step l f.0) xs ys))
    where
      rest : Due x.step ⊎ ¬ (Due x.step) → Follow P (members_after ms x.step) ys → (¬ (Due x.step) → ys ≡ []) → Whole (suc b) (x ∷ ys) →
          (Follow P (members_after ms x.step) xs → Follow P (members_after ms x.step) ys → Whole b xs → Whole b ys → ys ≡ xs) → ys ≡ xs
      rest (inl d) p i q next = next f.2 p (whole_later b x xs d v) (whole_later b x ys d q)
      rest (inr d) p i q next = i d ∙ sym (f.1 d)

-- the end that a last step stands for
abbrev end_of_last : Option Step → End
end_of_last None = end.Spent
end_of_last (Some Stuck) = end.Stuck
end_of_last (Some (Found o (Enter w))) = end.Spent
end_of_last (Some (Found o (Leave k))) = end.Spent
end_of_last (Some (Found o Full)) = end.Full
end_of_last (Some (Found o Done)) = end.Done

spent_is : (o : Option Step) → IfSome o Due → end.Spent ≡ end_of_last o
spent_is None d = refl
spent_is (Some Stuck) d = absurd d
spent_is (Some (Found o (Enter w))) d = refl
spent_is (Some (Found o (Leave k))) d = refl
spent_is (Some (Found o Full)) d = absurd d
spent_is (Some (Found o Done)) d = absurd d

ending_is : (b : ℕ) (ts : List Turn) (x : End) → EndsAs b ts x → x ≡ end_of_last (last ts)
ending_is b ts end.Done h = let e = h.1 in rw e
ending_is b ts end.Full h = let e = h.1 in rw e
ending_is b ts end.Stuck h = rw h
ending_is b ts end.Spent h = spent_is (last ts) h.0

module _ (j : Job) (b : ℕ) (r : Report) (e : r ≡ report_of (exchanged (problem_of j) b)) where
  pub lawful_run : LawfulRun (problem_of j) b (exchanged (problem_of j) b).offers r
  unfolding exchanged
  lawful_run =
      let L : Report → Type 0 = LawfulRun (problem_of j) b (exchanged (problem_of j) b).offers in
      let t = taken_from (problem_of j) (job_ordered j) b [] largest (omega arith) (λ k d l. absurd (omega arith)) largest_number in
      subst L (sym e)
      (record {
        turns = t.turns;
        follow = t.follow;
        counted = t.counted;
        within_budget = t.within_budget;
        offered = t.offered;
        ends = t.ends;
        smallest = told (taken t.turns) _ t.smallest (all_takable (problem_of j) [] t.turns t.follow);
      })

  pub alone_run : AloneRun (problem_of j) b (exchanged (problem_of j) b).offers r
  alone_run os q h =
      let f = lawful_run in
      let s = same_turns (problem_of j) (job_ordered j) b [] (omega arith) f.turns h.turns f.follow h.follow
      (whole (problem_of j) (job_ordered j) b f.turns r.end (let c = f.counted in let w = f.within_budget in omega arith) f.ends)
      (whole (problem_of j) (job_ordered j) b h.turns q.end (let c = h.counted in let w = h.within_budget in omega arith) h.ends) in
      let a : q.steps ≡ r.steps = h.counted ∙ ap length s ∙ sym f.counted in
      let n : q.end ≡ r.end = ending_is b h.turns q.end h.ends ∙ ap (λ ts. end_of_last (last ts)) s ∙ sym (ending_is b f.turns r.end f.ends) in
      let T : List Turn → Type 0 = λ ts. Told (taken ts) q.smallest in
      let m = subst T s h.smallest in
      (h.offered ∙ ap (flat_map (λ t. offers_of t.step)) s ∙ sym f.offered, a, n, told_same (taken f.turns) q.smallest r.smallest m f.smallest, told_same (taken f.turns) r.smallest q.smallest f.smallest m)
