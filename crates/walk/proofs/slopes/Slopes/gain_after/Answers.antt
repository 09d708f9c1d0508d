use Rattle.std.proofs.Common.{◌≡◌, ℕ, ◌+◌, ◌*◌, ◌^◌, List, ℤ, lit<, w64, SFits, rules}
use Rattle.std.proofs.lemmas.Int.{to_z-of_z}
use Rattle.duality.specs.Lists.{places}
use Rattle.terms.proofs.Bits.{back, back_is, item_back, small_of, small_back}
use Rattle.job.proofs.Reading.{g_at, g_small}
use Rattle.job.specs.Numbers.{problem_of}
use Rattle.job.specs.declared.numbers.Job.{Job}
use Rattle.walk.specs.Running.{gain_of}
use Rattle.walk.proofs.slopes.Slopes.gain_after.Goals as goal

-- the curvature, with as many ropes as the program asked for
curve_is : (j : Job) (k n : ℕ) (xs : List ℤ) → n ≡ (problem_of j).ropes → xs ≡ j.g.items → back (places xs (k * n + k)) ≡ (problem_of j).G k k
curve_is j k n xs en ex = rw en (g_at j k k xs ex)

pub gain-requires : goal.gain-requires
gain-requires c =
    let h = c.requires.1 c.args.shift.rope in
    record {
      slope = small_of (2 ^ 41) _ _ (item_back (2 ^ 41) _ c.args.self.now.slopes.items c.args.shift.rope c.deref.ensures.0 h (lit< tt)) h;
      curve = small_of 1048576 _ _ (curve_is c.args.shift.job.now c.args.shift.rope _ _ c.ropes.ensures c.deref-2.ensures.0) (g_small c.args.shift.job.now _);
      d = small_back 16384 c.args.shift.by c.args.shift.small (lit< tt);
    }

gained : (slope curve d slope' curve' d' r : ℤ) → slope ≡ slope' → curve ≡ curve' → d ≡ d' → back r ≡ r → r ≡ gain_of slope curve d → back r ≡ gain_of slope' curve' d'
gained slope curve d slope' curve' d' r es ec ed eb er = cc

pub returns : goal.returns
returns c =
    let f : SFits w64 c.gain.result = search rules in
    gained _ _ _ _ _ _ c.gain.result
    (item_back (2 ^ 41) _ c.args.self.now.slopes.items c.args.shift.rope c.deref.ensures.0 (c.requires.1 c.args.shift.rope) (lit< tt))
    (curve_is c.args.shift.job.now c.args.shift.rope _ _ c.ropes.ensures c.deref-2.ensures.0) (back_is 16384 c.args.shift.by c.args.shift.small (lit< tt)) (to_z-of_z w64 _ f)
    c.gain.ensures
