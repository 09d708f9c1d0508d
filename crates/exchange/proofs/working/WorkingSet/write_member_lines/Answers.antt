use Rattle.std.proofs.Common.{ℕ, ◌+◌, List, length, ap, ◌∙◌, arith}
use lib.Ieee.{Float}
use Rattle.std.proofs.lemmas.List.{get_or_default}
use Rattle.job.specs.Numbers.{problem_of}
use Rattle.exchange.specs.Members.{blank}
use Rattle.exchange.specs.Systems.{size_of, floats, member_line, member_at}
use Rattle.exchange.specs.declared.members.Member.{Member}
use Rattle.exchange.specs.declared.working.WorkingSet.{WorkingSet}
use Rattle.exchange.proofs.Sets.{of_all}
use Rattle.exchange.proofs.Writing.{none_begun, place_long, one_line, all_lines, map_places, width_few}
use Rattle.exchange.proofs.working.WorkingSet.write_member_lines.Goals as goal

abbrev line : WorkingSet → Member → List Float
line s w = floats (member_line (problem_of s.job.now) s.members.now w)

abbrev line_at : WorkingSet → ℕ → List Float
line_at s k = line s (member_at s.members.now k)

abbrev width : WorkingSet → ℕ
width s = size_of (problem_of s.job.now) s.members.now + 1

pub loop-k-init : goal.loop-k-init
loop-k-init c =
    let s = c.args.self.now in
    none_begun (width s) 0 (line_at s) (width_few s) c.args.lines.now c.told-lines

pub write_member_line-requires : goal.write_member_line-requires
write_member_line-requires c =
    let s = c.args.self.now in
    record {
      limit = of_all _ _ s.members.now s.fitting c.loop-k.k _ (omega (arith, c.requires));
      all = place_long (width s) 0 (line_at s) (width_few s) _ c.loop-k.k c.loop-k.lines (ap (λ (i : ℕ). i + 1) c.size-width.ensures) (omega arith) (c.loop-k.invariant.1 c.loop-k.k (omega arith));
    }

pub loop-k-preserved : goal.loop-k-preserved
loop-k-preserved c =
    let s = c.args.self.now in
    let e = ap (λ (i : ℕ). i + 1) c.size-width.ensures in
    one_line (width s) 0 (line_at s) (width_few s) _ c.loop-k.k c.loop-k.lines c.write_member_line.new.line e (omega arith) c.loop-k.invariant
    (c.write_member_line.auto.line ∙ place_long (width s) 0 (line_at s) (width_few s) _ c.loop-k.k c.loop-k.lines e (omega arith) (c.loop-k.invariant.1 c.loop-k.k (omega arith)))
    (c.write_member_line.ensures ∙ ap (line s) (get_or_default s.members.now c.loop-k.k _ blank (omega (arith, c.requires))))

pub returns : goal.returns
returns c =
    let s = c.args.self.now in
    all_lines (width s) (length s.members.now) (line_at s) (width_few s) c.loop-k.lines (c.loop-k.auto.lines ∙ c.requires) c.loop-k.k (omega (arith, c.requires)) c.loop-k.invariant
    ∙ map_places (line s) s.members.now blank
