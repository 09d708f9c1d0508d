use Rattle.std.proofs.Common.{◌≡◌, sym, refl, ap, ◌∙◌, subst, arith}
use Rattle.job.specs.Bounds.{InBounds}
use Rattle.job.specs.Numbers.{problem_of}
use Rattle.job.specs.declared.numbers.Job.{Job}
use Rattle.walk.specs.Running.{Tracks}
use Rattle.walk.specs.Walks.{first_move}
use Rattle.walk.proofs.AlongSizes.{inside_at, tracks_at}
use Rattle.walk.proofs.Following.{tame, tracks_after}
use Rattle.walk.proofs.Steps.{found_listed, found_descends, found_small, inside_after}
use Rattle.walk.proofs.Turns.{walk_turn, ends_settled, ends_spent, from_start}
use Rattle.walk.proofs.walks.descend.Goals as goal

pub loop-moves-init : goal.loop-moves-init
loop-moves-init c =
    record {
      same = c.at-room.ensures.job;
      inside = subst (λ (j : Job). InBounds (problem_of j) c.args.z.now) (sym c.at-room.ensures.job) c.requires;
      tracks = subst (λ (j : Job). Tracks j c.args.z.now c.at-room.result) (sym c.at-room.ensures.job) c.at-room.ensures.tracks;
      rest = from_start (problem_of c.args.job.now) c.args.budget c.args.z.now;
    }

pub returns-in_default : goal.returns-in_default
returns-in_default c =
    let e = c.in_default.ensures.value ∙ ap (λ (j : Job). first_move (problem_of j) c.loop-moves.z) c.loop-moves.invariant.same in
    ends_settled (problem_of c.args.job.now) c.args.budget c.loop-moves.moves c.loop-moves.moves c.loop-moves.z c.search.new.z _ refl e c.in_default.ensures.point
    c.loop-moves.invariant.rest

pub shift-requires : goal.shift-requires
shift-requires c =
    let e = sym c.in-Some.ensures.value in
    record {
      tame = tame c.loop-moves.room.job.now c.loop-moves.z c.loop-moves.room c.loop-moves.invariant.inside c.loop-moves.invariant.tracks;
      movable = record {
        there = (found_listed (problem_of c.loop-moves.room.job.now) c.loop-moves.z c.in-Some.m e).1.0;
        small = found_small (problem_of c.loop-moves.room.job.now) c.loop-moves.z c.in-Some.m e;
      };
    }

pub loop-moves-preserved : goal.loop-moves-preserved
loop-moves-preserved c =
    let j = c.loop-moves.room.job.now in
    let e = sym c.in-Some.ensures.value in
    let s = (found_descends (problem_of j) c.loop-moves.z c.in-Some.m e).0 in
    let y = c.in-Some.ensures.point in
    let stays = c.shift.ensures.job in
    let inside = inside_at (problem_of j) _ _ y (inside_after (problem_of j) c.loop-moves.z c.in-Some.m c.loop-moves.invariant.inside s) in
    let tracks =
    tracks_at j _ _ c.shift.new.self y
    (tracks_after j c.loop-moves.z c.in-Some.m s.rope_there c.loop-moves.invariant.inside.long c.loop-moves.room c.shift.new.self c.loop-moves.invariant.tracks
    c.shift.ensures.sums) in
    record {
      same = stays ∙ c.loop-moves.invariant.same;
      inside = subst (λ (i : Job). InBounds (problem_of i) c.search.new.z) (sym stays) inside;
      tracks = subst (λ (i : Job). Tracks i c.search.new.z c.shift.new.self) (sym stays) tracks;
      rest = walk_turn (problem_of c.args.job.now) c.args.budget c.loop-moves.moves c.loop-moves.z c.search.new.z c.in-Some.m _ (omega arith)
          (c.in-Some.ensures.value ∙ ap (λ (i : Job). first_move (problem_of i) c.loop-moves.z) c.loop-moves.invariant.same) y c.loop-moves.invariant.rest;
    }

pub returns-in-None : goal.returns-in-None
returns-in-None c =
    let all : c.args.budget ≡ c.loop-moves.moves = omega arith in
    let e = c.in-None.ensures.value ∙ ap (λ (j : Job). first_move (problem_of j) c.loop-moves.z) c.loop-moves.invariant.same in
    ends_settled (problem_of c.args.job.now) c.args.budget c.loop-moves.moves c.args.budget c.loop-moves.z c.search-2.new.z _ all e c.in-None.ensures.point
    c.loop-moves.invariant.rest

pub returns-in-Some-search : goal.returns-in-Some-search
returns-in-Some-search c =
    let all : c.args.budget ≡ c.loop-moves.moves = omega arith in
    let e = c.in-Some-search.ensures.value ∙ ap (λ (j : Job). first_move (problem_of j) c.loop-moves.z) c.loop-moves.invariant.same in
    ends_spent (problem_of c.args.job.now) c.args.budget c.loop-moves.moves c.args.budget c.loop-moves.z c.search-2.new.z c.in-Some-search.field-0 _ all e
    c.in-Some-search.ensures.point (omega arith) c.loop-moves.invariant.rest
