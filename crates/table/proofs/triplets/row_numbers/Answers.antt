use Rattle.std.proofs.Common.{◌≡◌, ◌-◌, length, reverse, pos, sym, refl, ◌∙◌, arith}
use lib.ListN.{get_or-replicate}
use Rattle.std.proofs.lemmas.List.{length-reverse, length_push}
use Rattle.std.proofs.lemmas.Iterator.Adapters.{YieldsList-from_rev_slice}
use Rattle.std.proofs.lemmas.Iterator.Consumers.{YieldsList-turn, YieldsList-end}
use Rattle.table.proofs.Firsts.{recorded_end, row_more}
use Rattle.table.proofs.triplets.row_numbers.Goals as goal

pub loop-record-init : goal.loop-record-init
loop-record-init c =
    (refl, λ j h. get_or-replicate 64 j (pos 0) (pos 0) h ∙ sym (recorded_end c.args.records.now _ c.args.i j (omega arith)))

pub loop-record-preserved : goal.loop-record-preserved
loop-record-preserved c =
    let rs = c.args.records.now in
    let t = YieldsList-turn (YieldsList-from_rev_slice rs cc) c.loop-record.yielded _ c.loop-record.yielded_by _ _ c.in-Some.record c.in-Some.is c.next.ensures.steps in
    let long : length (reverse rs) ≡ length rs = length-reverse rs in (
      c.put_into.auto.row ∙ c.loop-record.invariant.0,
      rw length_push
          (row_more rs (length c.loop-record.yielded) c.in-Some.record.now c.args.i c.loop-record.row c.put_into.new.row (omega arith) c.loop-record.invariant.0 t.1
          c.loop-record.invariant.1 c.put_into.ensures),
    )

pub returns : goal.returns
returns c =
    let rs = c.args.records.now in
    let t = YieldsList-end (YieldsList-from_rev_slice rs cc) c.loop-record.yielded _ c.loop-record.yielded_by _ _ c.in-None.is c.next.ensures.steps in
    let long : length (reverse rs) ≡ length rs = length-reverse rs in
    let all : length rs - length c.loop-record.yielded ≡ 0 = omega arith in
    rw all at c.loop-record.invariant.1
