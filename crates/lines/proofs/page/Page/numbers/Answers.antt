use Rattle.std.proofs.Common.{◌++◌, get_or, pos, ap, ◌∙◌, w64, SFits, rules}
use Rattle.std.specs.Fmt.{signed_decimal}
use Rattle.std.proofs.lemmas.Int.{to_z-of_z}
use Rattle.lines.proofs.Spreading.{room_end, all_put, room_more, put_more}
use Rattle.lines.proofs.page.Page.numbers.Goals as goal

pub word-requires : goal.word-requires
word-requires c = room_end c.args.numbers.now c.args.self.now.text.bytes c.loop-z.self.text.bytes c.loop-z.z-index _ c.loop-z.invariant c.requires

pub word-requires-in-loop-z : goal.word-requires-in-loop-z
word-requires-in-loop-z c =
    let f : SFits w64 (get_or c.args.numbers.now c.loop-z.z-index (pos 0)) = search rules in
    room_more c.args.numbers.now c.args.self.now.text.bytes c.loop-z.self.text.bytes c.loop-z.z-index _ c.loop-z.invariant
    c.loop-z-test.true c.format.result.now (c.format.ensures.text ∙ ap signed_decimal (to_z-of_z w64 _ f)) c.word.new.self.text.bytes c.word.ensures.size c.requires

pub loop-z-preserved : goal.loop-z-preserved
loop-z-preserved c =
    let f : SFits w64 (get_or c.args.numbers.now c.loop-z.z-index (pos 0)) = search rules in
    c.word-in-loop-z.ensures.text
    ∙ (ap (λ t. t ++ c.format.result.now) c.word.ensures.text
    ∙ put_more c.args.numbers.now c.args.self.now.text.bytes c.loop-z.self.text.bytes c.loop-z.z-index 320 c.loop-z.invariant
    c.loop-z-test.true c.format.result.now (c.format.ensures.text ∙ ap signed_decimal (to_z-of_z w64 _ f)))

pub word-requires-2 : goal.word-requires-2
word-requires-2 c = room_end c.args.numbers.now c.args.self.now.text.bytes c.loop-z.self.text.bytes c.loop-z.z-index _ c.loop-z.invariant c.requires

pub returns : goal.returns
returns c =
    c.word-2.ensures.text
    ∙ all_put c.args.numbers.now c.args.self.now.text.bytes c.loop-z.self.text.bytes c.loop-z.z-index 320 c.loop-z.invariant c.loop-z-test.false
