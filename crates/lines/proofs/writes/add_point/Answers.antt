use Rattle.std.proofs.Common.{◌++◌, codes, ap, ◌∙◌, arith, w64}
use mir.Syntax.{w128}
use Rattle.std.proofs.lemmas.Int.{to_z-of_z}
use Rattle.lines.proofs.Adding.{numbered, point_is}
use Rattle.lines.proofs.Bounding.{point_short}
use Rattle.lines.proofs.writes.add_point.Goals as goal

pub numbers-requires : goal.numbers-requires
numbers-requires c = omega (arith, point_short c.args.point.numbers.now c.args.point.few c.args.point.near)

pub returns : goal.returns
returns c =
    let p = c.args.page.now.text.bytes in
    let q = c.entry.new.self.text.bytes in
    let r = c.entry-2.new.self.text.bytes in
    point_is p q r _ _ _ c.args.cost c.args.floor c.args.gap c.args.point.numbers.now
    (c.entry.ensures.text ∙ ap (λ z. p ++ numbered (codes "cost ") z) (to_z-of_z w64 c.args.cost c.ranges.cost))
    (c.entry-2.ensures.text ∙ ap (λ z. q ++ numbered (codes "floor ") z) (to_z-of_z w128 c.args.floor c.ranges.floor))
    (c.entry-3.ensures.text ∙ ap (λ z. r ++ numbered (codes "gap ") z) (to_z-of_z w128 c.args.gap c.ranges.gap))
    c.word.ensures.text c.numbers.ensures
