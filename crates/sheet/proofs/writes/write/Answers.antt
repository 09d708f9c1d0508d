use Rattle.std.proofs.Common.{◌≡◌, ◌≤◌, Ok, Err, length, refl, arith, rules}
use Rattle.opening.specs.Opening.{numbers_of}
use Rattle.opening.proofs.Firsts.{none_of}
use Rattle.sheet.proofs.Filling.{answered, built, can_write, carried, contents_are, counted, left, opening_refused, room_for, used_is}
use Rattle.sheet.proofs.writes.write.Goals as goal

pub unwrap-contents-requires : goal.unwrap-contents-requires
unwrap-contents-requires g c =
    built c.new.result c.sizes_of-sizes.result _ c.new.ensures
    (counted c.sizes_of-sizes.result (g.G.Table.meant c.args.g.now) (g.A.Table.meant c.args.a.now) (numbers_of c.args.lists.now) (c.in_ok-check_opening.ensures.law.fits refl)
    c.sizes_of-sizes.ensures.ropes c.sizes_of-sizes.ensures.rows c.numbers_of_job-numbers.result c.lent.result c.numbers_of_job-numbers.ensures c.lent.ensures)

pub unwrap-requires : goal.unwrap-requires
unwrap-requires g c =
    let G = g.G.Table.meant c.args.g.now in
    let A = g.A.Table.meant c.args.a.now in
    let x = numbers_of c.args.lists.now in
    let sizes = c.sizes_of-sizes.result in
    let e = contents_are sizes G A x (c.in_ok-check_opening.ensures.law.fits refl) c.sizes_of-sizes.ensures.ropes c.sizes_of-sizes.ensures.rows
    c.numbers_of_job-numbers.result c.lent.result c.numbers_of_job-numbers.ensures c.lent.ensures c.new.result c.unwrap-contents.result c.new.ensures c.unwrap-contents.ensures in
    let enough : c.card_bytes-needed.result ≤ length c.args.out.now = omega arith in
    let room = room_for sizes.ropes sizes.rows c.card_bytes-needed.result (length c.args.out.now) G A c.sizes_of-sizes.ensures.ropes c.sizes_of-sizes.ensures.rows
    c.card_bytes-needed.ensures enough in
    can_write c.unwrap-contents.result G A x e c.args.out.now room c.write.result c.write.ensures.answer

pub returns-in_err-check_opening-clause-answer : goal.returns-in_err-check_opening-clause-answer
returns-in_err-check_opening-clause-answer g c =
    let told : c.from_residual.result ≡ Err c.in_err-check_opening.field-0.0 = search rules in
    opening_refused _ _ _ _ _ _ told c.in_err-check_opening.ensures.value

pub returns : goal.returns
returns g c =
    let G = g.G.Table.meant c.args.g.now in
    let A = g.A.Table.meant c.args.a.now in
    let x = numbers_of c.args.lists.now in
    let y = c.unwrap-contents.result in
    let out = c.args.out.now in
    let sizes = c.sizes_of-sizes.result in
    let fits = c.in_ok-check_opening.ensures.law.fits refl in
    let e = contents_are sizes G A x fits c.sizes_of-sizes.ensures.ropes c.sizes_of-sizes.ensures.rows
    c.numbers_of_job-numbers.result c.lent.result c.numbers_of_job-numbers.ensures c.lent.ensures c.new.result c.unwrap-contents.result c.new.ensures c.unwrap-contents.ensures in
    let enough : c.card_bytes-needed.result ≤ length c.args.out.now = omega arith in
    let room = room_for sizes.ropes sizes.rows c.card_bytes-needed.result (length c.args.out.now) G A c.sizes_of-sizes.ensures.ropes c.sizes_of-sizes.ensures.rows
    c.card_bytes-needed.ensures enough in
    let wrote = c.write.ensures.answer in
    let used = used_is y G A x e out room c.write.result wrote c.unwrap.result c.unwrap.ensures in
    record {
      answer = answered y G A x e out room c.write.result wrote (Ok c.unwrap.result) used (none_of _ _ _ c.in_ok-check_opening.ensures.value);
      after = left y G A x e out room c.write.result wrote (Ok c.unwrap.result) used c.write.new.out c.write.ensures.after;
      carries = carried y G A x e out room c.write.result wrote (Ok c.unwrap.result) used fits c.write.ensures.passes c.write.ensures.reads;
    }
