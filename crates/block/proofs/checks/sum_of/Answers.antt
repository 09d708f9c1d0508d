use Rattle.std.proofs.Common.{◌≡◌, ℕ, ◌+◌, ◌*◌, ◌<◌, ◌≤◌, List, length, get_or, take, sym, arith}
use Rattle.std.proofs.lemmas.List.{length-take-le}
use Rattle.std.proofs.lemmas.Nat.{mul-le}
use Rattle.block.proofs.Weighing.{weighed_more}
use Rattle.block.proofs.checks.sum_of.Goals as goal

weighed_bytes : (bytes : List ℕ) → length bytes ≡ 512 → length (take 510 bytes) ≡ 510
weighed_bytes bytes long = length-take-le 510 bytes (omega arith)

-- what one byte adds
adds : (k b : ℕ) → k < 510 → b ≤ 255 → (k + 1) * b ≤ 130050
adds k b h small = mul-le (k + 1) b 510 255 (omega arith) small

pub slice_bounds-byte-items-end : goal.slice_bounds-byte-items-end
slice_bounds-byte-items-end c = sym (weighed_bytes c.args.bytes.now c.requires)

pub overflow_cast-total : goal.overflow_cast-total
overflow_cast-total c = record { fits = omega (arith, weighed_bytes c.args.bytes.now c.requires) }

pub overflow_add-total : goal.overflow_add-total
overflow_add-total c = record { fits = omega (arith, weighed_bytes c.args.bytes.now c.requires) }

pub overflow_mul-total : goal.overflow_mul-total
overflow_mul-total c =
    let items = take 510 c.args.bytes.now in
    let small : get_or items c.loop-k.k 0 ≤ 255 = omega arith in
    let more = adds c.loop-k.k (get_or items c.loop-k.k 0) (omega (arith, weighed_bytes c.args.bytes.now c.requires)) small in
    record { fits = omega arith }

pub overflow_add-total-in-loop-k : goal.overflow_add-total-in-loop-k
overflow_add-total-in-loop-k c =
    let items = take 510 c.args.bytes.now in
    let small : get_or items c.loop-k.k 0 ≤ 255 = omega arith in
    let more = adds c.loop-k.k (get_or items c.loop-k.k 0) (omega (arith, weighed_bytes c.args.bytes.now c.requires)) small in
    record { fits = omega (arith, weighed_bytes c.args.bytes.now c.requires) }

pub loop-k-preserved : goal.loop-k-preserved
loop-k-preserved c =
    let items = take 510 c.args.bytes.now in
    let small : get_or items c.loop-k.k 0 ≤ 255 = omega arith in
    let less : c.loop-k.k < length items = omega arith in
    let more = adds c.loop-k.k (get_or items c.loop-k.k 0) (omega (arith, weighed_bytes c.args.bytes.now c.requires)) small in
    (omega (arith, weighed_more items c.loop-k.k less), omega arith)
