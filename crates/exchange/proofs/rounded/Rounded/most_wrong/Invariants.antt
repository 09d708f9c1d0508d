use Rattle.std.proofs.Common.{◌≡◌, ◌≤◌, length, drop}
use Rattle.std.specs.Slice.Iter.{iter_rest}
use Rattle.std.specs.Iterator.Adapters.{zip_first, zip_second, enumerate_source, enumerate_count}
use Rattle.exchange.specs.Breaches.{upto}
use Rattle.exchange.specs.Choice.{more_wrong, unwronged}
use Rattle.exchange.proofs.rounded.Rounded.most_wrong.Given as goal

-- the most wrong of those that have gone by, and which are left
abbrev pub invariant-loop-k : goal.invariant-loop-k
invariant-loop-k l =
    (l.most ≡ upto (more_wrong l.self.set.members.now l.self.pressures.now) unwronged (enumerate_count l.k-iterator))
    × (iter_rest (zip_first (enumerate_source l.k-iterator)) ≡ drop (enumerate_count l.k-iterator) l.self.set.members.now)
    × (iter_rest (zip_second (enumerate_source l.k-iterator)) ≡ drop (enumerate_count l.k-iterator) l.self.pressures.now)
    × (enumerate_count l.k-iterator ≤ length l.self.set.members.now)
