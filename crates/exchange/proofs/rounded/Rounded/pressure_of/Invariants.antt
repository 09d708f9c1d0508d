use Rattle.std.proofs.Common.{◌≡◌}
use Rattle.std.specs.Slice.Iter.{iter_rest}
use Rattle.std.specs.Iterator.Adapters.{zip_first, zip_second}
use Rattle.exchange.specs.Offers.{pressure_of}
use Rattle.exchange.proofs.rounded.Rounded.pressure_of.Given as goal

-- the members that are left give the answer
abbrev pub invariant-loop-member : goal.invariant-loop-member
invariant-loop-member l = pressure_of (iter_rest (zip_first l.member-iterator)) (iter_rest (zip_second l.member-iterator)) l.limit ≡ pressure_of l.self.set.members.now l.self.pressures.now l.limit
