use Rattle.std.proofs.Common.{subst}
use Rattle.calls.specs.Opened.{opened}
use Rattle.calls.specs.Honesty.{HoldsLawfully}
use Rattle.calls.proofs.Keeping.{always_lawful}
use Rattle.calls.proofs.Opened.{opened_fair}
use Rattle.calls.proofs.laws.held_is_lawful.Goals as goal

pub returns : goal.returns
returns c =
    record {
      lawful = λ g a x past t s. subst HoldsLawfully s.stands (always_lawful (opened g a x) past (opened_fair g a x s.opens));
      fairly = always_lawful;
      opens = opened_fair;
    }
