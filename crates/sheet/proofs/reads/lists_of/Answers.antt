use Rattle.card.specs.Faults.{n_of, m_of}
use Rattle.sheet.specs.declared.card_job.CardLists.{CardLists}
use Rattle.sheet.proofs.Counts.{lists_read}
use Rattle.sheet.proofs.reads.lists_of.Goals as goal

pub returns : goal.returns
returns c =
    let card = c.args.card.now.bytes.now in
    let x : CardLists
    = record { costs = c.section_numbers.result; bounds = c.section_numbers-2.result; limits = c.section_numbers-3.result; slip = c.section_numbers-4.result } in
    lists_read card (n_of card) (m_of card) x c.section_numbers.ensures c.section_numbers-2.ensures c.section_numbers-3.ensures c.section_numbers-4.ensures
