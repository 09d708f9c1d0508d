-- What is printed of a plan and of a refusal.
use Rattle.std.specs.Prelude.{ℕ, cond, List, length, replicate, ℤ, pos, Ok, Err, Result, nat_le}
use Rattle.opening.specs.declared.refusal.Refusal.{Refusal}
use Rattle.opening.specs.declared.refusal.Refusal.TheVariants.{OfferLength}
use Rattle.opening.specs.Refusals.{notice_of}
use Rattle.calls.specs.declared.answers.Report.{Report}
use Rattle.calls.specs.States.{State}
use Rattle.calls.specs.Steps.{shown, shown_in}
use Rattle.lines.specs.Answers.{room_check, list_after}
use Rattle.lines.specs.Texts.{sheet_text, refusal_text}

-- the list that show leaves, where it is handed zeros: the point that is shown, if one is
abbrev pub point_of : State → List ℤ
point_of s = shown_in s (replicate s.numbers.ropes (pos 0))

-- what a solve did, and what is shown
abbrev pub plan_text : Report → State → List ℕ
plan_text r s = sheet_text r (shown s) (point_of s)

-- the number and the first place of a refusal
abbrev pub refused_text : Refusal → List ℕ
refused_text e = refusal_text (notice_of e).number (notice_of e).first

-- how many bytes the text has; every text wants a list of 320
abbrev pub print_answer : List ℕ → List ℕ → Result ℕ Refusal
print_answer text out = cond (nat_le 320 (length out)) (Ok (length text)) (Err (OfferLength 320))

-- the text and then the bytes that stood past it, or the list as it stood
abbrev pub print_after : List ℕ → List ℕ → List ℕ
print_after text out = list_after (room_check (length out)) text out
