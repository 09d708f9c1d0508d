-- A text in a list with room for it or without.
use Rattle.std.proofs.Common.{◌≡◌, ℕ, ◌≤◌, Bool, true, false, cond, leb, List, length, drop, ℤ, IfOk, Ok, Err, Result, sym, refl, ap, ◌∙◌, subst, arith}
use Rattle.std.proofs.lemmas.List.{length-append, length-drop}
use Rattle.opening.specs.declared.refusal.Refusal.{Refusal}
use Rattle.opening.specs.declared.refusal.Refusal.TheVariants.{OfferLength}
use Rattle.lines.specs.declared.unwritten.Unwritten.{Unwritten}
use Rattle.lines.specs.declared.unwritten.Unwritten.TheVariants.{Short}
use Rattle.lines.specs.Answers.{Check, room_check, point_check, or_else, sheet_check, answered, list_after}
use Rattle.print.specs.Printing.{print_answer, print_after}

-- a text that has no room, as a plan refuses it
abbrev pub room_refused : Result ℕ Unwritten → Result ℕ Refusal
room_refused (Ok bytes) = Ok bytes
room_refused (Err e) = Err (OfferLength 320)

-- where the point is right, only the room is refused
pub room_only : (n : ℕ) (p : Check) → p ≡ Ok tt → or_else (room_check n) p ≡ room_check n
room_only n p e = by (leb 320 n)
  where
    by : (b : Bool) → or_else (cond b (Ok tt) (Err (Short 320))) p ≡ cond b (Ok tt) (Err (Short 320))
    by true = e
    by false = refl

pub printed_answer : (out text : List ℕ) (r : Result ℕ Unwritten) (t : Result ℕ Refusal) → t ≡ room_refused r → r ≡ answered (room_check (length out)) text → t ≡ print_answer text out
printed_answer out text r t et er = et ∙ ap room_refused er ∙ by (leb 320 (length out))
  where
    by : (b : Bool) → room_refused (answered (cond b (Ok tt) (Err (Short 320))) text) ≡ cond b (Ok (length text)) (Err (OfferLength 320))
    by true = refl
    by false = refl

-- a list keeps its length, so that what is answered is no more than that
pub printed_fits : (out after text : List ℕ) (t : Result ℕ Refusal) → t ≡ print_answer text out → after ≡ print_after text out → length after ≡ length out → IfOk t (λ n. n ≤ length out)
printed_fits out after text t et ea long = subst (λ r. IfOk r (λ n. n ≤ length out)) (sym et) (by (leb 320 (length out)) (sym (ap length ea) ∙ long))
  where
    by : (b : Bool) → length (list_after (cond b (Ok tt) (Err (Short 320))) text out) ≡ length out → IfOk (cond b (Ok (length text)) (Err (OfferLength 320))) (λ n. n ≤ length out)
    by true e = omega (arith, length-append text (drop (length text) out), length-drop (length text) out)
    by false e = tt

-- what is written of a right point
pub sheet_answer : (out t u : List ℕ) (z : List ℤ) (r : Result ℕ Unwritten) → point_check z ≡ Ok tt → t ≡ u → r ≡ answered (sheet_check out z) t → r ≡ answered (room_check (length out)) u
sheet_answer out t u z r p e er = er ∙ ap (λ c. answered c t) (room_only (length out) (point_check z) p) ∙ ap (answered (room_check (length out))) e

pub sheet_after : (out t u after : List ℕ) (z : List ℤ) → point_check z ≡ Ok tt → t ≡ u → after ≡ list_after (sheet_check out z) t out → after ≡ print_after u out
sheet_after out t u after z p e ea =
    ea ∙ ap (λ c. list_after c t out) (room_only (length out) (point_check z) p) ∙ ap (λ x. list_after (room_check (length out)) x out) e
