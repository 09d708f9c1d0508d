-- What is written of a number reads back as that number.
use Rattle.std.proofs.Common.{◌≡◌, ℕ, suc, ◌+◌, ◌/◌, ◌%◌, ◌^◌, ◌≤◌, ◌<◌, false, cond, eqb, List, [], ◌∷◌, ◌++◌, length, get_or, drop, pos, negsuc, neg_ℤ, decimal, ap, ◌∙◌, arith, ne_eqb}
use Rattle.std.specs.Str.Parse.{AllDigits, digits_value, without_leading_plus, starts_with_minus, signed_digits_value}
use Rattle.std.proofs.lemmas.Fmt.{decimal_is_IsNumeral_wide, decimal_by_steps_wide}
use Rattle.std.proofs.lemmas.Str.Parse.{digit_at}
use Rattle.lines.specs.Reading.{Legible}

-- digits with no sign
unsigned_value : (ds : List ℕ) → AllDigits 10 ds → 0 < length ds → signed_digits_value 10 ds ≡ pos (digits_value 10 ds)
unsigned_value ds d s =
    let first = digit_at ds 0 d s in
    let no_minus : starts_with_minus ds ≡ false = ne_eqb (get_or ds 0 0) 45 (λ e. omega (arith, first.0)) in
    let no_plus : eqb (get_or ds 0 0) 43 ≡ false = ne_eqb (get_or ds 0 0) 43 (λ e. omega (arith, first.0)) in
    ap (λ b. cond b (neg_ℤ (pos (digits_value 10 (cond b (drop 1 ds) (without_leading_plus ds))))) (pos (digits_value 10 (cond b (drop 1 ds) (without_leading_plus ds))))) no_minus
    ∙ ap (λ b. pos (digits_value 10 (drop (cond b 1 0) ds))) no_plus

-- the first digit
Leads : ℕ → List ℕ → Type 0
Leads n ds = (0 < length ds) × (0 < n → 48 < get_or ds 0 0)

leads_more : (n : ℕ) (ds : List ℕ) → 10 ≤ n → Leads (n / 10) ds → Leads n (ds ++ ((48 + n % 10) ∷ []))
unfolding Leads
leads_more n [] ten l = absurd (omega (arith, l.0))
leads_more n (d ∷ ds) ten l = (omega arith, λ some. l.1 (omega arith))

leads : (n : ℕ) → n < 10 ^ 63 → 0 < n → 48 < get_or (decimal n) 0 0
unfolding Leads
leads n h = (decimal_by_steps_wide Leads (λ m l. (omega arith, λ some. omega arith)) leads_more n (omega arith)).1

pub legible : Legible
legible (pos n) h =
    let r = decimal_is_IsNumeral_wide n (omega arith) in
    (unsigned_value (decimal n) r.0.1 r.0.0 ∙ ap pos r.1, leads n h)
legible (negsuc n) h = (ap (λ m. neg_ℤ (pos m)) (decimal_is_IsNumeral_wide (suc n) (omega arith)).1, leads (suc n) h)
