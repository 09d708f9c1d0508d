-- One text after another.
use Rattle.std.proofs.Common.{◌≡◌, ℕ, List, [], ◌∷◌, ◌++◌, map, ℤ, codes, decimal, ap, ◌∙◌}
use Rattle.std.specs.Fmt.{signed_decimal}
use Rattle.std.proofs.lemmas.List.{append_assoc}
use Rattle.calls.specs.declared.answers.Report.{Report}
use Rattle.calls.specs.declared.answers.Shown.{Shown}
use Rattle.exchange.specs.Ends.{name_of as exchange_word}
use Rattle.walk.specs.Ends.{name_of as walk_word}
use Rattle.lines.specs.Texts.{rest, point_lines, found_text, sheet_text}

pub adds : (p q r x y : List ℕ) → q ≡ p ++ x → r ≡ q ++ y → r ≡ p ++ (x ++ y)
adds p q r x y e f = f ∙ ap (λ t. t ++ y) e ∙ append_assoc p x y

abbrev pub numbered : List ℕ → ℤ → List ℕ
numbered label z = label ++ (signed_decimal z ++ (10 ∷ []))

pub point_is : (p q r s t u : List ℕ) (cost floor gap : ℤ) (z : List ℤ) → q ≡ p ++ numbered (codes "cost ") cost → r ≡ q ++ numbered (codes "floor ") floor
    → s ≡ r ++ numbered (codes "gap ") gap → t ≡ s ++ codes "point" → u ≡ t ++ rest (map signed_decimal z) → u ≡ p ++ point_lines cost floor gap z
point_is p q r s t u cost floor gap z a b c d e =
    adds p q u (numbered (codes "cost ") cost) _ a
    (adds q r u (numbered (codes "floor ") floor) _ b
    (adds r s u (numbered (codes "gap ") gap) _ c (adds s t u (codes "point") (rest (map signed_decimal z)) d e)))

pub sheet_is : (n : Report) (v : Shown) (z : List ℤ) (o p q r s t w x : List ℕ) → o ≡ [] → p ≡ o ++ (codes "exchange " ++ decimal n.steps)
    → q ≡ p ++ w → w ≡ 32 ∷ (exchange_word n.exchange ++ (10 ∷ [])) → r ≡ q ++ (codes "moves " ++ decimal n.moves) → s ≡ r ++ x
    → x ≡ 32 ∷ (walk_word n.walk ++ (10 ∷ [])) → t ≡ s ++ found_text v.floor z v.found → t ≡ sheet_text n v z
unfolding sheet_text
sheet_is n v z o p q r s t w x eo ep eq ew er es ex et =
    let exchange = adds o p q (codes "exchange " ++ decimal n.steps) _ ep (eq ∙ ap (λ l. p ++ l) ew) in
    let moves = adds q r s (codes "moves " ++ decimal n.moves) _ er (es ∙ ap (λ l. r ++ l) ex) in
    adds o q t _ _ exchange (adds q s t _ (found_text v.floor z v.found) moves et) ∙ ap (λ l. l ++ sheet_text n v z) eo
