-- Lemmas on the definitions of specs/Lines.antt.
use Rattle.std.proofs.Common.{◌≡◌, ℕ, suc, ◌+◌, ◌-◌, ◌<◌, ◌≤◌, true, false, cond, List, [], ◌∷◌, ◌++◌, length, get_or, take, drop, set, sym, refl, ap, ◌∙◌, add-one, arith}
use lib.Ieee.{Float, nan, binary64, div, lt}
use Rattle.std.proofs.lemmas.List.{take_more_set, drop-set-lt, drop_more, append_assoc, append-nil, take_all, drop_all, take_rest, length-drop, length-append, length-take}
use borrow.Rule.Slice.PartMut.{put_mid}
use Rattle.elimination.specs.Lines.{at, lose, less, cleared, size_of, pick}

pub less_more : (f : Float) (xs ys : List Float) (i : ℕ) → i < length xs → i < length ys →
    take (i + 1) (set xs i (lose f (at xs i) (at ys i))) ++ less f (drop (i + 1) (set xs i (lose f (at xs i) (at ys i)))) (drop (i + 1) ys)
    ≡ take i xs ++ less f (drop i xs) (drop i ys)
less_more f xs ys i h k =
    let lt : i < i + 1 = omega arith in
    let a = drop_more xs i nan h in
    let b = drop_more ys i nan k in
    rw (take_more_set xs i _ h, drop-set-lt (i + 1) xs i _ lt, append_assoc, a, b)

pub less_all : (f : Float) (xs ys : List Float) (i : ℕ) → length xs ≤ i → take i xs ++ less f (drop i xs) (drop i ys) ≡ xs
less_all f xs ys i h = rw (take_all i xs h, drop_all i xs h, append-nil)

pub less_rest : (f : Float) (xs ys : List Float) → less f (take (length ys) xs) ys ++ drop (length ys) xs ≡ less f xs ys
less_rest f [] [] = refl
less_rest f (x ∷ xs) [] = refl
less_rest f [] (y ∷ ys) = refl
less_rest f (x ∷ xs) (y ∷ ys) = ap (λ z. lose f x y ∷ z) (less_rest f xs ys)

-- after a write to the places of a line from k + 1 to where the pivot's line ends
pub cleared_put : (k : ℕ) (p xs ys : List Float) →
    ys ≡ less (div binary64 (at xs k) (at p k)) (take (length p - (k + 1)) (drop (k + 1) xs)) (take (length p - (k + 1)) (drop (k + 1) p)) →
    put_mid (k + 1) (length p - (k + 1)) xs ys ≡ cleared k p xs
cleared_put k p xs ys e =
    let f = div binary64 (at xs k) (at p k) in
    let q = drop (k + 1) p in
    let l : length q ≡ length p - (k + 1) = length-drop (k + 1) p in
    let h : ys ≡ less f (take (length q) (drop (k + 1) xs)) q = rw (take_rest p (k + 1), ← l) at e in
    ap (λ z. take (k + 1) xs ++ z) (rw (h, ← l) (less_rest f (drop (k + 1) xs) q))

pub length_less : (f : Float) (xs ys : List Float) → length (less f xs ys) ≡ length xs
length_less f [] ys = refl
length_less f (x ∷ xs) [] = refl
length_less f (x ∷ xs) (y ∷ ys) = ap suc (length_less f xs ys)

pub length_cleared : (k : ℕ) (p xs : List Float) → length (cleared k p xs) ≡ length xs
length_cleared k p xs =
    let f = div binary64 (at xs k) (at p k) in
    let a = length-append (take (k + 1) xs) (less f (drop (k + 1) xs) (drop (k + 1) p)) in
    let b = length_less f (drop (k + 1) xs) (drop (k + 1) p) in
    omega (arith, a, b, length-drop (k + 1) xs, length-take (k + 1) xs)

-- one line down in the search for the pivot
pub pick_more : (k i p : ℕ) (s : Float) (ls : List (List Float)) (x : Float) → i < length ls → x ≡ at (get_or ls i []) k →
    pick k i p s (drop i ls) ≡ pick k (i + 1) (cond (lt s (size_of x)) i p) (cond (lt s (size_of x)) (size_of x) s) (drop (i + 1) ls)
pick_more k i p s ls x h e = rw (e, add-one) (let d = drop_more ls i [] h in rw (d, add-one))

pub pick_then : (k i p : ℕ) (s x z : Float) (ls : List (List Float)) → i < length ls → x ≡ at (get_or ls i []) k → z ≡ size_of x → lt s z ≡ true →
    pick k (i + 1) i z (drop (i + 1) ls) ≡ pick k i p s (drop i ls)
pick_then k i p s x z ls h e q t =
    let t' : lt s (size_of x) ≡ true = ap (λ y. lt s y) (sym q) ∙ t in
    sym (pick_more k i p s ls x h e ∙ rw (t', ← q))

pub pick_else : (k i p : ℕ) (s x z : Float) (ls : List (List Float)) → i < length ls → x ≡ at (get_or ls i []) k → z ≡ size_of x → lt s z ≡ false →
    pick k (i + 1) p s (drop (i + 1) ls) ≡ pick k i p s (drop i ls)
pick_else k i p s x z ls h e q t =
    let t' : lt s (size_of x) ≡ false = ap (λ y. lt s y) (sym q) ∙ t in
    sym (pick_more k i p s ls x h e ∙ rw t')
