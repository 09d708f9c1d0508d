-- Lemmas on the way back: from the last unknown up.
use Rattle.std.proofs.Common.{◌≡◌, ℕ, zero, suc, ◌+◌, ◌-◌, ◌<◌, ◌≤◌, true, false, List, [], ◌∷◌, ◌++◌, length, get_or, take, drop, set, replicate, Some, None, sym, ap, ◌∙◌, add-one, arith}
use lib.Ieee.{Float}
use Rattle.std.proofs.Math.Seq.{take-set-lt}
use Rattle.std.proofs.lemmas.List.{drop_more, drop-set, drop_all, drop-take, length-drop, length-take-le, take-append-drop}
use Rattle.std.specs.Option.{option_map}
use Rattle.elimination.specs.Lines.{unknown_of, inside, one_more, unknowns_of, padded, none}

pub drop_of_take : {X : Type 0} (a n : ℕ) (xs : List X) → a ≤ n → drop a (take n xs) ≡ take (n - a) (drop a xs)
drop_of_take a n xs h =
    let e : a + (n - a) ≡ n = omega arith in
    ap (λ (m : ℕ). drop a (take m xs)) (sym e) ∙ drop-take a (n - a) xs

-- one line further up
pub unknowns_step : (n k : ℕ) (ls : List (List Float)) → k < length ls → unknowns_of n k (drop k ls) ≡ one_more n k (get_or ls k []) (unknowns_of n (k + 1) (drop (k + 1) ls))
unknowns_step n k ls h = let p = drop_more ls k [] h in rw (p, add-one)

-- a stuck line is stuck for all
pub stuck_up : (n k : ℕ) (ls : List (List Float)) → k ≤ length ls → None ≡ unknowns_of n k (drop k ls) → None ≡ unknowns_of n 0 ls
stuck_up n zero ls h e = e
stuck_up n (suc k) ls h e =
    let h' : k < length ls = omega arith in
    let e' : None ≡ unknowns_of n (k + 1) (drop (k + 1) ls) = rw add-one e in
    stuck_up n k ls (omega arith) (ap (one_more n k (get_or ls k [])) e' ∙ sym (unknowns_step n k ls h'))

pub stuck_here : (n k : ℕ) (ls : List (List Float)) (ys : List Float) → k < length ls → unknowns_of n (k + 1) (drop (k + 1) ls) ≡ Some ys →
    inside (unknown_of n k (get_or ls k []) ys) ≡ false → None ≡ unknowns_of n k (drop k ls)
stuck_here n k ls ys h e t = sym (unknowns_step n k ls h ∙ rw (e, t))

pub found_here : (n k : ℕ) (ls : List (List Float)) (us : List Float) (x : Float) → k < length ls → k < length us → unknowns_of n (k + 1) (drop (k + 1) ls) ≡ Some (drop (k + 1) us) →
    x ≡ unknown_of n k (get_or ls k []) (drop (k + 1) us) → inside x ≡ true →
    unknowns_of n k (drop k ls) ≡ Some (drop k (set us k x))
found_here n k ls us x h l e q t =
    let t' : inside (unknown_of n k (get_or ls k []) (drop (k + 1) us)) ≡ true = ap inside (sym q) ∙ t in
    unknowns_step n k ls h ∙ rw (e, t') (ap Some (sym (drop-set us k x l ∙ ap (λ z. z ∷ drop (k + 1) us) q)))

-- in a square: the unknowns are the first of us, one for each line
module _ (ls : List (List Float)) (us : List Float) (b : length ls ≤ length us) where
  abbrev n : ℕ
  n = length ls

  -- what is found before the first line is read
  pub none_yet : unknowns_of n n (drop n ls) ≡ Some (drop n (take n us))
  none_yet =
      let m = length-take-le n us b in
      let p = drop_all n ls (omega arith) in
      let q = drop_all n (take n us) (omega arith) in
      rw (p, q)

  pub all_found : unknowns_of n 0 ls ≡ Some (take n us) → drop n us ≡ replicate (32 - n) none → Some us ≡ option_map padded (unknowns_of n 0 ls)
  all_found e r =
      let m = length-take-le n us b in
      rw e (ap Some (sym (take-append-drop n us) ∙ ap (λ z. take n us ++ z) (r ∙ rw m)))

  module _ (j : ℕ) (h : j < n) (x : Float)
      (q : x ≡ unknown_of (j + length (take (n - (j + 1)) (drop (j + 1) us)) + 1) j (get_or ls j []) (take (n - (j + 1)) (drop (j + 1) us))) (i : unknowns_of n (j + 1) (drop (j + 1) ls) ≡ Some (drop (j + 1) (take n us))) where
    x_is : x ≡ unknown_of n j (get_or ls j []) (drop (j + 1) (take n us))
    x_is =
        let l = length-drop (j + 1) us in
        let t = length-take-le (n - (j + 1)) (drop (j + 1) us) (omega arith) in
        let m : j + length (take (n - (j + 1)) (drop (j + 1) us)) + 1 ≡ n = omega arith in
        let d = drop_of_take (j + 1) n us (omega arith) in
        q ∙ ap (λ (y : ℕ). unknown_of y j (get_or ls j []) (take (n - (j + 1)) (drop (j + 1) us))) m ∙ ap (unknown_of n j (get_or ls j [])) (sym d)

    pub one_found : inside x ≡ true → unknowns_of n j (drop j ls) ≡ Some (drop j (take n (set us j x)))
    one_found t =
        let m = length-take-le n us b in
        found_here n j ls (take n us) x (omega arith) (omega arith) i x_is t ∙ ap (λ z. Some (drop j z)) (sym (take-set-lt n us j x h))

    pub one_outside : inside x ≡ false → None ≡ unknowns_of n 0 ls
    one_outside t = stuck_up n j ls (omega arith) (stuck_here n j ls (drop (j + 1) (take n us)) (omega arith) i (ap inside (sym x_is) ∙ t))
