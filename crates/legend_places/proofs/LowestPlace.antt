-- The trial of places: at each place letters are compared from the last one backwards until one differs or all agree.
--   Came x t e c      == x stands at none of the places passed, and c letters agreed there; at the next place it would end with letter e of t
--   Agrees x t e c k  == it fits there, and its last k letters agree
--   trial-..          == the turns of both loops
--   short-.., whole-.. == the values with which the trial is left: x fits no more, or all its letters agree
use mathlib.Core.Path.{◌≡◌, sym, ◌∙◌, ap}
use mathlib.Core.Bool.{true}
use mathlib.Core.List.{List, [], ◌∷◌}
use Prim.Native.Nat.{ℕ, suc, ◌+◌, ◌-◌, ◌*◌, ◌≤◌, ◌<◌}
use native.Mathlib.Nat.{add-zero}
use native.Mathlib.Omega.{arith}
use lib.ListN.{length, get_or, drop, drop_of_length-le, length-drop}
use lib.Seq.{drop-cons, drop-drop, get_or-drop}
use Rattle.words.specs.Words.{begins}
use Rattle.words.proofs.Strings.{begins_cons}
use Rattle.trays.specs.Limits.{max_slip}
use Rattle.greedy.specs.Legends.{lowest, agreeing, tried}
use Rattle.greedy.proofs.Tried.{Differs, agreeing_to, lowest-here, lowest_next, lowest_short, tried_here, tried_next, tried_short}

pub record Came (x t : List ℕ) (e c : ℕ) : Type 0 where
  pub start : length x ≤ e
  pub within : e ≤ length t + length x
  pub place_is : lowest 1 x t ≡ lowest (e - length x + 1) x (drop (e - length x) t)
  pub count_is : tried x t ≡ c + (e - length x) + tried x (drop (e - length x) t)
  pub few : c + (e - length x) ≤ max_slip * (e - length x)

pub record Agrees (x t : List ℕ) (e c k : ℕ) : Type 0 where
  pub came : Came x t e c
  pub fits : e ≤ length t
  pub upto : k ≤ length x
  pub behind : begins (drop (length x - k) x) (drop (e - k) t) ≡ true

module _ (x t : List ℕ) where
  module _ (e c : ℕ) (a : Came x t e c) where
    abbrev rest : List ℕ
    rest = drop (e - length x) t

    rest_length : length rest ≡ length t - (e - length x)
    rest_length = length-drop (e - length x) t

    -- a place at which x fits
    trial_place : e ≤ length t → Agrees x t e c 0
    trial_place h =
        let none : drop (length x - 0) x ≡ [] = drop_of_length-le x {i = length x - 0} (omega arith) in
        record { came = a; fits = h; upto = omega arith; behind = ap (λ (y : List ℕ). begins y (drop (e - 0) t)) none }

    -- it fits no more
    module _ (h : length t < e) where
      short : length rest < length x
      short = omega (arith, rest_length, a.start)

      pub short_place : (f : ℕ) → f ≡ length t + 1 → f ≡ lowest 1 x t
      short_place f q = q ∙ sym (a.place_is ∙ lowest_short (e - length x + 1) x rest short ∙ omega (arith, rest_length, a.within))

      pub short_count : (f d : ℕ) → f ≡ e → d ≡ c → d + (f - length x) ≡ tried x t
      short_count f d p q = omega (arith, a.count_is, tried_short x rest short)

  module _ (e c k : ℕ) (a : Agrees x t e c k) (l : k < length x) where
    -- the letter that is compared next, in x and in t
    abbrev j : ℕ
    j = length x - (k + 1)

    here : drop j x ≡ get_or x j 0 ∷ drop (length x - k) x
    here = let q : suc j ≡ length x - k = omega arith in drop-cons x j 0 (omega arith) ∙ rw q

    there : drop (e - (k + 1)) t ≡ get_or t (e - (k + 1)) 0 ∷ drop (e - k) t
    there =
        let q : suc (e - (k + 1)) ≡ e - k = omega (arith, a.came.start) in
        drop-cons t (e - (k + 1)) 0 (omega (arith, a.fits, a.came.start)) ∙ rw q

    pub trial_agrees : get_or t (e - (k + 1)) 0 ≡ get_or x (length x - (k + 1)) 0 → Agrees x t e c (k + 1)
    trial_agrees q =
        record {
          came = a.came;
          fits = a.fits;
          upto = omega arith;
          behind = rw (here, there) (begins_cons _ _ (drop (length x - k) x) (drop (e - k) t) (sym q) a.behind);
        }

    -- the same in what is left of t
    abbrev p : ℕ
    p = e - length x

    abbrev y : List ℕ
    y = drop p t

    long : length x ≤ length y
    long = omega (arith, length-drop p t, a.fits, a.came.start)

    behind-here : begins (drop (suc j) x) (drop (suc j) y) ≡ true
    behind-here =
        let q : suc j ≡ length x - k = omega arith in
        let r : p + (length x - k) ≡ e - k = omega (arith, a.came.start) in
        rw (q, drop-drop (length x - k) p t, r) a.behind

    letter_here : get_or y j 0 ≡ get_or t (e - (k + 1)) 0
    letter_here = let r : p + j ≡ e - (k + 1) = omega (arith, a.came.start) in get_or-drop p t j 0 ∙ ap (λ (n : ℕ). get_or t n 0) r

    -- one letter differs: on to the next place
    pub trial_differs : length x ≤ max_slip → (get_or t (e - (k + 1)) 0 ≡ get_or x (length x - (k + 1)) 0 → ⊥) → Came x t (e + 1) (c + k)
    trial_differs m d =
        let f : Differs x y j = agreeing_to x y j long (omega arith) behind-here (λ q. d (sym (q ∙ letter_here))) in
        let some : 1 ≤ length y = omega (arith, long) in
        let next : p + 1 ≡ e + 1 - length x = omega (arith, a.came.start) in
        let on : drop 1 y ≡ drop (e + 1 - length x) t = drop-drop 1 p t ∙ rw next in
        let count : tried x y ≡ suc (agreeing x y) + tried x (drop 1 y) = tried_next x y some long f.not-here in
        record {
          start = omega (arith, a.came.start);
          within = omega (arith, a.fits);
          place_is = a.came.place_is ∙ lowest_next (p + 1) x y some f.not-here ∙ rw (next, on);
          count_is = omega (arith, a.came.count_is, count, f.agree, ap (tried x) on);
          few = omega (arith, a.came.few);
        }

  -- the same of the last letter, which is compared first
  module _ (e c : ℕ) (some : 1 ≤ length x) (a : Came x t e c) (h : e ≤ length t) where
    pub trial_other : length x ≤ max_slip → (get_or t (e - 1) 0 ≡ get_or x (length x - 1) 0 → ⊥) → Came x t (e + 1) c
    trial_other m d = rw (add-zero c) at (trial_differs e c 0 (trial_place e c a h) some m d)

  -- all agree
  module _ (e c k : ℕ) (a : Agrees x t e c k) (z : length x ≤ k) where
    stands : begins x (drop (e - length x) t) ≡ true
    stands =
        let q : k ≡ length x = omega (arith, a.upto) in
        let r : length x - length x ≡ 0 = omega arith in
        rw (q, r) at a.behind

    pub whole-place : (f : ℕ) → f ≡ e - length x + 1 → f ≡ lowest 1 x t
    whole-place f q = q ∙ sym (a.came.place_is ∙ lowest-here (e - length x + 1) x (drop (e - length x) t) stands)

    pub whole_count : (f d : ℕ) → f ≡ e → d ≡ c + length x → d + (f - length x) ≡ tried x t
    whole_count f d p q = omega (arith, a.came.count_is, tried_here x (drop (e - length x) t) stands)
