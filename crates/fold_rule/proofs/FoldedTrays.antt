-- A tray that is accepted as it was typed is accepted as it is filed: a sign is folded to a sign, and no letter goes or comes.
--   slips_map        == the slips of mapped letters are the slips, mapped
--   accepted_folded  == rows 1 to 6 stay silent, whatever the limit of letters a slip
use mathlib.Core.Path.{◌≡◌, refl, ap}
use mathlib.Core.Bool.{not}
use mathlib.Core.List.{List, [], ◌∷◌, map}
use Prim.Native.Nat.{ℕ, suc, ◌-◌, ◌≤◌}
use borrow.Author.Tests.{not-false}
use native.Mathlib.Omega.{arith}
use lib.ListN.{take, drop, length-map}
use Rattle.words.specs.Lists.{any}
use Rattle.words.proofs.Tests.{neither}
use Rattle.words.proofs.Maps.{take-map, drop-map}
use Rattle.trays.specs.Slips.{slips_from, slips_of, is_letter}
use Rattle.trays.specs.Faults.{bad_slip}
use Rattle.trays.proofs.Accepted.{Accepted, Signs, signs_rest}
use Rattle.fold_rule.specs.Folding.{fold}
use Rattle.fold_rule.proofs.Signs.{sign_fold}

slips_map : (f : ℕ → ℕ) (here : ℕ) (s es : List ℕ) → slips_from here (map f s) es ≡ map (map f) (slips_from here s es)
slips_map f here s [] = refl
slips_map f here s (e ∷ es) =
    rw (take-map f (e - here) s, drop-map f (e - here) s) (ap (λ r. map f (take (e - here) s) ∷ r) (slips_map f e (drop (e - here) s) es))

signs_folded : (x : List ℕ) → Signs x → Signs (map fold x)
signs_folded [] h = refl
signs_folded (b ∷ x) h =
    let n = neither (not (is_letter b)) (any (λ b. not (is_letter b)) x) h in
    rw (sign_fold b (not-false (is_letter b) n.0)) (signs_folded x n.1)

slips_folded : (i : ℕ) (xs : List (List ℕ)) → 1 ≤ i → bad_slip i xs ≡ 0 → bad_slip i (map (map fold) xs) ≡ 0
slips_folded i [] p h = refl
slips_folded i (x ∷ xs) p h =
    let r = signs_rest i x xs p h in
    rw (signs_folded x r.0, bad_slip) (slips_folded (suc i) xs (omega arith) r.1)

pub accepted_folded : (m : ℕ) (s es : List ℕ) → Accepted m s es → Accepted m (map fold s) es
accepted_folded m s es a =
    record {
      few = a.few;
      rise = a.rise;
      short = a.short;
      small = rw length-map a.small;
      reach = rw length-map a.reach;
      signs = rw (slips_map fold 0 s es) (slips_folded 1 (slips_of s es) (omega arith) a.signs);
    }
