-- Kept letters, summed slip by slip.
use mathlib.Core.Path.{◌≡◌, ◌∙◌}
use mathlib.Core.List.{List, [], ◌∷◌, ◌++◌}
use Prim.Native.Nat.{ℕ, ◌+◌, ◌*◌, ◌≤◌, ◌<◌}
use native.Mathlib.Numerals.{add-one}
use native.Mathlib.Omega.{arith}
use lib.ListN.{length, get_or, take}
use lib.Seq.{take-suc, get_or-take}
use Rattle.std.proofs.lemmas.List.{length-take}
use Rattle.trays.specs.Limits.{max_slip}
use Rattle.trays.specs.Slips.{slips_of, slip, total}
use Rattle.trays.proofs.Spans.{accepted_spanned}
use Rattle.legend_counts.specs.Steps.Counting.{KeptReal}

total_more : (ss : List (List ℕ)) (K : List ℕ) (i : ℕ) → total ss (K ++ (i ∷ [])) ≡ total ss K + length (slip ss i)
total_more ss [] i = omega arith
total_more ss (k ∷ K) i = omega (arith, total_more ss K i)

module _ (s es xs : List ℕ) (k i sum n : ℕ) (part : List ℕ) (a : KeptReal s es xs k) (q : i < length (take k xs)) (d : n ≡ get_or (take k xs) i 0)
    (e : part ≡ slip (slips_of s es) n) where
  l : i < k
  l = omega (arith, length-take k xs)

  v : n ≡ get_or xs i 0
  v = d ∙ get_or-take k xs i 0 l

  small : length part ≤ max_slip
  small = let r = a.real i l in rw (e, v) ((accepted_spanned s es a.tray).short (get_or xs i 0) r.0 r.1)

  pub kept-bound : sum ≤ 2000 * i → sum + length part ≤ 2000 * (i + 1)
  kept-bound b = omega (arith, small)

  pub kept_more : sum ≡ total (slips_of s es) (take i xs) → sum + length part ≡ total (slips_of s es) (take (i + 1) xs)
  kept_more t =
      let h : i < length xs = omega (arith, a.enough, l) in
      rw (add-one i, take-suc xs i 0 h, total_more, t, e, v)
