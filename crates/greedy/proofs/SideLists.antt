-- The slips of a side.
--   side_real   == their numbers ascend, and are numbers of slips
--   slips_side  == so in an accepted tray
--   side_all    == where all slips are of one side, that side is the tray; side_none == and no other side has slips
use mathlib.Core.Path.{◌≡◌, sym, ◌∙◌}
use mathlib.Core.Bool.{Bool}
use mathlib.Core.List.{List, []}
use Prim.Native.Nat.{ℕ, zero, suc}
use native.Mathlib.Omega.{arith}
use borrow.Author.Tests.{eq-eqb, ne_eqb}
use lib.Dec.{eqb}
use lib.ListN.{length}
use Rattle.words.specs.Lists.{up_from}
use Rattle.words.proofs.Members.{In, in_those, asc_those, in_up_from, asc_up_from}
use Rattle.words.proofs.Picks.{those_all, those_none, get_or_in}
use Rattle.words.proofs.Sums.{All, all_at}
use Rattle.trays.specs.Slips.{slips_of}
use Rattle.trays.specs.Sides.{side_of, of_side, sides_row}
use Rattle.trays.proofs.Accepted.{slips_count}
use Rattle.trays.proofs.SidedTrays.{sides_tell}
use Rattle.greedy.proofs.Chosen.{Real}

pub side_real : (cs : List ℕ) (b n : ℕ) → length cs ≡ n → Real n (of_side cs b)
side_real cs b n e =
    let t : ℕ → Bool = λ i. eqb (side_of cs i) b in
    let all = up_from 1 (length cs) in
    record {
      rise = asc_those _ t all (asc_up_from 1 (length cs));
      real = λ i m. omega (arith, in_up_from 1 (length cs) (in_those t all m).0);
    }

pub slips_side : (s es cs : List ℕ) (b : ℕ) → (sides_row es cs).number ≡ 0 → Real (length (slips_of s es)) (of_side cs b)
slips_side s es cs b h = side_real cs b (length (slips_of s es)) ((sides_tell es cs h).0 ∙ sym (slips_count s es))

-- the side of a slip is one of the list
side_at : (P : ℕ → Type 0) (cs : List ℕ) → All P cs → (i : ℕ) → In i (up_from 1 (length cs)) → P (side_of cs i)
side_at P cs p zero m = absurd (omega (arith, in_up_from 1 (length cs) m))
side_at P cs p (suc i) m = all_at P cs (side_of cs (suc i)) p (get_or_in 0 cs i (omega (arith, in_up_from 1 (length cs) m)))

module _ (cs : List ℕ) (b : ℕ) (p : All (λ c. c ≡ b) cs) where
  pub side_all : of_side cs b ≡ up_from 1 (length cs)
  side_all = those_all _ _ (λ i m. eq-eqb (side_of cs i) b (side_at (λ c. c ≡ b) cs p i m))

  pub side_none : (d : ℕ) → (b ≡ d → ⊥) → of_side cs d ≡ []
  side_none d n = those_none _ _ (λ i m. ne_eqb (side_of cs i) d (λ e. n (sym (side_at (λ c. c ≡ b) cs p i m) ∙ e)))
