-- The numbers of the sheet of any members of an accepted tray fit, with any settings, and so do those of a side's sheet.
--   fits_of   == the claim of specs/Fits.antt, for members that ascend and are numbers of slips
--   side_fits == so for the slips of a side
-- All but the numbers of slips are those of the sheet of a tray that holds the members only (greedy/proofs/Alone), and that tray is accepted. The numbers are
-- of slips of the whole tray, which has no more than it may have.
use mathlib.Core.Path.{◌≡◌, ap, subst}
use mathlib.Core.List.Memᴰ
use mathlib.Core.List.{List}
use Prim.Native.Nat.{ℕ, ◌≤◌}
use native.Mathlib.Omega.{arith}
use lib.ListN.{length, length-map}
use Rattle.words.specs.Lists.{entry}
use Rattle.words.proofs.Members.{In, up_from_in}
use Rattle.words.proofs.Runs.{length-up_from}
use Rattle.words.proofs.Sums.{all_in, all_at}
use Rattle.trays.specs.declared.Settings.{Settings}
use Rattle.trays.specs.Limits.{max_slips, max_slip, max_letters}
use Rattle.trays.specs.Slips.{slips_of, slip, numbers, only}
use Rattle.trays.specs.Faults.{tray_fault}
use Rattle.trays.specs.Written.{letters_of, ends_of}
use Rattle.trays.specs.Sides.{of_side, AcceptedSides}
use Rattle.trays.proofs.Accepted.{accepted_tells, slips_count}
use Rattle.trays.proofs.Kept.{in_kept}
use Rattle.trays.proofs.WrittenSlips.{slips_written}
use Rattle.greedy.specs.Joins.{Join, rejoin}
use Rattle.greedy.specs.Composing.{Composing, among, whole, sided, rule, kept_of, joins_of, place_of}
use Rattle.greedy.specs.Sides.{Alone}
use Rattle.greedy.proofs.Relabel.{Within, plain_in}
use Rattle.greedy.proofs.Chosen.{Real, only-accepted}
use Rattle.greedy.proofs.Alone.{letters_alone, place_alone, alone_of}
use Rattle.greedy.proofs.TriedAlone.{member_place}
use Rattle.greedy.proofs.SideLists.{slips_side}
use Rattle.sheet_sizes.specs.Fits.{JoinFits, ComposeFits}
use Rattle.sheet_sizes.proofs.Fitting.{compose_fits}

module _ (g : Settings) (s es M : List ℕ) (acc : (tray_fault s es).number ≡ 0) (R : Real (length (slips_of s es)) M) where
  abbrev ss : List (List ℕ)
  ss = slips_of s es

  abbrev os : List (List ℕ)
  os = only (slips_of s es) M

  abbrev c : Composing
  c = among g M (slips_of s es)

  own_fits : ComposeFits (whole g os)
  own_fits =
      subst (λ (xs : List (List ℕ)). ComposeFits (whole g xs)) (slips_written os)
      (compose_fits g (letters_of os) (ends_of os) (only-accepted s es M acc R))

  alone : Alone c (whole g os)
  alone = alone_of c R

  small : (i : ℕ) → In i M → i ≤ max_slips
  small i m = omega (arith, R.real i m, slips_count s es, (accepted_tells s es acc).few)

  -- a member by its place among the members, which is its number in the tray of their own
  place_in : (i : ℕ) → In i M → (k : ℕ) × In k (numbers os) × (entry M k ≡ i)
  place_in i m =
      let (k, l, p, e) = member_place M i m in
      (k, up_from_in 1 (length os) k p (omega (arith, length-map M (slip ss))), e)

  length-fits : (i : ℕ) → In i M → length (slip ss i) ≤ max_slip
  length-fits i m = let (k, q, e) = place_in i m in rw (← e, letters_alone c R k q) (own_fits.lengths k q)

  place-fits : (i : ℕ) → In i M → place_of c i ≤ max_letters
  place-fits i m = let (k, q, e) = place_in i m in omega (arith, own_fits.places k q, place_alone c R k q, ap (place_of c) e)

  -- both slips of a join are members, and it has the overlap of a join of the tray of their own
  join-fits : (j : Join) → In j (joins_of c) → JoinFits j
  join-fits j m =
      let (l, r) = all_at (Within (kept_of c)) (joins_of c) j (plain_in (rule c) ss (kept_of c)) m in
      let (k, q, e) = Memᴰ.of_map (rejoin (entry M)) (joins_of (whole g os)) (rw alone.joins_are at m) in
      let (_, _, o) = all_at JoinFits (joins_of (whole g os)) k own_fits.joins q in
      (small j.left (in_kept ss M l).0, small j.right (in_kept ss M r).0, omega (arith, ap (λ (x : Join). x.overlap) e))

  pub fits_of : ComposeFits (among g M (slips_of s es))
  fits_of =
      record {
        slips = omega (arith, own_fits.slips, length-up_from 1 (length os), length-map M (slip ss));
        kept_slips = rw (alone.kept_are, length-map (kept_of (whole g os)) (entry M)) own_fits.kept_slips;
        letters = rw alone.letters_are own_fits.letters;
        saved-letters = rw alone.saved-is own_fits.saved-letters;
        legend = rw alone.legend_is own_fits.legend;
        numbers = small;
        lengths = length-fits;
        places = place-fits;
        joins = all_in JoinFits (joins_of c) join-fits;
        count = rw (alone.joins_are, length-map (joins_of (whole g os)) (rejoin (entry M))) own_fits.count;
      }

pub side_fits : (g : Settings) (s es cs : List ℕ) → AcceptedSides s es cs → ComposeFits (sided g cs (slips_of s es))
side_fits g s es cs a = fits_of g s es (of_side cs g.side) a.tray (slips_side s es cs g.side a.sides)
