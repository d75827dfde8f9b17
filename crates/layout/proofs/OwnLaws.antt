-- A node where it stands: the table OWN leads to its letters in the tray.
--   owned-length   == its string has its last letter and those before it in the member
--   owned-place    == its last letter stands within the letters of the tray
--   owned-letters  == the letters up to that one, as many as its string has, are its string
--   owned_signs    == they are signs
use mathlib.Core.Path.{◌≡◌, sym, ap, ◌∙◌}
use mathlib.Core.Bool.{not}
use mathlib.Core.List.{List}
use Prim.Native.Nat.{ℕ, suc, ◌+◌, ◌-◌, ◌≤◌, ◌<◌}
use native.Mathlib.Omega.{arith}
use lib.ListN.{length, take, drop}
use lib.Seq.{take-take, length-take-le}
use Rattle.words.proofs.Strings.{begins_prefix, begins_none}
use Rattle.trays.specs.Limits.{max_letters}
use Rattle.trays.specs.Slips.{slip, is_letter, start_of, end_of}
use Rattle.trays.proofs.Accepted.{Signs, accepted_signs, span_slip}
use Rattle.matching.specs.Steps.Nodes.{string, Num}
use Rattle.layout.specs.Layout.{OWN}
use Rattle.layout.specs.Tables.{cell, Owned}
use Rattle.layout.specs.Numbered.{patterns_in, Numbered}
use Rattle.layout.proofs.Frames.{letter_span, letter_within, letter_place}
use Rattle.layout.proofs.AreaSlips.{area_slips}

module _ {s es : List ℕ} {n nodes : ℕ} {w : List ℕ} (N : Numbered s es n nodes w) (v : ℕ) (m : Num (patterns_in s es n w) v) where
  open area_slips s es n w use {ss, M, ps}

  abbrev x : List ℕ
  x = string ps v

  abbrev o : Owned ss es M (cell w OWN v) x
  o = N.own v m

  real : (1 ≤ o.member) × (o.member ≤ length es)
  real = N.real o.member o.among

  pub owned-length : length x ≡ suc o.letter
  owned-length = ap length (sym o.beginning) ∙ length-take-le (suc o.letter) (slip ss o.member) o.within

  pub owned-place : (cell w OWN v < length s) × (cell w OWN v < max_letters)
  owned-place =
      let a = letter_within s es N.accepted o.member o.letter real.0 real.1 o.within in
      let b = letter_place s es N.accepted o.member o.letter real.0 real.1 o.within in
      (omega (arith, o.place), omega (arith, o.place))

  pub owned_long : length x ≤ cell w OWN v + 1
  owned_long = omega (arith, owned-length, o.place)

  pub owned-letters : take (length x) (drop (cell w OWN v + 1 - length x) s) ≡ x
  owned-letters =
      let i = o.member in
      let k = end_of es i - start_of es i in
      let e : cell w OWN v + 1 - length x ≡ start_of es i = omega (arith, owned-length, o.place) in
      let l = letter_span s es N.accepted i o.letter real.0 real.1 o.within in
      rw (e, owned-length)
      (sym (take-take (suc o.letter) k (drop (start_of es i) s) l)
      ∙ ap (take (suc o.letter)) (sym (span_slip s es N.accepted i real.0 real.1)) ∙ o.beginning)

  pub owned_signs : Signs x
  owned_signs =
      begins_none (λ b. not (is_letter b)) x (slip ss o.member) (rw o.beginning at (begins_prefix (suc o.letter) (slip ss o.member)))
      (accepted_signs s es N.accepted o.member)
