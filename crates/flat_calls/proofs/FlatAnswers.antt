-- Occurrences stored as numbers are what finding promises.
use mathlib.Core.Path.{◌≡◌, sym, ap, ◌∙◌}
use mathlib.Core.List.{List}
use Prim.Native.Nat.{ℕ, ◌/◌}
use native.Mathlib.Nat.{div-add-mod'}
use native.Mathlib.Omega.{arith}
use lib.ListN.{length, take}
use lib.Seq.{take-length}
use Rattle.words.specs.Lists.{over}
use Rattle.trays.specs.Slips.{slips_of}
use Rattle.trays.proofs.Rows.{by_number, written_all, written_none}
use Rattle.matching.specs.Occurrences as O
use Rattle.matching.specs.Occurrences.{occurrences}
use Rattle.answers.specs.declared.Search.{Search}
use Rattle.answers.specs.Finding.{find_fault, flat_found}
use Rattle.answers.specs.Finding.{FindFlat}
use Rattle.find_core.specs.Steps.Searching.{CoreSays}
use Rattle.flat_calls.specs.Steps.Occurrences.{CanFlat, NumbersStored}
use Rattle.find_core.proofs.Answering.{none_stored, all_stored, answered_after}

pub flat_can : {s es t w w₁ o : List ℕ} {room : ℕ} {r : Search} → CoreSays s es t w w₁ room r → room ≡ length o / 2 → CanFlat s es t r.count w₁ o
flat_can {o = o} c e = record { room = omega (arith, c.fits, div-add-mod' (length o) 2); enough = c.enough }

pub flat_says : {s es t w w₁ w' o o' : List ℕ} {r : Search} → CoreSays s es t w w₁ (length o / 2) r → NumbersStored s es t r.count w₁ w' o o' →
    FindFlat s es t w w' o o' r
flat_says {s} {es} {t} {w} {o = o} {r = r} c g =
    let f = find_fault s es t (length w) (length o / 2) in
    let os = occurrences (slips_of s es) t in
    record {
      answered = answered_after c g.left;
      found_are =
          by_number f
          (λ z. g.found_are ∙ ap (λ (fs : List O.Occurrence). over (flat_found fs) o) (ap (λ (n : ℕ). take n os) (all_stored c z) ∙ take-length os)
          ∙ sym (written_all f (flat_found os) o z))
          (λ p. g.found_are ∙ ap (λ (n : ℕ). over (flat_found (take n os)) o) (none_stored c p) ∙ sym (written_none f (flat_found os) o p));
    }
