-- Occurrences stored as records are what finding promises.
use mathlib.Core.Path.{◌≡◌, sym, ap, ◌∙◌}
use mathlib.Core.List.{List, map}
use Prim.Native.Nat.{ℕ}
use lib.ListN.{length, length-map, get_or-map}
use Rattle.words.specs.Lists.{over}
use Rattle.trays.specs.Slips.{slips_of}
use Rattle.trays.proofs.Rows.{by_number, written_all, written_none}
use Rattle.store_loops.specs.Firsts.{firsts}
use Rattle.store_loops.proofs.Firsts.{firsts_are}
use Rattle.matching.specs.Occurrences as O
use Rattle.matching.specs.Occurrences.{occurrences}
use Rattle.answers.specs.declared.Found.{Found}
use Rattle.answers.specs.declared.Search.{Search}
use Rattle.answers.specs.Finding.{find_fault, FindSays}
use Rattle.answers.specs.Finding.{found_record}
use Rattle.find_core.specs.Steps.Searching.{found_at, Left, CoreSays}
use Rattle.find_core.proofs.Answering.{none_stored, all_stored, answered_after}

records_are : (s es t : List ℕ) (n : ℕ) → n ≡ length (occurrences (slips_of s es) t) → firsts (found_at s es t) n ≡ map found_record (occurrences (slips_of s es) t)
records_are s es t n e =
    let os = occurrences (slips_of s es) t in
    ap (firsts (found_at s es t)) (e ∙ sym (length-map os found_record))
    ∙ firsts_are (found_at s es t) (found_record (O.occurrence 0 0)) (map found_record os) (λ i l. sym (get_or-map found_record os i (O.occurrence 0 0)))

pub find_says : {s es t w w₁ w' : List ℕ} {o o' : List Found} {r : Search} → CoreSays s es t w w₁ (length o) r
    → o' ≡ over (firsts (found_at s es t) r.count) o → Left s es t r.count w₁ w' → FindSays s es t w w' o o' r
find_says {s} {es} {t} {w} {o = o} {r = r} c e l =
    let f = find_fault s es t (length w) (length o) in
    let xs = map found_record (occurrences (slips_of s es) t) in
    record {
      answered = answered_after c l;
      found_are =
          by_number f
          (λ z. e ∙ ap (λ (ys : List Found). over ys o) (records_are s es t r.count (all_stored c z)) ∙ sym (written_all f xs o z))
          (λ p. e ∙ ap (λ (n : ℕ). over (firsts (found_at s es t) n) o) (none_stored c p) ∙ sym (written_none f xs o p));
    }
