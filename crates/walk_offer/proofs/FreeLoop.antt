-- The search for the first slip that waits, and the partner.
--   Searching es w d right from l == the search from `from` on has come to l, and stops where a search from l on does
use mathlib.Core.Path.{◌≡◌, sym, ap, ◌∙◌}
use mathlib.Core.List.{List, ◌∷◌}
use Prim.Native.Nat.{ℕ, ◌≤◌, ◌<◌}
use native.Mathlib.Decide.{ℕ_discrete}
use native.Mathlib.Omega.{arith}
use lib.ListN.{length}
use Rattle.words.specs.Lists.{head_or}
use Rattle.layout.proofs.Heads.{threaded_head}
use Rattle.walk_offer.specs.Steps.Runs.{next_ender, enders_from, mark, waiting_in, Real, ListedFrom}
use Rattle.walk_offer.specs.Steps.Offers.{Searches, FoundPartner, Chooses, partner_in}
use Rattle.walk_offer.proofs.RunLaws.{listed_first, listed_next, listed_real}
use Rattle.walk_offer.proofs.ScanLaws.{waiting_pass, partner-lowest, partner_second}

pub record Searching (es w : List ℕ) (d : ℕ) (right : List ℕ) (from l : ℕ) : Type 0 where
  pub list : ListedFrom es d (next_ender w es d) l
  pub same : waiting_in right (enders_from w es d l) ≡ waiting_in right (enders_from w es d from)

module _ {es w : List ℕ} {d : ℕ} {right : List ℕ} {from l : ℕ} (s : Searching es w d right from l) where
  module _ (some : l ≡ 0 → ⊥) where
    first : enders_from w es d l ≡ l ∷ enders_from w es d (next_ender w es d l)
    first = listed_first (next_ender w es d) es d l s.list some

    pub free_real : Real es d l
    free_real = listed_real (next_ender w es d) es d l s.list some

    pub free_within : Searches es w d right from → l ≤ length right
    free_within a = omega (arith, free_real.inside, a.sized.few, a.rights)

    module _ {taken : ℕ} (t : (taken ≡ mark right l) × (taken < 65536)) where
      pub free_turn : (taken ≡ 0 → ⊥) → {l' : ℕ} → l' ≡ next_ender w es d l → Searching es w d right from l'
      free_turn n {l'} q =
          let e = waiting_pass right l (enders_from w es d (next_ender w es d l)) (λ z. n (t.0 ∙ z)) in
          rw q (record { list = listed_next (next_ender w es d) es d l s.list some; same = sym e ∙ ap (waiting_in right) (sym first) ∙ s.same })

    pub free-less : {l' : ℕ} → l' ≡ next_ender w es d l → length (enders_from w es d l') < length (enders_from w es d l)
    free-less {l'} q = rw q (omega (arith, ap length first))

-- the partner
module _ {es w : List ℕ} {d : ℕ} {right : List ℕ} {l m : ℕ} (c : Chooses es w d right l m) where
  abbrev list : ListedFrom es d (next_ender w es d) l
  list = c.search.list

  pub choose-first : (l ≡ m → ⊥) → l ≡ partner_in right (enders_from w es d l) m
  choose-first n = at l n c.waits list
    where
      at : (l : ℕ) → (l ≡ m → ⊥) → waiting_in right (enders_from w es d l) ≡ enders_from w es d l → ListedFrom es d (next_ender w es d) l
          → l ≡ partner_in right (enders_from w es d l) m
      at l n h k =
          elim (ℕ_discrete l 0) [
            | yes z ↦ rw z
            | no s ↦
                let e = listed_first (next_ender w es d) es d l k s in
                sym (ap (λ x. partner_in right x m) e ∙ partner-lowest right m l (enders_from w es d (next_ender w es d l)) (rw e at h) n)
          ]

  module _ (e : l ≡ m) where
    choose-some : l ≡ 0 → ⊥
    choose-some z = omega (arith, c.real)

    pub choose_real : Real es d l
    choose_real = listed_real (next_ender w es d) es d l list choose-some

    module _ {next : ℕ} (q : next ≡ next_ender w es d l) where
      pub choose_next : Searches es w d right next
      choose_next =
          record { sized = c.search.sized; rights = c.search.rights; list = rw q (listed_next (next_ender w es d) es d l list choose-some) }

      pub choose_second : {r : ℕ} → FoundPartner es w d right next r → r ≡ partner_in right (enders_from w es d l) m
      choose_second {r} f =
          let ls = enders_from w es d (next_ender w es d l) in
          let first = listed_first (next_ender w es d) es d l list choose-some in
          threaded_head (next_ender w es d) r (enders_from w es d r) f.list.threaded
          ∙ ap (head_or 0) (f.rest ∙ ap (λ n. waiting_in right (enders_from w es d n)) q)
          ∙ sym (ap (λ x. partner_in right x m) first ∙ partner_second right m l ls (rw first at list.ascending) e)
