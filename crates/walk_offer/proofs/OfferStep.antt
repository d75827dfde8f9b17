-- One offer: what its calls ask, and what it leaves.
use mathlib.Core.Path.{◌≡◌, sym, ap, ◌∙◌}
use mathlib.Core.List.{List, [], ◌∷◌, ◌++◌}
use Prim.Native.Nat.{ℕ, ◌-◌, ◌≤◌, ◌<◌}
use native.Mathlib.Omega.{arith}
use lib.ListN.{set}
use Rattle.words.proofs.Members.{In}
use Rattle.trays.specs.Limits.{max_slips}
use Rattle.tables.proofs.Tables.{only-refl}
use Rattle.greedy.specs.Joins.{Join, join, last_of}
use Rattle.greedy.proofs.Scans as S
use Rattle.layout.specs.Staging.{joins_in}
use Rattle.walk_offer.specs.Steps.Runs.{enders_from, mark}
use Rattle.walk_offer.specs.declared.Marks.{Marks}
use Rattle.walk_offer.specs.Steps.Offers.{partner_in, JoinsMade, CanJoin, JoinPut, EndsFit, EndsJoined, Joinable, Offers}
use Rattle.walk_offer.proofs.ScanLaws.{MarksOf, partner-among, partner_marks, offer_taken, offer_none, offer_made}
use Rattle.walk_offer.proofs.MarkLaws.{left-mark, right_mark, last_mark, marks_room, ends_fit, marks_join}
use Rattle.walk_offer.proofs.JoinCells.{joins_length}

-- one join
module _ {w : List ℕ} {count l r d : ℕ} {marks : Marks} (J : Joinable w count l r d marks) where
  pub join-fits : CanJoin w count l r d
  join-fits =
      record {
        room = J.room;
        few = omega (arith, joins_length w count, marks_room J.marked r J.right_real.0 J.right_real.1 J.right_free);
        left_small = J.left_real.1;
        right_small = J.right_real.1;
        overlap_small = J.overlap_small;
      }

  pub join-ends_fit : EndsFit marks.first marks.last l r
  join-ends_fit = ends_fit J.marked l r d J.left_real J.right_real J.left-free J.right_free J.no_cycle

  pub join_made : {w' : List ℕ} {marks' : Marks} {made : ℕ}
      → JoinPut w count l r d w' made → marks'.left ≡ set marks.left (r - 1) l → marks'.right ≡ set marks.right (l - 1) r → marks'.overs ≡ set marks.overs (l - 1) d →
      EndsJoined marks.first marks.last l r marks'.first marks'.last
      → JoinsMade w (joins_in w count ++ (join l r d ∷ [])) w' marks' made
  join_made p a b o e =
      record {
        joins_are = p.joins_are;
        marked = marks_join J.marked l r d J.left_real J.right_real J.left-free J.right_free J.no_cycle _ a b o e;
        only = p.only;
      }

-- one offer
module _ {es w : List ℕ} {d r l count : ℕ} {marks : Marks} (O : Offers es w d r l count marks) where
  abbrev js : List Join
  js = joins_in w count

  abbrev ls : List ℕ
  ls = enders_from w es d l

  small : r ≤ max_slips
  small = omega (arith, O.real.inside, O.search.sized.few)

  ender_small : (x : ℕ) → In x ls → (1 ≤ x) × (x ≤ max_slips)
  ender_small x m = let p = O.search.list.all x m in (p.some, omega (arith, p.inside, O.search.sized.few))

  offer_marks : MarksOf marks.right js ls
  offer_marks x m = let p = ender_small x m in right_mark O.marked x p.0 p.1

  abbrev Same : ℕ → List ℕ → Type 0
  Same made w' = JoinsMade w (S.offer ls d r js) w' marks made

  same : S.offer ls d r js ≡ js → Same count w
  same e = record { joins_are = sym e; marked = rw e O.marked; only = only-refl }

  module _ {taken : ℕ} (t : (taken ≡ mark marks.left r) × (taken < 65536)) where
    pub offer_refused : (taken ≡ 0 → ⊥) → JoinsMade w (S.offer ls d r js) w marks count
    offer_refused n = same (offer_taken ls d r js (λ z. n (t.0 ∙ left-mark O.marked r O.real.some small ∙ z)))

    module _ (z : taken ≡ 0) {end : ℕ} (e : (end ≡ mark marks.last r) × (end < 65536)) where
      unmarked : mark marks.left r ≡ 0
      unmarked = sym t.0 ∙ z

      end_is : end ≡ last_of r js
      end_is = e.0 ∙ last_mark O.marked r O.real.some small unmarked

      module _ {best : ℕ} (b : best ≡ partner_in marks.right (enders_from w es d l) end) where
        best_is : best ≡ S.partner ls (last_of r js) js
        best_is = b ∙ ap (partner_in marks.right ls) end_is ∙ partner_marks marks.right js ls (last_of r js) offer_marks

        pub offer_nobody : best ≡ 0 → JoinsMade w (S.offer ls d r js) w marks count
        offer_nobody q = same (offer_none ls d r js (sym best_is ∙ q))

        module _ (n : best ≡ 0 → ⊥) where
          among : In best ls × (mark marks.right best ≡ 0) × (best ≡ end → ⊥)
          among = rw b (partner-among marks.right end ls (λ q. n (b ∙ q)))

          pub offer_joinable : Joinable w count best r d marks
          offer_joinable =
              record {
                room = O.search.sized.room;
                marked = O.marked;
                left_real = ender_small best among.0;
                right_real = (O.real.some, small);
                overlap_small = O.search.sized.most;
                left-free = among.1;
                right_free = unmarked;
                no_cycle = λ q. among.2 (q ∙ sym e.0);
              }

          pub offer_joins : {w' : List ℕ} {marks' : Marks} {made : ℕ}
              → JoinsMade w (joins_in w count ++ (join best r d ∷ [])) w' marks' made
              → JoinsMade w (S.offer ls d r js) w' marks' made
          offer_joins m = rw (offer_made ls d r js best (sym (left-mark O.marked r O.real.some small) ∙ unmarked) best_is n) m
