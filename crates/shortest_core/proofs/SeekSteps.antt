-- From the automaton of the tray to the order of its kept slips.
--   kept_now  == the kept members in the work area are the kept slips of the tray
--   seek_can, write_can == what the search and the last step ask
use mathlib.Core.Path.{◌≡◌, ap, ◌∙◌}
use mathlib.Core.List.{List, ◌++◌}
use Prim.Native.Nat.{ℕ, ◌+◌, ◌≤◌, ◌<◌}
use native.Mathlib.Omega.{arith}
use borrow.Rule.Slice.PartMut.{same_len_mid}
use lib.ListN.{length, get_or, take, drop, length-drop}
use lib.Seq.{length-take-le}
use Rattle.words.proofs.Members.{In}
use Rattle.trays.specs.Limits.{max_shortest}
use Rattle.trays.specs.declared.Settings.{Settings}
use Rattle.trays.specs.Slips.{slips_of, numbers}
use Rattle.trays.specs.Aside.{kept, counted}
use Rattle.trays.specs.Faults.{refusal}
use Rattle.trays.proofs.Kept.{kept_asc}
use Rattle.greedy.specs.Composing.{Composing, whole}
use Rattle.greedy.proofs.GreedyLegends.{numbers_rise}
use Rattle.greedy.proofs.KeptSizes.{kept_real}
use Rattle.shortest.specs.Orders.{shortest_for}
use Rattle.layout.specs.Layout.{SEEK}
use Rattle.layout.specs.Staging.{kept_in}
use Rattle.layout.proofs.Frames.{members_kept}
use Rattle.trie_build.specs.Steps.Built.{Buildable, Built}
use Rattle.kept_slips.specs.Steps.Kept.{KeptTold}
use Rattle.shortest_groups.specs.Groups.{pair_cells, group_cells}
use Rattle.answers.specs.declared.Shortest.{Shortest}
use Rattle.answers.specs.Shortest.{shortest_refused}
use Rattle.shortest_core.specs.Steps.Seeking.{ten_of, KeptAsks, KeptCopied, SeekAsks, Sought, OrderSought, Written, Finished}
use Rattle.shortest_core.proofs.OrderSteps.{first_in}
use Rattle.shortest_core.proofs.WriteSteps.{too_many}

module _ (s es w : List ℕ) (a : Buildable s es w) (nodes : ℕ) (w₁ : List ℕ) (b : Built s es w nodes w₁) (k : ℕ) (w₂ : List ℕ)
    (t : KeptTold s es (length es) nodes w₁ k w₂) where
  abbrev K : List ℕ
  K = kept (slips_of s es) (numbers (slips_of s es))

  count_is : k ≡ length K
  count_is = t.all ∙ ap (λ m. length (kept (slips_of s es) m)) b.all_slips

  kept_now : kept_in w₂ k ≡ K
  kept_now =
      let N = t.staged.automaton.branched.numbered in
      t.staged.kept_are
      ∙ ap (kept (slips_of s es)) (members_kept (length es) (omega (arith, N.few_members)) t.below ∙ b.all_slips)

  long : length w₂ ≡ length w
  long = t.below.same ∙ b.same

  pub many_finished : (g : Settings) (l : List ℕ) (r : Shortest) → max_shortest < k → r ≡ shortest_refused (refusal 20 0)
      → Finished (whole g (slips_of s es)) w w₂ l l r
  many_finished g l r h q = record { same = long; outcome = too_many (whole g (slips_of s es)) l k r count_is h q }

  -- the part that is lent to the search
  abbrev cells : ℕ
  cells = pair_cells + group_cells

  abbrev lent : List ℕ
  lent = take cells (drop SEEK w₂)

  lent_long : length lent ≡ cells
  lent_long = length-take-le cells (drop SEEK w₂) (omega (arith, length-drop SEEK w₂, a.room, long))

  module _ (few : k ≤ max_shortest) where
    pub kept_can : KeptAsks w₂ k
    kept_can = record { few = few; room = omega (arith, a.room, long) }

    module _ (xs : List ℕ) (C : KeptCopied w₂ k xs) where
      first-kept : take k xs ≡ K
      first-kept = C.first ∙ kept_now

      pub seek_can : SeekAsks s es xs k lent
      seek_can =
          record {
            tray = a.tray;
            few = few;
            ten = C.ten;
            real = λ i h.
                let inside : In (get_or xs i 0) (take k xs) = first_in xs k i h (omega (arith, C.ten, few)) in
                kept_real s es a.tray (get_or xs i 0) (rw first-kept at inside);
            rising = rw first-kept (kept_asc (slips_of s es) (numbers (slips_of s es)) (numbers_rise (slips_of s es)));
            room = omega (arith, lent_long);
          }

      module _ (m : ℕ) (lent' r : List ℕ) (S : Sought m s es xs k lent lent' r) where
        -- the work area with what was written into that part
        abbrev w₃ : List ℕ
        w₃ = take SEEK w₂ ++ (lent' ++ drop cells (drop SEEK w₂))

        pub seek_same : length w₃ ≡ length w
        seek_same = same_len_mid SEEK cells w₂ lent' S.same ∙ long

        pub seek_finished : (c : Composing) (l l' : List ℕ) (o : Shortest) → Written c l l' o → Finished c w w₃ l l' o
        seek_finished c l l' o W = record { same = seek_same; outcome = W }

        pub write_can : (g : Settings) → m ≡ g.least → OrderSought g s es r k
        write_can g em =
            record {
              tray = a.tray;
              few = few;
              count_is = count_is;
              order_is = S.order_is ∙ ap (λ ys. ten_of (shortest_for (counted m) (slips_of s es) ys)) first-kept ∙ rw em;
            }
