-- Building step by step: members, their order, common lengths, numbers, links.
use mathlib.Core.Path.{◌≡◌, ◌∙◌}
use mathlib.Core.List.{List}
use Prim.Native.Nat.{ℕ, ◌+◌, ◌≤◌}
use native.Mathlib.Omega.{arith}
use lib.ListN.{length}
use Rattle.words.specs.Lists.{up_from, in_order}
use Rattle.words.proofs.Members.{in_up_from, asc_up_from}
use Rattle.tables.specs.Tables.{table, Filled}
use Rattle.tables.proofs.Tables.{cells-below}
use Rattle.trays.specs.Limits.{max_slips}
use Rattle.trays.specs.Slips.{slips_of}
use Rattle.trays.proofs.Accepted.{accepted_tells, slips_count}
use Rattle.trie_order.specs.Order.{precedes, commons, Members, Sortable}
use Rattle.trie_order.proofs.AllMembers.{all_sortable}
use Rattle.trie_order.proofs.Precedes.{order_members}
use Rattle.layout.specs.Layout.{MEMBERS, ORDER, COMMON}
use Rattle.layout.specs.Tables.{members}
use Rattle.trie_nodes.specs.Numbering.{NodesFilled}
use Rattle.trie_links.specs.Links.{LinksFilled}
use Rattle.trie_build.specs.Steps.Built.{Buildable, SortedAll, Built}

module _ (s es w : List ℕ) (a : Buildable s es w) where
  abbrev n : ℕ
  n = length es

  few : n ≤ max_slips
  few = (accepted_tells s es a.tray).few

  pub members_asks : (MEMBERS + n ≤ length w) × (n ≤ max_slips)
  members_asks = (omega (arith, few, a.room), few)

  module _ (w₁ : List ℕ) (f₁ : Filled MEMBERS n (up_from 1 n) w w₁) where
    long₁ : length w₁ ≡ length w
    long₁ = f₁.only.same

    pub order_asks : (ORDER + n ≤ length w₁) × (n ≤ max_slips)
    order_asks = (omega (arith, few, a.room, long₁), few)

    module _ (w₂ : List ℕ) (f₂ : Filled ORDER n (up_from 1 n) w₁ w₂) where
      long₂ : length w₂ ≡ length w
      long₂ = f₂.only.same ∙ long₁

      pub sort_asks : (Sortable s es (table w₂ ORDER n)) × (ORDER + n ≤ length w₂)
      sort_asks = (rw f₂.cells (all_sortable s es a.tray), omega (arith, few, a.room, long₂))

      module _ (w₃ : List ℕ) (f₃ : Filled ORDER n (in_order (precedes (slips_of s es)) (table w₂ ORDER n)) w₂ w₃) where
        long₃ : length w₃ ≡ length w
        long₃ = f₃.only.same ∙ long₂

        pub common_asks : (Members s es (table w₃ ORDER n)) × (ORDER + n ≤ COMMON) × (COMMON + n ≤ length w₃)
        common_asks = (
          rw f₃.cells (order_members s es (table w₂ ORDER n) (rw f₂.cells (all_sortable s es a.tray).members)),
          omega (arith, few),
          omega (arith, few, a.room, long₃),
        )

        module _ (w₄ : List ℕ) (f₄ : Filled COMMON n (commons (slips_of s es) 0 (table w₃ ORDER n)) w₃ w₄) where
          pub sorted_same : length w₄ ≡ length w
          sorted_same = f₄.only.same ∙ long₃

          members_are : members w₄ n ≡ up_from 1 n
          members_are =
              cells-below MEMBERS n f₄.only (omega (arith, few))
              ∙ cells-below MEMBERS n f₃.only (omega (arith, few))
              ∙ cells-below MEMBERS n f₂.only (omega (arith, few))
              ∙ f₁.cells

          order_is : table w₄ ORDER n ≡ table w₃ ORDER n
          order_is = cells-below ORDER n f₄.only (omega (arith, few))

          pub slips_sorted : SortedAll s es w w₄
          slips_sorted =
              record {
                sorted =
                    record {
                      room = omega (arith, a.room, sorted_same);
                      accepted = a.tray;
                      few_members = few;
                      ascending = rw members_are (asc_up_from 1 n);
                      real = λ i h. let r = in_up_from 1 n (rw members_are at h) in (r.0, omega (arith, r.1));
                      order = order_is ∙ f₃.cells ∙ rw (f₂.cells, members_are);
                      common = f₄.cells ∙ rw order_is;
                    };
                all_slips = members_are ∙ rw (slips_count s es);
                same = sorted_same;
              }

-- numbers and links
module _ (s es w w₁ : List ℕ) (a : SortedAll s es w w₁) (nodes : ℕ) (w₂ : List ℕ) (f : NodesFilled s es (length es) w₁ nodes w₂) (w₃ : List ℕ)
    (g : LinksFilled s es (length es) nodes w₂ w₃) where
  pub built_same : length w₃ ≡ length w
  built_same = g.only.same ∙ f.only.same ∙ a.same

  pub slips_built : Built s es w nodes w₃
  slips_built =
      let few : length es ≤ max_slips = a.sorted.few_members in
      record {
        automaton = g.automaton;
        all_slips =
            cells-below MEMBERS (length es) g.only (omega arith)
            ∙ cells-below MEMBERS (length es) f.only (omega arith)
            ∙ a.all_slips;
        same = built_same;
      }
