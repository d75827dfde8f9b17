-- When all levels are done, the tables LEVEL, AT, OWN are those of the nodes.
--   all_count, all_few, all_at, all_own, all_level == the fields of `Numbered`
use mathlib.Core.Path.{◌≡◌, ap, ◌∙◌}
use mathlib.Core.List.{List}
use Prim.Native.Nat.{ℕ, suc, ◌+◌, ◌≤◌, ◌<◌}
use native.Mathlib.Omega.{arith}
use lib.ListN.{length, get_or, take, length-map}
use Rattle.words.proofs.Picks.{in_get_or}
use Rattle.trays.specs.Limits.{max_slip, max_letters}
use Rattle.trays.specs.Slips.{slip, start_of}
use Rattle.matching.specs.Steps.Nodes.{nodes_of}
use Rattle.matching.proofs.Numbering.{levels_up, node_at, node_at-is}
use Rattle.layout.specs.Layout.{LEVEL, AT, OWN}
use Rattle.layout.specs.Tables.{cell, patterns, AtIs, OwnIs, LevelIs}
use Rattle.trie_nodes.specs.Steps.Stages.{Counted}
use Rattle.trie_nodes.proofs.Ranked.{Ranked, nodes_are, nodes_few}
use Rattle.trie_nodes.proofs.LevelParts.{node_at-fits, levels_are}
use Rattle.trie_nodes.proofs.Turns.{pattern_at}

module _ {ss : List (List ℕ)} {es M O : List ℕ} (R : Ranked ss es M O) (k : ℕ) (w : List ℕ) (t : Counted ss es O max_slip 0 k w) where
  k_is : length (levels_up max_slip (patterns ss O)) ≡ k
  k_is = omega (arith, t.count)

  pub all_count : length (nodes_of (patterns ss M)) ≡ suc k
  all_count = ap length (nodes_are R) ∙ ap suc k_is

  pub all_few : k ≤ max_letters
  all_few = rw k_is at (nodes_few R)

  pub all_at : AtIs ss es M (cell w AT)
  all_at i c m h =
      let (j, l, e) = in_get_or 0 (R.sorts.into i m) in
      let (p, q) = R.real i m in
      let f : c < max_slip = omega (arith, R.spans.short i p q) in
      let x = pattern_at ss O j ∙ ap (slip ss) e in
      let g : c < length (slip ss (get_or O j 0)) = rw e h in
      let at : cell w AT (start_of es i + c) ≡ node_at (patterns ss O) c j = rw e at (t.at c j (omega arith) (λ y. omega arith) l g) in
      record {
        inside = rw (at, all_count) (omega (arith, k_is, node_at-fits (patterns ss O) max_slip c j f));
        is =
            rw (at, nodes_are R)
            (node_at-is (patterns ss O) max_slip c j f (rw length-map l) (omega (arith, ap length x)) ∙ ap (take (suc c)) x);
      }

  pub all_own : OwnIs ss es M (cell w OWN)
  all_own v n =
      let o = t.own v n.some (omega (arith, n.inside, all_count)) in
      rw (nodes_are R) (record {
        member = o.member;
        letter = o.letter;
        among = R.sorts.back o.member o.among;
        within = o.within;
        place = o.place;
        beginning = o.beginning;
      })

  pub all_level : LevelIs (patterns ss M) (cell w LEVEL) max_slip
  all_level = levels_are (patterns ss M) (patterns ss O) max_slip (cell w LEVEL) (nodes_are R) t.level
