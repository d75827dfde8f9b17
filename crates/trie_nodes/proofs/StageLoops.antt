-- The loops of the numbering, turn by turn.
--   sorted-..    == what is known of the sorted members, and that it is kept where only LEVEL, AT, OWN are written
--   lettered_new == one letter, with a new node
--   level-..     == the loop over the members, for one length
--   nodes-..     == the loop over the lengths
-- Each loop keeps a stage of the numbering, and that only LEVEL, AT, OWN have been written since it began.
use mathlib.Core.Path.{◌≡◌, refl, sym, ap, ◌∙◌}
use mathlib.Core.List.{List}
use Prim.Native.Nat.{ℕ, suc, ◌+◌, ◌≤◌, ◌<◌}
use native.Mathlib.Numerals.{add-one}
use native.Mathlib.Omega.{arith}
use lib.ListN.{length, get_or}
use Rattle.trays.specs.declared.Span.{Span}
use Rattle.trays.specs.Limits.{max_slip, max_letters}
use Rattle.trays.specs.Slips.{slip, slips_of, start_of}
use Rattle.trays.specs.Slips.{span_of}
use Rattle.tables.specs.Tables.{table, Got, Room, Put, Only}
use Rattle.tables.proofs.Tables.{table-length, table_at, only-refl, only_trans, only-put, cells-below}
use Rattle.matching.proofs.Ranks.{near}
use Rattle.trie_order.proofs.Precedes.{order_sorts}
use Rattle.layout.specs.Layout.{MEMBERS, ORDER, COMMON, LEVEL, AT, OWN}
use Rattle.layout.specs.Tables.{cell, members, patterns}
use Rattle.trie_nodes.specs.Numbering.{Sorted, NodeCells, NodesFilled}
use Rattle.trie_nodes.specs.Steps.Stages.{Counted, Stage, AtStage, Letterable, Lettered}
use Rattle.trays.proofs.Spans.{accepted_spanned}
use Rattle.trie_nodes.proofs.Ranked.{Ranked, rank_real}
use Rattle.trie_nodes.proofs.Turns.{commons_at}
use Rattle.trie_nodes.proofs.StageTurns.{numbered_few, p_fits, k_fits, counted_start, counted_short, counted_letter, counted_up}
use Rattle.trie_nodes.proofs.AllNumbered.{all_count, all_few, all_at, all_own, all_level}

module _ {s es : List ℕ} {n : ℕ} {w : List ℕ} (t : Sorted s es n w) where
  sorted_ranked : Ranked (slips_of s es) es (members w n) (table w ORDER n)
  sorted_ranked =
      record {
        spans = accepted_spanned s es t.accepted;
        real = t.real;
        ascending = t.ascending;
        sorts = rw t.order (order_sorts (slips_of s es) (members w n));
      }

  sorted_length : length (table w ORDER n) ≡ n
  sorted_length = table-length w ORDER n (omega (arith, t.room, t.few_members))

  sorted_common : (r : ℕ) → r < n → cell w COMMON r ≡ near (patterns (slips_of s es) (table w ORDER n)) r
  sorted_common r h =
      sym (table_at w COMMON n r h) ∙ ap (λ l. get_or l r 0) t.common
      ∙ commons_at (slips_of s es) 0 (table w ORDER n) r (omega (arith, sorted_length))

  module _ {w' : List ℕ} (f : Only NodeCells w w') where
    pub sorted_members : members w' n ≡ members w n
    sorted_members = cells-below MEMBERS n f (omega (arith, t.few_members))

    pub sorted_order : table w' ORDER n ≡ table w ORDER n
    sorted_order = cells-below ORDER n f (omega (arith, t.few_members))

    pub sorted_kept : Sorted s es n w'
    sorted_kept =
        record {
          room = omega (arith, t.room, f.same);
          accepted = t.accepted;
          few_members = t.few_members;
          ascending = rw sorted_members t.ascending;
          real = rw sorted_members t.real;
          order = rw (sorted_members, sorted_order) t.order;
          common = rw sorted_order (cells-below COMMON n f (omega (arith, t.few_members)) ∙ t.common);
        }

    -- the next stage, of the order as it was
    stage_kept : (c r k : ℕ) → Counted (slips_of s es) es (table w ORDER n) c r k w' → Stage s es n c r k w'
    stage_kept c r k x = record { sorted = sorted_kept; counted = rw sorted_order x }

pub lettered_new :
    (w : List ℕ) (c r p k common : ℕ) (u w' : List ℕ) → Got w COMMON r common → common ≤ c → Put w OWN (k + 1) p u → Put u AT p (k + 1) w'
    → Lettered w c r p k (k + 1) w'
lettered_new w c r p k common u w' g h q z = Lettered.new (rw g.is at h) refl q z

-- slip i, read from ORDER, is the member of rank r
module _ {s es : List ℕ} {n c r k : ℕ} {u w : List ℕ} (t : AtStage s es n c r u k w) (h : r < n) (i : ℕ) (g : Got w ORDER r i) where
  rank : get_or (table w ORDER n) r 0 ≡ i
  rank = table_at w ORDER n r h ∙ sym g.is

  inside : r < length (table w ORDER n)
  inside = omega (arith, sorted_length t.stage.sorted)

  pub level-slip : (1 ≤ i) × (i ≤ length es)
  level-slip = rw rank at (rank_real (sorted_ranked t.stage.sorted) r inside)

  module _ (sp : Span) (q : sp ≡ span_of es i) where
    start_is : start_of es (get_or (table w ORDER n) r 0) ≡ sp.start
    start_is = ap (start_of es) rank ∙ sym (ap (λ x. x.start) q)

    end_is : sp.start + length (slip (slips_of s es) (get_or (table w ORDER n) r 0)) ≡ sp.end
    end_is = let (p, l) = level-slip in rw (rank, q) ((sorted_ranked t.stage.sorted).spans.long i p l)

    pub level_start : sp.start ≤ max_letters
    level_start = let (p, l) = level-slip in omega (arith, end_is, ap (λ x. x.end) q, (sorted_ranked t.stage.sorted).spans.fits i l)

    pub level_short : (k' : ℕ) (x : List ℕ) → sp.end ≤ sp.start + c → x ≡ w → k' ≡ k → AtStage s es n c (r + 1) u k' x
    level_short k' x m e f =
        let y = counted_short (sorted_ranked t.stage.sorted) c r k w inside (omega (arith, end_is)) t.stage.counted in
        rw (e, f, add-one r) (record { stage = record { sorted = t.stage.sorted; counted = y }; only = t.only })

    module _ (m : sp.start + c < sp.end) where
      long : c < length (slip (slips_of s es) (get_or (table w ORDER n) r 0))
      long = omega (arith, end_is)

      place : sp.start + c ≡ start_of es (get_or (table w ORDER n) r 0) + c
      place = rw start_is

      pub level_letterable : Letterable w r (sp.start + c) k
      level_letterable =
          let R = sorted_ranked t.stage.sorted in
          record {
            room = t.stage.sorted.room;
            rank = omega (arith, t.stage.sorted.few_members);
            place = p_fits R c r k (sp.start + c) w inside long place t.stage.counted;
            count = k_fits R c r k (sp.start + c) w inside long place t.stage.counted;
          }

      pub level_letter :
          (v k' : ℕ) (w' x : List ℕ) → Lettered w c r (sp.start + c) k v w' → x ≡ w' → k' ≡ v → AtStage s es n c (r + 1) u k' x
      level_letter v k' w' x o e f =
          let b = t.stage.sorted in
          let room = b.room in
          let R = sorted_ranked b in
          let (y, a) = counted_letter R c r k (sp.start + c) w inside long place t.stage.counted v w' (omega arith) (sorted_common b r h) o in
          rw (e, f, add-one r) (record { stage = stage_kept b a c (suc r) v y; only = only_trans t.only a })

module _ {s es : List ℕ} {n c r k : ℕ} {u w : List ℕ} (t : AtStage s es n c r u k w) (short : c < max_slip) (h : r ≤ n) where
  pub level_few : k ≤ max_letters
  level_few =
      let b = t.stage.sorted in
      omega (arith, t.stage.counted.count, numbered_few (sorted_ranked b) c r short (omega (arith, sorted_length b)))

  pub level-room : Room w LEVEL (c + 2) (k + 1)
  level-room = let f = level_few in omega (arith, t.stage.sorted.room)

  pub level-done : (w' : List ℕ) → n ≤ r → Put w LEVEL (c + 2) (k + 1) w' → AtStage s es n (c + 1) 0 u k w'
  level-done w' l q =
      let b = t.stage.sorted in
      let y = counted_up (sorted_ranked b) c r k w w' short (omega (arith, sorted_length b)) (omega (arith, b.room)) q t.stage.counted in
      let a : Only NodeCells w w' = only-put only-refl q (omega arith) in
      rw (add-one c) (record { stage = stage_kept b a (suc c) 0 k y; only = only_trans t.only a })

-- the loop over the lengths begins when the cell of length 1 is put
module _ (s es : List ℕ) (n : ℕ) (w u : List ℕ) (b : Sorted s es n w) (q : Put w LEVEL 1 1 u) where
  begun : Only NodeCells w u
  begun = only-put only-refl q (omega arith)

  pub nodes_begin : AtStage s es n 0 0 u 0 u
  nodes_begin =
      record {
        stage = stage_kept b begun 0 0 0 (counted_start (slips_of s es) es (table w ORDER n) w u (omega (arith, b.room)) q);
        only = only-refl;
      }

  pub nodes_all : (c k : ℕ) (w' : List ℕ) → c ≤ max_slip → max_slip ≤ c → AtStage s es n c 0 u k w' → NodesFilled s es n w k w'
  nodes_all c k w' l h t =
      let a = t.stage.sorted in
      let R = sorted_ranked a in
      let e : c ≡ max_slip = omega arith in
      let x : Counted (slips_of s es) es (table w' ORDER n) max_slip 0 k w' = rw e at t.stage.counted in
      record {
        numbered =
            record {
              room = a.room;
              accepted = a.accepted;
              few_members = a.few_members;
              ascending = a.ascending;
              real = a.real;
              all_nodes = all_count R k w' x;
              few_nodes = all_few R k w' x;
              at = all_at R k w' x;
              own = all_own R k w' x;
              level = all_level R k w' x;
            };
        only = only_trans begun t.only;
      }
