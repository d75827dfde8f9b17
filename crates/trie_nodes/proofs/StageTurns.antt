-- The stages of the numbering, in the work area: at the start, a member further, a level further.
--   counted_short   == the member is too short
--   counted_letter  == its letter has got a number
--   counted_up      == all members have been looked at, and the cell of LEVEL behind this level is put
-- A store in one of the tables LEVEL, AT, OWN leaves the other two as they were; the rest is said of tables as functions (Turns).
use mathlib.Core.Path.{◌≡◌, refl, sym, ap, ◌∙◌}
use mathlib.Core.List.{List, []}
use Prim.Native.Nat.{ℕ, zero, suc, ◌+◌, ◌≤◌, ◌<◌}
use native.Mathlib.Decide.{ℕ_discrete}
use native.Mathlib.Numerals.{add-one}
use native.Mathlib.Omega.{arith}
use lib.ListN.{length, get_or, take, length-append, length-map}
use lib.Seq.{take_all}
use Rattle.trays.specs.Limits.{max_slip, max_letters}
use Rattle.trays.specs.Slips.{slip, start_of}
use Rattle.tables.specs.Tables.{Put, Only}
use Rattle.tables.proofs.Tables.{only-refl, only-put, put_only, put-here, put_other}
use Rattle.matching.proofs.Levels.{level}
use Rattle.matching.proofs.Ranks.{near}
use Rattle.matching.proofs.Numbering.{levels_up}
use Rattle.layout.specs.Layout.{COMMON, LEVEL, AT, OWN, KID}
use Rattle.layout.specs.Tables.{cell, patterns}
use Rattle.trie_nodes.specs.Numbering.{NodeCells}
use Rattle.trie_nodes.specs.Steps.Stages.{numbered, Counted, Lettered}
use Rattle.trays.proofs.Spans.{span_place}
use Rattle.trie_nodes.proofs.Ranked.{Ranked, rank_real, nodes_few}
use Rattle.trie_nodes.proofs.LevelParts.{levels_grow, node_at-fits}
use Rattle.trie_nodes.proofs.Turns.{count_short, count_old, count_new, at_kept, at_short, at_next, own_kept, own_next}

-- a store elsewhere
abbrev kept : {w w' : List ℕ} {base i x : ℕ} → Put w base i x w' → (b j : ℕ) → (b + j ≡ base + i → ⊥) → cell w' b j ≡ cell w b j
kept p b j ne = (put_only p).kept (b + j) ne

pub counted_start : (ss : List (List ℕ)) (es O w w' : List ℕ) → AT ≤ length w → Put w LEVEL 1 1 w' → Counted ss es O 0 0 0 w'
counted_start ss es O w w' room q =
    record {
      count = refl;
      at = λ e j b i l m. absurd (omega (arith, i (omega arith)));
      own = λ v b l. absurd (omega arith);
      level = λ d b. let e : d ≡ 0 = omega arith in rw e (put-here q (omega arith));
    }

module _ {ss : List (List ℕ)} {es M O : List ℕ} (R : Ranked ss es M O) where
  -- the numbers given so far are numbers of nodes
  pub numbered_few : (c r : ℕ) → c < max_slip → r ≤ length O → numbered (patterns ss O) c r ≤ max_letters
  numbered_few c zero h l = omega (arith, nodes_few R, levels_grow (patterns ss O) c max_slip (omega arith))
  numbered_few c (suc r) h l = omega (arith, nodes_few R, node_at-fits (patterns ss O) max_slip c r h)

  pub counted_short :
      (c r k : ℕ) (w : List ℕ) → r < length O → length (slip ss (get_or O r 0)) ≤ c → Counted ss es O c r k w → Counted ss es O c (suc r) k w
  counted_short c r k w h l t =
      record {
        count = t.count ∙ sym (count_short ss O c r h l);
        at = at_short R c r (cell w AT) l t.at;
        own = t.own;
        level = t.level;
      }

  module _ (c r k p : ℕ) (w : List ℕ) (h : r < length O) (l : c < length (slip ss (get_or O r 0))) (e : p ≡ start_of es (get_or O r 0) + c)
      (t : Counted ss es O c r k w) where
    c_fits : c < max_slip
    c_fits = let (i, j) = rank_real R r h in omega (arith, R.spans.short (get_or O r 0) i j)

    pub p_fits : p < max_letters
    p_fits = let (i, j) = rank_real R r h in omega (arith, span_place R.spans (get_or O r 0) c i j l)

    pub k_fits : k ≤ max_letters
    k_fits = omega (arith, t.count, numbered_few c r c_fits (omega arith))

    new_count : near (patterns ss O) r ≤ c → suc k ≡ numbered (patterns ss O) c (suc r)
    new_count o = ap suc t.count ∙ sym (count_new ss O c r h o l)

    new_fits : near (patterns ss O) r ≤ c → suc k ≤ max_letters
    new_fits o = omega (arith, new_count o, numbered_few c (suc r) c_fits h)

    letter_old : (w' : List ℕ) → OWN ≤ length w → c < near (patterns ss O) r → Put w AT p k w' → Counted ss es O c (suc r) k w'
    letter_old w' room o q =
        let n : k ≡ numbered (patterns ss O) c (suc r) = t.count ∙ sym (count_old ss O c r h o) in
        let f = p_fits in
        let g = c_fits in
        record {
          count = n;
          at = at_next R c r (cell w AT) (cell w' AT) h l (rw (← e) (put-here q (omega arith) ∙ n)) (λ i ne. put_other q i (λ x. ne (x ∙ e))) t.at;
          own = own_kept k (cell w OWN) (cell w' OWN) (λ v g b. kept q OWN v (λ x. omega arith)) t.own;
          level = λ d b. kept q LEVEL (suc d) (λ x. omega arith) ∙ t.level d b;
        }

    letter_new :
        (u w' : List ℕ) → KID ≤ length w → near (patterns ss O) r ≤ c → Put w OWN (k + 1) p u → Put u AT p (k + 1) w'
        → Counted ss es O c (suc r) (k + 1) w'
    letter_new u w' room o q z =
        let n = new_count o in
        let f = p_fits in
        let g = c_fits in
        let b = new_fits o in
        let i : k + 1 ≡ suc k = add-one k in
        rw i (record {
          count = n;
          at =
              at_next R c r (cell u AT) (cell w' AT) h l (rw (← e) (put-here z (omega (arith, q.same)) ∙ i ∙ n))
              (λ j ne. put_other z j (λ x. ne (x ∙ e)))
              (at_kept R c r (cell w AT) (cell u AT) (λ j m. kept q AT j (λ x. omega arith)) t.at);
          own =
              own_next R c r k (cell w OWN) (cell w' OWN) h l n
              (kept z OWN (suc k) (λ x. omega arith) ∙ rw i at (put-here q (omega arith)) ∙ e)
              (λ v m y. kept z OWN v (λ x. omega arith) ∙ kept q OWN v (λ x. omega arith)) t.own;
          level = λ d m. kept z LEVEL (suc d) (λ x. omega arith) ∙ kept q LEVEL (suc d) (λ x. omega arith) ∙ t.level d m;
        })

    pub counted_letter :
        (v : ℕ) (w' : List ℕ) → KID ≤ length w → cell w COMMON r ≡ near (patterns ss O) r → Lettered w c r p k v w'
        → Counted ss es O c (suc r) v w' × Only NodeCells w w'
    counted_letter v w' room x (Lettered.old o d q) =
        let f = p_fits in
        (rw d (letter_old w' (omega arith) (rw x at o) q), only-put only-refl q (omega arith))
    counted_letter v w' room x (Lettered.new {u} o d q z) =
        let f = p_fits in
        let b : near (patterns ss O) r ≤ c = rw x at o in
        let g = new_fits b in
        (rw d (letter_new u w' room b q z), only-put (only-put only-refl q (omega arith)) z (omega arith))

  pub counted_up :
      (c r k : ℕ) (w w' : List ℕ) → c < max_slip → r ≡ length O → AT ≤ length w → Put w LEVEL (c + 2) (k + 1) w'
      → Counted ss es O c r k w → Counted ss es O (suc c) 0 k w'
  counted_up c r k w w' h full room q t =
      let zs = patterns ss O in
      let all : take r zs ≡ zs = take_all r zs (rw length-map (omega arith)) in
      let n : k ≡ length (levels_up (suc c) zs) = t.count ∙ rw (all, length-append (levels_up c zs) (level (suc c) [] zs)) in
      record {
        count = omega arith;
        at =
            λ e j b i l m. kept q AT (start_of es (get_or O j 0) + e) (λ x. omega arith)
            ∙ t.at e j (elim (ℕ_discrete e (suc c)) [ yes x ↦ absurd (omega (arith, i x)) | no x ↦ omega arith ]) (λ x. omega arith) l m;
        own = own_kept k (cell w OWN) (cell w' OWN) (λ v b l. kept q OWN v (λ x. omega arith)) t.own;
        level = λ d b. elim (ℕ_discrete d (suc c)) [
          | yes x ↦ let y : suc d ≡ c + 2 = omega arith in rw (y, x) (put-here q (omega arith) ∙ add-one k ∙ ap suc n)
          | no x ↦ kept q LEVEL (suc d) (λ y. omega arith) ∙ t.level d (omega arith)
        ];
      }
