-- What the work area keeps of its meaning when cells above a place are written.
--   only_kept       == a frame whose places are all from b on keeps the cells below b
--   members_kept    == the members, patterns-kept == their letters
--   numbered-kept   == the numbering, branched_kept == the children, near_kept == those of the first nodes, automaton_kept == the failure links
-- The tables of each stage stand below those of the next, and their meaning depends on their cells alone.
use mathlib.Core.Path.{◌≡◌, sym, ap, ◌∙◌}
use mathlib.Core.List.{List}
use Prim.Native.Nat.{ℕ, suc, ◌+◌, ◌-◌, ◌*◌, ◌≤◌, ◌<◌}
use native.Mathlib.Omega.{arith}
use lib.ListN.{length, get_or, drop, length-take, length-drop}
use lib.Seq.{get_or-take, get_or-drop}
use Rattle.words.proofs.Members.{In}
use Rattle.trays.specs.Limits.{max_slips, max_letters}
use Rattle.trays.specs.Slips.{slips_of, slip, start_of, end_of}
use Rattle.trays.specs.Faults.{tray_fault}
use Rattle.trays.proofs.Accepted.{accepted_tells, span_fits, span_slip}
use Rattle.tables.specs.Tables.{Only}
use Rattle.tables.proofs.Tables.{table_same}
use Rattle.matching.specs.Steps.Nodes.{nodes_of}
use Rattle.layout.specs.Layout.{MEMBERS, AT, OWN, LEVEL, KID, NEAR, FAIL, HEAD, near_letters, first_sign}
use Rattle.layout.specs.Tables.{cell, members, patterns, LevelIs, KidIs, NearIs}
use Rattle.layout.specs.Numbered.{patterns_in, Numbered, Branched, Automaton, SameBelow}

pub only_kept : {P : ℕ → Type 0} {w w' : List ℕ} (b : ℕ) → Only P w w' → ((p : ℕ) → P p → b ≤ p) → SameBelow b w w'
only_kept b f above = record { same = f.same; cells = λ p h. f.kept p (λ q. omega (arith, above p q)) }

pub kept-lower : {b : ℕ} {w w' : List ℕ} (a : ℕ) → a ≤ b → SameBelow b w w' → SameBelow a w w'
kept-lower a h k = record { same = k.same; cells = λ p l. k.cells p (omega arith) }

-- a letter of a slip stands within the letters
module _ (s es : List ℕ) (acc : (tray_fault s es).number ≡ 0) (i c : ℕ) (some : 1 ≤ i) (real : i ≤ length es) (within : c < length (slip (slips_of s es) i)) where
  pub letter_span : c < end_of es i - start_of es i
  letter_span =
      omega (arith, rw (span_slip s es acc i some real, length-take, length-drop) at within)

  pub letter_within : start_of es i + c < length s
  letter_within = omega (arith, letter_span, span_fits s es acc i some real)

  pub letter_place : start_of es i + c < max_letters
  letter_place = omega (arith, letter_within, (accepted_tells s es acc).small)

  -- it is the letter of the slip
  pub letter_is : get_or s (start_of es i + c) 0 ≡ get_or (slip (slips_of s es) i) c 0
  letter_is =
      sym (rw (span_slip s es acc i some real) (get_or-take (end_of es i - start_of es i) (drop (start_of es i) s) c 0 letter_span ∙ get_or-drop (start_of es i) s c 0))

-- the meaning of a table depends on its cells
module _ (ps : List (List ℕ)) where
  level-same : (top : ℕ) (level level' : ℕ → ℕ) → ((d : ℕ) → d ≤ suc top → level' d ≡ level d) → LevelIs ps level top → LevelIs ps level' top
  level-same top level level' e l =
      record {
        some = λ d h k. rw (e d k) (l.some d h k);
        from = λ d v h k m q. rw (e d k) (l.from d v h k m q);
        back = λ d v h k m q. l.back d v h k m (rw (e d k) at q);
        all = l.all;
      }

  pub kid_same : (kid kid' : ℕ → ℕ) → ((v : ℕ) → v ≤ length (nodes_of ps) → kid' v ≡ kid v) → KidIs ps kid → KidIs ps kid'
  kid_same kid kid' e k =
      record {
        some = λ v h. rw (e v h) (k.some v h);
        into = λ v u c h m q. rw (e v (omega arith), e (suc v) h) (k.into v u c h m q);
        back = λ v u h m a b. k.back v u h m (rw (e v (omega arith)) at a) (rw (e (suc v) h) at b);
      }

module _ {w w' : List ℕ} where
  pub members_kept : {b : ℕ} (n : ℕ) → n ≤ b → SameBelow b w w' → members w' n ≡ members w n
  members_kept n h k = table_same w w' MEMBERS n k.same (λ i l. k.cells (MEMBERS + i) (omega arith))

  module _ {s es : List ℕ} {n nodes : ℕ} where
    pub patterns-kept : {b : ℕ} → Numbered s es n nodes w → max_slips ≤ b → SameBelow b w w' → patterns_in s es n w' ≡ patterns_in s es n w
    patterns-kept N h k = ap (patterns (slips_of s es)) (members_kept n (omega (arith, N.few_members)) k)

    pub numbered-kept : SameBelow KID w w' → Numbered s es n nodes w → Numbered s es n nodes w'
    numbered-kept k N =
        let m = members_kept n (omega (arith, N.few_members)) k in
        let place : (i c : ℕ) → In i (members w n) → c < length (slip (slips_of s es) i) → start_of es i + c < max_letters =
        λ i c q h. let r = N.real i q in letter_place s es N.accepted i c r.0 r.1 h in
        record {
          room = omega (arith, N.room, k.same);
          accepted = N.accepted;
          few_members = N.few_members;
          ascending = rw m N.ascending;
          real = rw m N.real;
          all_nodes = rw m N.all_nodes;
          few_nodes = N.few_nodes;
          at = rw m (λ i c q h. rw (k.cells (AT + (start_of es i + c)) (omega (arith, place i c q h))) (N.at i c q h));
          own = rw m (λ v q. rw (k.cells (OWN + v) (omega (arith, q.inside, N.all_nodes, N.few_nodes))) (N.own v q));
          level = rw m (level-same _ _ (cell w LEVEL) (cell w' LEVEL) (λ d h. k.cells (LEVEL + d) (omega arith)) N.level);
        }

    pub branched_kept : SameBelow NEAR w w' → Branched s es n nodes w → Branched s es n nodes w'
    branched_kept k B =
        let N = B.numbered in
        let e = patterns-kept N (omega arith) k in
        record {
          numbered = numbered-kept (kept-lower KID (omega arith) k) N;
          kids =
              rw e (kid_same _ (cell w KID) (cell w' KID) (λ v h. k.cells (KID + v) (omega (arith, N.all_nodes, N.few_nodes))) B.kids);
        }

    pub near_kept : SameBelow FAIL w w' → Numbered s es n nodes w → NearIs (patterns_in s es n w) (cell w NEAR) → NearIs (patterns_in s es n w') (cell w' NEAR)
    near_kept k N f =
        rw (patterns-kept N (omega arith) k) (λ v c h i a b.
        rw (k.cells (NEAR + (near_letters * v + (c - first_sign))) (omega arith)) (f v c h i a b))

    pub automaton_kept : SameBelow HEAD w w' → Automaton s es n nodes w → Automaton s es n nodes w'
    automaton_kept k A =
        let N = A.branched.numbered in
        let e = patterns-kept N (omega arith) k in
        record {
          branched = branched_kept (kept-lower NEAR (omega arith) k) A.branched;
          near = near_kept (kept-lower FAIL (omega arith) k) N A.near;
          fails = rw e (λ v m. rw (k.cells (FAIL + v) (omega (arith, m.inside, N.all_nodes, N.few_nodes))) (A.fails v m));
        }
