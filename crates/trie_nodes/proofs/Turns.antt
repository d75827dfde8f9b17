-- The tables one letter further, as functions of their index.
--   count-..  == how many nodes have numbers, when one member more has been looked at: as many, or one more
--   at-..     == AT: kept elsewhere, a member too short for the letter, the letter's cell
--   own-..    == OWN: kept, a node more
-- No two letters of members stand at one place, so that a store in AT leaves the letters numbered before as they were. A member's prefix of
-- c + 1 letters is the last node numbered, or a new one: that is where it has at most c letters in common with the member before it.
use mathlib.Core.Path.{◌≡◌, refl, sym, ap, ◌∙◌}
use mathlib.Core.Logic.{inl, inr}
use mathlib.Core.List.{List, [], ◌∷◌}
use Prim.Native.Nat.{ℕ, zero, suc, ◌+◌, ◌≤◌, ◌<◌}
use native.Mathlib.Decide.{ℕ_discrete}
use native.Mathlib.Omega.{arith}
use lib.ListN.{length, get_or, take, length-append, length-map, get_or-map}
use Rattle.words.specs.Words.{common}
use Rattle.words.proofs.Picks.{get_or_in}
use Rattle.trays.specs.Limits.{max_slip, max_letters}
use Rattle.trays.specs.Slips.{slip, start_of}
use Rattle.matching.proofs.Levels.{level}
use Rattle.matching.proofs.Ranks.{near, adds, adds_new, adds_old, level_next}
use Rattle.matching.proofs.Numbering.{levels_up, node_at, node_at-is}
use Rattle.trie_order.specs.Order.{commons}
use Rattle.layout.specs.Tables.{patterns, Owned}
use Rattle.trie_nodes.specs.Steps.Stages.{AtDone, OwnDone, numbered}
use Rattle.trays.proofs.Spans.{span_place, span_one}
use Rattle.trie_nodes.proofs.Ranked.{Ranked, rank_real, rank_one}

pub pattern_at : (ss : List (List ℕ)) (O : List ℕ) (r : ℕ) → get_or (patterns ss O) r [] ≡ slip ss (get_or O r 0)
pattern_at ss O r = get_or-map (slip ss) O r 0

pub commons_at :
    (ss : List (List ℕ)) (p : ℕ) (O : List ℕ) (r : ℕ) → r < length O
    → get_or (commons ss p O) r 0 ≡ common (get_or (slip ss p ∷ patterns ss O) r []) (get_or (patterns ss O) r [])
commons_at ss p [] r h = absurd (omega arith)
commons_at ss p (i ∷ O) zero h = refl
commons_at ss p (i ∷ O) (suc r) h = commons_at ss i O r (omega arith)

module _ (ss : List (List ℕ)) (O : List ℕ) (c r : ℕ) (h : r < length O) where
  next :
      length (level (suc c) [] (take (suc r) (patterns ss O)))
      ≡ length (level (suc c) [] (take r (patterns ss O))) + length (adds (patterns ss O) (suc c) r)
  next =
      ap length (level_next (suc c) (patterns ss O) r (rw length-map h))
      ∙ length-append (level (suc c) [] (take r (patterns ss O))) (adds (patterns ss O) (suc c) r)

  pub count_short : length (slip ss (get_or O r 0)) ≤ c → numbered (patterns ss O) c (suc r) ≡ numbered (patterns ss O) c r
  count_short l =
      let x = ap length (pattern_at ss O r) in
      omega (arith, next, ap length (adds_old (patterns ss O) (suc c) r (inr (omega arith))))

  pub count_old : c < near (patterns ss O) r → numbered (patterns ss O) c (suc r) ≡ numbered (patterns ss O) c r
  count_old l = omega (arith, next, ap length (adds_old (patterns ss O) (suc c) r (inl l)))

  pub count_new :
      near (patterns ss O) r ≤ c → c < length (slip ss (get_or O r 0))
      → numbered (patterns ss O) c (suc r) ≡ suc (numbered (patterns ss O) c r)
  count_new l k =
      let x = ap length (pattern_at ss O r) in
      omega (arith, next, ap length (adds_new (patterns ss O) (suc c) r (omega arith) (omega arith)))

module _ {ss : List (List ℕ)} {es M O : List ℕ} (R : Ranked ss es M O) where
  -- the place of letter c of the member of rank r is no other letter's
  one_place :
      (e c j r : ℕ) → j < length O → r < length O → e < length (slip ss (get_or O j 0)) → c < length (slip ss (get_or O r 0))
      → start_of es (get_or O j 0) + e ≡ start_of es (get_or O r 0) + c → (j ≡ r) × (e ≡ c)
  one_place e c j r h l p q x =
      let (p₁, p₂) = rank_real R j h in
      let (q₁, q₂) = rank_real R r l in
      let (i, g) = span_one R.spans (get_or O j 0) (get_or O r 0) e c p₁ p₂ q₁ q₂ p q x in
      (rank_one R j r h l i, g)

  pub at_kept : (c r : ℕ) (at at' : ℕ → ℕ) → ((p : ℕ) → p < max_letters → at' p ≡ at p) → AtDone ss es O c r at → AtDone ss es O c r at'
  at_kept c r at at' same f e j h i l b =
      let (p, q) = rank_real R j l in
      same (start_of es (get_or O j 0) + e) (span_place R.spans (get_or O j 0) e p q b) ∙ f e j h i l b

  pub at_short : (c r : ℕ) (at : ℕ → ℕ) → length (slip ss (get_or O r 0)) ≤ c → AtDone ss es O c r at → AtDone ss es O c (suc r) at
  at_short c r at k f e j h i l b =
      f e j h
      (λ q. elim (ℕ_discrete j r) [
        | yes x ↦ absurd (omega (arith, ap (λ z. length (slip ss (get_or O z 0))) x))
        | no x ↦ omega (arith, i q)
      ])
      l b

  pub at_next :
      (c r : ℕ) (at at' : ℕ → ℕ) → r < length O → c < length (slip ss (get_or O r 0))
      → at' (start_of es (get_or O r 0) + c) ≡ node_at (patterns ss O) c r → ((p : ℕ) → (p ≡ start_of es (get_or O r 0) + c → ⊥) → at' p ≡ at p)
      → AtDone ss es O c r at → AtDone ss es O c (suc r) at'
  at_next c r at at' k m here other f e j h i l b =
      let old : ((j ≡ r) × (e ≡ c) → ⊥) → at' (start_of es (get_or O j 0) + e) ≡ node_at (patterns ss O) e j =
      λ ne. other (start_of es (get_or O j 0) + e) (λ x. ne (one_place e c j r l k b m x))
      ∙ f e j h (λ q. elim (ℕ_discrete j r) [ yes x ↦ absurd (ne (x, q)) | no x ↦ omega (arith, i q) ]) l b in
      elim (ℕ_discrete j r) [
        | yes x ↦ elim (ℕ_discrete e c) [ yes y ↦ rw (x, y) here | no y ↦ old (λ z. y z.1) ]
        | no x ↦ old (λ z. x z.0)
      ]

  -- the string of the node of letter c of the member of rank r ends there
  owned :
      (c r p : ℕ) → r < length O → c < length (slip ss (get_or O r 0)) → p ≡ start_of es (get_or O r 0) + c
      → Owned ss es O p (get_or ([] ∷ levels_up max_slip (patterns ss O)) (node_at (patterns ss O) c r) [])
  owned c r p h l e =
      let (p₁, p₂) = rank_real R r h in
      let s = R.spans.short (get_or O r 0) p₁ p₂ in
      let x = pattern_at ss O r in
      record {
        member = get_or O r 0;
        letter = c;
        among = get_or_in 0 O r h;
        within = l;
        place = e;
        beginning = ap (take (suc c)) (sym x) ∙ sym (node_at-is (patterns ss O) max_slip c r (omega arith) (rw length-map h) (omega (arith, ap length x)));
      }

  pub own_next :
      (c r k : ℕ) (own own' : ℕ → ℕ) → r < length O → c < length (slip ss (get_or O r 0))
      → suc k ≡ node_at (patterns ss O) c r → own' (suc k) ≡ start_of es (get_or O r 0) + c → ((v : ℕ) → 1 ≤ v → v ≤ k → own' v ≡ own v)
      → OwnDone ss es O k own → OwnDone ss es O (suc k) own'
  own_next c r k own own' h l e here same f v g b =
      elim (ℕ_discrete v (suc k)) [
        | yes x ↦ rw (x, e) (owned c r (own' (node_at (patterns ss O) c r)) h l (rw e at here))
        | no x ↦ rw (same v g (omega arith)) (f v g (omega arith))
      ]

pub own_kept :
    {ss : List (List ℕ)} {es O : List ℕ} (k : ℕ) (own own' : ℕ → ℕ)
    → ((v : ℕ) → 1 ≤ v → v ≤ k → own' v ≡ own v) → OwnDone ss es O k own → OwnDone ss es O k own'
own_kept k own own' same f v h l = rw (same v h l) (f v h l)
