-- The walk and the plain rule make one list of joins.
--   Ready counts ss K        == the slips K ascend and are numbered from 1, none is the whole of its overlap with another one; counts is
--                               a rule for overlap strings
--   counting counts ss K i   == the beginnings of slip i that count
--   visited counts ss K      == the beginnings that the walk visits, in its order
--   candidates counts ss K   == the candidates of the walk, in its order
-- The walk takes its candidates (walk_takes). They ascend by the order of arcs, and every arc is among them. A candidate of a pair of
-- different slips does not precede the arc of that pair, since no string that ends l and begins r is longer than the overlap; and a pair
-- of one slip is refused from the start. So what is taken of the candidates is taken of the arcs (take_thin).
use mathlib.Core.Path.{◌≡◌, refl, sym, ◌∙◌}
use mathlib.Core.Bool.{Bool, true, false, cond, ◌&&◌, ◌||◌}
use mathlib.Core.List.Memᴰ
use mathlib.Core.List.{List, [], ◌∷◌}
use mathlib.Core.Logic.{inl, inr}
use Prim.Native.Nat.{ℕ, ◌≤◌, ◌<◌}
use native.Mathlib.Decide.{ℕ_discrete}
use native.Mathlib.Omega.{arith}
use lib.Dec.{eqb, ltb}
use lib.ListN.{length}
use borrow.Author.Tests.{lt-ltb}
use Rattle.words.specs.Lists.{each, those, in_order}
use Rattle.words.specs.Words.{begins, before, same, ends_properly, overlap}
use Rattle.words.proofs.Tests.{not_both}
use Rattle.words.proofs.Members.{In, Asc, Sorts, Less, in_each, each_in, in_those, those_in, asc_each, in_order_sorts}
use Rattle.words.proofs.Orders.{up, down, strings, lex_first, lex_then, lex_cases}
use Rattle.words.proofs.Strings.{begins-take, begins_prefix, ends_properly-ends}
use Rattle.words.proofs.Overlaps.{Counts, counts_some, overlap-fits, overlap_met, met_overlap, suffix_counts}
use Rattle.trays.specs.Slips.{slip}
use Rattle.trays.specs.Aside.{kept}
use Rattle.trays.proofs.Kept.{kept_asc, in_kept, kept_proper}
use Rattle.greedy.specs.Joins.{Join, join, string_of, first_arc, plain_for}
use Rattle.greedy.specs.Walk.{prefixes_to, sooner, walk_for}
use Rattle.greedy.proofs.Takes.{sound_nil, refused_last, Cover, take_thin}
use Rattle.greedy.proofs.Arcs.{Prior, first_arc_irr, first_arc_tr, first_arc-not, IsArc, ordered, arcs_sorted, string-length, in_arcs, arcs_in, by_numbers}
use Rattle.greedy.proofs.Nodes.{sooner_tr, sooner_con, prefix_in}
use Rattle.greedy.proofs.Visits.{tie, ties_to, ties, Tied, in_tie, in_ties_to, in_ties, ties_in, walk_takes}

asc_cond : {A : Type 0} (R : A → A → Type 0) (b : Bool) (a : A) → Asc R (cond b (a ∷ []) [])
asc_cond R true a = ((λ y m. absurd (Memᴰ.not-nil m)), tt)
asc_cond R false a = tt

-- the candidates ascend by the order of arcs
module _ (ss : List (List ℕ)) where
  first_arc_tied :
      (x y : List ℕ) (c d : Join) → Tied ss x c → Tied ss y d
      → first_arc ss c d ≡ (ltb (length y) (length x) || (eqb (length x) (length y) && (before x y || (same x y && by_numbers c d))))
  first_arc_tied x y c d t u = rw (t.size, u.size, begins-take x (slip ss c.right) t.starts, begins-take y (slip ss d.right) u.starts)

  first_arc-sooner : (x y : List ℕ) (c d : Join) → Less sooner x y → Tied ss x c → Tied ss y d → Prior ss c d
  first_arc-sooner x y c d s t u =
      let next : Bool = before x y || (same x y && by_numbers c d) in
      rw (first_arc_tied x y c d t u)
      (elim (lex_cases down (length x) (length y) (before x y) s) [
        | inl h ↦ lex_first down (length x) (length y) next h
        | inr h ↦ lex_then down (length x) (length y) next h.0 (lex_first strings x y (by_numbers c d) h.1)
      ])

  first_arc-numbers : (x : List ℕ) (c d : Join) → by_numbers c d ≡ true → Tied ss x c → Tied ss x d → Prior ss c d
  first_arc-numbers x c d h t u =
      rw (first_arc_tied x x c d t u)
      (lex_then down (length x) (length x) (before x x || (same x x && by_numbers c d)) refl (lex_then strings x x (by_numbers c d) refl h))

  ties_asc : (K : List ℕ) (xs : List (List ℕ)) → Asc ◌<◌ K → Asc (Less sooner) xs → Asc (Prior ss) (each (ties ss K K) xs)
  ties_asc K xs a b =
      asc_each (Less sooner) (Prior ss) (ties ss K K) xs b
      (λ x. asc_each ◌<◌ (Prior ss) (ties_to ss K x) K a
      (λ r. asc_each ◌<◌ (Prior ss) (tie ss x r) K a
      (λ l. asc_cond (Prior ss) (begins x (slip ss r) && ends_properly x (slip ss l)) (join l r (length x))) (λ l k c d h m n.
      let (e, f, t) = in_tie ss x r l c m in
      let (p, q, u) = in_tie ss x r k d n in
      first_arc-numbers x c d (lex_then up c.right d.right (ltb c.left d.left) (f ∙ sym q) (rw (e, p) (lt-ltb l k h))) t u))
      (λ r i c d h m n.
      let (l, e, t) = in_ties_to ss x r K c m in
      let (k, f, u) = in_ties_to ss x i K d n in
      first_arc-numbers x c d (lex_first up c.right d.right (ltb c.left d.left) (rw (e, f) (lt-ltb r i h))) t u))
      (λ x y c d h m n. first_arc-sooner x y c d h (in_ties ss K K x c m).2 (in_ties ss K K y d n).2)

pub record Ready (counts : List ℕ → Bool) (ss : List (List ℕ)) (K : List ℕ) : Type 0 where
  pub rule : Counts counts
  pub ascending : Asc ◌<◌ K
  pub positive : (k : ℕ) → In k K → 1 ≤ k
  pub proper : (l r : ℕ) → In l K → In r K → (l ≡ r → ⊥) → overlap (slip ss l) (slip ss r) < length (slip ss l)

module _ (counts : List ℕ → Bool) (ss : List (List ℕ)) (K : List ℕ) where
  abbrev counting : ℕ → List (List ℕ)
  counting i = those counts (prefixes_to (length (slip ss i)) (slip ss i))

  abbrev visited : List (List ℕ)
  visited = in_order sooner (each counting K)

  abbrev candidates : List Join
  candidates = each (ties ss K K) visited

  visited_sorted : Sorts (Less sooner) (each counting K) visited
  visited_sorted = in_order_sorts sooner sooner_tr sooner_con (each counting K)

  in_candidates : (c : Join) → In c candidates → (x : List ℕ) × (counts x ≡ true) × In c.left K × In c.right K × Tied ss x c
  in_candidates c m =
      let (x, i, n) = in_each (ties ss K K) visited m in
      let (k, j, b) = in_each counting K (visited_sorted.back x i) in
      let (l, r, t) = in_ties ss K K x c n in
      (x, (in_those counts (prefixes_to (length (slip ss k)) (slip ss k)) b).1, l, r, t)

  module _ (R : Ready counts ss K) where
    arc_in_candidates : (a : Join) → IsArc counts ss K a → In a candidates
    arc_in_candidates a h =
        let s = slip ss a.left in
        let t = slip ss a.right in
        let x = string_of ss a in
        let e = string-length counts ss K a h in
        let p = prefix_in a.overlap (length t) t (omega (arith, counts_some counts R.rule x h.counted)) (omega (arith, overlap-fits s t)) in
        each_in (ties ss K K) (visited_sorted.into x (each_in counting h.right_in (those_in counts p h.counted)))
        (ties_in ss K K x a h.left_in h.right_in (record {
          starts = begins_prefix a.overlap t;
          ends = rw h.size (overlap_met s t (R.proper a.left a.right h.left_in h.right_in h.other));
          size = sym e;
        }))

    candidate_covered : (c : Join) → In c candidates → Cover (Prior ss) (ordered counts ss K) [] c
    candidate_covered c m =
        let (x, e, l, r, t) = in_candidates c m in
        let s = slip ss c.left in
        let y = slip ss c.right in
        let d = join c.left c.right (overlap s y) in
        let counted = suffix_counts counts s y R.rule x (ends_properly-ends x s t.ends).1 t.starts e in
        elim (ℕ_discrete c.left c.right) [
          | yes e ↦ inl (refused_last c.left c.right [] (sym e))
          | no ne ↦ inr (
            d,
            (arcs_sorted counts ss K).into d
                (arcs_in counts ss K R.rule d (record { left_in = l; right_in = r; other = ne; size = refl; counted = counted })),
            refl,
            refl,
            first_arc-not ss c d refl refl (omega (arith, t.size, met_overlap x s y t.ends t.starts)),
          )
        ]

    pub one_list : walk_for counts ss K ≡ plain_for counts ss K
    one_list =
        walk_takes ss K R.ascending R.positive visited [] sound_nil
        ∙ take_thin (Prior ss) (λ a e. not_both (first_arc ss a a) e (first_arc_irr ss a)) (first_arc_tr ss) candidates (ordered counts ss K) []
        (arcs_sorted counts ss K).asc (ties_asc ss K visited R.ascending visited_sorted.asc)
        (λ a m. arc_in_candidates a (in_arcs counts ss K a ((arcs_sorted counts ss K).back a m))) candidate_covered
        (λ c m. R.positive c.left (in_candidates c m).2) sound_nil

pub kept_ready :
    (counts : List ℕ → Bool) (ss : List (List ℕ)) (M : List ℕ)
    → Counts counts → Asc ◌<◌ M → ((k : ℕ) → In k M → 1 ≤ k) → Ready counts ss (kept ss M)
kept_ready counts ss M C a p =
    record {
      rule = C;
      ascending = kept_asc ss M a;
      positive = λ k m. p k (in_kept ss M m).0;
      proper = kept_proper ss M;
    }
