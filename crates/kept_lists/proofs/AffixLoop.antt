-- The lists of beginnings, or of endings: the kept members that have each node as such an affix, filled from the last kept member on.
--   has-.., place-..          == a slip has one affix of each length; its cells for them stand in it, apart
--   OneMore d long long'      == long' has the lengths of long, and d
--   Adding a .. w₀ j i w long == as before the j-th kept member i was added, in w₀, but for the nodes whose lengths long has
--   added-..                  == the member i, and its number
--   adding-..                 == no length, one more without a node, one more with a node, all
--   listing_start             == no member is in the lists
-- A node's cell in the member is new to the lists: nodes of other lengths have other cells of the member, and the members that came already stand
-- behind it in the tray.
use mathlib.Core.Path.{◌≡◌, refl, sym, ap, ◌∙◌}
use mathlib.Core.Bool.{Bool, true, false, ◌&&◌}
use mathlib.Core.Logic.{inl, inr}
use mathlib.Core.List.{List}
use Prim.Native.Nat.{ℕ, ◌+◌, ◌-◌, ◌≤◌, ◌<◌}
use native.Mathlib.Decide.{ℕ_discrete}
use native.Mathlib.Omega.{arith}
use lib.ListN.{length, drop, replicate, drop_of_length-le}
use Rattle.words.proofs.Tests.{tell, both, not_both}
use Rattle.words.proofs.Strings.{begins-length, begins_one, ends_properly-ends, ends_properly-drop}
use Rattle.words.proofs.Members.{In, in_those}
use Rattle.trays.specs.Limits.{max_letters, work_need}
use Rattle.trays.specs.Slips.{slips_of, slip, start_of, end_of}
use Rattle.tables.specs.Tables.{Got, Filled}
use Rattle.matching.specs.Steps.Nodes.{string, Num}
use Rattle.matching.proofs.NodeLaws.{node_some, node_one}
use Rattle.layout.specs.Layout.{KEPT, STARTS}
use Rattle.layout.specs.Tables.{cell}
use Rattle.layout.specs.Numbered.{patterns_in, Numbered, SameBelow}
use Rattle.layout.specs.Staging.{kept_in}
use Rattle.layout.proofs.Frames.{kept-lower, members_kept}
use Rattle.layout.proofs.Heads.{num_most}
use Rattle.layout.proofs.AreaSlips.{area_slips}
use Rattle.kept_slips.specs.Steps.Kept.{KeptFound}
use Rattle.kept_lists.specs.Steps.KeptLists.{Affix, beginnings, endings, has, place, heads, nexts, with_affix, Listing, ListedTo}
use Rattle.trie_heads.specs.Steps.Heads.{CanPush, Pushed, Lists}
use Rattle.trie_heads.proofs.Threading.{front, those_front, in_front, push_lists}
use Rattle.trie_heads.proofs.Keeping.{kept_refl, kept_trans, kept_filled, kept_pushed, cleared}
use Rattle.trie_heads.proofs.MemberNodes.{Member}
use Rattle.kept_lists.proofs.KeptMembers.{kept-length, got_kept, drop_got, kept_apart, kept_same, staged_kept}

tables_fit : (a : Affix) → (STARTS ≤ heads a) × (heads a + max_letters < nexts a) × (nexts a + max_letters ≤ work_need)
tables_fit beginnings = (omega arith, omega arith, omega arith)
tables_fit endings = (omega arith, omega arith, omega arith)

has_one : (a : Affix) (x y z : List ℕ) → has a x z ≡ true → has a y z ≡ true → length x ≡ length y → x ≡ y
has_one beginnings x y z e f l = begins_one x y z e f l
has_one endings x y z e f l = sym (ends_properly-drop x z e) ∙ ap (λ d. drop (length z - d) z) l ∙ ends_properly-drop y z f

has-length : (a : Affix) (x y : List ℕ) → has a x y ≡ true → length x ≤ length y
has-length beginnings x y e = begins-length x y e
has-length endings x y e = omega (arith, (ends_properly-ends x y e).0)

module _ (es : List ℕ) (r d : ℕ) (some : 1 ≤ d) (fits : start_of es r + d ≤ end_of es r) where
  place_within : (a : Affix) → (start_of es r ≤ place a es d r) × (place a es d r < end_of es r)
  place_within beginnings = (omega arith, omega arith)
  place_within endings = (omega arith, omega arith)

  place_apart : (a : Affix) (c : ℕ) → 1 ≤ c → start_of es r + c ≤ end_of es r → place a es c r ≡ place a es d r → c ≡ d
  place_apart beginnings c h l e = omega arith
  place_apart endings c h l e = omega arith

pub record OneMore (d : ℕ) (long long' : ℕ → Bool) : Type 0 where
  pub now : long' d ≡ true
  pub before : long d ≡ false
  pub others : (m : ℕ) → (m ≡ d → ⊥) → long' m ≡ long m

abbrev seen : Affix → (ℕ → Bool) → List ℕ → List ℕ → Bool
seen a long x y = has a x y && long (length x)

pub record Adding (a : Affix) (s es : List ℕ) (n k : ℕ) (w₀ : List ℕ) (j i : ℕ) (w : List ℕ) (long : ℕ → Bool) : Type 0 where
  pub below : SameBelow (heads a) w₀ w
  pub lists :
      let ps = patterns_in s es n w₀ in
      Lists (Num ps) (λ v. place a es (length (string ps v))) (cell w (heads a)) (cell w (nexts a))
      (λ v. front (seen a long (string ps v) (slip (slips_of s es) i)) i (with_affix a (slips_of s es) (string ps v) (drop (j + 1) (kept_in w₀ k))))

-- length by length
module _
    {a : Affix} {s es : List ℕ} {n k nodes : ℕ} {w₀ : List ℕ} {j i : ℕ} (S : Listing a s es n k nodes w₀ (j + 1)) (g : Got w₀ KEPT j i) where
  open area_slips s es n w₀ use {ss, ps}

  abbrev x : List ℕ
  x = slip ss i

  abbrev later : List ℕ
  later = drop (j + 1) (kept_in w₀ k)

  N : Numbered s es n nodes w₀
  N = S.staged.automaton.branched.numbered

  pub added : Member s es n w₀ i
  added = got_kept S.staged g (omega (arith, S.upto))

  pub added-some : 1 ≤ i
  added-some = added.some

  pub added-most : i ≤ length es
  added-most = added.most

  inside : {r : ℕ} → Member s es n w₀ r → (v : ℕ) → has a (string ps v) (slip ss r) ≡ true → start_of es r + length (string ps v) ≤ end_of es r
  inside {r} m v t = omega (arith, m.size, has-length a (string ps v) (slip ss r) t)

  seen_same : {d : ℕ} {long long' : ℕ → Bool} → OneMore d long long' → (v : ℕ) → (length (string ps v) ≡ d → has a (string ps v) x ≡ false) →
      seen a long' (string ps v) x ≡ seen a long (string ps v) x
  seen_same {d} o v h = elim (ℕ_discrete (length (string ps v)) d) [ yes e ↦ rw (h e) | no ne ↦ rw (o.others (length (string ps v)) ne) ]

  pub adding_none : (long : ℕ → Bool) → ((v : ℕ) → Num ps v → has a (string ps v) x ≡ true → long (length (string ps v)) ≡ false) →
      Adding a s es n k w₀ j i w₀ long
  adding_none long h =
      record {
        below = kept_refl;
        lists = λ v m. elim (tell (has a (string ps v) x)) [ inl t ↦ rw (t, h v m t) (S.lists v m) | inr t ↦ rw t (S.lists v m) ];
      }

  module _ {w : List ℕ} {long : ℕ → Bool} (B : Adding a s es n k w₀ j i w long) where
    pub adding_skip : {d : ℕ} {long' : ℕ → Bool} → OneMore d long long' →
        ((v : ℕ) → Num ps v → length (string ps v) ≡ d → has a (string ps v) x ≡ false) → Adding a s es n k w₀ j i w long'
    adding_skip o h = record { below = B.below; lists = λ v m. rw (seen_same o v (h v m)) (B.lists v m) }

    module _ {d u : ℕ} (m : Num ps u) (e : length (string ps u) ≡ d) (t : has a (string ps u) x ≡ true) where
      some : 1 ≤ d
      some = omega (arith, (node_some ps u m).0)

      fits : start_of es i + d ≤ end_of es i
      fits = omega (arith, inside added u t)

      stands : place a es d i < end_of es i
      stands = (place_within es i d some fits a).1

      pub adding_can : CanPush w (heads a) u (nexts a) (place a es d i) i
      adding_can =
          record {
            head = omega (arith, num_most N u m, N.few_nodes, (tables_fit a).1);
            next = omega (arith, stands, added.fits, (tables_fit a).2, N.room, B.below.same);
            small = omega (arith, added.few);
          }

      -- another node of as many letters is not the affix
      other : (v : ℕ) → Num ps v → (v ≡ u → ⊥) → length (string ps v) ≡ d → has a (string ps v) x ≡ false
      other v q ne f =
          elim (tell (has a (string ps v) x)) [
            | inl b ↦
                absurd (ne (node_one ps
                (record { inside = q.inside; is = has_one a (string ps v) (string ps u) x b t (f ∙ sym e) })
                (record { inside = m.inside; is = refl })))
            | inr b ↦ b
          ]

      unused : long d ≡ false → (v r : ℕ) → Num ps v → In r (front (seen a long (string ps v) x) i (with_affix a ss (string ps v) later)) →
          place a es (length (string ps v)) r ≡ place a es d i → ⊥
      unused new v r q o f =
          let y = string ps v in
          let l = (node_some ps v q).0 in
          in_front (seen a long y x) i (with_affix a ss y later) o
          (λ b z.
          let (h, c) = both (has a y x) (long (length y)) b in
          not_both (long d) (rw (place_apart es i d some fits a (length y) l (inside added v h) (rw z at f)) at c) new)
          (λ b.
          let (b, h) = in_those (λ r. has a y (slip ss r)) later b in
          let (_, c, M) = kept_apart S.staged g (omega (arith, S.upto)) b in
          omega (arith, stands, (place_within es r (length y) l (inside M v h) a).0))

      pub adding_more : {long' : ℕ → Bool} {w' : List ℕ} {p : ℕ} → OneMore d long long' → Pushed w (heads a) u (nexts a) p i w' → p ≡ place a es d i →
          Adding a s es n k w₀ j i w' long'
      adding_more {long'} {w'} {p} o y f =
          record {
            below = kept_trans B.below (kept_pushed (omega (arith, (tables_fit a).1)) y);
            lists =
                push_lists (Num ps) (λ v. place a es (length (string ps v)))
                (λ v. front (seen a long (string ps v) x) i (with_affix a ss (string ps v) later))
                (λ v. front (seen a long' (string ps v) x) i (with_affix a ss (string ps v) later))
                w (heads a) u (nexts a) p i w' y (rw e f)
                (λ v q. omega (arith, num_most N v q, N.few_nodes, (tables_fit a).1))
                m
                (λ v r q b z. unused o.before v r q b (rw e at z))
                (rw (t, e, o.now, o.before))
                (λ v q ne. rw (seen_same o v (other v q ne)))
                B.lists;
          }

    pub adding_all : ((v : ℕ) → Num ps v → has a (string ps v) x ≡ true → long (length (string ps v)) ≡ true) → ListedTo a s es n k nodes w₀ j w
    adding_all h =
        let low = kept-lower STARTS (tables_fit a).0 B.below in
        let whole : (v : ℕ) → Num ps v → seen a long (string ps v) x ≡ has a (string ps v) x =
        λ v m. elim (tell (has a (string ps v) x)) [ inl t ↦ rw (t, h v m t) | inr t ↦ rw t ] in
        record {
          listing =
              record {
                staged = staged_kept low S.staged;
                upto = omega (arith, S.upto);
                lists =
                    rw (
                      members_kept n (omega (arith, N.few_members)) low,
                      kept_same S.staged.few_kept low,
                      drop_got S.staged g (omega (arith, S.upto)),
                    )
                    (λ v m. rw (those_front (λ r. has a (string ps v) (slip ss r)) i later, ← whole v m) (B.lists v m));
              };
          below = B.below;
        }

-- member by member
module _ {a : Affix} {s es : List ℕ} {n k nodes : ℕ} {w : List ℕ} where
  pub listing_start : {w' : List ℕ} → KeptFound s es n k nodes w → Filled (heads a) (nodes + 1) (replicate (nodes + 1) 0) w w' →
      ListedTo a s es n k nodes w' k w'
  listing_start {w'} S f =
      let T = staged_kept (kept-lower STARTS (tables_fit a).0 (kept_filled f)) S in
      record {
        listing =
            record {
              staged = T;
              upto = omega arith;
              lists =
                  rw (drop_of_length-le (kept_in w' k) {i = k} (rw (kept-length T) (omega arith)))
                  (λ v m. cleared f (omega (arith, num_most T.automaton.branched.numbered v m)));
            };
        below = kept_refl;
      }
