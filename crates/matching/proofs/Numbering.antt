-- The numbers of all nodes: by length, then in dictionary order.
--   zs               == the patterns in dictionary order
--   lower x y        == x has a smaller number than y: fewer letters, or as many and before it
--   levels_down D zs  == the same, longest first
-- Each length's prefixes ascend, and the lengths ascend. So the nodes, the empty string first, ascend by `lower` and have every prefix.
use mathlib.Core.Path.{◌≡◌, sym, subst, ◌∙◌}
use mathlib.Core.Bool.{Bool, true, ◌&&◌, ◌||◌}
use mathlib.Core.Logic.{inl, inr}
use mathlib.Core.List.Memᴰ
use mathlib.Core.List.{List, [], ◌∷◌, ◌++◌}
use Prim.Native.Nat.{ℕ, zero, suc, ◌+◌, ◌≤◌, ◌<◌}
use native.Mathlib.Decide.{dec_lt, ℕ_discrete}
use native.Mathlib.Nat.{add-suc}
use native.Mathlib.Omega.{arith}
use lib.Dec.{eqb, ltb}
use lib.ListN.{length, get_or, take, length-append, get_or-append}
use lib.Seq.{get_or-append-add}
use borrow.Author.Tests.{lt-ltb}
use Rattle.words.specs.Words.{before, begins}
use Rattle.words.proofs.Tests.{not_both}
use Rattle.words.proofs.Members.{In, Asc, Less, asc_append}
use Rattle.words.proofs.Orders.{up, down, strings, lex_first, lex_then, lex_irr, lex_tr}
use Rattle.words.proofs.Strings.{begins-take, begins_prefix, begins-length}
use Rattle.words.proofs.Picks.{asc_turn}
pub use Rattle.matching.specs.Steps.Nodes.{lower}
use Rattle.matching.proofs.Levels.{NotAfter, Before, not_after_nil, level, level_asc, level-length, level-some, in_level}
use Rattle.matching.proofs.Ranks.{level_node, rank_some, rank_fits}
pub use Rattle.matching.specs.Steps.Levels.{levels_up, node_at}

-- longest first: the walk's order of visits
abbrev pub higher : List ℕ → List ℕ → Bool
higher x y = ltb (length y) (length x) || (eqb (length x) (length y) && before x y)

pub lower_irr : (x : List ℕ) → Less lower x x → ⊥
lower_irr x h = not_both (lower x x) h (lex_irr up (length x) (before x x) (strings.irr x))

pub lower_tr : (x y z : List ℕ) → Less lower x y → Less lower y z → Less lower x z
lower_tr x y z = lex_tr up (length x) (length y) (length z) (before x y) (before y z) (before x z) (strings.tr x y z)

pub lower_shorter : (x y : List ℕ) → length x < length y → Less lower x y
lower_shorter x y h = lex_first up (length x) (length y) (before x y) (lt-ltb (length x) (length y) h)

pub higher_longer : (x y : List ℕ) → length y < length x → Less higher x y
higher_longer x y h = lex_first down (length x) (length y) (before x y) (lt-ltb (length y) (length x) h)

abbrev pub levels_down : ℕ → List (List ℕ) → List (List ℕ)
levels_down zero zs = []
levels_down (suc c) zs = level (suc c) [] zs ++ levels_down c zs

-- w has a letter, at most D, and is a prefix of a string of zs
abbrev pub Prefix : ℕ → List (List ℕ) → List ℕ → Type 0
Prefix D zs w = (1 ≤ length w) × (length w ≤ D) × ((x : List ℕ) × In x zs × (begins w x ≡ true))

module _ (zs : List (List ℕ)) where
  in_one : (d : ℕ) (w : List ℕ) → 1 ≤ d → In w (level d [] zs) → Prefix d zs w
  in_one d w h m =
      let (x, i, k, e) = in_level d [] zs w m in
      let n = level-length d [] zs w m in
      (omega arith, omega arith, (x, i, subst (λ y. begins y x ≡ true) (sym e) (begins_prefix d x)))

  one_in : (D : ℕ) (w : List ℕ) → Prefix D zs w → In w (level (length w) [] zs)
  one_in D w p =
      let (h, l, (x, i, b)) = p in
      rw (begins-take w x b) at (level-some (length w) zs x h (begins-length w x b) i)

  wider : (D : ℕ) (w : List ℕ) → Prefix D zs w → Prefix (suc D) zs w
  wider D w p = (p.0, omega arith, p.2)

  by_length : {P : Type 0} (D : ℕ) (w : List ℕ) → Prefix (suc D) zs w → (In w (level (suc D) [] zs) → P) → (Prefix D zs w → P) → P
  by_length D w p f g =
      elim (ℕ_discrete (length w) (suc D)) [ yes e ↦ f (rw e at (one_in (suc D) w p)) | no ne ↦ g (p.0, omega arith, p.2) ]

  pub in_levels_up : (D : ℕ) (w : List ℕ) → In w (levels_up D zs) → Prefix D zs w
  in_levels_up zero w m = absurd (Memᴰ.not-nil m)
  in_levels_up (suc D) w m =
      elim (Memᴰ.append_cases (levels_up D zs) m) [ inl i ↦ wider D w (in_levels_up D w i) | inr i ↦ in_one (suc D) w (omega arith) i ]

  pub levels_up_in : (D : ℕ) (w : List ℕ) → Prefix D zs w → In w (levels_up D zs)
  levels_up_in zero w p = absurd (omega arith)
  levels_up_in (suc D) w p =
      by_length D w p (λ i. Memᴰ.append_right (levels_up D zs) i) (λ q. Memᴰ.append_left (level (suc D) [] zs) (levels_up_in D w q))

  pub in_levels_down : (D : ℕ) (w : List ℕ) → In w (levels_down D zs) → Prefix D zs w
  in_levels_down zero w m = absurd (Memᴰ.not-nil m)
  in_levels_down (suc D) w m =
      elim (Memᴰ.append_cases (level (suc D) [] zs) m) [ inl i ↦ in_one (suc D) w (omega arith) i | inr i ↦ wider D w (in_levels_down D w i) ]

  pub levels_down_in : (D : ℕ) (w : List ℕ) → Prefix D zs w → In w (levels_down D zs)
  levels_down_in zero w p = absurd (omega arith)
  levels_down_in (suc D) w p =
      by_length D w p (λ i. Memᴰ.append_left (levels_down D zs) i) (λ q. Memᴰ.append_right (level (suc D) [] zs) (levels_down_in D w q))

  module _ (asc : Asc NotAfter zs) where
    one_asc : (d : ℕ) (R : List ℕ → List ℕ → Type 0) → ((a b : List ℕ) → length a ≡ length b → Before a b → R a b) → Asc R (level d [] zs)
    one_asc d R f =
        asc_turn Before R (level d [] zs)
        (λ a b i j. f a b (level-length d [] zs a i ∙ sym (level-length d [] zs b j)))
        (level_asc d [] zs ((λ y m. not_after_nil y), asc))

    pub levels_up_asc : (D : ℕ) → Asc (Less lower) (levels_up D zs)
    levels_up_asc zero = tt
    levels_up_asc (suc D) =
        asc_append (Less lower) (levels_up D zs) (level (suc D) [] zs) (levels_up_asc D)
        (one_asc (suc D) (Less lower) (λ a b. lex_then up (length a) (length b) (before a b)))
        (λ a b i j. lower_shorter a b (omega (arith, in_levels_up D a i, level-length (suc D) [] zs b j)))

    pub nodes_asc : (D : ℕ) → Asc (Less lower) ([] ∷ levels_up D zs)
    nodes_asc D = ((λ w m. lower_shorter [] w (in_levels_up D w m).0), levels_up_asc D)

    pub levels_down_asc : (D : ℕ) → Asc (Less higher) (levels_down D zs)
    levels_down_asc zero = tt
    levels_down_asc (suc D) =
        asc_append (Less higher) (level (suc D) [] zs) (levels_down D zs)
        (one_asc (suc D) (Less higher) (λ a b. lex_then down (length a) (length b) (before a b)))
        (levels_down_asc D)
        (λ a b i j. higher_longer a b (omega (arith, in_levels_down D b j, level-length (suc D) [] zs a i)))

  levels_up_grow : (c D : ℕ) → c ≤ D → length (levels_up c zs) ≤ length (levels_up D zs)
  levels_up_grow c zero h = let e : c ≡ 0 = omega arith in rw e (omega arith)
  levels_up_grow c (suc D) h =
      elim (ℕ_discrete c (suc D)) [
        | yes e ↦ rw e (omega arith)
        | no ne ↦ omega (arith, levels_up_grow c D (omega arith), length-append (levels_up D zs) (level (suc D) [] zs))
      ]

  -- the j-th prefix of c + 1 letters among the nodes
  pub levels_up_at :
      (D c j : ℕ) → c < D → j < length (level (suc c) [] zs)
      → get_or (levels_up D zs) (length (levels_up c zs) + j) [] ≡ get_or (level (suc c) [] zs) j []
  levels_up_at zero c j h l = absurd (omega arith)
  levels_up_at (suc D) c j h l =
      elim (dec_lt c D) [
        | yes k ↦
            get_or-append (levels_up D zs) (level (suc D) [] zs) [] (length (levels_up c zs) + j)
            (omega (arith, levels_up_grow (suc c) D k, length-append (levels_up c zs) (level (suc c) [] zs)))
            ∙ levels_up_at D c j k l
        | no k ↦ let e : c ≡ D = omega arith in rw e (get_or-append-add (levels_up D zs) (level (suc D) [] zs) j [])
      ]

  nodes_at_lem :
      (D c n : ℕ) → c < D → 1 ≤ n → n ≤ length (level (suc c) [] zs)
      → get_or ([] ∷ levels_up D zs) (length (levels_up c zs) + n) [] ≡ get_or ([] ∷ level (suc c) [] zs) n []
  nodes_at_lem D c zero h k l = absurd (omega arith)
  nodes_at_lem D c (suc j) h k l = rw (add-suc (length (levels_up c zs)) j) (levels_up_at D c j h l)

  pub node_at-is :
      (D c r : ℕ) → c < D → r < length zs → c < length (get_or zs r [])
      → get_or ([] ∷ levels_up D zs) (node_at zs c r) [] ≡ take (suc c) (get_or zs r [])
  node_at-is D c r h l k =
      nodes_at_lem D c (length (level (suc c) [] (take (suc r) zs))) h (rank_some (suc c) zs r l (omega arith) k) (rank_fits (suc c) zs (suc r))
      ∙ level_node (suc c) zs r l k
