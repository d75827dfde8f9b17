-- What the cells of each table mean, over the slips ss of a tray with ends es and its members M. A table is read as a function of its index:
-- `cell w BASE` of the work area w.
--   cell w base i         == cell i of the table at base
--   members w n           == the members, n of them
--   patterns ss M         == the letters of the members
--   AtIs, OwnIs, ..       == the meaning of the table AT, OWN, .. (see Layout)
--   Child ps v c r        == r is the node of the string of v with the letter c, 0 if that is no node
--   FailUpTo ps k fail    == the failure links of the nodes up to k are right
--   Threaded next i xs    == from i along next run the numbers xs, then 0
use Rattle.std.specs.Prelude.{◌≡◌, false, List, [], ◌∷◌, ◌++◌, map, ℕ, suc, ◌+◌, ◌-◌, ◌*◌, ◌≤◌, ◌<◌, length, get_or, take}
use Rattle.words.specs.Lists.{those, tail_of}
use Rattle.words.specs.Words.{same}
use Rattle.words.specs.Steps.Members.{In}
use Rattle.trays.specs.Slips.{slip, start_of, end_of}
use Rattle.tables.specs.Tables.{table}
use Rattle.matching.specs.Moves.{begins_some, longest_ending}
use Rattle.matching.specs.Steps.Nodes.{nodes_of, string, IsNode, Num}
use Rattle.greedy.specs.Steps.Scans.{starters, enders}
use Rattle.layout.specs.Layout.{MEMBERS, near_nodes, near_letters, first_sign, last_sign}

abbrev pub cell : List ℕ → ℕ → ℕ → ℕ
cell w base i = get_or w (base + i) 0

-- the members of the automaton in w, and those in the order of their letters
abbrev pub members : List ℕ → ℕ → List ℕ
members w n = table w MEMBERS n

abbrev pub patterns : List (List ℕ) → List ℕ → List (List ℕ)
patterns ss M = map (slip ss) M

-- AT: the cell of letter c of member i is the node of the beginning of c + 1 letters
abbrev pub AtIs : List (List ℕ) → List ℕ → List ℕ → (ℕ → ℕ) → Type 0
AtIs ss es M at =
    (i c : ℕ) → In i M → c < length (slip ss i) → IsNode (patterns ss M) (at (start_of es i + c)) (take (suc c) (slip ss i))

-- OWN: the position of a node's last letter in a member that has it
pub record Owned (ss : List (List ℕ)) (es M : List ℕ) (p : ℕ) (x : List ℕ) : Type 0 where
  pub member : ℕ
  pub letter : ℕ
  pub among : In member M
  pub within : letter < length (slip ss member)
  pub place : p ≡ start_of es member + letter
  pub beginning : take (suc letter) (slip ss member) ≡ x

abbrev pub OwnIs : List (List ℕ) → List ℕ → List ℕ → (ℕ → ℕ) → Type 0
OwnIs ss es M own = (v : ℕ) → Num (patterns ss M) v → Owned ss es M (own v) (string (patterns ss M) v)

-- LEVEL: the nodes of d letters or more are those from `level d` on
pub record LevelIs (ps : List (List ℕ)) (level : ℕ → ℕ) (top : ℕ) : Type 0 where
  pub some : (d : ℕ) → 1 ≤ d → d ≤ suc top → (1 ≤ level d) × (level d ≤ length (nodes_of ps))
  pub from : (d v : ℕ) → 1 ≤ d → d ≤ suc top → Num ps v → d ≤ length (string ps v) → level d ≤ v
  pub back : (d v : ℕ) → 1 ≤ d → d ≤ suc top → Num ps v → level d ≤ v → d ≤ length (string ps v)
  pub all : (v : ℕ) → Num ps v → length (string ps v) ≤ top

-- KID: the children of v are the numbers from `kid v` up to `kid (v + 1)`
pub record KidIs (ps : List (List ℕ)) (kid : ℕ → ℕ) : Type 0 where
  pub some : (v : ℕ) → v ≤ length (nodes_of ps) → (1 ≤ kid v) × (kid v ≤ length (nodes_of ps))
  pub into : (v u c : ℕ) → v < length (nodes_of ps) → Num ps u → string ps u ≡ string ps v ++ (c ∷ []) → (kid v ≤ u) × (u < kid (suc v))
  pub back : (v u : ℕ) → v < length (nodes_of ps) → Num ps u → kid v ≤ u → u < kid (suc v) → (c : ℕ) × (string ps u ≡ string ps v ++ (c ∷ []))

-- NEAR: the child of each of the first nodes by each letter
pub record Child (ps : List (List ℕ)) (v c r : ℕ) : Type 0 where
  pub node : (r ≡ 0 → ⊥) → IsNode ps r (string ps v ++ (c ∷ []))
  pub none : r ≡ 0 → begins_some (string ps v ++ (c ∷ [])) ps ≡ false

abbrev pub NearIs : List (List ℕ) → (ℕ → ℕ) → Type 0
NearIs ps near =
    (v c : ℕ) → v < near_nodes → v < length (nodes_of ps) → first_sign ≤ c → c ≤ last_sign → Child ps v c (near (near_letters * v + (c - first_sign)))

-- FAIL: the failure link of a node is the longest proper ending of its string that begins a member
abbrev pub FailUpTo : List (List ℕ) → ℕ → (ℕ → ℕ) → Type 0
FailUpTo ps k fail = (v : ℕ) → Num ps v → v ≤ k → IsNode ps (fail v) (longest_ending (tail_of (string ps v)) ps)

abbrev pub FailIs : List (List ℕ) → (ℕ → ℕ) → Type 0
FailIs ps fail = (v : ℕ) → Num ps v → IsNode ps (fail v) (longest_ending (tail_of (string ps v)) ps)

-- HEAD, TWIN: the members whose letters a node is, ascending
abbrev pub owners : List (List ℕ) → List ℕ → List ℕ → List ℕ
owners ss M x = those (λ i. same (slip ss i) x) M

abbrev pub Threaded : (ℕ → ℕ) → ℕ → List ℕ → Type 0
Threaded next i [] = i ≡ 0
Threaded next i (x ∷ xs) = (i ≡ x) × Threaded next (next x) xs

abbrev pub HeadIs : List (List ℕ) → List ℕ → (ℕ → ℕ) → (ℕ → ℕ) → Type 0
HeadIs ss M head twin = (v : ℕ) → Num (patterns ss M) v → Threaded twin (head v) (owners ss M (string (patterns ss M) v))

-- STARTS, ENDS: the kept members K that begin with a node, and those that properly end with it, ascending
abbrev pub StartsIs : List (List ℕ) → List ℕ → List ℕ → List ℕ → (ℕ → ℕ) → (ℕ → ℕ) → Type 0
StartsIs ss es M K starts next =
    (v d : ℕ) → Num (patterns ss M) v → length (string (patterns ss M) v) ≡ suc d →
    Threaded (λ r. next (start_of es r + d)) (starts v) (starters ss (string (patterns ss M) v) K)

abbrev pub EndsIs : List (List ℕ) → List ℕ → List ℕ → List ℕ → (ℕ → ℕ) → (ℕ → ℕ) → Type 0
EndsIs ss es M K ends next =
    (v : ℕ) → Num (patterns ss M) v
    → Threaded (λ l. next (end_of es l - length (string (patterns ss M) v))) (ends v) (enders ss (string (patterns ss M) v) K)
