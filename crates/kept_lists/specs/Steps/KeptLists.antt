-- What the functions that read the tables off the automaton ask and leave, in the work area w of a tray with letters s and ends es. Its n
-- members stand in w, and the nodes of their letters have the numbers up to nodes. Each leaves the cells below its own tables as they were.
--   Affix                      == the beginnings of slips, or their proper endings
--   has a x y                  == x is such an affix of slip y: it begins y, or properly ends it
--   place a es d r             == where slip r has its cell in the lists of the nodes of d letters: at the node's last letter, or at its first
--   heads a, nexts a           == the tables of the lists' heads, and of these cells
--   with_affix a ss x K         == those of the slips K that have x as such an affix
--   AffixListsAre a .. w K     == the lists of these affixes in w hold the slips K
--   Listing a .. j             == the kept members from the j-th on are in these lists; ListedTo: the j-th is too now
--   AffixFilled a .. w w'      == all of them are
--   ListsFilled .. k ..        == all of the tables are filled
use Rattle.std.specs.Prelude.{◌≡◌, Bool, List, ℕ, ◌+◌, ◌-◌, ◌≤◌, length, drop}
use Rattle.words.specs.Lists.{those}
use Rattle.words.specs.Words.{begins, ends_properly}
use Rattle.trays.specs.Slips.{slips_of, slip, start_of, end_of}
use Rattle.trays.specs.Aside.{kept}
use Rattle.matching.specs.Steps.Nodes.{string, Num}
use Rattle.layout.specs.Layout.{HEAD, STARTS, STARTS_NEXT, ENDS, ENDS_NEXT}
use Rattle.layout.specs.Tables.{cell, members, StartsIs, EndsIs}
use Rattle.layout.specs.Numbered.{patterns_in, SameBelow}
use Rattle.layout.specs.Staging.{kept_in}
use Rattle.trie_heads.specs.Steps.Heads.{Lists}
use Rattle.kept_slips.specs.Steps.Kept.{KeptFound}

-- prefixes, or proper suffixes: each has tables of its own
pub data Affix : Type 0 where
  beginnings : Affix
  endings : Affix

abbrev pub has : Affix → List ℕ → List ℕ → Bool
has beginnings x y = begins x y
has endings x y = ends_properly x y

abbrev pub place : Affix → List ℕ → ℕ → ℕ → ℕ
place beginnings es d r = start_of es r + (d - 1)
place endings es d r = end_of es r - d

abbrev pub heads : Affix → ℕ
heads beginnings = STARTS
heads endings = ENDS

abbrev pub nexts : Affix → ℕ
nexts beginnings = STARTS_NEXT
nexts endings = ENDS_NEXT

-- STARTS and STARTS_NEXT, or ENDS and ENDS_NEXT
abbrev pub with_affix : Affix → List (List ℕ) → List ℕ → List ℕ → List ℕ
with_affix a ss x K = those (λ r. has a x (slip ss r)) K

abbrev pub AffixListsAre : Affix → List ℕ → List ℕ → ℕ → List ℕ → List ℕ → Type 0
AffixListsAre a s es n w K =
    let ps = patterns_in s es n w in
    Lists (Num ps) (λ v. place a es (length (string ps v))) (cell w (heads a)) (cell w (nexts a)) (λ v. with_affix a (slips_of s es) (string ps v) K)

pub record Listing (a : Affix) (s es : List ℕ) (n k nodes : ℕ) (w : List ℕ) (j : ℕ) : Type 0 where
  pub staged : KeptFound s es n k nodes w
  pub upto : j ≤ k
  pub lists : AffixListsAre a s es n w (drop j (kept_in w k))

pub record ListedTo (a : Affix) (s es : List ℕ) (n k nodes : ℕ) (w : List ℕ) (j : ℕ) (w' : List ℕ) : Type 0 where
  pub listing : Listing a s es n k nodes w' j
  pub below : SameBelow (heads a) w w'

pub record AffixFilled (a : Affix) (s es : List ℕ) (n k nodes : ℕ) (w w' : List ℕ) : Type 0 where
  pub staged : KeptFound s es n k nodes w'
  pub lists : AffixListsAre a s es n w' (kept_in w' k)
  pub below : SameBelow (heads a) w w'

-- all of them
pub record ListsFilled (s es : List ℕ) (n nodes : ℕ) (w : List ℕ) (k : ℕ) (w' : List ℕ) : Type 0 where
  pub staged : KeptFound s es n k nodes w'
  pub all : k ≡ length (kept (slips_of s es) (members w n))
  pub starts : StartsIs (slips_of s es) es (members w' n) (kept_in w' k) (cell w' STARTS) (cell w' STARTS_NEXT)
  pub ends : EndsIs (slips_of s es) es (members w' n) (kept_in w' k) (cell w' ENDS) (cell w' ENDS_NEXT)
  pub below : SameBelow HEAD w w'
