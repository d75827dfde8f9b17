-- What is claimed of greedy joining, for every accepted tray with any settings, over the definitions alone.
--   holds_all ss K t  == the text t holds every slip of K
--   stop_free ss K    == no slip of K begins with a stop
--   bound c t        == the most letters that the kept slips may have if the text t holds them
--   Greedy c         == what is claimed of all that is composed
--   GreedyLegends         == so for every accepted tray
--   FewerJoins      == a higher least overlap only leaves joins out
--   AllCount c       == joins, legend, places and letters compared are as if all overlaps counted
--   StopFree        == so with a least overlap of 1, where no kept slip begins with a stop
--   Tried c i        == what is claimed of the trial of places for slip i
--   AllTried        == so for every slip of an accepted tray
use Rattle.std.specs.Prelude.{◌≡◌, Bool, true, ◌&&◌, not, List, [], ◌∷◌, ℕ, suc, ◌+◌, ◌*◌, ◌^◌, ◌≤◌, ◌<◌, leb, length}
use Rattle.words.specs.Lists.{any, those}
use Rattle.words.specs.Words.{begins, stands_in, non_empty}
use Rattle.trays.specs.declared.Settings.{Settings}
use Rattle.trays.specs.Slips.{slips_of, slip, stop}
use Rattle.trays.specs.Faults.{tray_fault}
use Rattle.greedy.specs.Joins.{saved, plain_for}
use Rattle.greedy.specs.Legends.{legend_for, place_for, compared_for}
use Rattle.greedy.specs.Composing.{Composing, usual, whole, kept_of, joins_of, walk_of, legend_of, place_of, compared_of, kept_letters}

-- Rules: a text holds a slip whose letters stand in it as one stretch. Here: it holds every slip of K.
abbrev pub holds_all : List (List ℕ) → List ℕ → List ℕ → Bool
holds_all ss [] t = true
holds_all ss (i ∷ is) t = stands_in (slip ss i) t && holds_all ss is t

-- Rules: no kept slip begins with a full stop. Less is asked than that no slip does, so what holds here holds there.
abbrev pub stop_free : List (List ℕ) → List ℕ → Bool
stop_free ss K = not (any (λ i. begins (stop ∷ []) (slip ss i)) K)

-- Rules: a text's length + 2 × saved.
abbrev pub bound : Composing → List ℕ → ℕ
bound c t = length t + 2 * saved (joins_of c)

-- what is claimed of all that is composed
pub record Greedy (c : Composing) : Type 0 where
  -- the walk and the plain rule make one list, join by join and in order
  pub one_list : walk_of c ≡ joins_of c
  -- kept letters = saved + legend length
  pub saving : kept_letters c ≡ saved (joins_of c) + length (legend_of c)
  -- the legend holds every kept slip
  pub legend_holds : holds_all c.slips (kept_of c) (legend_of c) ≡ true
  -- with a least overlap of 1, and where no kept slip begins with a stop, any text that holds every kept slip saves at most twice as much
  pub at_most_twice :
      c.least ≡ 1
      → stop_free c.slips (kept_of c) ≡ true → (t : List ℕ) → holds_all c.slips (kept_of c) t ≡ true → kept_letters c ≤ bound c t

abbrev pub GreedyLegends : Type 0
GreedyLegends = (g : Settings) (s es : List ℕ) → (tray_fault s es).number ≡ 0 → Greedy (whole g (slips_of s es))

-- a higher least overlap only leaves joins out: those with enough letters are made as before, in the same order
abbrev pub FewerJoins : Type 0
FewerJoins =
    (g h : Settings) (s es : List ℕ) → (tray_fault s es).number ≡ 0 → g.least ≤ h.least
    → let ss = slips_of s es in joins_of (whole h ss) ≡ those (λ j. leb h.least j.overlap) (joins_of (whole g ss))

-- as if every overlap that has a letter counted: the rule on stops changes nothing
pub record AllCount (c : Composing) : Type 0 where
  pub joins_are : joins_of c ≡ plain_for non_empty c.slips (kept_of c)
  pub legend_is : legend_of c ≡ legend_for non_empty c.slips c.members
  pub places_are : (i : ℕ) → place_of c i ≡ place_for non_empty c.slips c.members i
  pub compared_are : (i : ℕ) → compared_of c i ≡ compared_for non_empty c.slips c.members i

abbrev pub StopFree : Type 0
StopFree =
    (s es : List ℕ) → (tray_fault s es).number ≡ 0 → let c = whole usual (slips_of s es) in stop_free c.slips (kept_of c) ≡ true → AllCount c

pub record Tried (c : Composing) (i : ℕ) : Type 0 where
  -- at its place the slip fits in the legend, and so at every place before it: a place where it would not fit is never reached
  pub fits : place_of c i + length (slip c.slips i) ≤ suc (length (legend_of c))
  -- the count of letters compared fits 16 bits
  pub small : compared_of c i < 2 ^ 16

abbrev pub AllTried : Type 0
AllTried =
    (g : Settings) (s es : List ℕ) → (tray_fault s es).number ≡ 0 → (i : ℕ) → 1 ≤ i → i ≤ length es → Tried (whole g (slips_of s es)) i
