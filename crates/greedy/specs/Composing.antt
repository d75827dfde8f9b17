-- What is composed: slips, the numbers of those that take part, and the least overlap. Requests widen this record, and everything that is composed is a
-- function of it.
--   usual_of b       == the settings that the programs pass for side b: every overlap that has a letter may count; usual == for the blank side
--   among g M ss    == the slips ss, of which those numbered in M are members, with the settings g
--   whole g ss      == every slip a member
--   sided g cs ss   == those of the side that g names members, where the slips have the sides cs
--   rule c          == which overlap strings count
--   kept_of c        == the kept members
--   joins_of c       == the joins of the plain rule; walk_of c == those of the walk
--   pieces_of c      == the pieces of the legend; legend_of c == its letters
--   place_of c i     == the place of slip i; compared_of c i == the letters compared to find it
--   kept_letters c   == the letters of the kept members, counted together
use Rattle.std.specs.Prelude.{Bool, List, ℕ}
use Rattle.trays.specs.declared.Settings.{Settings}
use Rattle.trays.specs.Slips.{numbers, total}
use Rattle.trays.specs.Aside.{kept, counted}
use Rattle.trays.specs.Sides.{blank_side, of_side}
use Rattle.greedy.specs.Joins.{Join, plain_for}
use Rattle.greedy.specs.Walk.{walk_for}
use Rattle.greedy.specs.Legends.{Piece, pieces_for, legend_for, place_for, compared_for}

pub record Composing : Type 0 where
  pub slips : List (List ℕ)
  pub members : List ℕ
  pub least : ℕ

abbrev pub usual_of : ℕ → Settings
usual_of b = record { least = 1; side = b }

abbrev pub usual : Settings
usual = usual_of blank_side

abbrev pub among : Settings → List ℕ → List (List ℕ) → Composing
among g M ss = record { slips = ss; members = M; least = g.least }

abbrev pub whole : Settings → List (List ℕ) → Composing
whole g ss = among g (numbers ss) ss

-- Rules, sides: slips of different sides neither overlap nor set each other aside, so that a side's slips alone take part; their numbers are those of the tray.
abbrev pub sided : Settings → List ℕ → List (List ℕ) → Composing
sided g cs ss = among g (of_side cs g.side) ss

abbrev pub rule : Composing → List ℕ → Bool
rule c = counted c.least

abbrev pub kept_of : Composing → List ℕ
kept_of c = kept c.slips c.members

abbrev pub joins_of : Composing → List Join
joins_of c = plain_for (rule c) c.slips (kept_of c)

abbrev pub walk_of : Composing → List Join
walk_of c = walk_for (rule c) c.slips (kept_of c)

abbrev pub pieces_of : Composing → List Piece
pieces_of c = pieces_for (rule c) c.slips c.members

abbrev pub legend_of : Composing → List ℕ
legend_of c = legend_for (rule c) c.slips c.members

abbrev pub place_of : Composing → ℕ → ℕ
place_of c i = place_for (rule c) c.slips c.members i

abbrev pub compared_of : Composing → ℕ → ℕ
compared_of c i = compared_for (rule c) c.slips c.members i

-- Rules: kept letters is the sum of the kept slips' lengths.
abbrev pub kept_letters : Composing → ℕ
kept_letters c = total c.slips (kept_of c)
