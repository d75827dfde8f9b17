-- The demands that speak of the definitions alone, for every accepted tray and, where composing is meant, any settings; and what is claimed of folding and
-- of trays and tray files stored earlier. Calls compose one side. The first five demands speak of all slips of a tray together: a side composes as a tray
-- that holds it only, and of such a tray they speak.
use Rattle.greedy.specs.Claims.{GreedyLegends, FewerJoins, StopFree, AllTried}
use Rattle.matching.specs.Moves.{LongestEndings, FewMoves}
use Rattle.shortest.specs.Claims.{ShortestLegends}
use Rattle.merge_rule.specs.Claims.{SameLegend, OneOrFour}
use Rattle.index_rule.specs.Claims.{Indexes}
use Rattle.trays.specs.Stored.{StoredTrays}
use Rattle.fold_rule.specs.Claims.{FoldTable, FoldSign}
use Rattle.sheet_rule.specs.Stored.{StoredFiles}
use Rattle.sheet_rule.specs.Sides.{BlankSheets}
use Rattle.claims.specs.Sides.{SidesAlone, EachSide}

pub record Demands : Type 0 where
  -- one list by both rules; kept letters = saved + legend length; the legend holds every kept slip; at most twice, with a least overlap of 1
  -- and where no kept slip begins with a stop
  pub greedy : GreedyLegends
  -- a higher least overlap only leaves joins out: those with enough letters are made as before, in the same order
  pub fewer_joins : FewerJoins
  -- with a least overlap of 1, and where no kept slip begins with a stop, joins, legend, places and letters compared are as if all overlaps counted
  pub stop-free : StopFree
  -- no place is tried at which a slip would not fit, and the count of letters compared fits 16 bits
  pub all_tried : AllTried
  -- the shortest legend: no order has a shorter one, it holds every kept slip, it is at most as long as the composed one and, with a least
  -- overlap of 1 and where no kept slip begins with a stop, as any text that holds them
  pub shortest : ShortestLegends
  -- each side of an accepted tray composes exactly as a tray that holds that side only, slip numbers being those of the whole tray
  pub sides_alone : SidesAlone
  -- and all that is claimed of composing a tray, the shortest legend included, is claimed of each of its sides
  pub each_side : EachSide
  -- two trays merged: where the tray of both, written one after the other, is accepted, so is the outcome, and each side has the same legend
  pub same_legend : SameLegend
  -- of two accepted trays the outcome can fail by 1 or 4 alone, and never by 22
  pub one_or_four : OneOrFour
  -- a tray has one index of beginnings; the slips that start with typed letters are one stretch of it, with none missing and none added
  pub indexes : Indexes
  -- the state is the longest ending of the text so far that begins a slip
  pub longest_endings : LongestEndings
  -- moves are at most 2 × the letters
  pub few_moves : FewMoves
  -- one computed test over all 256 entries tells that a table has the rule of folding
  pub fold-table : FoldTable
  -- a byte is refused once it is folded just where it is folded to 0
  pub fold_sign : FoldSign
  -- of the trays, and of the tray files, accepted under another limit of a slip's letters: 3 with the lowest slip that is too long now, or accepted still
  pub stored_trays : StoredTrays
  pub stored_files : StoredFiles
  -- where all sides are blank, the sheets of all sides are the one sheet of the tray
  pub blank_sheets : BlankSheets
