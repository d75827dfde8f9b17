-- What composing writes: what each step asks and gives.
--   pieces_here                  == the pieces by the lists of neighbours
--   StageAsks, PiecesStaged     == what staging them asks and gives
--   legend_here, places_here      == the legend of the first k pieces of a list, and the places of all slips in it
--   Layable                     == these pieces can be laid and placed
--   WritingAsks, Written        == what writing the legend and the places asks and gives
--   PlacingAsks, PlacesWritten  == the same for the places alone
use Rattle.std.specs.Prelude.{◌≡◌, List, ℕ, ◌+◌, ◌*◌, ◌≤◌, length, take, replicate}
use Rattle.words.specs.Lists.{over, All}
use Rattle.tables.specs.Tables.{table}
use Rattle.trays.specs.Limits.{max_slips, max_letters, work_need}
use Rattle.trays.specs.Slips.{slips_of}
use Rattle.trays.specs.Faults.{tray_fault}
use Rattle.greedy.specs.Legends.{Piece, spelled}
use Rattle.legend_chains.specs.Pieces.{pieces_in}
use Rattle.legend_chains.specs.Chains.{pieces_by, PiecesAsk}
use Rattle.legend_lay.specs.Laying.{PieceFits}
use Rattle.legend_places.specs.Places.{Placeable, placed_by, aside_by}
use Rattle.layout.specs.Layout.{KEPT, PLACES, all_places}
use Rattle.layout.specs.Numbered.{SameBelow}

-- the pieces by the lists of neighbours, and what staging them asks and gives
abbrev pub pieces_here : List ℕ → ℕ → ℕ → List ℕ → List ℕ → List ℕ → List Piece
pieces_here w k j left right overs = pieces_by left right overs (j + 1) (take k (table w KEPT max_slips))

pub record StageAsks (w : List ℕ) (k j : ℕ) (left right overs : List ℕ) : Type 0 where
  pub room : work_need ≤ length w
  pub few_joins : j ≤ max_slips
  pub asks : PiecesAsk (table w KEPT max_slips) k left right overs (j + 1) (replicate (2 * max_slips) 0)

pub record PiecesStaged (w : List ℕ) (k j : ℕ) (left right overs xs : List ℕ) : Type 0 where
  pub size : length xs ≡ 2 * max_slips
  pub are : pieces_in xs 0 (length (pieces_here w k j left right overs)) ≡ pieces_here w k j left right overs

abbrev pub legend_here : List ℕ → List ℕ → List ℕ → ℕ → List ℕ
legend_here s es xs k = spelled (slips_of s es) (pieces_in xs 0 k)

-- the places of the pieces, then those of the slips that are not among them
abbrev pub places_here : List ℕ → List ℕ → List ℕ → ℕ → List ℕ
places_here s es xs k =
    let ss = slips_of s es in
    aside_by ss (legend_here s es xs k) (placed_by ss (replicate all_places 0) 1 (pieces_in xs 0 k)) (length es)

pub record Layable (s es xs : List ℕ) (k : ℕ) : Type 0 where
  pub tray : (tray_fault s es).number ≡ 0
  pub pairs : 2 * k ≤ length xs
  pub fits : All (PieceFits s es) (pieces_in xs 0 k)
  pub places : Placeable s es 1 (pieces_in xs 0 k)
  pub short : length (legend_here s es xs k) ≤ max_letters

pub record WritingAsks (s es w l xs : List ℕ) (k need : ℕ) : Type 0 where
  pub room : work_need ≤ length w
  pub pieces : Layable s es xs k
  pub need_is : need ≡ length (legend_here s es xs k)
  pub space : need ≤ length l

pub record PlacingAsks (s es w t xs : List ℕ) (k : ℕ) : Type 0 where
  pub room : work_need ≤ length w
  pub pieces : Layable s es xs k
  pub legend_is : t ≡ legend_here s es xs k

pub record PlacesWritten (s es w w' xs : List ℕ) (k : ℕ) : Type 0 where
  pub below : SameBelow PLACES w w'
  pub places_are : table w' PLACES all_places ≡ places_here s es xs k

pub record Written (s es w w' l l' xs : List ℕ) (k : ℕ) : Type 0 where
  pub legend_is : l' ≡ over (legend_here s es xs k) l
  pub placed : PlacesWritten s es w w' xs k
