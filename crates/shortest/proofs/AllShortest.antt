-- Shortest legends worked out by hand, computed from the definitions: each tells the rule from a likely misreading.
--   Short    == a tray, the order of its kept slips, and their legend
--   shorts   == the list; set == with settings, each behind its least overlap
use mathlib.Core.Path.{◌≡◌, refl}
use mathlib.Core.Bool.{true}
use mathlib.Core.List.{List, [], ◌∷◌, map}
use Prim.Native.Nat.{ℕ}
use Prim.Native.String.{String}
use lib.ListN.{length}
use Rattle.words.specs.Quoted.{word}
use Rattle.trays.specs.declared.Settings.{Settings}
use Rattle.trays.specs.Sides.{blank_side, obverse}
use Rattle.greedy.specs.Composing.{usual_of, usual, whole, sided}
use Rattle.greedy.specs.Claims.{holds_all}
use Rattle.shortest.specs.Orders.{shortest_order, shortest_legend}

pub record Short : Type 0 where
  pub tray : List String
  pub order : List ℕ
  pub legend : List ℕ

abbrev short : List String → List ℕ → String → Short
short ws xs t = record { tray = ws; order = xs; legend = word t }

abbrev pub shorts : List Short
shorts =
    short [] [] ""
    ∷ short ("AVG" ∷ []) (1 ∷ []) "AVG"
    -- nothing is saved, and the lower slip is first
    ∷ short ("C" ∷ "A" ∷ []) (1 ∷ 2 ∷ []) "CA"
    -- both orders save one letter; composing gives BAB
    ∷ short ("AB" ∷ "BA" ∷ []) (1 ∷ 2 ∷ []) "ABA"
    -- composing joins 1 and 2 first and gives CABADA
    ∷ short ("CA" ∷ "AB" ∷ "ADA" ∷ []) (1 ∷ 3 ∷ 2 ∷ []) "CADAB"
    -- all six orders save two letters
    ∷ short ("ABA" ∷ "ACA" ∷ "ADA" ∷ []) (1 ∷ 2 ∷ 3 ∷ []) "ABACADA"
    -- not 3 1 2, which saves as much
    ∷ short ("AB" ∷ "BC" ∷ "XY" ∷ []) (1 ∷ 2 ∷ 3 ∷ []) "ABCXY"
    -- stops alone do not overlap
    ∷ short ("A." ∷ ".B" ∷ []) (1 ∷ 2 ∷ []) "A..B"
    -- a slip set aside keeps its number
    ∷ short ("AB" ∷ "AB" ∷ "BC" ∷ []) (1 ∷ 3 ∷ []) "ABC"
    ∷ short ("IMPCAES" ∷ "AES" ∷ "CAESAVG" ∷ "VGPIVS" ∷ "SIMP" ∷ []) (5 ∷ 1 ∷ 3 ∷ 4 ∷ []) "SIMPCAESAVGPIVS"
    ∷ short ("AKI" ∷ "ELE" ∷ "KIKI" ∷ "KIRA" ∷ "LEA" ∷ []) (2 ∷ 5 ∷ 1 ∷ 3 ∷ 4 ∷ []) "ELEAKIKIRA"
    ∷ []

abbrev computed : Settings → Short → Short
computed g s =
    let c = whole g (map word s.tray) in
    record { tray = s.tray; order = shortest_order c; legend = shortest_legend c }

pub shorts_computed : map (computed usual) shorts ≡ shorts
shorts_computed = refl

abbrev pub set : List (ℕ × Short)
set =
    (2, short ("AB" ∷ "BA" ∷ []) (1 ∷ 2 ∷ []) "ABBA")
    ∷ (2, short ("CA" ∷ "AB" ∷ "ADA" ∷ []) (1 ∷ 2 ∷ 3 ∷ []) "CAABADA")
    -- what is left of the overlaps decides the order too
    ∷ (1, short ("ABY" ∷ "XAB" ∷ "BX" ∷ []) (3 ∷ 2 ∷ 1 ∷ []) "BXABY")
    ∷ (2, short ("ABY" ∷ "XAB" ∷ "BX" ∷ []) (2 ∷ 1 ∷ 3 ∷ []) "XABYBX")
    ∷ (3, short ("ABY" ∷ "XAB" ∷ "BX" ∷ []) (1 ∷ 2 ∷ 3 ∷ []) "ABYXABBX")
    ∷ []

pub set-computed : map (λ s. (s.0, computed (record { least = s.0; side = blank_side }) s.1)) set ≡ set
set-computed = refl

-- Where a kept slip begins with a stop, a text may be shorter: A.B holds A. and .B and has three letters, their legend four.
abbrev stops : List (List ℕ)
stops = map word ("A." ∷ ".B" ∷ [])

pub shorter_held : holds_all stops (1 ∷ 2 ∷ []) (word "A.B") ≡ true
shorter_held = refl

pub shorter_text : (length (word "A.B") ≡ 3) × (length (shortest_legend (whole usual stops)) ≡ 4)
shorter_text = (refl, refl)

-- So it may with a least overlap of 2: ABC holds AB and BC.
pub shorter_by_one :
    let ss = map word ("AB" ∷ "BC" ∷ []) in
    (holds_all ss (1 ∷ 2 ∷ []) (word "ABC") ≡ true)
    × (length (word "ABC") ≡ 3)
    × (length (shortest_legend (whole (record { least = 2; side = blank_side }) ss)) ≡ 4)
shorter_by_one = (refl, refl, refl)

-- The slips of a side alone, by their numbers in the tray; of all four together the order is another.
abbrev four : List (List ℕ)
four = map word ("CAB" ∷ "ABC" ∷ "BCA" ∷ "BA" ∷ [])

pub side_computed :
    let c = sided (usual_of obverse) (word " ORO") four in
    (shortest_order c ≡ 4 ∷ 2 ∷ []) × (shortest_legend c ≡ word "BABC") × (shortest_order (whole usual four) ≡ 2 ∷ 3 ∷ 1 ∷ 4 ∷ [])
side_computed = (refl, refl, refl)
