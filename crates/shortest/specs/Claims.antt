-- What is claimed of the shortest legend of every accepted tray with any settings, over the definitions alone, however many slips are kept.
--   times i xs        == how often the number i stands in xs
--   IsOrder K xs      == xs is an order of K: every number stands in both equally often
--   Optimal c         == what is claimed of the first shortest order and its legend
--   ShortestLegends  == so for every accepted tray
use Rattle.std.specs.Prelude.{◌≡◌, true, false, List, ℕ, ◌≤◌, eqb, length}
use Rattle.words.specs.Lists.{those}
use Rattle.words.specs.Words.{before}
use Rattle.trays.specs.declared.Settings.{Settings}
use Rattle.trays.specs.Slips.{slips_of}
use Rattle.trays.specs.Faults.{tray_fault}
use Rattle.greedy.specs.Composing.{Composing, whole, rule, kept_of, legend_of}
use Rattle.greedy.specs.Orders.{order_legend}
use Rattle.greedy.specs.Claims.{holds_all, stop_free}
use Rattle.shortest.specs.Orders.{shortest_order, shortest_legend}

abbrev pub times : ℕ → List ℕ → ℕ
times i xs = length (those (eqb i) xs)

abbrev pub IsOrder : List ℕ → List ℕ → Type 0
IsOrder K xs = (i : ℕ) → times i xs ≡ times i K

pub record Optimal (c : Composing) : Type 0 where
  -- each kept slip once, and no other
  pub an_order : IsOrder (kept_of c) (shortest_order c)
  -- no order of the kept slips has a shorter legend
  pub least : (xs : List ℕ) → IsOrder (kept_of c) xs → length (shortest_legend c) ≤ length (order_legend (rule c) c.slips xs)
  -- and none whose legend is as short is smaller as a list
  pub first :
      (xs : List ℕ) → IsOrder (kept_of c) xs
      → length (order_legend (rule c) c.slips xs) ≡ length (shortest_legend c) → before xs (shortest_order c) ≡ false
  -- the legend holds every kept slip
  pub legend_holds : holds_all c.slips (kept_of c) (shortest_legend c) ≡ true
  -- it is never longer than the composed one, whatever the slips begin with
  pub at_most_composed : length (shortest_legend c) ≤ length (legend_of c)
  -- with a least overlap of 1, and where no kept slip begins with a stop, no text that holds every kept slip is shorter
  pub no_text_shorter :
      c.least ≡ 1
      → stop_free c.slips (kept_of c) ≡ true → (t : List ℕ) → holds_all c.slips (kept_of c) t ≡ true → length (shortest_legend c) ≤ length t

abbrev pub ShortestLegends : Type 0
ShortestLegends = (g : Settings) (s es : List ℕ) → (tray_fault s es).number ≡ 0 → Optimal (whole g (slips_of s es))
