-- The shortest legend of a side: refusals 20 and 8 after those of the settings, the tray, its sides and 7, the answer, and what each buffer holds afterwards.
--   shortest_rows c l         == place C: room for l letters
--   shortest_fault g s es cs w l == what refuses the call, with the settings g, a work area of w cells and room for l letters
--   shortest_of g s es cs w l == the answer
--   ShortestSays             == the promise, for every input: settings g; tray s, es, cs; work area w and legend l before, w' and l' after; answer r
use Rattle.std.specs.Prelude.{◌≡◌, List, [], ◌∷◌, ◌++◌, ℕ, zero, suc, ltb, length, replicate}
use Rattle.words.specs.Lists.{over}
use Rattle.trays.specs.declared.Refusal.{Refusal}
use Rattle.trays.specs.Limits.{max_shortest}
use Rattle.trays.specs.declared.Settings.{Settings}
use Rattle.trays.specs.Slips.{slips_of}
use Rattle.trays.specs.Faults.{row, first_row, written}
use Rattle.trays.specs.Sides.{sided_rows}
use Rattle.greedy.specs.Composing.{Composing, sided, kept_of}
use Rattle.shortest.specs.Orders.{shortest_order, shortest_legend}
use Rattle.answers.specs.WorkArea.{work_row, WorkKept}
use Rattle.answers.specs.declared.Shortest.{Shortest}
use Rattle.answers.specs.Composing.{before_c}

-- Rules, place C: more than 10 slips are kept, checked first; the legend is longer than its buffer.
abbrev pub shortest_rows : Composing → ℕ → List Refusal
shortest_rows c l = let need = length (shortest_legend c) in row 20 (ltb max_shortest (length (kept_of c))) 0 ∷ (row 8 (ltb l need) need ∷ [])

unfoldable pub shortest_fault : Settings → List ℕ → List ℕ → List ℕ → ℕ → ℕ → Refusal
shortest_fault g s es cs w l =
    first_row (sided_rows g.least g.side s es cs ++ (work_row w ∷ shortest_rows (sided g cs (slips_of s es)) l))

-- a count and ten numbers, 0 past the count
abbrev pub shortest_outcome : Composing → Shortest
shortest_outcome c =
    record {
      number = 0;
      detail = 0;
      legend = length (shortest_legend c);
      count = length (shortest_order c);
      order = over (shortest_order c) (replicate max_shortest 0);
    }

abbrev pub shortest_refused : Refusal → Shortest
shortest_refused f = record { number = f.number; detail = f.detail; legend = 0; count = 0; order = replicate max_shortest 0 }

-- the answer where f is what refuses the call
abbrev pub shortest_by : Refusal → Composing → Shortest
shortest_by f c = elim f.number [ zero ↦ shortest_outcome c | suc n ↦ shortest_refused f ]

unfoldable pub shortest_of : Settings → List ℕ → List ℕ → List ℕ → ℕ → ℕ → Shortest
shortest_of g s es cs w l = shortest_by (shortest_fault g s es cs w l) (sided g cs (slips_of s es))

pub record ShortestSays (g : Settings) (s es cs w w' l l' : List ℕ) (r : Shortest) : Type 0 where
  pub answer-is : r ≡ shortest_of g s es cs (length w) (length l)
  pub legend_is : l' ≡ written (shortest_fault g s es cs (length w) (length l)) (shortest_legend (sided g cs (slips_of s es))) l
  pub work_is : WorkKept (before_c g s es cs (length w)) w w'
