-- The shortest order of some of the slips, as of a tray that holds these only.
--   AloneShortest c d == so of c and d, where slip i of d is the i-th member of c
use Rattle.std.specs.Prelude.{◌≡◌, map}
use Rattle.words.specs.Lists.{entry}
use Rattle.greedy.specs.Composing.{Composing}
use Rattle.shortest.specs.Orders.{shortest_order, shortest_legend}

-- Rules, sides: exactly as a tray holding that side only would, slip numbers being the original ones.
pub record AloneShortest (c d : Composing) : Type 0 where
  pub order_is : shortest_order c ≡ map (entry c.members) (shortest_order d)
  pub legend_is : shortest_legend c ≡ shortest_legend d
