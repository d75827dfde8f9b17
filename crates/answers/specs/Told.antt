-- What the calls of this library answer as a Result, as the answers in numbers of the rules.
--   composed_from, shortest_from, search_from == the answer of composing, of the shortest legend and of finding
use Rattle.std.specs.Prelude.{Result, Ok, Err}
use Rattle.trays.specs.declared.fault.Fault.{Fault}
use Rattle.trays.specs.Told.{told}
use Rattle.answers.specs.declared.ComposeCounts.{ComposeCounts}
use Rattle.answers.specs.declared.ShortestOrder.{ShortestOrder}
use Rattle.answers.specs.declared.FindCounts.{FindCounts}
use Rattle.answers.specs.declared.Composed.{Composed}
use Rattle.answers.specs.declared.Shortest.{Shortest}
use Rattle.answers.specs.declared.Search.{Search}
use Rattle.answers.specs.Composing.{refused_by}
use Rattle.answers.specs.Shortest.{shortest_refused}
use Rattle.answers.specs.Finding.{search_refused}

abbrev pub composed_from : Result ComposeCounts Fault → Composed
composed_from (Ok c) =
    record {
      number = 0;
      detail = 0;
      slips = c.slips;
      kept = c.kept;
      letters = c.letters;
      saved = c.saved;
      legend = c.legend;
      joins = c.joins;
    }
composed_from (Err f) = refused_by (told f)

abbrev pub shortest_from : Result ShortestOrder Fault → Shortest
shortest_from (Ok x) = record { number = 0; detail = 0; legend = x.legend; count = x.count; order = x.order }
shortest_from (Err f) = shortest_refused (told f)

abbrev pub search_from : Result FindCounts Fault → Search
search_from (Ok c) = record { number = 0; detail = 0; moves = c.moves; count = c.count }
search_from (Err f) = search_refused (told f)
