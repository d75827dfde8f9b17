-- The demands on the definitions, proved.
use Rattle.greedy.proofs.GreedyLegends.{greedy_legends}
use Rattle.greedy.proofs.FewerJoins.{fewer_joins}
use Rattle.greedy.proofs.StopFree.{stop-free}
use Rattle.greedy.proofs.Placed.{all_tried}
use Rattle.matching.proofs.States.{longest_endings, few_moves}
use Rattle.shortest.proofs.Shortest.{shortest_legends}
use Rattle.merge_rule.proofs.MergedTrays.{same_legend_of, one_or_four}
use Rattle.index_rule.proofs.Indexed.{indexes}
use Rattle.trays.proofs.Stored.{stored_trays}
use Rattle.fold_rule.proofs.Bytes.{fold-table}
use Rattle.fold_rule.proofs.Signs.{fold_sign}
use Rattle.sheet_rule.proofs.Stored.{stored_files}
use Rattle.sheet_rule.proofs.BlankSheets.{blank_sheets}
use Rattle.claims.specs.Claims.{Demands}
use Rattle.claims.proofs.Sides.{sides_alone, each_side}

pub demands : Demands
demands =
    record {
      greedy = greedy_legends;
      fewer_joins = fewer_joins;
      stop-free = stop-free;
      all_tried = all_tried;
      shortest = shortest_legends;
      sides_alone = sides_alone;
      each_side = each_side;
      same_legend = same_legend_of;
      one_or_four = one_or_four;
      indexes = indexes;
      longest_endings = longest_endings;
      few_moves = few_moves;
      fold-table = fold-table;
      fold_sign = fold_sign;
      stored_trays = stored_trays;
      stored_files = stored_files;
      blank_sheets = blank_sheets;
    }
