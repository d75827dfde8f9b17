use Rattle.kotsghane.proofs.TenNumbers.{ten_numbers}
use Rattle.kotsghane.proofs.kotsghane_shortest.Goals as goal

pub returns : goal.returns
returns c =
    record {
      answer = c.from-r.result;
      says = rw c.from-r.ensures c.shortest_legend-shortest.ensures;
      numbers_are =
          rw c.from.ensures
          (ten_numbers c.from-r.result _ _ _ _ _ _ _ _ _ _ c.from-2.ensures c.from-3.ensures c.from-4.ensures c.from-5.ensures
          c.from-6.ensures c.from-7.ensures c.from-8.ensures c.from-9.ensures c.from-10.ensures c.from-11.ensures);
    }
