-- The claims of the index of beginnings, for any slips.
use mathlib.Core.Path.{◌≡◌}
use mathlib.Core.List.{List}
use Prim.Native.Nat.{ℕ}
use Rattle.words.proofs.Members.{Less, asc_one}
use Rattle.words.proofs.Picks.{asc_get_or, get_or_asc}
use Rattle.index_rule.specs.Index.{precedes, index_of}
use Rattle.index_rule.specs.Claims.{IsIndex, Indexes}
use Rattle.index_rule.proofs.Precedes.{precedes-not, precedes_tr, index_asc, index_real, index_all}
use Rattle.index_rule.proofs.Stretches.{stretch_is, stretch_holds, stretch_only, stretch_whole}

module _ (ss : List (List ℕ)) where
  is_index : IsIndex ss (index_of ss)
  is_index =
      record { ordered = λ j k h l. asc_get_or 0 (Less (precedes ss)) (index_of ss) j k (index_asc ss) h l; all = index_all ss; only = index_real ss }

  no_other : (x : List ℕ) → IsIndex ss x → x ≡ index_of ss
  no_other x I =
      asc_one (Less (precedes ss)) (precedes-not ss) (precedes_tr ss) x (index_of ss) (get_or_asc 0 (Less (precedes ss)) x I.ordered) (index_asc ss)
      (λ i m. let r = I.only i m in index_all ss i r.0 r.1)
      (λ i m. let r = index_real ss i m in I.all i r.0 r.1)

pub indexes : Indexes
indexes ss =
    record {
      is_index = is_index ss;
      one_index = no_other ss;
      part = stretch_is ss;
      holds = stretch_holds ss;
      only = stretch_only ss;
      whole = stretch_whole ss;
    }
