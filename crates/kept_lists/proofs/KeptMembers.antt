-- The kept members in the work area.
--   kept_member, kept-length, kept_ascending == they are members, as many as are said, ascending
--   got_kept, drop_got, kept_apart           == the member at a place of KEPT, and those behind it
--   staged_kept                              == what is written behind KEPT leaves them as they are
use mathlib.Core.Path.{◌≡◌, refl, sym, ap, ◌∙◌}
use mathlib.Core.List.{List, ◌∷◌}
use Prim.Native.Nat.{ℕ, ◌+◌, ◌≤◌, ◌<◌}
use native.Mathlib.Omega.{arith}
use lib.ListN.{length, get_or, drop}
use Rattle.words.proofs.Members.{In, Asc}
use Rattle.words.proofs.Picks.{get_or_in}
use Rattle.trays.specs.Limits.{max_slips}
use Rattle.trays.specs.Slips.{slips_of, start_of, end_of}
use Rattle.trays.specs.Aside.{kept}
use Rattle.trays.proofs.Kept.{kept_asc, in_kept}
use Rattle.tables.specs.Tables.{Got}
use Rattle.tables.proofs.Tables.{table_at, table-length, table_same}
use Rattle.layout.specs.Layout.{HEAD, KEPT, STARTS}
use Rattle.layout.specs.Tables.{members}
use Rattle.layout.specs.Numbered.{SameBelow}
use Rattle.layout.specs.Staging.{kept_in}
use Rattle.layout.proofs.Frames.{kept-lower, members_kept, automaton_kept}
use Rattle.kept_slips.specs.Steps.Kept.{KeptFound}
use Rattle.trie_heads.proofs.Threading.{in_drop, drop_here, drop-later}
use Rattle.trays.proofs.Spans.{accepted_spanned}
use Rattle.trie_heads.proofs.MemberNodes.{Member, in_member}

module _ {s es : List ℕ} {n k nodes : ℕ} {w : List ℕ} (S : KeptFound s es n k nodes w) where
  pub kept-length : length (kept_in w k) ≡ k
  kept-length = table-length w KEPT k (omega (arith, S.few_kept, S.automaton.branched.numbered.room))

  pub kept_member : (i : ℕ) → In i (kept_in w k) → Member s es n w i
  kept_member i m = in_member S.automaton.branched.numbered i (in_kept (slips_of s es) (members w n) (rw S.kept_are at m)).0

  pub kept_ascending : Asc ◌<◌ (kept_in w k)
  kept_ascending = rw S.kept_are (kept_asc (slips_of s es) (members w n) S.automaton.branched.numbered.ascending)

  module _ {j i : ℕ} (g : Got w KEPT j i) (h : j < k) where
    pub got_is : i ≡ get_or (kept_in w k) j 0
    got_is = g.is ∙ sym (table_at w KEPT k j h)

    pub got_kept : Member s es n w i
    got_kept = kept_member i (rw (← got_is) at (get_or_in 0 (kept_in w k) j (rw kept-length h)))

    pub drop_got : drop j (kept_in w k) ≡ i ∷ drop (j + 1) (kept_in w k)
    drop_got = drop_here (kept_in w k) j (j + 1) i refl (rw kept-length h) got_is

    -- those behind it stand behind it in the tray
    pub kept_apart : {r : ℕ} → In r (drop (j + 1) (kept_in w k)) → (i < r) × (end_of es i ≤ start_of es r) × Member s es n w r
    kept_apart {r} m =
        let l = drop-later (kept_in w k) j (j + 1) i refl (rw kept-length h) got_is kept_ascending m in
        let x = kept_member r (in_drop (j + 1) (kept_in w k) m) in
        (l, (accepted_spanned s es S.automaton.branched.numbered.accepted).apart i r l x.most, x)

pub kept_same : {w w' : List ℕ} {k : ℕ} → k ≤ max_slips → SameBelow STARTS w w' → kept_in w' k ≡ kept_in w k
kept_same {w} {w'} {k} h b = table_same w w' KEPT k b.same (λ i l. b.cells (KEPT + i) (omega arith))

pub staged_kept : {s es : List ℕ} {n k nodes : ℕ} {w w' : List ℕ} → SameBelow STARTS w w' → KeptFound s es n k nodes w → KeptFound s es n k nodes w'
staged_kept {s} {es} {n} b S =
    record {
      automaton = automaton_kept (kept-lower HEAD (omega arith) b) S.automaton;
      few_kept = S.few_kept;
      kept_are =
          kept_same S.few_kept b
          ∙ S.kept_are
          ∙ ap (kept (slips_of s es)) (sym (members_kept n (omega (arith, S.automaton.branched.numbered.few_members)) b));
    }
