-- The work area of the walk: what it says of a node, and that it says the same when only joins have been written.
--   kept-..          == the kept members: ascending, slips of the tray
--   node_starts, node_ends == the lists of a node are the kept members that begin with its string, that properly end with it: slips of the tray
--   walkable_kept    == joins leave all this as it is
use mathlib.Core.Path.{◌≡◌, sym, ap, fun_ext, ◌∙◌}
use mathlib.Core.Bool.{Bool, true}
use mathlib.Core.Logic.{inl, inr}
use mathlib.Core.List.{List, [], ◌∷◌}
use Prim.Native.Nat.{ℕ, zero, suc, ◌+◌, ◌-◌, ◌≤◌, ◌<◌}
use native.Mathlib.Decide.{dec_lt}
use native.Mathlib.Omega.{arith}
use lib.ListN.{length, length-take, get_or-eq_default}
use Rattle.words.specs.Lists.{those}
use Rattle.words.specs.Words.{begins, ends_properly}
use Rattle.words.proofs.Tests.{tell}
use Rattle.words.proofs.Members.{In, Asc, in_those, those-yes, those_no, asc_those}
use Rattle.words.proofs.Strings.{begins-length, ends_properly-ends}
use Rattle.trays.specs.Limits.{max_slips, max_slip, max_letters}
use Rattle.trays.specs.Slips.{slips_of, slip, start_of, end_of}
use Rattle.trays.specs.Aside.{kept}
use Rattle.trays.proofs.Accepted.{accepted_tells, span_fits, span_slip}
use Rattle.trays.proofs.Kept.{kept_asc, in_kept}
use Rattle.tables.specs.Tables.{Cells, Only}
use Rattle.tables.proofs.Tables.{table-length, cells-below}
use Rattle.matching.specs.Steps.Nodes.{string, Num}
use Rattle.matching.proofs.NodeLaws.{node_some}
use Rattle.greedy.specs.Steps.Scans.{starters, enders}
use Rattle.layout.specs.Layout.{KEPT, STARTS, STARTS_NEXT, ENDS, ENDS_NEXT, JOINS, all_joins, KID}
use Rattle.layout.specs.Tables.{cell, members, Threaded, StartsIs, EndsIs}
use Rattle.layout.specs.Numbered.{patterns_in, Numbered, SameBelow}
use Rattle.layout.specs.Staging.{kept_in}
use Rattle.layout.proofs.Heads.{threaded_kept}
use Rattle.layout.proofs.Frames.{only_kept, members_kept, patterns-kept, numbered-kept}
use Rattle.walk_offer.specs.Steps.Runs.{along, next_starter, next_ender, starters_at, enders_at, Real, ListedFrom}
use Rattle.walk_offer.specs.Steps.Offers.{Sized}
use Rattle.walk.specs.Steps.Walking.{Walkable}
use Rattle.walk_offer.proofs.RunLaws.{start_short, threaded_along, listed_is}

those_few : {A : Type 0} (t : A → Bool) (xs : List A) → length (those t xs) ≤ length xs
those_few t [] = omega arith
those_few t (x ∷ xs) =
    elim (tell (t x)) [
      | inl e ↦ omega (arith, ap length (those-yes t x xs e), those_few t xs)
      | inr e ↦ omega (arith, ap length (those_no t x xs e), those_few t xs)
    ]

module _ {s es : List ℕ} {n k nodes : ℕ} {w : List ℕ} (W : Walkable s es n k nodes w) where
  abbrev ss : List (List ℕ)
  ss = slips_of s es

  abbrev N : Numbered s es n nodes w
  N = W.numbered

  abbrev K : List ℕ
  K = kept_in w k

  abbrev ps : List (List ℕ)
  ps = patterns_in s es n w

  pub kept_rises : Asc ◌<◌ K
  kept_rises = rw W.kept_are (kept_asc ss (members w n) N.ascending)

  pub kept_member : (i : ℕ) → In i K → In i (members w n)
  kept_member i m = (in_kept ss (members w n) (rw W.kept_are at m)).0

  kept_real : (i : ℕ) → In i K → (1 ≤ i) × (i ≤ length es)
  kept_real i m = N.real i (kept_member i m)

  pub kept_count : length K ≡ k
  kept_count = table-length w KEPT k (omega (arith, W.few_kept, N.room))

  ends_short : (i : ℕ) → end_of es i ≤ max_letters
  ends_short zero = omega arith
  ends_short (suc i) =
      elim (dec_lt i (length es)) [
        | yes h ↦ omega (arith, span_fits s es N.accepted (suc i) (omega arith) h, (accepted_tells s es N.accepted).small)
        | no h ↦ rw (get_or-eq_default es 0 {n = i} (omega arith)) (omega arith)
      ]

  pub here_sized : (d : ℕ) → 1 ≤ d → d ≤ max_slip → Sized es w d
  here_sized d h l = record { room = N.room; few = (accepted_tells s es N.accepted).few; short = ends_short; some = h; most = l }

  -- a slip of d letters or more
  long_real : (d i : ℕ) → In i K → d ≤ length (slip ss i) → Real es d i
  long_real d i m h =
      let (a, b) = kept_real i m in
      record { some = a; inside = b; deep = omega (arith, rw (span_slip s es N.accepted i a b, length-take) at h) }

  module _ (v d : ℕ) (some : 1 ≤ d) (num : Num ps v) (size : length (string ps v) ≡ d) where
    abbrev x : List ℕ
    x = string ps v

    next_starter_lem : next_starter w es d ≡ (λ r. cell w STARTS_NEXT (start_of es r + (d - 1)))
    next_starter_lem = fun_ext (λ r. let e : start_of es r + d - 1 ≡ start_of es r + (d - 1) = omega arith in rw e)

    next_ender_lem : next_ender w es d ≡ (λ l. cell w ENDS_NEXT (end_of es l - length x))
    next_ender_lem = rw size

    starters_threaded : Threaded (next_starter w es d) (cell w STARTS v) (starters ss x K)
    starters_threaded = rw next_starter_lem (W.starts v (d - 1) num (omega arith))

    enders_threaded : Threaded (next_ender w es d) (cell w ENDS v) (enders ss x K)
    enders_threaded = rw next_ender_lem (W.ends v num)

    -- those of the kept members that pass a test, from head on along next
    module _
        (next : ℕ → ℕ) (head : ℕ) (t : ℕ → Bool) (run : Threaded next head (those t K))
        (long : (i : ℕ) → t i ≡ true → length x ≤ length (slip ss i)) where
      tested_real : (i : ℕ) → In i (those t K) → Real es d i
      tested_real i m = let (a, b) = in_those t K m in long_real d i a (omega (arith, size, long i b))

      tested_few : length (those t K) ≤ max_slips
      tested_few = omega (arith, those_few t K, kept_count, W.few_kept)

      tested : (along next max_slips head ≡ those t K) × ListedFrom es d next head
      tested = (
        threaded_along next max_slips head (those t K) run (λ i m. (tested_real i m).some) tested_few,
        listed_is next es d head (those t K) run (asc_those ◌<◌ t K kept_rises) tested_real tested_few,
      )

    pub node_starts : (starters_at w es d v ≡ starters ss x K) × ListedFrom es d (next_starter w es d) (cell w STARTS v)
    node_starts =
        tested (next_starter w es d) (cell w STARTS v) (λ r. begins x (slip ss r)) starters_threaded (λ r e. begins-length x (slip ss r) e)

    pub node_ends : (enders_at w es d v ≡ enders ss x K) × ListedFrom es d (next_ender w es d) (cell w ENDS v)
    node_ends =
        tested (next_ender w es d) (cell w ENDS v) (λ l. ends_properly x (slip ss l)) enders_threaded
        (λ l e. omega (arith, (ends_properly-ends x (slip ss l) e).0))

  -- only joins have been written
  module _ {w' : List ℕ} (f : Only (Cells JOINS all_joins) w w') where
    below : SameBelow JOINS w w'
    below = only_kept JOINS f (λ p q. q.from)

    pub members-same : members w' n ≡ members w n
    members-same = members_kept n (omega (arith, N.few_members)) below

    pub patterns-same : patterns_in s es n w' ≡ ps
    patterns-same = patterns-kept N (omega arith) below

    pub kept_same : kept_in w' k ≡ K
    kept_same = cells-below KEPT k f (omega (arith, W.few_kept))

    node_small : (v : ℕ) → Num ps v → v ≤ max_letters
    node_small v m = omega (arith, m.inside, N.all_nodes, N.few_nodes)

    starts_same : StartsIs ss es (members w n) K (cell w' STARTS) (cell w' STARTS_NEXT)
    starts_same v d m e =
        threaded_kept below STARTS v STARTS_NEXT (λ r. start_of es r + d) (starters ss (string ps v) K) (omega (arith, node_small v m))
        (λ r i. omega (arith, start_short es ends_short r, N.level.all v m)) (W.starts v d m e)

    ends_same : EndsIs ss es (members w n) K (cell w' ENDS) (cell w' ENDS_NEXT)
    ends_same v m =
        threaded_kept below ENDS v ENDS_NEXT (λ l. end_of es l - length (string ps v)) (enders ss (string ps v) K) (omega (arith, node_small v m))
        (λ l i. omega (arith, ends_short l, (node_some ps v m).0)) (W.ends v m)

    pub walkable_kept : Walkable s es n k nodes w'
    walkable_kept =
        record {
          numbered = numbered-kept (only_kept KID f (λ p q. omega (arith, q.from))) N;
          few_kept = W.few_kept;
          kept_are = kept_same ∙ W.kept_are ∙ ap (kept ss) (sym members-same);
          starts = rw (members-same, kept_same) starts_same;
          ends = rw (members-same, kept_same) ends_same;
        }
