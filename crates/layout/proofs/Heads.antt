-- Members and their nodes, in the work area of an automaton with HEAD and TWIN.
--   threaded-..   == a list threaded through a table: its first number, another table with the same cells
--   member-..     == a member has a letter, and a number up to the most slips
--   num_most      == the number of a node is at most nodes
--   headed_kept   == what is written behind TWIN leaves HEAD and TWIN as they are
use mathlib.Core.Path.{◌≡◌, refl}
use mathlib.Core.List.Memᴰ
use mathlib.Core.List.{List, [], ◌∷◌}
use Prim.Native.Nat.{ℕ, ◌+◌, ◌≤◌, ◌<◌}
use native.Mathlib.Omega.{arith}
use lib.ListN.{length}
use Rattle.words.specs.Lists.{head_or}
use Rattle.words.specs.Words.{same}
use Rattle.words.proofs.Members.{In, in_those}
use Rattle.trays.specs.Limits.{max_slips}
use Rattle.trays.specs.Slips.{slips_of, slip}
use Rattle.trays.proofs.Accepted.{accepted_tells}
use Rattle.trays.proofs.Spans.{accepted_spanned}
use Rattle.tables.proofs.Tables.{table-length}
use Rattle.matching.specs.Steps.Nodes.{string, Num}
use Rattle.layout.specs.Layout.{MEMBERS, HEAD, TWIN, MARK}
use Rattle.layout.specs.Tables.{cell, members, owners, Threaded}
use Rattle.layout.specs.Numbered.{patterns_in, Numbered, Headed, SameBelow}
use Rattle.layout.proofs.Frames.{kept-lower, members_kept, automaton_kept}

pub threaded_head : (next : ℕ → ℕ) (i : ℕ) (xs : List ℕ) → Threaded next i xs → i ≡ head_or 0 xs
threaded_head next i [] l = l
threaded_head next i (x ∷ xs) l = l.0

pub threaded_same : (next next' : ℕ → ℕ) (i : ℕ) (xs : List ℕ) → ((x : ℕ) → In x xs → next' x ≡ next x) → Threaded next i xs → Threaded next' i xs
threaded_same next next' i [] e l = l
threaded_same next next' i (x ∷ xs) e l =
    (l.0, rw (e x (Memᴰ.head refl)) (threaded_same next next' (next x) xs (λ y m. e y (Memᴰ.tail m)) l.1))

-- a list whose cells stand below b
pub threaded_kept : {b : ℕ} {w w' : List ℕ} → SameBelow b w w' → (heads v nexts : ℕ) (key : ℕ → ℕ) (xs : List ℕ) →
    heads + v < b → ((r : ℕ) → In r xs → nexts + key r < b) →
    Threaded (λ r. cell w nexts (key r)) (cell w heads v) xs → Threaded (λ r. cell w' nexts (key r)) (cell w' heads v) xs
threaded_kept {w = w} {w' = w'} k heads v nexts key xs h l t =
    rw (k.cells (heads + v) h)
    (threaded_same (λ r. cell w nexts (key r)) (λ r. cell w' nexts (key r)) (cell w heads v) xs (λ r m. k.cells (nexts + key r) (l r m)) t)

module _ {s es : List ℕ} {n nodes : ℕ} {w : List ℕ} (N : Numbered s es n nodes w) where
  pub member_few : (i : ℕ) → In i (members w n) → i ≤ max_slips
  member_few i m = omega (arith, (N.real i m).1, (accepted_tells s es N.accepted).few)

  pub member_letters : (i : ℕ) → In i (members w n) → 1 ≤ length (slip (slips_of s es) i)
  member_letters i m =
      let (h, l) = N.real i m in
      (accepted_spanned s es N.accepted).some i h l

  pub member_some : (i : ℕ) → In i (members w n) → 1 ≤ i
  member_some i m = (N.real i m).0

  pub members-length : length (members w n) ≡ n
  members-length = table-length w MEMBERS n (omega (arith, N.few_members, N.room))

  pub num_most : (v : ℕ) → Num (patterns_in s es n w) v → v ≤ nodes
  num_most v m = omega (arith, m.inside, N.all_nodes)

pub headed_kept : {s es : List ℕ} {n nodes : ℕ} {w w' : List ℕ} → SameBelow MARK w w' → Headed s es n nodes w → Headed s es n nodes w'
headed_kept {s} {es} {n} {nodes} {w} {w'} k H =
    let N = H.automaton.branched.numbered in
    let ss = slips_of s es in
    let ps = patterns_in s es n w in
    let f : members w' n ≡ members w n = members_kept n (omega (arith, N.few_members)) k in
    record {
      automaton = automaton_kept (kept-lower HEAD (omega arith) k) H.automaton;
      heads =
          rw f (λ v m.
          threaded_kept k HEAD v TWIN (λ r. r) (owners ss (members w n) (string ps v)) (omega (arith, num_most N v m, N.few_nodes))
          (λ r q. omega (arith, member_few N r (in_those (λ i. same (slip ss i) (string ps v)) (members w n) q).0))
          (H.heads v m));
    }
