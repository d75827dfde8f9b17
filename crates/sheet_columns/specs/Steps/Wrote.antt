-- What the functions that write into a lent buffer leave.
--   written_behind at ys old   == a lent buffer that held old, with ys written behind its first `at` bytes
--   Wrote at n ys old new r   == that was done, with n bytes, and r is where the next one goes
--   Room n s       == the sheet s has room for n bytes more
--   Writes n ys s s'   == ys was written, with n bytes, as the next bytes of the sheet s, and made it s', in the same buffer
use Rattle.std.specs.Prelude.{◌≡◌, List, ◌++◌, ℕ, ◌+◌, ◌≤◌, length, take, drop}
use Rattle.words.specs.Lists.{over}
use Rattle.sheet_columns.specs.declared.Sheet.{Sheet}

abbrev pub written_behind : ℕ → List ℕ → List ℕ → List ℕ
written_behind at ys old = take at old ++ over ys (drop at old)

pub record Wrote (at n : ℕ) (ys old new : List ℕ) (r : ℕ) : Type 0 where
  pub is : new ≡ written_behind at ys old
  pub many : length ys ≡ n
  pub room : at + n ≤ length old
  pub size : length new ≡ length old
  pub next : r ≡ at + n

abbrev pub Room : ℕ → Sheet → Type 0
Room n s = s.at + n ≤ length s.out.now

pub record Writes (n : ℕ) (ys : List ℕ) (s s' : Sheet) : Type 0 where
  pub wrote : Wrote s.at n ys s.out.now s'.out.now s'.at
  pub same_buffer : s'.out.ghost_name ≡ s.out.ghost_name
