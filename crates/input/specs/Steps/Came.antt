-- What reading answers.
--   came r            == how many bytes came, also before a read that failed
--   More done size n  == n counts the `done` bytes that had come and those that came now, within the size of the buffer
use Rattle.std.specs.Prelude.{ℕ, ◌≤◌, Result, Ok, Err}
use Rattle.input.specs.declared.Failed.{Failed}

abbrev pub came : Result ℕ Failed → ℕ
came (Ok n) = n
came (Err f) = f.count

pub record More (done size n : ℕ) : Type 0 where
  pub from : done ≤ n
  pub within : n ≤ size
