-- What is left is the whole before the first digit, and shorter after it.
use Rattle.std.proofs.Common.{◌≡◌, ◌<◌, length, MatchOption}
use Rattle.trials_lines.proofs.fields.Fields.decimal.Given as goal

abbrev pub invariant-loop-self : goal.invariant-loop-self
invariant-loop-self l = MatchOption l.value (l.self.rest.now ≡ l.fn.self.rest.now) (λ _. length l.self.rest.now < length l.fn.self.rest.now)

abbrev pub decreases-loop-self : goal.decreases-loop-self
decreases-loop-self l = length l.self.rest.now
