use Rattle.words.proofs.OverlapLoop.{overlap_hit, overlap_miss, overlap_long, overlap_last, overlap_none}
use borrow.Author.Rules.{rules}
use Rattle.words.proofs.overlap.Goals.{else-n-b-via-then-n-b+then-b-n+else-begins, else-n-b-via-then-n-b+else-b-n, else-n-b-via-else-n-b}
use Rattle.words.proofs.overlap.Goals as goal

pub returns-then-begins : goal.returns-then-begins
returns-then-begins c = search overlap_hit

pub loop-i-preserved : goal.loop-i-preserved
loop-i-preserved c = (
  search rules,
  elim c.else-n-b.branch [
    | else-n-b-via-then-n-b+then-b-n+else-begins w ↦ search overlap_miss
    | else-n-b-via-then-n-b+else-b-n w ↦ search (rules, overlap_last)
    | else-n-b-via-else-n-b w ↦ search (rules, overlap_long)
  ],
)

pub returns : goal.returns
returns c = search overlap_none
