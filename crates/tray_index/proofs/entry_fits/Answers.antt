use Rattle.tray_index.proofs.Passing.{fits-zero, fits_above, fits-first, fits-behind, here_least, before_least, before-most}
use borrow.Author.Rules.{rules}
use Rattle.tray_index.proofs.entry_fits.Goals as goal

pub returns-then-here-eq0 : goal.returns-then-here-eq0
returns-then-here-eq0 c = search fits-zero

pub returns-then-tray-here : goal.returns-then-tray-here
returns-then-tray-here c = search fits_above

pub returns-then-i-eq0 : goal.returns-then-i-eq0
returns-then-i-eq0 c = search fits-first

pub slip_part-typed-requires : goal.slip_part-typed-requires
slip_part-typed-requires c = search (rules, here_least)

pub member_below-requires : goal.member_below-requires
member_below-requires c = search (rules, before_least, before-most)

pub returns : goal.returns
returns c = search fits-behind
