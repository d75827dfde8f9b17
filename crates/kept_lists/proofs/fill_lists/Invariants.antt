-- First the lists of the beginnings, then those of the endings.
use Rattle.kept_lists.specs.Steps.KeptLists.{beginnings, endings}
use Rattle.kept_lists.proofs.fill_lists.Given as goal

abbrev pub ghost-fill_kind : goal.ghost-fill_kind
ghost-fill_kind a = beginnings

abbrev pub ghost-fill_kind-2 : goal.ghost-fill_kind-2
ghost-fill_kind-2 a = endings
