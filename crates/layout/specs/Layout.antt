-- Where the tables stand in the work area, and how many cells each has. They stand one after another: a base is the base before it and the cells of the
-- table there.
use Rattle.std.specs.Prelude.{ℕ, ◌+◌, ◌*◌}
use Rattle.trays.specs.Limits.{max_slips, max_letters}
use Rattle.answers.specs.Composing.{join_cells, place_cells, record_cells}

-- how many nodes there are at most: the root, and one for each letter
abbrev pub max_nodes : ℕ
max_nodes = max_letters + 1

-- `max_slips` cells: the members, ascending
abbrev pub MEMBERS : ℕ
MEMBERS = 0

-- `max_slips` cells: the members by letters, a beginning before its longer slips, equals by number
abbrev pub ORDER : ℕ
ORDER = MEMBERS + max_slips

-- `max_slips` cells: for each of these the length of its common beginning with the one before
abbrev pub COMMON : ℕ
COMMON = ORDER + max_slips

-- `level_cells` cells: for each length its first node, and the number after the last
abbrev pub LEVEL : ℕ
LEVEL = COMMON + max_slips

-- enough where a slip has at most 40 letters
abbrev pub level_cells : ℕ
level_cells = 42

-- `max_letters` cells: for each letter of a member the node of the beginning that ends there
abbrev pub AT : ℕ
AT = LEVEL + level_cells

-- `max_nodes` cells: for each node the position of its last letter in one member that has it
abbrev pub OWN : ℕ
OWN = AT + max_letters

-- `max_nodes + 1` cells: for each node its first child; the children of v are KID v up to KID (v + 1)
abbrev pub KID : ℕ
KID = OWN + max_nodes

-- `near_nodes * near_letters` cells: for each of the first nodes and each letter the child, 0 for none
abbrev pub NEAR : ℕ
NEAR = KID + (max_nodes + 1)

-- how many nodes and letters NEAR has, and its first and last letter: the root and the nodes of one letter are among the first
abbrev pub near_nodes : ℕ
near_nodes = 28

abbrev pub near_letters : ℕ
near_letters = 45

abbrev pub first_sign : ℕ
first_sign = 46

abbrev pub last_sign : ℕ
last_sign = 90

-- `max_nodes` cells: for each node its failure link
abbrev pub FAIL : ℕ
FAIL = NEAR + near_nodes * near_letters

-- `max_nodes` cells: for each node the lowest member whose letters it is, 0 for none
abbrev pub HEAD : ℕ
HEAD = FAIL + max_nodes

-- `max_slips + 1` cells: for each member the next higher one of the same letters, 0 for none
abbrev pub TWIN : ℕ
TWIN = HEAD + max_nodes

-- `max_nodes` cells: 1 for a node that is some node's failure link
abbrev pub MARK : ℕ
MARK = TWIN + (max_slips + 1)

-- `max_slips` cells: the kept members, ascending
abbrev pub KEPT : ℕ
KEPT = MARK + max_nodes

-- `max_nodes` cells: for each node the lowest kept member that begins with it, 0 for none
abbrev pub STARTS : ℕ
STARTS = KEPT + max_slips

-- `max_letters` cells: the next such member, at the position of the node's last letter in the one before
abbrev pub STARTS_NEXT : ℕ
STARTS_NEXT = STARTS + max_nodes

-- `max_nodes` cells: for each node the lowest kept member that properly ends with it, 0 for none
abbrev pub ENDS : ℕ
ENDS = STARTS_NEXT + max_letters

-- `max_letters` cells: the next such member, at the position of the node's first letter in the one before
abbrev pub ENDS_NEXT : ℕ
ENDS_NEXT = ENDS + max_nodes

-- `all_joins` cells: the joins in the order made: left slip, right slip, overlap
abbrev pub JOINS : ℕ
JOINS = ENDS_NEXT + max_letters

-- how many numbers the joins have, at most one join for each slip
abbrev pub all_joins : ℕ
all_joins = max_slips * join_cells

-- `all_places` cells: for each slip its place, 1 if it is kept, and the letters compared
abbrev pub PLACES : ℕ
PLACES = JOINS + all_joins

-- how many numbers the places have, one place for each slip
abbrev pub all_places : ℕ
all_places = max_slips * place_cells

-- `max_nodes` cells: for each node the next node on its failure path that is a member, 0 for none
abbrev pub OUT : ℕ
OUT = PLACES + all_places

-- `max_nodes` cells: for each node how many members end it
abbrev pub TALLY : ℕ
TALLY = OUT + max_nodes

-- after the table TALLY: where a scan is kept
abbrev pub SCAN : ℕ
SCAN = TALLY + max_nodes

-- the pairs and groups of the search for the shortest legend; shortest_groups says how many cells they have. The search fills KEPT and no table after it,
-- so these lie over STARTS and what follows.
abbrev pub SEEK : ℕ
SEEK = STARTS

-- `all_joins` cells: the joins of one side, their slips by the numbers that they have in the whole tray. Composing keeps no scan, so these stand over SCAN.
abbrev pub NAMED : ℕ
NAMED = SCAN

-- `all_records` cells: for each slip of the side its number in the whole tray, its place, 1 if it is kept, the letters compared, and the side
abbrev pub RECORDS : ℕ
RECORDS = NAMED + all_joins

-- how many numbers the records have, one record for each slip
abbrev pub all_records : ℕ
all_records = max_slips * record_cells
