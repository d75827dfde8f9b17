-- The limits of the rules, each named once.
use Rattle.std.specs.Prelude.{ℕ}

-- 1: a tray has at most this many slips
abbrev pub max_slips : ℕ
max_slips = 200

-- 3: a slip has at most this many letters
abbrev pub max_slip : ℕ
max_slip = 32

-- 4: a tray has at most this many letters
abbrev pub max_letters : ℕ
max_letters = 2000

-- 12: a text, or a typed beginning, has at most this many letters
abbrev pub max_text : ℕ
max_text = 2000

-- 7: the work area has at least this many cells of 16 bits
abbrev pub work_need : ℕ
work_need = 32000

-- 15, 16: a tray file has at most this many bytes, and the lent letters at least as many
abbrev pub max_file : ℕ
max_file = 16384

-- 15: the lent ends are at least this many, and the lent sides too
abbrev pub ends_need : ℕ
ends_need = 1700

-- 21: the least overlap is at most this many letters
abbrev pub max_least : ℕ
max_least = 32

-- 20: the shortest legend is sought for at most this many kept slips
abbrev pub max_shortest : ℕ
max_shortest = 10
