-- The bytes of benchmark output that have a meaning of their own.
use Rattle.std.specs.Prelude.{ℕ}

abbrev pub tab : ℕ
tab = 9

abbrev pub line_feed : ℕ
line_feed = 10

abbrev pub carriage_return : ℕ
carriage_return = 13

abbrev pub space : ℕ
space = 32

-- `#`, between a package and a name
abbrev pub hash : ℕ
hash = 35

-- `:`, behind a key
abbrev pub colon : ℕ
colon = 58
