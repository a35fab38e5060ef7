-- No public contract cites this. How long the last of the names of a request may be.
use Rattle.std.specs.Prelude.{ℕ, ◌≤◌, List, length}
use Rattle.request_words.specs.{declared.names.Last.Last, declared.names.Last.TheVariants.{Metric, Any}, Forms.name_of}

-- that of a metric has at most 64 bytes
abbrev pub IsShortName : Last → List ℕ → Type 0
IsShortName Metric name = length name ≤ 64
IsShortName Any name = Unit {0}

-- the name that a word stands for is so short
abbrev pub IsShortFor : Last → List ℕ → Type 0
IsShortFor last word = IsShortName last (name_of word)
