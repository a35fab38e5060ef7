-- The text of where a bisection stands.
use Rattle.std.specs.Prelude.{ℕ, List, ◌++◌, codes, decimal}
use Rattle.line_text.specs.Names.{spelling}
use Rattle.report_model.specs.declared.told.Told.{Told, TheVariants.{Asks, Found, Undecided, Faulted}}

-- a word and what it is of, each name in its canonical spelling
abbrev pub outcome_text : Told → List ℕ
outcome_text (Asks commit) = codes "asks " ++ spelling commit
outcome_text (Found lo hi) = codes "found " ++ spelling lo ++ codes " " ++ spelling hi
outcome_text (Undecided commit status) = codes "undecided " ++ spelling commit ++ codes " " ++ decimal status
outcome_text (Faulted commit) = codes "faulted " ++ spelling commit
