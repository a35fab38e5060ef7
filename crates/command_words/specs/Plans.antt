-- What `play` and `audit` are asked for.
use Rattle.std.specs.Prelude.{◌≡◌, ◌≢◌, ℕ, ◌<◌, ◌≤◌, List, [], ◌++◌, length, All, AllPairs, Contains, codes, Option, Some, None, IfSome, IsSome, ◌==◌, Bool}
use Rattle.std.specs.List.{slice_split, AllZip}
use Rattle.line_text.specs.Names.{Spells}
use Rattle.clap.specs.Words.{Row}
use Rattle.command_words.specs.Simple.{IsNumberOr, value_in, values_in}

-- the names of machines to add, the name of the store, how many workers of each kind, the word of
-- the test, and the names of the scripts
pub record Plan : Type 0 where
  pub machines : List (List ℕ)
  pub store : Option (List ℕ)
  pub recompute : ℕ
  pub bisect : ℕ
  pub test : Option (List ℕ)
  pub scripts : List (List ℕ)

-- the name of the file with the journals, and the names of the scripts
pub record Files : Type 0 where
  pub journal : List ℕ
  pub scripts : List (List ℕ)

-- the name of a script's transcript
abbrev pub transcript_of : List ℕ → List ℕ
transcript_of script = script ++ codes ".out"

-- 1 to 8 scripts, whose names aren't empty and all different; none is a transcript's
pub record AreScripts (scripts : List (List ℕ)) : Type 0 where
  pub some : 0 < length scripts
  pub few : length scripts ≤ 8
  pub named : All (λ script. 0 < length script) scripts
  pub apart : AllPairs ◌≢◌ scripts
  pub own : All (λ script. ¬ Contains scripts (transcript_of script)) scripts

-- at most 16 machines, whose names are all different
pub record AreMachines (machines : List (List ℕ)) : Type 0 where
  pub few : length machines ≤ 16
  pub apart : AllPairs ◌≢◌ machines

-- the limits of what `play` may be asked for
pub record IsWithinLimits (plan : Plan) : Type 0 where
  pub machines : AreMachines plan.machines
  pub store : IfSome plan.store (λ name. 0 < length name)
  pub recompute : plan.recompute ≤ 8
  pub bisect : plan.bisect ≤ 8
  pub test : IfSome plan.test (λ word. 0 < length word)
  pub tested : 0 < plan.bisect → IsSome plan.test
  pub scripts : AreScripts plan.scripts

-- the journals' name isn't empty, and is neither a script's nor a transcript's
pub record AreApart (audit : Files) : Type 0 where
  pub named : 0 < length audit.journal
  pub other : ¬ Contains audit.scripts audit.journal
  pub own : All (λ script. transcript_of script ≢ audit.journal) audit.scripts

-- a comma
abbrev pub is_comma : ℕ → Bool
is_comma b = b == 44

-- the list, cut at its commas, spells the names; without it there are none
abbrev pub IsListOf : Option (List ℕ) → List (List ℕ) → Type 0
IsListOf None names = names ≡ []
IsListOf (Some list) names = AllZip Spells (slice_split is_comma list) names

-- what words give the arguments of `play` asks for it
pub record AsksFor (given : List Row) (plan : Plan) : Type 0 where
  pub machines : IsListOf (value_in given (codes "machines")) plan.machines
  pub store : value_in given (codes "store") ≡ plan.store
  pub recompute : IsNumberOr 0 (value_in given (codes "recompute")) plan.recompute
  pub bisect : IsNumberOr 0 (value_in given (codes "bisect")) plan.bisect
  pub test : value_in given (codes "test") ≡ plan.test
  pub scripts : values_in given (codes "SCRIPT") ≡ plan.scripts
