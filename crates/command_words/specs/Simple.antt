-- Simple commands: their arguments, and what words give these.
use Rattle.std.specs.Prelude.{◌≡◌, ℕ, List, [], codes, decimal, true, Option, Some, None, unwrap_or}
use Rattle.clap.specs.{Simple.on_top, Lexer.usize_max, Walk.Rule, Words.{App, Row, first_of, all_of, fault_of, matches_of, new_app, new_rule}}
use Rattle.clap.specs.declared.builder.action.ArgAction.TheVariants.{SetTrue}

-- the command of this name, with no argument yet: its words are those behind the name, and no flag
-- asks for help or the version
abbrev pub named_app : List ℕ → App
named_app name = on_top (λ s. record s {
  no_binary_name = true;
  disable_help_flag = true;
  disable_version_flag = true;
}) (new_app name)

-- a positional, which must be given
abbrev pub value_rule : List ℕ → Rule
value_rule id = record (new_rule id) { required = true }

-- a positional of one or more values, which must be given
abbrev pub values_rule : List ℕ → Rule
values_rule id = record (new_rule id) {
  required = true;
  range = Some (record { start_inclusive = 1; end_inclusive = usize_max });
}

-- an option of this name, which takes one value and has no short form
abbrev pub option_rule : List ℕ → Rule
option_rule name = record (new_rule name) { long = Some name }

-- a flag of this name, which takes no value and has no short form
abbrev pub flag_rule : List ℕ → Rule
flag_rule name = record (new_rule name) { long = Some name; action = Some SetTrue }

-- the command of this name with these arguments
abbrev pub simple_app : List ℕ → List Rule → App
simple_app name rules = on_top (λ s. record s { rules = rules }) (named_app name)

-- the simple command takes the words, and they give its arguments this
pub record Gives (app : App) (words : List (List ℕ)) (given : List Row) : Type 0 where
  pub taken : fault_of app words ≡ []
  pub matches : matches_of app words ≡ given

-- the value of an argument, if it has one
abbrev pub value_in : List Row → List ℕ → Option (List ℕ)
value_in given id = first_of id given

-- all values of an argument
abbrev pub values_in : List Row → List ℕ → List (List ℕ)
values_in given id = unwrap_or (all_of id given) []

-- the flag is given
abbrev pub HasFlag : List Row → List ℕ → Type 0
HasFlag given id = first_of id given ≡ Some (codes "true")

-- the word is the number in decimal digits; without a word it is the number that stands for none
abbrev pub IsNumberOr : ℕ → Option (List ℕ) → ℕ → Type 0
IsNumberOr none None n = n ≡ none
IsNumberOr none (Some word) n = word ≡ decimal n
