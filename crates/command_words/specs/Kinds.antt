-- The commands: their names and their arguments.
use Rattle.std.specs.Prelude.{ℕ, List, [], ◌∷◌, codes}
use Rattle.clap.specs.{Walk.Rule, Words.App}
use Rattle.command_words.specs.{Simple.{simple_app, value_rule, values_rule, option_rule, flag_rule}, declared.kind.Kind.Kind}
use Rattle.command_words.specs.declared.kind.Kind.TheVariants as kind

-- the name of a command, which is the first word
abbrev pub name_of : Kind → List ℕ
name_of kind.Cut = codes "cut"
name_of kind.Apply = codes "apply"
name_of kind.Gen = codes "gen"
name_of kind.Trial = codes "trial"
name_of kind.Play = codes "play"
name_of kind.Path = codes "path"
name_of kind.Hunt = codes "hunt"
name_of kind.Audit = codes "audit"

-- its arguments
abbrev pub arguments_of : Kind → List Rule
arguments_of kind.Cut =
    value_rule (codes "PENALTY") ∷ option_rule (codes "least") ∷ flag_rule (codes "absolute") ∷ []
arguments_of kind.Apply = option_rule (codes "store") ∷ []
arguments_of kind.Gen = value_rule (codes "NUMBER") ∷ []
arguments_of kind.Trial = value_rule (codes "NUMBER") ∷ []
arguments_of kind.Play =
    option_rule (codes "machines") ∷ option_rule (codes "store") ∷ option_rule (codes "recompute")
    ∷ option_rule (codes "bisect") ∷ option_rule (codes "test") ∷ values_rule (codes "SCRIPT") ∷ []
arguments_of kind.Path = value_rule (codes "LOW") ∷ value_rule (codes "HIGH") ∷ []
arguments_of kind.Hunt = value_rule (codes "K") ∷ option_rule (codes "test") ∷ []
arguments_of kind.Audit = value_rule (codes "JOURNAL") ∷ values_rule (codes "SCRIPT") ∷ []

-- the simple command that reads the words behind its name
abbrev pub app_for : Kind → App
app_for kind = simple_app (name_of kind) (arguments_of kind)
