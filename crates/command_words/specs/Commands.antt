-- Which words are a command.
use Rattle.std.specs.Prelude.{◌≡◌, ℕ, ◌^◌, ◌<◌, ◌≤◌, ◌↔◌, List, [], ◌∷◌, ◌++◌, length, codes, decimal, IsTrue, Bool, nat_lt, if◌then◌else◌, Option, Some, None, IfSome}
use Rattle.clap.specs.Words.{Row}
use Rattle.command_words.specs.{Simple.{Gives, HasFlag, IsNumberOr, value_in, values_in}, Kinds.{name_of, app_for}}
use Rattle.command_words.specs.{Plans.{AsksFor, IsWithinLimits, AreScripts, AreApart}, declared.kind.Kind.Kind, declared.command.Command.Command}
use Rattle.command_words.specs.declared.kind.Kind.TheVariants as kind
use Rattle.command_words.specs.declared.command.Command.TheVariants.{Cut, Apply, Gen, Trial, Play, Path, Hunt, Audit}

-- which command it is
abbrev pub kind_of : Command → Kind
kind_of (Cut cut) = kind.Cut
kind_of (Apply store) = kind.Apply
kind_of (Gen number) = kind.Gen
kind_of (Trial number) = kind.Trial
kind_of (Play plan) = kind.Play
kind_of (Path path) = kind.Path
kind_of (Hunt hunt) = kind.Hunt
kind_of (Audit audit) = kind.Audit

-- the argument has a value, which is the number in decimal digits
abbrev pub IsNumber : List Row → List ℕ → ℕ → Type 0
IsNumber given id n = value_in given id ≡ Some (decimal n)

-- what words give its arguments says what the command has
abbrev pub Says : List Row → Command → Type 0
Says given (Cut cut) =
    IsNumber given (codes "PENALTY") cut.penalty
    × IsNumberOr 1 (value_in given (codes "least")) cut.least
    × (IsTrue cut.absolute ↔ HasFlag given (codes "absolute"))
Says given (Apply store) = value_in given (codes "store") ≡ store
Says given (Gen number) = IsNumber given (codes "NUMBER") number
Says given (Trial number) = IsNumber given (codes "NUMBER") number
Says given (Play plan) = AsksFor given plan
Says given (Path path) =
    IsNumber given (codes "LOW") path.low × IsNumber given (codes "HIGH") path.high
Says given (Hunt hunt) =
    IsNumber given (codes "K") hunt.width × (value_in given (codes "test") ≡ Some hunt.test)
Says given (Audit audit) =
    (value_in given (codes "JOURNAL") ≡ Some audit.journal)
    × (values_in given (codes "SCRIPT") ≡ audit.scripts)

-- the command's numbers are within their limits, and its names as they must be
abbrev pub IsInRange : Command → Type 0
IsInRange (Cut cut) = (cut.penalty ≤ 10 ^ 36) × (1 ≤ cut.least) × (cut.least ≤ 64)
IsInRange (Apply store) = IfSome store (λ name. 0 < length name)
IsInRange (Gen number) = number < 2 ^ 64
IsInRange (Trial number) = number < 2 ^ 64
IsInRange (Play plan) = IsWithinLimits plan
IsInRange (Path path) = (path.low ≤ path.high) × (path.high ≤ 10 ^ 36)
IsInRange (Hunt hunt) = (1 ≤ hunt.width) × (hunt.width ≤ 8) × (0 < length hunt.test)
IsInRange (Audit audit) = AreScripts audit.scripts × AreApart audit

-- it is what the words say, and within its limits
abbrev pub IsSaid : List Row → Command → Type 0
IsSaid given command = Says given command × IsInRange command

-- the words are this command: its name, and words that its simple command takes, which say it
pub record IsSpelled (words : List (List ℕ)) (command : Command) : Type 0 where
  pub rest : List (List ℕ)
  pub named : words ≡ name_of (kind_of command) ∷ rest
  pub given : List Row
  pub gives : Gives (app_for (kind_of command)) rest given
  pub said : IsSaid given command

-- the words are no command
abbrev pub AreNoCommand : List (List ℕ) → Type 0
AreNoCommand words = (command : Command) → ¬ IsSpelled words command

-- no words are two commands
abbrev pub AreOneCommand : Type 0
AreOneCommand =
    (words : List (List ℕ)) (one other : Command) → IsSpelled words one → IsSpelled words other
    → one ≡ other

-- the plain words of a least length: none where it is 1
abbrev pub plain_least : ℕ → List (List ℕ)
plain_least least = if nat_lt 1 least then (codes "--least=" ++ decimal least) ∷ [] else []

-- the plain words of the flag that asks for distances
abbrev pub plain_flag : Bool → List (List ℕ)
plain_flag absolute = if absolute then codes "--absolute" ∷ [] else []

-- the plain words of a command other than `play`: its name, then its numbers in decimal digits, its
-- options with `=` before their values, and its flag; the names of `audit` stand behind `--`
abbrev pub plain_words : Command → Option (List (List ℕ))
plain_words (Cut cut) =
    Some (codes "cut" ∷ decimal cut.penalty ∷ plain_least cut.least ++ plain_flag cut.absolute)
plain_words (Apply None) = Some (codes "apply" ∷ [])
plain_words (Apply (Some name)) = Some (codes "apply" ∷ (codes "--store=" ++ name) ∷ [])
plain_words (Gen number) = Some (codes "gen" ∷ decimal number ∷ [])
plain_words (Trial number) = Some (codes "trial" ∷ decimal number ∷ [])
plain_words (Play plan) = None
plain_words (Path path) = Some (codes "path" ∷ decimal path.low ∷ decimal path.high ∷ [])
plain_words (Hunt hunt) =
    Some (codes "hunt" ∷ decimal hunt.width ∷ (codes "--test=" ++ hunt.test) ∷ [])
plain_words (Audit audit) = Some (codes "audit" ∷ codes "--" ∷ audit.journal ∷ audit.scripts)

-- the plain words of each command that is within its limits are it
abbrev pub PlainWordsAreCommands : Type 0
PlainWordsAreCommands = (command : Command) → IsInRange command
    → IfSome (plain_words command) (λ words. IsSpelled words command)
