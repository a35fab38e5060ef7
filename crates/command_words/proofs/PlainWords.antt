-- The plain words of a command are it.
use Rattle.std.proofs.Common.{◌≡◌, ◌==◌, ◌↔◌, ℕ, ◌<◌, ◌≤◌, ◌^◌, length, List, [], ◌∷◌, ◌++◌, Bool, true, false, Option, Some, None, codes, decimal, refl, sym, subst, arith, ne_eqb, if◌then◌else◌, nat_lt, inl, inr}
use Rattle.std.{proofs.lemmas.Bool.{cases_Bool, ltb-false}, specs.Prelude.IsTrue, specs.Char.digit_value, specs.Str.Parse.IsNumeral}
use Rattle.std.proofs.lemmas.{Fmt.decimal_is_IsNumeral_wide, Str.Parse.digit_from_value}
use Rattle.clap.{specs.Words.{Row, fault_of, matches_of}, proofs.OnLiterals.clap_on_literals}
use Rattle.command_words.specs.declared.{kind.Kind.Kind, command.CutPlan.CutPlan, command.Command.Command}
use Rattle.command_words.specs.declared.kind.Kind.TheVariants as kind
use Rattle.command_words.specs.{declared.command.Command.TheVariants.{Cut, Apply, Gen, Trial, Play, Path, Hunt, Audit}, Kinds.{app_for, name_of}}
use Rattle.command_words.specs.Simple.{HasFlag, IsNumberOr, value_in, values_in}
use Rattle.command_words.specs.Commands.{kind_of, Says, IsInRange, IsSpelled, PlainWordsAreCommands, plain_flag}

-- what words give the command of a kind
abbrev given_by : Kind → List (List ℕ) → List Row
given_by k words = matches_of (app_for k) words

-- a command that words behind its name say
spelled : (command : Command) (rest : List (List ℕ)) → fault_of (app_for (kind_of command)) rest ≡ [] → Says (given_by (kind_of command) rest) command → IsInRange command
    → IsSpelled (name_of (kind_of command) ∷ rest) command
spelled command rest taken says within = record {
  rest = rest;
  named = refl;
  given = given_by (kind_of command) rest;
  gives = record { taken = taken; matches = refl };
  said = (says, within);
}

-- ---- what plain words give, where their numbers begin with no `-`

-- a value joined to `--least=`, if there is one
abbrev least_words : Option (List ℕ) → List (List ℕ)
least_words None = []
least_words (Some least) = (codes "--least=" ++ least) ∷ []

-- words of `cut`
abbrev cut_rest : List ℕ → Option (List ℕ) → Bool → List (List ℕ)
cut_rest word least absolute = word ∷ least_words least ++ plain_flag absolute

flag_told : Bool → List ℕ
flag_told absolute = if absolute then codes "true" else codes "false"

-- what they are read as
abbrev CutGives : List ℕ → Option (List ℕ) → Bool → Type 0
CutGives word least absolute = (fault_of (app_for kind.Cut) (cut_rest word least absolute) ≡ [])
    × (value_in (given_by kind.Cut (cut_rest word least absolute)) (codes "PENALTY") ≡ Some word)
    × (value_in (given_by kind.Cut (cut_rest word least absolute)) (codes "least") ≡ least)
    × (value_in (given_by kind.Cut (cut_rest word least absolute)) (codes "absolute") ≡ Some (flag_told absolute))

cut_gives : (x : ℕ) (xs : List ℕ) (least : Option (List ℕ)) (absolute : Bool) → (x == 45) ≡ false → CutGives (x ∷ xs) least absolute
unfolding clap_on_literals flag_told
cut_gives x xs (Some least) true plain = (simp plain refl, simp plain refl, simp plain refl, simp plain refl)
cut_gives x xs (Some least) false plain = (simp plain refl, simp plain refl, simp plain refl, simp plain refl)
cut_gives x xs None true plain = (simp plain refl, simp plain refl, simp plain refl, simp plain refl)
cut_gives x xs None false plain = (simp plain refl, simp plain refl, simp plain refl, simp plain refl)

flag_is : (absolute : Bool) (given : Option (List ℕ)) → given ≡ Some (flag_told absolute) → IsTrue absolute ↔ (given ≡ Some (codes "true"))
unfolding flag_told
flag_is true given is = ((λ yes. is), (λ told. refl))
flag_is false given is = ((λ no. absurd (cc)), (λ told. absurd (cc)))

number_taken : (x : ℕ) (xs : List ℕ) → (x == 45) ≡ false → (fault_of (app_for kind.Gen) ((x ∷ xs) ∷ []) ≡ []) × (fault_of (app_for kind.Trial) ((x ∷ xs) ∷ []) ≡ [])
unfolding clap_on_literals
number_taken x xs plain = (simp plain refl, simp plain refl)

number_given : (x : ℕ) (xs : List ℕ) → (x == 45) ≡ false
    → (value_in (given_by kind.Gen ((x ∷ xs) ∷ [])) (codes "NUMBER") ≡ Some (x ∷ xs)) × (value_in (given_by kind.Trial ((x ∷ xs) ∷ [])) (codes "NUMBER") ≡ Some (x ∷ xs))
unfolding clap_on_literals
number_given x xs plain = (simp plain refl, simp plain refl)

path_taken : (x : ℕ) (xs : List ℕ) (y : ℕ) (ys : List ℕ) → (x == 45) ≡ false → (y == 45) ≡ false → fault_of (app_for kind.Path) ((x ∷ xs) ∷ (y ∷ ys) ∷ []) ≡ []
unfolding clap_on_literals
path_taken x xs y ys plain also = simp (plain, also) refl

path_given : (x : ℕ) (xs : List ℕ) (y : ℕ) (ys : List ℕ) → (x == 45) ≡ false → (y == 45) ≡ false
    → (value_in (given_by kind.Path ((x ∷ xs) ∷ (y ∷ ys) ∷ [])) (codes "LOW") ≡ Some (x ∷ xs)) × (value_in (given_by kind.Path ((x ∷ xs) ∷ (y ∷ ys) ∷ [])) (codes "HIGH") ≡ Some (y ∷ ys))
unfolding clap_on_literals
path_given x xs y ys plain also = (simp (plain, also) refl, simp (plain, also) refl)

hunt_taken : (x : ℕ) (xs test : List ℕ) → (x == 45) ≡ false → fault_of (app_for kind.Hunt) ((x ∷ xs) ∷ (codes "--test=" ++ test) ∷ []) ≡ []
unfolding clap_on_literals
hunt_taken x xs test plain = simp plain refl

hunt_given : (x : ℕ) (xs test : List ℕ) → (x == 45) ≡ false
    → (value_in (given_by kind.Hunt ((x ∷ xs) ∷ (codes "--test=" ++ test) ∷ [])) (codes "K") ≡ Some (x ∷ xs)) × (value_in (given_by kind.Hunt ((x ∷ xs) ∷ (codes "--test=" ++ test) ∷ [])) (codes "test") ≡ Some test)
unfolding clap_on_literals
hunt_given x xs test plain = (simp plain refl, simp plain refl)

store_taken : (name : List ℕ) → fault_of (app_for kind.Apply) ((codes "--store=" ++ name) ∷ []) ≡ []
unfolding clap_on_literals
store_taken name = refl

store_given : (name : List ℕ) → value_in (given_by kind.Apply ((codes "--store=" ++ name) ∷ [])) (codes "store") ≡ Some name
unfolding clap_on_literals
store_given name = refl

no_store : (fault_of (app_for kind.Apply) [] ≡ []) × (value_in (given_by kind.Apply []) (codes "store") ≡ None)
unfolding clap_on_literals
no_store = (refl, refl)

-- ---- behind `--` the names are those of the journals and of 1 to 8 scripts

abbrev AuditGives : List ℕ → List (List ℕ) → Type 0
AuditGives journal scripts = (fault_of (app_for kind.Audit) (codes "--" ∷ journal ∷ scripts) ≡ [])
    × (value_in (given_by kind.Audit (codes "--" ∷ journal ∷ scripts)) (codes "JOURNAL") ≡ Some journal)
    × (values_in (given_by kind.Audit (codes "--" ∷ journal ∷ scripts)) (codes "SCRIPT") ≡ scripts)

audit_gives : (journal : List ℕ) (scripts : List (List ℕ)) → 0 < length scripts → length scripts ≤ 8 → AuditGives journal scripts
unfolding clap_on_literals
audit_gives journal [] some few = absurd (omega (arith, some))
audit_gives journal (a ∷ []) some few = (refl, refl, refl)
audit_gives journal (a ∷ b ∷ []) some few = (refl, refl, refl)
audit_gives journal (a ∷ b ∷ c ∷ []) some few = (refl, refl, refl)
audit_gives journal (a ∷ b ∷ c ∷ d ∷ []) some few = (refl, refl, refl)
audit_gives journal (a ∷ b ∷ c ∷ d ∷ e ∷ []) some few = (refl, refl, refl)
audit_gives journal (a ∷ b ∷ c ∷ d ∷ e ∷ f ∷ []) some few = (refl, refl, refl)
audit_gives journal (a ∷ b ∷ c ∷ d ∷ e ∷ f ∷ g ∷ []) some few = (refl, refl, refl)
audit_gives journal (a ∷ b ∷ c ∷ d ∷ e ∷ f ∷ g ∷ h ∷ []) some few = (refl, refl, refl)
audit_gives journal (a ∷ b ∷ c ∷ d ∷ e ∷ f ∷ g ∷ h ∷ k ∷ more) some few = absurd (omega (arith, few))

-- ---- the digits of a number begin with no `-`

-- a word with a plain beginning
data Plain : List ℕ → Type 0 where
  begins : (x : ℕ) (xs : List ℕ) → (x == 45) ≡ false → Plain (x ∷ xs)

no_hyphen : (x : ℕ) → digit_value x < 10 → (x == 45) ≡ false
no_hyphen x small = ne_eqb x 45 (λ is. let digit = digit_from_value x small in omega (arith, digit.0, is))

digits_plain : (word : List ℕ) → IsNumeral 10 word → Plain word
digits_plain [] digits = absurd (omega (arith, digits.0))
digits_plain (x ∷ xs) digits = begins x xs (no_hyphen x digits.1.0)

number_plain : (n : ℕ) → n < 10 ^ 64 → Plain (decimal n)
number_plain n few = digits_plain (decimal n) (decimal_is_IsNumeral_wide n few).0

cut_words : (word : List ℕ) (least : Option (List ℕ)) (absolute : Bool) → Plain word
    → (fault_of (app_for kind.Cut) (cut_rest word least absolute) ≡ [])
    × (value_in (given_by kind.Cut (cut_rest word least absolute)) (codes "PENALTY") ≡ Some word)
    × (value_in (given_by kind.Cut (cut_rest word least absolute)) (codes "least") ≡ least)
    × (IsTrue absolute ↔ HasFlag (given_by kind.Cut (cut_rest word least absolute)) (codes "absolute"))
cut_words word least absolute (begins x xs is) =
    let gives = cut_gives x xs least absolute is in (gives.0, gives.1, gives.2, flag_is absolute _ gives.3)

number_words : (word : List ℕ) → Plain word
    → (fault_of (app_for kind.Gen) (word ∷ []) ≡ []) × (value_in (given_by kind.Gen (word ∷ [])) (codes "NUMBER") ≡ Some word)
    × (fault_of (app_for kind.Trial) (word ∷ []) ≡ []) × (value_in (given_by kind.Trial (word ∷ [])) (codes "NUMBER") ≡ Some word)
number_words word (begins x xs is) = ((number_taken x xs is).0, (number_given x xs is).0, (number_taken x xs is).1, (number_given x xs is).1)

path_words : (low high : List ℕ) → Plain low → Plain high
    → (fault_of (app_for kind.Path) (low ∷ high ∷ []) ≡ [])
    × (value_in (given_by kind.Path (low ∷ high ∷ [])) (codes "LOW") ≡ Some low) × (value_in (given_by kind.Path (low ∷ high ∷ [])) (codes "HIGH") ≡ Some high)
path_words low high (begins x xs is) (begins y ys also) = (path_taken x xs y ys is also, (path_given x xs y ys is also).0, (path_given x xs y ys is also).1)

hunt_words : (word test : List ℕ) → Plain word
    → (fault_of (app_for kind.Hunt) (word ∷ (codes "--test=" ++ test) ∷ []) ≡ [])
    × (value_in (given_by kind.Hunt (word ∷ (codes "--test=" ++ test) ∷ [])) (codes "K") ≡ Some word) × (value_in (given_by kind.Hunt (word ∷ (codes "--test=" ++ test) ∷ [])) (codes "test") ≡ Some test)
hunt_words word test (begins x xs is) = (hunt_taken x xs test is, (hunt_given x xs test is).0, (hunt_given x xs test is).1)

-- where the value of the option says the least length
cut_spelled : (cut : CutPlan) (least : Option (List ℕ)) → IsNumberOr 1 least cut.least → IsInRange (Cut cut)
    → IsSpelled (codes "cut" ∷ cut_rest (decimal cut.penalty) least cut.absolute) (Cut cut)
cut_spelled cut least says within =
    let told = cut_words (decimal cut.penalty) least cut.absolute (number_plain cut.penalty (omega (arith, within.0))) in
    spelled (Cut cut) (cut_rest (decimal cut.penalty) least cut.absolute) told.0
    (told.1, subst (λ (w : Option (List ℕ)). IsNumberOr 1 w cut.least) (sym told.2) says, told.3) within

pub plain_words_are : PlainWordsAreCommands
plain_words_are (Cut cut) within =
    elim (cases_Bool (nat_lt 1 cut.least)) [
      | inl more ↦ rw more (cut_spelled cut (Some (decimal cut.least)) refl within)
      | inr one ↦ rw one (cut_spelled cut None (omega (arith, ltb-false 1 cut.least one, within.1)) within)
    ]
plain_words_are (Apply None) within = spelled (Apply None) [] no_store.0 no_store.1 within
plain_words_are (Apply (Some name)) within = spelled (Apply (Some name)) ((codes "--store=" ++ name) ∷ []) (store_taken name) (store_given name) within
plain_words_are (Gen number) within =
    let told = number_words (decimal number) (number_plain number (omega (arith, within))) in
    spelled (Gen number) (decimal number ∷ []) told.0 told.1 within
plain_words_are (Trial number) within =
    let told = number_words (decimal number) (number_plain number (omega (arith, within))) in
    spelled (Trial number) (decimal number ∷ []) told.2 told.3 within
plain_words_are (Play plan) within = tt
plain_words_are (Path path) within =
    let told = path_words (decimal path.low) (decimal path.high) (number_plain path.low (omega (arith, within.0, within.1))) (number_plain path.high (omega (arith, within.1))) in
    spelled (Path path) (decimal path.low ∷ decimal path.high ∷ []) told.0 (told.1, told.2) within
plain_words_are (Hunt hunt) within =
    let told = hunt_words (decimal hunt.width) hunt.test (number_plain hunt.width (omega (arith, within.1))) in
    spelled (Hunt hunt) (decimal hunt.width ∷ (codes "--test=" ++ hunt.test) ∷ []) told.0 (told.1, told.2) within
plain_words_are (Audit audit) within =
    let told = audit_gives audit.journal audit.scripts within.0.some within.0.few in
    spelled (Audit audit) (codes "--" ∷ audit.journal ∷ audit.scripts) told.0 (told.1, told.2) within
