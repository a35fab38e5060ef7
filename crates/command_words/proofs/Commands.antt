-- What commands of each kind have, and that no words are two commands.
use Rattle.std.proofs.Common.{◌≡◌, ◌↔◌, ℕ, ◌^◌, ◌<◌, List, [], ◌∷◌, Bool, true, false, Option, Some, None, codes, decimal, length, refl, sym, ap, subst, arith, ◌∙◌, unwrap_or, if◌then◌else◌}
use Rattle.std.specs.{Prelude.{IsTrue, Result, Ok, Err, IfOk, IfSome, IfNone, String, string_bytes}, Str.bytes_eq}
use Rattle.line_text.proofs.SignedWords.{one_number}
use Rattle.clap.specs.Words.{Row, is_simple_and_free}
use Rattle.command_words.specs.{Kinds.{name_of, app_for}, Simple.{Gives, HasFlag, value_in}, Plans.{Plan, Files}, Texts.{Finds, texts}}
use Rattle.command_words.specs.{Commands.{kind_of, IsSaid, IsSpelled, AreNoCommand, AreOneCommand}, declared.kind.Kind.Kind, declared.command.CutPlan.CutPlan}
use Rattle.command_words.specs.declared.kind.Kind.TheVariants as kind
use Rattle.command_words.specs.declared.command.{PathPlan.PathPlan, HuntPlan.HuntPlan, Command.Command}
use Rattle.command_words.{specs.declared.command.Command.TheVariants.{Cut, Apply, Gen, Trial, Play, Path, Hunt, Audit}, proofs.Plans.{plan_once, number_once}}

-- ---- the kinds

-- which command a name is
abbrev kind_by : List ℕ → Kind
kind_by name =
    if bytes_eq name (codes "cut") then kind.Cut else (if bytes_eq name (codes "apply") then kind.Apply
    else (if bytes_eq name (codes "gen") then kind.Gen else (if bytes_eq name (codes "trial") then kind.Trial
    else (if bytes_eq name (codes "play") then kind.Play else (if bytes_eq name (codes "path") then kind.Path
    else (if bytes_eq name (codes "hunt") then kind.Hunt else kind.Audit))))))

kind_back : (k : Kind) → kind_by (name_of k) ≡ k
kind_back kind.Cut = refl
kind_back kind.Apply = refl
kind_back kind.Gen = refl
kind_back kind.Trial = refl
kind_back kind.Play = refl
kind_back kind.Path = refl
kind_back kind.Hunt = refl
kind_back kind.Audit = refl

-- no two have one name
pub same_kind : (j k : Kind) → name_of j ≡ name_of k → j ≡ k
same_kind j k same = sym (kind_back j) ∙ ap kind_by same ∙ kind_back k

pub free : (k : Kind) → is_simple_and_free (app_for k) ≡ true
free kind.Cut = refl
free kind.Apply = refl
free kind.Gen = refl
free kind.Trial = refl
free kind.Play = refl
free kind.Path = refl
free kind.Hunt = refl
free kind.Audit = refl

-- ---- what the command of a kind has

abbrev pub Content : Kind → Type 0
Content kind.Cut = CutPlan
Content kind.Apply = Option (List ℕ)
Content kind.Gen = ℕ
Content kind.Trial = ℕ
Content kind.Play = Plan
Content kind.Path = PathPlan
Content kind.Hunt = HuntPlan
Content kind.Audit = Files

abbrev pub made : (k : Kind) → Content k → Command
made kind.Cut x = Cut x
made kind.Apply x = Apply x
made kind.Gen x = Gen x
made kind.Trial x = Trial x
made kind.Play x = Play x
made kind.Path x = Path x
made kind.Hunt x = Hunt x
made kind.Audit x = Audit x

is_made : (c : Command) → (x : Content (kind_of c)) × (made (kind_of c) x ≡ c)
is_made (Cut x) = (x, refl)
is_made (Apply x) = (x, refl)
is_made (Gen x) = (x, refl)
is_made (Trial x) = (x, refl)
is_made (Play x) = (x, refl)
is_made (Path x) = (x, refl)
is_made (Hunt x) = (x, refl)
is_made (Audit x) = (x, refl)

-- a command of this kind that is said
abbrev pub IsSaidOf : List Row → Kind → Command → Type 0
IsSaidOf given k c = (kind_of c ≡ k) × IsSaid given c

-- where nothing of the kind is said, no command of it is
pub none_said : (given : List Row) (k : Kind) → ((x : Content k) → ¬ IsSaid given (made k x)) → (c : Command) → ¬ IsSaidOf given k c
none_said given k none c said =
    let none_of : (x : Content (kind_of c)) → ¬ IsSaid given (made (kind_of c) x) =
    subst (λ (j : Kind). (x : Content j) → ¬ IsSaid given (made j x)) (sym said.0) none in
    let is = is_made c in none_of is.0 (subst (λ (d : Command). IsSaid given d) (sym is.1) said.1)

-- ---- one command

pub number_same : (m n : ℕ) (word : Option (List ℕ)) → m < 10 ^ 64 → n < 10 ^ 64 → word ≡ Some (decimal m) → word ≡ Some (decimal n) → m ≡ n
number_same m n word few small is its =
    one_number m n few small (ap (λ (told : Option (List ℕ)). unwrap_or told []) (sym is ∙ its))

some_same : {T : Type 0} (x y : T) (told : Option T) → told ≡ Some x → told ≡ Some y → x ≡ y
some_same x y told is its = ap (λ (o : Option _). unwrap_or o x) (sym is ∙ its)

flag_same : (a b : Bool) (P : Type 0) → IsTrue a ↔ P → IsTrue b ↔ P → a ≡ b
flag_same true true P is its = refl
flag_same false false P is its = refl
flag_same true false P is its = let bad = its.1 (is.0 refl) in absurd (cc)
flag_same false true P is its = let bad = is.1 (its.0 refl) in absurd (cc)

-- what is said is one thing
once : (given : List Row) (k : Kind) (x y : Content k) → IsSaid given (made k x) → IsSaid given (made k y) → x ≡ y
once given kind.Cut x y is its =
    let penalty = number_same x.penalty y.penalty _ (omega (arith, is.1.0)) (omega (arith, its.1.0)) is.0.0 its.0.0 in
    let least = number_once 1 (value_in given (codes "least")) x.least y.least is.1.2 its.1.2 is.0.1 its.0.1 in
    let absolute = flag_same x.absolute y.absolute (HasFlag given (codes "absolute")) is.0.2 its.0.2 in
    λ i. record { penalty = penalty i; least = least i; absolute = absolute i }
once given kind.Apply x y is its = sym is.0 ∙ its.0
once given kind.Gen x y is its = number_same x y _ (omega (arith, is.1)) (omega (arith, its.1)) is.0 its.0
once given kind.Trial x y is its = number_same x y _ (omega (arith, is.1)) (omega (arith, its.1)) is.0 its.0
once given kind.Play x y is its = plan_once given x y is.0 is.1 its.0 its.1
once given kind.Path x y is its =
    let low = number_same x.low y.low _ (omega (arith, is.1.0, is.1.1)) (omega (arith, its.1.0, its.1.1)) is.0.0 its.0.0 in
    let high = number_same x.high y.high _ (omega (arith, is.1.1)) (omega (arith, its.1.1)) is.0.1 its.0.1 in
    λ i. record { low = low i; high = high i }
once given kind.Hunt x y is its =
    let width = number_same x.width y.width _ (omega (arith, is.1.1)) (omega (arith, its.1.1)) is.0.0 its.0.0 in
    let test = some_same x.test y.test _ is.0.1 its.0.1 in
    λ i. record { width = width i; test = test i }
once given kind.Audit x y is its =
    let journal = some_same x.journal y.journal _ is.0.0 its.0.0 in
    let scripts = sym is.0.1 ∙ its.0.1 in
    λ i. record { journal = journal i; scripts = scripts i }

-- commands of one kind that are said are one
one_said : (given : List Row) (j k : Kind) → j ≡ k → (x : Content j) (y : Content k) → IsSaid given (made j x) → IsSaid given (made k y) → made j x ≡ made k y
one_said given j k same = subst (λ (l : Kind). (x : Content j) (y : Content l) → IsSaid given (made j x) → IsSaid given (made l y) → made j x ≡ made l y) same
    (λ x y is its. ap (made j) (once given j x y is its))

said_once : (given : List Row) (one other : Command) → kind_of one ≡ kind_of other → IsSaid given one → IsSaid given other → one ≡ other
said_once given one other same is its =
    let x = is_made one in let y = is_made other in
    sym x.1 ∙ one_said given (kind_of one) (kind_of other) same x.0 y.0
    (subst (λ (d : Command). IsSaid given d) (sym x.1) is) (subst (λ (d : Command). IsSaid given d) (sym y.1) its) ∙ y.1

-- ---- the words

first_same : (a b : List ℕ) (rest more : List (List ℕ)) → a ∷ rest ≡ b ∷ more → a ≡ b
first_same a b rest more same = cc

rest_same : (a b : List ℕ) (rest more : List (List ℕ)) → a ∷ rest ≡ b ∷ more → rest ≡ more
rest_same a b rest more same = cc

pub one_command : AreOneCommand
one_command words one other is its =
    let whole : name_of (kind_of one) ∷ is.rest ≡ name_of (kind_of other) ∷ its.rest = sym is.named ∙ its.named in
    let same = same_kind (kind_of one) (kind_of other) (first_same (name_of (kind_of one)) (name_of (kind_of other)) is.rest its.rest whole) in
    let rest = rest_same (name_of (kind_of one)) (name_of (kind_of other)) is.rest its.rest whole in
    let gives : Gives (app_for (kind_of other)) its.rest is.given =
    subst (λ (k : Kind). Gives (app_for k) its.rest is.given) same (subst (λ (w : List (List ℕ)). Gives (app_for (kind_of one)) w is.given) rest is.gives) in
    let given : is.given ≡ its.given = sym gives.matches ∙ its.gives.matches in
    said_once its.given one other same (subst (λ (rows : List Row). IsSaid rows one) given is.said) its.said

-- no words are no command
pub none_empty : AreNoCommand []
none_empty command is = absurd (cc)

-- nor are words with another name
pub none_named : (name : List ℕ) (rest : List (List ℕ)) → ((k : Kind) → ¬ (name_of k ≡ name)) → AreNoCommand (name ∷ rest)
none_named name rest none command is = none (kind_of command) (sym (first_same name (name_of (kind_of command)) rest is.rest is.named))

-- a command that the words are is of the kind that their name has, and said by what they give
spelled_of : (name : List ℕ) (rest : List (List ℕ)) (k : Kind) → name_of k ≡ name → (command : Command) → IsSpelled (name ∷ rest) command
    → (kind_of command ≡ k) × (given : List Row) × Gives (app_for k) rest given × IsSaid given command
spelled_of name rest k named command is =
    let same : kind_of command ≡ k =
    same_kind (kind_of command) k (sym (first_same name (name_of (kind_of command)) rest is.rest is.named) ∙ sym named) in
    let behind = rest_same name (name_of (kind_of command)) rest is.rest is.named in (
      same,
      is.given,
      subst (λ (j : Kind). Gives (app_for j) rest is.given) same (subst (λ (w : List (List ℕ)). Gives (app_for (kind_of command)) w is.given) (sym behind) is.gives),
      is.said,
    )

-- nor words that its simple command doesn't take
pub none_given : (name : List ℕ) (rest : List (List ℕ)) (k : Kind) → name_of k ≡ name → ((given : List Row) → ¬ Gives (app_for k) rest given)
    → AreNoCommand (name ∷ rest)
none_given name rest k named none command is =
    let of = spelled_of name rest k named command is in none of.1 of.2

-- what is said is what is spelled
pub spelled : (name : List ℕ) (rest : List (List ℕ)) (k : Kind) (given : List Row) → name_of k ≡ name → Gives (app_for k) rest given
    → (told : Option Command) → Finds (IsSaidOf given k) told → Finds (IsSpelled (name ∷ rest)) told
spelled name rest k given named gives (Some command) said = record {
  rest = rest;
  named = ap (λ (n : List ℕ). n ∷ rest) (sym named ∙ ap name_of (sym said.0));
  given = given;
  gives = subst (λ (j : Kind). Gives (app_for j) rest given) (sym said.0) gives;
  said = said.1;
}
spelled name rest k given named gives None none = λ (command : Command) (is : IsSpelled (name ∷ rest) command).
    let of = spelled_of name rest k named command is in
    let same : of.1 ≡ given = sym of.2.matches ∙ gives.matches in
    none command (of.0, subst (λ (rows : List Row). IsSaid rows command) same of.3)

-- ---- what the code says of the words

-- where nothing of the one kind is said
pub none_of : (given : List Row) (k j : Kind) → k ≡ j → ((x : Content j) → ¬ IsSaid given (made j x)) → (c : Command) → ¬ IsSaidOf given k c
none_of given k j same none = subst (λ (l : Kind). (c : Command) → ¬ IsSaidOf given l c) (sym same) (none_said given j none)

pub none_words : {A : Type 0} (words : List (String A)) → length words ≡ 0 → AreNoCommand (texts words)
none_words [] none = none_empty
none_words (x ∷ words) none = absurd (omega (arith, none))

pub not_named : {A : Type 0} (words : List (String A)) (first : String A) (rest : List (String A)) (name : List ℕ) → words ≡ first ∷ rest → name ≡ string_bytes first
    → ((k : Kind) → ¬ (name_of k ≡ name)) → AreNoCommand (texts words)
not_named {A} words first rest name is same none = subst (λ (ws : List (String A)). AreNoCommand (texts ws)) (sym is)
    (none_named (string_bytes first) (texts rest) (λ k named. none k (named ∙ sym same)))

pub not_given : {A : Type 0} (words : List (String A)) (first : String A) (rest : List (String A)) (name : List ℕ) (k : Kind) → words ≡ first ∷ rest → name ≡ string_bytes first
    → name_of k ≡ name → ((given : List Row) → ¬ Gives (app_for k) (texts rest) given) → AreNoCommand (texts words)
not_given {A} words first rest name k is same named none = subst (λ (ws : List (String A)). AreNoCommand (texts ws)) (sym is)
    (none_given (string_bytes first) (texts rest) k (named ∙ same) none)

pub told_spelled : {A E : Type 0} (words : List (String A)) (first : String A) (rest : List (String A)) (name : List ℕ) (k : Kind) (given : List Row) → words ≡ first ∷ rest
    → name ≡ string_bytes first → name_of k ≡ name → Gives (app_for k) (texts rest) given → (told : Result (Option Command) E) → IfOk told (Finds (IsSaidOf given k))
    → IfOk told (Finds (IsSpelled (texts words)))
told_spelled {A} words first rest name k given is same named gives (Ok told) said = subst (λ (ws : List (String A)). Finds (IsSpelled (texts ws)) told) (sym is)
    (spelled (string_bytes first) (texts rest) k given (named ∙ same) gives told said)
told_spelled words first rest name k given is same named gives (Err e) said = tt

pub some_told : {E : Type 0} (P : Command → Type 0) (told : Result (Option Command) E) → IfOk told (Finds P) → IfOk told (λ o. IfSome o P)
some_told P (Ok (Some x)) is = is
some_told P (Ok None) is = tt
some_told P (Err e) is = tt

pub none_told : {E : Type 0} (P : Command → Type 0) (told : Result (Option Command) E) → IfOk told (Finds P) → IfOk told (λ o. IfNone o ((x : Command) → ¬ P x))
none_told P (Ok (Some x)) is = tt
none_told P (Ok None) is = is
none_told P (Err e) is = tt
