-- What a request line asks before its body is read.
use Rattle.std.specs.{Prelude.{◌≡◌, ℕ, ◌≤◌, List, ◌∷◌, Option, Some, None, Ok, Err}, List.AllByRecursion}
use Rattle.line_text.specs.Lines.{words_of}
use Rattle.request_words.specs.declared.head.{Head.Head, Head.TheVariants.{Refused, Asked, Go, Lnt}, LineFault.LineFault}
use Rattle.request_words.specs.{declared.head.LineFault.TheVariants.{BadRequest, BadName, BadPenalty, BadLength, BodyTooLong}, Forms.SpellsName}
use Rattle.request_model.specs.declared.replies.Refusal.{Refusal}
use Rattle.request_model.specs.declared.replies.Refusal.TheVariants as refusal
use Rattle.request_words.specs.{Bodies.{Item, of_go, AsksGo, of_lnt, AsksLnt}, Items.{Asks, Counts, body_limit}}

-- whatever its body, the line asks this, and so many bytes belong to it
pub record IsHeadOf (line : List ℕ) (count : ℕ) (OfBody : List ℕ → Item → Type 0) : Type 0 where
  pub counted : Counts line count
  pub asks : (body : List ℕ) (item : Item) → OfBody body item → Asks line body item

-- the refusal that a fault of a line is
abbrev pub line_refusal : LineFault → Refusal
line_refusal BadRequest = refusal.BadRequest
line_refusal BadName = refusal.BadName
line_refusal BadPenalty = refusal.BadPenalty
line_refusal BadLength = refusal.BadLength
line_refusal BodyTooLong = refusal.BodyTooLong

-- what the line asks as soon as its body is there
abbrev pub IsHead : List ℕ → Head → Type 0
IsHead line (Refused fault count) = IsHeadOf line count (λ body item. item ≡ Err (line_refusal fault))
IsHead line (Asked q) = IsHeadOf line 0 (λ body item. item ≡ Ok q)
IsHead line (Go m c r len) =
    (len ≤ body_limit) × IsHeadOf line len (λ body item. AsksGo body (of_go m c r) item)
IsHead line (Lnt m r len) =
    (len ≤ body_limit) × IsHeadOf line len (λ body item. AsksLnt body (of_lnt m r) item)

-- the same of each line that has this word in front of the words
abbrev pub IsHeadBehind : List ℕ → List (List ℕ) → Head → Type 0
IsHeadBehind verb words head = (line : List ℕ) → words_of line ≡ verb ∷ words → IsHead line head

-- the words spell names
abbrev pub AreNames : List (List ℕ) → Type 0
AreNames words = AllByRecursion SpellsName words

-- something is found exactly where this holds
abbrev pub IsFoundIf : {A : Type 0} → Option A → Type 0 → Type 0
IsFoundIf None P = ¬ P
IsFoundIf (Some x) P = P
