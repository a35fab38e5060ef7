-- Whether a request added an entry, by its form and by its answer, and where the text of a reply tells it.
use Rattle.std.specs.Prelude.{◌≡◌, ℕ, Bool, true, false, ◌||◌, ◌==◌, List, ◌∷◌, ◌++◌, decimal}
use Rattle.request_model.specs.declared.{requests.Request.Request, replies.Answer.Answer}
use Rattle.request_model.specs.declared.requests.Request.TheVariants as request
use Rattle.request_model.specs.declared.replies.Answer.TheVariants as answer

-- the request adds nothing, whatever its answer
abbrev pub asks_only : Request → Bool
asks_only (request.Changes machine test metric) = true
asks_only (request.Verify machine test metric) = true
asks_only (request.Job machine number) = true
asks_only (request.Runs machine) = true
asks_only (request.Report machine json) = true
asks_only q = false

-- the answer is one to a request that added nothing: a refusal, or what is said of what was there
abbrev pub tells_none : Answer → Bool
tells_none (answer.Refused reason) = true
tells_none (answer.Duplicate step) = true
tells_none a = false

-- the reply is one to a request that added nothing
abbrev pub adds_none : Request → Answer → Bool
adds_none q a = asks_only q || tells_none a

-- an answer's text begins with this byte: E for a refusal, d for a duplicate, and another for all others
abbrev pub tells_by_letter : ℕ → Bool
tells_by_letter n = (n == 69) || (n == 100)

-- the text names so many entries, and an answer that begins with this byte
pub record Names (text : List ℕ) (step : ℕ) (letter : ℕ) : Type 0 where
  pub more : List ℕ
  pub text_is : text ≡ 64 ∷ (decimal step ++ 32 ∷ letter ∷ more)
