-- The verdict on the files of a shared run, and why there is none.
use Rattle.std.specs.Prelude.{◌≡◌, ◌⊎◌, ℕ, ◌+◌, ◌-◌, ◌<◌, List, [], ◌∷◌, length, map, slice_get, sum_by, true, Some}
use Rattle.std.specs.FinSet as set
use Rattle.track_model.specs.Tracks.{Track}
use Rattle.request_words.specs.Bodies.{Item}
use Rattle.request_reader.specs.Scripts.{IsScript, Ending, cut_off}
use Rattle.play_fits.specs.Scripts.{Exchange}
use Rattle.journal_reader.specs.{Journals.{Journal, IsTextOf}, Reading.IsRefusedAt as IsRefusedLine}
use Rattle.audit_model.specs.{Heard.{IsTold, IsRefusedAt, IsUnaskedAt, AreHeard}, declared.heard.Heard.Heard, declared.verdict.Verdict.Verdict}
use Rattle.audit_model.specs.declared.verdict.Verdict.TheVariants as verdict

-- a machine with its journal, as a store would have it
abbrev pub track_of : Journal → Track
track_of j = record { machine = j.machine; kept = true; history = j.history; home = set.empty }

-- the journal's bytes are those of these machines, beside so many scripts
pub record AreOf (bytes : List ℕ) (heard : List Heard) (journals : List Track) : Type 0 where
  pub read : List Journal
  pub text : IsTextOf (length heard) bytes read
  pub tracks : journals ≡ map track_of read

-- how many requests a script has
pub record Asks (heard : Heard) (count : ℕ) : Type 0 where
  pub items : List Item
  pub ending : Ending
  pub script : IsScript heard.script items ending
  pub counted : count ≡ length items

-- and how many scripts have together
abbrev pub AskTogether : List Heard → ℕ → Type 0
AskTogether [] count = count ≡ 0
AskTogether (x ∷ xs) count = (some : ℕ) × (more : ℕ) × Asks x some × AskTogether xs more × (count ≡ some + more)

-- The files fit together: the journals are whole, each script was told what they give, and asked for each entry of its own.
pub record AreShown (bytes : List ℕ) (heard : List Heard) (machines steps requests : ℕ) : Type 0 where
  pub journals : List Track
  pub are : AreOf bytes heard journals
  pub told : AreHeard journals heard
  pub machines_are : machines ≡ length journals
  pub steps_are : steps ≡ sum_by (λ (t : Track). length t.history) journals
  pub asked : AskTogether heard requests

-- an entry of the journals that no request asked for, where each script was told well
pub record IsUnaskedLine (bytes : List ℕ) (heard : List Heard) (l : ℕ) : Type 0 where
  pub journals : List Track
  pub are : AreOf bytes heard journals
  pub unasked : IsUnaskedAt journals heard l

-- the first request of the first script whose reply is refused
pub record IsRefusedRequest (bytes : List ℕ) (heard : List Heard) (script request : ℕ) : Type 0 where
  pub journals : List Track
  pub are : AreOf bytes heard journals
  pub some : 0 < script
  pub before : (i : ℕ) (x : Heard) → i + 1 < script → slice_get heard i ≡ Some x
      → (exchanges : List Exchange) × IsTold journals (i + 1) x exchanges
  pub refused_of : Heard
  pub here : slice_get heard (script - 1) ≡ Some refused_of
  pub refused : IsRefusedAt journals script refused_of request

-- the verdict on files, in the order of its parts: the journals' text, the replies, the entries
abbrev pub IsVerdict : List ℕ → List Heard → Verdict → Type 0
IsVerdict bytes heard (verdict.Shown machines steps requests) = AreShown bytes heard machines steps requests
IsVerdict bytes heard (verdict.JournalLine l) =
    IsRefusedLine (length heard) bytes l ⊎ IsUnaskedLine bytes heard l
IsVerdict bytes heard (verdict.Request script request) = IsRefusedRequest bytes heard script request

-- the script of this number is the first that is cut off, at this place
pub record IsCutOff (heard : List Heard) (script offset : ℕ) : Type 0 where
  pub some : 0 < script
  pub cut : Heard
  pub here : slice_get heard (script - 1) ≡ Some cut
  pub items : List Item
  pub reads : IsScript cut.script items (cut_off offset)
  pub first : (i : ℕ) (x : Heard) → i + 1 < script → slice_get heard i ≡ Some x
      → (others : List Item) (at : ℕ) → ¬ IsScript x.script others (cut_off at)

-- no script is
pub record NoneCutOff (heard : List Heard) : Type 0 where
  pub each : (i : ℕ) (x : Heard) → slice_get heard i ≡ Some x → (items : List Item) (offset : ℕ) → ¬ IsScript x.script items (cut_off offset)
