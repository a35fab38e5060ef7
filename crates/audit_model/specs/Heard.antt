-- What a script was told, by the journals: its transcript has the replies to its requests, and its entries are theirs.
use Rattle.std.specs.Prelude.{◌≡◌, ◌⊎◌, ℕ, ◌+◌, ◌<◌, List, ◌++◌, filter, length, map, slice_get, sum_by, take, Bool, true, false, Some}
use Rattle.std.specs.FinSet as set
use Rattle.history_model.specs.declared.entries.{Author.Author, Placed.Placed}
use Rattle.history_model.specs.declared.entries.Author.TheVariants as author
use Rattle.track_model.specs.Tracks.{Track}
use Rattle.request_words.specs.Bodies.{Item}
use Rattle.request_reader.specs.Scripts.{IsScript, end}
use Rattle.play_fits.specs.{Fits.kept_in, Journals.{machines_of, history_in}, Scripts.{Exchange, items_of, replies_text, AreAnswered, AreItsOwn, IsAdded}}
use Rattle.audit_model.specs.declared.heard.Heard.{Heard}

-- a store kept it
abbrev pub is_of_store : Placed → Bool
is_of_store p = by_author p.author
  where
    by_author : Author → Bool
    by_author author.Kept = true
    by_author other = false

-- a machine as the run found it: the entries that a store kept
abbrev pub found : Track → Track
found t = record {
  machine = t.machine;
  kept = t.kept;
  history = filter is_of_store t.history;
  home = set.empty;
}

-- how many entries of a machine a store kept
abbrev pub kept_count : List Track → List ℕ → ℕ
kept_count journals machine = kept_in (map found journals) machine

-- the replies to these requests of the script of that number are those that the journals give
abbrev pub AreGiven : List Track → ℕ → List Exchange → Type 0
AreGiven journals i exchanges =
    AreAnswered (author.Script i) (machines_of journals) (history_in journals)
    (kept_count journals) exchanges

-- the entries of the journals that are the script's were added by these requests of it
abbrev pub AreAsked : List Track → ℕ → List Exchange → Type 0
AreAsked journals i exchanges =
    AreItsOwn (author.Script i) (machines_of journals) (history_in journals)
    (kept_count journals) exchanges

-- the transcript has the replies to all requests of the script, in order, and nothing else
pub record IsTold (journals : List Track) (i : ℕ) (heard : Heard) (exchanges : List Exchange)
    : Type 0 where
  pub script : IsScript heard.script (items_of exchanges) end
  pub replies : heard.transcript ≡ replies_text exchanges
  pub given : AreGiven journals i exchanges

-- the scripts with their transcripts: each was told so, from number 1 on, and no entry is a script's that it didn't ask for
pub record IsHeard (journals : List Track) (i : ℕ) (heard : Heard) : Type 0 where
  pub exchanges : List Exchange
  pub told : IsTold journals i heard exchanges
  pub asked : AreAsked journals i exchanges

abbrev pub AreHeard : List Track → List Heard → Type 0
AreHeard journals heard =
    (i : ℕ) (x : Heard) → slice_get heard i ≡ Some x → IsHeard journals (i + 1) x

-- ---- the first request that is refused

-- the transcript begins with replies to so many first requests, as the journals give them
pub record BeginsWell (journals : List Track) (i : ℕ) (heard : Heard) (items : List Item)
    (count : ℕ) : Type 0 where
  pub exchanges : List Exchange
  pub asks : items_of exchanges ≡ take count items
  pub rest : List ℕ
  pub replies : heard.transcript ≡ replies_text exchanges ++ rest
  pub given : AreGiven journals i exchanges

-- Request r, from 1, is the first of the script whose reply is refused, or one past the last where the transcript goes on:
-- the transcript begins well with the replies before it, and not with one more.
pub record IsRefusedAt (journals : List Track) (i : ℕ) (heard : Heard) (r : ℕ) : Type 0 where
  pub items : List Item
  pub script : IsScript heard.script items end
  pub before : ℕ
  pub number : r ≡ before + 1
  pub begins : BeginsWell journals i heard items before
  pub refused : (before < length items × ¬ BeginsWell journals i heard items (before + 1))
      ⊎ ((before ≡ length items)
      × ((exchanges : List Exchange) → ¬ IsTold journals i heard exchanges))

-- ---- the first entry that no request asked for

-- the line of the entry at a place of a journal, in the text of all journals
abbrev pub line_at : List Track → (at place : ℕ) → ℕ
line_at journals at place =
    sum_by (λ (t : Track). 1 + length t.history) (take at journals) + place + 2

-- the entry at a place of a journal is a script's
pub record IsOfScript (journals : List Track) (at place : ℕ) : Type 0 where
  pub track : Track
  pub entry : Placed
  pub script : ℕ
  pub here : slice_get journals at ≡ Some track
  pub there : slice_get track.history place ≡ Some entry
  pub its : entry.author ≡ author.Script script

-- it is, and no request of these exchanges added it
pub record IsUnasked (journals : List Track) (asked : ℕ → List Exchange) (at place : ℕ)
    : Type 0 where
  pub made : IsOfScript journals at place
  pub open made use *
  pub alone : ¬ IsAdded (author.Script script) track.machine (history_in journals track.machine)
      (kept_count journals track.machine) (asked script) place

-- Line l is the first of an entry that no request asked for, where each script was told well.
pub record IsUnaskedAt (journals : List Track) (heard : List Heard) (l : ℕ) : Type 0 where
  pub asked : ℕ → List Exchange
  pub told : (i : ℕ) (x : Heard) → slice_get heard i ≡ Some x
      → IsTold journals (i + 1) x (asked (i + 1))
  pub at : ℕ
  pub place : ℕ
  pub line : l ≡ line_at journals at place
  pub unasked : IsUnasked journals asked at place
  pub first : (m k : ℕ) → line_at journals m k < l → ¬ IsUnasked journals asked m k
