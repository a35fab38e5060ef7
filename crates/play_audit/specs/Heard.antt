-- No public contract cites this. What was heard of scripts by the journals.
use Rattle.std.specs.Prelude.{◌≡◌, ◌+◌, ◌-◌, ◌<◌, ℕ, Bool, List, [], ◌∷◌, ◌++◌, drop, length, slice_get, sum_by, Some, Vec, IfNone, IfOk, IfSome, Option, Result}
use Rattle.std.specs.declared.alloc.Global.{Global}
use Rattle.request_model.specs.declared.replies.Reply.{Reply}
use Rattle.request_words.specs.Bodies.{Item}
use Rattle.request_reader.specs.Scripts.{IsScript, end}
use Rattle.reply_text.specs.Replies.{text_of}
use Rattle.track_model.specs.Tracks.{Track}
use Rattle.journal_reader.specs.Journals.{Journal}
use Rattle.play_fits.specs.Scripts.{Exchange}
use Rattle.audit_model.specs.{Heard.{IsRefusedAt, IsTold, IsUnaskedAt, AreHeard}, Hearing.{HasHeard, HearsNext, HearsNone}, Verdicts.AskTogether}
use Rattle.audit_model.specs.declared.{heard.Heard.Heard, verdict.Verdict.Verdict}
use Rattle.audit_model.specs.declared.verdict.Verdict.TheVariants as verdict
use Rattle.play_audit.specs.{declared.place.Place.Place, Known.{AreKnown, AreSound, tracks_of}, Marks.{AreRows, MarksAll, MarksOne}}

-- the exchange that a reply makes of an item
abbrev pub exchange : Item → Reply → Exchange
exchange item reply = record { item = item; reply = reply }

-- the reply to the item behind these exchanges is the next of a transcript, and is known and marked
pub record HearsItem (js : List Journal) (i : ℕ) (xs : List Exchange) (item : Item)
    (transcript : List ℕ) (len : ℕ) (places : List Place) (old new : List (List Bool))
    : Type 0 where
  pub reply : Reply
  pub next : HearsNext (tracks_of js) i xs item transcript reply (drop len transcript)
  pub whole : len ≡ length (text_of reply)
  pub known : AreKnown js (xs ++ exchange item reply ∷ []) places
  pub marked : MarksOne (tracks_of js) i xs (exchange item reply) old new

-- scripts can be heard: their ways along the journals know what some exchanges told, and each journal has its marks
pub record CanHear (js : List Journal) (places : List Place) (marks : List (List Bool))
    : Type 0 where
  pub sound : AreSound js
  pub known : (xs : List Exchange) × AreKnown js xs places
  pub rows : AreRows (tracks_of js) marks

-- how long the reply to the next item is; none exactly where the journals give none that the transcript begins with
pub record Hears {E : Type 0} (js : List Journal) (i : ℕ) (item : Item) (transcript : List ℕ)
    (result : Result (Option ℕ) E) (places places' : List Place) (old new : List (List Bool))
    : Type 0 where
  pub some : IfOk result (λ o. IfSome o (λ len. (xs : List Exchange) → AreKnown js xs places
      → HearsItem js i xs item transcript len places' old new))
  pub none : IfOk result (λ o. IfNone o ((xs : List Exchange) → AreKnown js xs places
      → HearsNone (tracks_of js) i xs item transcript))

-- the transcript has the replies to all items, and nothing else
pub record HearsAll (js : List Journal) (i : ℕ) (items : List Item) (transcript : List ℕ)
    (old new : List (List Bool)) : Type 0 where
  pub exchanges : List Exchange
  pub heard : HasHeard (tracks_of js) i items transcript (length items) exchanges []
  pub marked : MarksAll (tracks_of js) i exchanges old new

-- the reply to an item is refused, in whatever script asks these alone
abbrev pub RefusesAt : List Journal → (i : ℕ) → List Item → List ℕ → (request : ℕ) → Type 0
RefusesAt js i items transcript request =
    (script : List ℕ) → IsScript script items end
    → ((others : List Item) → IsScript script others end → others ≡ items)
    → IsRefusedAt (tracks_of js) i (record { script = script; transcript = transcript }) request

-- ---- scripts

-- these are what the scripts ask
pub record AskThese (heard : List Heard) (asked : List (Vec Item Global)) : Type 0 where
  pub many : length asked ≡ length heard
  pub each : (i : ℕ) (x : Heard) (items : Vec Item Global) → slice_get heard i ≡ Some x
      → slice_get asked i ≡ Some items → IsScript x.script items.items end

-- the first request of the first script whose reply is refused
pub record IsRefusedBy (js : List Journal) (heard : List Heard) (script request : ℕ) : Type 0 where
  pub some : 0 < script
  pub before : (i : ℕ) (x : Heard) → i + 1 < script → slice_get heard i ≡ Some x
      → (exchanges : List Exchange) × IsTold (tracks_of js) (i + 1) x exchanges
  pub refused_of : Heard
  pub here : slice_get heard (script - 1) ≡ Some refused_of
  pub refused : IsRefusedAt (tracks_of js) script refused_of request

-- all fits
pub record IsShownBy (js : List Journal) (heard : List Heard) (machines steps requests : ℕ)
    : Type 0 where
  pub told : AreHeard (tracks_of js) heard
  pub machines_are : machines ≡ length (tracks_of js)
  pub steps_are : steps ≡ sum_by (λ (t : Track). length t.history) (tracks_of js)
  pub asked : AskTogether heard requests

-- the verdict on scripts by journals
abbrev pub IsVerdictBy : List Journal → List Heard → Verdict → Type 0
IsVerdictBy js heard (verdict.Shown machines steps requests) =
    IsShownBy js heard machines steps requests
IsVerdictBy js heard (verdict.JournalLine l) = IsUnaskedAt (tracks_of js) heard l
IsVerdictBy js heard (verdict.Request script request) = IsRefusedBy js heard script request
