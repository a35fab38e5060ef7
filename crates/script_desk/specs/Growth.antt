-- What a session leaves of the tracks that it began with.
use Rattle.std.specs.{Prelude.{◌≡◌, ℕ, ◌≤◌, true, false, List, [], ◌∷◌, ◌++◌, length, map}, List.AllByRecursion}
use Rattle.metric_table.specs.{Limits.most, declared.limits.Limit.TheVariants.Machines}
use Rattle.request_model.specs.declared.replies.Reply.{Reply}
use Rattle.request_words.specs.Bodies.{Item}
use Rattle.history_model.specs.declared.entries.{Author.Author, Placed.Placed}
use Rattle.track_model.specs.Tracks.{Track}
use Rattle.keep_rows.specs.{Growth.GoOn, Kept.{kept_of, AreKept}, Loading.{Stored, LeadTo}, Rows.{is_of_session, new_rows, session_rows, version_after}}
pub use Rattle.keep_rows.specs.Machines.{IsOther, AreDifferent, names_of}
use Rattle.script_desk.specs.Sessions.{State, AnswersFor}
use Rattle.script_loop.specs.Folds.{AreAnswers}

abbrev pub AreBy : Author → List Placed → Type 0
AreBy author entries = AllByRecursion (λ (p : Placed). p.author ≡ author) entries

-- the same machine, with entries of the author more
pub record Continues (author : Author) (old new : Track) : Type 0 where
  pub machine : new.machine ≡ old.machine
  pub kept : new.kept ≡ old.kept
  pub added : List Placed
  pub history : new.history ≡ old.history ++ added
  pub by : AreBy author added

-- a machine that the store had not
abbrev pub IsNew : Author → Track → Type 0
IsNew author t = (t.kept ≡ false) × AreBy author t.history

-- the tracks go on in their order, and behind them come new ones
abbrev pub Grows : Author → List Track → List Track → Type 0
Grows author [] new = AllByRecursion (IsNew author) new
Grows author (t ∷ old) [] = ⊥
Grows author (t ∷ old) (u ∷ new) = Continues author t u × Grows author old new

-- the tracks grow, and stay of different machines, and few
pub record Stays (author : Author) (old new : List Track) : Type 0 where
  pub grows : Grows author old new
  pub different : AreDifferent (names_of old) → AreDifferent (names_of new)
  pub few : length old ≤ most Machines → length new ≤ most Machines

-- so does answering items leave them
abbrev pub SessionsStay : Type 0
SessionsStay =
    (before after : State) (items : List Item) (replies : List Reply)
    → AreAnswers AnswersFor before items replies after
    → Stays before.author before.tracks after.tracks

-- kept machines that grow by entries of one of this session go on from what they were
abbrev pub SessionsGoOn : Type 0
SessionsGoOn =
    (author : Author) (old new : List Track) → is_of_session author ≡ true → AreKept old
    → Grows author old new → GoOn old new

-- what a store has of these machines as they are kept, once their new rows stand behind others of a version
abbrev pub stored_after : ℕ → List Track → Stored
stored_after version tracks =
    record { machines = map kept_of tracks; version = version_after version (session_rows tracks) }

-- what a session leaves comes back: rows that led to the machines that it began with, and the new
-- rows of those that it left, lead to each of the latter as it is kept, where its entries are of
-- one of this session
abbrev pub ComesBack : State → Type 0
ComesBack after =
    (rows : List (List ℕ)) (version : ℕ) (before : State) (items : List Item) (replies : List Reply)
    → is_of_session before.author ≡ true
    → LeadTo rows (record { machines = before.tracks; version = version })
    → AreAnswers AnswersFor before items replies after
    → LeadTo (rows ++ new_rows version after.tracks) (stored_after version after.tracks)
