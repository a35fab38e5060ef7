-- Kept machines that a session leaves go on from what they were, and come back.
use Rattle.std.{proofs.Common.{◌≡◌, true, List, [], ◌∷◌, ap, ◌∙◌}, specs.List.AllByRecursion}
use Rattle.history_model.specs.declared.entries.{Author.Author, Placed.Placed}
use Rattle.track_model.specs.Tracks.{Track}
use Rattle.keep_rows.specs.{Growth.{AreOfSession, GoOn, IsNewTrack, MayBeKept}, Kept.{kept_of, AreKept}, Laws.{KeptComesBack, LoadedAreKept}, Loading.Stored}
use Rattle.keep_rows.specs.Rows.{is_of_session}
use Rattle.script_desk.{specs.Growth.{AreBy, ComesBack, IsNew, Grows, SessionsGoOn, Stays}, specs.Sessions.State, proofs.Growing.sessions_stay}

made_by : (author : Author) → is_of_session author ≡ true → (entries : List Placed) → AreBy author entries → AreOfSession entries
made_by author is [] by = tt
made_by author is (p ∷ entries) by = (ap is_of_session by.0 ∙ is, made_by author is entries by.1)

new_ones : (author : Author) → is_of_session author ≡ true → (new : List Track) → AllByRecursion (IsNew author) new → AllByRecursion IsNewTrack new
new_ones author is [] all = tt
new_ones author is (t ∷ new) all = ((all.0.0, made_by author is t.history all.0.1), new_ones author is new all.1)

go_on : (author : Author) → is_of_session author ≡ true → (old new : List Track) → AllByRecursion (λ (t : Track). t ≡ kept_of t) old → Grows author old new → GoOn old new
go_on author is [] new are grows = new_ones author is new grows
go_on author is (t ∷ old) [] are grows = absurd grows
go_on author is (t ∷ old) (u ∷ new) are grows = (
  record {
    machine = grows.0.machine;
    kept = grows.0.kept ∙ ap (λ (x : Track). x.kept) are.0;
    added = grows.0.added;
    history = grows.0.history;
    made = made_by author is grows.0.added grows.0.by;
  },
  go_on author is old new are.1 grows.1,
)

pub sessions_go_on : SessionsGoOn
sessions_go_on author old new is are grows = go_on author is old new are.kept grows

pub kept_come_back : (after : State) → KeptComesBack → LoadedAreKept → AllByRecursion MayBeKept after.tracks → ComesBack after
kept_come_back after back loaded may rows version before items replies is led answers =
    let stored : Stored = record { machines = before.tracks; version = version } in
    let are : AreKept before.tracks = loaded rows stored led in
    let stays : Stays before.author before.tracks after.tracks = sessions_stay before after items replies answers in
    back rows stored after.tracks led (record {
      go_on = go_on before.author is before.tracks after.tracks are.kept stays.grows;
      may = may;
      different = stays.different are.different;
      few = stays.few are.few;
    })
