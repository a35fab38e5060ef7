-- What a session leaves of the tracks that it began with.
use Rattle.std.proofs.Common.{◌≡◌, ℕ, ◌<◌, Bool, true, false, cond, List, [], ◌∷◌, ◌++◌, length, Option, None, Some, Ok, Err, refl, sym, ap, subst, ◌∙◌, arith, append_assoc, append-nil, length-append}
use Rattle.std.{specs.Prelude.{find, nat_eq, nat_le}, specs.List.AllByRecursion, proofs.lemmas.Bool.leb-false}
use Rattle.metric_table.specs.{Limits.most, declared.limits.Limit.TheVariants.Machines}
use Rattle.request_model.specs.{declared.requests.Request.Request, declared.replies.Reply.Reply, Requests.machine_of, declared.replies.Answer.Answer}
use Rattle.request_model.specs.declared.requests.Request.TheVariants as request
use Rattle.request_model.specs.declared.replies.Refusal.TheVariants as refusal
use Rattle.request_model.specs.declared.replies.Answer.TheVariants as answer
use Rattle.request_words.specs.Bodies.{Item}
use Rattle.history_model.specs.{declared.entries.Author.Author, declared.entries.Entry.Entry, declared.entries.Placed.Placed, Runs.Series}
use Rattle.track_model.specs.{Outcomes.{Outcome, tells, refuses}, Replies.apart}
use Rattle.std.specs.FinSet as set
use Rattle.track_model.specs.Tracks.{Track, base_of, with_added, with_answered, with_home, with_segmented, with_taken}
use Rattle.script_desk.specs.Sessions.{Answered, is_track, changed, untouched, new_track, added, unknown, AnswersAbout, Answers, State, AnswersFor}
use Rattle.script_loop.specs.Folds.{AnswersItem}
use Rattle.keep_rows.proofs.Among.{different_last, changed_names, changed_length}
use Rattle.script_desk.specs.Growth.{AreBy, Continues, IsNew, Grows, AreDifferent, Stays, SessionsStay}

by_join : (author : Author) (xs ys : List Placed) → AreBy author xs → AreBy author ys → AreBy author (xs ++ ys)
by_join author [] ys one two = two
by_join author (x ∷ xs) ys one two = (one.0, by_join author xs ys one.1 two)

module _ (author : Author) where
  continues_same : (t : Track) → Continues author t t
  continues_same t = record { machine = refl; kept = refl; added = []; history = sym (append-nil t.history); by = tt }

  continues_on : (t u v : Track) → Continues author t u → Continues author u v → Continues author t v
  continues_on t u v one two = record {
    machine = two.machine ∙ one.machine;
    kept = two.kept ∙ one.kept;
    added = one.added ++ two.added;
    history = two.history ∙ ap (λ h. h ++ two.added) one.history ∙ append_assoc t.history one.added two.added;
    by = by_join author one.added two.added one.by two.by;
  }

  new_on : (u v : Track) → IsNew author u → Continues author u v → IsNew author v
  new_on u v one two = (two.kept ∙ one.0, subst (AreBy author) (sym two.history) (by_join author u.history two.added one.1 two.by))

  grows_same : (tracks : List Track) → Grows author tracks tracks
  grows_same [] = tt
  grows_same (t ∷ tracks) = (continues_same t, grows_same tracks)

  all_new : (tracks more : List Track) → AllByRecursion (IsNew author) tracks → Grows author tracks more → AllByRecursion (IsNew author) more
  all_new [] more one two = two
  all_new (t ∷ tracks) [] one two = tt
  all_new (t ∷ tracks) (u ∷ more) one two = (new_on t u one.0 two.0, all_new tracks more one.1 two.1)

  grows_on : (a b c : List Track) → Grows author a b → Grows author b c → Grows author a c
  grows_on [] b c one two = all_new b c one two
  grows_on (t ∷ a) [] c one two = absurd one
  grows_on (t ∷ a) (u ∷ b) [] one two = absurd two
  grows_on (t ∷ a) (u ∷ b) (v ∷ c) one two = (continues_on t u v one.0 two.0, grows_on a b c one.1 two.1)

  added_continues : (t : Track) (adds : Option Entry) → Continues author t (with_added author t adds)
  added_continues t None = continues_same t
  added_continues t (Some e) = record { machine = refl; kept = refl; added = record { author = author; entry = e } ∷ []; history = refl; by = (refl, tt) }

  taken_continues : (t : Track) (s : Series) → Continues author t (with_taken s t)
  taken_continues t s = by (nat_eq (base_of t s) 0)
    where
      by : (b : Bool) → Continues author t (cond b t (with_home (set.remove t.home s) t))
      by true = continues_same t
      by false = record { machine = refl; kept = refl; added = []; history = sym (append-nil t.history); by = tt }

  segmented_continues : (t : Track) (s : Series) (answer : Answer) (adds : Option Entry) → Continues author t (with_segmented author s t (record { answer = answer; adds = adds }))
  segmented_continues t s answer None = taken_continues t s
  segmented_continues t s answer (Some e) = record { machine = refl; kept = refl; added = record { author = author; entry = e } ∷ []; history = refl; by = (refl, tt) }

  answered_continues : (q : Request) (o : Outcome) (t : Track) → Continues author t (with_answered author q t o)
  answered_continues (request.Machine machine) o t = added_continues t o.adds
  answered_continues (request.Commit machine number name) o t = added_continues t o.adds
  answered_continues (request.Submit machine commit run samples ignored stated) o t = added_continues t o.adds
  answered_continues (request.Retract machine run) o t = added_continues t o.adds
  answered_continues (request.Tune machine metric penalty given) o t = added_continues t o.adds
  answered_continues (request.Calibrate machine test metric factor) o t = added_continues t o.adds
  answered_continues (request.Segment machine test metric) o t = segmented_continues t (record { test = test; metric = metric }) o.answer o.adds
  answered_continues (request.Changes machine test metric) o t = added_continues t o.adds
  answered_continues (request.Verify machine test metric) o t = added_continues t o.adds
  answered_continues (request.Regress machine test metric change) o t = added_continues t o.adds
  answered_continues (request.SetState machine number state) o t = added_continues t o.adds
  answered_continues (request.Bisect machine lo hi) o t = added_continues t o.adds
  answered_continues (request.Answer machine number commit status) o t = added_continues t o.adds
  answered_continues (request.Resume machine number) o t = added_continues t o.adds
  answered_continues (request.Job machine number) o t = added_continues t o.adds
  answered_continues (request.Runs machine) o t = added_continues t o.adds
  answered_continues (request.Report machine json) o t = added_continues t o.adds

  -- ---- a machine's track with what a request makes of it
  module _ (machine : List ℕ) (change : Track → Track) (continues : (t : Track) → Continues author t (change t)) where
    changed_grows : (tracks : List Track) → Grows author tracks (changed machine change tracks)
    changed_grows [] = tt
    changed_grows (t ∷ tracks) = by (is_track machine t) (changed_grows tracks)
      where
        by : (b : Bool) → Grows author tracks (changed machine change tracks) → Grows author (t ∷ tracks) (cond b (change t ∷ tracks) (t ∷ changed machine change tracks))
        by true rest = (continues t, grows_same tracks)
        by false rest = (continues_same t, rest)

    changed_stays : (tracks : List Track) → Stays author tracks (changed machine change tracks)
    changed_stays tracks = record {
      grows = changed_grows tracks;
      different = λ d. subst AreDifferent (sym (changed_names machine change (λ t. (continues t).machine) tracks)) d;
      few = λ f. omega (arith, f, changed_length machine change tracks);
    }

  stays_same : (tracks : List Track) → Stays author tracks tracks
  stays_same tracks = record { grows = grows_same tracks; different = λ d. d; few = λ f. f }

  stays_on : (a b c : List Track) → Stays author a b → Stays author b c → Stays author a c
  stays_on a b c one two = record { grows = grows_on a b c one.grows two.grows; different = λ d. two.different (one.different d); few = λ f. two.few (one.few f) }

  -- ---- a machine more
  push_grows : (machine : List ℕ) (tracks : List Track) → Grows author tracks (tracks ++ new_track machine ∷ [])
  push_grows machine [] = ((refl, tt), tt)
  push_grows machine (t ∷ tracks) = (continues_same t, push_grows machine tracks)

  added_stays : (machine : List ℕ) (tracks : List Track) → find (is_track machine) tracks ≡ None → Stays author tracks (added tracks machine).tracks
  added_stays machine tracks none = by (nat_le (most Machines) (length tracks)) refl
    where
      by : (b : Bool) → nat_le (most Machines) (length tracks) ≡ b
          → Stays author tracks (cond b (untouched tracks (refuses (refusal.Full Machines))) (record { reply = apart (tells (answer.Machine machine)); tracks = tracks ++ new_track machine ∷ [] })).tracks
      by true is = stays_same tracks
      by false is = record {
        grows = push_grows machine tracks;
        different = different_last (new_track machine) tracks none;
        few = λ f. let less : length tracks < most Machines = leb-false (most Machines) (length tracks) is in omega (arith, less, length-append tracks (new_track machine ∷ []));
      }

  unknown_stays : (tracks : List Track) (q : Request) → find (is_track (machine_of q)) tracks ≡ None → Stays author tracks (unknown tracks q).tracks
  unknown_stays tracks (request.Machine machine) none = added_stays machine tracks none
  unknown_stays tracks (request.Commit machine number name) none = stays_same tracks
  unknown_stays tracks (request.Submit machine commit run samples ignored stated) none = stays_same tracks
  unknown_stays tracks (request.Retract machine run) none = stays_same tracks
  unknown_stays tracks (request.Tune machine metric penalty given) none = stays_same tracks
  unknown_stays tracks (request.Calibrate machine test metric factor) none = stays_same tracks
  unknown_stays tracks (request.Segment machine test metric) none = stays_same tracks
  unknown_stays tracks (request.Changes machine test metric) none = stays_same tracks
  unknown_stays tracks (request.Verify machine test metric) none = stays_same tracks
  unknown_stays tracks (request.Regress machine test metric change) none = stays_same tracks
  unknown_stays tracks (request.SetState machine number state) none = stays_same tracks
  unknown_stays tracks (request.Bisect machine lo hi) none = stays_same tracks
  unknown_stays tracks (request.Answer machine number commit status) none = stays_same tracks
  unknown_stays tracks (request.Resume machine number) none = stays_same tracks
  unknown_stays tracks (request.Job machine number) none = stays_same tracks
  unknown_stays tracks (request.Runs machine) none = stays_same tracks
  unknown_stays tracks (request.Report machine json) none = stays_same tracks

  about_stays : (found : Option Track) (tracks : List Track) (q : Request) (a : Answered) → find (is_track (machine_of q)) tracks ≡ found
      → AnswersAbout found author tracks q a → Stays author tracks a.tracks
  about_stays None tracks q a none told = subst (λ (b : Answered). Stays author tracks b.tracks) (sym told) (unknown_stays tracks q none)
  about_stays (Some t) tracks q a found told = subst (λ (b : Answered). Stays author tracks b.tracks) (sym told.2) (changed_stays (machine_of q) (λ u. with_answered author q u told.0) (answered_continues q told.0) tracks)

  answered_stays : (tracks : List Track) (q : Request) (a : Answered) → Answers author tracks q a → Stays author tracks a.tracks
  answered_stays tracks q a told = about_stays (find (is_track (machine_of q)) tracks) tracks q a refl told

item_stays : (before : State) (item : Item) (told : Option Reply) (after : State) → AnswersItem AnswersFor before item told after → (after.author ≡ before.author) × Stays before.author before.tracks after.tracks
item_stays before (Ok q) told after (reply, answers, is) = (answers.0, answered_stays before.author before.tracks q (record { reply = reply; tracks = after.tracks }) answers.1)
item_stays before (Err reason) told after (is, same) =
    (ap (λ (s : State). s.author) same, subst (λ (s : State). Stays before.author before.tracks s.tracks) (sym same) (stays_same before.author before.tracks))

pub sessions_stay : SessionsStay
sessions_stay before after [] replies told = subst (λ (s : State). Stays before.author before.tracks s.tracks) (sym told.1) (stays_same before.author before.tracks)
sessions_stay before after (item ∷ items) replies told =
    let one = item_stays before item told.0 told.1 told.3 in
    let two : Stays before.author told.1.tracks after.tracks = subst (λ author. Stays author told.1.tracks after.tracks) one.0 (sessions_stay told.1 after items told.2 told.5) in
    stays_on before.author before.tracks told.1.tracks after.tracks one.1 two
