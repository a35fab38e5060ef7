-- How a command ends, and that what is due comes.
use Rattle.std.proofs.Common.{◌≡◌, ◌≢◌, ℕ, ◌≤◌, ◌⊎◌, inl, inr, List, [], ◌∷◌, Option, None, Some, Result, Ok, Err, OnOk, OnErr, IfSome, pos, refl, sym, ap, subst, ◌∙◌, arith}
use Rattle.track_outside.specs.{Counts.Rose, declared.source.Failed.Failed, Calls.{Took, FailedIn}, Kept.with_more}
use Rattle.track_outside.specs.declared.source.Source as source
use Rattle.track_outside.specs.declared.sink.Sink as sink
use Rattle.track_outside.specs.declared.keeper.Keeper as keeper
use Rattle.request_words.specs.Bodies.{Item}
use Rattle.request_reader.specs.Scripts.{Ending, end, cut_off, unfinished, IsScript}
use Rattle.script_loop.specs.{declared.stop.Stop.Stop as ScriptStop, Endings.{HasRead, HasWritten}, Outputs.IsOutput}
use Rattle.script_loop.specs.declared.stop.Stop.TheVariants as script
use Rattle.command_words.specs.declared.command.{Command.Command, CutPlan.CutPlan, PathPlan.PathPlan}
use Rattle.segment_model.specs.Segments.{Position}
use Rattle.line_pieces.specs.declared.stop.Refusal.TheVariants as refusal
use Rattle.line_pieces.specs.declared.stop.Stop.{Stop as LinesStop}
use Rattle.line_pieces.specs.declared.stop.Stop.TheVariants as lines
use Rattle.cut_lines.specs.{Reading.ArePointsWithin, Stops.BytesShowWithin}
use Rattle.path_command.specs.{Endings.{EndsPath as PutsPath, HasCause as HasPathCause}, declared.end.PathEnd.PathEnd}
use Rattle.path_command.specs.declared.end.PathEnd.TheVariants as path
use Rattle.tracker_top.specs.{Paths.path_status_of, declared.status.Status.Status, Text.line_of, Answers.{IsCertificateText, state_of}}
use Rattle.command_words.specs.declared.command.Command.TheVariants.{Cut, Apply, Gen, Trial, Play, Path, Hunt, Audit}
use Rattle.tracker_top.specs.declared.status.Status.TheVariants.{Done, BadWords, ReadFault, WriteFault, StoreFault, BadStore, CutOff, NoMemory, InputTooLong, BadLine, Full, Differs, TooFew}
use Rattle.command_words.specs.Commands.{AreNoCommand, IsSpelled, AreOneCommand}
use Rattle.trial_script.specs.{Counts.RoseByRedone, Growth.{ComesBack, stored_after}, Sessions.{State, AnswersFor}}
use Rattle.tracker_top.specs.Statuses.{status_of, script_status_of, script_status, ended, CutShows, PathShows, ScriptShows, Shows, IsDue, OneStatusIsDue}
use Rattle.tracker_top.specs.Endings.{HasCause, EndsOutput, AnswersScript, Begins, WasStarted, Keeps, Prints, AppendCause, LoadCause, EndsSo, EndsScript, EndsApply, IsOfOutput, HasAsked, Ends, IsTold, Streams}
use Rattle.keep_rows.specs.{Kept.AreKept, Loading.{Stored, LeadTo, IsFirstBad}, Rows.new_rows}
use Rattle.track_model.specs.Tracks.{Track}
use Rattle.series_gen.specs.Script.{script as script_of}

-- ---- what is due comes

if_some : {P : List ℕ → Type 0} (known : Option (List ℕ)) → ((bytes : List ℕ) → P bytes) → IfSome known P
if_some None all = tt
if_some (Some bytes) all = all bytes

-- cut lines that have points, or stop, show it
points_show : (known : Option (List ℕ)) (points : List Position) → IfSome known (λ bytes. ArePointsWithin 1_024 bytes points) → IfSome known (λ bytes. PathShows bytes Done)
points_show None points are = tt
points_show (Some bytes) points are = inl (refl, (points, are))

stop_shows : (known : Option (List ℕ)) (stop : LinesStop) → IfSome known (λ bytes. BytesShowWithin 1_024 bytes stop) → IfSome known (λ bytes. PathShows bytes (status_of stop))
stop_shows None stop show = tt
stop_shows (Some bytes) stop show = inr (stop, refl, show)

-- the answer is the status that is due, or memory was wanting, or an object failed
abbrev Comes : Type 0 → Type 0 → Type 0 → Status → Status → Type 0
Comes R W K result status = (result ≡ status) ⊎ ((result ≡ NoMemory) ⊎ (R ⊎ (W ⊎ K)))

module _ {I O K : Type 0} (g : source.Ghosts I) (h : sink.Ghosts O) (k : keeper.Ghosts K) (words : List (List ℕ)) (start finish : Streams I O K) (one_command : AreOneCommand) (once : OneStatusIsDue) where
  abbrev DueComes : Option (List (List ℕ)) → Status → Type 0
  DueComes rows result =
      IfSome (g.left start.input) (λ bytes. (status : Status) → IsDue words rows bytes status
      → Comes (Rose (g.faults start.input) (g.faults finish.input)) (Rose (h.faults start.output) (h.faults finish.output)) (Rose (k.faults start.keeper) (k.faults finish.keeper)) result status)

  module _ (rows : Option (List (List ℕ))) (command : Command) (spelled : IsSpelled words command) where
    shown : (known : Option (List ℕ)) (result : Status) (R W S : Type 0) → IfSome known (λ bytes. Shows command rows bytes result)
        → IfSome known (λ bytes. (status : Status) → IsDue words rows bytes status → Comes R W S result status)
    shown None result R W S shows = tt
    shown (Some bytes) result R W S shows = λ status due. inl (once words rows bytes result status (inr (command, spelled, shows)) due)

  module _ (rows : Option (List (List ℕ))) where
    failed_read : (result : Status) → Rose (g.faults start.input) (g.faults finish.input) → DueComes rows result
    failed_read result rose = if_some (g.left start.input) (λ bytes status due. inr (inr (inl rose)))

    failed_write : (result : Status) → Rose (h.faults start.output) (h.faults finish.output) → DueComes rows result
    failed_write result rose = if_some (g.left start.input) (λ bytes status due. inr (inr (inr (inl rose))))

    failed_store : (result : Status) → Rose (k.faults start.keeper) (k.faults finish.keeper) → DueComes rows result
    failed_store result rose = if_some (g.left start.input) (λ bytes status due. inr (inr (inr (inr rose))))

    wanted : DueComes rows NoMemory
    wanted = if_some (g.left start.input) (λ bytes status due. inr (inl refl))

  -- ---- cut
  module _ (rows : Option (List (List ℕ))) (cut : CutPlan) (spelled : IsSpelled words (Cut cut)) where
    cut_shown : (result : Status) → IfSome (g.left start.input) (λ bytes. CutShows bytes result) → DueComes rows result
    cut_shown result shows = shown rows (Cut cut) spelled (g.left start.input) result _ _ _ shows

    cut_comes : (Answers : List ℕ → Type 0) (result : Status) → HasCause g start.input finish.input result → EndsOutput h Answers start.output finish.output result → DueComes rows result
    cut_comes Answers ReadFault cause output = failed_read rows ReadFault cause.0
    cut_comes Answers WriteFault cause output = failed_write rows WriteFault output.2.rose
    cut_comes Answers NoMemory cause output = wanted rows
    cut_comes Answers BadWords cause output = absurd cause
    cut_comes Answers StoreFault cause output = absurd cause
    cut_comes Answers (BadStore row) cause output = absurd cause
    cut_comes Answers (Differs verdict) cause output = absurd cause
    cut_comes Answers (TooFew count) cause output = absurd cause
    cut_comes Answers other cause output = cut_shown other cause

  -- ---- path
  module _ (rows : Option (List (List ℕ))) (plan : PathPlan) (spelled : IsSpelled words (Path plan)) where
    path_shown : (result : Status) → IfSome (g.left start.input) (λ bytes. PathShows bytes result) → DueComes rows result
    path_shown result shows = shown rows (Path plan) spelled (g.left start.input) result _ _ _ shows

    path_comes : (why : PathEnd) → HasPathCause g start.input finish.input why → PutsPath h (g.left start.input) (pos plan.low) (pos plan.high) start.output finish.output why
        → DueComes rows (path_status_of why)
    path_comes path.Done cause output = path_shown Done (points_show (g.left start.input) output.1.points output.1.points_are)
    path_comes path.WriteFault cause output = failed_write rows WriteFault output.2.rose
    path_comes (path.Stopped lines.Fault) cause output = failed_read rows ReadFault cause.0
    path_comes (path.Stopped lines.NoMemory) cause output = wanted rows
    path_comes (path.Stopped lines.TooLong) cause output = path_shown (InputTooLong 0) (stop_shows (g.left start.input) lines.TooLong cause)
    path_comes (path.Stopped (lines.Refused refusal.Bad k)) cause output = path_shown (BadLine k) (stop_shows (g.left start.input) (lines.Refused refusal.Bad k) cause)
    path_comes (path.Stopped (lines.Refused refusal.Full k)) cause output = path_shown (Full k) (stop_shows (g.left start.input) (lines.Refused refusal.Full k) cause)

  -- ---- apply
  script_shows : (known : Option (List ℕ)) (items : List Item) (ending : Ending) → IfSome known (λ bytes. IsScript bytes items ending)
      → IfSome known (λ bytes. ScriptShows bytes (ended ending))
  script_shows None items ending script = tt
  script_shows (Some bytes) items ending script = (items, ending, script, refl)

  -- where what a script shows is shown, what is due comes
  module _ (rows : Option (List (List ℕ))) (show : (result : Status) → IfSome (g.left start.input) (λ bytes. ScriptShows bytes result) → DueComes rows result) where
    script_comes : (items : List Item) (text : List ℕ) (result : Result (Unit {0}) ScriptStop)
        → HasRead g start.input finish.input items result → HasWritten h start.output finish.output text result → DueComes rows (script_status result)
    script_comes items text (Ok done) read wrote = show Done (script_shows (g.left start.input) items end read.0)
    script_comes items text (Err script.ReadFault) read wrote = failed_read rows ReadFault read.0
    script_comes items text (Err script.WriteFault) read wrote = failed_write rows WriteFault wrote.rose
    script_comes items text (Err (script.CutOff offset)) read wrote = show (CutOff 0 offset) (script_shows (g.left start.input) items (cut_off offset) read)
    script_comes items text (Err script.InputTooLong) read wrote = show (InputTooLong 0) (script_shows (g.left start.input) items unfinished read)
    script_comes items text (Err script.NoMemory) read wrote = wanted rows

    append_comes : (result : Status) → AppendCause k start.keeper finish.keeper result → DueComes rows result
    append_comes StoreFault cause = failed_store rows StoreFault cause
    append_comes NoMemory cause = wanted rows
    append_comes other cause = absurd cause

    ends_so_comes : (store : Option (List ℕ)) (items : List Item) (text : List ℕ) (why : Result (Unit {0}) ScriptStop) (result : Status)
        → HasRead g start.input finish.input items why → HasWritten h start.output finish.output text why → EndsSo k store start.keeper finish.keeper why result → DueComes rows result
    ends_so_comes store items text (Err stop) result read wrote ends = subst (DueComes rows) (sym ends) (script_comes items text (Err stop) read wrote)
    ends_so_comes None items text (Ok done) result read wrote ends = subst (DueComes rows) (sym ends) (script_comes items text (Ok done) read wrote)
    ends_so_comes (Some name) items text (Ok done) result read wrote (inl ends) = subst (DueComes rows) (sym ends) (script_comes items text (Ok done) read wrote)
    ends_so_comes (Some name) items text (Ok done) result read wrote (inr cause) = append_comes result cause

  module _ (name : List ℕ) (spelled : IsSpelled words (Apply (Some name))) where
    -- a store that tells no rows has nothing due
    none_due : (bytes : List ℕ) (status : Status) → IsDue words None bytes status → ⊥
    none_due bytes status (inl (is, none)) = none (Apply (Some name)) spelled
    none_due bytes status (inr (command, its, shows)) =
        subst (λ c. Shows c None bytes status) (one_command words command (Apply (Some name)) its spelled) shows

    bad_shown : (rows : Option (List (List ℕ))) (row : ℕ) → IfSome rows (λ told. IsFirstBad told row) → DueComes rows (BadStore row)
    bad_shown None row bad = if_some (g.left start.input) (λ bytes status due. absurd (none_due bytes status due))
    bad_shown (Some told) row bad =
        if_some (g.left start.input) (λ bytes status due. inl (once words (Some told) bytes (BadStore row) status (inr (Apply (Some name), spelled, inl (row, bad, refl))) due))

    store_shown : (rows : Option (List (List ℕ))) (stored : Stored) → IfSome rows (λ told. LeadTo told stored)
        → (known : Option (List ℕ)) (result : Status) (R W S : Type 0) → IfSome known (λ bytes. ScriptShows bytes result)
        → IfSome known (λ bytes. (status : Status) → IsDue words rows bytes status → Comes R W S result status)
    store_shown rows stored led None result R W S shows = tt
    store_shown None stored led (Some bytes) result R W S shows = λ status due. absurd (none_due bytes status due)
    store_shown (Some told) stored led (Some bytes) result R W S shows =
        λ status due. inl (once words (Some told) bytes result status (inr (Apply (Some name), spelled, inr (stored, led, shows))) due)

    unread_comes : (result : Status) → LoadCause k start.keeper finish.keeper result → DueComes (k.kept start.keeper) result
    unread_comes StoreFault cause = failed_store (k.kept start.keeper) StoreFault cause
    unread_comes (BadStore row) cause = bad_shown (k.kept start.keeper) row cause
    unread_comes NoMemory cause = wanted (k.kept start.keeper)
    unread_comes other cause = absurd cause

  apply_comes : (store : Option (List ℕ)) → IsSpelled words (Apply store) → (result : Status)
      → EndsApply g h k start finish store result → DueComes (k.kept start.keeper) result
  apply_comes None spelled result e =
      ends_so_comes (k.kept start.keeper) (λ status shows. shown (k.kept start.keeper) (Apply None) spelled (g.left start.input) status _ _ _ shows)
      None e.answers.items e.answers.text e.result result e.answers.read e.answers.wrote e.ends
  apply_comes (Some name) spelled result (inl e) = unread_comes name spelled result e.cause
  apply_comes (Some name) spelled result (inr e) =
      ends_so_comes (k.kept start.keeper) (λ status shows. store_shown name spelled (k.kept start.keeper) (record { machines = e.machines; version = e.version }) e.begins.1 (g.left start.input) status _ _ _ shows)
      (Some name) e.answers.items e.answers.text e.result result e.answers.read e.answers.wrote e.ends

  -- ---- gen
  gen_comes : (rows : Option (List (List ℕ))) (number : ℕ) → IsSpelled words (Gen number) → (result : Status) → IsOfOutput result
      → EndsOutput h (λ text. text ≡ script_of number) start.output finish.output result → DueComes rows result
  gen_comes rows number spelled Done cause output = shown rows (Gen number) spelled (g.left start.input) Done _ _ _ (if_some (g.left start.input) (λ bytes. refl))
  gen_comes rows number spelled WriteFault cause output = failed_write rows WriteFault output.2.rose
  gen_comes rows number spelled NoMemory cause output = wanted rows
  gen_comes rows number spelled other cause output = absurd cause

  -- ---- trial
  trial_comes : (rows : Option (List (List ℕ))) (number : ℕ) → IsSpelled words (Trial number) → (items : List Item) (text : List ℕ) (result : Result (Unit {0}) ScriptStop)
      → HasAsked (script_of number) items result → HasWritten h start.output finish.output text result → DueComes rows (script_status result)
  trial_comes rows number spelled items text (Ok done) read wrote =
      shown rows (Trial number) spelled (g.left start.input) Done _ _ _ (if_some (g.left start.input) (λ bytes. refl))
  trial_comes rows number spelled items text (Err script.ReadFault) read wrote = absurd read
  trial_comes rows number spelled items text (Err script.WriteFault) read wrote = failed_write rows WriteFault wrote.rose
  trial_comes rows number spelled items text (Err (script.CutOff offset)) read wrote = absurd read
  trial_comes rows number spelled items text (Err script.InputTooLong) read wrote = absurd read
  trial_comes rows number spelled items text (Err script.NoMemory) read wrote = wanted rows

  pub comes : (command : Command) (result : Status) → IsSpelled words command → Ends g h k start finish command result
      → DueComes (k.kept start.keeper) result
  comes (Cut cut) result spelled ends = cut_comes (k.kept start.keeper) cut spelled (IsCertificateText cut (g.left start.input)) result ends.0.input.cause ends.0.output
  comes (Apply store) result spelled ends = apply_comes store spelled result ends
  comes (Gen number) result spelled ends = gen_comes (k.kept start.keeper) number spelled result ends.0.cause ends.0.output
  comes (Trial number) result spelled ends =
      subst (DueComes (k.kept start.keeper)) (sym ends.0.run.told) (trial_comes (k.kept start.keeper) number spelled ends.0.run.items ends.0.run.text ends.0.run.result ends.0.run.read ends.0.run.wrote)
  comes (Path plan) result spelled ends =
      subst (DueComes (k.kept start.keeper)) (sym ends.0.told) (path_comes (k.kept start.keeper) plan spelled ends.0.why ends.0.input.cause ends.0.output)
  comes (Play plan) result spelled ends = absurd ends
  comes (Hunt plan) result spelled ends = absurd ends
  comes (Audit named) result spelled ends = absurd ends

-- ---- how `apply` ends
not_done : (stop : ScriptStop) → script_status_of stop ≢ Done
not_done script.ReadFault is = cc
not_done other is = cc

module _ {I O K : Type 0} (g : source.Ghosts I) (h : sink.Ghosts O) (k : keeper.Ghosts K) (machines : List Track) (version : ℕ) (now : State) (start finish : Streams I O K) where
  abbrev Answered : Result (Unit {0}) ScriptStop → Type 0
  Answered why = AnswersScript g h (state_of machines) now start.input finish.input start.output finish.output start.steps finish.steps why

  abbrev began : Stored
  began = record { machines = machines; version = version }

  prints : (items : List Item) (text : List ℕ) (known : Option (List ℕ)) → IfSome known (λ bytes. IsScript bytes items end)
      → IsOutput AnswersFor (state_of machines) items text now → Took h start.output finish.output text → IfSome known (λ bytes. Prints h machines bytes now start.output finish.output)
  prints items text None read output took = tt
  prints items text (Some bytes) read output took = (text, record { items = items; script = read; output = output }, took)

  whole_of : (store : Option (List ℕ)) (why : Result (Unit {0}) ScriptStop) (status : Status) → Answered why
      → EndsSo k store start.keeper finish.keeper why status → status ≡ Done → IfSome (g.left start.input) (λ bytes. Prints h machines bytes now start.output finish.output)
  whole_of store (Ok done) status answers ends is =
      prints answers.items answers.text (g.left start.input) answers.read.0
      (subst (IsOutput AnswersFor (state_of machines) answers.items answers.text) (sym answers.answered.stands) answers.answered.output) answers.wrote
  whole_of store (Err stop) status answers ends is = absurd (not_done stop (sym ends ∙ is))

  counts_of : (store : Option (List ℕ)) (why : Result (Unit {0}) ScriptStop) (status : Status) (answers : Answered why)
      → EndsSo k store start.keeper finish.keeper why status → status ≡ Done → RoseByRedone answers.items answers.answered.output.replies start.steps finish.steps
  counts_of store (Ok done) status answers ends is = answers.counted
  counts_of store (Err stop) status answers ends is = absurd (not_done stop (sym ends ∙ is))

  pub ends_script : (store : Option (List ℕ)) (why : Result (Unit {0}) ScriptStop) (status : Status) → Begins k store start.keeper began → Answered why
      → EndsSo k store start.keeper finish.keeper why status → Keeps k store version now.tracks start.keeper finish.keeper status → EndsScript g h k start finish store status
  ends_script store why status begins answers ends keeps = record {
    machines = machines;
    version = version;
    begins = begins;
    now = now;
    result = why;
    answers = answers;
    ends = ends;
    keeps = keeps;
    whole = whole_of store why status answers ends;
    counted = counts_of store why status answers ends;
  }

  -- with a store, where all is done
  ends_added : (name : List ℕ) (middle : K) (done : Unit {0}) → AreKept machines → IfSome (k.kept start.keeper) (λ rows. LeadTo rows began)
      → k.kept middle ≡ k.kept start.keeper → WasStarted k name start.keeper finish.keeper → Answered (Ok done)
      → ComesBack now → k.kept finish.keeper ≡ with_more (k.kept middle) (new_rows version now.tracks) → EndsScript g h k start finish (Some name) Done
  ends_added name middle done are led same started answers back is =
      let rows : k.kept finish.keeper ≡ with_more (k.kept start.keeper) (new_rows version now.tracks) = is ∙ ap (λ r. with_more r (new_rows version now.tracks)) same in
      ends_script (Some name) (Ok done) Done (are, led) answers (inl refl) (record {
        started = started;
        added = rows;
        comes_back = subst (λ r. IfSome r (λ told. LeadTo told (stored_after version now.tracks))) (sym rows) (leads (k.kept start.keeper) led);
      })
    where
      output : IsOutput AnswersFor (state_of machines) answers.items answers.text now
      output = subst (IsOutput AnswersFor (state_of machines) answers.items answers.text) (sym answers.answered.stands) answers.answered.output

      leads : (known : Option (List (List ℕ))) → IfSome known (λ told. LeadTo told began)
          → IfSome (with_more known (new_rows version now.tracks)) (λ told. LeadTo told (stored_after version now.tracks))
      leads None led = tt
      leads (Some told) led = back told version (state_of machines) answers.items output.replies refl led output.answers

  -- the same of what was called: the store's name, the machines that the session began with, and those that it left
  pub ends_kept : (name called : List ℕ) (middle : K) (begun : State) (left : List Track) (done : Unit {0})
      → called ≡ name → begun ≡ state_of machines → left ≡ now.tracks
      → AreKept machines → IfSome (k.kept start.keeper) (λ rows. LeadTo rows began) → k.kept middle ≡ k.kept start.keeper
      → k.started middle ≡ with_more (k.started start.keeper) (called ∷ []) → k.faults start.keeper ≤ k.faults middle
      → AnswersScript g h begun now start.input finish.input start.output finish.output start.steps finish.steps (Ok done) → ComesBack now
      → k.kept finish.keeper ≡ with_more (k.kept middle) (new_rows version left) → k.started finish.keeper ≡ k.started middle → k.faults middle ≤ k.faults finish.keeper
      → EndsScript g h k start finish (Some name) Done
  ends_kept name called middle begun left done name_is begun_is left_is are led same named counts answers back added stays more =
      let started : k.started finish.keeper ≡ with_more (k.started start.keeper) (name ∷ []) = stays ∙ named ∙ ap (λ n. with_more (k.started start.keeper) (n ∷ [])) name_is in
      ends_added name middle done are led same (record { named = started; counts = omega (arith, counts, more) })
      (subst (λ s. AnswersScript g h s now start.input finish.input start.output finish.output start.steps finish.steps (Ok done)) begun_is answers) back
      (added ∙ ap (λ ts. with_more (k.kept middle) (new_rows version ts)) left_is)

-- without a store
pub ends-alone : {I O K : Type 0} (g : source.Ghosts I) (h : sink.Ghosts O) (k : keeper.Ghosts K) (now : State) (start finish : Streams I O K) (why : Result (Unit {0}) ScriptStop) (status : Status)
    → finish.keeper ≡ start.keeper → status ≡ script_status why → AnswersScript g h (state_of []) now start.input finish.input start.output finish.output start.steps finish.steps why → EndsScript g h k start finish None status
ends-alone g h k now start finish (Ok done) status same is answers = ends_script g h k [] 1 now start finish None (Ok done) status refl answers is same
ends-alone g h k now start finish (Err stop) status same is answers = ends_script g h k [] 1 now start finish None (Err stop) status refl answers is same

-- words that are no command: that is due
pub bad-words-due : (known : Option (List ℕ)) (rows : Option (List (List ℕ))) (words : List (List ℕ)) (R : Type 0) → AreNoCommand words
    → IfSome known (λ bytes. (due : Status) → IsDue words rows bytes due → (BadWords ≡ due) ⊎ R)
bad-words-due known rows words R none = if_some known due_comes
  where
    due_comes : (bytes : List ℕ) (due : Status) → IsDue words rows bytes due → (BadWords ≡ due) ⊎ R
    due_comes bytes due (inl (is, its)) = inl (sym is)
    due_comes bytes due (inr (command, spelled, shown)) = absurd (none command spelled)

-- a status whose line was written, or a first part of it
pub is-told-by : {O : Type 0} (h : sink.Ghosts O) (old new : O) (status : Status) (r : Result (Unit {0}) Failed) → OnOk r (Took h old new (line_of status)) → OnErr r (FailedIn h old new (line_of status))
    → IsTold h old new status
is-told-by h o o' status (Ok done) took failed = inl took
is-told-by h o o' status (Err why) took failed = inr failed
