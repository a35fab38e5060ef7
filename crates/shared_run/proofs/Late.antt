-- Private: no public contract cites this. How a run ends behind its scripts, by which stop decides.
use Rattle.std.proofs.Common.{◌≡◌, ◌≢◌, ℕ, suc, ◌<◌, ◌≤◌, ◌+◌, ◌-◌, ◌^◌, inl, inr, Bool, true, false, List, [], ◌∷◌, ◌++◌, length, map, Option, Some, None, Ok, Err, refl, sym, ap, subst, ◌∙◌, arith}
use Rattle.std.specs.{Prelude.{◌⊎◌, slice_get, option_map, Contains, Result, count_by, not, IfSome, IsSome, OnOk}, List.{AllByRecursion, AllZip}}
use Rattle.std.proofs.lemmas.{List.length-map, Option.{slice_get_within, get_or_from_slice_get}, Slice.Zip.AllZip-long, Grind.common_steps}
use Rattle.track_outside.specs.{Calls.{Took, FailedIn, TookPart}, Counts.Rose, Kept.with_more, Named.Call}
use Rattle.track_outside.specs.declared.sink.Sink as sink
use Rattle.track_outside.specs.declared.source.Source as source
use Rattle.track_outside.specs.declared.runner.Runner as runner
use Rattle.command_words.specs.Plans.{Plan, AreScripts}
use Rattle.metric_table.specs.{Limits.most, declared.limits.Limit.TheVariants.Machines}
use Rattle.track_model.specs.Tracks.{Track}
use Rattle.keep_rows.specs.Rows.{new_rows}
use Rattle.journal_text.specs.Journals.{journals_text}
use Rattle.request_reader.specs.Scripts.{Ending, end, cut_off, unfinished, IsScript}
use Rattle.script_files.specs.{declared.open.OpenScript.OpenScript, Opening.calls_for, Closing.{RoseBy, failed_inputs, failed_outputs}}
use Rattle.script_loop.specs.{Endings.{HasRead, HasWritten}, declared.stop.Stop.Stop}
use Rattle.script_loop.specs.declared.stop.Stop.TheVariants as stop
use Rattle.worker_crew.specs.{Sights.{Home, Sight}, Played.in_full, Gathered.AreKept, Seats.AreDifferent}
use Rattle.play_fits.specs.{Fits.Fits, Quiet.IsQuiet, Workers.Asked}
use Rattle.worker_crew.{specs.Players.{Playing, Plays, end_of, open_of, players_from}, proofs.Gathered.{mapped-at, mapped-from}}
use Rattle.shared_run.specs.{declared.stop.RunStop.RunStop, Beginnings.{Begins, Keeps, WasStarted}, Endings.{Objects, Told, EndsLate, EndsRun}}
use Rattle.shared_run.specs.declared.stop.RunStop.TheVariants as run
use Rattle.shared_run.specs.Endings as endings
use Rattle.shared_run.specs.{Leaving.WritesText, Crews.{AreNew, RanIn, asked_by}, Stops.{Decides, NoneStopped, WantsMemory}}
use Rattle.shared_run.proofs.Beginning.{first-different, first-kept, room-different, was-started}
use Rattle.shared_run.proofs.{Decided.{Decided, FirstDecides, LaterDecides, MemoryDecides, decided, not-in}, Fitted.{Laws, run-fits, run-quiet}}
use Rattle.shared_run.proofs.EachRun.{WasRun, all-failed, all-run, input-counts, left-is, output-counts, rose-some, some-same, there-at, zip-at}

-- ---- what the output took
part-of : {O : Type 0} (o : sink.Ghosts O) (old new : O) (text : List ℕ) (later : Result (Unit {0}) RunStop) → WritesText o old new text later → TookPart o old new text
part-of o old new text later wrote = grind (arith, common_steps)

either-of : {O : Type 0} (o : sink.Ghosts O) (old new : O) (text : List ℕ) (later : Result (Unit {0}) RunStop) → later ≢ Err run.NoMemory → WritesText o old new text later
    → Took o old new text ⊎ FailedIn o old new text
either-of o old new text later some wrote = grind (arith, common_steps)

-- ---- counts
none-short : (ends : List (Result (Unit {0}) Stop)) → NoneStopped ends → count_by not (map in_full ends) ≡ 0
none-short [] none = refl
none-short (e ∷ ends) none =
    let well : e ≡ Ok tt = none 0 e refl in
    rw well (none-short ends (λ k r there. none (suc k) r there))

rose-by : (before middle after n : ℕ) → before ≤ middle → 0 < n → RoseBy n middle after → Rose before after
rose-by before middle after n le some rose = omega (arith, le, some, rose)

both-rose : (reads reads' reads'' writes writes' writes'' inputs outputs n : ℕ) → reads ≤ reads' → writes ≤ writes' → RoseBy inputs reads' reads'' → RoseBy outputs writes' writes'' → n ≤ inputs + outputs
    → (n + (reads + writes) ≤ reads'' + writes'') ⊎ (2 ^ 64 - 1 ≤ reads'') ⊎ (2 ^ 64 - 1 ≤ writes'')
both-rose reads reads' reads'' writes writes' writes'' inputs outputs n one two three four most = grind (arith, common_steps)

-- ---- the end
pub record Facts {F I O K A : Type 0} (t : Told F I O K) (r : runner.Ghosts A) (plan : Plan) (began at_last : List A) (before after : Objects F O K) (ends : List (Result (Unit {0}) Stop)) (later result : Result (Unit {0}) RunStop) : Type 0 where
  pub tracks : List Track
  pub version : ℕ
  pub begins : Begins t.keeper plan before.keeper (record { machines = tracks; version = version })
  pub few : length tracks ≤ most Machines
  pub loaded : K
  pub was : WasStarted t.keeper plan.store before.keeper loaded
  pub rows : t.keeper.kept loaded ≡ t.keeper.kept before.keeper
  pub counts : t.keeper.faults before.keeper ≤ t.keeper.faults loaded
  pub journals : List Track
  pub full : Bool
  pub ran : RanIn t.files t.input t.out r plan tracks before.files after.files began at_last ends journals full
  pub wanting : full ≡ false → later ≡ Err run.NoMemory
  pub wrote : WritesText t.out before.out after.out (journals_text journals) later
  pub added : OnOk later (NoneStopped ends → IsSome plan.store → t.keeper.kept after.keeper ≡ with_more (t.keeper.kept loaded) (new_rows version journals))
  pub same_rows : (later ≡ Ok tt → NoneStopped ends → ⊥) → t.keeper.kept after.keeper ≡ t.keeper.kept loaded
  pub unnamed : plan.store ≡ None → after.keeper ≡ loaded
  pub started : t.keeper.started after.keeper ≡ t.keeper.started loaded
  pub rose : later ≡ Err run.StoreFault → IsSome plan.store × Rose (t.keeper.faults loaded) (t.keeper.faults after.keeper)
  pub decides : Decides ends later result

pub ok-apart : {A E : Type 0} {x : A} {e : E} → ◌≡◌ {A = Result A E} (Ok x) (Err e) → ⊥
ok-apart same = cc

no-ok : (why : RunStop) → ◌≡◌ {A = Result (Unit {0}) RunStop} (Err why) (Ok tt) → ⊥
no-ok why same = cc

no-well : (why : Stop) → ◌≡◌ {A = Result (Unit {0}) Stop} (Err why) (Ok tt) → ⊥
no-well why same = cc

module _ {F I O K A : Type 0} (t : Told F I O K) (r : runner.Ghosts A) (plan : Plan) (began at_last : List A) (before after : Objects F O K) (ends : List (Result (Unit {0}) Stop))
    (later result : Result (Unit {0}) RunStop) (x : Facts t r plan began at_last before after ends later result) (laws : Laws r) (scripts : AreScripts plan.scripts)
    (enough : plan.bisect ≤ length began) (new : AreNew r began) where
  abbrev i : source.Ghosts I
  i = t.input

  abbrev asked : List Asked
  asked = asked_by r began at_last

  abbrev played : List (Playing I O)
  played = x.ran.ran.scripts.played

  abbrev Run : List ℕ → Playing I O → Type 0
  Run script p = WasRun i t.out (t.files.contents before.files) script p

  were-run : AllZip Run plan.scripts played
  were-run = all-run i t.out (t.files.contents before.files) x.ran.room 1 plan.scripts x.ran.ran.scripts.opened x.ran.ran.passes played x.ran.ran.scripts.many x.ran.ran.scripts.are_open x.ran.ran.scripts.plays

  abbrev short : List Bool
  short = map in_full (map end_of played)

  same-files : (room : List Home) (n : ℕ) (opened : List (OpenScript I O)) (passes : List (List Sight)) (played : List (Playing I O)) → length passes ≡ length opened
      → AllZip (Plays i t.out) (players_from room n passes opened) played → AllZip (endings.IsSameFile t plan) opened (map open_of played)
  same-files room n [] [] [] pair plays = tt
  same-files room n [] [] (p ∷ played) pair plays = absurd plays
  same-files room n [] (q ∷ passes) played pair plays = absurd (omega (arith, pair))
  same-files room n (s ∷ opened) [] played pair plays = absurd (omega (arith, pair))
  same-files room n (s ∷ opened) (q ∷ passes) [] pair plays = absurd plays
  same-files room n (s ∷ opened) (q ∷ passes) (p ∷ played) pair plays = (
    record { named = plays.0.ended.named; reads = plays.0.ended.counts },
    same-files room (n + 1) opened passes played (omega (arith, pair)) plays.1,
  )

  same-ends : ends ≡ map end_of played
  same-ends = x.ran.ran.scripts.ended

  size : length played ≡ length plan.scripts
  size = AllZip-long Run plan.scripts played were-run

  each : length short ≡ length plan.scripts
  each = length-map (map end_of played) in_full ∙ length-map played end_of ∙ size

  -- ---- the scripts, by place
  record Here (place : ℕ) (e : Result (Unit {0}) Stop) : Type 0 where
    it : Playing I O
    there : slice_get played place ≡ Some it
    ended : it.ended ≡ e
    script : List ℕ
    run : Run script it
    below : place < length plan.scripts

  here-of : (place : ℕ) (e : Result (Unit {0}) Stop) → slice_get ends place ≡ Some e → Here place e
  here-of place e is =
      let back : (p : Playing I O) × (slice_get played place ≡ Some p) × (end_of p ≡ e) = mapped-from end_of played place e (subst (λ (l : List (Result (Unit {0}) Stop)). slice_get l place ≡ Some e) same-ends is) in
      let within : place < length played = slice_get_within played place back.0 back.1 in
      let below : place < length plan.scripts = omega (arith, within, size) in
      let name : (n : List ℕ) × (slice_get plan.scripts place ≡ Some n) = there-at plan.scripts place below in
      let at = zip-at Run plan.scripts played were-run place name.0 name.1 in
      let same : at.it ≡ back.0 = some-same at.it back.0 (sym at.there ∙ back.1) in
      record { it = back.0; there = back.1; ended = back.2; script = name.0; run = subst (Run name.0) same at.holds; below = below }

  so-ended : (place : ℕ) (e : Result (Unit {0}) Stop) (h : Here place e) (ending : Ending) → ((script : List ℕ) (r : Run script h.it) → IfSome (i.left r.input) (λ b. IsScript b r.items ending))
      → endings.EndsSo t plan before.files place ending
  so-ended place e h ending reads bytes has =
      let at = zip-at Run plan.scripts played were-run place has.0 has.1 in
      let same : at.it ≡ h.it = some-same at.it h.it (sym at.there ∙ h.there) in
      let r : Run has.0 h.it = subst (Run has.0) same at.holds in
      let left : i.left r.input ≡ Some bytes = left-is i t.out (t.files.contents before.files) has.0 bytes (i.left r.input) r.left has.2 in
      (r.items, subst (λ (l : Option (List ℕ)). IfSome l (λ b. IsScript b r.items ending)) left (reads has.0 r))

  well-at : (place : ℕ) → Here place (Ok tt) → endings.EndsSo t plan before.files place end
  well-at place h = so-ended place (Ok tt) h end (λ script r. (subst (HasRead i r.input h.it.input r.items) h.ended r.read).0)

  well-of : (place : ℕ) → slice_get ends place ≡ Some (Ok tt) → endings.EndsSo t plan before.files place end × (slice_get short place ≡ Some true)
  well-of place is = (
    well-at place (here-of place (Ok tt) is),
    mapped-at in_full (map end_of played) place (Ok tt) (subst (λ (l : List (Result (Unit {0}) Stop)). slice_get l place ≡ Some (Ok tt)) same-ends is),
  )

  all-well : NoneStopped ends → endings.WereWell t plan before.files short (length plan.scripts)
  all-well none place less =
      let within : place < length ends = (let long = ap length same-ends ∙ length-map played end_of ∙ size in omega (arith, less, long)) in
      let there : (e : Result (Unit {0}) Stop) × (slice_get ends place ≡ Some e) = there-at ends place within in
      well-of place (there.1 ∙ ap (λ (e : Result (Unit {0}) Stop). Some e) (none place there.0 there.1))

  stop-cause : (place : ℕ) (why : Stop) → Here place (Err why) → why ≢ stop.NoMemory → endings.ScriptCause t plan before after place why
  stop-cause place stop.ReadFault h some =
      let read = subst (HasRead i h.run.input h.it.input h.run.items) h.ended h.run.read in
      let one = input-counts i t.out (t.files.contents before.files) played place h.it h.there (rose-some i t.out (t.files.contents before.files) (i.faults h.run.input) (i.faults h.it.input) read.0) in
      rose-by (t.files.read_faults before.files) (t.files.read_faults x.ran.ran.scripts.middle) (t.files.read_faults after.files) (failed_inputs i (map open_of played)) x.ran.ran.scripts.asks.reads one x.ran.ran.scripts.closes.reads_rose
  stop-cause place stop.WriteFault h some =
      let wrote = subst (HasWritten t.out h.run.output h.it.output h.run.text) h.ended h.run.wrote in
      let one = output-counts i t.out (t.files.contents before.files) played place h.it h.there (rose-some i t.out (t.files.contents before.files) (t.out.faults h.run.output) (t.out.faults h.it.output) wrote.rose) in
      rose-by (t.files.write_faults before.files) (t.files.write_faults x.ran.ran.scripts.middle) (t.files.write_faults after.files) (failed_outputs t.out (map open_of played)) x.ran.ran.scripts.asks.writes one x.ran.ran.scripts.closes.writes_rose
  stop-cause place (stop.CutOff offset) h some = so-ended place (Err (stop.CutOff offset)) h (cut_off offset) (λ script r. subst (HasRead i r.input h.it.input r.items) h.ended r.read)
  stop-cause place stop.InputTooLong h some = so-ended place (Err stop.InputTooLong) h unfinished (λ script r. subst (HasRead i r.input h.it.input r.items) h.ended r.read)
  stop-cause place stop.NoMemory h some = absurd (some refl)

  -- ---- what is so however it is decided
  different : AreDifferent x.ran.room
  different = room-different x.tracks x.ran.room x.ran.first x.ran.of_room x.ran.starts (first-different t.keeper plan before.keeper (record { machines = x.tracks; version = x.version }) x.begins)

  kept : AllByRecursion AreKept x.tracks
  kept = first-kept t.keeper plan before.keeper (record { machines = x.tracks; version = x.version }) x.begins

  fits : Fits (endings.run_of t plan x.tracks short asked before.files after.files) x.journals
  fits = run-fits t i r plan began at_last before.files after.files x.tracks ends x.journals x.full x.ran laws scripts enough new different kept

  calls : endings.Made t plan before.files after.files (calls_for plan.scripts)
  calls = x.ran.ran.scripts.closes.noted ∙ x.ran.ran.scripts.asks.noted ∙ ap (λ (made : List Call). option_map (λ m. m ++ made) (t.files.asked before.files)) x.ran.ran.scripts.asks.due

  closed : endings.AreClosed t plan before.files after.files
  closed = record {
    opened = x.ran.ran.scripts.opened;
    are_open = x.ran.ran.scripts.are_open;
    between = x.ran.ran.scripts.middle;
    opens = x.ran.ran.scripts.asks;
    left = map open_of played;
    same = same-files x.ran.room 1 x.ran.ran.scripts.opened x.ran.ran.passes played x.ran.ran.scripts.many x.ran.ran.scripts.plays;
    closes = x.ran.ran.scripts.closes;
  }

  quiet : (WantsMemory ends later → ⊥) → IsQuiet plan.recompute plan.bisect x.journals
  quiet some = by x.full refl
    where
      by : (b : Bool) → x.full ≡ b → IsQuiet plan.recompute plan.bisect x.journals
      by true is = run-quiet t i r plan began at_last before.files after.files x.tracks ends x.journals x.full x.ran laws scripts enough new different kept is
      by false is = absurd (some (inl (x.wanting is)))

  faults : (Contains ends (Err stop.NoMemory) → ⊥) → endings.AreFaults t plan (endings.unanswered t plan short) before.files after.files
  faults none =
      let some = not-in (Err stop.NoMemory) (map end_of played) (subst (λ (l : List (Result (Unit {0}) Stop)). Contains l (Err stop.NoMemory) → ⊥) same-ends none) in
      both-rose (t.files.read_faults before.files) (t.files.read_faults x.ran.ran.scripts.middle) (t.files.read_faults after.files) (t.files.write_faults before.files) (t.files.write_faults x.ran.ran.scripts.middle) (t.files.write_faults after.files)
      (failed_inputs i (map open_of played)) (failed_outputs t.out (map open_of played)) (count_by not short) x.ran.ran.scripts.asks.reads x.ran.ran.scripts.asks.writes x.ran.ran.scripts.closes.reads_rose x.ran.ran.scripts.closes.writes_rose
      (all-failed i t.out (t.files.contents before.files) plan.scripts played were-run some)

  started : WasStarted t.keeper plan.store before.keeper after.keeper
  started = was-started t.keeper plan.store before.keeper x.loaded after.keeper x.was x.unnamed x.started

  same-rows : (later ≡ Ok tt → NoneStopped ends → ⊥) → t.keeper.kept after.keeper ≡ t.keeper.kept before.keeper
  same-rows not-both = x.same_rows not-both ∙ x.rows

  wants-stops : WantsMemory ends later → later ≡ Ok tt → NoneStopped ends → ⊥
  wants-stops (inl same) ok none = no-ok run.NoMemory (sym same ∙ ok)
  wants-stops (inr at) ok none =
      let there : (e : Result (Unit {0}) Stop) × (slice_get ends at.0 ≡ Some e) = there-at ends at.0 at.1 in
      no-well stop.NoMemory (sym at.2 ∙ get_or_from_slice_get ends at.0 there.0 (Err stop.NoMemory) there.1 ∙ none at.0 there.0 there.1)

  -- ---- the three ways
  wrote-as : (now : Result (Unit {0}) RunStop) → later ≡ now → WritesText t.out before.out after.out (journals_text x.journals) now
  wrote-as now is = subst (WritesText t.out before.out after.out (journals_text x.journals)) is x.wrote

  -- what differs between ways to end
  record Way (now : Result (Unit {0}) RunStop) : Type 0 where
    sated : now ≢ Err run.NoMemory → WantsMemory ends later → ⊥
    wrote : endings.Writes t plan x.journals before.out after.out now
    in_full : now ≡ Ok tt → endings.unanswered t plan short ≡ 0
    cause : endings.LateCause t plan before after now
    first : endings.IsFirstStopped t plan before.files short now
    keeps : Keeps t.keeper plan x.version x.journals before.keeper after.keeper now

  by-way : (now : Result (Unit {0}) RunStop) → Way now → EndsLate t plan asked before after now
  by-way now w = record {
    tracks = x.tracks;
    version = x.version;
    begins = x.begins;
    few = x.few;
    calls = calls;
    closed = closed;
    fulls = short;
    each = each;
    journals = x.journals;
    fits = fits;
    quiet = λ differs. quiet (w.sated differs);
    wrote = w.wrote;
    in_full = w.in_full;
    faults = λ differs. faults (λ at. w.sated differs (inr at));
    cause = w.cause;
    first = w.first;
    started = started;
    keeps = w.keeps;
  }

  by-memory : MemoryDecides ends later result → EndsLate t plan asked before after (Err run.NoMemory)
  by-memory m = by-way (Err run.NoMemory) (record {
    sated = λ differs. absurd (differs refl);
    wrote = part-of t.out before.out after.out (journals_text x.journals) later x.wrote;
    in_full = λ same. absurd (no-ok run.NoMemory same);
    cause = tt;
    first = tt;
    keeps = same-rows (wants-stops m.wants);
  })

  by-first : (f : FirstDecides ends later result) → EndsLate t plan asked before after (Err (run.Script (f.first.before + 1) f.first.stop))
  by-first f = by-way (Err (run.Script (f.first.before + 1) f.first.stop)) (record {
    sated = λ differs. f.quiet;
    wrote = either-of t.out before.out after.out (journals_text x.journals) later (λ same. f.quiet (inl same)) x.wrote;
    in_full = λ same. absurd (no-ok (run.Script (f.first.before + 1) f.first.stop) same);
    cause = (f.first.before, refl, here.below, stop-cause f.first.before f.first.stop here some);
    first = λ place is k less. well-of k (f.first.is.first k (omega (arith, is, less)));
    keeps = same-rows (λ ok none. no-well f.first.stop (none f.first.before (Err f.first.stop) f.first.is.here));
  })
    where
      here : Here f.first.before (Err f.first.stop)
      here = here-of f.first.before (Err f.first.stop) f.first.is.here

      some : f.first.stop ≢ stop.NoMemory
      some same = f.quiet (inr (
        f.first.before,
        slice_get_within ends f.first.before (Err f.first.stop) f.first.is.here,
        get_or_from_slice_get ends f.first.before (Err f.first.stop) (Err stop.NoMemory) f.first.is.here ∙ ap (λ (w : Stop). Err w) same,
      ))

  by-later : (l : LaterDecides ends later result) (now : Result (Unit {0}) RunStop) → later ≡ now → EndsLate t plan asked before after now
  by-later l (Ok done) is = by-way (Ok done) (record {
    sated = λ differs. l.quiet;
    wrote = wrote-as (Ok done) is;
    in_full = λ same. none-short (map end_of played) (subst NoneStopped same-ends l.none);
    cause = λ place less. (all-well l.none place less).0;
    first = all-well l.none;
    keeps = grind (arith, common_steps);
  })
  by-later l (Err run.NoMemory) is = absurd (l.quiet (inl is))
  by-later l (Err run.StoreFault) is = by-way (Err run.StoreFault) (record {
    sated = λ differs. l.quiet;
    wrote = wrote-as (Err run.StoreFault) is;
    in_full = λ same. absurd (no-ok run.StoreFault same);
    cause = ((x.rose is).0, (let le = x.counts in let rose = (x.rose is).1 in omega (arith, le, rose)));
    first = all-well l.none;
    keeps = same-rows (λ ok none. no-ok run.StoreFault (sym is ∙ ok));
  })
  by-later l (Err run.WriteFault) is = by-way (Err run.WriteFault) (record {
    sated = λ differs. l.quiet;
    wrote = wrote-as (Err run.WriteFault) is;
    in_full = λ same. absurd (no-ok run.WriteFault same);
    cause = (wrote-as (Err run.WriteFault) is).rose;
    first = all-well l.none;
    keeps = same-rows (λ ok none. no-ok run.WriteFault (sym is ∙ ok));
  })
  by-later l (Err (run.BadStore row)) is = absurd (wrote-as (Err (run.BadStore row)) is)
  by-later l (Err (run.Full place)) is = absurd (wrote-as (Err (run.Full place)) is)
  by-later l (Err run.OpenFault) is = absurd (wrote-as (Err run.OpenFault) is)
  by-later l (Err run.CreateFault) is = absurd (wrote-as (Err run.CreateFault) is)
  by-later l (Err (run.Script number why)) is = absurd (wrote-as (Err (run.Script number why)) is)

  by-any : Decided ends later result → EndsLate t plan asked before after result
  by-any (inl m) = subst (EndsLate t plan asked before after) (sym m.is) (by-memory m)
  by-any (inr (inl f)) = subst (EndsLate t plan asked before after) (sym f.is) (by-first f)
  by-any (inr (inr l)) = subst (EndsLate t plan asked before after) (sym l.is) (by-later l later refl)

  as-run : (r : Result (Unit {0}) RunStop) → EndsLate t plan asked before after r → EndsRun t plan asked before after r
  as-run (Ok done) late = late
  as-run (Err why) late = inr late

  pub ends-late : EndsRun t plan asked before after result
  ends-late = as-run result (by-any (decided ends later result x.decides))
