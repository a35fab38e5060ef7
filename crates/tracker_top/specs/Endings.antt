-- How a command ends, on its objects.
use Rattle.std.specs.{Io.KnownBytes.IsAtEnd, List.AllByRecursion}
use Rattle.trial_script.specs.{Accepted.IsAccepted, Counts.{redone_by, RoseByRedone}, Part.IsPart, Growth.stored_after}
use Rattle.std.specs.Prelude.{◌≡◌, ◌≢◌, ℕ, ◌+◌, ◌^◌, ◌≤◌, ◌⊎◌, List, [], ◌∷◌, Option, Some, None, Result, Ok, Err, IfSome, OnOk}
use Rattle.track_outside.specs.{Counts.Rose, Kept.with_more, Calls.{Took, FailedIn, IsUntouched, GaveAtMost}}
use Rattle.track_outside.specs.declared.source.Source as source
use Rattle.track_outside.specs.declared.sink.Sink as sink
use Rattle.track_outside.specs.declared.keeper.Keeper as keeper
use Rattle.track_model.specs.Tracks.{Track}
use Rattle.store_rows.specs.Faults.{MayHaveName}
use Rattle.keep_rows.specs.{Kept.AreKept, Loading.{Stored, nothing_stored, LeadTo, IsFirstBad}, Rows.new_rows}
use Rattle.cut_lines.specs.Stops.{GaveMayGoOn}
use Rattle.request_words.specs.Bodies.{Item}
use Rattle.request_reader.specs.Scripts.{Ending, end, IsScript}
use Rattle.script_loop.specs.{declared.stop.Stop.Stop, Endings.{HasRead, HasAnswered, HasWritten}, Outputs.{AsksFirst, Out}}
use Rattle.script_loop.specs.declared.stop.Stop.TheVariants as stop
use Rattle.trial_script.specs.Sessions.{State, AnswersFor, AnswersSome}
use Rattle.series_gen.specs.Script.{script as script_of}
use Rattle.command_words.specs.declared.command.{Command.Command, CutPlan.CutPlan, Command.TheVariants.{Cut, Apply, Gen, Trial, Play, Path, Hunt, Audit}}
use Rattle.tracker_top.specs.declared.status.Status.{Status}
use Rattle.tracker_top.specs.declared.status.Status.TheVariants.{Done, BadWords, ReadFault, WriteFault, StoreFault, BadStore, NoMemory, Differs, TooFew}
use Rattle.tracker_top.specs.Answers.{IsCertificateText, state_of, new_state, AllPublishWell, AllBisectWell}
use Rattle.tracker_top.specs.{Statuses.{CutShows, script_status, script_status_of}, Paths.EndsPath, Text.line_of}

-- ---- cut

-- why `cut` ends so, as far as its input tells: at a fault of the input its count rose, and what it
-- gave may go on; of the output's fault and of want of memory nothing is said; else the bytes show
-- the status, where the input tells them
abbrev pub HasCause : {I : Type 0} → source.Ghosts I → I → I → Status → Type 0
HasCause g old new ReadFault =
    Rose (g.faults old) (g.faults new) × GaveMayGoOn (g.left old) (g.left new)
HasCause g old new WriteFault = Unit {0}
HasCause g old new NoMemory = Unit {0}
HasCause g old new BadWords = ⊥
HasCause g old new StoreFault = ⊥
HasCause g old new (BadStore row) = ⊥
HasCause g old new (Differs verdict) = ⊥
HasCause g old new (TooFew count) = ⊥
HasCause g old new status = IfSome (g.left old) (λ bytes. CutShows bytes status)

-- the input, at this status of `cut`
pub record EndsInput {I : Type 0} (g : source.Ghosts I) (old new : I) (status : Status)
    : Type 0 where
  pub cause : HasCause g old new status
  pub whole : status ≡ Done → IsAtEnd (g.left new)
  pub few : GaveAtMost (2 ^ 30 + 1) (g.left old) (g.left new)
  pub counts : g.faults old ≤ g.faults new

-- the output, at this status of `cut`, where these are the texts that answer: all of one, a first
-- part of one, or nothing
abbrev pub EndsOutput : {O : Type 0} → sink.Ghosts O → (List ℕ → Type 0) → O → O → Status → Type 0
EndsOutput g Answers old new Done = (text : List ℕ) × Answers text × Took g old new text
EndsOutput g Answers old new WriteFault = (text : List ℕ) × Answers text × FailedIn g old new text
EndsOutput g Answers old new status = IsUntouched g old new

-- ---- apply

-- the script was answered by a session: some items were read, with the result's cause, and answered
-- by a text, the output took of the text what the result says, all that the machines published
-- stands, what they bisected finished well, and at the end of the script the steps rose by the
-- positions that its segmentations looked at anew
pub record AnswersScript {I O : Type 0} (g : source.Ghosts I) (h : sink.Ghosts O)
    (begun now : State) (old new : I) (before after : O) (from to : ℕ)
    (result : Result (Unit {0}) Stop) : Type 0 where
  pub items : List Item
  pub text : List ℕ
  pub read : HasRead g old new items result
  pub answered : HasAnswered AnswersFor begun now items text result
  pub wrote : HasWritten h before after text result
  pub counted : OnOk result (RoseByRedone items answered.output.replies from to)
  pub published : AllPublishWell now
  pub bisected : AllBisectWell now
  pub few : GaveAtMost (2 ^ 30 + 1) (g.left old) (g.left new)
  pub counts : g.faults old ≤ g.faults new

-- the output took exactly what this whole script is answered, beginning with these machines, which
-- end so
abbrev pub Prints : {O : Type 0} → sink.Ghosts O → List Track → List ℕ → State → O → O → Type 0
Prints h machines bytes now before after =
    (text : List ℕ) × Out AnswersFor (state_of machines) bytes text now end
    × Took h before after text

-- what the script begins with: nothing without a store, else the machines and the version that its
-- rows lead to
abbrev pub Begins : {K : Type 0} → keeper.Ghosts K → Option (List ℕ) → K → Stored → Type 0
Begins k None store began = began ≡ nothing_stored
Begins k (Some name) store began =
    AreKept began.machines × IfSome (k.kept store) (λ rows. LeadTo rows began)

-- the keeper was started once, by this name
pub record WasStarted {K : Type 0} (k : keeper.Ghosts K) (name : List ℕ) (first last : K)
    : Type 0 where
  pub named : k.started last ≡ with_more (k.started first) (name ∷ [])
  pub counts : k.faults first ≤ k.faults last

-- the keeper was started, and has the new rows of these machines behind its own, which are of this
-- version; where it tells its rows, they lead to each of the machines as a store keeps it
pub record HasAdded {K : Type 0} (k : keeper.Ghosts K) (name : List ℕ) (version : ℕ)
    (machines : List Track) (first last : K) : Type 0 where
  pub started : WasStarted k name first last
  pub added : k.kept last ≡ with_more (k.kept first) (new_rows version machines)
  pub comes_back : IfSome (k.kept last) (λ rows. LeadTo rows (stored_after version machines))

-- what became of the keeper: without a store it had no call; else it was started, and has the new
-- rows of these machines behind its own where all is done, and its own at any other status
abbrev pub Keeps : {K : Type 0} → keeper.Ghosts K → Option (List ℕ) → ℕ → List Track → K → K
    → Status → Type 0
Keeps k None version machines first last status = last ≡ first
Keeps k (Some name) version machines first last Done = HasAdded k name version machines first last
Keeps k (Some name) version machines first last status =
    WasStarted k name first last × (k.kept last ≡ k.kept first)

-- why the rows were not appended
abbrev pub AppendCause : {K : Type 0} → keeper.Ghosts K → K → K → Status → Type 0
AppendCause k first last StoreFault = Rose (k.faults first) (k.faults last)
AppendCause k first last NoMemory = Unit {0}
AppendCause k first last status = ⊥

-- why it ends so: the script stopped, or all is done, or only the new rows of the store were not
-- appended
abbrev pub EndsSo : {K : Type 0} → keeper.Ghosts K → Option (List ℕ) → K → K
    → Result (Unit {0}) Stop → Status → Type 0
EndsSo k store first last (Err stop) status = status ≡ script_status_of stop
EndsSo k None first last (Ok done) status = status ≡ Done
EndsSo k (Some name) first last (Ok done) status = (status ≡ Done) ⊎ AppendCause k first last status

-- why the rows of the store were not loaded
abbrev pub LoadCause : {K : Type 0} → keeper.Ghosts K → K → K → Status → Type 0
LoadCause k first last StoreFault = Rose (k.faults first) (k.faults last)
LoadCause k first last (BadStore row) = IfSome (k.kept first) (λ rows. IsFirstBad rows row)
LoadCause k first last NoMemory = Unit {0}
LoadCause k first last status = ⊥

-- ---- gen

-- a status that no input gives: the output is well, or failed, or memory was wanting
abbrev pub IsOfOutput : Status → Type 0
IsOfOutput Done = Unit {0}
IsOfOutput WriteFault = Unit {0}
IsOfOutput NoMemory = Unit {0}
IsOfOutput status = ⊥

-- ---- trial

-- these bytes are a script that ends well, however it is read
abbrev pub EndsWell : List ℕ → Type 0
EndsWell bytes = (items : List Item) (ending : Ending) → IsScript bytes items ending → ending ≡ end

-- these items of a script that ends well, and can't fail to be read, were read, at this result; its
-- cause
abbrev pub HasAsked : List ℕ → List Item → Result (Unit {0}) Stop → Type 0
HasAsked bytes items (Ok done) = IsScript bytes items end
HasAsked bytes items (Err stop.WriteFault) = AsksFirst bytes items
HasAsked bytes items (Err stop.NoMemory) = AsksFirst bytes items
HasAsked bytes items result = ⊥

-- nor does a session without machines refuse any request of it
abbrev pub RefusesNone : List ℕ → Type 0
RefusesNone bytes =
    (text : List ℕ) (last : State) (ending : Ending)
    (out : Out AnswersFor new_state bytes text last ending)
    → AllByRecursion IsAccepted out.output.replies

-- the output took exactly the part about segmentations of what a session without machines answers
-- this whole script, of which no reply is a refusal; the steps rose by exactly the positions that
-- these segmentations looked at anew
pub record PrintsPart {O : Type 0} (h : sink.Ghosts O) (bytes : List ℕ) (before after : O)
    (from to : ℕ) : Type 0 where
  pub whole : List ℕ
  pub text : List ℕ
  pub last : State
  pub part : IsPart new_state bytes whole text last end
  pub accepted : AllByRecursion IsAccepted part.replies
  pub took : Took h before after text
  pub counted : to ≡ from + redone_by part.items part.replies

-- the output, at this status of `trial` on a script: some items were read, with the status' cause,
-- and answered, beginning with no machine; a text is what is told of the answers, of which the
-- output took what the status says; at the end it is the part of all that is answered
pub record RunsScript {O : Type 0} (h : sink.Ghosts O) (bytes : List ℕ) (before after : O)
    (from to : ℕ) (status : Status) : Type 0 where
  pub result : Result (Unit {0}) Stop
  pub told : status ≡ script_status result
  pub items : List Item
  pub text : List ℕ
  pub now : State
  pub read : HasAsked bytes items result
  pub cause : IsOfOutput status
  pub answered : HasAnswered AnswersSome new_state now items text result
  pub wrote : HasWritten h before after text result
  pub published : AllPublishWell now
  pub whole : status ≡ Done → PrintsPart h bytes before after from to

-- ---- any command

-- what a command of one thread works on: its input, its output, its keeper, and the steps that it
-- counts
pub record Streams (I O K : Type 0) : Type 0 where
  pub input : I
  pub output : O
  pub keeper : K
  pub steps : ℕ

abbrev pub streams : {I O K : Type 0} → I → O → K → ℕ → Streams I O K
streams input output keeper steps =
    record { input = input; output = output; keeper = keeper; steps = steps }

module _ {I O K : Type 0} (g : source.Ghosts I) (h : sink.Ghosts O) (k : keeper.Ghosts K)
    (before after : Streams I O K) where
  -- the input and the output, at this status of `cut`
  pub record EndsCut (cut : CutPlan) (status : Status) : Type 0 where
    pub input : EndsInput g before.input after.input status
    pub output : EndsOutput h (IsCertificateText cut (g.left before.input))
        before.output after.output status

  -- the script of `apply` was answered
  pub record EndsScript (store : Option (List ℕ)) (status : Status) : Type 0 where
    pub machines : List Track
    pub version : ℕ
    pub begins : Begins k store before.keeper (record { machines = machines; version = version })
    pub now : State
    pub result : Result (Unit {0}) Stop
    pub answers : AnswersScript g h (state_of machines) now before.input after.input
        before.output after.output before.steps after.steps result
    pub ends : EndsSo k store before.keeper after.keeper result status
    pub keeps : Keeps k store version now.tracks before.keeper after.keeper status
    pub whole : status ≡ Done → IfSome (g.left before.input) (λ bytes.
        Prints h machines bytes now before.output after.output)
    pub counted : status ≡ Done
        → RoseByRedone answers.items answers.answered.output.replies before.steps after.steps

  -- the rows of its store were not loaded, so nothing was read, written or counted
  pub record EndsUnread (name : List ℕ) (status : Status) : Type 0 where
    pub unread : after.input ≡ before.input
    pub unwritten : after.output ≡ before.output
    pub uncounted : after.steps ≡ before.steps
    pub cause : LoadCause k before.keeper after.keeper status
    pub rows : k.kept after.keeper ≡ k.kept before.keeper
    pub named : status ≢ NoMemory → WasStarted k name before.keeper after.keeper
    pub once : MayHaveName name (k.started before.keeper) (k.started after.keeper)
    pub counts : k.faults before.keeper ≤ k.faults after.keeper

  -- all of them, at this status of `apply`
  abbrev pub EndsApply : Option (List ℕ) → Status → Type 0
  EndsApply None status = EndsScript None status
  EndsApply (Some name) status = EndsUnread name status ⊎ EndsScript (Some name) status

  -- the input and the output, at this status of `gen`
  pub record EndsGen (number : ℕ) (status : Status) : Type 0 where
    pub unread : after.input ≡ before.input
    pub cause : IsOfOutput status
    pub output : EndsOutput h (λ text. text ≡ script_of number) before.output after.output status

  -- the input, the output and the steps, at this status of `trial`
  pub record EndsTrial (number : ℕ) (status : Status) : Type 0 where
    pub unread : after.input ≡ before.input
    pub run : RunsScript h (script_of number) before.output after.output
        before.steps after.steps status

  -- the keeper had no call
  abbrev pub IsUnkept : Type 0
  IsUnkept = after.keeper ≡ before.keeper

  -- no step was counted
  abbrev pub IsUncounted : Type 0
  IsUncounted = after.steps ≡ before.steps

  -- all of them, at this status of the command; only `apply` calls the keeper, and only it and
  -- `trial` take steps
  abbrev pub Ends : Command → Status → Type 0
  Ends (Cut cut) status = EndsCut cut status × IsUnkept × IsUncounted
  Ends (Apply store) status = EndsApply store status
  Ends (Gen number) status = EndsGen number status × IsUnkept × IsUncounted
  Ends (Trial number) status = EndsTrial number status × IsUnkept
  Ends (Path path) status =
      EndsPath g h path before.input after.input before.output after.output status
      × IsUnkept × IsUncounted
  Ends (Play plan) status = ⊥
  Ends (Hunt hunt) status = ⊥
  Ends (Audit audit) status = ⊥

-- the command runs no threads and opens no file
abbrev pub IsPlain : Command → Type 0
IsPlain (Play plan) = ⊥
IsPlain (Hunt hunt) = ⊥
IsPlain (Audit audit) = ⊥
IsPlain command = Unit {0}

-- memory was wanting to read the words, so no command was begun: nothing was read, written, kept or
-- counted
pub record EndsUnbegun {I O K : Type 0} (before after : Streams I O K) (status : Status)
    : Type 0 where
  pub wanting : status ≡ NoMemory
  pub untouched : after ≡ before

-- the status' line was written, or a first part of it where that failed
abbrev pub IsTold : {O : Type 0} → sink.Ghosts O → O → O → Status → Type 0
IsTold g old new status = Took g old new (line_of status) ⊎ FailedIn g old new (line_of status)
