-- How a hunt ends, and that what is due comes.
use Rattle.std.proofs.Common.{◌≡◌, ℕ, ◌<◌, ◌≤◌, ◌⊎◌, inl, inr, List, length, Option, None, Some, IfSome, refl, sym, ap, subst, ◌∙◌, lt-ltb, le-ltb}
use Rattle.track_outside.specs.Counts.{Rose}
use Rattle.track_outside.specs.declared.source.Source as source
use Rattle.track_outside.specs.declared.sink.Sink as sink
use Rattle.track_outside.specs.declared.runner.Runner as runner
use Rattle.line_pieces.specs.declared.stop.Refusal.TheVariants as refusal
use Rattle.line_pieces.specs.declared.stop.Stop.{Stop}
use Rattle.line_pieces.specs.declared.stop.Stop.TheVariants as stop
use Rattle.commit_lines.specs.{Reading.AreNamesOfInput, Stops.{BytesShow, OneStop, OneListOfNames, NoStopOfNames}}
use Rattle.hunt_command.specs.{Endings.{EndsHunt as PutsHunt, HasCause}, declared.end.HuntEnd.HuntEnd}
use Rattle.tracker_top.specs.{Statuses.status_of, declared.status.Status.Status}
use Rattle.hunt_command.specs.declared.end.HuntEnd.TheVariants as hunt
use Rattle.command_words.specs.{declared.command.HuntPlan.HuntPlan, declared.command.Command.TheVariants.Hunt, Commands.{AreNoCommand, IsSpelled}}
use Rattle.tracker_top.specs.declared.status.Status.TheVariants.{Done, BadWords, NoMemory, InputTooLong, BadLine, Full, TooFew}
use Rattle.tracker_top.specs.Hunts.{HuntShows, HuntsAsDue, IsHuntDue, counted_status, hunt_status_of}

-- a hunt never ends as bad words do
pub never-bad-hunt : (why : HuntEnd) → hunt_status_of why ≡ BadWords → ⊥
never-bad-hunt hunt.Done is = cc
never-bad-hunt hunt.WriteFault is = cc
never-bad-hunt (hunt.TooFew count) is = cc
never-bad-hunt (hunt.Stopped stop.Fault) is = cc
never-bad-hunt (hunt.Stopped stop.TooLong) is = cc
never-bad-hunt (hunt.Stopped (stop.Refused refusal.Bad k)) is = cc
never-bad-hunt (hunt.Stopped (stop.Refused refusal.Full k)) is = cc
never-bad-hunt (hunt.Stopped stop.NoMemory) is = cc

-- as many runners stand there
pub as-many : {O R : Type 0} (h : sink.Ghosts O) (n : runner.Ghosts R) (left : Option (List ℕ)) (test : List ℕ) (width : ℕ) (out out' : O) (old new : List R) (why : HuntEnd)
    → PutsHunt h n left test width out out' old new why → length new ≡ length old
as-many h n left test width out out' old new hunt.Done ends = ends.2.hunted.goes.asked.kept
as-many h n left test width out out' old new hunt.WriteFault ends = ends.2.hunted.goes.asked.kept
as-many h n left test width out out' old new (hunt.Stopped stop.NoMemory) (untouched, inl same) = ap length same
as-many h n left test width out out' old new (hunt.Stopped stop.NoMemory) (untouched, inr (names, are, asked)) = asked.kept
as-many h n left test width out out' old new (hunt.Stopped stop.Fault) ends = ap length ends.1
as-many h n left test width out out' old new (hunt.Stopped stop.TooLong) ends = ap length ends.1
as-many h n left test width out out' old new (hunt.Stopped (stop.Refused why k)) ends = ap length ends.1
as-many h n left test width out out' old new (hunt.TooFew count) ends = ap length ends.1

-- ---- what the bytes show

few : (names : List (List ℕ)) → length names < 2 → TooFew (length names) ≡ counted_status (length names)
few names less = rw (lt-ltb (length names) 2 less) refl

enough : (names : List (List ℕ)) → 2 ≤ length names → Done ≡ counted_status (length names)
enough names more = rw (le-ltb (length names) 2 more) refl

names_show : (known : Option (List ℕ)) (names : List (List ℕ)) (status : Status) → AreNamesOfInput known names → status ≡ counted_status (length names)
    → IfSome known (λ bytes. HuntShows bytes status)
names_show None names status are is = tt
names_show (Some bytes) names status are is = inl (names, are, is)

stop_shows : (known : Option (List ℕ)) (why : Stop) → IfSome known (λ bytes. BytesShow bytes why) → IfSome known (λ bytes. HuntShows bytes (status_of why))
stop_shows None why show = tt
stop_shows (Some bytes) why show = inr (why, refl, show)

if_some : {P : List ℕ → Type 0} (known : Option (List ℕ)) → ((bytes : List ℕ) → P bytes) → IfSome known P
if_some None all = tt
if_some (Some bytes) all = all bytes

-- words that are no command
pub bad-hunt-due : {I O : Type 0} (g : source.Ghosts I) (h : sink.Ghosts O) (words : List (List ℕ)) (old new : I) (before after : O) → AreNoCommand words
    → HuntsAsDue g h words old new before after BadWords
bad-hunt-due g h words old new before after none = if_some (g.left old) comes
  where
    comes : (bytes : List ℕ) (due : Status) → IsHuntDue words bytes due
        → (BadWords ≡ due) ⊎ (BadWords ≡ NoMemory) ⊎ Rose (g.faults old) (g.faults new) ⊎ Rose (h.faults before) (h.faults after)
    comes bytes due (inl (is, its)) = inl (sym is)
    comes bytes due (inr (plan, spelled, shown)) = absurd (none (Hunt plan) spelled)

pub wanting-hunt-due : {I O : Type 0} (g : source.Ghosts I) (h : sink.Ghosts O) (words : List (List ℕ)) (old new : I) (before after : O)
    → HuntsAsDue g h words old new before after NoMemory
wanting-hunt-due g h words old new before after = if_some (g.left old) (λ bytes due is. inr (inl refl))

-- ---- what is due comes

module _ {I O R : Type 0} (g : source.Ghosts I) (h : sink.Ghosts O) (n : runner.Ghosts R) (words : List (List ℕ)) (old new : I) (before after : O) (runners runners' : List R) (one_stop : OneStop) (one_list : OneListOfNames) (no_stop : NoStopOfNames) (plan : HuntPlan) (spelled : IsSpelled words (Hunt plan)) where
  once : (bytes : List ℕ) (one other : Status) → HuntShows bytes one → HuntShows bytes other → one ≡ other
  once bytes one other (inl (names, are, is)) (inl (others, too, its)) =
      is ∙ ap (λ (ns : List (List ℕ)). counted_status (length ns)) (one_list bytes names others are too) ∙ sym its
  once bytes one other (inl (names, are, is)) (inr (why, its, shown)) = absurd (no_stop bytes names why are shown)
  once bytes one other (inr (why, is, shown)) (inl (names, are, its)) = absurd (no_stop bytes names why are shown)
  once bytes one other (inr (why, is, shown)) (inr (next, its, told)) =
      is ∙ ap (λ (w : Stop). status_of w) (one_stop bytes why next shown told) ∙ sym its

  due_shown : (bytes : List ℕ) (result due : Status) → HuntShows bytes result → IsHuntDue words bytes due → result ≡ due
  due_shown bytes result due shows (inl (is, none)) = absurd (none (Hunt plan) spelled)
  due_shown bytes result due shows (inr (other, its, shown)) = once bytes result due shows shown

  shown : (known : Option (List ℕ)) (result : Status) (F W : Type 0) → IfSome known (λ bytes. HuntShows bytes result)
      → IfSome known (λ bytes. (due : Status) → IsHuntDue words bytes due → (result ≡ due) ⊎ (result ≡ NoMemory) ⊎ F ⊎ W)
  shown None result F W shows = tt
  shown (Some bytes) result F W shows = λ due is. inl (due_shown bytes result due shows is)

  abbrev Comes : Status → Type 0
  Comes result = HuntsAsDue g h words old new before after result

  comes : (result : Status) → IfSome (g.left old) (λ bytes. HuntShows bytes result) → Comes result
  comes result shows = shown (g.left old) result _ _ shows

  pub hunt-due : (why : HuntEnd) → HasCause g old new why → PutsHunt h n (g.left old) plan.test plan.width before after runners runners' why → Comes (hunt_status_of why)
  hunt-due hunt.Done cause output = comes Done (names_show (g.left old) output.0 Done output.2.names_are (enough output.0 output.2.many))
  hunt-due (hunt.Stopped stop.Fault) cause output = if_some (g.left old) (λ bytes due is. inr (inr (inl cause.0)))
  hunt-due hunt.WriteFault cause output = if_some (g.left old) (λ bytes due is. inr (inr (inr output.3.rose)))
  hunt-due (hunt.Stopped stop.NoMemory) cause output = if_some (g.left old) (λ bytes due is. inr (inl refl))
  hunt-due (hunt.Stopped stop.TooLong) cause output = comes (InputTooLong 0) (stop_shows (g.left old) stop.TooLong cause)
  hunt-due (hunt.Stopped (stop.Refused refusal.Bad k)) cause output = comes (BadLine k) (stop_shows (g.left old) (stop.Refused refusal.Bad k) cause)
  hunt-due (hunt.Stopped (stop.Refused refusal.Full k)) cause output = comes (Full k) (stop_shows (g.left old) (stop.Refused refusal.Full k) cause)
  hunt-due (hunt.TooFew count) cause output =
      comes (TooFew count) (names_show (g.left old) cause.1.0 (TooFew count) cause.1.1
      (ap TooFew (sym cause.1.2) ∙ few cause.1.0 (subst (λ (m : ℕ). m < 2) (sym cause.1.2) cause.0)))
