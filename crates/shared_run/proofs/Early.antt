-- Private: no public contract cites this. How a run ends where its scripts weren't begun.
use Rattle.std.{proofs.Common.{◌≡◌, ◌≢◌, List, Err, arith}, specs.Prelude.Result, specs.List.AllByRecursion, proofs.lemmas.Grind.common_steps}
use Rattle.command_words.specs.Plans.{Plan}
use Rattle.play_fits.specs.Workers.{Asked}
use Rattle.worker_crew.specs.Fitting.{IsUnasked}
use Rattle.shared_run.specs.{declared.stop.RunStop.RunStop, Beginnings.{MayBeStarted, NoneCause, WasStarted}, Endings.{Objects, Told, EndsEarly}, Ran.NotRun}
use Rattle.shared_run.specs.declared.stop.RunStop.TheVariants as run

-- an error that isn't one is another
abbrev failing : {A : Type 0} → RunStop → Result A RunStop
failing why = Err why

inner : {A : Type 0} (why : RunStop) → failing {A = A} why ≡ failing {A = A} run.NoMemory → why ≡ run.NoMemory
inner why is = cc

module _ {F I O K : Type 0} (t : Told F I O K) (plan : Plan) (asked : List Asked) (unasked : AllByRecursion IsUnasked asked) (files : F) (out : O) (first : K) where
  abbrev before : Objects F O K
  before = record { files = files; out = out; keeper = first }

  -- there are no machines to begin with
  pub no-machines : {A : Type 0} (last : K) (why : RunStop) (result : Result A RunStop) → result ≡ failing why → NoneCause t.keeper plan first last why → t.keeper.kept last ≡ t.keeper.kept first
      → (result ≢ failing run.NoMemory → WasStarted t.keeper plan.store first last) → MayBeStarted t.keeper plan.store first last
      → EndsEarly t plan asked before (record { files = files; out = out; keeper = last }) why
  no-machines last why result is cause rows started once = grind (arith, common_steps)

  -- the scripts weren't run on them
  pub no-scripts : (last : K) (now : F) (why : RunStop) → NotRun t.files plan.scripts files now why → t.keeper.kept last ≡ t.keeper.kept first
      → WasStarted t.keeper plan.store first last → EndsEarly t plan asked before (record { files = now; out = out; keeper = last }) why
  no-scripts last now why not-run rows started = grind (arith, common_steps)
