-- What was found of commits, by the entries of a history.
use Rattle.std.specs.Prelude.{◌≡◌, ℕ, Bool, true, false, List, [], ◌∷◌, ◌++◌, option_to_list, Option, Some, None}
use Rattle.bisect_core.specs.Bisections.{Bisection, asked_by}
use Rattle.history_model.specs.{declared.entries.Entry.Entry, declared.entries.Placed.Placed, Jobs.{jobs, job_in}}
use Rattle.history_model.specs.declared.entries.Entry.TheVariants as entry
use Rattle.history_model.specs.declared.events.JobEvent.TheVariants as event
use Rattle.track_model.specs.Following.{asked_commit, named_by}

-- a commit by name, with the status of its test, or none where no test could be had
pub record Finding : Type 0 where
  pub commit : List ℕ
  pub status : Option ℕ

-- the name of the commit that a job asks, where it is there
abbrev pub named_asked : List Entry → Option Bisection → List ℕ
named_asked h None = []
named_asked h (Some b) = named_by h (asked_commit b)

abbrev pub asked_name : List Entry → ℕ → List ℕ
asked_name h job = named_asked h (job_in job (jobs h))

-- what an entry behind a history says that was found of the commit that its job asked
abbrev pub finding_of : List Entry → Entry → Option Finding
finding_of h (entry.Job (event.Answer job place status)) = Some (record { commit = asked_name h job; status = Some status })
finding_of h (entry.Job (event.GiveUp job place)) = Some (record { commit = asked_name h job; status = None })
finding_of h e = None

-- what entries behind a history say, in order
abbrev pub findings_behind : List Entry → List Placed → List Finding
findings_behind h [] = []
findings_behind h (p ∷ more) = option_to_list (finding_of h p.entry) ++ findings_behind (h ++ p.entry ∷ []) more

-- a job asks the commit of this name after a history
pub record AsksCommit (h : List Entry) (commit : List ℕ) : Type 0 where
  pub job : ℕ
  pub bisection : Bisection
  pub there : job_in job (jobs h) ≡ Some bisection
  pub place : ℕ
  pub asks : asked_by bisection.outcome ≡ Some place
  pub commit_is : commit ≡ named_by h (asked_commit bisection)

-- an entry gives a question up
abbrev pub gives_up : Entry → Bool
gives_up (entry.Job (event.GiveUp job place)) = true
gives_up e = false
