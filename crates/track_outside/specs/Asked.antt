-- What a runner of tests was asked, and what an ask makes of a runner in memory.
use Rattle.std.specs.Prelude.{◌≡◌, ◌⊎◌, ℕ, List, [], ◌∷◌, ◌++◌, Option, Some, None, Result, Ok, Err, Contains, bytes_eq, codes, decimal, if◌then◌else◌, map, option_map}
use Rattle.track_outside.specs.{Counts.one_more, declared.out_error.OutError.OutError, declared.out_error.OutError.TheVariants.{Failed, NoMemory}}

-- an ask: the word of the test, the name of the commit, and the status, None where it failed
pub record Ask : Type 0 where
  pub test : List ℕ
  pub commit : List ℕ
  pub status : Option ℕ

-- what is told, with one ask more
abbrev pub with_ask : Ask → Option (List Ask) → Option (List Ask)
with_ask ask told = option_map (λ asks. asks ++ ask ∷ []) told

-- the asks with one more, where it answered, if only that it failed
abbrev pub after_ask : List ℕ → List ℕ → Result ℕ OutError → Option (List Ask) → Option (List Ask)
after_ask test commit (Ok status) told =
    with_ask (record { test = test; commit = commit; status = Some status }) told
after_ask test commit (Err Failed) told =
    with_ask (record { test = test; commit = commit; status = None }) told
after_ask test commit (Err NoMemory) told = told

-- a commit by name, and the status of its test
pub record Verdict : Type 0 where
  pub commit : List ℕ
  pub status : ℕ

-- the status of the first verdict on the commit, if there is one
abbrev pub verdict_on : List ℕ → List Verdict → Option ℕ
verdict_on commit [] = None
verdict_on commit (verdict ∷ verdicts) =
    if bytes_eq verdict.commit commit then Some verdict.status else verdict_on commit verdicts

-- the verdicts on commits whose names are `c` and a number
abbrev pub verdicts_of : List (ℕ × ℕ) → List Verdict
verdicts_of answers =
    map (λ answer. record { commit = codes "c" ++ decimal answer.0; status = answer.1 }) answers

-- a runner in memory: its verdicts, what it was asked, the numbers of the calls that fail, counted
-- from 1, how many calls there were, and how many faults
pub record Bench : Type 0 where
  pub verdicts : List Verdict
  pub asks : List Ask
  pub fails : List ℕ
  pub calls : ℕ
  pub faults : ℕ

-- a runner before the first call
abbrev pub new_bench : List (ℕ × ℕ) → List ℕ → Bench
new_bench answers fails =
    record { verdicts = verdicts_of answers; asks = []; fails = fails; calls = 0; faults = 0 }

-- the next call is planned to fail
abbrev pub IsPlanned : Bench → Type 0
IsPlanned bench = Contains bench.fails (one_more bench.calls)

-- one ask more, which is counted
abbrev pub noted : Ask → Bench → Bench
noted ask bench = record bench { asks = bench.asks ++ ask ∷ []; calls = one_more bench.calls }

-- what an ask makes of a runner in memory: it fails exactly where it is planned to or there is no
-- verdict on the commit; else it gives the first. Want of memory changes nothing
abbrev pub Asks : List ℕ → List ℕ → Bench → Bench → Result ℕ OutError → Type 0
Asks test commit old new (Ok status) =
    (¬ IsPlanned old)
    × (verdict_on commit old.verdicts ≡ Some status)
    × (new ≡ noted (record { test = test; commit = commit; status = Some status }) old)
Asks test commit old new (Err Failed) =
    (IsPlanned old ⊎ (verdict_on commit old.verdicts ≡ None))
    × (new
    ≡ record (noted (record { test = test; commit = commit; status = None }) old) {
      faults = one_more old.faults;
    })
Asks test commit old new (Err NoMemory) = new ≡ old
