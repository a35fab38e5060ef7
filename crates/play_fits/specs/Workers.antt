-- What workers may add to the journals of a shared run, and what the asks of a runner have to do with
-- the entries of its worker.
use Rattle.std.specs.Prelude.{◌≡◌, ℕ, ◌+◌, ◌-◌, ◌^◌, ◌<◌, ◌≤◌, Bool, false, ◌==◌, ◌&&◌, List, [], ◌∷◌, ◌++◌, length, map, filter, min, sum_by, bytes_eq, All, Contains, option_to_list, if◌then◌else◌, Option, Some, None, IfSome}
use Rattle.track_outside.specs.Asked.{Ask}
use Rattle.history_model.specs.declared.entries.{Author.Author, Entry.Entry, Placed.Placed}
use Rattle.history_model.specs.declared.entries.Author.TheVariants as author
pub use Rattle.journal_lines.specs.Authors.{IsPublication, IsSettled, IsOneOf, Crew, MayAdd}
use Rattle.worker_model.specs.Findings.{AsksCommit, Finding, finding_of, gives_up}
use Rattle.play_model.specs.Replies.{first_of}

-- ---- what a worker that bisects found

abbrev pub is_bisector : ℕ → Author → Bool
is_bisector i (author.Bisect n) = n == i
is_bisector i other = false

-- what the worker of this number found, by its entries of a journal, behind a history
abbrev pub findings_behind : ℕ → List Entry → List Placed → List Finding
findings_behind i h [] = []
findings_behind i h (p ∷ more) =
    (if is_bisector i p.author then option_to_list (finding_of h p.entry) else [])
    ++ findings_behind i (h ++ p.entry ∷ []) more

abbrev pub findings : ℕ → List Placed → List Finding
findings i journal = findings_behind i [] journal

-- ---- and what its runner was asked

-- what an ask found
abbrev pub found_by : Ask → Finding
found_by ask = record { commit = ask.commit; status = ask.status }

-- an ask, and the machine that it was made for, if one of its journals has what it found
pub record Use : Type 0 where
  pub ask : Ask
  pub machine : Option (List ℕ)

abbrev pub is_for : List ℕ → Use → Bool
is_for machine u = is_it u.machine
  where
    is_it : Option (List ℕ) → Bool
    is_it None = false
    is_it (Some m) = bytes_eq m machine

-- what the asks found that were made for a machine, in order
abbrev pub found_for : List ℕ → List Use → List Finding
found_for machine uses = map (λ (u : Use). found_by u.ask) (filter (is_for machine) uses)

-- What the worker found is what its asks found: in each journal some of them, in order, and no ask
-- twice, nor in two journals.
pub record AreOfAsks (i : ℕ) (machines : List (List ℕ)) (journal : List ℕ → List Placed)
    (asks : List Ask) : Type 0 where
  pub uses : List Use
  pub of_asks : map (λ (u : Use). u.ask) uses ≡ asks
  pub found : (m : List ℕ) → Contains machines m → findings i (journal m) ≡ found_for m uses

-- an ask is one of the test of that word, on a commit that a job asked after some first entries of a
-- journal
pub record IsDue (word : List ℕ) (machines : List (List ℕ)) (journal : List ℕ → List Placed)
    (ask : Ask) : Type 0 where
  pub of_test : ask.test ≡ word
  pub machine : List ℕ
  pub declared : Contains machines machine
  pub count : ℕ
  pub within : count ≤ length (journal machine)
  pub asked : AsksCommit (first_of count (journal machine)) ask.commit

-- ---- questions that were given up

abbrev pub given_up_by : ℕ → Placed → Bool
given_up_by i p = is_bisector i p.author && gives_up p.entry

-- how many the worker gave up in a journal, and in those of all machines
abbrev pub give_ups : ℕ → List Placed → ℕ
give_ups i journal = length (filter (given_up_by i) journal)

abbrev pub all_give_ups : ℕ → List (List ℕ) → (List ℕ → List Placed) → ℕ
all_give_ups i machines journal = sum_by (λ m. give_ups i (journal m)) machines

-- a count rose by so much at least between two values, or stands at its last value
abbrev pub AreCounted : (many before after : ℕ) → Type 0
AreCounted many before after = min (before + many) (2 ^ 64 - 1) ≤ after

-- ---- a worker that bisects

-- these are the asks of the runner of this number; one without a worker is never asked
pub record AreAsksOf (i : ℕ) (crew : Crew) (word : List ℕ) (machines : List (List ℕ))
    (journal : List ℕ → List Placed) (asks : List Ask) : Type 0 where
  pub found : AreOfAsks i machines journal asks
  pub due : All (IsDue word machines journal) asks
  pub past : crew.bisect < i → asks ≡ []

-- a runner: its asks, where they are told, and its count of faults before and after
pub record Asked : Type 0 where
  pub asks : Option (List Ask)
  pub before : ℕ
  pub after : ℕ

-- the part of the worker of this number, whose runner it is
pub record IsBisector (i : ℕ) (crew : Crew) (word : List ℕ) (machines : List (List ℕ))
    (journal : List ℕ → List Placed) (runner : Asked) : Type 0 where
  pub asked : IfSome runner.asks (AreAsksOf i crew word machines journal)
  pub given_up : AreCounted (all_give_ups i machines journal) runner.before runner.after
