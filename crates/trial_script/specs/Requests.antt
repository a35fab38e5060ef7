-- What the script of a number asks: one machine with 500 commits, its penalty, 2,000 runs of one sample each with a
-- segmentation after each hundredth, ten retractions, and at last a segmentation and its changes.
use Rattle.std.specs.Prelude.{ℕ, zero, suc, pos, ◌+◌, ◌*◌, ◌%◌, List, [], ◌∷◌, ◌++◌, ◌==◌, if◌then◌else◌, codes, decimal, map, None, Ok}
use Rattle.sample_model.specs.Samples.{Measurement}
use Rattle.request_model.specs.declared.requests.Request.{Request}
use Rattle.request_model.specs.declared.requests.Request.TheVariants as request
use Rattle.request_words.specs.Bodies.{Item}
use Rattle.series_gen.specs.Script.{state_after, place, value}

-- the names of the one machine, of the one test and of its metric
abbrev pub machine : List ℕ
machine = codes "g"

abbrev pub test : List ℕ
test = codes "G"

abbrev pub metric : List ℕ
metric = codes "ns/op"

-- the names of commit i and of run j
abbrev pub commit_name : ℕ → List ℕ
commit_name i = codes "c" ++ decimal i

abbrev pub run_name : ℕ → List ℕ
run_name j = codes "r" ++ decimal j

-- what is asked for 0, then for 1, and so on, n times
unfoldable pub asked_in_turn : (ℕ → List Request) → ℕ → List Request
asked_in_turn asked zero = []
asked_in_turn asked (suc n) = asked_in_turn asked n ++ asked n

abbrev pub commit : ℕ → List Request
commit i = request.Commit machine i (commit_name i) ∷ []

-- the sample of a value, in the ten thousandths of the metric
abbrev pub sample : ℕ → Measurement
sample v = record { test = test; metric = metric; value = pos (v * 10_000) }

abbrev pub submit : ℕ → ℕ → Request
submit j v = request.Submit machine (commit_name (place j)) (run_name j) (sample v ∷ []) 0 None

abbrev pub segment : Request
segment = request.Segment machine test metric

-- run j, and a segmentation after each hundredth
abbrev pub turn : ℕ → ℕ → List Request
turn number j =
    submit j (value (place j) (state_after number (suc j))) ∷ (if (j + 1) % 100 == 0 then segment ∷ [] else [])

abbrev pub retract : ℕ → List Request
retract i = request.Retract machine (run_name (200 * i)) ∷ []

-- all of it
abbrev pub requests : ℕ → List Request
requests number =
    (request.Machine machine ∷ [])
    ++ asked_in_turn commit 500
    ++ (request.Tune machine metric (pos 300_000_000_000) None ∷ [])
    ++ asked_in_turn (turn number) 2_000
    ++ asked_in_turn retract 10
    ++ (segment ∷ [])
    ++ (request.Changes machine test metric ∷ [])

-- as it is read
abbrev pub items : ℕ → List Item
items number = map (λ q. Ok q) (requests number)
