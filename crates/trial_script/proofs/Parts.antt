-- The parts of the script of a number: their texts, and what each asks.
use Rattle.std.{proofs.Common.{ℕ, pos, List, [], ◌∷◌, None}, specs.Prelude.codes}
use Rattle.request_model.specs.declared.requests.Request.{Request}
use Rattle.request_model.specs.declared.requests.Request.TheVariants as request
use Rattle.series_gen.specs.Script.{line, in_turn, commit_line, turn, retract_line}
use Rattle.trial_script.specs.Requests as asked
use Rattle.trial_script.specs.Requests.{asked_in_turn}

-- ---- texts

abbrev pub machine_text : List ℕ
machine_text = line (codes "machine g")

abbrev pub commit_texts : List ℕ
commit_texts = in_turn commit_line 500

abbrev pub tune_text : List ℕ
tune_text = line (codes "tune g ns/op 300000000000")

abbrev pub run_texts : ℕ → List ℕ
run_texts number = in_turn (turn number) 2_000

abbrev pub retract_texts : List ℕ
retract_texts = in_turn retract_line 10

abbrev pub changes_text : List ℕ
changes_text = line (codes "changes g G ns/op")

-- ---- requests

abbrev pub machine_asked : List Request
machine_asked = request.Machine asked.machine ∷ []

abbrev pub commits_asked : List Request
commits_asked = asked_in_turn asked.commit 500

abbrev pub tune_asked : List Request
tune_asked = request.Tune asked.machine asked.metric (pos 300_000_000_000) None ∷ []

abbrev pub runs_asked : ℕ → List Request
runs_asked number = asked_in_turn (asked.turn number) 2_000

abbrev pub retracts_asked : List Request
retracts_asked = asked_in_turn asked.retract 10

abbrev pub segment_asked : List Request
segment_asked = asked.segment ∷ []

abbrev pub changes_asked : List Request
changes_asked = request.Changes asked.machine asked.test asked.metric ∷ []
