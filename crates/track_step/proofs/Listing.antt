-- The lines of the stored runs are those of the accepted runs.
use Rattle.std.{proofs.Common.{◌≡◌, List, [], ◌∷◌, map, refl, ap, ◌∙◌, Option, Some, None}, specs.Prelude.{is_none, option_map}}
use Rattle.history_model.specs.{declared.entries.Acceptance.Acceptance, declared.entries.Entry.Entry, Commits.declarations}
use Rattle.request_model.specs.declared.runs.RunLine.{RunLine}
use Rattle.track_model.specs.Forms.{run_line}
use Rattle.history_model.specs.Runs.{Retraction, acceptances, retractions, retracted}
use Rattle.track_follow.specs.Indexes.{stored, stored_runs}
use Rattle.track_step.specs.Lines.{line_of}

pub lines-are : (h : List Entry) → map (line_of (declarations h)) (stored_runs h) ≡ map (run_line h) (acceptances h)
lines-are h = each (acceptances h)
  where
    same : (o : Option Retraction) → is_none (option_map (λ (r : Retraction). r.step) o) ≡ is_none o
    same None = refl
    same (Some r) = refl

    one : (a : Acceptance) → line_of (declarations h) (stored (retractions h) a) ≡ run_line h a
    one a = ap (λ b. let l : RunLine = record { run = (run_line h a).run; commit = (run_line h a).commit; samples = (run_line h a).samples; live = b } in l) (same (retracted a.run.run h))

    each : (runs : List Acceptance) → map (line_of (declarations h)) (map (stored (retractions h)) runs) ≡ map (run_line h) runs
    each [] = refl
    each (a ∷ runs) =
        ap (λ l. l ∷ map (line_of (declarations h)) (map (stored (retractions h)) runs)) (one a) ∙ ap (λ ls. run_line h a ∷ ls) (each runs)
