use Rattle.std.{proofs.Common.{ℕ, List, [], ◌∷◌, ◌++◌, codes, decimal, FitsSigned, rules}, specs.Fmt.signed_decimal, specs.Int.w128}
use Rattle.std.proofs.lemmas.Int.{to_z-of_z}
use Rattle.regression_state.specs.Moves.{word}
use Rattle.report_model.specs.Outcomes.{outcome_text}
use Rattle.reply_text.{specs.Replies.version_words, proofs.WordsBehind.{more_words, puts_more}}
use Rattle.reply_text.proofs.answer.put_answer.Goals as goal

pub returns-in_ok-put_three-in-Segmented : goal.returns-in_ok-put_three-in-Segmented
returns-in_ok-put_three-in-Segmented c =
    let fits : FitsSigned w128 c.in-Segmented.total = search rules in
    let head = version_words (codes "segmented") c.in-Segmented.version in
    let sizes : List (List ℕ) = codes "base" ∷ decimal c.in-Segmented.base ∷ codes "points" ∷ decimal c.in-Segmented.points ∷ codes "cuts" ∷ decimal c.in-Segmented.cuts ∷ [] in
    let effort : List (List ℕ) = codes "redone" ∷ decimal c.in-Segmented.redone ∷ codes "total" ∷ signed_decimal c.in-Segmented.total ∷ [] in
    let both = more_words _ _ _ head sizes c.in_ok-put_version-in-Segmented.ensures c.in_ok-put_three-in-Segmented.ensures in
    rw c.in-Segmented.is (puts_more c.put_effort.result _ _ _ (head ++ sizes) effort both (rw (to_z-of_z w128 c.in-Segmented.total fits) at c.put_effort.ensures))

pub returns-in_ok-put_counted-in-Moved : goal.returns-in_ok-put_counted-in-Moved
returns-in_ok-put_counted-in-Moved c =
    rw c.in-Moved.is (puts_more c.put_move.result _ _ _ (codes "regression" ∷ decimal c.in-Moved.regression ∷ []) (word c.in-Moved.from ∷ word c.in-Moved.to ∷ [])
    c.in_ok-put_counted-in-Moved.ensures c.put_move.ensures)

pub returns-in_ok-put_three-in-Job : goal.returns-in_ok-put_three-in-Job
returns-in_ok-put_three-in-Job c =
    let job : List (List ℕ) = codes "job" ∷ decimal c.in-Job.job ∷ codes "range" ∷ decimal c.in-Job.range ∷ codes "questions" ∷ decimal c.in-Job.questions ∷ [] in
    rw c.in-Job.is (puts_more c.put_outcome.result _ _ _ job (outcome_text c.in-Job.outcome ∷ []) c.in_ok-put_three-in-Job.ensures c.put_outcome.ensures)
