-- A history with a publication, and what it answers without it.
use Rattle.std.proofs.Common.{◌≡◌, pos, List, [], ◌∷◌, refl}
use Rattle.history_model.specs.declared.entries.Entry.{Entry}
use Rattle.history_model.specs.declared.entries.Entry.TheVariants as entry
use Rattle.request_model.specs.declared.replies.Answer.TheVariants as answer
use Rattle.track_model.specs.{Forms.{commit, retract}, Outcomes.tells}
use Rattle.request_model.specs.declared.replies.Refusal.TheVariants as refusal
use Rattle.keep_rows.specs.Kept.{kept_entries}
use Rattle.kept_replies.specs.Replies.{kept_step, kept_answer}

history : List Entry
history =
    entry.Commit 1 (7 ∷ [])
    ∷ entry.Accept (record { run = 5 ∷ []; commit = 1; samples = [] })
    ∷ entry.Publish (record { test = 3 ∷ []; metric = 4 ∷ []; version = 2; base = 0; total = pos 0; cuts = [] })
    ∷ entry.Commit 2 (8 ∷ [])
    ∷ entry.Retract (5 ∷ [])
    ∷ []

third_is_left_out : kept_step history 4 ≡ 3
unfolding history
third_is_left_out = refl

again : commit history 2 (8 ∷ []) ≡ tells (answer.Duplicate 4)
unfolding history
again = refl

again_kept : commit (kept_entries history) 2 (8 ∷ []) ≡ tells (kept_answer history (answer.Duplicate 4))
unfolding history
again_kept = refl

taken_back : retract history (5 ∷ []) ≡ tells (answer.Refused (refusal.AlreadyRetracted 5))
unfolding history
taken_back = refl

taken_back_kept : retract (kept_entries history) (5 ∷ []) ≡ tells (answer.Refused (refusal.AlreadyRetracted 4))
unfolding history
taken_back_kept = refl
