-- Private: no public contract cites this. The text of a reply by its step and the first byte of its answer.
use Rattle.std.proofs.Common.{◌≡◌, ℕ, List, [], ◌∷◌, ◌++◌, decimal, refl, ap, ◌∙◌, append_assoc}
use Rattle.request_model.specs.{Lines.{line_of, spaced}, declared.replies.Answer.Answer, declared.replies.Refusal.Refusal}
use Rattle.request_model.specs.declared.replies.Answer.TheVariants as answer
use Rattle.request_model.specs.declared.replies.Refusal.TheVariants as refusal
use Rattle.reply_text.specs.Replies.{at, answer_words, refusal_words, text_behind}
use Rattle.reply_laws.specs.{Kinds.{Names, tells_none, tells_by_letter}, Laws.RepliesAreNamed}

-- words, the first of which begins with this byte
record Begins (words : List (List ℕ)) (letter : ℕ) : Type 0 where
  rest : List ℕ
  others : List (List ℕ)
  is : words ≡ (letter ∷ rest) ∷ others

named : (step : ℕ) (words : List (List ℕ)) (behind : List ℕ) (letter : ℕ) → Begins words letter → Names (line_of (at step ∷ words) ++ behind) step letter
named step words behind letter b = record {
  more = ((b.rest ++ spaced b.others) ++ 10 ∷ []) ++ behind;
  text_is =
      ap (λ (ws : List (List ℕ)). line_of (at step ∷ ws) ++ behind) b.is
      ∙ ap (λ (l : List ℕ). 64 ∷ l) (append_assoc (decimal step) (32 ∷ letter ∷ ((b.rest ++ spaced b.others) ++ 10 ∷ [])) behind);
}

refused : (r : Refusal) → Begins (refusal_words r) 69
refused refusal.BadRequest = record { rest = _; others = _; is = refl }
refused refusal.BadName = record { rest = _; others = _; is = refl }
refused refusal.UnknownMachine = record { rest = _; others = _; is = refl }
refused refusal.UnknownCommit = record { rest = _; others = _; is = refl }
refused (refusal.CommitTaken number name) = record { rest = _; others = _; is = refl }
refused (refusal.NotText offset) = record { rest = _; others = _; is = refl }
refused (refusal.NotJson offset) = record { rest = _; others = _; is = refl }
refused (refusal.NotReport rule member) = record { rest = _; others = _; is = refl }
refused (refusal.OutOfRange place) = record { rest = _; others = _; is = refl }
refused (refusal.IdentityClash step) = record { rest = _; others = _; is = refl }
refused refusal.UnknownRun = record { rest = _; others = _; is = refl }
refused (refusal.AlreadyRetracted step) = record { rest = _; others = _; is = refl }
refused refusal.UnknownSeries = record { rest = _; others = _; is = refl }
refused refusal.NothingPublished = record { rest = _; others = _; is = refl }
refused (refusal.NoSuchChange count) = record { rest = _; others = _; is = refl }
refused refusal.UnknownRegression = record { rest = _; others = _; is = refl }
refused (refusal.IllegalMove before after) = record { rest = _; others = _; is = refl }
refused refusal.UnknownJob = record { rest = _; others = _; is = refl }
refused (refusal.NotAsked commit) = record { rest = _; others = _; is = refl }
refused refusal.BadRange = record { rest = _; others = _; is = refl }
refused (refusal.Full limit) = record { rest = _; others = _; is = refl }
refused refusal.BadLength = record { rest = _; others = _; is = refl }
refused refusal.BadPenalty = record { rest = _; others = _; is = refl }
refused (refusal.TooFewPoints points) = record { rest = _; others = _; is = refl }
refused (refusal.Stale version) = record { rest = _; others = _; is = refl }
refused (refusal.JobClosed outcome) = record { rest = _; others = _; is = refl }
refused refusal.BodyTooLong = record { rest = _; others = _; is = refl }
refused refusal.OnlyAlone = record { rest = _; others = _; is = refl }
refused (refusal.TooDeep offset) = record { rest = _; others = _; is = refl }
refused (refusal.JobOpen commit) = record { rest = _; others = _; is = refl }

-- the first byte of an answer
abbrev letter_of : Answer → ℕ
letter_of (answer.Machine machine) = 109
letter_of (answer.Commit number name) = 99
letter_of (answer.Duplicate step) = 100
letter_of (answer.Accepted name samples ignored) = 97
letter_of (answer.Retracted name) = 114
letter_of (answer.Tuned metric penalty len) = 116
letter_of (answer.Segmented version base points cuts redone total) = 115
letter_of (answer.Changes version metric items) = 99
letter_of (answer.Verified version cert) = 118
letter_of (answer.Raised regression) = 114
letter_of (answer.Moved regression before after) = 114
letter_of (answer.Job job range questions outcome) = 106
letter_of (answer.Runs lines) = 114
letter_of (answer.Report pages) = 114
letter_of (answer.Refused reason) = 69

answered : (a : Answer) → Begins (answer_words a) (letter_of a) × (tells_by_letter (letter_of a) ≡ tells_none a)
answered (answer.Machine machine) = (record { rest = _; others = _; is = refl }, refl)
answered (answer.Commit number name) = (record { rest = _; others = _; is = refl }, refl)
answered (answer.Duplicate step) = (record { rest = _; others = _; is = refl }, refl)
answered (answer.Accepted name samples ignored) = (record { rest = _; others = _; is = refl }, refl)
answered (answer.Retracted name) = (record { rest = _; others = _; is = refl }, refl)
answered (answer.Tuned metric penalty len) = (record { rest = _; others = _; is = refl }, refl)
answered (answer.Segmented version base points cuts redone total) = (record { rest = _; others = _; is = refl }, refl)
answered (answer.Changes version metric items) = (record { rest = _; others = _; is = refl }, refl)
answered (answer.Verified version cert) = (record { rest = _; others = _; is = refl }, refl)
answered (answer.Raised regression) = (record { rest = _; others = _; is = refl }, refl)
answered (answer.Moved regression before after) = (record { rest = _; others = _; is = refl }, refl)
answered (answer.Job job range questions outcome) = (record { rest = _; others = _; is = refl }, refl)
answered (answer.Runs lines) = (record { rest = _; others = _; is = refl }, refl)
answered (answer.Report pages) = (record { rest = _; others = _; is = refl }, refl)
answered (answer.Refused reason) = (refused reason, refl)

pub replies_named : RepliesAreNamed
replies_named reply = record {
  letter = letter_of reply.answer;
  names = named reply.step (answer_words reply.answer) (text_behind reply.answer) (letter_of reply.answer) (answered reply.answer).0;
  kind = (answered reply.answer).1;
}
