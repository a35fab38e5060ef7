use Rattle.std.{proofs.Common.{◌≡◌, ◌≢◌, ◌++◌, ℕ, List, Option, Some, None, ap, sym, ◌∙◌}, specs.Prelude.IfNone}
use Rattle.request_model.specs.declared.replies.Reply.{Reply}
use Rattle.reply_text.specs.Replies.{text_of}
use Rattle.play_audit.proofs.text.begins_with.Goals as goal

begins-none : (text front : List ℕ) (r : Reply) → front ≡ text_of r → (found : Option ℕ) → IfNone found ((rest : List ℕ) → text ≢ front ++ rest)
    → IfNone found ((rest : List ℕ) → text ≢ text_of r ++ rest)
begins-none text front r is (Some len) none = tt
begins-none text front r is None none = λ rest other. none rest (other ∙ ap (λ (l : List ℕ). l ++ rest) (sym is))

pub returns-clause-none : goal.returns-clause-none
returns-clause-none c = begins-none c.args.transcript.now c.deref.result.now c.args.reply (c.deref.ensures.value ∙ c.in_ok-text.ensures) c.front_len.result c.front_len.ensures.none
