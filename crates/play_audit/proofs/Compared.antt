-- Private: no public contract cites this. A transcript that was compared with the one reply that may stand next in it.
use Rattle.std.proofs.lemmas.Grind.{common_steps}
use Rattle.std.{proofs.Common.{◌≡◌, ◌≢◌, ℕ, List, ◌++◌, length, drop, Option, Some, None, Ok, sym, ap, ◌∙◌, arith}, specs.Prelude.{IfNone, IfOk, IfSome, Result}}
use Rattle.request_model.specs.declared.replies.Reply.{Reply}
use Rattle.reply_text.specs.Replies.{text_of}
use Rattle.play_audit.specs.{Replies.{HasNone, IsCompared, IsNext}, Texts.BeginsWith}

begins_of : (transcript text : List ℕ) (r : Reply) (len : ℕ) → text ≡ text_of r → len ≡ length text → transcript ≡ text ++ drop len transcript → BeginsWith transcript r len
begins_of transcript text r len is size split = grind (arith, common_steps)

begins_not : (transcript text : List ℕ) (r : Reply) → text ≡ text_of r → ((rest : List ℕ) → transcript ≢ text ++ rest) → (rest : List ℕ) → transcript ≢ text_of r ++ rest
begins_not transcript text r is none rest other = none rest (other ∙ ap (λ (l : List ℕ). l ++ rest) (sym is))

module _ (Fits : Reply → Type 0) (text : List ℕ) (step : ℕ) (r : Reply) (next : (len : ℕ) → BeginsWith text r len → IsNext Fits text step len)
    (nowhere : ((rest : List ℕ) → text ≢ text_of r ++ rest) → HasNone Fits text step) where
  -- by its length, if it stands in front
  pub compared : {E : Type 0} (found : Result (Option ℕ) E) → IfOk found (λ o. IfSome o (BeginsWith text r)) → IfOk found (λ o. IfNone o ((rest : List ℕ) → text ≢ text_of r ++ rest))
      → IsCompared Fits text step found
  compared found begins other = grind (arith, common_steps)

  -- by that of its text
  pub compared_front : {E : Type 0} (front : List ℕ) → front ≡ text_of r → (found : Option ℕ) → IfSome found (λ len. (len ≡ length front) × (text ≡ front ++ drop len text))
      → IfNone found ((rest : List ℕ) → text ≢ front ++ rest) → IsCompared {E = E} Fits text step (Ok found)
  compared_front front is (Some len) f other = record { some = next len (begins_of text front r len is f.0 f.1); none = tt }
  compared_front front is None f other = record { some = tt; none = nowhere (begins_not text front r is other) }
