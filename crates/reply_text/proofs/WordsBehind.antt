-- Words behind words, and what begins with them.
use Rattle.std.proofs.{Common.{◌≡◌, ℕ, List, [], ◌∷◌, ◌++◌, Result, sym, ap, ◌∙◌, append_assoc, append-nil}, lemmas.Grind.flat_map-append}
use Rattle.std.proofs.lemmas.Result.{MatchResult-weaker}
use Rattle.request_model.specs.Lines.{spaced}
use Rattle.reply_text.specs.Puts.{Begins, Puts}

pub begins_behind : (old one new text : List ℕ) → one ≡ old ++ text → Begins one new → Begins old new
begins_behind old one new text first left =
    record { rest = text ++ left.rest; is = left.is ∙ ap (λ (t : List ℕ). t ++ left.rest) first ∙ append_assoc old text left.rest }

pub begins_same : (old new : List ℕ) → new ≡ old → Begins old new
begins_same old new same = record { rest = []; is = same ∙ sym (append-nil old) }

pub more_words : (old one new : List ℕ) (a b : List (List ℕ)) → one ≡ old ++ spaced a → new ≡ one ++ spaced b → new ≡ old ++ spaced (a ++ b)
more_words old one new a b first last =
    last ∙ ap (λ (text : List ℕ). text ++ spaced b) first ∙ append_assoc old (spaced a) (spaced b) ∙ ap (λ (text : List ℕ). old ++ text) (sym (flat_map-append (λ (w : List ℕ). 32 ∷ w) a b))

pub puts_more : {T E : Type 0} (result : Result T E) (old one new : List ℕ) (a b : List (List ℕ)) → one ≡ old ++ spaced a → Puts result one new (spaced b) → Puts result old new (spaced (a ++ b))
puts_more result old one new a b first last =
    MatchResult-weaker result last (λ done put. more_words old one new a b first put) (λ fault left. begins_behind old one new (spaced a) first left)
