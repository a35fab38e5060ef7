-- A word without `%`.
use Rattle.std.{proofs.Common.{◌≡◌, ◌≢◌, ℕ, List, [], ◌∷◌, ap, ◌∙◌, suc}, specs.Prelude.slice_index}
use Rattle.percent_encoding.{specs.Percent.percent_decode, proofs.PercentLemmas.{percent_decode-nil, percent_decode_not_percent}}
use Rattle.line_text.specs.Names.{IsName, Spells}

-- it stands for its own bytes
pub stands-for-itself : (word : List ℕ) → ((k : ℕ) → slice_index word k ≢ 37) → percent_decode word ≡ word
stands-for-itself [] none = percent_decode-nil
stands-for-itself (b ∷ word) none = percent_decode_not_percent b word (none 0) ∙ ap (λ rest. b ∷ rest) (stands-for-itself word (λ k. none (suc k)))

-- it spells the name that it is
pub spells-itself : (name : List ℕ) → IsName name → ((k : ℕ) → slice_index name k ≢ 37) → Spells name name
spells-itself name is none = record { escapes = λ k percent. absurd (none k percent); decoded = stands-for-itself name none; named = is }
