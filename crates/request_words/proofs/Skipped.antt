-- A line that is skipped has no form.
use Rattle.std.proofs.{Common.{◌≡◌, ℕ, List, [], ◌∷◌, length, true, not, refl, ap, arith, ne_eqb, inr}, lemmas.Grind.common_steps}
use Rattle.line_text.specs.Lines.{is_word}
use Rattle.request_words.specs.{Forms.HasNoForm, Items.{IsSkipped, Counts}}

abbrev first_byte : List (List ℕ) → ℕ
first_byte [] = 0
first_byte ([] ∷ words) = 0
first_byte ((b ∷ word) ∷ words) = b

a_word : (b : ℕ) (bytes : List ℕ) → is_word (b ∷ bytes) ≡ true
a_word b bytes = ap not (ne_eqb (length (b ∷ bytes)) 0 (omega arith))

pub skipped_formless : (line : List ℕ) → IsSkipped line → HasNoForm line
skipped_formless line x1 form of_form = grind (arith, common_steps)

pub skipped_counts : (line : List ℕ) → IsSkipped line → Counts line 0
skipped_counts line skipped = inr (skipped_formless line skipped, refl)
