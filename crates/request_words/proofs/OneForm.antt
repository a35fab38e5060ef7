-- A line has one form, and so one count.
use Rattle.std.proofs.Common.{◌≡◌, ℕ, inl, inr, List, sym, ap, ◌∙◌}
use Rattle.request_words.{specs.Forms.{Form, body_length, IsOfForm}, specs.Items.Counts, proofs.FormWords.one_words}

pub one_form : (line : List ℕ) (f g : Form) → IsOfForm line f → IsOfForm line g → f ≡ g
one_form line f g one two = one_words f g (sym one.words ∙ two.words) one.numbers two.numbers

pub one_count : (line : List ℕ) (m n : ℕ) → Counts line m → Counts line n → m ≡ n
one_count line m n (inl one) (inl two) = one.2 ∙ ap body_length (one_form line one.0 two.0 one.1 two.1) ∙ sym two.2
one_count line m n (inl one) (inr none) = absurd (none.0 one.0 one.1)
one_count line m n (inr none) (inl two) = absurd (none.0 two.0 two.1)
one_count line m n (inr one) (inr two) = one.1 ∙ sym two.1
