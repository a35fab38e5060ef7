-- Private: no public contract cites this. What the next line of a text says.
use Rattle.std.proofs.Common.{◌≡◌, ◌≢◌, ℕ, ◌+◌, ◌^◌, ◌<◌, List, [], ◌∷◌, ◌++◌, length, All, decimal, sym, ap, ◌∙◌, subst, arith, append_assoc}
use Rattle.line_text.specs.Names.{NamesAreSpelledBack}
use Rattle.history_model.specs.declared.entries.Placed.{Placed}
use Rattle.track_entry.specs.Texts.{entry_text}
use Rattle.journal_lines.specs.{Coming.{HasNoNext, MayCome}, Laws.OneStep, Lines.{HasLine, IsStep}, Texts.{author_word, entry_line}}
use Rattle.journal_lines.proofs.{Feeds.{author_lacks, entry_lacks}, Lacking.{Lacks, lacks_all, lacks_both, lacks_decimal, parted}}
use Rattle.journal_lines.proofs.Words.{no_part, step_shown, step_words}

-- the line of an entry has no line feed within
step_lacks : NamesAreSpelledBack → (step : ℕ) (p : Placed) → step < 10 ^ 64 → HasLine p → Lacks 10 (step_words step p)
step_lacks names step p small has =
    lacks_both 10 (decimal step) (32 ∷ (author_word p.author ++ 32 ∷ entry_text p.entry)) (lacks_decimal 10 step (omega arith) small) (
      λ same. omega (arith, same),
      lacks_both 10 (author_word p.author) (32 ∷ entry_text p.entry) (author_lacks 10 (omega arith) p.author has.author)
          (λ same. omega (arith, same), entry_lacks names p.entry has.entry),
    )

-- a text with its line in front, by the line's words
parts_of : (step : ℕ) (text more : List ℕ) (p : Placed) → text ≡ entry_line step p ++ more → text ≡ step_words step p ++ 10 ∷ more
parts_of step text more p is =
    is ∙ ap (λ (l : List ℕ). l ++ more) (sym (step_shown step p)) ∙ append_assoc (step_words step p) (10 ∷ []) more

-- the first line of such a text says the entry
pub line_is : NamesAreSpelledBack → (step : ℕ) (text line rest more : List ℕ) (p : Placed) → step < 10 ^ 64
    → text ≡ line ++ 10 ∷ rest → All (λ b. b ≢ 10) line → HasLine p → text ≡ entry_line step p ++ more → IsStep step line p
line_is names step text line rest more p small parts none has is =
    let both : (line ≡ step_words step p) × (rest ≡ more) =
    parted 10 line (step_words step p) rest more (lacks_all 10 line none) (step_lacks names step p small has) (sym parts ∙ parts_of step text more p is) in
    record { author = has.author; entry = has.entry; text = ap (λ (l : List ℕ). l ++ 10 ∷ []) both.0 ∙ step_shown step p }

-- no line is left
pub none_left : (scripts : ℕ) (before : List Placed) (text : List ℕ) → All (λ b. b ≢ 10) text → HasNoNext scripts before text
none_left scripts before text none p more has may is =
    no_part 10 text (step_words (length before + 1) p) more none (parts_of (length before + 1) text more p is)

-- the next line is that of no entry
pub no_entry : NamesAreSpelledBack → (scripts : ℕ) (before : List Placed) (text line rest : List ℕ) → length before + 1 < 10 ^ 64
    → text ≡ line ++ 10 ∷ rest → All (λ b. b ≢ 10) line → ((p : Placed) → IsStep (length before + 1) line p → ⊥) → HasNoNext scripts before text
no_entry names scripts before text line rest small parts none never p more has may is =
    never p (line_is names (length before + 1) text line rest more p small parts none has is)

-- its entry may not come
pub not_next : NamesAreSpelledBack → OneStep → (scripts : ℕ) (before : List Placed) (text line rest : List ℕ) (q : Placed) → length before + 1 < 10 ^ 64
    → text ≡ line ++ 10 ∷ rest → All (λ b. b ≢ 10) line → IsStep (length before + 1) line q → (MayCome scripts before q → ⊥) → HasNoNext scripts before text
not_next names one scripts before text line rest q small parts none step never p more has may is =
    let same : p ≡ q = one (length before + 1) line p q (line_is names (length before + 1) text line rest more p small parts none has is) step in
    never (subst (λ (x : Placed). MayCome scripts before x) same may)

-- a line's entry has a line
pub has_line : (step : ℕ) (line : List ℕ) (p : Placed) → IsStep step line p → HasLine p
has_line step line p is = record { author = is.author; entry = is.entry }

-- and stands in front of the text
pub in_front : (step : ℕ) (text line rest : List ℕ) (p : Placed) → text ≡ line ++ 10 ∷ rest → IsStep step line p → text ≡ entry_line step p ++ rest
in_front step text line rest p parts is =
    parts ∙ sym (append_assoc line (10 ∷ []) rest) ∙ ap (λ (l : List ℕ). l ++ rest) is.text
