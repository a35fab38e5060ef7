-- Private: no public contract cites this. Lines by their words.
use Rattle.std.proofs.Common.{◌≡◌, ◌≢◌, ℕ, ◌^◌, ◌<◌, List, [], ◌∷◌, ◌++◌, length, All, codes, decimal, refl, sym, ap, ap₂, ◌∙◌, subst, arith, append_assoc, length-append}
use Rattle.line_text.specs.Names.{IsName, spelling, NamesAreSpelledBack}
use Rattle.history_model.specs.declared.entries.Placed.{Placed}
use Rattle.track_entry.specs.Texts.{entry_text}
use Rattle.journal_lines.specs.{Texts.{author_word, entry_line, head_line}, Lines.{IsAuthor, IsHead, IsStep}}
use Rattle.journal_lines.proofs.{Lacking.{Lacks, lacks_all, lacks_both, lacks_decimal, lacks_over, parted}, Feeds.{name_lacks, author_lacks}}

without_feed : (one other : List ℕ) → one ++ 10 ∷ [] ≡ other ++ 10 ∷ [] → one ≡ other
without_feed [] [] e = refl
without_feed [] (c ∷ other) e =
    let sizes : length {A = ℕ} (10 ∷ []) ≡ length (c ∷ (other ++ 10 ∷ [])) = ap length e in
    absurd (omega (arith, sizes, length-append other (10 ∷ [])))
without_feed (b ∷ one) [] e =
    let sizes : length (b ∷ (one ++ 10 ∷ [])) ≡ length {A = ℕ} (10 ∷ []) = ap length e in
    absurd (omega (arith, sizes, length-append one (10 ∷ [])))
without_feed (b ∷ one) (c ∷ other) e =
    let byte : b ≡ c = cc in
    let rest : one ++ 10 ∷ [] ≡ other ++ 10 ∷ [] = cc in
    let same : one ≡ other = without_feed one other rest in
    ap₂ (λ (x : ℕ) (l : List ℕ). x ∷ l) byte same

lacks_itself : (c : ℕ) (front back : List ℕ) → Lacks c (front ++ c ∷ back) → ⊥
lacks_itself c [] back lacks = lacks.0 refl
lacks_itself c (b ∷ front) back lacks = lacks_itself c front back lacks.1

-- bytes without a space are no two words
pub no_words : (bytes front back : List ℕ) → All (λ b. b ≢ 32) bytes → bytes ≡ front ++ 32 ∷ back → ⊥
no_words bytes front back none is = lacks_itself 32 front back (subst (Lacks 32) is (lacks_all 32 bytes none))

pub no_part : (c : ℕ) (bytes front back : List ℕ) → All (λ b. b ≢ c) bytes → bytes ≡ front ++ c ∷ back → ⊥
no_part c bytes front back none is = lacks_itself c front back (subst (Lacks c) is (lacks_all c bytes none))

-- the first word and what stands behind it
pub first_is : (bytes word rest front back : List ℕ) → bytes ≡ word ++ 32 ∷ rest → All (λ b. b ≢ 32) word → bytes ≡ front ++ 32 ∷ back → Lacks 32 front
    → (word ≡ front) × (rest ≡ back)
first_is bytes word rest front back parts none is lacks = parted 32 word front rest back (lacks_all 32 word none) lacks (sym parts ∙ is)

pub machine_lacks : Lacks 32 (codes "machine")
machine_lacks = lacks_over 32 (codes "machine") refl

pub steps_lacks : Lacks 32 (codes "steps")
steps_lacks = lacks_over 32 (codes "steps") refl

abbrev pub machine_words : List ℕ → ℕ → List ℕ
machine_words m n = codes "machine" ++ 32 ∷ (spelling m ++ 32 ∷ (codes "steps" ++ 32 ∷ decimal n))

pub head_shown : (m : List ℕ) (n : ℕ) → machine_words m n ++ 10 ∷ [] ≡ head_line m n
head_shown m n = ap (λ (l : List ℕ). codes "machine " ++ l) (append_assoc (spelling m) (codes " steps " ++ decimal n) (10 ∷ []))

pub head_is : (line m : List ℕ) (n : ℕ) → IsHead line m n → line ≡ codes "machine" ++ 32 ∷ (spelling m ++ 32 ∷ (codes "steps" ++ 32 ∷ decimal n))
head_is line m n is = without_feed line (machine_words m n) (is.text ∙ sym (head_shown m n))

-- it has no line feed within
pub head_lacks : NamesAreSpelledBack → (line m : List ℕ) (n : ℕ) → IsHead line m n → Lacks 10 line
head_lacks names line m n is =
    subst (Lacks 10) (sym (head_is line m n is))
    (lacks_both 10 (codes "machine ") (spelling m ++ 32 ∷ (codes "steps" ++ 32 ∷ decimal n)) (lacks_over 10 (codes "machine ") refl)
    (lacks_both 10 (spelling m) (32 ∷ (codes "steps" ++ 32 ∷ decimal n)) (name_lacks 10 (omega arith) names m is.named)
    (lacks_both 10 (codes " steps ") (decimal n) (lacks_over 10 (codes " steps ") refl) (lacks_decimal 10 n (omega arith) (omega (arith, is.fits))))))

-- four words are the line of a machine
pub is_head : (line first one second two third three m : List ℕ) (n : ℕ) → IsName m → n < 2 ^ 64
    → line ≡ first ++ 32 ∷ one → first ≡ codes "machine" → one ≡ second ++ 32 ∷ two → second ≡ spelling m → two ≡ third ++ 32 ∷ three → third ≡ codes "steps" → three ≡ decimal n
    → IsHead line m n
is_head line first one second two third three m n named fits a b c d e f g = record {
  named = named;
  fits = fits;
  text = ap (λ (l : List ℕ). l ++ 10 ∷ [])
      (a ∙ ap₂ (λ (x y : List ℕ). x ++ 32 ∷ y) b (c ∙ ap₂ (λ (x y : List ℕ). x ++ 32 ∷ y) d (e ∙ ap₂ (λ (x y : List ℕ). x ++ 32 ∷ y) f g)))
      ∙ head_shown m n;
}

-- ---- the line of an entry

abbrev pub step_words : ℕ → Placed → List ℕ
step_words step p = decimal step ++ 32 ∷ (author_word p.author ++ 32 ∷ entry_text p.entry)

pub step_shown : (step : ℕ) (p : Placed) → step_words step p ++ 10 ∷ [] ≡ entry_line step p
step_shown step p =
    append_assoc (decimal step) (32 ∷ (author_word p.author ++ 32 ∷ entry_text p.entry)) (10 ∷ [])
    ∙ ap (λ (l : List ℕ). decimal step ++ 32 ∷ l) (append_assoc (author_word p.author) (32 ∷ entry_text p.entry) (10 ∷ []))

pub step_is : (step : ℕ) (line : List ℕ) (p : Placed) → IsStep step line p → line ≡ decimal step ++ 32 ∷ (author_word p.author ++ 32 ∷ entry_text p.entry)
step_is step line p is = without_feed line _ (is.text ∙ sym (step_shown step p))

pub step_text : (step : ℕ) (line first one second two : List ℕ) (p : Placed)
    → line ≡ first ++ 32 ∷ one → first ≡ decimal step → one ≡ second ++ 32 ∷ two → second ≡ author_word p.author → two ≡ entry_text p.entry
    → line ++ 10 ∷ [] ≡ entry_line step p
step_text step line first one second two p a b c d e =
    ap (λ (l : List ℕ). l ++ 10 ∷ [])
    (a ∙ ap₂ (λ (x y : List ℕ). x ++ 32 ∷ y) b (c ∙ ap₂ (λ (x y : List ℕ). x ++ 32 ∷ y) d e))
    ∙ step_shown step p

-- ---- the words of a machine's line, one after another

pub word_one : (line m word rest : List ℕ) (n : ℕ) → IsHead line m n → line ≡ word ++ 32 ∷ rest → All (λ b. b ≢ 32) word
    → (word ≡ codes "machine") × (rest ≡ spelling m ++ 32 ∷ (codes "steps" ++ 32 ∷ decimal n))
word_one line m word rest n is parts none = first_is line word rest (codes "machine") _ parts none (head_is line m n is) machine_lacks

pub word_two : NamesAreSpelledBack → (bytes m word rest : List ℕ) (n : ℕ) → IsName m → bytes ≡ spelling m ++ 32 ∷ (codes "steps" ++ 32 ∷ decimal n)
    → bytes ≡ word ++ 32 ∷ rest → All (λ b. b ≢ 32) word → (word ≡ spelling m) × (rest ≡ codes "steps" ++ 32 ∷ decimal n)
word_two names bytes m word rest n named is parts none = first_is bytes word rest (spelling m) _ parts none is (name_lacks 32 (omega arith) names m named)

pub word_three : (bytes word rest : List ℕ) (n : ℕ) → bytes ≡ codes "steps" ++ 32 ∷ decimal n → bytes ≡ word ++ 32 ∷ rest → All (λ b. b ≢ 32) word
    → (word ≡ codes "steps") × (rest ≡ decimal n)
word_three bytes word rest n is parts none = first_is bytes word rest (codes "steps") _ parts none is steps_lacks

-- ---- the words of an entry's line, one after another

pub step_one : (step : ℕ) (line word rest : List ℕ) (p : Placed) → step < 10 ^ 64 → IsStep step line p → line ≡ word ++ 32 ∷ rest → All (λ b. b ≢ 32) word
    → (word ≡ decimal step) × (rest ≡ author_word p.author ++ 32 ∷ entry_text p.entry)
step_one step line word rest p small is parts none =
    first_is line word rest (decimal step) _ parts none (step_is step line p is) (lacks_decimal 32 step (omega arith) small)

pub step_two : (bytes word rest : List ℕ) (p : Placed) → IsAuthor p.author → bytes ≡ author_word p.author ++ 32 ∷ entry_text p.entry
    → bytes ≡ word ++ 32 ∷ rest → All (λ b. b ≢ 32) word → (word ≡ author_word p.author) × (rest ≡ entry_text p.entry)
step_two bytes word rest p author is parts none =
    first_is bytes word rest (author_word p.author) _ parts none is (author_lacks 32 (omega arith) p.author author)
