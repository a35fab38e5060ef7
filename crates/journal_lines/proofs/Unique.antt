-- Private: no public contract cites this. A line says one thing at most, and bytes are the text of one list of journals.
use Rattle.std.proofs.Common.{◌≡◌, ℕ, ◌+◌, ◌^◌, ◌<◌, List, [], ◌∷◌, ◌++◌, length, get_or, drop, codes, decimal, refl, sym, ap, ap₂, ◌∙◌, arith, append_assoc, append-nil}
use Rattle.std.specs.{List.AllByRecursion, Str.Parse.digits_value}
use Rattle.percent_encoding.specs.Percent.{percent_decode}
use Rattle.line_text.specs.{Names.{IsName, spelling, NamesAreSpelledBack}, Numbers.NumbersAreSpelled}
use Rattle.history_model.specs.declared.entries.{Author.Author, Entry.Entry, Placed.Placed}
use Rattle.history_model.specs.declared.entries.Author.TheVariants as author
use Rattle.track_entry.specs.Texts.{entry_text, IsEntry, IsOneEntry}
use Rattle.journal_lines.specs.{Texts.{Journal, author_word, entry_line, head_line, lines_from, texts_of}, Lines.{IsAuthor, HasLine}}
use Rattle.journal_lines.{specs.Laws.{OneHead, OneStep, OneText}, proofs.Lacking.{parted, lacks_decimal, behind_same}}
use Rattle.journal_lines.proofs.Feeds.{name_lacks, entry_lacks, author_lacks}

-- names with one spelling are one
one_name : NamesAreSpelledBack → (one other : List ℕ) → IsName one → IsName other → spelling one ≡ spelling other → one ≡ other
one_name law one other a b e = sym (law one a).0.decoded ∙ ap percent_decode e ∙ (law other b).0.decoded

-- so are numbers
pub one_number : NumbersAreSpelled → (n m : ℕ) → n < 2 ^ 128 → m < 2 ^ 128 → decimal n ≡ decimal m → n ≡ m
one_number law n m a b e =
    let first : digits_value 10 (decimal n) ≡ n = ((law n (decimal n) a).0 refl).1 in
    let second : digits_value 10 (decimal m) ≡ m = ((law m (decimal m) b).0 refl).1 in
    sym first ∙ ap (digits_value 10) e ∙ second

-- two heads in front of bytes are one
pub record SameHead (machine other : List ℕ) (count many : ℕ) (rest more : List ℕ) : Type 0 where
  pub machine_is : machine ≡ other
  pub count_is : count ≡ many
  pub rest_is : rest ≡ more

pub one_head : NamesAreSpelledBack → NumbersAreSpelled → (machine other : List ℕ) (count many : ℕ) (rest more : List ℕ)
    → IsName machine → IsName other → count < 2 ^ 64 → many < 2 ^ 64
    → head_line machine count ++ rest ≡ head_line other many ++ more → SameHead machine other count many rest more
one_head names numbers machine other count many rest more a b c d e =
    let left : head_line machine count ++ rest ≡ codes "machine " ++ (spelling machine ++ 32 ∷ (codes "steps " ++ (decimal count ++ 10 ∷ rest))) = shown machine count rest in
    let right : head_line other many ++ more ≡ codes "machine " ++ (spelling other ++ 32 ∷ (codes "steps " ++ (decimal many ++ 10 ∷ more))) = shown other many more in
    let behind : spelling machine ++ 32 ∷ (codes "steps " ++ (decimal count ++ 10 ∷ rest)) ≡ spelling other ++ 32 ∷ (codes "steps " ++ (decimal many ++ 10 ∷ more)) =
    ap (λ (l : List ℕ). drop 8 l) (sym left ∙ e ∙ right) in
    let name : (spelling machine ≡ spelling other) × (codes "steps " ++ (decimal count ++ 10 ∷ rest) ≡ codes "steps " ++ (decimal many ++ 10 ∷ more)) =
    parted 32 (spelling machine) (spelling other) _ _ (name_lacks 32 (omega arith) names machine a) (name_lacks 32 (omega arith) names other b) behind in
    let number : decimal count ++ 10 ∷ rest ≡ decimal many ++ 10 ∷ more = ap (λ (l : List ℕ). drop 6 l) name.1 in
    let last : (decimal count ≡ decimal many) × (rest ≡ more) =
    parted 10 (decimal count) (decimal many) rest more (lacks_decimal 10 count (omega arith) (omega (arith, c))) (lacks_decimal 10 many (omega arith) (omega (arith, d))) number in
    record {
      machine_is = one_name names machine other a b name.0;
      count_is = one_number numbers count many (omega (arith, c)) (omega (arith, d)) last.0;
      rest_is = last.1;
    }
  where
    shown : (m : List ℕ) (n : ℕ) (l : List ℕ) → head_line m n ++ l ≡ codes "machine " ++ (spelling m ++ 32 ∷ (codes "steps " ++ (decimal n ++ 10 ∷ l)))
    shown m n l =
        ap (λ (t : List ℕ). codes "machine " ++ t)
        (append_assoc (spelling m) (codes " steps " ++ (decimal n ++ 10 ∷ [])) l
        ∙ ap (λ (t : List ℕ). spelling m ++ (codes " steps " ++ t)) (append_assoc (decimal n) (10 ∷ []) l))

pub heads_are_one : NamesAreSpelledBack → NumbersAreSpelled → OneHead
heads_are_one names numbers line machine other count many a b =
    let same : SameHead machine other count many [] [] =
    one_head names numbers machine other count many [] [] a.named b.named a.fits b.fits
    (append-nil (head_line machine count) ∙ sym a.text ∙ b.text ∙ sym (append-nil (head_line other many))) in
    (same.machine_is, same.count_is)

-- ---- entries

one_author : NumbersAreSpelled → (a b : Author) → IsAuthor a → IsAuthor b → author_word a ≡ author_word b → a ≡ b
one_author law author.Kept author.Kept p q e = refl
one_author law author.Kept (author.Script j) p q e = let byte : ◌≡◌ {A = ℕ} 107 115 = ap (λ (l : List ℕ). get_or l 0 0) e in absurd (omega (arith, byte))
one_author law author.Kept (author.Recompute j) p q e = let byte : ◌≡◌ {A = ℕ} 107 114 = ap (λ (l : List ℕ). get_or l 0 0) e in absurd (omega (arith, byte))
one_author law author.Kept (author.Bisect j) p q e = let byte : ◌≡◌ {A = ℕ} 107 98 = ap (λ (l : List ℕ). get_or l 0 0) e in absurd (omega (arith, byte))
one_author law (author.Script i) author.Kept p q e = let byte : ◌≡◌ {A = ℕ} 115 107 = ap (λ (l : List ℕ). get_or l 0 0) e in absurd (omega (arith, byte))
one_author law (author.Script i) (author.Script j) p q e = ap (λ (n : ℕ). author.Script n) (one_number law i j (omega (arith, p)) (omega (arith, q)) (ap (λ (l : List ℕ). drop 1 l) e))
one_author law (author.Script i) (author.Recompute j) p q e = let byte : ◌≡◌ {A = ℕ} 115 114 = ap (λ (l : List ℕ). get_or l 0 0) e in absurd (omega (arith, byte))
one_author law (author.Script i) (author.Bisect j) p q e = let byte : ◌≡◌ {A = ℕ} 115 98 = ap (λ (l : List ℕ). get_or l 0 0) e in absurd (omega (arith, byte))
one_author law (author.Recompute i) author.Kept p q e = let byte : ◌≡◌ {A = ℕ} 114 107 = ap (λ (l : List ℕ). get_or l 0 0) e in absurd (omega (arith, byte))
one_author law (author.Recompute i) (author.Script j) p q e = let byte : ◌≡◌ {A = ℕ} 114 115 = ap (λ (l : List ℕ). get_or l 0 0) e in absurd (omega (arith, byte))
one_author law (author.Recompute i) (author.Recompute j) p q e = ap (λ (n : ℕ). author.Recompute n) (one_number law i j (omega (arith, p)) (omega (arith, q)) (ap (λ (l : List ℕ). drop 1 l) e))
one_author law (author.Recompute i) (author.Bisect j) p q e = let byte : ◌≡◌ {A = ℕ} 114 98 = ap (λ (l : List ℕ). get_or l 0 0) e in absurd (omega (arith, byte))
one_author law (author.Bisect i) author.Kept p q e = let byte : ◌≡◌ {A = ℕ} 98 107 = ap (λ (l : List ℕ). get_or l 0 0) e in absurd (omega (arith, byte))
one_author law (author.Bisect i) (author.Script j) p q e = let byte : ◌≡◌ {A = ℕ} 98 115 = ap (λ (l : List ℕ). get_or l 0 0) e in absurd (omega (arith, byte))
one_author law (author.Bisect i) (author.Recompute j) p q e = let byte : ◌≡◌ {A = ℕ} 98 114 = ap (λ (l : List ℕ). get_or l 0 0) e in absurd (omega (arith, byte))
one_author law (author.Bisect i) (author.Bisect j) p q e = ap (λ (n : ℕ). author.Bisect n) (one_number law i j (omega (arith, p)) (omega (arith, q)) (ap (λ (l : List ℕ). drop 1 l) e))

-- two lines of a step in front of bytes are one
pub record SameStep (p q : Placed) (rest more : List ℕ) : Type 0 where
  pub entry_is : p ≡ q
  pub rest_is : rest ≡ more

pub one_step : NamesAreSpelledBack → NumbersAreSpelled → IsOneEntry → (step : ℕ) (p q : Placed) (rest more : List ℕ)
    → IsAuthor p.author → IsAuthor q.author → IsEntry p.entry → IsEntry q.entry
    → entry_line step p ++ rest ≡ entry_line step q ++ more → SameStep p q rest more
one_step names numbers one step p q rest more a b c d e =
    let behind : 32 ∷ (author_word p.author ++ 32 ∷ (entry_text p.entry ++ 10 ∷ rest)) ≡ 32 ∷ (author_word q.author ++ 32 ∷ (entry_text q.entry ++ 10 ∷ more)) =
    behind_same (decimal step) _ _ (sym (shown p rest) ∙ e ∙ shown q more) in
    let parts : (author_word p.author ≡ author_word q.author) × (entry_text p.entry ++ 10 ∷ rest ≡ entry_text q.entry ++ 10 ∷ more) =
    parted 32 (author_word p.author) (author_word q.author) _ _ (author_lacks 32 (omega arith) p.author a) (author_lacks 32 (omega arith) q.author b)
    (ap (λ (l : List ℕ). drop 1 l) behind) in
    let texts : (entry_text p.entry ≡ entry_text q.entry) × (rest ≡ more) =
    parted 10 (entry_text p.entry) (entry_text q.entry) rest more (entry_lacks names p.entry c) (entry_lacks names q.entry d) parts.1 in
    let author : p.author ≡ q.author = one_author numbers p.author q.author a b parts.0 in
    let entry : p.entry ≡ q.entry = one (entry_text p.entry) p.entry q.entry (c, refl) (d, texts.0) in
    record {
      entry_is = ap₂ (λ (x : Author) (y : Entry). record { author = x; entry = y }) author entry;
      rest_is = texts.1;
    }
  where
    shown : (x : Placed) (l : List ℕ) → entry_line step x ++ l ≡ decimal step ++ 32 ∷ (author_word x.author ++ 32 ∷ (entry_text x.entry ++ 10 ∷ l))
    shown x l =
        append_assoc (decimal step) (32 ∷ (author_word x.author ++ 32 ∷ (entry_text x.entry ++ 10 ∷ []))) l
        ∙ ap (λ (t : List ℕ). decimal step ++ 32 ∷ t)
        (append_assoc (author_word x.author) (32 ∷ (entry_text x.entry ++ 10 ∷ [])) l
        ∙ ap (λ (t : List ℕ). author_word x.author ++ 32 ∷ t) (append_assoc (entry_text x.entry) (10 ∷ []) l))

pub steps_are_one : NamesAreSpelledBack → NumbersAreSpelled → IsOneEntry → OneStep
steps_are_one names numbers one step line p q a b =
    (one_step names numbers one step p q [] [] a.author b.author a.entry b.entry
    (append-nil (entry_line step p) ∙ sym a.text ∙ b.text ∙ sym (append-nil (entry_line step q)))).entry_is

-- ---- journals

-- as many entries in front of bytes
record SameLines (h k : List Placed) (rest more : List ℕ) : Type 0 where
  entries_are : h ≡ k
  rest_is : rest ≡ more

one_history : NamesAreSpelledBack → NumbersAreSpelled → IsOneEntry → (step : ℕ) (h k : List Placed) (rest more : List ℕ)
    → AllByRecursion HasLine h → AllByRecursion HasLine k → length h ≡ length k → lines_from step h ++ rest ≡ lines_from step k ++ more
    → SameLines h k rest more
one_history names numbers one step [] [] rest more a b many e = record { entries_are = refl; rest_is = e }
one_history names numbers one step [] (q ∷ k) rest more a b many e = absurd (omega (arith, many))
one_history names numbers one step (p ∷ h) [] rest more a b many e = absurd (omega (arith, many))
one_history names numbers one step (p ∷ h) (q ∷ k) rest more a b many e =
    let first : SameStep p q (lines_from (step + 1) h ++ rest) (lines_from (step + 1) k ++ more) =
    one_step names numbers one step p q _ _ a.0.author b.0.author a.0.entry b.0.entry
    (sym (append_assoc (entry_line step p) (lines_from (step + 1) h) rest) ∙ e ∙ append_assoc (entry_line step q) (lines_from (step + 1) k) more) in
    let others : SameLines h k rest more = one_history names numbers one (step + 1) h k rest more a.1 b.1 (omega (arith, many)) first.rest_is in
    record { entries_are = ap₂ (λ (x : Placed) (l : List Placed). x ∷ l) first.entry_is others.entries_are; rest_is = others.rest_is }

pub one_text : NamesAreSpelledBack → NumbersAreSpelled → IsOneEntry → OneText
one_text names numbers one [] [] a b e = refl
one_text names numbers one [] (o ∷ others) a b e =
    let byte : ◌≡◌ {A = ℕ} 0 109 = ap (λ (l : List ℕ). get_or l 0 0) e in absurd (omega (arith, byte))
one_text names numbers one (j ∷ js) [] a b e =
    let byte : ◌≡◌ {A = ℕ} 109 0 = ap (λ (l : List ℕ). get_or l 0 0) e in absurd (omega (arith, byte))
one_text names numbers one (j ∷ js) (o ∷ others) a b e =
    let head : SameHead j.machine o.machine (length j.history) (length o.history) (lines_from 1 j.history ++ texts_of js) (lines_from 1 o.history ++ texts_of others) =
    one_head names numbers j.machine o.machine (length j.history) (length o.history) _ _ a.0.named b.0.named a.0.fits b.0.fits
    (sym (append_assoc (head_line j.machine (length j.history)) (lines_from 1 j.history) (texts_of js)) ∙ e
    ∙ append_assoc (head_line o.machine (length o.history)) (lines_from 1 o.history) (texts_of others)) in
    let lines : SameLines j.history o.history (texts_of js) (texts_of others) =
    one_history names numbers one 1 j.history o.history (texts_of js) (texts_of others) a.0.each b.0.each head.count_is head.rest_is in
    let journal : j ≡ o = ap₂ (λ (m : List ℕ) (h : List Placed). record { machine = m; history = h }) head.machine_is lines.entries_are in
    ap₂ (λ (x : Journal) (l : List Journal). x ∷ l) journal (one_text names numbers one js others a.1 b.1 lines.rest_is)
