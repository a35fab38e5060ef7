-- Private: no public contract cites this. What the next line of a text says of a machine.
use Rattle.std.{proofs.lemmas.List.length-map, specs.List.AllByRecursion}
use Rattle.history_model.specs.{Entries.entries_of, declared.entries.Placed.Placed}
use Rattle.journal_reader.specs.{Judging.AreAllowed, Journals.IsOther, Reading.IsRefusedAt, Next.{IsNewHead, IsNext, IsRefusedNext}}
use Rattle.std.proofs.Common.{◌≡◌, ◌≢◌, ◌⊎◌, inl, inr, ◌^◌, ℕ, ◌+◌, ◌<◌, ◌≤◌, List, [], ◌∷◌, ◌++◌, length, All, codes, decimal, refl, sym, ap, ◌∙◌, subst, arith, length-append}
use Rattle.metric_table.specs.{Limits.most, declared.limits.Limit.TheVariants.Machines}
use Rattle.line_text.specs.Names.{NamesAreSpelledBack, spelling}
use Rattle.track_entry.specs.Texts.{entry_text}
use Rattle.journal_lines.specs.{Coming.AreRead, Laws.OneHead, Lines.IsHead, Texts.{Journal, author_word, entry_line, head_line, lines_from, text_of}}
use Rattle.journal_lines.{specs.Unread.Unread, specs.declared.head.Head.Head, proofs.Lacking.{lacks_all, parted}, proofs.Words.{head_lacks, no_part}}
use Rattle.journal_reader.proofs.{Refusing.{SoFar, none_so_far, head_refused, is_journal, next_refused, so_more, so_refused}, Unique.fits}

-- a machine's line in front of a text is its first line
one_line : NamesAreSpelledBack → (rest line next bytes more machine : List ℕ) (count : ℕ) → rest ≡ line ++ 10 ∷ next → All (λ b. b ≢ 10) line
    → rest ≡ bytes ++ 10 ∷ more → IsHead bytes machine count → IsHead line machine count
one_line names rest line next bytes more machine count parts none split is =
    let both : (line ≡ bytes) × (next ≡ more) = parted 10 line bytes next more (lacks_all 10 line none) (head_lacks names bytes machine count is) (sym parts ∙ split) in
    subst (λ (x : List ℕ). IsHead x machine count) (sym both.0) is

-- no line is left
pub no_line_left : (scripts : ℕ) (before : List Journal) (old : Unread) (l : ℕ) → l ≡ old.count + 1 → old.rest ≢ [] → All (λ b. b ≢ 10) old.rest
    → IsRefusedNext scripts before old l
no_line_left scripts before old l number some none =
    next_refused scripts before old l number
    (head_refused scripts before old.rest some (λ line next machine count split is fresh room. no_part 10 old.rest line next none split))

-- the next line is that of no machine
pub no_head : NamesAreSpelledBack → (scripts : ℕ) (before : List Journal) (old : Unread) (line next : List ℕ) (l : ℕ) → l ≡ old.count + 1 → old.rest ≢ []
    → old.rest ≡ line ++ 10 ∷ next → All (λ b. b ≢ 10) line → ((machine : List ℕ) (count : ℕ) → IsHead line machine count → ⊥) → IsRefusedNext scripts before old l
no_head names scripts before old line next l number some parts none never =
    next_refused scripts before old l number
    (head_refused scripts before old.rest some
    (λ bytes more machine count split is fresh room. never machine count (one_line names old.rest line next bytes more machine count parts none split is)))

-- there is no room for one more
pub no_room : (scripts : ℕ) (before : List Journal) (old : Unread) (l : ℕ) → l ≡ old.count + 1 → old.rest ≢ [] → most Machines ≤ length before
    → IsRefusedNext scripts before old l
no_room scripts before old l number some full =
    next_refused scripts before old l number (head_refused scripts before old.rest some (λ line next machine count split is fresh room. omega (arith, full, room)))

-- its machine came before
pub known_head : NamesAreSpelledBack → OneHead → (scripts : ℕ) (before : List Journal) (old : Unread) (line next m : List ℕ) (n l : ℕ) → l ≡ old.count + 1 → old.rest ≢ []
    → old.rest ≡ line ++ 10 ∷ next → All (λ b. b ≢ 10) line → IsHead line m n → (AllByRecursion (IsOther m) before → ⊥) → IsRefusedNext scripts before old l
known_head names one scripts before old line next m n l number some parts none says known =
    next_refused scripts before old l number (head_refused scripts before old.rest some never)
  where
    never : (bytes more machine : List ℕ) (count : ℕ) → old.rest ≡ bytes ++ 10 ∷ more → IsHead bytes machine count
        → AllByRecursion (IsOther machine) before → length before < most Machines → ⊥
    never bytes more machine count split is fresh room =
        let same : (machine ≡ m) × (count ≡ n) = one line machine m count n (one_line names old.rest line next bytes more machine count parts none split is) says in
        known (subst (λ (x : List ℕ). AllByRecursion (IsOther x) before) same.0 fresh)

-- ---- sizes

entry_size : (step : ℕ) (p : Placed) → 1 ≤ length (entry_line step p)
entry_size step p = omega (arith, length-append (decimal step) (32 ∷ (author_word p.author ++ 32 ∷ (entry_text p.entry ++ 10 ∷ []))))

pub lines_size : (step : ℕ) (h : List Placed) → length h ≤ length (lines_from step h)
lines_size step [] = omega arith
lines_size step (p ∷ h) = omega (arith, lines_size (step + 1) h, length-append (entry_line step p) (lines_from (step + 1) h), entry_size step p)

head_size : (m : List ℕ) (n : ℕ) → 8 ≤ length (head_line m n)
head_size m n =
    let word : length (codes "machine ") ≡ 8 = refl in
    omega (arith, word, length-append (codes "machine ") (spelling m ++ (codes " steps " ++ (decimal n ++ 10 ∷ []))))

-- what a journal takes of a text
pub read_size : (scripts : ℕ) (before : List Journal) (old between new : Unread) (head : Head) (h : List Placed) → IsNewHead before old between head
    → AreRead scripts head.count between.rest new.rest h → 8 + length h + length new.rest ≤ length old.rest
read_size scripts before old between new head h starts read =
    omega (
      arith,
      ap length starts.text,
      length-append (head_line head.machine head.count) between.rest,
      head_size head.machine head.count,
      ap length read.is,
      length-append (lines_from 1 h) new.rest,
      lines_size 1 h,
    )

-- ---- one journal after another

pub so_starts : (scripts : ℕ) (text : List ℕ) (unread : Unread) (js : List Journal) → unread ≡ record { rest = text; count = 0 } → js ≡ [] → SoFar scripts text unread js
so_starts scripts text unread js is none =
    subst (λ (u : Unread). SoFar scripts text u js) (sym is)
    (subst (λ (l : List Journal). SoFar scripts text (record { rest = text; count = 0 }) l) (sym none) (none_so_far scripts text))

pub so_next : (scripts : ℕ) (text : List ℕ) (old new : Unread) (js more : List Journal) (j : Journal) → SoFar scripts text old js → IsNext scripts js old new j
    → more ≡ js ++ j ∷ [] → SoFar scripts text new more
so_next scripts text old new js more j so next is =
    subst (λ (l : List Journal). SoFar scripts text new l) (sym is) (so_more scripts text old new js j (fits scripts j (is_journal scripts j next.read)) so next)

-- over a slice of what was read
pub so_over : (scripts : ℕ) (text : List ℕ) (old new : Unread) (js slice more : List Journal) (j : Journal) → slice ≡ js → SoFar scripts text old js → IsNext scripts slice old new j
    → more ≡ js ++ j ∷ [] → SoFar scripts text new more
so_over scripts text old new js slice more j same so next is =
    so_next scripts text old new js more j so (subst (λ (l : List Journal). IsNext scripts l old new j) same next) is

pub so_stops : (scripts : ℕ) (text : List ℕ) (unread : Unread) (js slice : List Journal) (l : ℕ) → slice ≡ js → SoFar scripts text unread js → IsRefusedNext scripts slice unread l
    → IsRefusedAt scripts text l
so_stops scripts text unread js slice l same so next =
    so_refused scripts text unread js l so (subst (λ (x : List Journal). IsRefusedNext scripts x unread l) same next)

pub shorter : (scripts : ℕ) (before : List Journal) (old new : Unread) (j : Journal) → IsNext scripts before old new j → length new.rest < length old.rest
shorter scripts before old new j next =
    omega (
      arith,
      ap length next.text,
      length-append (text_of j) new.rest,
      length-append (head_line j.machine (length j.history)) (lines_from 1 j.history),
      head_size j.machine (length j.history),
    )

pub some_size : (xs : List ℕ) → xs ≢ [] → 1 ≤ length xs
some_size [] some = absurd (some refl)
some_size (x ∷ xs) some = omega arith

-- the number of the line behind those that are allowed
pub stop_fits : (scripts : ℕ) (before : List Journal) (old between new : Unread) (head : Head) (h : List Placed) (allowed n : ℕ) → IsNewHead before old between head
    → AreRead scripts head.count between.rest new.rest h → AreAllowed (entries_of h) allowed → n + length old.rest < 2 ^ 64 → n + 1 + allowed + 1 < 2 ^ 64
stop_fits scripts before old between new head h allowed n starts read are few =
    omega (arith, read_size scripts before old between new head h starts read, few, are.within, length-map h (λ (p : Placed). p.entry))

pub which : (size allowed length count : ℕ) → size ≡ length → (allowed < size) ⊎ ((size ≤ allowed) × (size < count)) → (allowed < length) ⊎ (length < count)
which size allowed length count same (inl below) = inl (omega (arith, same, below))
which size allowed length count same (inr short) = inr (omega (arith, same, short.1))
