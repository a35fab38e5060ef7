-- Private: no public contract cites this. The lines of a journal lead to it.
use Rattle.std.proofs.Common.{◌≡◌, inl, inr, ℕ, suc, ◌+◌, ◌^◌, ◌<◌, List, [], ◌∷◌, ◌++◌, length, refl, sym, ap, ap₂, ◌∙◌, subst, arith, append_assoc, append-nil, length-append}
use Rattle.std.specs.List.{AllByRecursion}
use Rattle.metric_table.specs.{Limits.most, declared.limits.Limit.TheVariants.Machines}
use Rattle.line_text.specs.Names.{IsName}
use Rattle.history_model.specs.{declared.entries.Entry.Entry, declared.entries.Placed.Placed, Allowed.AllowedAfter, Entries.entries_of}
use Rattle.journal_lines.specs.{Coming.MayComeAfter, Lines.HasLine, Texts.{Journal, head_line, lines_from}}
use Rattle.journal_lines.proofs.Words.{machine_words, head_shown, step_words, step_shown}
use Rattle.journal_reader.specs.{Journals.IsOther, Reading.{Reading, LeadTo, with_feed, with_feeds}}

pub led_on : (scripts : ℕ) (before between after : Reading) (lines more : List (List ℕ)) → LeadTo scripts before lines between → LeadTo scripts between more after
    → LeadTo scripts before (lines ++ more) after
led_on scripts before between after [] more one two = subst (λ (r : Reading). LeadTo scripts r more after) one two
led_on scripts before between after (line ∷ lines) more one two = (one.0, one.1, led_on scripts one.0 between after lines more one.2 two)

pub feeds_both : (lines more : List (List ℕ)) → with_feeds (lines ++ more) ≡ with_feeds lines ++ with_feeds more
feeds_both [] more = refl
feeds_both (line ∷ lines) more = ap (λ (l : List ℕ). with_feed line ++ l) (feeds_both lines more) ∙ sym (append_assoc (with_feed line) (with_feeds lines) (with_feeds more))

-- the lines of entries from a step on, without their feeds
abbrev pub entry_lines : ℕ → List Placed → List (List ℕ)
entry_lines step [] = []
entry_lines step (p ∷ h) = step_words step p ∷ entry_lines (step + 1) h

pub entry_feeds : (step : ℕ) (h : List Placed) → with_feeds (entry_lines step h) ≡ lines_from step h
entry_feeds step [] = refl
entry_feeds step (p ∷ h) = ap₂ (λ (x y : List ℕ). x ++ y) (step_shown step p) (entry_feeds (step + 1) h)

pub entry_count : (step : ℕ) (h : List Placed) → length (entry_lines step h) ≡ length h
entry_count step [] = refl
entry_count step (p ∷ h) = ap suc (entry_count (step + 1) h)

abbrev pub reading_of : List Journal → List ℕ → List Placed → ℕ → Reading
reading_of before m h due = record { journals = before ++ record { machine = m; history = h } ∷ []; due = due }

-- entries that may come and are allowed lead on
pub entries_lead : (scripts : ℕ) (before : List Journal) (m : List ℕ) (h more : List Placed) (due : ℕ)
    → AllByRecursion HasLine more → MayComeAfter scripts h more → AllowedAfter (entries_of h) (entries_of more)
    → LeadTo scripts (reading_of before m h (length more + due)) (entry_lines (length h + 1) more) (reading_of before m (h ++ more) due)
entries_lead scripts before m h [] due lines come allowed =
    let none : length {A = Placed} [] + due ≡ due = omega arith in
    ap₂ (λ (l : List Placed) (n : ℕ). reading_of before m l n) (append-nil h) (sym none)
entries_lead scripts before m h (p ∷ more) due lines come allowed =
    let next : Reading = reading_of before m (h ++ p ∷ []) (length more + due) in
    let size : length (h ++ p ∷ []) + 1 ≡ length h + 1 + 1 = omega (arith, length-append h (p ∷ [])) in
    let grown : entries_of (h ++ p ∷ []) ≡ entries_of h ++ p.entry ∷ [] = entries_more h p in
    let rest : LeadTo scripts next (entry_lines (length (h ++ p ∷ []) + 1) more) (reading_of before m ((h ++ p ∷ []) ++ more) due) =
    entries_lead scripts before m (h ++ p ∷ []) more due lines.1 come.1 (subst (λ (l : List Entry). AllowedAfter l (entries_of more)) (sym grown) allowed.1) in (
      next,
      inr (record {
        front = before;
        last = record { machine = m; history = h };
        entry = p;
        more = length more + due;
        some_due = omega arith;
        here = refl;
        says = record { author = lines.0.author; entry = lines.0.entry; text = step_shown (length h + 1) p };
        may = come.0;
        allowed = allowed.0;
        is = refl;
      }),
      subst (λ (n : ℕ). LeadTo scripts next (entry_lines n more) (reading_of before m (h ++ p ∷ more) due)) size
          (subst (λ (l : List Placed). LeadTo scripts next (entry_lines (length (h ++ p ∷ []) + 1) more) (reading_of before m l due)) (append_assoc h (p ∷ []) more) rest),
    )
  where
    entries_more : (h : List Placed) (p : Placed) → entries_of (h ++ p ∷ []) ≡ entries_of h ++ p.entry ∷ []
    entries_more [] p = refl
    entries_more (x ∷ h) p = ap (λ (l : List Entry). x.entry ∷ l) (entries_more h p)

-- so do the line of a new machine, and its first entries
pub machine_leads : (scripts : ℕ) (before : List Journal) (m : List ℕ) (count : ℕ) (h : List Placed) (due : ℕ)
    → IsName m → count < 2 ^ 64 → AllByRecursion (IsOther m) before → length before < most Machines → count ≡ length h + due
    → AllByRecursion HasLine h → MayComeAfter scripts [] h → AllowedAfter [] (entries_of h)
    → LeadTo scripts (record { journals = before; due = 0 }) (machine_words m count ∷ entry_lines 1 h) (reading_of before m h due)
machine_leads scripts before m count h due named fits fresh room counted lines come allowed = (
  reading_of before m [] (length h + due),
  inl (record {
    machine = m;
    count = count;
    says = record { named = named; fits = fits; text = head_shown m count };
    none_due = refl;
    fresh = fresh;
    room = room;
    is = ap (λ (n : ℕ). reading_of before m [] n) (sym counted);
  }),
  entries_lead scripts before m [] h due lines come allowed,
)

-- and their text is in front
pub machine_feeds : (m : List ℕ) (count : ℕ) (h : List Placed) (rest : List ℕ)
    → head_line m count ++ (lines_from 1 h ++ rest) ≡ with_feeds (machine_words m count ∷ entry_lines 1 h) ++ rest
machine_feeds m count h rest =
    sym (append_assoc (head_line m count) (lines_from 1 h) rest)
    ∙ ap (λ (l : List ℕ). l ++ rest) (sym (ap₂ (λ (x y : List ℕ). x ++ y) (head_shown m count) (entry_feeds 1 h)))
