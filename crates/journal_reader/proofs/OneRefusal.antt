-- Private: no public contract cites this. One line of bytes is the first that is refused, and none of journals' text.
use Rattle.std.proofs.Common.{◌≡◌, inl, inr, ℕ, suc, ◌+◌, ◌^◌, ◌<◌, ◌≤◌, List, [], ◌∷◌, ◌++◌, length, decimal, refl, sym, ap, ◌∙◌, subst, arith, append_assoc, append-nil, length-append}
use Rattle.std.{proofs.lemmas.List.length-map, specs.List.AllByRecursion}
use Rattle.metric_table.specs.{Limits.most, declared.limits.Limit.TheVariants.{Machines, Steps}}
use Rattle.line_text.specs.Names.{NamesAreSpelledBack}
use Rattle.history_model.specs.{declared.entries.Placed.Placed, Entries.entries_of}
use Rattle.track_entry.specs.Texts.{entry_text}
use Rattle.journal_lines.specs.{Authors.MayAdd, Coming.{MayComeAfter, WasKept, crew_with}, Laws.{OneHead, OneStep}, Lines.IsStep}
use Rattle.journal_lines.{specs.Texts.{Journal, author_word, head_line, lines_from, texts_of}, proofs.Feeds.{author_lacks, entry_lacks}}
use Rattle.journal_lines.proofs.{Lacking.{Lacks, lacks_both, lacks_decimal, parted}, OneMore.all_more, Words.{head_lacks, machine_words, step_is}}
use Rattle.journal_reader.specs.{Journals.{AreDifferent, IsJournal, IsOther}, Laws.{NoneRefused, OneRefusal}}
use Rattle.journal_reader.specs.Reading.{Reading, nothing_read, GoesOn, LeadTo, with_feed, with_feeds}
use Rattle.journal_reader.proofs.{Leading.{entry_lines, feeds_both, led_on, machine_feeds, machine_leads, reading_of}, Lists.same_ends, Unique.fits}

-- ---- journals' text leads to them

come_made : (scripts : ℕ) (before made : List Placed) → AllByRecursion (MayAdd (crew_with scripts)) made → MayComeAfter scripts before made
come_made scripts before [] run = tt
come_made scripts before (p ∷ made) run = (inr run.0, come_made scripts (before ++ p ∷ []) made run.1)

come_kept : (scripts : ℕ) (before kept made : List Placed) → AllByRecursion WasKept before → AllByRecursion WasKept kept → AllByRecursion (MayAdd (crew_with scripts)) made
    → MayComeAfter scripts before (kept ++ made)
come_kept scripts before [] made first each run = come_made scripts before made run
come_kept scripts before (p ∷ kept) made first each run =
    (inl (first, each.0), come_kept scripts (before ++ p ∷ []) kept made (all_more WasKept before p first each.0) each.1 run)

come : (scripts : ℕ) (j : Journal) → IsJournal scripts j → MayComeAfter scripts [] j.history
come scripts j is = subst (λ (h : List Placed). MayComeAfter scripts [] h) (sym is.parts) (come_kept scripts [] is.kept is.made tt is.of_store is.of_run)

-- journals of other machines than those before
abbrev IsFresh : List Journal → Journal → Type 0
IsFresh before j = AllByRecursion (IsOther j.machine) before

all_fresh : (js : List Journal) → AllByRecursion (IsFresh []) js
all_fresh [] = tt
all_fresh (j ∷ js) = (tt, all_fresh js)

fresh_more : (before js : List Journal) (j : Journal) → AllByRecursion (IsFresh before) js → AllByRecursion (IsOther j.machine) js → AllByRecursion (IsFresh (before ++ j ∷ [])) js
fresh_more before [] j fresh others = tt
fresh_more before (k ∷ js) j fresh others =
    (all_more (IsOther k.machine) before j fresh.0 (λ same. others.0 (sym same)), fresh_more before js j fresh.1 others.1)

record Leads (scripts : ℕ) (before js : List Journal) : Type 0 where
  lines : List (List ℕ)
  text : texts_of js ≡ with_feeds lines
  led : LeadTo scripts (record { journals = before; due = 0 }) lines (record { journals = before ++ js; due = 0 })

leads : (scripts : ℕ) (before js : List Journal) → length before + length js ≤ most Machines → AllByRecursion (IsFresh before) js → AreDifferent js → AllByRecursion (IsJournal scripts) js
    → Leads scripts before js
leads scripts before [] few fresh different each = record {
  lines = [];
  text = refl;
  led = ap (λ (l : List Journal). let r : Reading = record { journals = l; due = 0 } in r) (append-nil before);
}
leads scripts before (j ∷ js) few fresh different each =
    let first : List (List ℕ) = machine_words j.machine (length j.history) ∷ entry_lines 1 j.history in
    let old : Reading = record { journals = before; due = 0 } in
    let next : Reading = reading_of before j.machine j.history 0 in
    let one : LeadTo scripts old first next =
    machine_leads scripts before j.machine (length j.history) j.history 0 each.0.named (fits scripts j each.0) fresh.0 (omega (arith, few)) (omega arith) each.0.lines (come scripts j each.0) each.0.legal in
    let more : Leads scripts (before ++ j ∷ []) js =
    leads scripts (before ++ j ∷ []) js (omega (arith, few, length-append before (j ∷ []))) (fresh_more before js j fresh.1 different.0) different.1 each.1 in
    let last : Reading = record { journals = (before ++ j ∷ []) ++ js; due = 0 } in
    record {
      lines = first ++ more.lines;
      text = append_assoc (head_line j.machine (length j.history)) (lines_from 1 j.history) (texts_of js)
          ∙ machine_feeds j.machine (length j.history) j.history (texts_of js)
          ∙ ap (λ (l : List ℕ). with_feeds first ++ l) more.text ∙ sym (feeds_both first more.lines);
      led = subst (λ (l : List Journal). LeadTo scripts old (first ++ more.lines) (record { journals = l; due = 0 })) (append_assoc before (j ∷ []) js)
          (led_on scripts old next last first more.lines one more.led);
    }

-- ---- one way on

step_lacks : NamesAreSpelledBack → (step : ℕ) (line : List ℕ) (p : Placed) → step < 10 ^ 64 → IsStep step line p → Lacks 10 line
step_lacks names step line p small is =
    let text : Lacks 10 (32 ∷ entry_text p.entry) = (λ same. omega (arith, same), entry_lacks names p.entry is.entry) in
    let author : Lacks 10 (author_word p.author ++ 32 ∷ entry_text p.entry) =
    lacks_both 10 (author_word p.author) (32 ∷ entry_text p.entry) (author_lacks 10 (omega arith) p.author is.author) text in
    let word : Lacks 10 (32 ∷ (author_word p.author ++ 32 ∷ entry_text p.entry)) = (λ same. omega (arith, same), author) in
    subst (Lacks 10) (sym (step_is step line p is))
    (lacks_both 10 (decimal step) (32 ∷ (author_word p.author ++ 32 ∷ entry_text p.entry)) (lacks_decimal 10 step (omega arith) small) word)

first_feed : (line : List ℕ) (lines : List (List ℕ)) (rest : List ℕ) → with_feeds (line ∷ lines) ++ rest ≡ line ++ 10 ∷ (with_feeds lines ++ rest)
first_feed line lines rest = append_assoc (with_feed line) (with_feeds lines) rest ∙ append_assoc line (10 ∷ []) (with_feeds lines ++ rest)

no_feed : (line more : List ℕ) → [] ≡ line ++ 10 ∷ more → ⊥
no_feed line more is = let size : length {A = ℕ} [] ≡ length (line ++ 10 ∷ more) = ap length is in omega (arith, size, length-append line (10 ∷ more))

-- no line of these bytes goes on
abbrev Stops : ℕ → Reading → List ℕ → Type 0
Stops scripts before bytes = (line more : List ℕ) (after : Reading) → bytes ≡ line ++ 10 ∷ more → ¬ GoesOn scripts before line after

-- two ways on are one
record IsOneWay (one other : Reading) (rest more : List ℕ) (count many : ℕ) : Type 0 where
  reading_is : one ≡ other
  rest_is : rest ≡ more
  count_is : count ≡ many

module _ (names : NamesAreSpelledBack) (heads : OneHead) (steps : OneStep) (scripts : ℕ) where
  goes_lacks : (before after : Reading) (line : List ℕ) → GoesOn scripts before line after → Lacks 10 line
  goes_lacks before after line (inl a) = head_lacks names line a.machine a.count a.says
  goes_lacks before after line (inr a) =
      let few : length (entries_of a.last.history ++ a.entry.entry ∷ []) ≤ most Steps = a.allowed.1 Steps in
      let more : length (entries_of a.last.history ++ a.entry.entry ∷ []) ≡ length (entries_of a.last.history) + 1 = length-append (entries_of a.last.history) (a.entry.entry ∷ []) in
      let same : length (entries_of a.last.history) ≡ length a.last.history = length-map a.last.history (λ (p : Placed). p.entry) in
      step_lacks names (length a.last.history + 1) line a.entry (omega (arith, few, more, same)) a.says

  one_on : (before one other : Reading) (line : List ℕ) → GoesOn scripts before line one → GoesOn scripts before line other → one ≡ other
  one_on before one other line (inl a) (inl b) =
      let same : (a.machine ≡ b.machine) × (a.count ≡ b.count) = heads line a.machine b.machine a.count b.count a.says b.says in
      let Made : List ℕ → ℕ → Reading = λ m n. record { journals = before.journals ++ record { machine = m; history = [] } ∷ []; due = n } in
      a.is ∙ ap (λ (m : List ℕ). Made m a.count) same.0 ∙ ap (Made b.machine) same.1 ∙ sym b.is
  one_on before one other line (inl a) (inr b) = absurd (omega (arith, a.none_due, b.some_due))
  one_on before one other line (inr a) (inl b) = absurd (omega (arith, a.some_due, b.none_due))
  one_on before one other line (inr a) (inr b) =
      let both : a.front ++ a.last ∷ [] ≡ b.front ++ b.last ∷ [] = sym a.here ∙ b.here in
      let front : a.front ≡ b.front = (same_ends a.front b.front a.last b.last both).0 in
      let last : a.last ≡ b.last = (same_ends a.front b.front a.last b.last both).1 in
      let more : a.more ≡ b.more = omega (arith, a.some_due, b.some_due) in
      let says : IsStep (length a.last.history + 1) line b.entry = subst (λ (j : Journal). IsStep (length j.history + 1) line b.entry) (sym last) b.says in
      let entry : a.entry ≡ b.entry = steps (length a.last.history + 1) line a.entry b.entry a.says says in
      let Made : List Journal → Journal → Placed → ℕ → Reading = λ f j e n. record { journals = f ++ record { machine = j.machine; history = j.history ++ e ∷ [] } ∷ []; due = n } in
      a.is ∙ ap (λ (f : List Journal). Made f a.last a.entry a.more) front ∙ ap (λ (j : Journal). Made b.front j a.entry a.more) last
      ∙ ap (λ (e : Placed). Made b.front b.last e a.more) entry ∙ ap (Made b.front b.last b.entry) more ∙ sym b.is

  one_way : (before one other : Reading) (bytes rest more : List ℕ) (lines others : List (List ℕ)) → bytes ≡ with_feeds lines ++ rest → bytes ≡ with_feeds others ++ more
      → LeadTo scripts before lines one → LeadTo scripts before others other → Stops scripts one rest → Stops scripts other more → IsOneWay one other rest more (length lines) (length others)
  one_way before one other bytes rest more [] [] split parts led too stops also = record { reading_is = led ∙ sym too; rest_is = sym split ∙ parts; count_is = refl }
  one_way before one other bytes rest more [] (line ∷ others) split parts led too stops also =
      absurd (stops line (with_feeds others ++ more) too.0 (sym split ∙ parts ∙ first_feed line others more) (subst (λ (r : Reading). GoesOn scripts r line too.0) (sym led) too.1))
  one_way before one other bytes rest more (line ∷ lines) [] split parts led too stops also =
      absurd (also line (with_feeds lines ++ rest) led.0 (sym parts ∙ split ∙ first_feed line lines rest) (subst (λ (r : Reading). GoesOn scripts r line led.0) (sym too) led.1))
  one_way before one other bytes rest more (line ∷ lines) (word ∷ others) split parts led too stops also =
      let both : line ++ 10 ∷ (with_feeds lines ++ rest) ≡ word ++ 10 ∷ (with_feeds others ++ more) =
      sym (first_feed line lines rest) ∙ sym split ∙ parts ∙ first_feed word others more in
      let same : (line ≡ word) × (with_feeds lines ++ rest ≡ with_feeds others ++ more) =
      parted 10 line word (with_feeds lines ++ rest) (with_feeds others ++ more) (goes_lacks before led.0 line led.1) (goes_lacks before too.0 word too.1) both in
      let next : led.0 ≡ too.0 = one_on before led.0 too.0 line led.1 (subst (λ (l : List ℕ). GoesOn scripts before l too.0) (sym same.0) too.1) in
      let way : IsOneWay one other rest more (length lines) (length others) =
      one_way led.0 one other (with_feeds lines ++ rest) rest more lines others refl same.1 led.2 (subst (λ (r : Reading). LeadTo scripts r others other) (sym next) too.2) stops also in
      record { reading_is = way.reading_is; rest_is = way.rest_is; count_is = ap suc way.count_is }

-- ---- one refusal

pub one_refusal : NamesAreSpelledBack → OneHead → OneStep → OneRefusal
one_refusal names heads steps scripts bytes l m one other =
    let a = one.2 in
    let b = other.2 in
    let way = one_way names heads steps scripts nothing_read a.reading b.reading bytes a.rest b.rest a.lines b.lines a.split b.split a.led b.led a.refused.no_line b.refused.no_line in
    omega (arith, one.1, other.1, a.number, b.number, way.count_is)

pub none_refused : NamesAreSpelledBack → OneHead → OneStep → NoneRefused
none_refused names heads steps scripts bytes js l text refused =
    let a : Leads scripts [] js = leads scripts [] js (omega (arith, text.are.few)) (all_fresh js) text.are.different text.are.each in
    let b = refused.2 in
    let whole : Reading = record { journals = js; due = 0 } in
    let way = one_way names heads steps scripts nothing_read whole b.reading bytes [] b.rest a.lines b.lines (text.text ∙ a.text ∙ sym (append-nil (with_feeds a.lines))) b.split a.led b.led
    (λ line more after is on. no_feed line more is) b.refused.no_line in
    b.refused.no_end (sym way.rest_is) (ap (λ (r : Reading). r.due) (sym way.reading_is))
