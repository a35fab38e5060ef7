-- Private: no public contract cites this. Where a line of the next journal is refused, and how journals are read one by one.
use Rattle.std.proofs.Common.{◌≡◌, ◌≢◌, inl, inr, ◌⊎◌, ℕ, suc, ◌+◌, ◌-◌, ◌^◌, ◌<◌, ◌≤◌, List, [], ◌∷◌, ◌++◌, length, take, refl, sym, ap, ◌∙◌, subst, arith, append_assoc, append-nil, length-append}
use Rattle.std.{proofs.lemmas.List.length-map, specs.List.AllByRecursion, proofs.lemmas.Bool.cases_order}
use Rattle.metric_table.specs.{Limits.most, declared.limits.Limit.TheVariants.Machines}
use Rattle.line_text.specs.{Names.NamesAreSpelledBack, Numbers.NumbersAreSpelled}
use Rattle.history_model.specs.{declared.entries.Entry.Entry, declared.entries.Placed.Placed, Allowed.{Allowed, Legal}, Entries.entries_of}
use Rattle.track_entry.specs.Texts.{IsOneEntry}
use Rattle.journal_lines.specs.{Coming.{AreRead, HasNoNext, MayCome, MayComeAfter}, Lines.{IsHead, HasLine}}
use Rattle.journal_lines.specs.{Texts.{Journal, entry_line, head_line, lines_from, text_of, texts_of}, Unread.Unread, declared.head.Head.Head}
use Rattle.journal_lines.proofs.{Unique.{one_step, SameStep}, Words.machine_words, OneMore.all_more}
use Rattle.journal_reader.specs.{Journals.{IsJournal, IsOther, AreDifferent, AreJournals, IsTextOf}, Judging.AreAllowed}
use Rattle.journal_reader.specs.Next.{IsNewHead, IsRead, IsNext, IsRefusedNext}
use Rattle.journal_reader.specs.Reading.{Reading, nothing_read, GoesOn, LeadTo, Refuses, IsRefusedAt, IsRefusedBehind, with_feeds}
use Rattle.journal_reader.proofs.Leading.{reading_of, entry_lines, entry_count, machine_leads, machine_feeds, led_on, feeds_both}
use Rattle.journal_reader.proofs.Lists.{same_ends, parts_at, some_at, map_at, map_take, take_size, take_all, all_take, all_at}
use Rattle.journal_reader.proofs.Sorting.{KeptFirst, kept_first}

-- ---- a machine's line

pub head_refused : (scripts : ℕ) (before : List Journal) (rest : List ℕ) → rest ≢ []
    → ((line next machine : List ℕ) (count : ℕ) → rest ≡ line ++ 10 ∷ next → IsHead line machine count
    → AllByRecursion (IsOther machine) before → length before < most Machines → ⊥)
    → Refuses scripts (record { journals = before; due = 0 }) rest
head_refused scripts before rest some never = record { no_line = no_line; no_end = λ none. absurd (some none) }
  where
    no_line : (line more : List ℕ) (after : Reading) → rest ≡ line ++ 10 ∷ more → ¬ GoesOn scripts (record { journals = before; due = 0 }) line after
    no_line line more after split (inl a) = never line more a.machine a.count split a.says a.fresh a.room
    no_line line more after split (inr a) = omega (arith, a.some_due)

pub next_refused : (scripts : ℕ) (before : List Journal) (old : Unread) (l : ℕ) → l ≡ old.count + 1 → Refuses scripts (record { journals = before; due = 0 }) old.rest
    → IsRefusedNext scripts before old l
next_refused scripts before old l number refused = record {
  more = 0;
  number = omega (arith, number);
  refused = record { lines = []; rest = old.rest; split = refl; number = refl; reading = record { journals = before; due = 0 }; led = refl; refused = refused };
}

-- ---- the line of an entry

-- the journal that goes on has this history
last_history : (before front : List Journal) (m : List ℕ) (h : List Placed) (last : Journal) → before ++ record { machine = m; history = h } ∷ [] ≡ front ++ last ∷ [] → h ≡ last.history
last_history before front m h last here = ap (λ (j : Journal). j.history) (same_ends before front (record { machine = m; history = h }) last here).1

-- the text of a line that goes on
entry_text_of : (rest line next : List ℕ) (h l : List Placed) (p : Placed) → h ≡ l → rest ≡ line ++ 10 ∷ next → line ++ 10 ∷ [] ≡ entry_line (length l + 1) p → rest ≡ entry_line (length h + 1) p ++ next
entry_text_of rest line next h l p same split text =
    split ∙ sym (append_assoc line (10 ∷ []) next)
    ∙ ap (λ (t : List ℕ). t ++ next) (text ∙ ap (λ (k : List Placed). entry_line (length k + 1) p) (sym same))

module _ (names : NamesAreSpelledBack) (numbers : NumbersAreSpelled) (one : IsOneEntry) where
  -- an entry that isn't allowed comes next
  pub entry_refused : (scripts : ℕ) (before : List Journal) (m : List ℕ) (h : List Placed) (due : ℕ) (rest more : List ℕ) (p : Placed)
      → rest ≡ entry_line (length h + 1) p ++ more → HasLine p → (Allowed (entries_of h) p.entry → ⊥)
      → Refuses scripts (reading_of before m h (suc due)) rest
  entry_refused scripts before m h due rest more p is line never = record { no_line = no_line; no_end = λ none same. omega (arith, same) }
    where
      no_line : (bytes next : List ℕ) (after : Reading) → rest ≡ bytes ++ 10 ∷ next → ¬ GoesOn scripts (reading_of before m h (suc due)) bytes after
      no_line bytes next after split (inl a) = omega (arith, a.none_due)
      no_line bytes next after split (inr a) =
          let history : h ≡ a.last.history = last_history before a.front m h a.last a.here in
          let text : rest ≡ entry_line (length h + 1) a.entry ++ next = entry_text_of rest bytes next h a.last.history a.entry history split a.says.text in
          let same : SameStep p a.entry more next =
          one_step names numbers one (length h + 1) p a.entry more next line.author a.says.author line.entry a.says.entry (sym is ∙ text) in
          never (subst (λ (q : Placed). Allowed (entries_of h) q.entry) (sym same.entry_is) (subst (λ (l : List Placed). Allowed (entries_of l) a.entry.entry) (sym history) a.allowed))

-- no entry that may come stands next
pub none_refused : (scripts : ℕ) (before : List Journal) (m : List ℕ) (h : List Placed) (due : ℕ) (rest : List ℕ) → HasNoNext scripts h rest
    → Refuses scripts (reading_of before m h (suc due)) rest
none_refused scripts before m h due rest none = record { no_line = no_line; no_end = λ end same. omega (arith, same) }
  where
    no_line : (bytes next : List ℕ) (after : Reading) → rest ≡ bytes ++ 10 ∷ next → ¬ GoesOn scripts (reading_of before m h (suc due)) bytes after
    no_line bytes next after split (inl a) = omega (arith, a.none_due)
    no_line bytes next after split (inr a) =
        let history : h ≡ a.last.history = last_history before a.front m h a.last a.here in
        none a.entry next (record { author = a.says.author; entry = a.says.entry })
        (subst (λ (l : List Placed). MayCome scripts l a.entry) (sym history) a.may)
        (entry_text_of rest bytes next h a.last.history a.entry history split a.says.text)

-- ---- a journal

lines_parts : (step : ℕ) (h more : List Placed) → lines_from step (h ++ more) ≡ lines_from step h ++ lines_from (step + length h) more
lines_parts step [] more = let place : step + 0 ≡ step = omega arith in rw place refl
lines_parts step (x ∷ h) more =
    let place : step + suc (length h) ≡ step + 1 + length h = omega arith in
    rw place (ap (λ (l : List ℕ). entry_line step x ++ l) (lines_parts (step + 1) h more) ∙ sym (append_assoc (entry_line step x) (lines_from (step + 1) h) (lines_from (step + 1 + length h) more)))

come_front : (scripts : ℕ) (before h more : List Placed) → MayComeAfter scripts before (h ++ more) → MayComeAfter scripts before h
come_front scripts before [] more come = tt
come_front scripts before (x ∷ h) more come = (come.0, come_front scripts (before ++ x ∷ []) h more come.1)

-- what was read of a journal's first entries, which lead on, where nothing goes on with the rest
first_lead : (scripts : ℕ) (before : List Journal) (old : Unread) (head : Head) (between : Unread) (h : List Placed) (due : ℕ) (rest : List ℕ)
    → IsNewHead before old between head → head.count ≡ length h + due → between.rest ≡ lines_from 1 h ++ rest
    → AllByRecursion HasLine h → MayComeAfter scripts [] h → Legal (entries_of h) → Refuses scripts (reading_of before head.machine h due) rest
    → IsRefusedBehind scripts (record { journals = before; due = 0 }) old.rest (length h + 1)
first_lead scripts before old head between h due rest new counted text lines come legal refused = record {
  lines = machine_words head.machine head.count ∷ entry_lines 1 h;
  rest = rest;
  split = new.text ∙ ap (λ (l : List ℕ). head_line head.machine head.count ++ l) text ∙ machine_feeds head.machine head.count h rest;
  number = omega (arith, entry_count 1 h);
  reading = reading_of before head.machine h due;
  led = machine_leads scripts before head.machine head.count h due new.named new.fits new.fresh new.room counted lines come legal;
  refused = refused;
}

module _ (names : NamesAreSpelledBack) (numbers : NumbersAreSpelled) (one : IsOneEntry) where
  -- an entry that was read isn't allowed
  entry_stops : (scripts : ℕ) (before : List Journal) (old : Unread) (head : Head) (between new : Unread) (h : List Placed) (allowed : ℕ)
      → IsNewHead before old between head → AreRead scripts head.count between.rest new.rest h → AreAllowed (entries_of h) allowed → allowed < length h
      → IsRefusedBehind scripts (record { journals = before; due = 0 }) old.rest (allowed + 1)
  entry_stops scripts before old head between new h allowed starts read are below =
      let next = some_at h allowed below in
      let parts = parts_at h allowed next.0 next.1 in
      let size : length (take allowed h) ≡ allowed = take_size h allowed (omega (arith, below)) in
      let first : entries_of (take allowed h) ≡ take allowed (entries_of h) = map_take (λ (p : Placed). p.entry) h allowed in
      let place : 1 + length (take allowed h) ≡ length (take allowed h) + 1 = omega arith in
      let behind : List ℕ = lines_from (length (take allowed h) + 1 + 1) parts.0 ++ new.rest in
      let tail : List ℕ = entry_line (length (take allowed h) + 1) next.0 ++ behind in
      let text : between.rest ≡ lines_from 1 (take allowed h) ++ tail =
      read.is
      ∙ ap (λ (l : List ℕ). l ++ new.rest) (ap (lines_from 1) parts.1 ∙ lines_parts 1 (take allowed h) (next.0 ∷ parts.0) ∙ ap (λ (n : ℕ). lines_from 1 (take allowed h) ++ lines_from n (next.0 ∷ parts.0)) place)
      ∙ append_assoc (lines_from 1 (take allowed h)) (lines_from (length (take allowed h) + 1) (next.0 ∷ parts.0)) new.rest
      ∙ ap (λ (l : List ℕ). lines_from 1 (take allowed h) ++ l) (append_assoc (entry_line (length (take allowed h) + 1) next.0) (lines_from (length (take allowed h) + 1 + 1) parts.0) new.rest) in
      let never : Allowed (entries_of (take allowed h)) next.0.entry → ⊥ =
      λ may. are.next next.0.entry (map_at (λ (p : Placed). p.entry) h allowed next.0 next.1) (subst (λ (l : List Entry). Allowed l next.0.entry) first may) in
      let due : ℕ = head.count - (allowed + 1) in
      let counted : head.count ≡ length (take allowed h) + suc due = omega (arith, size, below, read.few) in
      let all : IsRefusedBehind scripts (record { journals = before; due = 0 }) old.rest (length (take allowed h) + 1) =
      first_lead scripts before old head between (take allowed h) (suc due) tail starts counted text
      (all_take HasLine h allowed read.lines)
      (come_front scripts [] (take allowed h) (next.0 ∷ parts.0) (subst (λ (l : List Placed). MayComeAfter scripts [] l) parts.1 read.come))
      (subst (λ (l : List Entry). Legal l) (sym first) are.legal)
      (entry_refused names numbers one scripts before head.machine (take allowed h) due tail behind next.0 refl (all_at HasLine h allowed next.0 read.lines next.1) never) in
      subst (λ (n : ℕ). IsRefusedBehind scripts (record { journals = before; due = 0 }) old.rest (n + 1)) size all

  -- or all that were read are, and fewer were than are due
  few_stop : (scripts : ℕ) (before : List Journal) (old : Unread) (head : Head) (between new : Unread) (h : List Placed) (allowed : ℕ)
      → IsNewHead before old between head → AreRead scripts head.count between.rest new.rest h → AreAllowed (entries_of h) allowed → allowed ≡ length h → length h < head.count
      → IsRefusedBehind scripts (record { journals = before; due = 0 }) old.rest (allowed + 1)
  few_stop scripts before old head between new h allowed starts read are same short =
      let due : ℕ = head.count - (length h + 1) in
      let counted : head.count ≡ length h + suc due = omega (arith, short) in
      let whole : take allowed (entries_of h) ≡ entries_of h = take_all (entries_of h) allowed (length-map h (λ (p : Placed). p.entry) ∙ sym same) in
      let all : IsRefusedBehind scripts (record { journals = before; due = 0 }) old.rest (length h + 1) =
      first_lead scripts before old head between h (suc due) new.rest starts counted read.is read.lines read.come
      (subst (λ (l : List Entry). Legal l) whole are.legal)
      (none_refused scripts before head.machine h due new.rest (none read.whole)) in
      subst (λ (n : ℕ). IsRefusedBehind scripts (record { journals = before; due = 0 }) old.rest (n + 1)) (sym same) all
    where
      none : (length h ≡ head.count) ⊎ HasNoNext scripts h new.rest → HasNoNext scripts h new.rest
      none (inl full) = absurd (omega (arith, full, short))
      none (inr nothing) = nothing

  pub journal_refused : (scripts : ℕ) (before : List Journal) (old : Unread) (head : Head) (between new : Unread) (h : List Placed) (allowed l : ℕ)
      → IsNewHead before old between head → AreRead scripts head.count between.rest new.rest h → AreAllowed (entries_of h) allowed
      → (allowed < length h) ⊎ (length h < head.count) → l ≡ old.count + 1 + allowed + 1
      → IsRefusedNext scripts before old l
  journal_refused scripts before old head between new h allowed l starts read are (inl below) number = record {
    more = allowed + 1;
    number = omega (arith, number);
    refused = entry_stops scripts before old head between new h allowed starts read are below;
  }
  journal_refused scripts before old head between new h allowed l starts read are (inr short) number = elim (cases_order allowed (length h)) [
    | inl same ↦ record { more = allowed + 1; number = omega (arith, number); refused = few_stop scripts before old head between new h allowed starts read are same short }
    | inr (inl below) ↦ record { more = allowed + 1; number = omega (arith, number); refused = entry_stops scripts before old head between new h allowed starts read are below }
    | inr (inr above) ↦ absurd (omega (arith, above, are.within, length-map h (λ (p : Placed). p.entry)))
  ]

-- the whole journal was read
pub journal_read : (scripts : ℕ) (before : List Journal) (old : Unread) (head : Head) (between new : Unread) (h : List Placed) (allowed : ℕ)
    → IsNewHead before old between head → AreRead scripts head.count between.rest new.rest h → AreAllowed (entries_of h) allowed
    → length h ≤ allowed → head.count ≤ length h → new.count ≡ between.count + length h
    → IsNext scripts before old new (record { machine = head.machine; history = h })
journal_read scripts before old head between new h allowed starts read are all whole counted =
    let full : head.count ≡ length h = omega (arith, whole, read.few) in
    let same : take allowed (entries_of h) ≡ entries_of h =
    take_all (entries_of h) allowed (omega (arith, all, are.within, length-map h (λ (p : Placed). p.entry))) in
    record {
      text = starts.text ∙ ap (λ (l : List ℕ). head_line head.machine head.count ++ l) read.is ∙ sym (append_assoc (head_line head.machine head.count) (lines_from 1 h) new.rest)
          ∙ ap (λ (n : ℕ). (head_line head.machine n ++ lines_from 1 h) ++ new.rest) full;
      count = omega (arith, counted, starts.count);
      read = record { named = starts.named; lines = read.lines; come = read.come; legal = subst (λ (l : List Entry). Legal l) same are.legal };
      fresh = starts.fresh;
      room = starts.room;
    }

-- ---- journals, one by one

pub record SoFar (scripts : ℕ) (text : List ℕ) (unread : Unread) (js : List Journal) : Type 0 where
  pub are : AreJournals scripts js
  pub texts : text ≡ texts_of js ++ unread.rest
  pub lines : List (List ℕ)
  pub split : text ≡ with_feeds lines ++ unread.rest
  pub count : unread.count ≡ length lines
  pub led : LeadTo scripts nothing_read lines (record { journals = js; due = 0 })

pub none_so_far : (scripts : ℕ) (text : List ℕ) → SoFar scripts text (record { rest = text; count = 0 }) []
none_so_far scripts text = record {
  are = record { few = omega arith; different = tt; each = tt };
  texts = refl;
  lines = [];
  split = refl;
  count = refl;
  led = refl;
}

texts_more : (js : List Journal) (j : Journal) → texts_of (js ++ j ∷ []) ≡ texts_of js ++ text_of j
texts_more [] j = append-nil (text_of j)
texts_more (x ∷ js) j = ap (λ (l : List ℕ). text_of x ++ l) (texts_more js j) ∙ sym (append_assoc (text_of x) (texts_of js) (text_of j))

different_more : (js : List Journal) (j : Journal) → AreDifferent js → AllByRecursion (IsOther j.machine) js → AreDifferent (js ++ j ∷ [])
different_more [] j different fresh = (tt, tt)
different_more (x ∷ js) j different fresh =
    (all_more (IsOther x.machine) js j different.0 (λ same. fresh.0 (sym same)), different_more js j different.1 fresh.1)

pub is_journal : (scripts : ℕ) (j : Journal) → IsRead scripts j → IsJournal scripts j
is_journal scripts j read =
    let parts : KeptFirst scripts j.history = kept_first scripts [] j.history tt read.come in
    record {
      named = read.named;
      kept = parts.kept;
      made = parts.made;
      parts = parts.parts;
      of_store = parts.of_store;
      of_run = parts.of_run;
      lines = read.lines;
      legal = read.legal;
    }

-- one more
pub so_more : (scripts : ℕ) (text : List ℕ) (old new : Unread) (js : List Journal) (j : Journal) → length j.history < 2 ^ 64
    → SoFar scripts text old js → IsNext scripts js old new j → SoFar scripts text new (js ++ j ∷ [])
so_more scripts text old new js j fits so next =
    let more : List (List ℕ) = machine_words j.machine (length j.history) ∷ entry_lines 1 j.history in
    let led : LeadTo scripts (record { journals = js; due = 0 }) more (reading_of js j.machine j.history 0) =
    machine_leads scripts js j.machine (length j.history) j.history 0 next.read.named fits next.fresh next.room (omega arith) next.read.lines next.read.come next.read.legal in
    let front : text_of j ++ new.rest ≡ with_feeds more ++ new.rest =
    append_assoc (head_line j.machine (length j.history)) (lines_from 1 j.history) new.rest ∙ machine_feeds j.machine (length j.history) j.history new.rest in
    record {
      are = record {
        few = omega (arith, next.room, length-append js (j ∷ []));
        different = different_more js j so.are.different next.fresh;
        each = all_more (IsJournal scripts) js j so.are.each (is_journal scripts j next.read);
      };
      texts = so.texts ∙ ap (λ (l : List ℕ). texts_of js ++ l) next.text ∙ sym (append_assoc (texts_of js) (text_of j) new.rest)
          ∙ ap (λ (l : List ℕ). l ++ new.rest) (sym (texts_more js j));
      lines = so.lines ++ more;
      split = so.split ∙ ap (λ (l : List ℕ). with_feeds so.lines ++ l) (next.text ∙ front) ∙ sym (append_assoc (with_feeds so.lines) (with_feeds more) new.rest)
          ∙ ap (λ (l : List ℕ). l ++ new.rest) (sym (feeds_both so.lines more));
      count = omega (arith, next.count, so.count, length-append so.lines more, entry_count 1 j.history);
      led = led_on scripts nothing_read (record { journals = js; due = 0 }) (reading_of js j.machine j.history 0) so.lines more so.led led;
    }

-- nothing is left
pub so_end : (scripts : ℕ) (text : List ℕ) (unread : Unread) (js : List Journal) → SoFar scripts text unread js → unread.rest ≡ [] → IsTextOf scripts text js
so_end scripts text unread js so none =
    record { are = so.are; text = so.texts ∙ ap (λ (l : List ℕ). texts_of js ++ l) none ∙ append-nil (texts_of js) }

-- the next one is refused
pub so_refused : (scripts : ℕ) (text : List ℕ) (unread : Unread) (js : List Journal) (l : ℕ) → SoFar scripts text unread js → IsRefusedNext scripts js unread l → IsRefusedAt scripts text l
so_refused scripts text unread js l so next = (
  unread.count + next.more,
  omega (arith, next.number),
  record {
    lines = so.lines ++ next.refused.lines;
    rest = next.refused.rest;
    split = so.split ∙ ap (λ (t : List ℕ). with_feeds so.lines ++ t) next.refused.split ∙ sym (append_assoc (with_feeds so.lines) (with_feeds next.refused.lines) next.refused.rest)
        ∙ ap (λ (t : List ℕ). t ++ next.refused.rest) (sym (feeds_both so.lines next.refused.lines));
    number = omega (arith, so.count, next.refused.number, length-append so.lines next.refused.lines);
    reading = next.refused.reading;
    led = led_on scripts nothing_read (record { journals = js; due = 0 }) next.refused.reading so.lines next.refused.lines so.led next.refused.led;
    refused = next.refused.refused;
  },
)
