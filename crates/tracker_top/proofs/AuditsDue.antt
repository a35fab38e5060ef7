-- That what is due of an audit comes.
use Rattle.std.proofs.Common.{◌≡◌, ◌∙◌, ◌⊎◌, inl, inr, ℕ, ◌+◌, ◌-◌, ◌<◌, ◌≤◌, List, [], ◌∷◌, length, take, Option, None, Some, IfSome, refl, sym, ap, subst, arith}
use Rattle.std.{specs.Prelude.{sum_by, unwrap_or}, specs.List.AllZip, proofs.lemmas.Bool.cases_order, proofs.lemmas.List.take-take}
use Rattle.std.proofs.lemmas.List.Sums.{sum_by-cons, sum_by-take-le}
use Rattle.track_outside.specs.{Counts.Rose, Named.{NamedBytes, bytes_at}}
use Rattle.track_outside.specs.declared.files.Files as files
use Rattle.track_outside.specs.declared.sink.Sink as sink
use Rattle.audit_model.specs.{Verdicts.{IsCutOff, NoneCutOff}, declared.heard.Heard.Heard, declared.verdict.Verdict.Verdict}
use Rattle.audit_model.specs.declared.verdict.Verdict.TheVariants as verdict
use Rattle.audit_command.specs.{Laws.{OneCutOff, OneVerdict}, declared.end.AuditEnd.AuditEnd}
use Rattle.audit_model.specs.declared.verdict.AuditStop.TheVariants as stop
use Rattle.audit_command.specs.declared.end.AuditEnd.TheVariants as audit
use Rattle.audit_command.specs.declared.end.FileStop.TheVariants as unread
use Rattle.audit_command.specs.{Endings.{AreTexts, EndsAudit as PutsAudit, HasCause, HasText, IsOther, IsPastAt, size_of, texts_of}, Opening.names_of}
use Rattle.command_words.specs.{declared.command.Command.TheVariants.Audit, Commands.{AreNoCommand, AreOneCommand, IsSpelled}, Plans.Files}
use Rattle.tracker_top.specs.declared.status.Status.{Status, TheVariants.{Done, BadWords, ReadFault, WriteFault, CutOff, InputTooLong, NoMemory, Differs}}
use Rattle.tracker_top.specs.Audits.{AuditsAsDue, TextsShow, EndsAudit, FilesShow, IsAuditDue, audit_status_of, verdict_status}

-- ---- files have one text each

one-text : (files : List NamedBytes) (name text other : List ℕ) → HasText files name text → HasText files name other → text ≡ other
one-text files name text other one two = let both : Some text ≡ Some other = sym one ∙ two in cc

same-texts : (files : List NamedBytes) (names texts others : List (List ℕ)) → AllZip (HasText files) names texts → AllZip (HasText files) names others → texts ≡ others
same-texts files [] [] [] one two = refl
same-texts files [] [] (o ∷ others) one two = absurd two
same-texts files [] (t ∷ texts) others one two = absurd one
same-texts files (n ∷ names) [] others one two = absurd one
same-texts files (n ∷ names) (t ∷ texts) [] one two = absurd two
same-texts files (n ∷ names) (t ∷ texts) (o ∷ others) one two =
    ap (λ (x : List ℕ). x ∷ texts) (one-text files n t o one.0 two.0) ∙ ap (λ (l : List (List ℕ)). o ∷ l) (same-texts files names texts others one.1 two.1)

same-heard : (one other : List Heard) → texts_of one ≡ texts_of other → one ≡ other
same-heard [] [] is = refl
same-heard [] (y ∷ other) is = absurd (cc)
same-heard (x ∷ one) [] is = absurd (cc)
same-heard (x ∷ one) (y ∷ other) is =
    let script : x.script ≡ y.script = cc in
    let transcript : x.transcript ≡ y.transcript = cc in
    let more : texts_of one ≡ texts_of other = cc in
    let Made : List ℕ → List ℕ → Heard = λ s t. record { script = s; transcript = t } in
    let head : x ≡ y = ap (λ (s : List ℕ). Made s x.transcript) script ∙ ap (Made y.script) transcript in
    ap (λ (h : Heard). h ∷ one) head ∙ ap (λ (l : List Heard). y ∷ l) (same-heard one other more)

module _ (files : List NamedBytes) (journal : List ℕ) (scripts : List (List ℕ)) (bytes also : List ℕ) (heard others : List Heard)
    (one : AreTexts (Some files) journal scripts bytes heard) (two : AreTexts (Some files) journal scripts also others) where
  same-all : bytes ∷ texts_of heard ≡ also ∷ texts_of others
  same-all = same-texts files (names_of journal scripts) (bytes ∷ texts_of heard) (also ∷ texts_of others) one.have.are two.have.are

  same-journal : bytes ≡ also
  same-journal = let all = same-all in cc

  same-scripts : heard ≡ others
  same-scripts = let all = same-all in let rest : texts_of heard ≡ texts_of others = cc in same-heard heard others rest

-- ---- one file is the first that is too long, and none where all may be read

size-cons : (files : List NamedBytes) (name : List ℕ) (names : List (List ℕ)) → size_of files (name ∷ names) ≡ length (unwrap_or (bytes_at name files) []) + size_of files names
size-cons files name names = sum_by-cons (λ (n : List ℕ). length (unwrap_or (bytes_at n files) [])) name names

size-less : (files : List NamedBytes) (names : List (List ℕ)) (n : ℕ) → size_of files (take n names) ≤ size_of files names
size-less files names n = sum_by-take-le (λ (name : List ℕ). length (unwrap_or (bytes_at name files) [])) names n

size-more : (files : List NamedBytes) (names : List (List ℕ)) (n m : ℕ) → n ≤ m → size_of files (take n names) ≤ size_of files (take m names)
size-more files names n m le =
    subst (λ (l : List (List ℕ)). size_of files l ≤ size_of files (take m names)) (take-take n m names le) (size-less files (take m names) n)

size-is : (files : List NamedBytes) (names texts : List (List ℕ)) → AllZip (HasText files) names texts → size_of files names ≡ sum_by length texts
size-is files [] [] have = refl
size-is files [] (t ∷ texts) have = absurd have
size-is files (n ∷ names) [] have = absurd have
size-is files (n ∷ names) (t ∷ texts) have =
    let head : length (unwrap_or (bytes_at n files) []) ≡ length t = ap (λ (o : Option (List ℕ)). length (unwrap_or o [])) have.0 in
    omega (arith, size-cons files n names, sum_by-cons length t texts, head, size-is files names texts have.1)

no-past : (files : List NamedBytes) (journal : List ℕ) (scripts : List (List ℕ)) (bytes : List ℕ) (heard : List Heard) (place : ℕ) → AreTexts (Some files) journal scripts bytes heard
    → IsPastAt files (names_of journal scripts) place → ⊥
no-past files journal scripts bytes heard place are past =
    let all : size_of files (names_of journal scripts) ≡ sum_by length (bytes ∷ texts_of heard) = size-is files (names_of journal scripts) (bytes ∷ texts_of heard) are.have.are in
    let fits = are.have.fits in
    let more = past.past in
    let less : size_of files (take place (names_of journal scripts)) ≤ size_of files (names_of journal scripts) = size-less files (names_of journal scripts) place in
    omega (arith, all, fits, more, less)

no-earlier : (files : List NamedBytes) (names : List (List ℕ)) (p q : ℕ) → IsPastAt files names p → IsPastAt files names q → p < q → ⊥
no-earlier files names p q one two below =
    let past = one.past in
    let fits = two.fits in
    let number = two.number in
    let less : size_of files (take p names) ≤ size_of files (take two.before names) = size-more files names p two.before (omega (arith, below, number)) in
    omega (arith, past, fits, less)

one-past : (files : List NamedBytes) (names : List (List ℕ)) (p q : ℕ) → IsPastAt files names p → IsPastAt files names q → p ≡ q
one-past files names p q one two = elim (cases_order p q) [
  | inl same ↦ same
  | inr (inl below) ↦ absurd (no-earlier files names p q one two below)
  | inr (inr above) ↦ absurd (no-earlier files names q p two one above)
]

-- ---- one status

module _ (one_verdict : OneVerdict) (one_cut : OneCutOff) where
  none-cut : (heard : List Heard) (script offset : ℕ) → NoneCutOff heard → IsCutOff heard script offset → ⊥
  none-cut heard script offset none cut = none.each (script - 1) cut.cut cut.here cut.items offset cut.reads

  bytes-once : (bytes : List ℕ) (heard : List Heard) (one other : Status) → TextsShow bytes heard one → TextsShow bytes heard other → one ≡ other
  bytes-once bytes heard one other (inl a) (inl b) =
      let same = one_cut heard a.0 b.0 a.1 b.1 a.2 b.2 in
      a.3 ∙ ap (λ (s : ℕ). CutOff s a.1) same.0 ∙ ap (CutOff b.0) same.1 ∙ sym b.3
  bytes-once bytes heard one other (inl a) (inr b) = absurd (none-cut heard a.0 a.1 b.0 a.2)
  bytes-once bytes heard one other (inr a) (inl b) = absurd (none-cut heard b.0 b.1 a.0 b.2)
  bytes-once bytes heard one other (inr a) (inr b) = a.1.2 ∙ ap verdict_status (one_verdict bytes heard a.1.0 b.1.0 a.1.1 b.1.1) ∙ sym b.1.2

  files-once : (files : List NamedBytes) (named : Files) (one other : Status) → FilesShow files named one → FilesShow files named other → one ≡ other
  files-once files named one other (inl a) (inl b) = a.2 ∙ ap InputTooLong (one-past files (names_of named.journal named.scripts) a.0 b.0 a.1 b.1) ∙ sym b.2
  files-once files named one other (inl a) (inr b) = absurd (no-past files named.journal named.scripts b.0 b.1 a.0 b.2 a.1)
  files-once files named one other (inr a) (inl b) = absurd (no-past files named.journal named.scripts a.0 a.1 b.0 a.2 b.1)
  files-once files named one other (inr a) (inr b) =
      let journal : a.0 ≡ b.0 = same-journal files named.journal named.scripts a.0 b.0 a.1 b.1 a.2 b.2 in
      let scripts : a.1 ≡ b.1 = same-scripts files named.journal named.scripts a.0 b.0 a.1 b.1 a.2 b.2 in
      bytes-once b.0 b.1 one other
      (subst (λ (bytes : List ℕ). TextsShow bytes b.1 one) journal (subst (λ (heard : List Heard). TextsShow a.0 heard one) scripts a.3)) b.3

  -- ---- what is due comes

  module _ {F I O P : Type 0} (g : files.Ghosts F I O) (h : sink.Ghosts P) (words : List (List ℕ)) (before after : F) (old new : P) (one_command : AreOneCommand) (named : Files)
      (spelled : IsSpelled words (Audit named)) where
    abbrev Comes : Status → Type 0
    Comes status = AuditsAsDue g h words before after old new status

    same-files : (other : Files) → IsSpelled words (Audit other) → other ≡ named
    same-files other also = let same : Audit other ≡ Audit named = one_command words (Audit other) (Audit named) also spelled in cc

    due-shown : (files : List NamedBytes) (status due : Status) → FilesShow files named status → IsAuditDue words files due → status ≡ due
    due-shown files status due shows (inl a) = absurd (a.1 (Audit named) spelled)
    due-shown files status due shows (inr a) =
        files-once files named status due shows (subst (λ (n : Files). FilesShow files n due) (same-files a.0 a.1) a.2)

    comes : (status : Status) → IfSome (g.contents before) (λ files. FilesShow files named status) → Comes status
    comes status shows = by (g.contents before) shows
      where
        by : (told : Option (List NamedBytes)) → IfSome told (λ files. FilesShow files named status)
            → IfSome told (λ files. (due : Status) → IsAuditDue words files due → (status ≡ due) ⊎ (status ≡ NoMemory) ⊎ Rose (g.read_faults before) (g.read_faults after) ⊎ Rose (h.faults old) (h.faults new))
        by None shown = tt
        by (Some files) shown = λ due is. inl (due-shown files status due shown is)

    always : (status : Status) → (status ≡ NoMemory) ⊎ Rose (g.read_faults before) (g.read_faults after) ⊎ Rose (h.faults old) (h.faults new) → Comes status
    always status why = by (g.contents before)
      where
        by : (told : Option (List NamedBytes))
            → IfSome told (λ files. (due : Status) → IsAuditDue words files due → (status ≡ due) ⊎ (status ≡ NoMemory) ⊎ Rose (g.read_faults before) (g.read_faults after) ⊎ Rose (h.faults old) (h.faults new))
        by None = tt
        by (Some files) = λ due is. inr why

    past-shows : (place : ℕ) → IfSome (g.contents before) (λ files. IsPastAt files (names_of named.journal named.scripts) place) → Comes (InputTooLong place)
    past-shows place past = comes (InputTooLong place) (by (g.contents before) past)
      where
        by : (told : Option (List NamedBytes)) → IfSome told (λ files. IsPastAt files (names_of named.journal named.scripts) place) → IfSome told (λ files. FilesShow files named (InputTooLong place))
        by None past = tt
        by (Some files) past = inl (place, past, refl)

    texts-show : (bytes : List ℕ) (heard : List Heard) (status : Status) → AreTexts (g.contents before) named.journal named.scripts bytes heard → TextsShow bytes heard status → Comes status
    texts-show bytes heard status are shows = comes status (by (g.contents before) are)
      where
        by : (told : Option (List NamedBytes)) → AreTexts told named.journal named.scripts bytes heard → IfSome told (λ files. FilesShow files named status)
        by None are = tt
        by (Some files) are = inr (bytes, heard, are, shows)

    other-status : (v : Verdict) → IsOther v → Differs v ≡ verdict_status v
    other-status (verdict.Shown machines steps requests) is = absurd is
    other-status (verdict.JournalLine l) is = refl
    other-status (verdict.Request script request) is = refl

    audit-due : (why : AuditEnd) → HasCause g (names_of named.journal named.scripts) before after why → PutsAudit h (g.contents before) named.journal named.scripts old new why → Comes (audit_status_of why)
    audit-due audit.Done cause (bytes, heard, are, ends) =
        texts-show bytes heard Done are (inr (ends.3, (verdict.Shown ends.0 ends.1 ends.2, ends.4, refl)))
    audit-due audit.WriteFault cause (bytes, heard, are, ends) = always WriteFault (inr (inr ends.5.rose))
    audit-due (audit.Differs v) cause (bytes, heard, are, ends) =
        texts-show bytes heard (Differs v) are (inr (ends.1, (v, ends.2, other-status v ends.0)))
    audit-due (audit.NoVerdict (stop.CutOff script offset)) cause (bytes, heard, are, ends) =
        texts-show bytes heard (CutOff script offset) are (inl (script, offset, ends.0, refl))
    audit-due (audit.Unread unread.ReadFault) cause output = always ReadFault (inr (inl cause))
    audit-due (audit.Unread (unread.TooLong place)) cause output = past-shows place cause
    audit-due (audit.Unread unread.NoMemory) cause output = always NoMemory (inl refl)
    audit-due (audit.NoVerdict stop.NoMemory) cause output = always NoMemory (inl refl)

    pub ends-due : (status : Status) → EndsAudit g h named before after old new status → Comes status
    ends-due status ends = subst Comes (sym ends.told) (audit-due ends.why ends.files.cause ends.output)

-- ---- where no command is

module _ {F I O P : Type 0} (g : files.Ghosts F I O) (h : sink.Ghosts P) (words : List (List ℕ)) (before after : F) (old new : P) where
  pub bad-audit-due : AreNoCommand words → AuditsAsDue g h words before after old new BadWords
  bad-audit-due none = by (g.contents before)
    where
      comes : (files : List NamedBytes) (due : Status) → IsAuditDue words files due
          → (BadWords ≡ due) ⊎ (BadWords ≡ NoMemory) ⊎ Rose (g.read_faults before) (g.read_faults after) ⊎ Rose (h.faults old) (h.faults new)
      comes files due (inl a) = inl (sym a.0)
      comes files due (inr a) = absurd (none (Audit a.0) a.1)

      by : (told : Option (List NamedBytes))
          → IfSome told (λ files. (due : Status) → IsAuditDue words files due → (BadWords ≡ due) ⊎ (BadWords ≡ NoMemory) ⊎ Rose (g.read_faults before) (g.read_faults after) ⊎ Rose (h.faults old) (h.faults new))
      by None = tt
      by (Some files) = comes files

  pub wanting-audit-due : AuditsAsDue g h words before after old new NoMemory
  wanting-audit-due = by (g.contents before)
    where
      by : (told : Option (List NamedBytes))
          → IfSome told (λ files. (due : Status) → IsAuditDue words files due → (NoMemory ≡ due) ⊎ (NoMemory ≡ NoMemory) ⊎ Rose (g.read_faults before) (g.read_faults after) ⊎ Rose (h.faults old) (h.faults new))
      by None = tt
      by (Some files) = λ due is. inr (inl refl)
