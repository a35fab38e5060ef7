-- A line asks one thing with its body.
use Rattle.std.proofs.Common.{◌≡◌, ℕ, ◌-◌, ◌<◌, ◌≤◌, List, [], length, Result, Ok, Err, refl, sym, ap, ◌∙◌, subst, arith, ⊎_elim}
use Rattle.std.{specs.Str.{IsUtf8, IsValidUpTo}, proofs.lemmas.Bool.cases_lt, proofs.lemmas.List.take_all}
use Rattle.line_text.specs.Lines.{lines_of}
use Rattle.metric_table.specs.declared.limits.Limit.TheVariants.{RunSamples}
use Rattle.sample_model.specs.Samples.{Measurement}
use Rattle.go_bench_text.specs.Readings.{IsRead, IsFirstOver, HasTooMany, OneReading}
use Rattle.lnt_report.specs.{declared.fault.ReportFault.ReportFault, Runs.Report, Outcomes.{IsDue, OneAnswer}}
use Rattle.lnt_report.specs.declared.fault.ReportFault.TheVariants as fault
use Rattle.request_model.specs.declared.{requests.Request.Request, replies.Refusal.Refusal}
use Rattle.request_model.specs.declared.replies.RangePlace.TheVariants as place
use Rattle.request_model.specs.declared.replies.Refusal.TheVariants as refusal
use Rattle.request_words.specs.Forms.{Form, machine, commit, submit_go, submit_lnt, retract, tune, of_number, of_series, set_state, bisect, answer, of_job, runs, report}
use Rattle.request_words.specs.Bodies.{Item, GivesGo, RefusesGo, AsksGo, fault_of, AsksLnt, AsksNamed}
use Rattle.request_words.{specs.Items.{off, AsksForm, long, unnamed, wide, named, formless, formed, OneItem}, proofs.OneForm.one_form}

-- ---- Go benchmark text

-- why a body gives no samples, by what it tells
data GoTold (body : List ℕ) (r : Refusal) : Type 0 where
  cut : (offset : ℕ) → r ≡ refusal.NotText offset → IsValidUpTo body offset → GoTold body r
  over : (number : ℕ) → r ≡ refusal.OutOfRange (place.Line number) → IsUtf8 body → IsFirstOver (lines_of body) number → GoTold body r
  full : r ≡ refusal.Full RunSamples → HasTooMany body → GoTold body r

told_by : (body : List ℕ) (r : Refusal) → RefusesGo body r → GoTold body r
told_by body (refusal.NotText offset) told = cut offset refl told
told_by body (refusal.OutOfRange (place.Line number)) told = over number refl told.0 told.1
told_by body (refusal.Full limit) told = full (ap refusal.Full told.0) told.1
told_by body (refusal.OutOfRange (place.Sample test metric)) told = absurd told
told_by body refusal.BadRequest told = absurd told
told_by body refusal.BadName told = absurd told
told_by body refusal.UnknownMachine told = absurd told
told_by body refusal.UnknownCommit told = absurd told
told_by body (refusal.CommitTaken number name) told = absurd told
told_by body (refusal.NotJson offset) told = absurd told
told_by body (refusal.NotReport rule member) told = absurd told
told_by body (refusal.IdentityClash step) told = absurd told
told_by body refusal.UnknownRun told = absurd told
told_by body (refusal.AlreadyRetracted step) told = absurd told
told_by body refusal.UnknownSeries told = absurd told
told_by body refusal.NothingPublished told = absurd told
told_by body (refusal.NoSuchChange count) told = absurd told
told_by body refusal.UnknownRegression told = absurd told
told_by body (refusal.IllegalMove before after) told = absurd told
told_by body refusal.UnknownJob told = absurd told
told_by body (refusal.NotAsked asked) told = absurd told
told_by body refusal.BadRange told = absurd told
told_by body (refusal.Stale version) told = absurd told
told_by body (refusal.JobClosed outcome) told = absurd told
told_by body (refusal.JobOpen asked) told = absurd told
told_by body refusal.BadPenalty told = absurd told
told_by body refusal.BadLength told = absurd told
told_by body (refusal.TooFewPoints points) told = absurd told
told_by body refusal.BodyTooLong told = absurd told
told_by body refusal.OnlyAlone told = absurd told
told_by body (refusal.TooDeep offset) told = absurd told

not_cut : (bytes : List ℕ) (offset : ℕ) → IsValidUpTo bytes offset → IsUtf8 bytes → ⊥
not_cut bytes offset told text = told.longest (length bytes) told.short (subst IsUtf8 (sym (take_all (length bytes) bytes (omega arith))) text)

not_over : (bytes : List ℕ) (samples : List Measurement) (ignored number : ℕ) → IsRead bytes samples ignored → IsFirstOver (lines_of bytes) number → ⊥
not_over bytes samples ignored number read told = read.in_range (number - 1) (omega (arith, told.from_one, told.within)) told.over

by_le : (m n : ℕ) (P : Type 0) → (m ≤ n → P) → (n < m → P) → P
by_le m n P few many = ⊎_elim many few (cases_lt n m)

same_place : (m n : ℕ) → (m < n → ⊥) → (n < m → ⊥) → m ≡ n
same_place m n below above = by_le m n (m ≡ n) (λ few. by_le n m (m ≡ n) (λ more. omega (arith, few, more)) (λ less. absurd (below less))) (λ less. absurd (above less))

one_cut : (bytes : List ℕ) (m n : ℕ) → IsValidUpTo bytes m → IsValidUpTo bytes n → m ≡ n
one_cut bytes m n a b = same_place m n (λ less. a.longest n less b.front) (λ less. b.longest m less a.front)

one_over : (lines : List (List ℕ)) (m n : ℕ) → IsFirstOver lines m → IsFirstOver lines n → m ≡ n
one_over lines m n a b =
    same_place m n (λ less. b.first (m - 1) (omega (arith, less, a.from_one)) a.over) (λ less. a.first (n - 1) (omega (arith, less, b.from_one)) b.over)

one_refusal : (body : List ℕ) (r s : Refusal) → GoTold body r → GoTold body s → r ≡ s
one_refusal body r s (cut m a b) (cut n d e) = a ∙ ap refusal.NotText (one_cut body m n b e) ∙ sym d
one_refusal body r s (cut m a b) (over n d e f) = absurd (not_cut body m b e)
one_refusal body r s (cut m a b) (full d e) = absurd (not_cut body m b e.2.text)
one_refusal body r s (over m a b d) (cut n e f) = absurd (not_cut body n f b)
one_refusal body r s (over m a b d) (over n e f h) = a ∙ ap (λ k. refusal.OutOfRange (place.Line k)) (one_over (lines_of body) m n d h) ∙ sym e
one_refusal body r s (over m a b d) (full e f) = absurd (not_over body f.0 f.1 m f.2 d)
one_refusal body r s (full a b) (cut n d e) = absurd (not_cut body n e b.2.text)
one_refusal body r s (full a b) (over n d e f) = absurd (not_over body b.0 b.1 n b.2 f)
one_refusal body r s (full a b) (full d e) = a ∙ sym d

-- samples that are given are not refused
given_refused : OneReading → (body : List ℕ) (samples : List Measurement) (ignored : ℕ) (r : Refusal) → GivesGo body samples ignored → GoTold body r → ⊥
given_refused law body samples ignored r gives (cut offset is told) = not_cut body offset told gives.read.text
given_refused law body samples ignored r gives (over number is text told) = not_over body samples ignored number gives.read told
given_refused law body samples ignored r gives (full is told) =
    let same = law [] (lines_of body) told.0 samples told.1 ignored told.2.gives gives.read.gives in
    let count = ap (λ (xs : List Measurement). length xs) same.0 in
    absurd (omega (arith, count, told.3, gives.few))

one_go : OneReading → (body : List ℕ) (submitted : List Measurement → ℕ → Request) (item other : Item) → AsksGo body submitted item
    → AsksGo body submitted other → item ≡ other
one_go law body submitted (Ok q) (Ok p) a b =
    let same = law [] (lines_of body) a.0 b.0 a.1 b.1 a.2.read.gives b.2.read.gives in
    ap Ok (a.3 ∙ ap (λ (xs : List Measurement). submitted xs a.1) same.0 ∙ ap (submitted b.0) same.1 ∙ sym b.3)
one_go law body submitted (Ok q) (Err r) a b = absurd (given_refused law body a.0 a.1 r a.2 (told_by body r b))
one_go law body submitted (Err r) (Ok q) a b = absurd (given_refused law body b.0 b.1 r b.2 (told_by body r a))
one_go law body submitted (Err r) (Err s) a b = ap Err (one_refusal body r s (told_by body r a) (told_by body s b))

-- ---- LNT runs

-- the refusal that tells a fault
refusal_of : ReportFault → Refusal
refusal_of (fault.NotText offset) = refusal.NotText offset
refusal_of (fault.NotJson offset) = refusal.NotJson offset
refusal_of (fault.NotReport rule member) = refusal.NotReport rule member
refusal_of (fault.OutOfRange test metric) = refusal.OutOfRange (place.Sample test metric)
refusal_of (fault.Full limit) = refusal.Full limit
refusal_of (fault.TooDeep offset) = refusal.TooDeep offset
refusal_of fault.NoMemory = refusal.BadRequest

tells_fault : (body : List ℕ) (r : Refusal) → IsDue body (Err (fault_of r)) → r ≡ refusal_of (fault_of r)
unfolding refusal_of
tells_fault body (refusal.NotText offset) due = refl
tells_fault body (refusal.NotJson offset) due = refl
tells_fault body (refusal.NotReport rule member) due = refl
tells_fault body (refusal.OutOfRange (place.Sample test metric)) due = refl
tells_fault body (refusal.OutOfRange (place.Line number)) due = absurd due.2
tells_fault body (refusal.Full limit) due = refl
tells_fault body (refusal.TooDeep offset) due = refl
tells_fault body refusal.BadRequest due = refl
tells_fault body refusal.BadName due = absurd due.2
tells_fault body refusal.UnknownMachine due = absurd due.2
tells_fault body refusal.UnknownCommit due = absurd due.2
tells_fault body (refusal.CommitTaken number name) due = absurd due.2
tells_fault body (refusal.IdentityClash step) due = absurd due.2
tells_fault body refusal.UnknownRun due = absurd due.2
tells_fault body (refusal.AlreadyRetracted step) due = absurd due.2
tells_fault body refusal.UnknownSeries due = absurd due.2
tells_fault body refusal.NothingPublished due = absurd due.2
tells_fault body (refusal.NoSuchChange count) due = absurd due.2
tells_fault body refusal.UnknownRegression due = absurd due.2
tells_fault body (refusal.IllegalMove before after) due = absurd due.2
tells_fault body refusal.UnknownJob due = absurd due.2
tells_fault body (refusal.Stale version) due = absurd due.2
tells_fault body refusal.OnlyAlone due = absurd due.2
tells_fault body (refusal.NotAsked asked) due = absurd due.2
tells_fault body refusal.BadRange due = absurd due.2
tells_fault body (refusal.JobClosed outcome) due = absurd due.2
tells_fault body (refusal.JobOpen asked) due = absurd due.2
tells_fault body refusal.BadPenalty due = absurd due.2
tells_fault body refusal.BadLength due = absurd due.2
tells_fault body (refusal.TooFewPoints points) due = absurd due.2
tells_fault body refusal.BodyTooLong due = absurd due.2

abbrev given : Report → Result Report ReportFault
given run = Ok run

abbrev failed : ReportFault → Result Report ReportFault
failed fault = Err fault

inside_ok : (a b : Report) → given a ≡ given b → a ≡ b
inside_ok a b is = cc

inside_err : (a b : ReportFault) → failed a ≡ failed b → a ≡ b
inside_err a b is = cc

no_both : (a : Report) (b : ReportFault) → given a ≡ failed b → ⊥
no_both a b is = cc

one_lnt : OneAnswer → (body : List ℕ) (submitted : Report → Request) (item other : Item) → AsksLnt body submitted item → AsksLnt body submitted other → item ≡ other
one_lnt law body submitted (Ok q) (Ok p) a b = ap Ok (a.2 ∙ ap submitted (inside_ok a.0 b.0 (law body (Ok a.0) (Ok b.0) a.1 b.1)) ∙ sym b.2)
one_lnt law body submitted (Ok q) (Err r) a b = absurd (no_both a.0 (fault_of r) (law body (Ok a.0) (Err (fault_of r)) a.1 b))
one_lnt law body submitted (Err r) (Ok q) a b = absurd (no_both b.0 (fault_of r) (law body (Ok b.0) (Err (fault_of r)) b.1 a))
one_lnt law body submitted (Err r) (Err s) a b =
    let same : fault_of r ≡ fault_of s = inside_err (fault_of r) (fault_of s) (law body (Err (fault_of r)) (Err (fault_of s)) a b) in
    ap Err (tells_fault body r a ∙ ap refusal_of same ∙ sym (tells_fault body s b))

-- ---- all forms

one_named : OneReading → OneAnswer → (form : Form) (body : List ℕ) (item other : Item) → AsksNamed form body item → AsksNamed form body other → item ≡ other
one_named go lnt (machine m) body item other a b = a ∙ sym b
one_named go lnt (commit m number name) body item other a b = a ∙ sym b
one_named go lnt (submit_go m c r len) body item other a b = one_go go body _ item other a b
one_named go lnt (submit_lnt m r len) body item other a b = one_lnt lnt body _ item other a b
one_named go lnt (retract m r) body item other a b = a ∙ sym b
one_named go lnt (tune m metric penalty given) body item other a b = a ∙ sym b
one_named go lnt (of_number asked m test metric number) body item other a b = a ∙ sym b
one_named go lnt (of_series asked m test metric) body item other a b = a ∙ sym b
one_named go lnt (set_state m regression state) body item other a b = a ∙ sym b
one_named go lnt (bisect m lo hi) body item other a b = a ∙ sym b
one_named go lnt (answer m job c status) body item other a b = a ∙ sym b
one_named go lnt (of_job asked m job) body item other a b = a ∙ sym b
one_named go lnt (runs m) body item other a b = a ∙ sym b
one_named go lnt (report m json) body item other a b = a ∙ sym b

one_asked : OneReading → OneAnswer → (form : Form) (body : List ℕ) (item other : Item) → AsksForm form body item → AsksForm form body other → item ≡ other
one_asked go lnt form body item other (long a b) (long e f) = b ∙ sym f
one_asked go lnt form body item other (long a b) (unnamed e f k) = absurd (omega (arith, a, e))
one_asked go lnt form body item other (long a b) (wide e f k l) = absurd (omega (arith, a, e))
one_asked go lnt form body item other (long a b) (off e f k l m) = absurd (omega (arith, a, e))
one_asked go lnt form body item other (long a b) (named e f k l m) = absurd (omega (arith, a, e))
one_asked go lnt form body item other (unnamed a b d) (long e f) = absurd (omega (arith, a, e))
one_asked go lnt form body item other (unnamed a b d) (unnamed e f k) = d ∙ sym k
one_asked go lnt form body item other (unnamed a b d) (wide e f k l) = absurd (b f)
one_asked go lnt form body item other (unnamed a b d) (off e f k l m) = absurd (b f)
one_asked go lnt form body item other (unnamed a b d) (named e f k l m) = absurd (b f)
one_asked go lnt form body item other (wide a b d i) (long e f) = absurd (omega (arith, a, e))
one_asked go lnt form body item other (wide a b d i) (unnamed e f k) = absurd (f b)
one_asked go lnt form body item other (wide a b d i) (wide e f k l) = i ∙ sym l
one_asked go lnt form body item other (wide a b d i) (off e f k l m) = absurd (d k)
one_asked go lnt form body item other (wide a b d i) (named e f k l m) = absurd (d k)
one_asked go lnt form body item other (off a b d i j) (long e f) = absurd (omega (arith, a, e))
one_asked go lnt form body item other (off a b d i j) (unnamed e f k) = absurd (f b)
one_asked go lnt form body item other (off a b d i j) (wide e f k l) = absurd (k d)
one_asked go lnt form body item other (off a b d i j) (off e f k l m) = j ∙ sym m
one_asked go lnt form body item other (off a b d i j) (named e f k l m) = absurd (i l)
one_asked go lnt form body item other (named a b d i j) (long e f) = absurd (omega (arith, a, e))
one_asked go lnt form body item other (named a b d i j) (unnamed e f k) = absurd (f b)
one_asked go lnt form body item other (named a b d i j) (wide e f k l) = absurd (k d)
one_asked go lnt form body item other (named a b d i j) (off e f k l m) = absurd (l i)
one_asked go lnt form body item other (named a b d i j) (named e f k l m) = one_named go lnt form body item other j m

pub one_item : OneReading → OneAnswer → OneItem
one_item go lnt line body item other (formless a b) (formless d e) = b ∙ sym e
one_item go lnt line body item other (formless a b) (formed form is asks) = absurd (a form is)
one_item go lnt line body item other (formed form is asks) (formless a b) = absurd (a form is)
one_item go lnt line body item other (formed f a b) (formed g d e) =
    let same : f ≡ g = one_form line f g a d in
    one_asked go lnt g body item other (rw same at b) e
