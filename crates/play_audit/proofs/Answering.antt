-- Private: no public contract cites this. What a request comes to behind a walk, as a reply by the journal.
use Rattle.std.proofs.Common.{◌≡◌, ◌≢◌, inl, inr, ℕ, ◌^◌, ◌+◌, ◌<◌, ◌≤◌, false, List, ◌++◌, length, drop, Option, Some, None, sym, ap, subst, ◌∙◌, arith}
use Rattle.std.{specs.Prelude.slice_get, proofs.lemmas.Option.slice_get_past, proofs.lemmas.Grind.common_steps}
use Rattle.history_model.specs.declared.entries.{Author.Author, Entry.Entry, Placed.Placed}
use Rattle.history_model.specs.declared.entries.Author.TheVariants as author
use Rattle.request_model.specs.declared.{requests.Request.Request, replies.Reply.Reply}
use Rattle.reply_text.specs.Replies.{text_of}
use Rattle.track_model.specs.{Counts.is_segment, Outcomes.Outcome, Replies.reply_of, Tracks.{ComesTo, Track, with_added}}
use Rattle.play_model.specs.{Laws.RepliesNameEntries, Replies.{Adds, ComesBehind, ComesToBeside, Tells, first_of, stands_alone}}
use Rattle.play_model.proofs.Replies.{added-step, told-step}
use Rattle.reply_laws.specs.{Kinds.{Names, tells_by_letter, tells_none}, Laws.{OneAdds, OneBeside, OneTells, PlainBeside, RepliesAreNamed}}
use Rattle.journal_walk.specs.Walks.{Walked, added}
use Rattle.audit_model.proofs.Exchanges.{at_end}
use Rattle.play_audit.{specs.Places.IsBehind, specs.Replies.{HasNone, IsNext}, specs.Texts.BeginsWith, proofs.Fronts.{one_name, names_more}}
use Rattle.play_audit.proofs.Walking.{first_behind}

-- ---- what was added

pub none_added : (a : Author) (t : Track) (o : Option Entry) → length (with_added a t o).history ≡ length t.history → o ≡ None
none_added a t o is = grind (arith, common_steps)

pub one_added : (a : Author) (t : Track) (o : Option Entry) (p : Placed) → slice_get (with_added a t o).history (length t.history) ≡ Some p → o ≡ Some p.entry
one_added a t o p is = grind (arith, common_steps, slice_get_past, length, at_end)

-- ---- what a transcript tells of a reply in front of it

pub told_names : RepliesAreNamed → (text : List ℕ) (r : Reply) (rest : List ℕ) (step letter : ℕ) → r.step < 2 ^ 64 → step < 2 ^ 64 → text ≡ text_of r ++ rest → Names text step letter
    → (r.step ≡ step) × (tells_none r.answer ≡ tells_by_letter letter)
told_names named text r rest step letter small few is names =
    let own = named r in
    let its : Names text r.step own.letter = subst (λ (l : List ℕ). Names l r.step own.letter) (sym is) (names_more (text_of r) rest r.step own.letter own.names) in
    let both : (r.step ≡ step) × (own.letter ≡ letter) = one_name text r.step step own.letter letter small few its names in
    (both.0, sym own.kind ∙ ap tells_by_letter both.1)

pub same_steps : RepliesAreNamed → (text : List ℕ) (r s : Reply) (rest more : List ℕ) → r.step < 2 ^ 64 → s.step < 2 ^ 64 → text ≡ text_of r ++ rest → text ≡ text_of s ++ more
    → r.step ≡ s.step
same_steps named text r s rest more small few is its =
    let own = named s in
    let names : Names text s.step own.letter = subst (λ (l : List ℕ). Names l s.step own.letter) (sym its) (names_more (text_of s) more s.step own.letter own.names) in
    (told_names named text r rest s.step own.letter small few is names).0

-- ---- behind a walk, requests that segment nothing
module _ (machine : List ℕ) (j : List Placed) (known count : ℕ) (q : Request) (w : Walked) (o : Outcome) (r : Reply) (b : IsBehind machine j count w)
    (since : known ≤ count) (within : count ≤ length j) (seg : is_segment q ≡ false) (comes : ComesTo (added w) 0 q o) (told : r ≡ reply_of (added w) o) where
  first : added w ≡ first_of count j
  first = first_behind machine j count w b

  there : ComesTo (first_of count j) 0 q o
  there = subst (λ (h : List Entry). ComesTo h 0 q o) first comes

  reply-is : r ≡ reply_of (first_of count j) o
  reply-is = told ∙ ap (λ (h : List Entry). reply_of h o) first

  -- beside others it comes to the same
  comes-behind : PlainBeside → stands_alone q ≡ false → ComesBehind j known count q o
  comes-behind alone shared = record {
    since = since;
    within = within;
    version = count;
    made_since = since;
    made_before = omega arith;
    base = 0;
    comes = alone (first_of count j) 0 (first_of count j) q o seg shared there;
  }

  pub plain_tells : PlainBeside → stands_alone q ≡ false → o.adds ≡ None → Tells j known q r
  plain_tells alone shared none = grind (arith, common_steps, count, o, comes, comes-behind, told, reply-is)

  pub plain_adds : PlainBeside → stands_alone q ≡ false → (author : Author) (e : Entry) → o.adds ≡ Some e → slice_get j count ≡ Some (record { author = author; entry = e }) → Adds author j known q r
  plain_adds alone shared author e adds stands = grind (arith, common_steps, count, o, comes, comes-behind, told, reply-is)

  -- another reply that names as many comes from the same outcome
  pub tells_same : OneBeside → PlainBeside → stands_alone q ≡ false → (s : Reply) → Tells j known q s → s.step ≡ count → o.adds ≡ None
  tells_same once alone shared s t its =
      let counts : t.count ≡ count = sym (told-step j known q s t) ∙ its in
      let mine : ComesToBeside (first_of count j) 0 (first_of count j) q o = alone (first_of count j) 0 (first_of count j) q o seg shared there in
      let other : ComesToBeside (first_of t.comes.version j) t.comes.base (first_of count j) q t.outcome = grind (arith, common_steps) in
      let same : o ≡ t.outcome = once (first_of count j) (first_of t.comes.version j) 0 t.comes.base (first_of count j) q o t.outcome seg mine other in
      ap (λ (x : Outcome). x.adds) same ∙ t.adds

  pub adds_same : OneBeside → PlainBeside → stands_alone q ≡ false → (author : Author) (s : Reply) → Adds author j known q s → s.step ≡ count + 1
      → (e : Entry) × (o.adds ≡ Some e) × (slice_get j count ≡ Some (record { author = author; entry = e }))
  adds_same once alone shared author s a its =
      let step : s.step ≡ a.count + 1 = added-step author j known q s a in
      let counts : a.count ≡ count = omega (arith, step, its) in
      let mine : ComesToBeside (first_of count j) 0 (first_of count j) q o = alone (first_of count j) 0 (first_of count j) q o seg shared there in
      let other : ComesToBeside (first_of a.comes.version j) a.comes.base (first_of count j) q a.outcome = grind (arith, common_steps) in
      let same : o ≡ a.outcome = once (first_of count j) (first_of a.comes.version j) 0 a.comes.base (first_of count j) q o a.outcome seg mine other in
      (a.entry, ap (λ (x : Outcome). x.adds) same ∙ a.adds, subst (λ (n : ℕ). slice_get j n ≡ Some (record { author = author; entry = a.entry })) counts a.stands)

-- ---- the reply that stands next, or none

-- where one reply at most of a step is meant
module _ (text : List ℕ) (Fits : Reply → Type 0) (once : (r s : Reply) → Fits r → Fits s → r.step ≡ s.step → r ≡ s) where
  next-of : RepliesAreNamed → ((r : Reply) → Fits r → r.step < 2 ^ 64) → (r : Reply) (len step : ℕ) → Fits r → r.step ≡ step → BeginsWith text r len → IsNext Fits text step len
  next-of named small r len step fit its begins = record {
    reply = r;
    fits = fit;
    its_step = its;
    begins = begins;
    only = λ other rest fits is. once other r fits fit (same_steps named text other r rest (drop len text) (small other fits) (small r fit) is begins.text);
  }

  no-text-of : (r : Reply) (step : ℕ) → Fits r → r.step ≡ step → ((rest : List ℕ) → text ≢ text_of r ++ rest) → HasNone Fits text step
  no-text-of r step fit its none reply rest fits same is = grind (arith, common_steps)

module _ (j : List Placed) (known : ℕ) (q : Request) (text : List ℕ) (fits64 : length j < 2 ^ 64) where
  pub tells_next : RepliesAreNamed → RepliesNameEntries → OneTells → is_segment q ≡ false → (r : Reply) (len step : ℕ) → Tells j known q r → r.step ≡ step → BeginsWith text r len
      → IsNext (Tells j known q) text step len
  tells_next named names once seg =
      next-of text (Tells j known q) (λ r s. once j known q r s seg) named (λ r tells. let bound = names author.Kept j known q r (inr tells) in omega (arith, bound.within, fits64))

  pub tells_no_text : OneTells → is_segment q ≡ false → (r : Reply) (step : ℕ) → Tells j known q r → r.step ≡ step → ((rest : List ℕ) → text ≢ text_of r ++ rest)
      → HasNone (Tells j known q) text step
  tells_no_text once seg = no-text-of text (Tells j known q) (λ r s. once j known q r s seg)

  pub adds_next : RepliesAreNamed → RepliesNameEntries → OneAdds → (author : Author) (r : Reply) (len step : ℕ) → Adds author j known q r → r.step ≡ step → BeginsWith text r len
      → IsNext (Adds author j known q) text step len
  adds_next named names once author =
      next-of text (Adds author j known q) (once author j known q) named (λ r adds. let bound = names author j known q r (inl adds) in omega (arith, bound.within, fits64))

  pub adds_no_text : OneAdds → (author : Author) (r : Reply) (step : ℕ) → Adds author j known q r → r.step ≡ step → ((rest : List ℕ) → text ≢ text_of r ++ rest)
      → HasNone (Adds author j known q) text step
  adds_no_text once author = no-text-of text (Adds author j known q) (once author j known q)
