-- Private: no public contract cites this. A reply that stands next in a transcript, by the kind that its text tells.
use Rattle.std.proofs.Common.{◌≡◌, ◌⊎◌, inl, inr, ℕ, ◌^◌, ◌-◌, ◌<◌, Bool, true, false, List, ◌++◌, length, drop, set, Option, Some, None, Ok, refl, sym, ap, subst, ◌∙◌, arith}
use Rattle.std.{specs.Prelude.{◌||◌, is_none, IfNone, IfOk, IfSome, Result}, proofs.lemmas.Grind.common_steps}
use Rattle.history_model.specs.declared.entries.{Author.Author, Placed.Placed}
use Rattle.request_model.specs.declared.{requests.Request.Request, replies.Reply.Reply}
use Rattle.reply_text.specs.Replies.{text_of}
use Rattle.play_model.specs.{Laws.RepliesNameEntries, Replies.{Adds, IsReplyOn, Tells}}
use Rattle.reply_laws.specs.{Kinds.{Names, adds_none, asks_only, tells_by_letter, tells_none}, Laws.{KindsAreTold, RepliesAreNamed}}
use Rattle.play_audit.{specs.Replies.{HasNone, IsHeardNext, IsNext, IsUnheard}, proofs.Answering.told_names, proofs.Fronts.names_more}

none-of : {A : Type 0} (o : Option A) (x : A) → o ≡ Some x → is_none o ≡ false
none-of o x is = grind (arith, common_steps)

all-of : {A : Type 0} (o : Option A) → o ≡ None → is_none o ≡ true
all-of o is = grind (arith, common_steps)

module _ (kinds : KindsAreTold) (author : Author) (j : List Placed) (known : ℕ) (q : Request) (r : Reply) where
  pub kind_of_adds : Adds author j known q r → adds_none q r.answer ≡ false
  kind_of_adds a = grind (arith, common_steps)

  pub kind_of_tells : Tells j known q r → adds_none q r.answer ≡ true
  kind_of_tells t = grind (arith, common_steps)

module _ (kinds : KindsAreTold) (named : RepliesAreNamed) (names : RepliesNameEntries) (author : Author) (j : List Placed) (known : ℕ) (q : Request) (text : List ℕ)
    (step letter : ℕ) (fits64 : length j < 2 ^ 64) (few : step < 2 ^ 64) (front : Names text step letter) where
  its-step : (r : Reply) (rest : List ℕ) → IsReplyOn author j known q r → text ≡ text_of r ++ rest → (r.step ≡ step) × (tells_none r.answer ≡ tells_by_letter letter)
  its-step r rest fits is =
      let bound = names author j known q r fits in
      told_names named text r rest step letter (omega (arith, bound.within, fits64)) few is front

  its-kind : (r : Reply) (rest : List ℕ) → IsReplyOn author j known q r → text ≡ text_of r ++ rest → adds_none q r.answer ≡ (asks_only q || tells_by_letter letter)
  its-kind r rest fits is = ap (λ (b : Bool). asks_only q || b) (its-step r rest fits is).1

  -- it names fewer entries than were known, or more than there are
  pub out_of_range : (step < known) ⊎ (length j < step) → IsUnheard author j known q text
  out_of_range x0 r rest fits is = grind (arith, common_steps, names, author, j, known, q, its-step)

  -- what stands next of one kind stands next of both
  next-on : (Fits : Reply → Type 0) (len now : ℕ) → now ≡ step → (next : IsNext Fits text step len) → IsReplyOn author j known q next.reply
      → ((other : Reply) (rest : List ℕ) → IsReplyOn author j known q other → text ≡ text_of other ++ rest → other ≡ next.reply) → IsNext (IsReplyOn author j known q) text now len
  next-on Fits len now same next fits only = grind (arith, common_steps)

  -- the text tells that nothing was added
  module _ (kind : (asks_only q || tells_by_letter letter) ≡ true) where
    no-adds : (r : Reply) (rest : List ℕ) → text ≡ text_of r ++ rest → Adds author j known q r → ⊥
    no-adds r rest is adds =
        let one : adds_none q r.answer ≡ false = kind_of_adds kinds author j known q r adds in
        let two : adds_none q r.answer ≡ true = its-kind r rest (inl adds) is ∙ kind in
        let no : false ≡ true = sym one ∙ two in
        absurd (cc)

    pub heard_told : (len now : ℕ) (marks : List Bool) → now ≡ step → IsNext (Tells j known q) text step len → IsHeardNext author j known now q text len marks marks
    unfolding next-on
    heard_told len now marks same next = record {
      next = next-on (Tells j known q) len now same next (inr next.fits) (λ other rest. only-told other rest next);
      marked = inr (λ adds. no-adds next.reply (drop len text) next.begins.text adds, refl);
    }
      where
        only-told : (other : Reply) (rest : List ℕ) (next : IsNext (Tells j known q) text step len) → IsReplyOn author j known q other → text ≡ text_of other ++ rest → other ≡ next.reply
        only-told other rest next (inl adds) is = absurd (no-adds other rest is adds)
        only-told other rest next (inr tells) is = next.only other rest tells is

    pub unheard_told : HasNone (Tells j known q) text step → IsUnheard author j known q text
    unheard_told none r rest (inl adds) is = no-adds r rest is adds
    unheard_told none r rest (inr tells) is = none r rest tells (its-step r rest (inr tells) is).0 is

  -- the text tells that an entry was added
  module _ (kind : (asks_only q || tells_by_letter letter) ≡ false) where
    no-tells : (r : Reply) (rest : List ℕ) → text ≡ text_of r ++ rest → Tells j known q r → ⊥
    no-tells r rest is tells =
        let one : adds_none q r.answer ≡ true = kind_of_tells kinds author j known q r tells in
        let two : adds_none q r.answer ≡ false = its-kind r rest (inr tells) is ∙ kind in
        let no : false ≡ true = sym two ∙ one in
        absurd (cc)

    pub heard_added : (len now : ℕ) (marks : List Bool) → now ≡ step → IsNext (Adds author j known q) text step len
        → IsHeardNext author j known now q text len marks (set marks (step - 1) true)
    unfolding next-on
    heard_added len now marks same next = record {
      next = next-on (Adds author j known q) len now same next (inl next.fits) (λ other rest. only-added other rest next);
      marked = inl (next.fits, ap (λ (n : ℕ). set marks (n - 1) true) (sym next.its_step));
    }
      where
        only-added : (other : Reply) (rest : List ℕ) (next : IsNext (Adds author j known q) text step len) → IsReplyOn author j known q other → text ≡ text_of other ++ rest → other ≡ next.reply
        only-added other rest next (inl adds) is = next.only other rest adds is
        only-added other rest next (inr tells) is = absurd (no-tells other rest is tells)

    pub unheard_added : HasNone (Adds author j known q) text step → IsUnheard author j known q text
    unheard_added none r rest (inl adds) is = none r rest adds (its-step r rest (inl adds) is).0 is
    unheard_added none r rest (inr tells) is = no-tells r rest is tells

-- the transcript names nothing
pub names_nothing : RepliesAreNamed → RepliesNameEntries → (author : Author) (j : List Placed) (known : ℕ) (q : Request) (text : List ℕ) → length j < 2 ^ 64
    → ((step letter : ℕ) → step < 2 ^ 64 → ¬ Names text step letter) → IsUnheard author j known q text
names_nothing named names author j known q text fits64 none r rest fits is =
    let own = named r in
    let bound = names author j known q r fits in
    none r.step own.letter (omega (arith, bound.within, fits64))
    (subst (λ (l : List ℕ). Names l r.step own.letter) (sym is) (names_more (text_of r) rest r.step own.letter own.names))

-- ---- what was found

pub some_by : {E : Type 0} (found : Result (Option ℕ) E) (P Q : ℕ → Type 0) → ((len : ℕ) → P len → Q len) → IfOk found (λ o. IfSome o P) → IfOk found (λ o. IfSome o Q)
some_by found P Q each some = grind (arith, common_steps)

pub none_by : {E : Type 0} (found : Result (Option ℕ) E) (P Q : Type 0) → (P → Q) → IfOk found (λ o. IfNone o P) → IfOk found (λ o. IfNone o Q)
none_by found P Q each none = grind (arith, common_steps)

pub in_some : {E : Type 0} (found : Result (Option ℕ) E) (o : Option ℕ) (len : ℕ) (P : ℕ → Type 0) → found ≡ Ok o → o ≡ Some len → IfOk found (λ x. IfSome x P) → P len
in_some found o len P is x5 some = grind (arith, common_steps)

pub in_none : {E : Type 0} (found : Result (Option ℕ) E) (o : Option ℕ) (P : Type 0) → found ≡ Ok o → o ≡ None → IfOk found (λ x. IfNone x P) → P
in_none found o P is x4 none = grind (arith, common_steps)

pub outside_is : (step known count most : ℕ) → count ≡ most → (step < known) ⊎ (count < step) → (step < known) ⊎ (most < step)
outside_is step known count most same x5 = grind (arith, common_steps)
