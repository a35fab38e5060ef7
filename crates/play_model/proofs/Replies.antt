-- Private: no public contract cites this. What holds of all replies beside others.
use Rattle.std.{proofs.Common.{◌≡◌, ◌≤◌, ◌<◌, ◌+◌, ℕ, List, ◌++◌, length, refl, sym, ap, ◌∙◌, inl, inr, Some, None, arith}, specs.Prelude.{take, slice_get}}
use Rattle.std.proofs.lemmas.{List.{take-append-le, length-take-le, length-append, length-map}, Option.slice_get_within}
use Rattle.history_model.specs.{declared.entries.Author.Author, declared.entries.Entry.Entry, declared.entries.Placed.Placed, Entries.entries_of}
use Rattle.request_model.specs.declared.{requests.Request.Request, replies.Reply.Reply}
use Rattle.track_model.specs.{Outcomes.Outcome, Replies.reply_of}
use Rattle.play_model.{specs.Replies.{first_of, ComesBehind, Adds, Tells, IsReplyOn}, specs.Laws.NamesEntries, proofs.Lists.item-stays}

-- ---- first entries

first-stays : (j more : List Placed) (count : ℕ) → count ≤ length j → first_of count (j ++ more) ≡ first_of count j
first-stays j more count le = ap entries_of (take-append-le count j more le)

first-length : (j : List Placed) (count : ℕ) → count ≤ length j → length (first_of count j) ≡ count
first-length j count le = length-map (take count j) (λ (p : Placed). p.entry) ∙ length-take-le count j le

-- ---- a longer journal

comes-stays : (j more : List Placed) (known count : ℕ) (q : Request) (o : Outcome) → ComesBehind j known count q o → ComesBehind (j ++ more) known count q o
comes-stays j more known count q o c =
    let le : c.version ≤ length j = omega (arith, c.made_before, c.within) in
    record {
      since = c.since;
      within = rw (length-append j more) (omega (arith, c.within));
      version = c.version;
      made_since = c.made_since;
      made_before = c.made_before;
      base = c.base;
      comes = rw (first-stays j more c.version le, first-stays j more count c.within) c.comes;
    }

pub adds-stay : (author : Author) (j more : List Placed) (known : ℕ) (q : Request) (reply : Reply) → Adds author j known q reply → Adds author (j ++ more) known q reply
adds-stay author j more known q reply a =
    record {
      count = a.count;
      outcome = a.outcome;
      comes = comes-stays j more known a.count q a.outcome a.comes;
      entry = a.entry;
      adds = a.adds;
      stands = item-stays j more a.count (record { author = author; entry = a.entry }) a.stands;
      told = a.told ∙ ap (λ (h : List Entry). reply_of h a.outcome) (sym (first-stays j more a.count a.comes.within));
    }

pub replies-stay : (author : Author) (j more : List Placed) (known : ℕ) (q : Request) (reply : Reply) → IsReplyOn author j known q reply → IsReplyOn author (j ++ more) known q reply
replies-stay author j more known q reply (inl a) = inl (adds-stay author j more known q reply a)
replies-stay author j more known q reply (inr t) =
    inr (record {
      count = t.count;
      outcome = t.outcome;
      comes = comes-stays j more known t.count q t.outcome t.comes;
      adds = t.adds;
      told = t.told ∙ ap (λ (h : List Entry). reply_of h t.outcome) (sym (first-stays j more t.count t.comes.within));
    })

-- ---- fewer entries known

comes-earlier : (j : List Placed) (known fewer count : ℕ) (q : Request) (o : Outcome) → fewer ≤ known → ComesBehind j known count q o → ComesBehind j fewer count q o
comes-earlier j known fewer count q o le c =
    record {
      since = omega (arith, le, c.since);
      within = c.within;
      version = c.version;
      made_since = omega (arith, le, c.made_since);
      made_before = c.made_before;
      base = c.base;
      comes = c.comes;
    }

pub adds-earlier : (author : Author) (j : List Placed) (known fewer : ℕ) (q : Request) (reply : Reply) → fewer ≤ known → Adds author j known q reply → Adds author j fewer q reply
adds-earlier author j known fewer q reply le a =
    record {
      count = a.count;
      outcome = a.outcome;
      comes = comes-earlier j known fewer a.count q a.outcome le a.comes;
      entry = a.entry;
      adds = a.adds;
      stands = a.stands;
      told = a.told;
    }

pub replies-earlier : (author : Author) (j : List Placed) (known fewer : ℕ) (q : Request) (reply : Reply) → fewer ≤ known → IsReplyOn author j known q reply → IsReplyOn author j fewer q reply
replies-earlier author j known fewer q reply le (inl a) = inl (adds-earlier author j known fewer q reply le a)
replies-earlier author j known fewer q reply le (inr t) =
    inr (record {
      count = t.count;
      outcome = t.outcome;
      comes = comes-earlier j known fewer t.count q t.outcome le t.comes;
      adds = t.adds;
      told = t.told;
    })

-- ---- the entries that a reply names

step-adding : (h : List Entry) (o : Outcome) (e : Entry) → o.adds ≡ Some e → (reply_of h o).step ≡ length h + 1
step-adding h o e is = rw is refl

step-telling : (h : List Entry) (o : Outcome) → o.adds ≡ None → (reply_of h o).step ≡ length h
step-telling h o is = rw is refl

pub added-step : (author : Author) (j : List Placed) (known : ℕ) (q : Request) (reply : Reply) (a : Adds author j known q reply) → reply.step ≡ a.count + 1
added-step author j known q reply a =
    ap (λ (r : Reply). r.step) a.told ∙ step-adding (first_of a.count j) a.outcome a.entry a.adds
    ∙ ap (λ (n : ℕ). n + 1) (first-length j a.count a.comes.within)

pub told-step : (j : List Placed) (known : ℕ) (q : Request) (reply : Reply) (t : Tells j known q reply) → reply.step ≡ t.count
told-step j known q reply t =
    ap (λ (r : Reply). r.step) t.told ∙ step-telling (first_of t.count j) t.outcome t.adds ∙ first-length j t.count t.comes.within

-- the next entry stands within the journal
within : {A : Type 0} (xs : List A) (n : ℕ) (x : A) → slice_get xs n ≡ Some x → n < length xs
within xs n x is = slice_get_within xs n x is

pub replies-name : (author : Author) (j : List Placed) (known : ℕ) (q : Request) (reply : Reply) → IsReplyOn author j known q reply → NamesEntries j known reply
replies-name author j known q reply (inl a) =
    let step : reply.step ≡ a.count + 1 = added-step author j known q reply a in
    let next : a.count < length j = within j a.count (record { author = author; entry = a.entry }) a.stands in
    record { since = omega (arith, step, a.comes.since); within = omega (arith, step, next) }
replies-name author j known q reply (inr t) =
    let step : reply.step ≡ t.count = told-step j known q reply t in
    record { since = omega (arith, step, t.comes.since); within = omega (arith, step, t.comes.within) }

pub added-new : (author : Author) (j : List Placed) (known : ℕ) (q : Request) (reply : Reply) → Adds author j known q reply → known < reply.step
added-new author j known q reply a =
    let step : reply.step ≡ a.count + 1 = added-step author j known q reply a in
    omega (arith, step, a.comes.since)
