-- Private: no public contract cites this. Why a request for a segmentation publishes nothing, as a reply by the journal.
use Rattle.std.proofs.Common.{◌≡◌, inl, inr, ℕ, ◌+◌, ◌<◌, ◌≤◌, Bool, true, false, List, [], ◌∷◌, ◌++◌, get_or, length, take, Option, Some, None, decimal, refl, sym, ap, subst, ◌∙◌, arith, append_assoc}
use Rattle.std.proofs.lemmas.{Bool.cases_lt, Grind.common_steps, List.{length-take-le, length-map}}
use Rattle.metric_table.specs.{Limits.most, declared.limits.Limit.Limit, declared.limits.Limit.TheVariants.{Cuts, Steps}}
use Rattle.history_model.specs.declared.{entries.Entry.Entry, entries.Entry.TheVariants.Publish, entries.Placed.Placed, publication.Publication.Publication}
use Rattle.history_model.specs.{Allowed.first_passed, Publications.{cut_count, last_publication}, Laws.CutsGrow, Runs.{Series, is_known}}
use Rattle.request_model.specs.{Lines.{line_of, spaced}, declared.requests.Request.TheVariants.Segment, declared.replies.Answer.Answer}
use Rattle.request_model.specs.declared.replies.{Answer.TheVariants.Refused, Refusal.Refusal, Refusal.TheVariants.{Full, Stale, UnknownSeries}, Reply.Reply}
use Rattle.reply_text.specs.Replies.{at, refusal_words, text_of}
use Rattle.track_model.specs.Outcomes.{Outcome, added_unless, refuses}
use Rattle.track_model.specs.{Publishing.{IsPublishedFrom, OfKnown, OfLatest, later, publication, publish, redone_since, segmented}, Replies.reply_of}
use Rattle.play_model.specs.Replies.{Tells, first_of}
use Rattle.journal_lines.proofs.Lacking.{behind_same}
use Rattle.play_audit.specs.Segments.{IsFullBehind, IsReason}

pub first_length : (j : List Placed) (count : ℕ) → count ≤ length j → length (first_of count j) ≡ count
first_length j count le = length-map (take count j) (λ (p : Placed). p.entry) ∙ length-take-le count j le

passed-some : (passed : Option Limit) (e : Entry) (told : Answer) → (added_unless passed e told).adds ≡ None
    → (limit : Limit) × (passed ≡ Some limit) × (added_unless passed e told ≡ refuses (Full limit))
passed-some passed e told is = grind (arith, common_steps)

module _ (j : List Placed) (known count v base : ℕ) (s : Series) (since : known ≤ v) (until : v ≤ count) (within : count ≤ length j) where
  reason-of : (o : Outcome) (b : Bool) (old : Option ℕ) → is_known s (first_of count j) ≡ b → later (length (first_of v j)) (last_publication s (first_of count j)) ≡ old
      → OfKnown b (OfLatest old (IsPublishedFrom (first_of v j) base (first_of count j) s)) o → o.adds ≡ None
      → (reason : Refusal) × IsReason j known count s reason × (o ≡ refuses reason)
  reason-of o false old known-is last is adds = (UnknownSeries, inl (known-is, refl), is)
  reason-of o true (Some w) known-is last is adds = grind (arith, common_steps)
  reason-of o true None known-is last is adds =
      let p : Publication = publication s (length (first_of v j)) base is.0 in
      let told : Answer = segmented (length (first_of v j)) base (redone_since (first_of v j) base s) is.0 in
      let passed = passed-some (first_passed (Steps ∷ Cuts ∷ []) (first_of count j) (Publish p)) (Publish p) told (subst (λ (x : Outcome). x.adds ≡ None) is.3 adds) in (
        Full passed.0,
        inr (
          known-is,
          inr (
            passed.0,
            record { version = v; since = since; until = until; latest = last; base = base; cert = is.0; stands = is.1; based = is.2; passed = passed.1 },
            refl,
          ),
        ),
        is.3 ∙ passed.2,
      )

module _ (j : List Placed) (known : ℕ) (machine test metric : List ℕ) where
  abbrev s : Series
  s = record { test = test; metric = metric }

  -- a reply that adds nothing tells a reason
  pub tells_reason : (r : Reply) (t : Tells j known (Segment machine test metric) r) → (reason : Refusal) × IsReason j known t.count s reason × (r ≡ reply_of (first_of t.count j) (refuses reason))
  tells_reason r t =
      let found = reason-of j known t.count t.comes.version t.comes.base s t.comes.made_since t.comes.made_before t.comes.within t.outcome (is_known s (first_of t.count j))
      (later (length (first_of t.comes.version j)) (last_publication s (first_of t.count j))) refl refl t.comes.comes t.adds in
      (found.0, found.1, t.told ∙ ap (reply_of (first_of t.count j)) found.2)

  tells-so : (count v base : ℕ) (reason : Refusal) → known ≤ count → count ≤ length j → known ≤ v → v ≤ count
      → OfKnown (is_known s (first_of count j)) (OfLatest (later (length (first_of v j)) (last_publication s (first_of count j))) (IsPublishedFrom (first_of v j) base (first_of count j) s)) (refuses reason)
      → Tells j known (Segment machine test metric) (reply_of (first_of count j) (refuses reason))
  tells-so count v base reason since within made_since made_before comes = grind (arith, common_steps)

  -- and each reason is told
  pub reason_tells : (count : ℕ) (reason : Refusal) → known ≤ count → count ≤ length j → IsReason j known count s reason
      → Tells j known (Segment machine test metric) (reply_of (first_of count j) (refuses reason))
  reason_tells count reason since within (inl why) =
      tells-so count known 0 reason since within (omega arith) since
      (subst (λ (b : Bool). OfKnown b (OfLatest (later (length (first_of known j)) (last_publication s (first_of count j))) (IsPublishedFrom (first_of known j) 0 (first_of count j) s)) (refuses reason))
      (sym why.0) (ap refuses why.1))
  reason_tells count reason since within (inr (known-is, inl (w, last, is))) =
      let size : length (first_of known j) ≡ known = first_length j known (omega (arith, since, within)) in
      tells-so count known 0 reason since within (omega arith) since
      (subst (λ (b : Bool). OfKnown b (OfLatest (later (length (first_of known j)) (last_publication s (first_of count j))) (IsPublishedFrom (first_of known j) 0 (first_of count j) s)) (refuses reason))
      (sym known-is)
      (subst (λ (x : Option ℕ). OfLatest x (IsPublishedFrom (first_of known j) 0 (first_of count j) s) (refuses reason))
      (sym (ap (λ (n : ℕ). later n (last_publication s (first_of count j))) size ∙ last)) (ap refuses is)))
  reason_tells count reason since within (inr (known-is, inr (limit, full, is))) =
      let p : Publication = publication s (length (first_of full.version j)) full.base full.cert in
      let told : Answer = segmented (length (first_of full.version j)) full.base (redone_since (first_of full.version j) full.base s) full.cert in
      let passed : publish (first_of count j) p told ≡ refuses (Full limit) = ap (λ (x : Option Limit). added_unless x (Publish p) told) full.passed in
      tells-so count full.version full.base reason since within full.since full.until
      (subst (λ (b : Bool). OfKnown b (OfLatest (later (length (first_of full.version j)) (last_publication s (first_of count j))) (IsPublishedFrom (first_of full.version j) full.base (first_of count j) s)) (refuses reason))
      (sym known-is)
      (subst (λ (x : Option ℕ). OfLatest x (IsPublishedFrom (first_of full.version j) full.base (first_of count j) s) (refuses reason))
      (sym full.latest) (full.cert, full.stands, full.based, ap refuses is ∙ sym passed)))

-- ---- which of two reasons a text tells

record Codes (words : List (List ℕ)) (code : ℕ) : Type 0 where
  rest : List ℕ
  others : List (List ℕ)
  is : words ≡ (69 ∷ 50 ∷ code ∷ rest) ∷ others

coded : (step : ℕ) (reason : Refusal) (code : ℕ) → Codes (refusal_words reason) code
    → (more : List ℕ) × (text_of (record { step = step; answer = Refused reason }) ≡ (64 ∷ decimal step) ++ (32 ∷ 69 ∷ 50 ∷ code ∷ more))
coded step reason code c = (
  ((c.rest ++ spaced c.others) ++ 10 ∷ []) ++ [],
  ap (λ (ws : List (List ℕ)). line_of (at step ∷ ws) ++ []) c.is
      ∙ ap (λ (l : List ℕ). 64 ∷ l) (append_assoc (decimal step) (32 ∷ 69 ∷ 50 ∷ code ∷ ((c.rest ++ spaced c.others) ++ 10 ∷ [])) []),
)

apart-by : (front x y : List ℕ) → front ++ (32 ∷ 69 ∷ 50 ∷ 52 ∷ x) ≡ front ++ (32 ∷ 69 ∷ 50 ∷ 49 ∷ y) → ⊥
apart-by front x y is = grind (arith, common_steps, get_or, behind_same)

front-of : (text back more rest front : List ℕ) → back ≡ front ++ more → text ≡ back ++ rest → text ≡ front ++ (more ++ rest)
front-of text back more rest front is split = split ∙ ap (λ (l : List ℕ). l ++ rest) is ∙ append_assoc front more rest

stale-or-full : (text : List ℕ) (step w : ℕ) (limit : Limit) (rest more : List ℕ) → text ≡ text_of (record { step = step; answer = Refused (Stale w) }) ++ rest
    → text ≡ text_of (record { step = step; answer = Refused (Full limit) }) ++ more → ⊥
stale-or-full text step w limit rest more one two =
    let x = coded step (Stale w) 52 (record { rest = _; others = _; is = refl }) in
    let y = coded step (Full limit) 49 (record { rest = _; others = _; is = refl }) in
    apart-by (64 ∷ decimal step) (x.0 ++ rest) (y.0 ++ more)
    (sym (front-of text (text_of (record { step = step; answer = Refused (Stale w) })) (32 ∷ 69 ∷ 50 ∷ 52 ∷ x.0) rest (64 ∷ decimal step) x.1 one)
    ∙ front-of text (text_of (record { step = step; answer = Refused (Full limit) })) (32 ∷ 69 ∷ 50 ∷ 49 ∷ y.0) more (64 ∷ decimal step) y.1 two)

-- ---- limits

-- every step is taken
pub steps_first : (h : List Entry) (e : Entry) → most Steps ≤ length h → first_passed (Steps ∷ Cuts ∷ []) h e ≡ Some Steps
steps_first h e full = grind (arith, common_steps)

module _ (grow : CutsGrow) (h : List Entry) (p : Publication) where
  -- the cuts are too many
  pub cuts_first : length h < most Steps → most Cuts < cut_count h + length p.cuts → first_passed (Steps ∷ Cuts ∷ []) h (Publish p) ≡ Some Cuts
  cuts_first few many = grind (arith, common_steps)

  pub cuts_only : (limit : Limit) → length h < most Steps → first_passed (Steps ∷ Cuts ∷ []) h (Publish p) ≡ Some limit
      → (limit ≡ Cuts) × (most Cuts < cut_count h + length p.cuts)
  cuts_only limit few is = grind (arith, common_steps)

-- ---- one reason

module _ (grow : CutsGrow) (j : List Placed) (known count : ℕ) (s : Series) where
  pub steps_only : (limit : Limit) → most Steps ≤ length (first_of count j) → IsFullBehind j known count s limit → limit ≡ Steps
  steps_only limit full is = grind (arith, common_steps, steps_first, count, j, s, length)

  one-full : (x y : Limit) → IsFullBehind j known count s x → IsFullBehind j known count s y → x ≡ y
  one-full x y a b = elim (cases_lt (length (first_of count j)) (most Steps)) [
    | inl few ↦
        (cuts_only grow (first_of count j) (publication s (length (first_of a.version j)) a.base a.cert) x few a.passed).0
        ∙ sym (cuts_only grow (first_of count j) (publication s (length (first_of b.version j)) b.base b.cert) y few b.passed).0
    | inr full ↦ steps_only x full a ∙ sym (steps_only y full b)
  ]

  pub one_reason : (text rest more : List ℕ) (step : ℕ) (a b : Refusal) → IsReason j known count s a → IsReason j known count s b
      → text ≡ text_of (record { step = step; answer = Refused a }) ++ rest → text ≡ text_of (record { step = step; answer = Refused b }) ++ more → a ≡ b
  one_reason text rest more step a b (inl x) (inl y) one two = x.1 ∙ sym y.1
  one_reason text rest more step a b (inl x) (inr y) one two = let no : false ≡ true = sym x.0 ∙ y.0 in absurd (cc)
  one_reason text rest more step a b (inr x) (inl y) one two = let no : true ≡ false = sym x.0 ∙ y.0 in absurd (cc)
  one_reason text rest more step a b (inr (k, inl x)) (inr (l, inl y)) one two = grind (arith, common_steps)
  one_reason text rest more step a b (inr (k, inl x)) (inr (l, inr y)) one two =
      absurd (stale-or-full text step x.0 y.0 rest more
      (one ∙ ap (λ (r : Refusal). text_of (record { step = step; answer = Refused r }) ++ rest) x.2)
      (two ∙ ap (λ (r : Refusal). text_of (record { step = step; answer = Refused r }) ++ more) y.2))
  one_reason text rest more step a b (inr (k, inr x)) (inr (l, inl y)) one two =
      absurd (stale-or-full text step y.0 x.0 more rest
      (two ∙ ap (λ (r : Refusal). text_of (record { step = step; answer = Refused r }) ++ more) y.2)
      (one ∙ ap (λ (r : Refusal). text_of (record { step = step; answer = Refused r }) ++ rest) x.2))
  one_reason text rest more step a b (inr (k, inr x)) (inr (l, inr y)) one two = x.2 ∙ ap Full (one-full x.0 y.0 x.1 y.1) ∙ sym y.2
