-- Private: no public contract cites this. The refusal of a segmentation that stands next in a transcript, behind a walk.
use Rattle.std.proofs.Common.{◌≡◌, ◌≢◌, inl, inr, ℕ, ◌^◌, ◌+◌, ◌<◌, ◌≤◌, true, false, List, ◌++◌, length, drop, Option, Some, None, Ok, Err, refl, sym, ap, subst, ◌∙◌, arith}
use Rattle.std.{specs.Prelude.{max, IfNone, IfOk, IfSome, Result}, proofs.lemmas.Grind.common_steps}
use Rattle.metric_table.specs.{Limits.most, declared.limits.Limit.Limit, declared.limits.Limit.TheVariants.{Cuts, Steps}}
use Rattle.segment_cost.specs.Certificate.{StandsFor}
use Rattle.history_model.specs.declared.entries.Author.TheVariants as author
use Rattle.history_model.specs.declared.{entries.Entry.Entry, entries.Entry.TheVariants.Publish, publication.Publication.Publication}
use Rattle.history_model.specs.{Laws.CutsGrow, Penalties.{penalty_of, length_of}, Positions.positions, Publications.{cut_count, last_publication}}
use Rattle.history_model.specs.Runs.{Series, is_known}
use Rattle.request_model.specs.declared.{requests.Request.TheVariants.Segment, replies.Refusal.Refusal}
use Rattle.request_model.specs.declared.replies.{Refusal.TheVariants.{Full, Stale, UnknownSeries}, Reply.Reply}
use Rattle.reply_text.specs.Replies.{text_of}
use Rattle.track_model.specs.{Outcomes.refuses, Publishing.{later, publication}, Replies.reply_of}
use Rattle.play_model.{specs.Laws.RepliesNameEntries, specs.Replies.{Tells, first_of}, proofs.Replies.told-step}
use Rattle.reply_laws.specs.Laws.{RepliesAreNamed}
use Rattle.journal_walk.specs.Walks.{Walked, AreCutsNow, IsAlong, added}
use Rattle.play_audit.{specs.Replies.{HasNone, IsCompared, IsNext}, proofs.Answering.same_steps, proofs.Compared.compared, proofs.Walking.entries_length}
use Rattle.play_audit.specs.{Segments.{HasFewCuts, IsFullBehind, IsFullNext, IsKnownAt, IsLastVersion, IsNotFull, IsReason, PassesCuts}, Texts.BeginsWith}
use Rattle.play_audit.proofs.Reasons.{cuts_first, cuts_only, first_length, one_reason, reason_tells, steps_first, steps_only, tells_reason}

-- ---- the last version

last-later : (p : Option Publication) (last version : ℕ) → IsLastVersion p last → last ≤ version → later version p ≡ None
last-later p last version is le = grind (arith, common_steps)

last-stale : (p : Option Publication) (last known : ℕ) → IsLastVersion p last → known < last → later known p ≡ Some last
last-stale p last known is low = grind (arith, common_steps)

stale-last : (p : Option Publication) (last known version : ℕ) → IsLastVersion p last → later known p ≡ Some version → (version ≡ last) × (known < last)
stale-last p last known version is found = grind (arith, common_steps)

later-last : (p : Option Publication) (last version : ℕ) → IsLastVersion p last → later version p ≡ None → last ≤ version
later-last p last version is none = grind (arith, common_steps)

-- ---- behind a walk
module _ (grow : CutsGrow) (w : Walked) (known : ℕ) (test metric text : List ℕ) (along : IsAlong w) (since : known ≤ length w.track.history) where
  abbrev s : Series
  s = record { test = test; metric = metric }

  -- a reason is told next
  reason_next : RepliesAreNamed → RepliesNameEntries → length w.history < 2 ^ 64 → (reason : Refusal) (len : ℕ) → IsReason w.history known (length w.track.history) (record { test = test; metric = metric }) reason
      → BeginsWith text (reply_of (added w) (refuses reason)) len → IsNext (Tells w.history known (Segment w.track.machine test metric)) text (length w.track.history) len
  reason_next named names few reason len why begins =
      let fits : Tells w.history known (Segment w.track.machine test metric) (reply_of (added w) (refuses reason)) =
      subst (λ (h : List Entry). Tells w.history known (Segment w.track.machine test metric) (reply_of h (refuses reason))) (sym along.first)
      (reason_tells w.history known w.track.machine test metric (length w.track.history) reason since along.within why) in
      record {
        reply = reply_of (added w) (refuses reason);
        fits = fits;
        its_step = entries_length w.track.history;
        begins = begins;
        only = λ other rest t is.
            let found = tells_reason w.history known w.track.machine test metric other t in
            let bound = names author.Kept w.history known (Segment w.track.machine test metric) other (inr t) in
            let mine = names author.Kept w.history known (Segment w.track.machine test metric) (reply_of (added w) (refuses reason)) (inr fits) in
            let steps : other.step ≡ length (added w) =
            same_steps named text other (reply_of (added w) (refuses reason)) rest (drop len text) (omega (arith, bound.within, few)) (omega (arith, mine.within, few)) is begins.text in
            let counts : t.count ≡ length w.track.history = sym (told-step w.history known (Segment w.track.machine test metric) other t) ∙ steps ∙ entries_length w.track.history in
            let its : IsReason w.history known (length w.track.history) s found.0 = subst (λ (k : ℕ). IsReason w.history known k s found.0) counts found.1 in
            let same-reply : other ≡ reply_of (added w) (refuses found.0) = grind (arith, common_steps) in
            let same : found.0 ≡ reason =
            one_reason grow w.history known (length w.track.history) s text rest (drop len text) (length (added w)) found.0 reason its why
            (is ∙ ap (λ (r : Reply). text_of r ++ rest) same-reply) begins.text in
            same-reply ∙ ap (λ (r : Refusal). reply_of (added w) (refuses r)) same;
      }

  -- none is
  pub reason_none : ((reason : Refusal) (rest : List ℕ) → IsReason w.history known (length w.track.history) (record { test = test; metric = metric }) reason → text ≢ text_of (reply_of (added w) (refuses reason)) ++ rest)
      → HasNone (Tells w.history known (Segment w.track.machine test metric)) text (length w.track.history)
  reason_none none reply rest t its is =
      let found = tells_reason w.history known w.track.machine test metric reply t in
      let counts : t.count ≡ length w.track.history = sym (told-step w.history known (Segment w.track.machine test metric) reply t) ∙ its in
      let why : IsReason w.history known (length w.track.history) s found.0 = subst (λ (k : ℕ). IsReason w.history known k s found.0) counts found.1 in
      let same-reply : reply ≡ reply_of (added w) (refuses found.0) = grind (arith, common_steps) in
      none found.0 rest why (is ∙ ap (λ (r : Reply). text_of r ++ rest) same-reply)

  -- ---- of a series that isn't known
  module _ (unknown : is_known (record { test = test; metric = metric }) (added w) ≡ false) where
    there : is_known s (first_of (length w.track.history) w.history) ≡ false
    there = ap (is_known s) (sym along.first) ∙ unknown

    unknown_reason : IsReason w.history known (length w.track.history) (record { test = test; metric = metric }) UnknownSeries
    unknown_reason = inl (there, refl)

    unknown_only : ((rest : List ℕ) → text ≢ text_of (reply_of (added w) (refuses UnknownSeries)) ++ rest)
        → HasNone (Tells w.history known (Segment w.track.machine test metric)) text (length w.track.history)
    unknown_only none = reason_none (λ reason rest why is. it reason rest why is)
      where
        it : (reason : Refusal) (rest : List ℕ) → IsReason w.history known (length w.track.history) s reason → text ≡ text_of (reply_of (added w) (refuses reason)) ++ rest → ⊥
        it reason rest (inl x) is = none rest (is ∙ ap (λ (r : Refusal). text_of (reply_of (added w) (refuses r)) ++ rest) x.1)
        it reason rest (inr x) is = let no : true ≡ false = sym x.0 ∙ there in absurd (cc)

  -- ---- of one that is
  module _ (is-there : is_known (record { test = test; metric = metric }) (added w) ≡ true) (last : ℕ)
      (is-last : IsLastVersion (last_publication (record { test = test; metric = metric }) (added w)) last) where
    there-known : is_known s (first_of (length w.track.history) w.history) ≡ true
    there-known = ap (is_known s) (sym along.first) ∙ is-there

    lasts : IsLastVersion (last_publication s (first_of (length w.track.history) w.history)) last
    lasts = subst (λ (h : List Entry). IsLastVersion (last_publication s h) last) along.first is-last

    stale_reason : known < last → IsReason w.history known (length w.track.history) (record { test = test; metric = metric }) (Stale last)
    stale_reason low = inr (there-known, inl (last, last-stale (last_publication s (first_of (length w.track.history) w.history)) last known lasts low, refl))

    full_reason : (limit : Limit) → IsFullBehind w.history known (length w.track.history) (record { test = test; metric = metric }) limit
        → IsReason w.history known (length w.track.history) (record { test = test; metric = metric }) (Full limit)
    full_reason limit full = inr (there-known, inr (limit, full, refl))

    -- neither of the two
    no_reason : (known < last → (rest : List ℕ) → text ≢ text_of (reply_of (added w) (refuses (Stale last))) ++ rest)
        → IsNotFull w known (record { test = test; metric = metric }) text
        → HasNone (Tells w.history known (Segment w.track.machine test metric)) text (length w.track.history)
    no_reason stale full = reason_none (λ reason rest why is. it reason rest why is)
      where
        it : (reason : Refusal) (rest : List ℕ) → IsReason w.history known (length w.track.history) s reason → text ≡ text_of (reply_of (added w) (refuses reason)) ++ rest → ⊥
        it reason rest (inl x) is = let no : true ≡ false = sym there-known ∙ x.0 in absurd (cc)
        it reason rest (inr (k, inl x)) is =
            let found = stale-last (last_publication s (first_of (length w.track.history) w.history)) last known x.0 lasts x.1 in
            stale found.1 rest (is ∙ ap (λ (r : Refusal). text_of (reply_of (added w) (refuses r)) ++ rest) (x.2 ∙ ap Stale found.0))
        it reason rest (inr (k, inr x)) is = full x.0 rest x.1 (is ∙ ap (λ (r : Refusal). text_of (reply_of (added w) (refuses r)) ++ rest) x.2)

    -- ---- limits
    size : length (first_of (length w.track.history) w.history) ≡ length w.track.history
    size = first_length w.history (length w.track.history) along.within

    -- every step is taken
    module _ (full : most Steps ≤ length w.track.history) where
      full-there : most Steps ≤ length (first_of (length w.track.history) w.history)
      full-there = omega (arith, full, size)

      pub steps_full : last ≤ length w.track.history → (cuts : ℕ) → AreCutsNow (added w) (record { test = test; metric = metric }) cuts
          → IsFullBehind w.history known (length w.track.history) (record { test = test; metric = metric }) Steps
      steps_full past cuts (inl x) = let no : true ≡ false = sym is-there ∙ x.0 in absurd (cc)
      steps_full past cuts (inr y) = record {
        version = length w.track.history;
        since = since;
        until = omega arith;
        latest = last-later (last_publication s (first_of (length w.track.history) w.history)) last (length (first_of (length w.track.history) w.history)) lasts (omega (arith, past, size));
        base = 0;
        cert = y.1.0;
        stands = subst (λ (h : List Entry). StandsFor (positions h s) (penalty_of metric h) (length_of metric h) y.1.0) along.first y.1.1;
        based = inl refl;
        passed = steps_first (first_of (length w.track.history) w.history)
            (Publish (publication s (length (first_of (length w.track.history) w.history)) 0 y.1.0)) full-there;
      }

      pub steps_not : ((rest : List ℕ) → text ≢ text_of (reply_of (added w) (refuses (Full Steps))) ++ rest) → IsNotFull w known (record { test = test; metric = metric }) text
      steps_not none limit rest full is =
          none rest (is ∙ ap (λ (l : Limit). text_of (reply_of (added w) (refuses (Full l))) ++ rest) (steps_only grow w.history known (length w.track.history) s limit full-there full))

    -- there is room for steps
    module _ (some : length w.track.history < most Steps) where
      some-there : length (first_of (length w.track.history) w.history) < most Steps
      some-there = omega (arith, some, size)

      only-cuts : (limit : Limit) (full : IsFullBehind w.history known (length w.track.history) s limit)
          → (limit ≡ Cuts) × (most Cuts < cut_count (first_of (length w.track.history) w.history) + length full.cert.cuts)
      only-cuts limit full =
          cuts_only grow (first_of (length w.track.history) w.history) (publication s (length (first_of full.version w.history)) full.base full.cert) limit some-there full.passed

      pub cuts_not : ((rest : List ℕ) → text ≢ text_of (reply_of (added w) (refuses (Full Cuts))) ++ rest) → IsNotFull w known (record { test = test; metric = metric }) text
      cuts_not none limit rest full is = none rest (is ∙ ap (λ (l : Limit). text_of (reply_of (added w) (refuses (Full l))) ++ rest) (only-cuts limit full).0)

      module _ (room : ℕ) (few : cut_count (added w) + room ≡ most Cuts) where
        few-there : cut_count (first_of (length w.track.history) w.history) + room ≡ most Cuts
        few-there = ap (λ (h : List Entry). cut_count h + room) (sym along.first) ∙ few

        pub cuts_fit : ((version : ℕ) → max known last ≤ version → version ≤ length w.track.history → HasFewCuts w.history (record { test = test; metric = metric }) version room)
            → IsNotFull w known (record { test = test; metric = metric }) text
        cuts_fit fit limit rest full is =
            let within : length (first_of full.version w.history) ≡ full.version = first_length w.history full.version (omega (arith, full.until, along.within)) in
            let latest : last ≤ length (first_of full.version w.history) =
            later-last (last_publication s (first_of (length w.track.history) w.history)) last (length (first_of full.version w.history)) lasts full.latest in
            let few-cuts : length full.cert.cuts ≤ room = fit full.version (omega (arith, full.since, latest, within)) full.until full.cert full.stands in
            let many = (only-cuts limit full).1 in
            omega (arith, few-there, few-cuts, many)

        pub cuts_full : PassesCuts w.history (record { test = test; metric = metric }) (max known last) (length w.track.history) room
            → IsFullBehind w.history known (length w.track.history) (record { test = test; metric = metric }) Cuts
        cuts_full p =
            let within : length (first_of p.version w.history) ≡ p.version = first_length w.history p.version (omega (arith, p.until, along.within)) in
            record {
              version = p.version;
              since = omega (arith, p.since);
              until = p.until;
              latest = last-later (last_publication s (first_of (length w.track.history) w.history)) last (length (first_of p.version w.history)) lasts (omega (arith, p.since, within));
              base = 0;
              cert = p.cert;
              stands = p.stands;
              based = inl refl;
              passed = cuts_first grow (first_of (length w.track.history) w.history) (publication s (length (first_of p.version w.history)) 0 p.cert) some-there
                  (let past = p.past in omega (arith, past, few-there));
            }

-- ---- by what a transcript begins with
module _ (grow : CutsGrow) (w : Walked) (known : ℕ) (test metric text : List ℕ) where
  pub full_front : {E : Type 0} (limit : Limit) (found : Result (Option ℕ) E) → IsFullBehind w.history known (length w.track.history) (record { test = test; metric = metric }) limit
      → IfOk found (λ o. IfSome o (BeginsWith text (reply_of (added w) (refuses (Full limit)))))
      → IfOk found (λ o. IfSome o (IsFullNext w known (record { test = test; metric = metric }) text))
  full_front limit (Ok (Some len)) full begins = record { limit = limit; full = full; begins = begins }
  full_front limit (Ok None) full begins = tt
  full_front limit (Err e) full begins = tt

  pub not_front : {E : Type 0} (reason : Refusal) (found : Result (Option ℕ) E)
      → (((rest : List ℕ) → text ≢ text_of (reply_of (added w) (refuses reason)) ++ rest) → IsNotFull w known (record { test = test; metric = metric }) text)
      → IfOk found (λ o. IfNone o ((rest : List ℕ) → text ≢ text_of (reply_of (added w) (refuses reason)) ++ rest))
      → IfOk found (λ o. IfNone o (IsNotFull w known (record { test = test; metric = metric }) text))
  not_front reason found so none = grind (arith, common_steps)

  module _ (names : RepliesAreNamed) (numbers : RepliesNameEntries) (few : length w.history < 2 ^ 64) (along : IsAlong w) (since : known ≤ length w.track.history) where
    pub unknown_front : {E : Type 0} (found : Result (Option ℕ) E) → is_known (record { test = test; metric = metric }) (added w) ≡ false
        → IfOk found (λ o. IfSome o (BeginsWith text (reply_of (added w) (refuses UnknownSeries)))) → IfOk found (λ o. IfNone o ((rest : List ℕ) → text ≢ text_of (reply_of (added w) (refuses UnknownSeries)) ++ rest))
        → IsCompared (Tells w.history known (Segment w.track.machine test metric)) text (length w.track.history) found
    unknown_front found unknown = compared (Tells w.history known (Segment w.track.machine test metric)) text (length w.track.history) (reply_of (added w) (refuses UnknownSeries))
        (λ len. reason_next grow w known test metric text along since names numbers few UnknownSeries len (unknown_reason grow w known test metric text along since unknown))
        (unknown_only grow w known test metric text along since unknown) found

    module _ (last : ℕ) (k : IsKnownAt w known (record { test = test; metric = metric }) last) where
      pub stale_next : {E : Type 0} (len : ℕ) → known < last → BeginsWith text (reply_of (added w) (refuses (Stale last))) len
          → IsCompared {E = E} (Tells w.history known (Segment w.track.machine test metric)) text (length w.track.history) (Ok (Some len))
      stale_next len low begins = record {
        some = reason_next grow w known test metric text along since names numbers few (Stale last) len (stale_reason grow w known test metric text along since k.there last k.is_last low) begins;
        none = tt;
      }

      pub full_next : {E : Type 0} (found : Result (Option ℕ) E) → (known < last → (rest : List ℕ) → text ≢ text_of (reply_of (added w) (refuses (Stale last))) ++ rest)
          → IfOk found (λ o. IfSome o (IsFullNext w known (record { test = test; metric = metric }) text)) → IfOk found (λ o. IfNone o (IsNotFull w known (record { test = test; metric = metric }) text))
          → IsCompared (Tells w.history known (Segment w.track.machine test metric)) text (length w.track.history) found
      full_next (Ok (Some len)) stale next none = record {
        some = reason_next grow w known test metric text along since names numbers few (Full next.limit) len
            (full_reason grow w known test metric text along since k.there last k.is_last next.limit next.full) next.begins;
        none = tt;
      }
      full_next (Ok None) stale next none = record { some = tt; none = no_reason grow w known test metric text along since k.there last k.is_last stale none }
      full_next (Err e) stale next none = record { some = tt; none = tt }
