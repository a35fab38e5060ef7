-- The marks once a finished segmentation was handed in.
use Rattle.history_model.specs.declared.entries.{Author.Author, Entry.Entry}
use Rattle.std.proofs.Common.{◌≡◌, ◌≢◌, ℕ, ◌+◌, ◌≤◌, true, false, cond, List, [], ◌∷◌, ◌++◌, length, refl, sym, ap, subst, ◌∙◌, inl, inr, Option, Some, None, arith}
use Rattle.std.{specs.Prelude.nat_lt, specs.Ordering.is_eq, proofs.lemmas.Bool.cases_Bool, proofs.lemmas.Grind.common_steps}
use Rattle.metric_table.specs.declared.limits.Limit.{Limit}
use Rattle.segment_cost.specs.declared.done.Done.{Done}
use Rattle.history_model.specs.{declared.publication.Publication.Publication, Allowed.{Allowed, AllowedAfter, Legal}, Entries.entries_of, Laws.KnownStays}
use Rattle.history_model.specs.{Publications.last_publication, Runs.{Series, is_known, same_series}}
use Rattle.publication_index.specs.Kept.{series_of as series_of_done}
use Rattle.touch_index.specs.{Marks.{Entries, key_cmp, mark_of, touched_claim, with_claim}, declared.key.SeriesKey.SeriesKey, declared.mark.Claim.Claim}
use Rattle.touch_index.specs.declared.mark.{Claim.TheVariants.{Free, Refused}, Mark.Mark}
use Rattle.touch_model.specs.{Laws.{KnownGrows, LatestStays, TouchesArePast, TouchesGrow}, Stale.is_behind, Touches.last_touch}
use Rattle.track_model.specs.Tracks.{Track}
use Rattle.track_step.specs.{Publications.{IsPublished, IsTaken, later, passed}, Published.Published, Made.{entry_of, publication_from}, State.IsKept}
use Rattle.track_step.specs.Published.TheVariants as published
use Rattle.track_state.specs.{Covering.{Covers, Fits, IsMark, IsMarked, IsRefusedBy, MakeSame}, Work.{claim_by, key_of, series_of}}
use Rattle.track_state.proofs.Covering.{all-taken, caught, claims-grown, covers-grown, either, not-less, not-less-is}
use Rattle.track_state.proofs.{Opening.{claimed-claims, claimed-covers, makes-free}, Touching.{is_key, key-is, same-key}}

-- ---- a fresh series is given a mark
module _ (h : List Entry) (a b : Entries) (covers : Covers h (length h) a) (k : SeriesKey) (known : is_known (series_of k) h ≡ true) (none : mark_of k a ≡ None)
    (p : Publication) (last : last_publication (series_of k) h ≡ Some p) (past : p.version ≤ length h)
    (put : (q : SeriesKey) → mark_of q b ≡ cond (is_eq (key_cmp k q)) (Some (record { touched = p.version; claim = Free })) (mark_of q a)) where
  abbrev fresh : Mark
  fresh = record { touched = p.version; claim = Free }

  fits : IsMark h (length h) (series_of k) fresh
  fits =
      let s : Series = series_of k in
      let unmarked : Fits h (length h) s None = subst (λ (o : Option Mark). Fits h (length h) s o) none (covers.each s) in
      let behind : is_behind (last_touch h s) (Some p) ≡ false = grind (arith, common_steps) in
      let le = not-less-is p.version (last_touch h s) behind in
      let same = ap (λ (x : List Entry). last_touch x s) (all-taken h) in
      record {
        known = known;
        since = omega (arith, le, same);
        past = past;
        touch = inr (ap (is_behind p.version) last ∙ not-less p.version p.version (omega arith));
        refused = λ is. absurd (cc);
      }

  now : (s : Series) → mark_of (key_of s) b ≡ cond (is_key k s) (Some fresh) (mark_of (key_of s) a)
  now s = put (key_of s) ∙ ap (λ c. cond c (Some fresh) (mark_of (key_of s) a)) (key-is k s)

  pub put-covers : Covers h (length h) b
  put-covers = record {
    seen_are = covers.seen_are;
    each = λ s. elim (cases_Bool (is_key k s)) [
      | inl same ↦
          subst (λ (o : Option Mark). Fits h (length h) s o) (sym (now s ∙ ap (λ c. cond c (Some fresh) (mark_of (key_of s) a)) same))
          (subst (λ (q : SeriesKey). IsMark h (length h) (series_of q) fresh) (same-key k s same) fits)
      | inr other ↦
          subst (λ (o : Option Mark). Fits h (length h) s o) (sym (now s ∙ ap (λ c. cond c (Some fresh) (mark_of (key_of s) a)) other)) (covers.each s)
    ];
  }

  pub put-claims : MakeSame h a b
  put-claims s = elim (cases_Bool (is_key k s)) [
    | inl same ↦
        ap (claim_by h s) (now s ∙ ap (λ c. cond c (Some fresh) (mark_of (key_of s) a)) same)
        ∙ either (nat_lt p.version (last_touch h s)) Free
        ∙ sym (ap (claim_by h s) (ap (λ (q : SeriesKey). mark_of q a) (sym (same-key k s same)) ∙ none))
    | inr other ↦ ap (claim_by h s) (now s ∙ ap (λ c. cond c (Some fresh) (mark_of (key_of s) a)) other)
  ]

-- a known series without a mark was published
pub was-published : (h : List Entry) (s : Series) → is_known s h ≡ true → Fits h (length h) s None → last_publication s h ≡ None → ⊥
was-published h s known unmarked none = grind (arith, common_steps)

-- ---- what became of the segmentation

ok-taken : (o : Option ℕ) (old : Track) (author : Author) (done : Done) (step : ℕ) (new : Track) → IsTaken o old author done (published.Ok step) new → entries_of new.history ≡ entries_of old.history ++ entry_of done ∷ []
ok-taken o old author done step new is = grind (arith, common_steps)

stale-taken : (o : Option ℕ) (old : Track) (author : Author) (done : Done) (v : ℕ) (new : Track) → IsTaken o old author done (published.Stale v) new → new ≡ old
stale-taken o old author done v new is = grind (arith, common_steps)

full-taken : (o : Option ℕ) (old : Track) (author : Author) (done : Done) (limit : Limit) (new : Track) → IsTaken o old author done (published.Full limit) new
    → (o ≡ None) × (passed (entries_of old.history) done ≡ Some limit) × (new ≡ old)
full-taken o old author done limit new is = grind (arith, common_steps)

pub is-ok : (old : Track) (author : Author) (done : Done) (step : ℕ) (new : Track) → IsPublished old author done (published.Ok step) new → entries_of new.history ≡ entries_of old.history ++ entry_of done ∷ []
is-ok old author done step new is = ok-taken (later done.version (last_publication (series_of_done done) (entries_of old.history))) old author done step new is

pub is-stale : (old : Track) (author : Author) (done : Done) (v : ℕ) (new : Track) → IsPublished old author done (published.Stale v) new → new ≡ old
is-stale old author done v new is = stale-taken (later done.version (last_publication (series_of_done done) (entries_of old.history))) old author done v new is

pub is-full : (old : Track) (author : Author) (done : Done) (limit : Limit) (new : Track) → IsPublished old author done (published.Full limit) new
    → (later done.version (last_publication (series_of_done done) (entries_of old.history)) ≡ None) × (passed (entries_of old.history) done ≡ Some limit) × (new ≡ old)
is-full old author done limit new is = full-taken (later done.version (last_publication (series_of_done done) (entries_of old.history))) old author done limit new is

-- the last entry of a legal history is allowed
last-allowed-from : (before es : List Entry) (e : Entry) → AllowedAfter before (es ++ e ∷ []) → Allowed (before ++ es) e
last-allowed-from before [] e legal = grind (arith, common_steps)
last-allowed-from before (x ∷ es) e legal = grind (arith, common_steps, last-allowed-from (before ++ x ∷ []) es e legal.1)

pub last-allowed : (h : List Entry) (e : Entry) → Legal (h ++ e ∷ []) → Allowed h e
last-allowed h e legal = last-allowed-from [] h e legal

-- any claim on a series whose mark has the last touch is what the mark makes
makes-any : (h : List Entry) (s : Series) (claim : Claim) (m : Mark) → IsMark h (length h) s m → claim_by h s (with_claim claim (Some m)) ≡ claim
makes-any h s claim m is = ap (λ b. cond b (touched_claim claim) claim) (not-less m.touched (last_touch h s) (caught h s m is))

-- ---- the claim on its series ends
module _ (grow : TouchesGrow) (past : TouchesArePast) (known : KnownGrows) (stays : KnownStays) (latest : LatestStays)
    (old : Track) (author : Author) (done : Done) (new : Track) (legal : Legal (entries_of new.history)) (seen : ℕ) (a b : Entries) (k : SeriesKey)
    (covers : Covers (entries_of old.history) seen a) (claimed : (q : SeriesKey) → mark_of q b ≡ cond (is_eq (key_cmp k q)) (with_claim Free (mark_of k a)) (mark_of q a)) where
  abbrev Covered : Type 0
  Covered = Covers (entries_of new.history) seen b

  abbrev Becomes : Type 0
  Becomes =
      (t : Series) → claim_by (entries_of new.history) t (mark_of (key_of t) b)
      ≡ cond (same_series (series_of k) t) Free (claim_by (entries_of old.history) t (mark_of (key_of t) a))

  -- nothing was added
  kept : new ≡ old → Covered × Becomes
  kept same =
      let h : List Entry = entries_of old.history in (
        subst (λ (t : Track). Covers (entries_of t.history) seen b) (sym same) (claimed-covers h seen a b covers k Free claimed (λ is. absurd (cc))),
        λ t. ap (λ (x : Track). claim_by (entries_of x.history) t (mark_of (key_of t) b)) same
            ∙ claimed-claims h seen a b covers k Free claimed (λ s is. makes-free h s (mark_of (key_of s) a)) t,
      )

  -- it was published
  added : entries_of new.history ≡ entries_of old.history ++ entry_of done ∷ [] → Covered × Becomes
  added entries =
      let h : List Entry = entries_of old.history in
      let e : Entry = entry_of done in
      let allowed : Allowed h e = last-allowed h e (let P : List Entry → Type 0 = λ x. Legal x in subst P entries legal) in
      let grown : Covers (h ++ e ∷ []) seen a = covers-grown grow past known stays latest h e allowed seen a covers in (
        subst (λ (x : List Entry). Covers x seen b) (sym entries) (claimed-covers (h ++ e ∷ []) seen a b grown k Free claimed (λ is. absurd (cc))),
        λ t. ap (λ (x : List Entry). claim_by x t (mark_of (key_of t) b)) entries
            ∙ claimed-claims (h ++ e ∷ []) seen a b grown k Free claimed (λ s same. makes-free (h ++ e ∷ []) s (mark_of (key_of s) a)) t
            ∙ ap (λ (claim : Claim). cond (same_series (series_of k) t) Free claim)
            (claims-grown grow past known stays latest h e allowed seen a covers t),
      )

  -- no limit refused it
  pub freed : (told : Published) → IsPublished old author done told new → ((limit : Limit) → told ≢ published.Full limit) → Covered × Becomes
  freed (published.Ok at) is other = added (is-ok old author done at new is)
  freed (published.Stale v) is other = kept (is-stale old author done v new is)
  freed (published.Full limit) is other = absurd (other limit refl)

-- ---- a limit refused it
module _ (h : List Entry) (a b : Entries) (covers : Covers h (length h) a) (k : SeriesKey) (version step : ℕ) (marked : IsMarked a k step)
    (none : later version (last_publication (series_of k) h) ≡ None)
    (claimed : (q : SeriesKey) → mark_of q b ≡ cond (is_eq (key_cmp k q)) (with_claim (cond (nat_lt version step) Free Refused) (mark_of k a)) (mark_of q a)) where
  abbrev claim : Claim
  claim = cond (nat_lt version step) Free Refused

  its-mark : (s : Series) → is_key k s ≡ true → mark_of (key_of s) a ≡ Some marked.mark
  its-mark s same = ap (λ (q : SeriesKey). mark_of q a) (sym (same-key k s same)) ∙ marked.there

  its-fits : (s : Series) → is_key k s ≡ true → IsMark h (length h) s marked.mark
  its-fits s same = subst (λ (o : Option Mark). Fits h (length h) s o) (its-mark s same) (covers.each s)

  pub refused-covers : Covers h (length h) b
  refused-covers = claimed-covers h (length h) a b covers k claim claimed (λ is. omega arith)

  pub refused-claims : IsRefusedBy h (series_of k) version a b
  refused-claims t =
      let s : Series = series_of k in
      let fits : IsMark h (length h) s marked.mark = subst (λ (o : Option Mark). Fits h (length h) s o) marked.there (covers.each s) in
      let side : nat_lt version step ≡ nat_lt version (last_touch h s) = grind (arith, common_steps) in
      claimed-claims h (length h) a b covers k claim claimed
      (λ u same. ap (λ (o : Option Mark). claim_by h u (with_claim claim o)) (its-mark u same) ∙ makes-any h u claim marked.mark (its-fits u same)) t
      ∙ ap (λ b. cond (same_series s t) (cond b Free Refused) (claim_by h t (mark_of (key_of t) a))) side

-- ---- what is kept of the last publication
pub kept-none : (h : List Entry) (o : Option Publication) → IsKept h o None → o ≡ None
kept-none h o kept = grind (arith, common_steps)

pub kept-some : (h : List Entry) (o : Option Publication) (done : Done) → IsKept h o (Some done) → o ≡ Some (publication_from done)
kept-some h o done kept = grind (arith, common_steps)
