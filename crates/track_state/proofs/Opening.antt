-- What is open by the marks, where all entries were looked at, and what a claim more or a mark less changes.
use Rattle.std.proofs.Common.{◌≡◌, ℕ, ◌≤◌, true, false, cond, List, length, refl, sym, ap, subst, ◌∙◌, inl, inr, Option, Some, None, arith}
use Rattle.std.{specs.Prelude.nat_lt, specs.Ordering.is_eq, proofs.lemmas.Bool.cases_Bool, proofs.lemmas.Grind.common_steps}
use Rattle.history_model.specs.{declared.entries.Entry.Entry, Publications.last_publication, Runs.{Series, same_series}}
use Rattle.touch_index.specs.{Marks.{Entries, IsFirstFree, NoneIsFree, key_cmp, mark_of, touched_claim, with_claim}, declared.key.SeriesKey.SeriesKey}
use Rattle.touch_index.specs.declared.mark.{Claim.Claim, Claim.TheVariants.{Free, Taken, Refused}, Mark.Mark}
use Rattle.touch_model.specs.{Stale.{is_behind, is_stale}, Touches.last_touch}
use Rattle.track_state.specs.{Covering.{Covers, Fits, IsMark, MakeSame}, Work.{IsFirstBy, IsOpenBy, NoneIsOpenBy, claim_by, key_of, series_of}}
use Rattle.track_state.proofs.{Covering.{either, fresh-unmarked, marked-claim, marked-stale}, Touching.{is_key, key-is, same-key}}

-- ---- what is open
open-free : (h : List Entry) (t : Series) (o : Option Mark) → Fits h (length h) t o → is_stale h t ≡ true → claim_by h t o ≡ Free → (m : Mark) × (o ≡ Some m) × (m.claim ≡ Free)
open-free h t o fits stale free = grind (arith, common_steps)

module _ (h : List Entry) (marks : Entries) (covers : Covers h (length h) marks) where
  pub first-is : (k : SeriesKey) (step : ℕ) → IsFirstFree marks k step → is_behind step (last_publication (series_of k) h) ≡ true → IsFirstBy h marks (series_of k)
  first-is k step first behind =
      let s : Series = series_of k in
      let m : Mark = record { touched = step; claim = Free } in
      let fits : IsMark h (length h) s m = subst (λ (o : Option Mark). Fits h (length h) s o) first.free (covers.each s) in
      record {
        is_open = grind (arith, common_steps);
        first = grind (arith, common_steps);
      }

  pub none-is : NoneIsFree marks → NoneIsOpenBy h marks
  none-is none t is = grind (arith, common_steps)

  -- ---- a mark less
  module _ (k : SeriesKey) (step : ℕ) (first : IsFirstFree marks k step) (fresh : is_behind step (last_publication (series_of k) h) ≡ false) (b : Entries)
      (removed : (q : SeriesKey) → mark_of q b ≡ cond (is_eq (key_cmp k q)) None (mark_of q marks)) where
    there : (s : Series) → is_key k s ≡ true → mark_of (key_of s) marks ≡ Some (record { touched = step; claim = Free })
    there s same = ap (λ (q : SeriesKey). mark_of q marks) (sym (same-key k s same)) ∙ first.free

    behind-not : (s : Series) → is_key k s ≡ true → is_behind step (last_publication s h) ≡ false
    behind-not s same = ap (λ (q : SeriesKey). is_behind step (last_publication (series_of q) h)) (sym (same-key k s same)) ∙ fresh

    now : (s : Series) → mark_of (key_of s) b ≡ cond (is_key k s) None (mark_of (key_of s) marks)
    now s = removed (key_of s) ∙ ap (λ c. cond c None (mark_of (key_of s) marks)) (key-is k s)

    pub removed-covers : Covers h (length h) b
    removed-covers = record {
      seen_are = covers.seen_are;
      each = λ s. elim (cases_Bool (is_key k s)) [
        | inl same ↦
            let m : Mark = record { touched = step; claim = Free } in
            let fits : IsMark h (length h) s m = subst (λ (o : Option Mark). Fits h (length h) s o) (there s same) (covers.each s) in
            subst (λ (o : Option Mark). Fits h (length h) s o) (sym (now s ∙ ap (λ c. cond c None (mark_of (key_of s) marks)) same))
            (fresh-unmarked h s (marked-stale h s m fits ∙ behind-not s same))
        | inr other ↦
            subst (λ (o : Option Mark). Fits h (length h) s o) (sym (now s ∙ ap (λ c. cond c None (mark_of (key_of s) marks)) other)) (covers.each s)
      ];
    }

    pub removed-claims : MakeSame h marks b
    removed-claims s = elim (cases_Bool (is_key k s)) [
      | inl same ↦
          let m : Mark = record { touched = step; claim = Free } in
          let fits : IsMark h (length h) s m = subst (λ (o : Option Mark). Fits h (length h) s o) (there s same) (covers.each s) in
          ap (claim_by h s) (now s ∙ ap (λ c. cond c None (mark_of (key_of s) marks)) same)
          ∙ sym (ap (claim_by h s) (there s same) ∙ marked-claim h s m fits)
      | inr other ↦ ap (claim_by h s) (now s ∙ ap (λ c. cond c None (mark_of (key_of s) marks)) other)
    ]

-- ---- another claim on a series
module _ (h : List Entry) (seen : ℕ) (a b : Entries) (covers : Covers h seen a) (k : SeriesKey) (claim : Claim)
    (claimed : (q : SeriesKey) → mark_of q b ≡ cond (is_eq (key_cmp k q)) (with_claim claim (mark_of k a)) (mark_of q a)) where
  then : (s : Series) → mark_of (key_of s) b ≡ cond (is_key k s) (with_claim claim (mark_of k a)) (mark_of (key_of s) a)
  then s = claimed (key_of s) ∙ ap (λ c. cond c (with_claim claim (mark_of k a)) (mark_of (key_of s) a)) (key-is k s)

  its : (s : Series) → is_key k s ≡ true → mark_of (key_of s) b ≡ with_claim claim (mark_of (key_of s) a)
  its s same =
      then s ∙ ap (λ c. cond c (with_claim claim (mark_of k a)) (mark_of (key_of s) a)) same
      ∙ ap (λ (q : SeriesKey). with_claim claim (mark_of q a)) (same-key k s same)

  others : (s : Series) → is_key k s ≡ false → mark_of (key_of s) b ≡ mark_of (key_of s) a
  others s other = then s ∙ ap (λ c. cond c (with_claim claim (mark_of k a)) (mark_of (key_of s) a)) other

  refits : (claim ≡ Refused → length h ≤ seen) → (s : Series) (o : Option Mark) → Fits h seen s o → Fits h seen s (with_claim claim o)
  refits late s o fits = grind (arith, common_steps)

  pub claimed-covers : (claim ≡ Refused → length h ≤ seen) → Covers h seen b
  claimed-covers late = record {
    seen_are = covers.seen_are;
    each = λ s. elim (cases_Bool (is_key k s)) [
      | inl same ↦ subst (λ (o : Option Mark). Fits h seen s o) (sym (its s same)) (refits late s (mark_of (key_of s) a) (covers.each s))
      | inr other ↦ subst (λ (o : Option Mark). Fits h seen s o) (sym (others s other)) (covers.each s)
    ];
  }

  -- where the claim that its mark makes then is this one
  pub claimed-claims : ((s : Series) → is_key k s ≡ true → claim_by h s (with_claim claim (mark_of (key_of s) a)) ≡ claim)
      → (t : Series) → claim_by h t (mark_of (key_of t) b) ≡ cond (same_series (series_of k) t) claim (claim_by h t (mark_of (key_of t) a))
  claimed-claims makes t = elim (cases_Bool (is_key k t)) [
    | inl same ↦
        ap (claim_by h t) (its t same) ∙ makes t same
        ∙ sym (ap (λ c. cond c claim (claim_by h t (mark_of (key_of t) a))) same)
    | inr other ↦
        ap (claim_by h t) (others t other)
        ∙ sym (ap (λ c. cond c claim (claim_by h t (mark_of (key_of t) a))) other)
  ]

-- a claim that is no refusal is what its mark makes
pub makes-plain : (h : List Entry) (s : Series) (claim : Claim) (m : Mark) → touched_claim claim ≡ claim → claim_by h s (with_claim claim (Some m)) ≡ claim
makes-plain h s claim m plain = ap (λ (c : Claim). cond (nat_lt m.touched (last_touch h s)) c claim) plain ∙ either (nat_lt m.touched (last_touch h s)) claim

pub makes-free : (h : List Entry) (s : Series) (o : Option Mark) → claim_by h s (with_claim Free o) ≡ Free
makes-free h s o = grind (arith, common_steps)

-- ---- the same claims by other marks
pub first-same : (h : List Entry) (a b : Entries) → MakeSame h a b → (s : Series) → IsFirstBy h b s → IsFirstBy h a s
first-same h a b same s is = grind (arith, common_steps)

-- ---- the first open series is taken
pub taken-claims : (h : List Entry) (a b : Entries) → Covers h (length h) a → (k : SeriesKey) → IsOpenBy h a (series_of k)
    → ((q : SeriesKey) → mark_of q b ≡ cond (is_eq (key_cmp k q)) (with_claim Taken (mark_of k a)) (mark_of q a))
    → (t : Series) → claim_by h t (mark_of (key_of t) b) ≡ cond (same_series (series_of k) t) Taken (claim_by h t (mark_of (key_of t) a))
taken-claims h a b covers k is claimed =
    let found = open-free h (series_of k) (mark_of k a) (covers.each (series_of k)) is.stale is.free in
    claimed-claims h (length h) a b covers k Taken claimed
    (λ s same. ap (λ (q : SeriesKey). claim_by h s (with_claim Taken (mark_of q a))) (sym (same-key k s same))
    ∙ ap (λ (o : Option Mark). claim_by h s (with_claim Taken o)) found.1
    ∙ makes-plain h s Taken found.0 refl)
