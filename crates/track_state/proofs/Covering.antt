-- The marks of series, as entries are looked at and as the history grows.
use Rattle.std.proofs.Common.{◌≡◌, ℕ, ◌+◌, ◌≤◌, Bool, true, false, cond, ◌&&◌, ◌||◌, List, [], ◌∷◌, ◌++◌, length, take, drop, refl, sym, ap, subst, ◌∙◌, inl, inr, Option, Some, None, arith}
use Rattle.std.{specs.Prelude.{nat_lt, slice_get}, proofs.lemmas.Bool.cases_Bool, proofs.lemmas.Bool.Decides.nat_tests, proofs.lemmas.Grind.common_steps}
use Rattle.std.proofs.lemmas.List.{length-append, length-take-le, take-append-drop, take-append-le, take_all, take_more}
use Rattle.std.proofs.lemmas.Option.{slice_get_within, get_or_from_slice_get}
use Rattle.history_model.specs.{declared.entries.Entry.Entry, Allowed.Allowed, Laws.KnownStays, declared.publication.Publication.Publication}
use Rattle.history_model.specs.declared.entries.Entry.TheVariants as entry
use Rattle.history_model.specs.{Publications.last_publication, Runs.{Series, is_known}}
use Rattle.touch_index.specs.{Marks.{Entries, mark_of, touched_claim, touched_mark}, declared.mark.Claim.Claim}
use Rattle.touch_index.specs.declared.mark.{Claim.TheVariants.{Free, Refused}, Mark.Mark}
use Rattle.touch_model.specs.{Laws.{TouchesGrow, TouchesArePast, KnownGrows, LatestStays, brings}, Stale.{is_behind, is_stale}, Touches.{touches, last_touch}}
use Rattle.track_state.specs.{Covering.{IsMark, Fits, Covers, AreTouched, SomeAreTouched, MakeSame, IsTest}, Work.{key_of, claim_by}}

-- ---- claims that were touched
twice : (c : Claim) → touched_claim (touched_claim c) ≡ touched_claim c
twice c = grind (arith, common_steps)

not-refused : (c : Claim) → (c ≡ Refused → ⊥) → touched_claim c ≡ c
not-refused c miss = grind (arith, common_steps)

touched-step : (step : ℕ) (o : Option Mark) → (touched_mark step o).touched ≡ step
touched-step step o = grind (arith, common_steps)

touched-free : (step : ℕ) (o : Option Mark) → (touched_mark step o).claim ≡ Refused → ⊥
touched-free step o is = grind (arith, common_steps)

pub either : {A : Type 0} (b : Bool) (x : A) → cond b x x ≡ x
either b x = grind (arith, common_steps)

above : (b : Bool) (n m k : ℕ) → k ≤ n → k ≤ m → k ≤ cond b n m
above b n m k one two = grind (arith, common_steps)

-- ---- which of two numbers is less
pub less : (n m : ℕ) → n + 1 ≤ m → nat_lt n m ≡ true
less n m le = grind (arith, nat_tests)

pub not-less : (n m : ℕ) → m ≤ n → nat_lt n m ≡ false
not-less n m le = grind (arith, nat_tests)

less-is : (n m : ℕ) → nat_lt n m ≡ true → n + 1 ≤ m
less-is n m is = grind (arith, nat_tests)

pub not-less-is : (n m : ℕ) → nat_lt n m ≡ false → m ≤ n
not-less-is n m is = grind (arith, nat_tests)

-- what isn't behind a publication isn't behind it at an earlier step
earlier : (n m : ℕ) (o : Option Publication) → n ≤ m → is_behind m o ≡ false → is_behind n o ≡ false
earlier n m o le past = grind (arith, common_steps)

-- ---- first entries
pub next : (h : List Entry) (place : ℕ) (e : Entry) → slice_get h place ≡ Some e → take (place + 1) h ≡ take place h ++ e ∷ []
next h place e there =
    take_more h place e (slice_get_within h place e there)
    ∙ ap (λ (x : Entry). take place h ++ x ∷ []) (get_or_from_slice_get h place e e there)

module _ (grow : TouchesGrow) (past : TouchesArePast) where
  -- the last touch of first entries is no later than that of all
  more-push : (h : List Entry) (e : Entry) (s : Series) → last_touch h s ≤ last_touch (h ++ e ∷ []) s
  more-push h e s = grind (arith, common_steps)

  more : (h es : List Entry) (s : Series) → last_touch h s ≤ last_touch (h ++ es) s
  more h [] s = grind (arith, common_steps)
  more h (e ∷ es) s = grind (arith, common_steps, more (h ++ e ∷ []) es s)

  first-touch : (h : List Entry) (k : ℕ) (s : Series) → last_touch (take k h) s ≤ last_touch h s
  first-touch h k s = omega (arith, more (take k h) (drop k h) s, ap (λ (x : List Entry). last_touch x s) (take-append-drop k h))

  -- ---- an entry that is looked at
  module _ (h : List Entry) (place : ℕ) (e : Entry) (there : slice_get h place ≡ Some e) (s : Series) where
    within : place + 1 ≤ length h
    within = let in_h = slice_get_within h place e there in omega (arith, in_h)

    at-last : touches (take place h) s e ≡ true → place + 1 ≤ last_touch h s
    at-last touched =
        let size : length (take place h) ≡ place = let in_h = within in length-take-le place h (omega (arith, in_h)) in
        let now : last_touch (take (place + 1) h) s ≡ length (take place h) + 1 =
        ap (λ (x : List Entry). last_touch x s) (next h place e there) ∙ grow (take place h) e s
        ∙ ap (λ b. cond b (length (take place h) + 1) (last_touch (take place h) s)) touched in
        let le = first-touch h (place + 1) s in
        omega (arith, size, now, le)

    touched-fits : (seen : ℕ) (o : Option Mark) → seen ≤ place + 1 → touches (take place h) s e ≡ true → is_known s h ≡ true
        → IsMark h seen s (touched_mark (place + 1) o)
    touched-fits seen o le touched there_known = record {
      known = there_known;
      since =
          let in_h = within in
          let size : length (take seen h) ≡ seen = length-take-le seen h (omega (arith, le, in_h)) in
          let last = past (take seen h) s in
          let step = touched-step (place + 1) o in
          omega (arith, le, size, last, step);
      past = let in_h = within in let step = touched-step (place + 1) o in omega (arith, in_h, step);
      touch = inl (let at = at-last touched in let step = touched-step (place + 1) o in omega (arith, at, step));
      refused = λ is. absurd (touched-free (place + 1) o is);
    }

    touched-claim : (o : Option Mark) → Fits h place s o → touches (take place h) s e ≡ true
        → claim_by h s (Some (touched_mark (place + 1) o)) ≡ claim_by h s o
    touched-claim None fits touched = either (nat_lt (place + 1) (last_touch h s)) Free
    touched-claim (Some m) fits touched =
        ap (λ (c : Claim). cond (nat_lt (place + 1) (last_touch h s)) c (touched_claim m.claim)) (twice m.claim)
        ∙ either (nat_lt (place + 1) (last_touch h s)) (touched_claim m.claim)
        ∙ sym (elim (cases_Bool (nat_lt m.touched (last_touch h s))) [
          | inl before ↦ ap (λ b. cond b (touched_claim m.claim) m.claim) before
          | inr now ↦
              let at = at-last touched in
              let le = not-less-is m.touched (last_touch h s) now in
              ap (λ b. cond b (touched_claim m.claim) m.claim) now
              ∙ sym (not-refused m.claim (λ is. let few = fits.refused is in absurd (omega (arith, at, le, few))))
        ])

  module _ (known : KnownGrows) (stays : KnownStays) where
    brings-touches : (before : List Entry) (s : Series) (e : Entry) → touches before s e ≡ false → brings s e ≡ false
    brings-touches before s (entry.Commit number name) miss = refl
    brings-touches before s (entry.Accept run) miss = miss
    brings-touches before s (entry.Retract run) miss = refl
    brings-touches before s (entry.Tune metric penalty len) miss = refl
    brings-touches before s (entry.Publish p) miss = refl
    brings-touches before s (entry.Regression event) miss = refl
    brings-touches before s (entry.Job event) miss = refl

    not-known : (h : List Entry) (s : Series) (k : ℕ) → is_known s h ≡ false → is_known s (take k h) ≡ false
    not-known h s k miss = elim (cases_Bool (is_known s (take k h))) [
      | inl is ↦ absurd (let never : true ≡ false = sym (stays h s k is) ∙ miss in cc)
      | inr none ↦ none
    ]

    or-false : (b : Bool) → (b || false) ≡ b
    or-false true = refl
    or-false false = refl

    module _ (h : List Entry) (place : ℕ) (e : Entry) (there : slice_get h place ≡ Some e) (s : Series) where
      -- an entry that doesn't touch the series
      same-touch : touches (take place h) s e ≡ false → last_touch (take (place + 1) h) s ≡ last_touch (take place h) s
      same-touch miss =
          ap (λ (x : List Entry). last_touch x s) (next h place e there) ∙ grow (take place h) e s
          ∙ ap (λ b. cond b (length (take place h) + 1) (last_touch (take place h) s)) miss

      same-known : touches (take place h) s e ≡ false → is_known s (take (place + 1) h) ≡ is_known s (take place h)
      same-known miss =
          ap (is_known s) (next h place e there) ∙ known (take place h) e s
          ∙ ap (λ b. is_known s (take place h) || b) (brings-touches (take place h) s e miss) ∙ or-false (is_known s (take place h))

      untouched-fits : (o : Option Mark) → Fits h place s o → touches (take place h) s e ≡ false → Fits h (place + 1) s o
      untouched-fits None fits miss =
          ap (λ b. b && is_behind (last_touch (take (place + 1) h) s) (last_publication s h)) (same-known miss)
          ∙ ap (λ (n : ℕ). is_known s (take place h) && is_behind n (last_publication s h)) (same-touch miss)
          ∙ fits
      untouched-fits (Some m) fits miss = record {
        known = fits.known;
        since = let same = same-touch miss in let le = fits.since in omega (arith, same, le);
        past = fits.past;
        touch = fits.touch;
        refused = λ is. let le = fits.refused is in omega (arith, le);
      }

      unknown-fits : (o : Option Mark) → Fits h place s o → is_known s h ≡ false → Fits h (place + 1) s o
      unknown-fits None fits miss =
          ap (λ b. b && is_behind (last_touch (take (place + 1) h) s) (last_publication s h)) (not-known h s (place + 1) miss)
      unknown-fits (Some m) fits miss = absurd (let never : true ≡ false = sym fits.known ∙ miss in cc)

    -- ---- all that an entry touches
    module _ (h : List Entry) (place : ℕ) (e : Entry) (there : slice_get h place ≡ Some e) (which : Series → Bool) (test : IsTest h place e which) (a b : Entries) (covers : Covers h place a) where
      pub covers-step : AreTouched which (place + 1) a b → Covers h (place + 1) b
      covers-step are = record {
        seen_are = let in_h = slice_get_within h place e there in omega (arith, in_h);
        each = λ s. elim (cases_Bool (which s)) [
          | inl hit ↦
              let facts = test.just s hit in
              subst (λ (o : Option Mark). Fits h (place + 1) s o)
              (sym (are s ∙ ap (λ c. cond c (Some (touched_mark (place + 1) (mark_of (key_of s) a))) (mark_of (key_of s) a)) hit))
              (touched-fits h place e there s (place + 1) (mark_of (key_of s) a) (omega arith) facts.0 facts.1)
          | inr miss ↦
              subst (λ (o : Option Mark). Fits h (place + 1) s o)
              (sym (are s ∙ ap (λ c. cond c (Some (touched_mark (place + 1) (mark_of (key_of s) a))) (mark_of (key_of s) a)) miss))
              (elim (cases_Bool (touches (take place h) s e)) [
                | inl hit ↦ elim (cases_Bool (is_known s h)) [
                  | inl known ↦ absurd (let never : true ≡ false = sym (test.each s hit known) ∙ miss in cc)
                  | inr unknown ↦ unknown-fits h place e there s (mark_of (key_of s) a) (covers.each s) unknown
                ]
                | inr none ↦ untouched-fits h place e there s (mark_of (key_of s) a) (covers.each s) none
              ])
        ];
      }

      pub covers-part : SomeAreTouched which (place + 1) a b → Covers h place b
      covers-part some = record {
        seen_are = covers.seen_are;
        each = λ s. elim (some s) [
          | inl same ↦ subst (λ (o : Option Mark). Fits h place s o) (sym same) (covers.each s)
          | inr hit ↦
              let facts = test.just s hit.0 in
              subst (λ (o : Option Mark). Fits h place s o) (sym hit.1)
              (touched-fits h place e there s place (mark_of (key_of s) a) (omega arith) facts.0 facts.1)
        ];
      }

      pub claims-part : SomeAreTouched which (place + 1) a b → MakeSame h a b
      claims-part some s = elim (some s) [
        | inl same ↦ ap (claim_by h s) same
        | inr hit ↦ ap (claim_by h s) hit.1 ∙ touched-claim h place e there s (mark_of (key_of s) a) (covers.each s) (test.just s hit.0).0
      ]

    -- ---- a history with an entry more
    module _ (latest : LatestStays) (h : List Entry) (e : Entry) (allowed : Allowed h e) (seen : ℕ) (s : Series) where
      grown-fits : (o : Option Mark) → seen ≤ length h → Fits h seen s o → Fits (h ++ e ∷ []) seen s o
      grown-fits None le fits =
          let firsts : take seen (h ++ e ∷ []) ≡ take seen h = take-append-le seen h (e ∷ []) le in
          ap (λ (x : List Entry). is_known s x && is_behind (last_touch x s) (last_publication s (h ++ e ∷ []))) firsts
          ∙ elim (cases_Bool (is_known s (take seen h))) [
            | inl is ↦
                ap (λ b. b && is_behind (last_touch (take seen h) s) (last_publication s (h ++ e ∷ []))) is
                ∙ latest h e s (last_touch (take seen h) s) allowed
                (sym (ap (λ b. b && is_behind (last_touch (take seen h) s) (last_publication s h)) is) ∙ fits)
            | inr none ↦ ap (λ b. b && is_behind (last_touch (take seen h) s) (last_publication s (h ++ e ∷ []))) none
          ]
      grown-fits (Some m) le fits = record {
        known = known h e s ∙ ap (λ b. b || brings s e) fits.known;
        since =
            let same = ap (λ (x : List Entry). last_touch x s) (take-append-le seen h (e ∷ []) le) in
            let since = fits.since in
            omega (arith, same, since);
        past = let size = length-append h (e ∷ []) in let le = fits.past in omega (arith, size, le);
        touch = elim fits.touch [
          | inl at ↦ inl (let up = more-push h e s in omega (arith, at, up))
          | inr done ↦ inr (latest h e s m.touched allowed done)
        ];
        refused = fits.refused;
      }

      grown-claim : (o : Option Mark) → Fits h seen s o
          → claim_by (h ++ e ∷ []) s o ≡ cond (touches h s e) (touched_claim (claim_by h s o)) (claim_by h s o)
      grown-claim None fits = sym (either (touches h s e) Free)
      grown-claim (Some m) fits =
          ap (λ (n : ℕ). cond (nat_lt m.touched n) (touched_claim m.claim) m.claim) (grow h e s)
          ∙ elim (cases_Bool (touches h s e)) [
            | inl hit ↦
                let le = fits.past in
                ap (λ b. cond (nat_lt m.touched (cond b (length h + 1) (last_touch h s))) (touched_claim m.claim) m.claim) hit
                ∙ ap (λ b. cond b (touched_claim m.claim) m.claim) (less m.touched (length h + 1) (omega (arith, le)))
                ∙ sym (ap (λ b. cond b (touched_claim (claim_by h s (Some m))) (claim_by h s (Some m))) hit
                ∙ elim (cases_Bool (nat_lt m.touched (last_touch h s))) [
                  | inl before ↦ ap (λ b. touched_claim (cond b (touched_claim m.claim) m.claim)) before ∙ twice m.claim
                  | inr now ↦ ap (λ b. touched_claim (cond b (touched_claim m.claim) m.claim)) now
                ])
            | inr miss ↦
                ap (λ b. cond (nat_lt m.touched (cond b (length h + 1) (last_touch h s))) (touched_claim m.claim) m.claim) miss
                ∙ sym (ap (λ b. cond b (touched_claim (claim_by h s (Some m))) (claim_by h s (Some m))) miss)
          ]

    pub covers-grown : LatestStays → (h : List Entry) (e : Entry) → Allowed h e → (seen : ℕ) (marks : Entries) → Covers h seen marks → Covers (h ++ e ∷ []) seen marks
    covers-grown latest h e allowed seen marks covers = record {
      seen_are = let size = length-append h (e ∷ []) in let le = covers.seen_are in omega (arith, size, le);
      each = λ s. grown-fits latest h e allowed seen s (mark_of (key_of s) marks) covers.seen_are (covers.each s);
    }

    pub claims-grown : LatestStays → (h : List Entry) (e : Entry) → Allowed h e → (seen : ℕ) (marks : Entries) → Covers h seen marks → (s : Series)
        → claim_by (h ++ e ∷ []) s (mark_of (key_of s) marks) ≡ cond (touches h s e) (touched_claim (claim_by h s (mark_of (key_of s) marks))) (claim_by h s (mark_of (key_of s) marks))
    claims-grown latest h e allowed seen marks covers s = grown-claim latest h e allowed seen s (mark_of (key_of s) marks) (covers.each s)

-- ---- where all entries were looked at
pub all-taken : (h : List Entry) → take (length h) h ≡ h
all-taken h = take_all (length h) h (omega arith)

pub unmarked-fresh : (h : List Entry) (s : Series) → Fits h (length h) s None → is_stale h s ≡ false
unmarked-fresh h s fits = grind (arith, common_steps)

pub fresh-unmarked : (h : List Entry) (s : Series) → is_stale h s ≡ false → Fits h (length h) s None
fresh-unmarked h s fresh = grind (arith, common_steps)

module _ (h : List Entry) (s : Series) (m : Mark) (is : IsMark h (length h) s m) where
  pub caught : last_touch h s ≤ m.touched
  caught = let same = ap (λ (x : List Entry). last_touch x s) (all-taken h) in let le = is.since in omega (arith, same, le)

  pub marked-claim : claim_by h s (Some m) ≡ m.claim
  marked-claim = ap (λ b. cond b (touched_claim m.claim) m.claim) (not-less m.touched (last_touch h s) caught)

  pub marked-stale : is_stale h s ≡ is_behind m.touched (last_publication s h)
  marked-stale = grind (arith, common_steps)
