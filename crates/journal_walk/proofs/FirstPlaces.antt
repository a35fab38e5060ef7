-- Where a version of a series is published first, and whether it was published before a version.
use Rattle.std.proofs.Common.{◌≡◌, ℕ, zero, suc, ◌+◌, ◌<◌, ◌≤◌, Bool, true, false, ◌&&◌, cond, List, [], ◌∷◌, ◌++◌, length, get_or, take, drop, inl, inr, refl, sym, ap, ap₂, ◌∙◌, subst, arith, Option, Some, None}
use Rattle.std.specs.{Prelude.{Contains, slice_get, bytes_eq}, List.{Any, cons_option}, declared.cmp.Ordering.Ordering}
use Rattle.std.{specs.declared.cmp.Ordering.TheVariants.Equal, specs.Ordering.{nat_cmp, is_eq, ordering_then}, proofs.lemmas.Grind.common_steps}
use Rattle.std.{specs.Cmp.Lexicographic.slice_cmp, proofs.lemmas.Bool.cases_Bool, proofs.lemmas.Map.Lookups.exact_unsigned}
use Rattle.std.proofs.lemmas.{Map.Text.is_eq-slice_cmp, Option.slice_get_within, Slice.Eq.bytes_eq-Decides}
use Rattle.std.proofs.{lemmas.List.{get_or-map, length-take-le, take-take}, Math.Seq.drop-cons}
use Rattle.history_model.specs.declared.{entries.Entry.Entry, entries.Placed.Placed, publication.Publication.Publication}
use Rattle.history_model.specs.declared.entries.Entry.TheVariants as entry
use Rattle.history_model.specs.{Allowed.{Allowed, AllowedAfter, Legal}, Entries.{chosen_from, entries_of}}
use Rattle.history_model.{specs.Publications.{publication_of, publications_of, published, Stands}, specs.Runs.{Series, is_known}, proofs.Lists.same-bytes}
use Rattle.history_model.proofs.Members.{here, behind, either, none-in-nil}
use Rattle.journal_walk.{proofs.Plans.many, specs.declared.firsts.SeriesVersion.SeriesVersion}
use Rattle.journal_walk.specs.Firsts.{IsBefore, base_key, first_from, key_cmp, key_of, publishes}

-- ---- keys
is-equal : (o : Ordering) → is_eq o ≡ true → o ≡ Equal
is-equal o h = grind (arith, common_steps)

both : (x y : Ordering) → is_eq (ordering_then x y) ≡ true → (is_eq x ≡ true) × (is_eq y ≡ true)
both x y h = grind (arith, common_steps)

same-name : (one other : List ℕ) → is_eq (slice_cmp nat_cmp one other) ≡ true → one ≡ other
same-name one other same = (bytes_eq-Decides one other).0 (sym (is_eq-slice_cmp one other) ∙ same)

name-equal : (name : List ℕ) → slice_cmp nat_cmp name name ≡ Equal
name-equal name = is-equal (slice_cmp nat_cmp name name) (is_eq-slice_cmp name name ∙ (bytes_eq-Decides name name).1 refl)

pub same-key : (one other : SeriesVersion) → is_eq (key_cmp one other) ≡ true → one ≡ other
same-key one other same =
    let outer = both (slice_cmp nat_cmp one.test other.test) (ordering_then (slice_cmp nat_cmp one.metric other.metric) (nat_cmp one.version other.version)) same in
    let inner = both (slice_cmp nat_cmp one.metric other.metric) (nat_cmp one.version other.version) outer.1 in
    let tests : one.test ≡ other.test = same-name one.test other.test outer.0 in
    let metrics : one.metric ≡ other.metric = same-name one.metric other.metric inner.0 in
    let versions : one.version ≡ other.version = exact_unsigned one.version other.version (is-equal (nat_cmp one.version other.version) inner.1) in
    ap₂ (λ (t m : List ℕ). let k : SeriesVersion = record { test = t; metric = m; version = one.version } in k) tests metrics
    ∙ ap (λ (v : ℕ). let k : SeriesVersion = record { test = other.test; metric = other.metric; version = v } in k) versions

pub key-same : (key : SeriesVersion) → is_eq (key_cmp key key) ≡ true
key-same key = grind (arith, common_steps, slice_cmp, name-equal)

-- ---- the first place
pub record FirstAt (place : ℕ) (key : SeriesVersion) (es : List Entry) (k : ℕ) : Type 0 where
  pub offset : ℕ
  pub at : k ≡ place + offset
  pub entry : Entry
  pub there : slice_get es offset ≡ Some entry
  pub hit : publishes key entry ≡ true

pub first-is : (place : ℕ) (key : SeriesVersion) (es : List Entry) (k : ℕ) → first_from place key es ≡ Some k → FirstAt place key es k
first-is place key [] k is = absurd (cc)
first-is place key (e ∷ es) k is = elim (cases_Bool (publishes key e)) [
  | inl hit ↦
      let same : place ≡ k = cc in
      record { offset = 0; at = omega (arith, same); entry = e; there = refl; hit = hit }
  | inr miss ↦
      let rest = first-is (place + 1) key es k (sym (ap (λ (b : Bool). cond b (Some place) (first_from (place + 1) key es)) miss) ∙ is) in
      record { offset = suc rest.offset; at = (let at = rest.at in omega (arith, at)); entry = rest.entry; there = rest.there; hit = rest.hit }
]

pub record UpTo (o : Option ℕ) (k : ℕ) : Type 0 where
  pub place : ℕ
  pub is : o ≡ Some place
  pub le : place ≤ k

pub first-below : (place : ℕ) (key : SeriesVersion) (es : List Entry) (j : ℕ) (e : Entry) → slice_get es j ≡ Some e → publishes key e ≡ true
    → UpTo (first_from place key es) (place + j)
first-below place key [] j e there hit = absurd (cc)
first-below place key (x ∷ es) zero e there hit = grind (arith, common_steps)
first-below place key (x ∷ es) (suc j) e there hit = grind (arith, common_steps, first-below (place + 1) key es j e there hit)

-- from one place before
pub one-before : (history : List Placed) (k : ℕ) (x : Placed) (key : SeriesVersion) → k < length history → x ≡ get_or history k x
    → first_from k key (drop k (entries_of history)) ≡ cond (publishes key x.entry) (Some k) (first_from (k + 1) key (drop (k + 1) (entries_of history)))
one-before history k x key lt is =
    let size : length (entries_of history) ≡ length history = many history in
    let at : get_or (entries_of history) k x.entry ≡ x.entry = get_or-map (λ (p : Placed). p.entry) history k x x.entry lt ∙ ap (λ (p : Placed). p.entry) (sym is) in
    let step : suc k ≡ k + 1 = omega arith in
    ap (first_from k key) (drop-cons (entries_of history) k x.entry (omega (arith, lt, size)))
    ∙ ap (λ (e : Entry). cond (publishes key e) (Some k) (first_from (k + 1) key (drop (suc k) (entries_of history)))) at
    ∙ ap (λ (n : ℕ). cond (publishes key x.entry) (Some k) (first_from (k + 1) key (drop n (entries_of history)))) step

-- ---- entries at places
pub take-get : {A : Type 0} (n : ℕ) (xs : List A) (k : ℕ) → k < n → slice_get (take n xs) k ≡ slice_get xs k
take-get zero xs k lt = absurd (omega (arith, lt))
take-get (suc n) [] k lt = refl
take-get (suc n) (x ∷ xs) zero lt = refl
take-get (suc n) (x ∷ xs) (suc k) lt = take-get n xs k (omega (arith, lt))

pub below : {A : Type 0} (n : ℕ) (xs : List A) (k : ℕ) → k < length (take n xs) → k < n
below zero xs k lt = absurd (omega (arith, lt))
below (suc n) [] k lt = absurd (omega (arith, lt))
below (suc n) (x ∷ xs) zero lt = omega arith
below (suc n) (x ∷ xs) (suc k) lt = (let less = below n xs k (omega (arith, lt)) in omega (arith, less))

-- ---- publications of a series, and their places
pub record PublishedAt (h : List Entry) (s : Series) (q : Publication) : Type 0 where
  pub place : ℕ
  pub there : slice_get h place ≡ Some (entry.Publish q)
  pub series : published q ≡ s

is-series : (q : Publication) (s : Series) → (bytes_eq q.test s.test && bytes_eq q.metric s.metric) ≡ true → published q ≡ s
is-series q s hit =
    let two = split (bytes_eq q.test s.test) (bytes_eq q.metric s.metric) hit in
    ap₂ (λ (t m : List ℕ). let k : Series = record { test = t; metric = m } in k) (same-bytes q.test s.test two.0) (same-bytes q.metric s.metric two.1)
  where
    split : (a b : Bool) → (a && b) ≡ true → (a ≡ true) × (b ≡ true)
    split true true both = (refl, refl)
    split true false both = absurd (cc)
    split false b both = absurd (cc)

series-is : (q : Publication) (s : Series) → published q ≡ s → (bytes_eq q.test s.test && bytes_eq q.metric s.metric) ≡ true
series-is q s same = grind (arith, common_steps, ap₂, bytes_eq-Decides)

later-at : (e : Entry) (h : List Entry) (s : Series) (q : Publication) → PublishedAt h s q → PublishedAt (e ∷ h) s q
later-at e h s q at = record { place = suc at.place; there = at.there; series = at.series }

pub chosen-in : (s : Series) (step : ℕ) (h : List Entry) (q : Publication) → Contains (chosen_from step (publication_of s) h) q → PublishedAt h s q
chosen-in s step [] q has = absurd (none-in-nil q has)
chosen-in s step (entry.Publish p ∷ h) q has =
    let rest : List Publication = chosen_from (step + 1) (publication_of s) h in
    elim (cases_Bool (bytes_eq p.test s.test && bytes_eq p.metric s.metric)) [
      | inl hit ↦
          let has' : Contains (p ∷ rest) q = subst (λ (o : Option Publication). Contains (cons_option o rest) q) (ap (λ (b : Bool). cond b (Some p) None) hit) has in
          elim (either q p rest has') [
            | inl same ↦ record { place = 0; there = ap (λ (x : Publication). Some (entry.Publish x)) same; series = ap published (sym same) ∙ is-series p s hit }
            | inr later ↦ later-at (entry.Publish p) h s q (chosen-in s (step + 1) h q later)
          ]
      | inr miss ↦
          later-at (entry.Publish p) h s q
          (chosen-in s (step + 1) h q (subst (λ (o : Option Publication). Contains (cons_option o rest) q) (ap (λ (b : Bool). cond b (Some p) None) miss) has))
    ]
chosen-in s step (entry.Commit number name ∷ h) q has = later-at (entry.Commit number name) h s q (chosen-in s (step + 1) h q has)
chosen-in s step (entry.Accept run ∷ h) q has = later-at (entry.Accept run) h s q (chosen-in s (step + 1) h q has)
chosen-in s step (entry.Retract run ∷ h) q has = later-at (entry.Retract run) h s q (chosen-in s (step + 1) h q has)
chosen-in s step (entry.Tune metric penalty len ∷ h) q has = later-at (entry.Tune metric penalty len) h s q (chosen-in s (step + 1) h q has)
chosen-in s step (entry.Regression event ∷ h) q has = later-at (entry.Regression event) h s q (chosen-in s (step + 1) h q has)
chosen-in s step (entry.Job event ∷ h) q has = later-at (entry.Job event) h s q (chosen-in s (step + 1) h q has)

cons-behind : (o : Option Publication) (xs : List Publication) (q : Publication) → Contains xs q → Contains (cons_option o xs) q
cons-behind None xs q has = has
cons-behind (Some p) xs q has = behind q p xs has

pub in-chosen : (s : Series) (step : ℕ) (h : List Entry) (place : ℕ) (q : Publication) → slice_get h place ≡ Some (entry.Publish q) → published q ≡ s
    → Contains (chosen_from step (publication_of s) h) q
in-chosen s step [] place q there series = absurd (cc)
in-chosen s step (e ∷ h) zero q there series = grind (arith, common_steps, publication_of, cond, series-is, here)
in-chosen s step (e ∷ h) (suc place) q there series =
    cons-behind (publication_of s step e) (chosen_from (step + 1) (publication_of s) h) q (in-chosen s (step + 1) h place q there series)

-- ---- the base of a publication
abbrev pub IsNamed : List Entry → Publication → Type 0
IsNamed version p = Any (λ (q : Publication). q.version ≡ p.base) (publications_of (published p) version)

publish-of : (key : SeriesVersion) (e : Entry) → publishes key e ≡ true → (q : Publication) × (e ≡ entry.Publish q) × (key_of q ≡ key)
publish-of key e hit = grind (arith, common_steps, same-key)

pub named-before : (es : List Entry) (p : Publication) → IsBefore p.version (first_from 0 (base_key p) es) → IsNamed (take p.version es) p
named-before es p before = at (first_from 0 (base_key p) es) refl before
  where
    at : (o : Option ℕ) → first_from 0 (base_key p) es ≡ o → IsBefore p.version o → IsNamed (take p.version es) p
    at None is lt = absurd lt
    at (Some k) is lt =
        let first : FirstAt 0 (base_key p) es k = first-is 0 (base_key p) es k is in
        let q = publish-of (base_key p) first.entry first.hit in
        let place : first.offset < p.version = (let at = first.at in omega (arith, at, lt)) in
        let there : slice_get (take p.version es) first.offset ≡ Some (entry.Publish q.0) = take-get p.version es first.offset place ∙ first.there ∙ ap Some q.1 in
        let series : published q.0 ≡ published p = ap (λ (k : SeriesVersion). let s : Series = record { test = k.test; metric = k.metric } in s) q.2 in
        let has = in-chosen (published p) 1 (take p.version es) first.offset q.0 there series in
        (has.0, q.0, has.1, has.2, ap (λ (k : SeriesVersion). k.version) q.2)

pub before-named : (es : List Entry) (p : Publication) → IsNamed (take p.version es) p → IsBefore p.version (first_from 0 (base_key p) es)
before-named es p (k, q, within, is, version) =
    let at : PublishedAt (take p.version es) (published p) q = chosen-in (published p) 1 (take p.version es) q (k, within, is) in
    let inside : at.place < p.version = below p.version es at.place (slice_get_within (take p.version es) at.place (entry.Publish q) at.there) in
    let there : slice_get es at.place ≡ Some (entry.Publish q) = sym (take-get p.version es at.place inside) ∙ at.there in
    let key : key_of q ≡ base_key p = grind (arith, common_steps) in
    let hit : publishes (base_key p) (entry.Publish q) ≡ true = ap (λ (k : SeriesVersion). is_eq (key_cmp k (base_key p))) key ∙ key-same (base_key p) in
    let first : UpTo (first_from 0 (base_key p) es) (0 + at.place) = first-below 0 (base_key p) es at.place (entry.Publish q) there hit in
    let lt : first.place < p.version = (let le = first.le in omega (arith, le, inside)) in
    subst (λ (o : Option ℕ). IsBefore p.version o) (sym first.is) lt

-- ---- in a legal history
-- each entry is allowed behind those before it
pub allowed-at : (before es : List Entry) → AllowedAfter before es → (j : ℕ) (e : Entry) → slice_get es j ≡ Some e → Allowed (before ++ take j es) e
allowed-at before [] legal j e there = absurd (cc)
allowed-at before (x ∷ es) legal zero e there = grind (arith, common_steps)
allowed-at before (x ∷ es) legal (suc j) e there = grind (arith, common_steps, allowed-at (before ++ x ∷ []) es legal.1 j e there)

-- so a publication stands behind those before it
pub stands-at : (h : List Entry) → Legal h → (j : ℕ) (q : Publication) → slice_get h j ≡ Some (entry.Publish q) → Stands (take j h) q
stands-at h legal j q there = (allowed-at [] h legal j (entry.Publish q) there).0.0

-- and what a publication is based on was known before its version
pub record BaseStands (h : List Entry) (p : Publication) : Type 0 where
  pub before : p.base < p.version
  pub known : is_known (published p) (take p.base h) ≡ true

pub base-stands : (h : List Entry) (p : Publication) → Legal h → p.version ≤ length h → IsNamed (take p.version h) p → BaseStands h p
base-stands h p legal past (k, q, within, is, version) =
    let at : PublishedAt (take p.version h) (published p) q = chosen-in (published p) 1 (take p.version h) q (k, within, is) in
    let inside : at.place < p.version = below p.version h at.place (slice_get_within (take p.version h) at.place (entry.Publish q) at.there) in
    let there : slice_get h at.place ≡ Some (entry.Publish q) = sym (take-get p.version h at.place inside) ∙ at.there in
    let stands : Stands (take at.place h) q = stands-at h legal at.place q there in
    let short : length (take at.place h) ≡ at.place = length-take-le at.place h (omega (arith, inside, past)) in
    let le : q.version ≤ at.place = (let past = stands.past in omega (arith, past, short)) in
    let front : take q.version (take at.place h) ≡ take q.version h = take-take q.version at.place h le in
    record {
      before = omega (arith, le, inside, version);
      known = ap₂ (λ (s : Series) (v : ℕ). is_known s (take v h)) (sym at.series) (sym version) ∙ ap (is_known (published q)) (sym front) ∙ stands.known;
    }
