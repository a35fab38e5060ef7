-- Private: no public contract cites this. How many cuts the segmentations of a journal's versions have.
use Rattle.std.proofs.Common.{◌≡◌, inl, inr, ℕ, ℤ, ◌<◌, ◌≤◌, Bool, true, false, List, [], ◌∷◌, ◌++◌, length, map, filter, take, refl, sym, ap, subst, ◌∙◌, arith}
use Rattle.std.{specs.Prelude.{◌||◌, nat_lt, if◌then◌else◌}, specs.List.list_any, proofs.lemmas.Bool.{cases_Bool, cases_lt}, proofs.lemmas.Grind.common_steps}
use Rattle.sample_model.specs.Samples.{Measurement}
use Rattle.segment_model.specs.{Segments.Position, Brought.{Brought, positions_of}}
use Rattle.segment_cost.specs.{Certificate.{OneCertificate, StandsFor}, declared.cert.Cert.Cert}
use Rattle.history_model.specs.{declared.entries.Acceptance.Acceptance, declared.entries.Entry.Entry, declared.entries.Placed.Placed, Entries.entries_of}
use Rattle.history_model.specs.{Penalties.{penalty_of, length_of}, Positions.{brought, brought_by, positions}, Runs.{Series, acceptances, is_known, is_of}}
use Rattle.journal_walk.specs.{Laws.StaysAlong, Walks.{Walked, AreCutsNow, GoesOn, IsAlong, IsStuck, added}}
use Rattle.play_audit.{specs.Places.{IsBy, IsSound}, proofs.Walking.{goes_by, grown_length, not_stuck}, specs.Segments.{HasFewCuts, PassesCuts}}
use Rattle.play_model.specs.Replies.{first_of}

-- ---- a series that isn't known has no positions

none-of : (s : Series) (xs : List Measurement) → list_any (is_of s) xs ≡ false → filter (is_of s) xs ≡ []
none-of s [] is = refl
none-of s (x ∷ xs) is = elim (cases_Bool (is_of s x)) [
  | inl hit ↦ let no : true ≡ false = sym (ap (λ (b : Bool). b || list_any (is_of s) xs) hit) ∙ is in absurd (cc)
  | inr past ↦
      let more : list_any (is_of s) xs ≡ false = sym (ap (λ (b : Bool). b || list_any (is_of s) xs) past) ∙ is in
      ap (λ (b : Bool). if b then x ∷ filter (is_of s) xs else filter (is_of s) xs) past ∙ none-of s xs more
]

brought-none : (s : Series) (live : Acceptance → Bool) (runs : List Acceptance) → list_any (λ (a : Acceptance). list_any (is_of s) a.run.samples) runs ≡ false
    → brought s (filter live runs) ≡ []
brought-none s live [] is = refl
brought-none s live (a ∷ runs) is = elim (cases_Bool (list_any (is_of s) a.run.samples)) [
  | inl hit ↦ let no : true ≡ false = sym (ap (λ (b : Bool). b || list_any (λ (a : Acceptance). list_any (is_of s) a.run.samples) runs) hit) ∙ is in absurd (cc)
  | inr past ↦
      let more : list_any (λ (a : Acceptance). list_any (is_of s) a.run.samples) runs ≡ false = grind (arith, common_steps) in
      let rest : brought s (filter live runs) ≡ [] = brought-none s live runs more in
      let mine : brought_by s a ≡ [] = grind (arith, common_steps, map, none-of) in
      elim (cases_Bool (live a)) [
        | inl on ↦ ap (λ (b : Bool). brought s (if b then a ∷ filter live runs else filter live runs)) on ∙ ap (λ (l : List Brought). l ++ brought s (filter live runs)) mine ∙ rest
        | inr off ↦ ap (λ (b : Bool). brought s (if b then a ∷ filter live runs else filter live runs)) off ∙ rest
      ]
]

unknown-empty : (s : Series) (h : List Entry) → is_known s h ≡ false → positions h s ≡ []
unknown-empty s h is = ap positions_of (brought-none s _ (acceptances h) is)

empty-few : (points : List Position) (penalty : ℤ) (len : ℕ) (cert : Cert) → points ≡ [] → StandsFor points penalty len cert → length cert.cuts ≡ 0
empty-few points penalty len cert none stands = grind (arith, common_steps)

-- ---- a version's cuts, by what is told of them now

module _ (once : OneCertificate) (j : List Placed) (s : Series) (version : ℕ) (h : List Entry) (first : h ≡ first_of version j) (cuts room : ℕ) where
  pub few_now : AreCutsNow h s cuts → cuts ≤ room → HasFewCuts j s version room
  few_now (inl x) few cert stands = grind (arith, common_steps, version, j, s, unknown-empty, first, length, empty-few, s.metric)
  few_now (inr y) few cert stands =
      let its : StandsFor (positions (first_of version j) s) (penalty_of s.metric (first_of version j)) (length_of s.metric (first_of version j)) y.1.0 =
      subst (λ (l : List Entry). StandsFor (positions l s) (penalty_of s.metric l) (length_of s.metric l) y.1.0) first y.1.1 in
      let same : cert ≡ y.1.0 =
      once (positions (first_of version j) s) (penalty_of s.metric (first_of version j)) (length_of s.metric (first_of version j)) cert y.1.0 stands its in
      let sizes : length cert.cuts ≡ length y.1.0.cuts = ap (λ (c : Cert). length c.cuts) same in
      let told = y.1.2 in
      omega (arith, sizes, told, few)

-- ---- from one version to the next

pub record Goes (w past : Walked) (s : Series) (to room : ℕ) : Type 0 where
  pub by : IsBy w.track.machine w.history to past
  pub on : length w.track.history ≤ length past.track.history
  pub few : (version : ℕ) → length w.track.history ≤ version → version < length past.track.history → HasFewCuts w.history s version room

pub starts_going : (w : Walked) (s : Series) (to room : ℕ) → IsAlong w → length w.track.history ≤ to → to ≤ length w.history → Goes w w s to room
starts_going w s to room along since within = grind (arith, common_steps)

first-now : (w past : Walked) (s : Series) (to room : ℕ) → Goes w past s to room → added past ≡ first_of (length past.track.history) w.history
first-now w past s to room g = g.by.along.first ∙ ap (λ (h : List Placed). entries_of (take (length past.track.history) h)) g.by.same

pub some_pass : (w past : Walked) (s : Series) (to room cuts : ℕ) → OneCertificate → Goes w past s to room → AreCutsNow (added past) s cuts → room < cuts
    → PassesCuts w.history s (length w.track.history) to room
some_pass w past s to room cuts once g now many = grind (arith, common_steps)

-- so many cuts are few
pub few_so_far : (w past : Walked) (s : Series) (to room cuts : ℕ) → OneCertificate → Goes w past s to room → AreCutsNow (added past) s cuts → cuts ≤ room
    → (version : ℕ) → length w.track.history ≤ version → version ≤ length past.track.history → HasFewCuts w.history s version room
few_so_far w past s to room cuts once g now few version from until = elim (cases_lt version (length past.track.history)) [
  | inl below ↦ g.few version from below
  | inr same ↦
      let is : length past.track.history ≡ version = omega (arith, same, until) in
      subst (λ (v : ℕ). HasFewCuts w.history s v room) is
      (few_now once w.history s (length past.track.history) (added past) (first-now w past s to room g) cuts room now few)
]

pub goes_further : (w past next : Walked) (s : Series) (to room cuts : ℕ) → StaysAlong → OneCertificate → Goes w past s to room → AreCutsNow (added past) s cuts → cuts ≤ room
    → length past.track.history < to → GoesOn past next → Goes w next s to room
goes_further w past next s to room cuts stays once g now few below goes = record {
  by = goes_by stays w.track.machine w.history to past next g.by below goes;
  on = (let grown = grown_length past next goes in let on = g.on in omega (arith, grown, on));
  few = λ version from under. (let grown = grown_length past next goes in few_so_far w past s to room cuts once g now few version from (omega (arith, under, grown)));
}

pub never_stuck : (w past : Walked) (s : Series) (to room : ℕ) → IsSound w.history → Goes w past s to room → length past.track.history < to → IsStuck past → ⊥
never_stuck w past s to room sound g below = grind (arith, common_steps, length, not_stuck)

pub not-more : (room cuts : ℕ) → nat_lt room cuts ≡ false → cuts ≤ room
not-more room cuts is = grind (arith, common_steps)

-- the same of equal lists and numbers
pub alike : (P : List Placed → (from to room : ℕ) → Type 0) {j k : List Placed} {a b t u r q : ℕ} → k ≡ j → a ≡ b → t ≡ u → r ≡ q → P k a t r → P j b u q
alike P {j = j} {a = a} {b = b} {t = t} {u = u} {r = r} one two three four is = grind (arith, common_steps)
