-- Private: no public contract cites this. Scripts, heard one after another.
use Rattle.std.proofs.Common.{◌≡◌, inl, inr, ℕ, zero, suc, ◌+◌, ◌-◌, ◌<◌, ◌≤◌, Bool, true, false, List, [], ◌∷◌, ◌++◌, length, take, Some, refl, sym, ap, subst, ◌∙◌, arith}
use Rattle.std.{specs.Prelude.{slice_get, slice_index_or, sum_by}, proofs.lemmas.Bool.cases_Bool, proofs.lemmas.List.take_all, proofs.lemmas.Grind.common_steps}
use Rattle.std.proofs.lemmas.Option.{slice_get_within}
use Rattle.history_model.specs.declared.entries.Author.TheVariants as author
use Rattle.history_model.specs.declared.entries.Placed.{Placed}
use Rattle.track_model.specs.Tracks.{Track}
use Rattle.request_words.specs.Bodies.{Item}
use Rattle.request_reader.specs.{Reading.OneReading, Scripts.{IsScript, end}}
use Rattle.journal_reader.specs.Journals.{Journal}
use Rattle.play_fits.specs.{Journals.{history_in, machines_of}, Scripts.{Exchange, IsAdded}}
use Rattle.audit_model.specs.{Heard.{AreAsked, IsTold, IsUnaskedAt, kept_count}, Verdicts.{Asks, AskTogether}, declared.heard.Heard.Heard}
use Rattle.audit_model.proofs.{Exchanges.take_next, Hears.told_all, Machines.{AreOthers, history_at}}
use Rattle.play_audit.specs.{Known.{AreSound, tracks_of}, Marks.{AreRows, IsAddedIn, IsFirstOpen, MarksAll, MarksThese, NoneMarked, NoneOpen, mark_at}}
use Rattle.play_audit.{specs.Heard.{HearsAll, IsRefusedBy, IsShownBy, RefusesAt}, proofs.Knowing.tracks_other, proofs.Listed.{lt-or-le, same_at}}
use Rattle.play_audit.proofs.{Named.{added_step, same-or}, Scripts.one_script}

-- ---- one of many is changed

abbrev changed : {A : Type 0} → (ℕ → A) → ℕ → A → ℕ → A
changed f zero x zero = x
changed f zero x (suc i) = f (suc i)
changed f (suc n) x zero = f zero
changed f (suc n) x (suc i) = changed (λ k. f (suc k)) n x i

changed-there : {A : Type 0} (f : ℕ → A) (n : ℕ) (x : A) → changed f n x n ≡ x
changed-there f zero x = refl
changed-there f (suc n) x = changed-there (λ k. f (suc k)) n x

changed-else : {A : Type 0} (f : ℕ → A) (n : ℕ) (x : A) (i : ℕ) → (i ≡ n → ⊥) → changed f n x i ≡ f i
changed-else f zero x zero other = absurd (other refl)
changed-else f zero x (suc i) other = refl
changed-else f (suc n) x zero other = refl
changed-else f (suc n) x (suc i) other = changed-else (λ k. f (suc k)) n x i (λ same. other (ap suc same))

-- ---- one script more is marked

none-added : (ts : List Track) (i : ℕ) (xs : List Exchange) (t : Track) (place : ℕ) → xs ≡ [] → IsAddedIn ts i xs t place → ⊥
none-added ts i xs t place is by = absurd (omega (arith, slice_get_within {A = Exchange} [] by.before by.exchange (subst (λ (l : List Exchange). slice_get l by.before ≡ Some by.exchange) is by.here)))

marks-next : (ts : List Track) (asked : ℕ → List Exchange) (i : ℕ) (xs : List Exchange) (old new : List (List Bool)) → MarksThese ts asked old → asked i ≡ [] → MarksAll ts i xs old new
    → MarksThese ts (changed asked i xs) new
marks-next ts asked i xs old new these none all = record {
  rows_are = all.rows;
  added = λ k at place t here by. elim (same-or k i) [
    | inl same ↦ all.added at place t here (subst (λ (l : List Exchange). IsAddedIn ts i l t place) (changed-there asked i xs) (subst (λ (m : ℕ). IsAddedIn ts m (changed asked i xs m) t place) same by))
    | inr other ↦ all.kept at place (these.added k at place t here (subst (λ (l : List Exchange). IsAddedIn ts k l t place) (changed-else asked i xs k other) by))
  ];
  only = λ at place t here now. elim (all.only at place t here now) [
    | inl before ↦
        let was = these.only at place t here before in
        elim (same-or was.0 i) [
          | inl same ↦ absurd (none-added ts was.0 (asked was.0) t place (ap asked same ∙ none) was.1)
          | inr other ↦ (was.0, subst (λ (l : List Exchange). IsAddedIn ts was.0 l t place) (sym (changed-else asked i xs was.0 other)) was.1)
        ]
    | inr by ↦ (i, subst (λ (l : List Exchange). IsAddedIn ts i l t place) (sym (changed-there asked i xs)) by)
  ];
}

-- ---- how many requests the scripts have

ask-last : (xs : List Heard) (x : Heard) (a b : ℕ) → AskTogether xs a → Asks x b → AskTogether (xs ++ x ∷ []) (a + b)
ask-last [] x a b none asks = (b, 0, asks, refl, omega (arith, none))
ask-last (y ∷ xs) x a b many asks = (many.0, many.1 + b, many.2, ask-last xs x many.1 b many.3 asks, omega (arith, many.4))

-- ---- the first scripts are heard, so many

pub record AreFirstHeard (js : List Journal) (heard : List Heard) (n requests : ℕ) (rows : List (List Bool)) : Type 0 where
  pub asked : ℕ → List Exchange
  pub told : (i : ℕ) (x : Heard) → i < n → slice_get heard i ≡ Some x → IsTold (tracks_of js) (i + 1) x (asked (i + 1))
  pub none : (i : ℕ) → n < i → asked i ≡ []
  pub marks : MarksThese (tracks_of js) asked rows
  pub counted : AskTogether (take n heard) requests

pub none_heard : (js : List Journal) (heard : List Heard) (rows : List (List Bool)) → AreRows (tracks_of js) rows → NoneMarked rows → AreFirstHeard js heard 0 0 rows
none_heard js heard rows shape none = record {
  asked = λ i. [];
  told = λ i x below here. absurd (omega (arith, below));
  none = λ i below. refl;
  marks = grind (arith, common_steps);
  counted = refl;
}

pub next_heard : (js : List Journal) (heard : List Heard) (n requests : ℕ) (rows new : List (List Bool)) (x : Heard) (items : List Item) → AreFirstHeard js heard n requests rows
    → slice_get heard n ≡ Some x → IsScript x.script items end → HearsAll js (n + 1) items x.transcript rows new → AreFirstHeard js heard (n + 1) (requests + length items) new
next_heard js heard n requests rows new x items so here reads hears =
    let told : IsTold (tracks_of js) (n + 1) x hears.exchanges = told_all (tracks_of js) (n + 1) items x.transcript hears.exchanges x.script hears.heard reads in
    let asks : Asks x (length items) = record { items = items; ending = end; script = reads; counted = refl } in
    let step : suc n ≡ n + 1 = omega arith in
    let now : ℕ → List Exchange = changed so.asked (n + 1) hears.exchanges in
    let front : take n heard ++ x ∷ [] ≡ take (n + 1) heard = sym (take_next heard n x here) ∙ ap (λ (k : ℕ). take k heard) step in
    record {
      asked = now;
      told = λ i y below there. elim (lt-or-le i n) [
        | inl low ↦ subst (IsTold (tracks_of js) (i + 1) y) (sym (changed-else so.asked (n + 1) hears.exchanges (i + 1) (λ same. absurd (omega (arith, same, low))))) (so.told i y low there)
        | inr past ↦
            let same : n ≡ i = omega (arith, past, below) in
            let one : x ≡ y = same_at heard n x y here (subst (λ (k : ℕ). slice_get heard k ≡ Some y) (sym same) there) in
            subst (λ (k : ℕ). IsTold (tracks_of js) (k + 1) y (now (k + 1))) same
            (subst (IsTold (tracks_of js) (n + 1) y) (sym (changed-there so.asked (n + 1) hears.exchanges)) (subst (λ (z : Heard). IsTold (tracks_of js) (n + 1) z hears.exchanges) one told))
      ];
      none = λ i below. changed-else so.asked (n + 1) hears.exchanges i (λ same. absurd (omega (arith, same, below))) ∙ so.none i (omega (arith, below));
      marks = marks-next (tracks_of js) so.asked (n + 1) hears.exchanges rows new so.marks (so.none (n + 1) (omega arith)) hears.marked;
      counted = subst (λ (l : List Heard). AskTogether l (requests + length items)) front (ask-last (take n heard) x requests (length items) so.counted asks);
    }

-- ---- the next is refused

pub refused_next : OneReading → (js : List Journal) (heard : List Heard) (n requests : ℕ) (rows : List (List Bool)) (x : Heard) (items : List Item) (request : ℕ) → AreFirstHeard js heard n requests rows
    → slice_get heard n ≡ Some x → IsScript x.script items end → RefusesAt js (n + 1) items x.transcript request → IsRefusedBy js heard (n + 1) request
refused_next law js heard n requests rows x items request so here reads refuses = record {
  some = omega arith;
  before = λ i y below there. (so.asked (i + 1), so.told i y (omega (arith, below)) there);
  refused_of = x;
  here = (let back : n ≡ n + 1 - 1 = omega arith in subst (λ (k : ℕ). slice_get heard k ≡ Some x) back here);
  refused = refuses x.script reads (λ others also. (one_script law x.script others items end end also reads).0);
}

-- ---- all are heard

module _ (js : List Journal) (sound : AreSound js) where
  others : AreOthers (tracks_of js)
  others = tracks_other js sound.different

  -- an entry that was added is the script's
  added-author : (i : ℕ) (xs : List Exchange) (a : ℕ) (t : Track) (place : ℕ) (p : Placed) → slice_get (tracks_of js) a ≡ Some t → slice_get t.history place ≡ Some p
      → IsAddedIn (tracks_of js) i xs t place → p.author ≡ author.Script i
  added-author i xs a t place p here there by = grind (arith, common_steps, js, history_at, others, added_step, slice_get, same_at)

  script-same : (i k : ℕ) → author.Script i ≡ author.Script k → i ≡ k
  script-same i k same = cc

  -- what was marked was asked for, and what wasn't wasn't
  marked-asked : (asked : ℕ → List Exchange) (rows : List (List Bool)) → MarksThese (tracks_of js) asked rows → (a : ℕ) (t : Track) (place script : ℕ) (p : Placed)
      → slice_get (tracks_of js) a ≡ Some t → slice_get t.history place ≡ Some p → p.author ≡ author.Script script → mark_at rows a place ≡ true → IsAddedIn (tracks_of js) script (asked script) t place
  marked-asked asked rows these a t place script p here there its now =
      let by = these.only a place t here now in
      let same : by.0 ≡ script = script-same by.0 script (sym (added-author by.0 (asked by.0) a t place p here there by.1) ∙ its) in
      subst (λ (k : ℕ). IsAddedIn (tracks_of js) k (asked k) t place) same by.1

  pub open_unasked : (heard : List Heard) (n requests : ℕ) (rows : List (List Bool)) (l : ℕ) → length heard ≤ n → AreFirstHeard js heard n requests rows → IsFirstOpen (tracks_of js) rows l
      → IsUnaskedAt (tracks_of js) heard l
  open_unasked heard n requests rows l all so first =
      let o = first.open_ in
      record {
        asked = so.asked;
        told = λ i x here. so.told i x (omega (arith, all, slice_get_within heard i x here)) here;
        at = first.at;
        place = first.place;
        line = first.line;
        unasked = record {
          made = record { track = o.track; entry = o.open_.entry; script = o.open_.script; here = o.here; there = o.open_.there; its = o.open_.its };
          alone = λ by. let both : true ≡ false = sym (so.marks.added o.open_.script first.at first.place o.track o.here by) ∙ o.open_.unmarked in absurd (cc);
        };
        first = λ m k below u. elim (cases_Bool (mark_at rows m k)) [
          | inl marked ↦ u.alone (marked-asked so.asked rows so.marks m u.track k u.script u.entry u.here u.there u.its marked)
          | inr past ↦ first.first m k below (record { track = u.track; here = u.here; open_ = record { entry = u.entry; script = u.script; there = u.there; its = u.its; unmarked = past } })
        ];
      }

  machine-in : (ts : List Track) (m : List ℕ) (k : ℕ) → k < length (machines_of ts) → slice_index_or (machines_of ts) k m ≡ m → (a : ℕ) × ((t : Track) × (slice_get ts a ≡ Some t) × (t.machine ≡ m))
  machine-in [] m k below is = absurd (omega (arith, below))
  machine-in (t ∷ ts) m zero below is = (0, (t, refl, is))
  machine-in (t ∷ ts) m (suc k) below is = let more = machine-in ts m k (omega (arith, below)) is in (suc more.0, more.1)

  all-asked : (asked : ℕ → List Exchange) (rows : List (List Bool)) → MarksThese (tracks_of js) asked rows → NoneOpen (tracks_of js) rows → (i : ℕ) → AreAsked (tracks_of js) i (asked i)
  all-asked asked rows these none i m place e has there =
      let found = machine-in (tracks_of js) m has.0 has.1 has.2 in
      let a : ℕ = found.0 in
      let t : Track = found.1.0 in
      let here : slice_get (tracks_of js) a ≡ Some t = found.1.1 in
      let name : t.machine ≡ m = found.1.2 in
      let p : Placed = record { author = author.Script i; entry = e } in
      let history : history_in (tracks_of js) m ≡ t.history = ap (history_in (tracks_of js)) (sym name) ∙ history_at (tracks_of js) a t others here in
      let stands : slice_get t.history place ≡ Some p = subst (λ (h : List Placed). slice_get h place ≡ Some p) history there in
      elim (cases_Bool (mark_at rows a place)) [
        | inl marked ↦
            subst (λ (n : List ℕ). IsAdded (author.Script i) n (history_in (tracks_of js) n) (kept_count (tracks_of js) n) (asked i) place) name
            (marked-asked asked rows these a t place i p here stands refl marked)
        | inr past ↦ absurd (none a place (record { track = t; here = here; open_ = record { entry = p; script = i; there = stands; its = refl; unmarked = past } }))
      ]

  pub none_shown : (heard : List Heard) (n requests : ℕ) (rows : List (List Bool)) (machines steps : ℕ) → length heard ≤ n → AreFirstHeard js heard n requests rows → NoneOpen (tracks_of js) rows
      → machines ≡ length (tracks_of js) → steps ≡ sum_by (λ (t : Track). length t.history) (tracks_of js) → IsShownBy js heard machines steps requests
  none_shown heard n requests rows machines steps all so none many sum = record {
    told = λ i x here. record {
      exchanges = so.asked (i + 1);
      told = so.told i x (omega (arith, all, slice_get_within heard i x here)) here;
      asked = all-asked so.asked rows so.marks none (i + 1);
    };
    machines_are = many;
    steps_are = sum;
    asked = subst (λ (l : List Heard). AskTogether l requests) (take_all n heard all) so.counted;
  }
