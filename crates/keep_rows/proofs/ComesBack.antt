-- What was kept comes back.
use Rattle.std.specs.FinSet as set
use Rattle.history_model.specs.{SeriesOrder.series_cmp, declared.entries.Entry.Entry, declared.entries.Placed.Placed, Allowed.{AllowedAfter, Legal}}
use Rattle.std.proofs.Common.{◌≡◌, ◌⊎◌, ℕ, ◌+◌, ◌<◌, ◌≤◌, inl, inr, Bool, true, false, cond, List, [], ◌∷◌, ◌++◌, length, map, Some, None, refl, sym, ap, ap₂, subst, ◌∙◌, arith, append_assoc, append-nil, length-append}
use Rattle.std.{specs.Prelude.{find, bytes_eq, filter}, specs.List.AllByRecursion, proofs.lemmas.Bool.cases_Bool, proofs.lemmas.List.map-append}
use Rattle.std.specs.Cmp.Lexicographic.{nat_list_eq_equiv}
use Rattle.metric_table.specs.{Limits.most, declared.limits.Limit.TheVariants.Machines}
use Rattle.line_text.specs.Names.{IsName}
use Rattle.history_model.specs.declared.entries.Author.TheVariants as author
use Rattle.history_model.specs.Entries.{entries_of}
use Rattle.store_rows.specs.{Loading.LeadsTo, Rows.{machine_row, entry_row}}
use Rattle.track_entry.specs.Texts.{IsEntry, entry_text}
use Rattle.track_model.specs.Tracks.{Track, with_entry}
use Rattle.keep_rows.specs.Machines.{is_track, changed, IsOther, AreDifferent, names_of}
use Rattle.keep_rows.specs.{Growth.{AreOfSession, GoOn, GoesOn, IsNewTrack, MayBeKept}, Kept.{is_kept, kept, kept_of, AreKept, kept_entries}}
use Rattle.keep_rows.specs.{Laws.{KeptComesBack, LoadedAreKept}, Loading.{Stored, nothing_stored, stored_track, AddsRow, Makes}}
use Rattle.keep_rows.{specs.Rows.{is_new, row_of, track_rows, session_rows, placed, new_rows, version_after}, proofs.Machines.{machine_more, entry_more}}

-- ---- rows one after another
leads_join : {S : Type 0} (does : S → List ℕ → S → Type 0) (a b c : S) (xs ys : List (List ℕ)) → LeadsTo does a xs b → LeadsTo does b ys c → LeadsTo does a (xs ++ ys) c
leads_join {S = S} does a b c [] ys one two = subst (λ (s : S). LeadsTo does s ys c) one two
leads_join does a b c (x ∷ xs) ys one two = (one.0, one.1, leads_join does one.0 b c xs ys one.2 two)

row_keeps : (version : ℕ) (before : List Track) (bytes : List ℕ) (after : List Track) → AddsRow version before bytes after → AreKept before → AreKept after
row_keeps version before bytes after (machine_row machine, is, adds) are = subst AreKept (sym adds.last) (machine_more machine before adds.fresh adds.room are)
row_keeps version before bytes after (entry_row machine text, is, adds) are = subst AreKept (sym adds.behind) (entry_more machine adds.entry adds.is_kept before are)

made_keeps : (before : Stored) (bytes : List ℕ) (after : Stored) → Makes before bytes after → AreKept before.machines → AreKept after.machines
made_keeps before bytes after (inl format) are = subst (λ (s : Stored). AreKept s.machines) (sym format.2) are
made_keeps before bytes after (inr adds) are = row_keeps before.version before.machines bytes after.machines adds.0 are

rows_keep : (before : Stored) (rows : List (List ℕ)) (after : Stored) → LeadsTo Makes before rows after → AreKept before.machines → AreKept after.machines
rows_keep before [] after led are = subst (λ (s : Stored). AreKept s.machines) (sym led) are
rows_keep before (row ∷ rows) after led are = rows_keep led.0 rows after led.2 (made_keeps before row led.0 led.1 are)

none_kept : AreKept []
none_kept = record { kept = tt; different = tt; few = omega arith }

-- ---- the one machine between others
find_between : (machine : List ℕ) (front back : List Track) (t : Track) → find (is_track machine) front ≡ None → is_track machine t ≡ true
    → find (is_track machine) (front ++ t ∷ back) ≡ Some t
find_between machine [] back t none is = rw is refl
find_between machine (x ∷ front) back t none is = by (is_track machine x) (λ miss. find_between machine front back t miss is) none
  where
    by : (b : Bool) → (find (is_track machine) front ≡ None → find (is_track machine) (front ++ t ∷ back) ≡ Some t) → cond b (Some x) (find (is_track machine) front) ≡ None
        → cond b (Some x) (find (is_track machine) (front ++ t ∷ back)) ≡ Some t
    by true rest miss = absurd cc
    by false rest miss = rest miss

change_between : (machine : List ℕ) (f : Track → Track) (front back : List Track) (t : Track) → find (is_track machine) front ≡ None → is_track machine t ≡ true
    → changed machine f (front ++ t ∷ back) ≡ front ++ f t ∷ back
change_between machine f [] back t none is = rw is refl
change_between machine f (x ∷ front) back t none is = by (is_track machine x) (λ miss. change_between machine f front back t miss is) none
  where
    by : (b : Bool) → (find (is_track machine) front ≡ None → changed machine f (front ++ t ∷ back) ≡ front ++ f t ∷ back) → cond b (Some x) (find (is_track machine) front) ≡ None
        → cond b (f x ∷ (front ++ t ∷ back)) (x ∷ changed machine f (front ++ t ∷ back)) ≡ x ∷ (front ++ f t ∷ back)
    by true rest miss = absurd cc
    by false rest miss = ap (λ ts. x ∷ ts) (rest miss)

-- a track with entries of the store more
abbrev with_kept : Track → List Entry → Track
with_kept t es = record { machine = t.machine; kept = t.kept; history = t.history ++ map kept es; home = t.home }

same_name : (name : List ℕ) → bytes_eq name name ≡ true
same_name name = nat_list_eq_equiv.refl name

module _ (machine : List ℕ) (name : IsName machine) (front back : List Track) (none : find (is_track machine) front ≡ None) where
  entries_lead : (t : Track) (ps : List Placed) → t.machine ≡ machine → AllByRecursion IsEntry (entries_of ps) → AllByRecursion (λ (e : Entry). is_kept e ≡ true) (entries_of ps)
      → AllowedAfter (entries_of t.history) (entries_of ps)
      → LeadsTo (AddsRow 2) (front ++ t ∷ back) (map (row_of machine) ps) (front ++ with_kept t (entries_of ps) ∷ back)
  entries_lead t [] is spelled are allowed = ap (λ (h : List Placed). front ++ (the_track t h) ∷ back) (append-nil t.history)
    where
      the_track : Track → List Placed → Track
      the_track t h = record { machine = t.machine; kept = t.kept; history = h; home = t.home }
  entries_lead t (p ∷ ps) is spelled are allowed =
      let here : is_track machine t ≡ true = rw is (same_name machine) in
      let next : Track = with_entry author.Kept t p.entry in
      let more : entries_of (t.history ++ kept p.entry ∷ []) ≡ entries_of t.history ++ p.entry ∷ [] = map-append (λ (q : Placed). q.entry) t.history (kept p.entry ∷ []) in
      let rest : LeadsTo (AddsRow 2) (front ++ next ∷ back) (map (row_of machine) ps) (front ++ with_kept next (entries_of ps) ∷ back) =
      entries_lead next ps is spelled.1 are.1 (rw more allowed.1) in (
        front ++ next ∷ back,
        (
          entry_row machine (entry_text p.entry),
          record { text = refl; named = name },
          record {
            track = t;
            entry = p.entry;
            found = find_between machine front back t none here;
            spelled = (spelled.0, refl);
            is_kept = are.0;
            allowed = allowed.0;
            behind = sym (change_between machine (λ u. with_entry author.Kept u p.entry) front back t none here);
          },
        ),
        rw (← append_assoc t.history (kept p.entry ∷ []) (map kept (entries_of ps))) rest,
      )

-- ---- the new entries of a history
new_are_kept : (h : List Placed) → AreOfSession h → entries_of (filter is_new h) ≡ filter is_kept (entries_of h)
new_are_kept [] made = refl
new_are_kept (p ∷ h) made = elim (cases_Bool (is_kept p.entry)) [
  | inl hit ↦ rw (made.0, hit) (ap (λ es. p.entry ∷ es) (new_are_kept h made.1))
  | inr past ↦ rw (made.0, past) (new_are_kept h made.1)
]

kept_are_kept : (es : List Entry) → AllByRecursion (λ (e : Entry). is_kept e ≡ true) (filter is_kept es)
kept_are_kept [] = tt
kept_are_kept (e ∷ es) = elim (cases_Bool (is_kept e)) [
  | inl hit ↦ rw hit (hit, kept_are_kept es)
  | inr past ↦ rw past (kept_are_kept es)
]

none_new : (es : List Entry) → filter is_new (map kept es) ≡ []
none_new [] = refl
none_new (e ∷ es) = none_new es

pub filter_join : {A : Type 0} (p : A → Bool) (xs ys : List A) → filter p (xs ++ ys) ≡ filter p xs ++ filter p ys
filter_join p [] ys = refl
filter_join p (x ∷ xs) ys = elim (cases_Bool (p x)) [
  | inl hit ↦ rw hit (ap (λ zs. x ∷ zs) (filter_join p xs ys))
  | inr past ↦ rw past (filter_join p xs ys)
]

allowed_behind : (h es more : List Entry) → AllowedAfter h (es ++ more) → AllowedAfter (h ++ es) more
allowed_behind h [] more allowed = rw (append-nil h) allowed
allowed_behind h (e ∷ es) more allowed = rw (← append_assoc h (e ∷ []) es) (allowed_behind (h ++ e ∷ []) es more allowed.1)

all_behind : {A : Type 0} (P : A → Type 0) (xs ys : List A) → AllByRecursion P (xs ++ ys) → AllByRecursion P ys
all_behind P [] ys all = all
all_behind P (x ∷ xs) ys all = all_behind P xs ys all.1

module _ (s u : Track) (added : List Placed) (stored : s ≡ kept_of s) (history : u.history ≡ s.history ++ added) (made : AreOfSession added) where
  fresh : filter is_new u.history ≡ filter is_new added
  fresh =
      ap (filter is_new) history ∙ filter_join is_new s.history added
      ∙ ap (λ ps. ps ++ filter is_new added) (ap (λ (t : Track). filter is_new t.history) stored ∙ none_new (filter is_kept (entries_of s.history)))

  entries_are : entries_of (map kept (filter is_kept (entries_of s.history))) ≡ filter is_kept (entries_of s.history)
  entries_are = same (filter is_kept (entries_of s.history))
    where
      same : (es : List Entry) → entries_of (map kept es) ≡ es
      same [] = refl
      same (e ∷ es) = ap (λ rest. e ∷ rest) (same es)

  before_are : filter is_kept (entries_of s.history) ≡ entries_of s.history
  before_are = sym entries_are ∙ sym (ap (λ (t : Track). entries_of t.history) stored)

  all_are : kept_entries (entries_of u.history) ≡ entries_of s.history ++ entries_of (filter is_new added)
  all_are =
      ap (λ h. filter is_kept (entries_of h)) history
      ∙ ap (filter is_kept) (map-append (λ (p : Placed). p.entry) s.history added)
      ∙ filter_join is_kept (entries_of s.history) (entries_of added)
      ∙ ap₂ (λ a b. a ++ b) before_are (sym (new_are_kept added made))

  -- its new rows make of the machine before what a store keeps of it
  track_leads : (front back : List Track) → u.machine ≡ s.machine → MayBeKept u → find (is_track u.machine) front ≡ None
      → LeadsTo (AddsRow 2) (front ++ s ∷ back) (map (row_of u.machine) (filter is_new u.history)) (front ++ kept_of u ∷ back)
  track_leads front back same may none =
      let es : List Entry = entries_of (filter is_new added) in
      let spelled : AllByRecursion IsEntry es = all_behind IsEntry (entries_of s.history) es (subst (AllByRecursion IsEntry) all_are may.spelled) in
      let plain : AllByRecursion (λ (e : Entry). is_kept e ≡ true) es =
      subst (AllByRecursion (λ (e : Entry). is_kept e ≡ true)) (sym (new_are_kept added made)) (kept_are_kept (entries_of added)) in
      let allowed : AllowedAfter (entries_of s.history) es = allowed_behind [] (entries_of s.history) es (subst Legal all_are may.legal) in
      let is : with_kept s es ≡ kept_of u = after es in
      rw fresh (subst (λ (t : Track). LeadsTo (AddsRow 2) (front ++ s ∷ back) (map (row_of u.machine) (filter is_new added)) (front ++ t ∷ back)) is
      (entries_lead u.machine may.named front back none s (filter is_new added) (sym same) spelled plain allowed))
    where
      the_track : List ℕ → Bool → List Placed → set.FinSet series_cmp → Track
      the_track m b h hs = record { machine = m; kept = b; history = h; home = hs }

      after : (es : List Entry) → with_kept s (entries_of (filter is_new added)) ≡ kept_of u
      after es =
          ap₂ (λ (b : Bool) (h : List Placed). the_track s.machine b h s.home) (ap (λ (t : Track). t.kept) stored)
          (ap (λ h. h ++ map kept (entries_of (filter is_new added))) (ap (λ (t : Track). t.history) stored ∙ ap (map kept) before_are)
          ∙ sym (map-append kept (entries_of s.history) (entries_of (filter is_new added))) ∙ ap (map kept) (sym all_are))
          ∙ ap₂ (λ (m : List ℕ) (hs : set.FinSet series_cmp). the_track m true (kept_of u).history hs) (sym same) (ap (λ (t : Track). t.home) stored)

-- ---- one machine after another
miss : (one other : List ℕ) → IsOther one other → bytes_eq one other ≡ false
miss one other is = nat_list_eq_equiv.symm one other ∙ is

none_before : (machine : List ℕ) (front : List Track) (names : List (List ℕ)) → AreDifferent (names_of front ++ machine ∷ names) → find (is_track machine) front ≡ None
none_before machine [] names different = refl
none_before machine (t ∷ front) names different =
    let other : IsOther t.machine machine = (all_behind (IsOther t.machine) (names_of front) (machine ∷ names) different.0).0 in
    rw (miss t.machine machine other) (none_before machine front names different.1)

-- a front with a machine more
names_more : (front : List Track) (t : Track) (names : List (List ℕ)) → names_of (front ++ t ∷ []) ++ names ≡ names_of front ++ t.machine ∷ names
names_more [] t names = refl
names_more (x ∷ front) t names = ap (λ ns. x.machine ∷ ns) (names_more front t names)

module _ (front : List Track) where
  -- a machine that the store had not
  new_leads : (u : Track) → IsNewTrack u → MayBeKept u → find (is_track u.machine) front ≡ None → length front < most Machines
      → LeadsTo (AddsRow 2) front (track_rows u) (front ++ kept_of u ∷ [])
  new_leads u is may none room =
      let s : Track = stored_track u.machine in
      let entries : LeadsTo (AddsRow 2) (front ++ s ∷ []) (map (row_of u.machine) (filter is_new u.history)) (front ++ kept_of u ∷ []) =
      track_leads s u u.history refl refl is.1 front [] refl may none in
      rw is.0 (
        front ++ s ∷ [],
        (machine_row u.machine, record { text = refl; named = may.named }, record { fresh = none; room = room; last = refl }),
        entries,
      )

  -- one that it had
  old_leads : (s u : Track) (back : List Track) → s ≡ kept_of s → GoesOn s u → MayBeKept u → find (is_track u.machine) front ≡ None
      → LeadsTo (AddsRow 2) (front ++ s ∷ back) (track_rows u) (front ++ kept_of u ∷ back)
  old_leads s u back stored on may none = rw on.kept (track_leads s u on.added stored on.history on.made front back on.machine may none)

tracks_lead : (front old new : List Track) → GoOn old new → AllByRecursion (λ (t : Track). t ≡ kept_of t) old → AllByRecursion MayBeKept new
    → AreDifferent (names_of front ++ names_of new) → length front + length new ≤ most Machines → LeadsTo (AddsRow 2) (front ++ old) (session_rows new) (front ++ map kept_of new)
tracks_lead front [] [] on are may different few = refl
tracks_lead front [] (u ∷ new) on are may different few =
    let none : find (is_track u.machine) front ≡ None = none_before u.machine front (names_of new) different in
    let next : List Track = front ++ kept_of u ∷ [] in
    let rest : LeadsTo (AddsRow 2) (next ++ []) (session_rows new) (next ++ map kept_of new) =
    tracks_lead next [] new on.1 tt may.1 (rw (names_more front (kept_of u) (names_of new)) different) (omega (arith, few, length-append front (kept_of u ∷ []))) in
    rw (append-nil front) (leads_join (AddsRow 2) front next (front ++ kept_of u ∷ map kept_of new) (track_rows u) (session_rows new)
    (new_leads front u on.0 may.0 none (omega (arith, few)))
    (subst (λ (b : List Track). LeadsTo (AddsRow 2) b (session_rows new) (front ++ kept_of u ∷ map kept_of new)) (append-nil next)
    (subst (λ (a : List Track). LeadsTo (AddsRow 2) (next ++ []) (session_rows new) a) (append_assoc front (kept_of u ∷ []) (map kept_of new)) rest)))
tracks_lead front (t ∷ old) [] on are may different few = absurd on
tracks_lead front (t ∷ old) (u ∷ new) on are may different few =
    let none : find (is_track u.machine) front ≡ None = none_before u.machine front (names_of new) different in
    let next : List Track = front ++ kept_of u ∷ [] in
    let rest : LeadsTo (AddsRow 2) (next ++ old) (session_rows new) (next ++ map kept_of new) =
    tracks_lead next old new on.1 are.1 may.1 (rw (names_more front (kept_of u) (names_of new)) different) (omega (arith, few, length-append front (kept_of u ∷ []))) in
    leads_join (AddsRow 2) (front ++ t ∷ old) (front ++ kept_of u ∷ old) (front ++ kept_of u ∷ map kept_of new) (track_rows u) (session_rows new)
    (old_leads front t u old are.0 on.0 may.0 none)
    (subst (λ (b : List Track). LeadsTo (AddsRow 2) b (session_rows new) (front ++ kept_of u ∷ map kept_of new)) (append_assoc front (kept_of u ∷ []) old)
    (subst (λ (a : List Track). LeadsTo (AddsRow 2) (next ++ old) (session_rows new) a) (append_assoc front (kept_of u ∷ []) (map kept_of new)) rest))

-- ---- from one version to the other
-- rows of version 2 behind the row that says so
behind : (a : List Track) (rows : List (List ℕ)) (b : List Track) → LeadsTo (AddsRow 2) a rows b
    → LeadsTo Makes (record { machines = a; version = 2 }) rows (record { machines = b; version = 2 })
behind a [] b led = ap in_two led
  where
    in_two : List Track → Stored
    in_two tracks = record { machines = tracks; version = 2 }
behind a (row ∷ rows) b led = (record { machines = led.0; version = 2 }, inr (led.1, refl), behind led.0 rows b led.2)

IsVersion : ℕ → Type 0
IsVersion version = (version ≡ 1) ⊎ (version ≡ 2)

made_version : (before : Stored) (bytes : List ℕ) (after : Stored) → Makes before bytes after → IsVersion before.version → IsVersion after.version
unfolding IsVersion
made_version before bytes after (inl format) is = inr (ap (λ (s : Stored). s.version) format.2)
made_version before bytes after (inr adds) is = subst IsVersion (sym adds.1) is

led_version : (before : Stored) (rows : List (List ℕ)) (after : Stored) → LeadsTo Makes before rows after → IsVersion before.version → IsVersion after.version
led_version before [] after led is = subst (λ (s : Stored). IsVersion s.version) (sym led) is
led_version before (row ∷ rows) after led is = led_version led.0 rows after led.2 (made_version before row led.0 led.1 is)

session_leads : (old : List Track) (version : ℕ) (rows : List (List ℕ)) (new : List Track) → IsVersion version → LeadsTo (AddsRow 2) old rows new
    → LeadsTo Makes (record { machines = old; version = version }) (placed version rows) (record { machines = new; version = version_after version rows })
unfolding IsVersion
session_leads old version [] new is led = ap at_version led
  where
    at_version : List Track → Stored
    at_version tracks = record { machines = tracks; version = version }
session_leads old version (row ∷ rows) new (inl one) led =
    subst (λ (v : ℕ). LeadsTo Makes (record { machines = old; version = v }) (placed v (row ∷ rows)) (record { machines = new; version = 2 })) (sym one)
    (record { machines = old; version = 2 }, inl (refl, refl, refl), behind old (row ∷ rows) new led)
session_leads old version (row ∷ rows) new (inr two) led =
    subst (λ (v : ℕ). LeadsTo Makes (record { machines = old; version = v }) (placed v (row ∷ rows)) (record { machines = new; version = 2 })) (sym two)
    (behind old (row ∷ rows) new led)

pub comes_back : KeptComesBack
unfolding IsVersion
comes_back rows old new led went =
    let are : AreKept old.machines = rows_keep nothing_stored rows old led none_kept in
    let session : LeadsTo (AddsRow 2) old.machines (session_rows new) (map kept_of new) =
    tracks_lead [] old.machines new went.go_on are.kept went.may went.different (omega (arith, went.few)) in
    leads_join Makes nothing_stored old (record { machines = map kept_of new; version = version_after old.version (session_rows new) }) rows (new_rows old.version new) led
    (session_leads old.machines old.version (session_rows new) (map kept_of new) (led_version nothing_stored rows old led (inl refl)) session)

pub loaded_kept : LoadedAreKept
loaded_kept rows stored led = rows_keep nothing_stored rows stored led none_kept
