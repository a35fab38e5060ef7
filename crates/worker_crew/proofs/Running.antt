-- Private: no public contract cites this. A whole shared run fits.
use Rattle.std.proofs.Common.{◌≡◌, ◌≢◌, ◌<◌, ◌≤◌, ◌+◌, ℕ, zero, suc, inl, inr, true, List, [], ◌∷◌, ◌++◌, length, map, refl, sym, ap, subst, ◌∙◌, Some, arith}
use Rattle.std.specs.{Prelude.{◌⊎◌, All, Contains, bytes_eq, option_map, slice_get, take}, List.{AllByRecursion, AllZip}}
use Rattle.std.proofs.lemmas.{Bool.cases_lt, List.map-append, List.Elements.{All-append, All-nil, All-weaker}, Grind.common_steps}
use Rattle.track_outside.specs.Asked.{Ask}
use Rattle.history_lock.specs.{Marks.{entries, unmarked}, declared.view.Marked.Marked}
use Rattle.history_model.specs.declared.entries.Author.TheVariants as author
use Rattle.history_model.specs.{declared.entries.Entry.Entry, declared.entries.Placed.Placed, Allowed.Legal, Entries.entries_of}
use Rattle.worker_model.specs.Findings.{AsksCommit}
use Rattle.track_model.specs.Tracks.{Track}
use Rattle.play_crew.specs.{Asked.names_of, Rooms.IsPassOf, Sights.{Home, Sight}, Gathered.{OwnsMade, joined_of}, Seats.{AreDifferent, Seat, mark_in, seen_in}}
use Rattle.bisect_workers.specs.Beside as beside
use Rattle.bisect_workers.specs.{Beside.{findings_by, found_at}, Bisecting.RoseBy}
use Rattle.play_fits.specs.{Ends.{AreEndsOf, HasPlayed, IsLate}, Fits.{Fits, Play, Played, crew_of}, Journals.{history_in, machines_of}}
use Rattle.play_fits.{specs.Whole.{AreAll, AreByCrew, GoesOn, Joined, journals_of, longer}, proofs.Whole.all-by-crew, proofs.Lists.all-append}
use Rattle.play_fits.{specs.Workers.{Asked, Crew, IsBisector, IsDue, IsOneOf, MayAdd, Use, findings, found_for, is_bisector}, proofs.Ends.ends-fit}
use Rattle.play_crew.specs.Shared.{EndsShared, HasSeenKept, onto}
use Rattle.play_crew.proofs.Fitting.{Apart, IsNoBisector, PlayedAt, all-onto, all-owned, apart-named, author-at, has-played, in-onto, no-bisector-of, own-histories, own-seen, played-at, same-some, whole-of, all-map}
use Rattle.play_crew.proofs.{Gathered.{all-at, at-contains, contains-at, gathered-all, kept-in, mapped-at, mapped-from}, Shared.sharing-ends}
use Rattle.worker_crew.specs.Runs.{BisectsEach, IsAtRoom, IsBisectedAt, IsNew, RunsPlayers, Tally, afters_of, befores_of}
use Rattle.worker_crew.proofs.{Finding.{agree, behind-none, findings-agree, findings-log}, Owning.{bisectors-own, recomputers-own}}
use Rattle.worker_crew.proofs.Late.{Adds, Behind, IsDueAt, TiedLate, adds-trans, behind-named, bisects-late, findings-others, findings-published, names-stay, recomputes-late, tied-late, told-none}
use Rattle.worker_crew.proofs.Naming.{BisectedIn, asks-named, bisected-in, due-named, eq-bytes, found-named, given, given-named, named_use}
use Rattle.worker_crew.proofs.Places.{FirstAt, IsSame, RunnerAt, WorkerAt, all-back, all-front, at-back, at-front, bisect-author, first-at, idle-at, idle-last, left-histories, left-names, left-same, names-distinct, recompute-author, runner-at, same-adds, seats-apart, worker-at}
use Rattle.worker_crew.proofs.Tied.{Distinct, Tied, tied-bisector}

some-same : {A : Type 0} (a b : A) → Some a ≡ Some b → a ≡ b
some-same a b is = cc

-- ---- each machine ends so
ends-all : (log : List ℕ → List (Marked Placed)) (kept more : List ℕ → List Placed) (tracks journals : List Track) → AllZip IsSame tracks journals → AllByRecursion (λ (t : Track). Legal (entries_of t.history)) journals
    → AllByRecursion (λ (t : Track). kept t.machine ≡ t.history) tracks → AllByRecursion (λ (t : Track). longer (journals_of log) more t.machine ≡ t.history) journals → AreEndsOf log kept more tracks journals
ends-all log kept more [] [] same legal is_kept is_more = tt
ends-all log kept more [] (j ∷ journals) same legal is_kept is_more = absurd same
ends-all log kept more (t ∷ tracks) [] same legal is_kept is_more = absurd same
ends-all log kept more (t ∷ tracks) (j ∷ journals) same legal is_kept is_more = (
  record {
    machine = same.0.0;
    same = same.0.1;
    legal = legal.0;
    begins = is_kept.0;
    ends = sym is_more.0 ∙ ap (λ (m : List ℕ). longer (journals_of log) more m) same.0.0;
  },
  ends-all log kept more tracks journals same.1 legal.1 is_kept.1 is_more.1,
)

-- ---- what the worker of a runner found
-- the runner's asks meanwhile, and what is found in the journals as the room leaves them
pub record TiedLeft (n : ℕ) (word : List ℕ) (machines : List (List ℕ)) (left journal : List ℕ → List Placed) (t u : Tally) : Type 0 where
  pub uses : List Use
  pub told : u.asks ≡ option_map (λ (before : List Ask). before ++ map (λ (x : Use). x.ask) uses) t.asks
  pub found : (m : List ℕ) → Contains machines m → findings n (left m) ≡ found_for m uses
  pub due : All (IsDue word machines journal) (map (λ (x : Use). x.ask) uses)
  pub rose : RoseBy (given uses) t.faults u.faults

module _ (crew : Crew) (tracks : List Track) (room : List Home) (different : AreDifferent room) (log : List ℕ → List (Marked Placed)) (parts : List Joined) (all : AreAll crew (history_in tracks) log parts)
    (word : List ℕ) (machines : List (List ℕ)) (names : machines ≡ names_of room) (journal more : List ℕ → List Placed) (on : (m : List ℕ) → journal m ≡ entries (log m) ++ more m)
    (n : ℕ) (b : List Sight) (a : Seat) (t u : Tally) (w : IsBisectedAt word n b a t u) (of : IsPassOf room a.pass) (saw : HasSeenKept tracks b) (one : Contains parts (joined_of a)) where
  apart : AreDifferent (map (λ (s : Sight). s.home) a.pass)
  apart = subst AreDifferent (sym of) different

  abbrev named : List Use
  named = map (named_use a.pass) w.bisected.uses

  goes : GoesOn crew log (joined_of a)
  goes = all.each (joined_of a) one

  found-at-place : (m : List ℕ) (k : ℕ) (s : Sight) → slice_get a.pass k ≡ Some s → bytes_eq s.home.machine m ≡ true → findings n (entries (log m)) ≡ found_for m named
  found-at-place m k s is yes_is =
      let r : BisectedIn (author.Bisect n) w.bisected.uses 0 b a.pass m = bisected-in (author.Bisect n) w.bisected.uses 0 b a.pass w.bisected.each m k s is yes_is in
      let mark : mark_in a.pass m ≡ r.old.mark = r.mark ∙ ap (λ (x : Sight). x.mark) r.at.sees in
      let kept : r.old.seen ≡ unmarked (history_in tracks m) = sym r.was ∙ saw m in
      let seen : seen_in a.pass m ≡ unmarked (history_in tracks m) ++ r.at.more = r.now ∙ ap (λ (x : Sight). x.seen) r.at.sees ∙ ap (λ (l : List (Marked Placed)). l ++ r.at.more) kept in
      let whole : log m ≡ (unmarked (history_in tracks m) ++ r.at.more) ++ goes.rest m = goes.seen m ∙ ap (λ (l : List (Marked Placed)). l ++ goes.rest m) seen in
      let place : 0 + r.place ≡ r.place = omega arith in
      findings-agree n (mark_in a.pass m) [] (log m) (agree crew (history_in tracks) log parts all (joined_of a) one n w.author m)
      ∙ ap (λ (l : List (Marked Placed)). findings_by (mark_in a.pass m) [] l) whole
      ∙ findings-log (mark_in a.pass m) (history_in tracks m) r.at.more (goes.rest m) (goes.others m)
      ∙ ap (λ (k : ℕ). findings_by k (entries_of (history_in tracks m)) r.at.more) mark
      ∙ ap (λ (h : List Entry). findings_by r.old.mark h r.at.more) (sym (ap (λ (l : List (Marked Placed)). entries_of (entries l)) kept ∙ unmarked-entries (history_in tracks m)))
      ∙ r.at.found
      ∙ ap (λ (k : ℕ). found_at k w.bisected.uses) place
      ∙ sym (found-named m a.pass apart r.place r.new r.there r.named w.bisected.uses)
    where
      unmarked-entries : (es : List Placed) → entries_of (entries (unmarked es)) ≡ entries_of es
      unmarked-entries [] = refl
      unmarked-entries (e ∷ es) = ap (λ (l : List Entry). e.entry ∷ l) (unmarked-entries es)

  found-left : (m : List ℕ) → Contains machines m → findings n (entries (log m)) ≡ found_for m named
  found-left m declared =
      let c = contains-at machines m declared in
      let there : slice_get (names_of room) c.0 ≡ Some m = ap (λ (l : List (List ℕ)). slice_get l c.0) (sym names) ∙ c.1 in
      let home = mapped-from (λ (h : Home). h.machine) room c.0 m there in
      let at = mapped-from (λ (s : Sight). s.home) a.pass c.0 home.0 (ap (λ (l : List Home). slice_get l c.0) of ∙ home.1) in
      let yes_is : bytes_eq at.0.home.machine m ≡ true = ap (λ (x : List ℕ). bytes_eq x m) (ap (λ (h : Home). h.machine) at.2 ∙ home.2) ∙ eq-bytes m in
      found-at-place m c.0 at.0 at.1 yes_is

  on-pass : (m : List ℕ) → journal m ≡ entries (seen_in a.pass m) ++ (entries (goes.rest m) ++ more m)
  on-pass m = grind (arith, common_steps)

  pub tied-left : TiedLeft n word machines (λ m. entries (log m)) journal t u
  tied-left = record {
    uses = named;
    told = w.bisected.told ∙ ap (λ (l : List Ask). option_map (λ (before : List Ask). before ++ l) t.asks) (sym (asks-named a.pass w.bisected.uses));
    found = found-left;
    due =
        subst (λ (l : List Ask). All (IsDue word machines journal) l) (sym (asks-named a.pass w.bisected.uses))
        (due-named word room a.pass of machines names journal (own-seen a.pass apart) (λ m. entries (goes.rest m) ++ more m) on-pass (beside.asks_of w.bisected.uses) w.bisected.due);
    rose = let few = given-named a.pass w.bisected.uses in let rose = w.bisected.rose in omega (arith, few, rose);
  }

-- ---- and what main found at last
for-append : (m : List ℕ) (us vs : List Use) → found_for m (us ++ vs) ≡ found_for m us ++ found_for m vs
for-append m us vs = grind (arith, common_steps)

due-at : (word : List ℕ) (journals : List Track) → Apart journals → (ask : Ask) → IsDueAt word journals ask → IsDue word (machines_of journals) (history_in journals) ask
due-at word journals apart ask d =
    let own : history_in journals d.track.machine ≡ d.track.history = all-at (λ (t : Track). history_in journals t.machine ≡ t.history) journals d.place d.track (own-histories journals apart) d.there in
    record {
      of_test = d.due.of_test;
      machine = d.track.machine;
      declared = at-contains (machines_of journals) d.place d.track.machine (mapped-at (λ (t : Track). t.machine) journals d.place d.track d.there);
      count = d.due.count;
      within = let long : length (history_in journals d.track.machine) ≡ length d.track.history = ap length own in let within = d.due.within in omega (arith, long, within);
      asked = subst (λ (l : List Placed). AsksCommit (entries_of (take d.due.count l)) ask.commit) (sym own) d.due.asked;
    }

tied-first : (word : List ℕ) (left published journals : List Track) (t v u : Tally) → Apart journals → ((m : List ℕ) → findings 1 (history_in published m) ≡ findings 1 (history_in left m))
    → TiedLeft 1 word (machines_of journals) (history_in left) (history_in journals) t v → TiedLate word published journals v u → Tied 1 word (machines_of journals) (history_in journals) t u
tied-first word left published journals t v u apart same l late = record {
  uses = l.uses ++ late.uses;
  told = grind (arith, common_steps);
  found = grind (arith, common_steps);
  due =
      subst (λ (y : List Ask). All (IsDue word (machines_of journals) (history_in journals)) y) (sym asks_are)
      (All-append (IsDue word (machines_of journals) (history_in journals)) (map (λ (x : Use). x.ask) l.uses) (map (λ (x : Use). x.ask) late.uses) l.due
      (All-weaker (IsDueAt word journals) (IsDue word (machines_of journals) (history_in journals)) (due-at word journals apart) (map (λ (x : Use). x.ask) late.uses) late.due));
  rose = grind (arith, common_steps);
}
  where
    asks_are : map (λ (x : Use). x.ask) (l.uses ++ late.uses) ≡ map (λ (x : Use). x.ask) l.uses ++ map (λ (x : Use). x.ask) late.uses
    asks_are = map-append (λ (x : Use). x.ask) l.uses late.uses

tied-other : (n : ℕ) (word : List ℕ) (machines : List (List ℕ)) (left journal : List ℕ → List Placed) (t u : Tally) → ((m : List ℕ) → findings n (journal m) ≡ findings n (left m))
    → TiedLeft n word machines left journal t u → Tied n word machines journal t u
tied-other n word machines left journal t u same l = grind (arith, common_steps)

-- ---- a runner without a worker
abbrev tied-idle : (n : ℕ) (word : List ℕ) (machines : List (List ℕ)) (journal : List ℕ → List Placed) (t u : Tally) → u ≡ t → ((m : List ℕ) → AllByRecursion (IsNoBisector n) (journal m)) → Tied n word machines journal t u
tied-idle n word machines journal t u same none = record {
  uses = [];
  told = ap (λ (v : Tally). v.asks) same ∙ sym (told-none t.asks);
  found = λ m declared. behind-none n [] (journal m) (none m);
  due = All-nil (IsDue word machines journal);
  rose = let is = ap (λ (v : Tally). v.faults) same in omega (arith, is);
}

-- ---- the run
module _ (play : Play) (journals : List Track) (r : RunsPlayers play journals) where
  abbrev crew : Crew
  crew = crew_of play

  abbrev at : IsAtRoom play.tracks r.scripts r.recomputers r.bisectors r.left
  at = r.at_room

  abbrev befores : List (List Sight)
  befores = befores_of r.scripts r.recomputers r.bisectors

  abbrev seats : List Seat
  seats = afters_of r.scripts r.recomputers r.bisectors

  e : EndsShared play.tracks at.room befores seats at.last
  e = sharing-ends play.tracks at.room befores seats at.first at.last at.shared

  saw-scripts : AllByRecursion (HasSeenKept play.tracks) r.scripts.befores
  saw-scripts = all-front (HasSeenKept play.tracks) r.scripts.befores (r.recomputers.befores ++ r.bisectors.befores) e.began

  saw-workers : AllByRecursion (HasSeenKept play.tracks) (r.recomputers.befores ++ r.bisectors.befores)
  saw-workers = all-back (HasSeenKept play.tracks) r.scripts.befores (r.recomputers.befores ++ r.bisectors.befores) e.began

  saw-recomputers : AllByRecursion (HasSeenKept play.tracks) r.recomputers.befores
  saw-recomputers = all-front (HasSeenKept play.tracks) r.recomputers.befores r.bisectors.befores saw-workers

  saw-bisectors : AllByRecursion (HasSeenKept play.tracks) r.bisectors.befores
  saw-bisectors = all-back (HasSeenKept play.tracks) r.recomputers.befores r.bisectors.befores saw-workers

  owned : AllByRecursion (OwnsMade crew) seats
  owned =
      all-append (OwnsMade crew) r.scripts.afters (r.recomputers.afters ++ r.bisectors.afters)
      (all-owned crew play.tracks at.room 1 play.scripts r.scripts.befores r.scripts.afters r.played saw-scripts (omega arith) (omega arith))
      (all-append (OwnsMade crew) r.recomputers.afters r.bisectors.afters
      (recomputers-own crew play.tracks 1 r.recomputers.befores r.recomputers.afters r.recomputed saw-recomputers (omega arith) (let many = r.as_many_recompute in omega (arith, many)))
      (bisectors-own crew play.tracks play.word 1 r.bisectors.befores r.bisectors.afters r.began r.worked r.bisected saw-bisectors (omega arith) (let many = r.as_many_bisect in omega (arith, many))))

  abbrev parts : List Joined
  parts = map joined_of (onto seats [])

  abbrev log : List ℕ → List (Marked Placed)
  log = seen_in at.last

  all : AreAll crew (history_in play.tracks) log parts
  all = gathered-all crew play.tracks at.room (onto seats []) at.last (record {
    of_room = at.of_room;
    machines = e.machines;
    seated = all-onto (λ (i : Seat). IsPassOf at.room i.pass) seats [] at.shared.seated tt;
    joining = e.joining;
    whole = whole-of at.last r.left at.ended;
    owned = all-onto (OwnsMade crew) seats [] owned tt;
    apart = seats-apart r.scripts.afters r.recomputers.afters r.bisectors.afters
        (author-at at.room 1 play.scripts r.scripts.befores r.scripts.afters r.played)
        (recompute-author 1 r.recomputers.befores r.recomputers.afters r.recomputed)
        (bisect-author play.word 1 r.bisectors.befores r.bisectors.afters r.began r.worked r.bisected);
    kept = at.kept;
  })

  -- what main adds
  late : AllZip (Adds (IsLate crew)) r.left journals
  late =
      adds-trans (IsLate crew) r.left r.published journals (recomputes-late crew r.left r.published r.recomputes)
      (bisects-late crew play.word r.published journals r.worked r.ended r.bisects)

  behind : (m : List ℕ) → Behind (IsLate crew) r.left journals m
  behind = behind-named (IsLate crew) r.left journals late

  abbrev more : List ℕ → List Placed
  more m = (behind m).more

  histories : (m : List ℕ) → history_in r.left m ≡ entries (log m)
  histories = left-histories at.last r.left at.ended

  whole : (m : List ℕ) → history_in journals m ≡ longer (journals_of log) more m
  whole m = (behind m).history ∙ ap (λ (l : List Placed). l ++ more m) (histories m)

  names-left : machines_of r.left ≡ names_of at.room
  names-left = left-names at.last r.left at.ended ∙ ap (λ (h : List Home). names_of h) at.of_room

  names : machines_of journals ≡ names_of at.room
  names = names-stay (IsLate crew) r.left journals late ∙ names-left

  here : machines_of play.tracks ≡ names_of (map (λ (s : Sight). s.home) at.last)
  here = e.machines ∙ ap (λ (h : List Home). names_of h) (sym at.of_room)

  apart-journals : Apart journals
  apart-journals = apart-named journals at.room names at.different

  ends : AreEndsOf log (history_in play.tracks) more play.tracks journals
  ends =
      ends-all log (history_in play.tracks) more play.tracks journals
      (same-adds (IsLate crew) play.tracks r.left journals (left-same play.tracks at.last r.left e.same here at.ended) late) r.legal
      (own-histories play.tracks (apart-named play.tracks at.room e.machines at.different))
      (all-map (λ (t : Track). history_in journals t.machine ≡ t.history) (λ (t : Track). longer (journals_of log) more t.machine ≡ t.history) journals
      (λ t own. sym (whole t.machine) ∙ own) (own-histories journals apart-journals))

  -- the scripts
  script-at : (i : ℕ) (s : Played) → slice_get play.scripts i ≡ Some s → HasPlayed play.tracks (machines_of journals) parts (i + 1) s
  script-at i s is =
      let p : PlayedAt at.room 1 r.scripts.befores r.scripts.afters s i = played-at at.room 1 play.scripts r.scripts.befores r.scripts.afters r.played i s is in
      has-played play.tracks (machines_of journals) at.room seats r.scripts.befores r.scripts.afters i s p (at-front r.scripts.afters (r.recomputers.afters ++ r.bisectors.afters) i p.after p.to)
      (all-at (HasSeenKept play.tracks) r.scripts.befores i p.before saw-scripts p.from) names

  -- the runners
  no-bisectors : (n : ℕ) → crew.bisect < n → (m : List ℕ) → AllByRecursion (IsNoBisector n) (history_in journals m)
  no-bisectors n over m =
      let by : AreByCrew crew (history_in play.tracks m) (journals_of log m) = all-by-crew crew (history_in play.tracks) log parts all m in
      let old : AllByRecursion (IsNoBisector n) (history_in play.tracks m) = all-map (λ (p : Placed). p.author ≡ author.Kept) (IsNoBisector n) (history_in play.tracks m) (λ p is. ap (is_bisector n) is) (kept-in play.tracks at.kept m) in
      let others : (k : ℕ) → IsOneOf crew.bisect k → k ≢ n = λ k one same. omega (arith, one.1, over, same) in
      let new : AllByRecursion (IsNoBisector n) by.added = all-map (MayAdd crew) (IsNoBisector n) by.added (no-bisector-of crew n others) by.may_add in
      let last : AllByRecursion (IsNoBisector n) (more m) = all-map (IsLate crew) (IsNoBisector n) (more m) (λ p is. no-bisector-of crew n others p is.may_add) (behind m).each in
      subst (AllByRecursion (IsNoBisector n)) (sym (whole m ∙ ap (λ (l : List Placed). l ++ more m) by.goes_on))
      (all-append (IsNoBisector n) (history_in play.tracks m ++ by.added) (more m) (all-append (IsNoBisector n) (history_in play.tracks m) by.added old new) last)

  seated-at : (k : ℕ) (a : Seat) → slice_get r.bisectors.afters k ≡ Some a → IsPassOf at.room a.pass
  seated-at k a is =
      all-at (λ (i : Seat). IsPassOf at.room i.pass) r.bisectors.afters k a
      (all-back (λ (i : Seat). IsPassOf at.room i.pass) r.recomputers.afters r.bisectors.afters
      (all-back (λ (i : Seat). IsPassOf at.room i.pass) r.scripts.afters (r.recomputers.afters ++ r.bisectors.afters) at.shared.seated)) is

  among : (k : ℕ) (a : Seat) → slice_get r.bisectors.afters k ≡ Some a → Contains parts (joined_of a)
  among k a is =
      let inner = at-back r.recomputers.afters r.bisectors.afters k a is in
      let outer = at-back r.scripts.afters (r.recomputers.afters ++ r.bisectors.afters) inner.0 a inner.1 in
      let c = contains-at (onto seats []) a (in-onto seats [] outer.0 a outer.1) in
      at-contains parts c.0 (joined_of a) (mapped-at joined_of (onto seats []) c.0 a c.1)

  left-at : (k : ℕ) (w : WorkerAt play.word 1 r.bisectors.befores r.bisectors.afters r.began r.worked k)
      → TiedLeft (1 + k) play.word (machines_of journals) (history_in r.left) (history_in journals) w.tally w.tally'
  left-at k w =
      let l : TiedLeft (1 + k) play.word (machines_of journals) (λ m. entries (log m)) (history_in journals) w.tally w.tally' =
      tied-left crew play.tracks at.room at.different log parts all play.word (machines_of journals) names (history_in journals) more whole (1 + k) w.before w.after w.tally w.tally' w.worked
      (seated-at k w.after w.to) (all-at (HasSeenKept play.tracks) r.bisectors.befores k w.before saw-bisectors w.from) (among k w.after w.to) in
      record { uses = l.uses; told = l.told; found = λ m declared. ap (findings (1 + k)) (histories m) ∙ l.found m declared; due = l.due; rose = l.rose }

  published : (n : ℕ) (m : List ℕ) → findings n (history_in r.published m) ≡ findings n (history_in r.left m)
  published n m = findings-published n play.recompute r.left r.published r.recomputes m

  apart-published : Apart r.published
  apart-published =
      apart-named r.published at.room (names-stay (IsLate crew) r.left r.published (recomputes-late crew r.left r.published r.recomputes) ∙ names-left) at.different

  tied-at : (k : ℕ) → k < play.bisect → (t u : Tally) → slice_get r.began k ≡ Some t → slice_get r.ended k ≡ Some u → Tied (1 + k) play.word (machines_of journals) (history_in journals) t u
  tied-at k few t u had has =
      by k (worker-at play.word 1 r.bisectors.befores r.bisectors.afters r.began r.worked r.bisected k (let many = r.as_many_bisect in omega (arith, few, many))) had has
    where
      f : FirstAt play.word r.published journals r.worked r.ended
      f = first-at play.bisect play.word r.published journals r.worked r.ended (omega (arith, few)) r.bisects

      by : (i : ℕ) (w : WorkerAt play.word 1 r.bisectors.befores r.bisectors.afters r.began r.worked i) → slice_get r.began i ≡ Some t → slice_get r.ended i ≡ Some u
          → Tied (1 + i) play.word (machines_of journals) (history_in journals) t u
      by zero w had has =
          let from : w.tally ≡ t = same-some w.tally t (sym w.had ∙ had) in
          let between : w.tally' ≡ f.tally = same-some w.tally' f.tally (sym w.has ∙ f.had) in
          let to : f.tally' ≡ u = same-some f.tally' u (sym f.has ∙ has) in
          let l : TiedLeft 1 play.word (machines_of journals) (history_in r.left) (history_in journals) w.tally w.tally' = left-at 0 w in
          let each : BisectsEach play.word r.published journals w.tally' f.tally' = subst (λ (v : Tally). BisectsEach play.word r.published journals v f.tally') (sym between) f.each in
          subst (λ (x : Tally). Tied 1 play.word (machines_of journals) (history_in journals) t x) to
          (subst (λ (x : Tally). Tied 1 play.word (machines_of journals) (history_in journals) x f.tally') from
          (tied-first play.word r.left r.published journals w.tally w.tally' f.tally' apart-journals (published 1) l (tied-late play.word r.published journals w.tally' f.tally' apart-published each)))
      by (suc i) w had has =
          let from : w.tally ≡ t = same-some w.tally t (sym w.had ∙ had) in
          let to : w.tally' ≡ u = same-some w.tally' u (sym w.has ∙ sym (f.rest i) ∙ has) in
          let l : TiedLeft (1 + suc i) play.word (machines_of journals) (history_in r.left) (history_in journals) w.tally w.tally' = left-at (suc i) w in
          subst (λ (x : Tally). Tied (1 + suc i) play.word (machines_of journals) (history_in journals) t x) to
          (subst (λ (x : Tally). Tied (1 + suc i) play.word (machines_of journals) (history_in journals) x w.tally') from
          (tied-other (1 + suc i) play.word (machines_of journals) (history_in r.left) (history_in journals) w.tally w.tally'
          (λ m. findings-others play.word r.published journals f.tally f.tally' f.each (1 + suc i) (λ is. omega (arith, is)) m ∙ published (1 + suc i) m) l))

  bisector-at : (i : ℕ) (a : Asked) → slice_get play.runners i ≡ Some a → IsBisector (i + 1) crew play.word (machines_of journals) (history_in journals) a
  bisector-at i a is = by (cases_lt i play.bisect)
    where
      x : RunnerAt r.began r.ended i a
      x = runner-at r.began r.ended i a (ap (λ (l : List Asked). slice_get l i) (sym r.runners) ∙ is)

      fresh : IsNew x.before
      fresh = all-at IsNew r.began i x.before r.new x.from

      number : 1 + i ≡ i + 1
      number = omega arith

      distinct : Distinct (machines_of journals)
      distinct = subst Distinct (sym names) (names-distinct at.room at.different)

      done : IsBisector (1 + i) crew play.word (machines_of journals) (history_in journals) (record { asks = x.after.asks; before = x.before.faults; after = x.after.faults })
          → IsBisector (i + 1) crew play.word (machines_of journals) (history_in journals) a
      done b =
          subst (λ (n : ℕ). IsBisector n crew play.word (machines_of journals) (history_in journals) a) number
          (subst (λ (y : Asked). IsBisector (1 + i) crew play.word (machines_of journals) (history_in journals) y) x.is b)

      by : (i < play.bisect) ⊎ (play.bisect ≤ i) → IsBisector (i + 1) crew play.word (machines_of journals) (history_in journals) a
      by (inl few) =
          done (tied-bisector (1 + i) crew play.word (machines_of journals) (history_in journals) x.before x.after (tied-at i few x.before x.after x.from x.to) fresh
          (λ over. absurd (omega (arith, over, few))) distinct)
      by (inr many) =
          let same : x.after ≡ x.before =
          same-some x.after x.before (sym x.to ∙ idle-last play.bisect play.word r.published journals r.worked r.ended r.bisects i many
          ∙ idle-at play.word 1 r.bisectors.befores r.bisectors.afters r.began r.worked r.bisected i (let n = r.as_many_bisect in omega (arith, n, many)) ∙ x.from) in
          done (tied-bisector (1 + i) crew play.word (machines_of journals) (history_in journals) x.before x.after
          (tied-idle (1 + i) play.word (machines_of journals) (history_in journals) x.before x.after same (no-bisectors (1 + i) (omega (arith, many)))) fresh (λ over. refl) distinct)

  pub players-fit : Fits play journals
  players-fit = ends-fit play journals (record {
    log = log;
    more = more;
    parts = parts;
    all = all;
    late = λ m place p is. all-at (IsLate crew) (more m) place p (behind m).each is;
    tracks = ends;
    whole = whole;
    scripts = script-at;
    bisectors = bisector-at;
  })
