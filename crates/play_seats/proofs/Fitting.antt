-- Private: no public contract cites this. A shared run of scripts alone fits.
use Rattle.std.proofs.Common.{◌≡◌, ◌≢◌, ◌<◌, ◌≤◌, ◌+◌, ℕ, zero, suc, inl, inr, Bool, true, false, List, [], ◌∷◌, ◌++◌, length, map, refl, sym, ap, subst, ◌∙◌, Some, None, arith, append-nil}
use Rattle.std.specs.{Prelude.{◌⊎◌, slice_get, Contains, bytes_eq, take, fold, IfSome, sum_by}, List.{AllByRecursion, AllZip}}
use Rattle.std.proofs.lemmas.{Bool.cases_lt, List.length-map, Slice.Eq.bytes_eq-Decides, Grind.common_steps}
use Rattle.history_lock.specs.{Marks.{AreBy, entries, marked, unmarked}, declared.view.Marked.Marked}
use Rattle.history_model.specs.{Allowed.Legal, Entries.entries_of, declared.entries.Author.Author, declared.entries.Entry.Entry, declared.entries.Placed.Placed}
use Rattle.history_model.specs.declared.entries.Author.TheVariants as author
use Rattle.track_model.specs.Tracks.{Track}
use Rattle.track_room.specs.{Asked.names_of, Rooms.IsPassOf, Sights.{EndsWhole, Home, Sight, own_marks}}
use Rattle.play_model.proofs.Replies.{added-step}
use Rattle.play_fits.specs.{Ends.{AreEndsOf, HasPlayed}, Fits.{Fits, Play, Played, crew_of}, Journals.{machines_of, history_in}}
use Rattle.play_fits.{specs.Passes.{IsMadeBy, count_of}, specs.Scripts.{IsAdded, IsWritten, known_after}, proofs.Ends.ends-fit}
use Rattle.play_fits.{proofs.Whole.all-by-crew, specs.Whole.{AreAll, AreByCrew, Joined, journals_of}, proofs.Lists.{all-append, stays-before}}
use Rattle.play_fits.specs.Workers.{Asked, AreAsksOf, Crew, IsBisector, IsOneOf, MayAdd, findings_behind, give_ups, all_give_ups, is_bisector}
use Rattle.play_seats.specs.{Gathered.{OwnsMade, joined_of}, Seats.{Seat, seen_in, sight_of}, Shared.{AreKeptAs, EndsShared, HasSeenKept, onto}}
use Rattle.play_seats.specs.Seats as seats
use Rattle.play_seats.specs.Fitting.{ArePlayedFrom, IsPlayedAt, IsUnasked, RunsScripts}
use Rattle.play_seats.proofs.{Gathered.{all-at, at-contains, contains-at, gathered-all, kept-in, mapped-at}, Shared.sharing-ends}

-- ---- lists, the last first
pub all-onto : {A : Type 0} (P : A → Type 0) (xs behind : List A) → AllByRecursion P xs → AllByRecursion P behind → AllByRecursion P (onto xs behind)
all-onto P [] behind all more = more
all-onto P (x ∷ xs) behind all more = all-onto P xs (x ∷ behind) all.1 (all.0, more)

in-cons : {A : Type 0} (y : A) (ys : List A) (x : A) → Contains ys x → Contains (y ∷ ys) x
in-cons y ys x one = let at = contains-at ys x one in at-contains (y ∷ ys) (suc at.0) x at.1

in-behind : {A : Type 0} (xs behind : List A) (x : A) → Contains behind x → Contains (onto xs behind) x
in-behind [] behind x one = one
in-behind (y ∷ xs) behind x one = in-behind xs (y ∷ behind) x (in-cons y behind x one)

pub in-onto : {A : Type 0} (xs behind : List A) (k : ℕ) (x : A) → slice_get xs k ≡ Some x → Contains (onto xs behind) x
in-onto [] behind k x is = cc
in-onto (y ∷ xs) behind zero x is = let same : Some y ≡ Some x = is in in-behind xs (y ∷ behind) x (at-contains (y ∷ behind) 0 x is)
in-onto (y ∷ xs) behind (suc k) x is = in-onto xs (y ∷ behind) k x is

-- ---- what a script's pass made is its own
pub same-some : {A : Type 0} (a b : A) → Some a ≡ Some b → a ≡ b
same-some a b is = cc

no-by : (m : ℕ) → None ≡ Some m → ⊥
no-by m is = cc

pub unmarked-at : (es : List Placed) (n : ℕ) (p : Placed) (m : ℕ) → slice_get (unmarked es) n ≡ Some (marked p (Some m)) → ⊥
unmarked-at [] n p m is = cc
unmarked-at (e ∷ es) zero p m is = no-by m (ap (λ (x : Marked Placed). x.by) (same-some (marked e None) (marked p (Some m)) is))
unmarked-at (e ∷ es) (suc n) p m is = unmarked-at es n p m is

module _ (crew : Crew) (tracks : List Track) (room : List Home) (n : ℕ) (s : Played) (b : List Sight) (a : Seat) (p : IsPlayedAt room n s b a) (saw : HasSeenKept tracks b) (is_one : IsOneOf crew.scripts n) where
  made-after : (m : List ℕ) (place : ℕ) (e : Placed) → count_of (sight_of b) m ≤ place → IsMadeBy (sight_of a.pass) m place e → e.author ≡ author.Script n
  made-after m place e le made =
      let added : IsAdded (author.Script n) m (entries (seen_in a.pass m)) (count_of (sight_of b) m) p.played.exchanges place = p.played.part.made m place e le made in
      let step : added.exchange.reply.step ≡ added.adds.count + 1 = added-step (author.Script n) (entries (seen_in a.pass m)) (known_after-of added) added.request added.exchange.reply added.adds in
      let here : added.adds.count ≡ place = let its = added.its_step in omega (arith, step, its) in
      let there : slice_get (entries (seen_in a.pass m)) place ≡ Some (record { author = author.Script n; entry = added.adds.entry }) = ap (λ (k : ℕ). slice_get (entries (seen_in a.pass m)) k) (sym here) ∙ added.adds.stands in
      let mine : slice_get (entries (seen_in a.pass m)) place ≡ Some e = mapped-at (λ (x : Marked Placed). x.entry) (seen_in a.pass m) place (marked e (Some ((sight_of a.pass).mark m))) made in
      ap (λ (q : Placed). q.author) (same-some e (record { author = author.Script n; entry = added.adds.entry }) (sym mine ∙ there))
    where
      known_after-of : IsAdded (author.Script n) m (entries (seen_in a.pass m)) (count_of (sight_of b) m) p.played.exchanges place → ℕ
      known_after-of added = known_after (count_of (sight_of b) m) m (take added.before p.played.exchanges)

  owns-made : OwnsMade crew a
  owns-made m place e made =
      elim (cases_lt place (count_of (sight_of b) m)) [
        | inl within ↦ absurd (old within)
        | inr behind ↦ (made-after m place e behind made ∙ sym p.author, may (made-after m place e behind made))
      ]
    where
      old : place < count_of (sight_of b) m → ⊥
      old within =
          let split : seen_in a.pass m ≡ seen_in b m ++ p.played.part.sees.more m = p.played.part.sees.seen m in
          let there : slice_get (seen_in b m) place ≡ Some (marked e (Some ((sight_of a.pass).mark m))) = sym (stays-before (seen_in b m) (p.played.part.sees.more m) place within) ∙ ap (λ (l : List (Marked Placed)). slice_get l place) (sym split) ∙ made in
          unmarked-at (history_in tracks m) place e ((sight_of a.pass).mark m) (ap (λ (l : List (Marked Placed)). slice_get l place) (sym (saw m)) ∙ there)

      may : e.author ≡ author.Script n → MayAdd crew e
      may is = subst (MayAdd crew) (sym (same-entry e (author.Script n) is)) is_one
        where
          same-entry : (q : Placed) (w : Author) → q.author ≡ w → q ≡ record { author = w; entry = q.entry }
          same-entry q w is = ap (λ (v : Author). record { author = v; entry = q.entry }) is

-- ---- all scripts
pub all-owned : (crew : Crew) (tracks : List Track) (room : List Home) (n : ℕ) (ss : List Played) (bs : List (List Sight)) (us : List Seat) → ArePlayedFrom room n ss bs us → AllByRecursion (HasSeenKept tracks) bs
    → 1 ≤ n → length ss + n ≤ crew.scripts + 1 → AllByRecursion (OwnsMade crew) us
all-owned crew tracks room n [] [] [] played saw some few = tt
all-owned crew tracks room n [] [] (a ∷ us) played saw some few = absurd played
all-owned crew tracks room n [] (b ∷ bs) us played saw some few = absurd played
all-owned crew tracks room n (s ∷ ss) [] us played saw some few = absurd played
all-owned crew tracks room n (s ∷ ss) (b ∷ bs) [] played saw some few = absurd played
all-owned crew tracks room n (s ∷ ss) (b ∷ bs) (a ∷ us) played saw some few = (
  owns-made crew tracks room n s b a played.0 saw.0 (some, omega (arith, few)),
  all-owned crew tracks room (n + 1) ss bs us played.1 saw.1 (omega (arith, some)) (omega (arith, few)),
)

next-place : (n k : ℕ) → (n + 1) + k ≡ n + suc k
next-place n k = omega arith

-- the script at a place
pub record PlayedAt (room : List Home) (n : ℕ) (bs : List (List Sight)) (us : List Seat) (s : Played) (k : ℕ) : Type 0 where
  pub before : List Sight
  pub after : Seat
  pub from : slice_get bs k ≡ Some before
  pub to : slice_get us k ≡ Some after
  pub played : IsPlayedAt room (n + k) s before after

pub played-at : (room : List Home) (n : ℕ) (ss : List Played) (bs : List (List Sight)) (us : List Seat) → ArePlayedFrom room n ss bs us → (k : ℕ) (s : Played) → slice_get ss k ≡ Some s → PlayedAt room n bs us s k
played-at room n [] bs us played k s is = grind (arith, common_steps)
played-at room n (x ∷ ss) [] us played k s is = absurd played
played-at room n (x ∷ ss) (b ∷ bs) [] played k s is = absurd played
played-at room n (x ∷ ss) (b ∷ bs) (a ∷ us) played zero s is = grind (arith, common_steps)
played-at room n (x ∷ ss) (b ∷ bs) (a ∷ us) played (suc k) s is = later (played-at room (n + 1) ss bs us played.1 k s is)
  where
    later : PlayedAt room (n + 1) bs us s k → PlayedAt room n (b ∷ bs) (a ∷ us) s (suc k)
    later rest = record { before = rest.before; after = rest.after; from = rest.from; to = rest.to; played = subst (λ (j : ℕ). IsPlayedAt room j s rest.before rest.after) (next-place n k) rest.played }

-- the seat at a place is a script's
pub author-at : (room : List Home) (n : ℕ) (ss : List Played) (bs : List (List Sight)) (us : List Seat) → ArePlayedFrom room n ss bs us → (k : ℕ) (a : Seat) → slice_get us k ≡ Some a → a.author ≡ author.Script (n + k)
author-at room n [] [] [] played k a is = cc
author-at room n [] [] (x ∷ us) played k a is = absurd played
author-at room n [] (b ∷ bs) us played k a is = absurd played
author-at room n (s ∷ ss) [] us played k a is = absurd played
author-at room n (s ∷ ss) (b ∷ bs) [] played k a is = cc
author-at room n (s ∷ ss) (b ∷ bs) (x ∷ us) played zero a is = grind (arith, common_steps)
author-at room n (s ∷ ss) (b ∷ bs) (x ∷ us) played (suc k) a is = grind (arith, common_steps, author-at room (n + 1) ss bs us played.1 k a is)

-- one of the seats, the last first, is at some place
pub from-onto : {A : Type 0} (xs behind : List A) (x : A) → Contains (onto xs behind) x → ((k : ℕ) × (slice_get xs k ≡ Some x)) ⊎ Contains behind x
from-onto [] behind x one = inr one
from-onto (y ∷ xs) behind x one = by (from-onto xs (y ∷ behind) x one)
  where
    front : (k : ℕ) → slice_get (y ∷ behind) k ≡ Some x → ((j : ℕ) × (slice_get (y ∷ xs) j ≡ Some x)) ⊎ Contains behind x
    front zero is = inl (0, is)
    front (suc k) is = inr (at-contains behind k x is)

    by : ((k : ℕ) × (slice_get xs k ≡ Some x)) ⊎ Contains (y ∷ behind) x → ((j : ℕ) × (slice_get (y ∷ xs) j ≡ Some x)) ⊎ Contains behind x
    by (inl at) = inl (suc at.0, at.1)
    by (inr there) = let at = contains-at (y ∷ behind) x there in front at.0 at.1

pub script-number : (i j : ℕ) → author.Script i ≡ author.Script j → i ≡ j
script-number i j is = cc

are-apart : (room : List Home) (ss : List Played) (bs : List (List Sight)) (us : List Seat) → ArePlayedFrom room 1 ss bs us → (i j : Seat) → Contains (onto us []) i → Contains (onto us []) j → i.author ≡ j.author → i ≡ j
are-apart room ss bs us played i j one two same = by (from-onto us [] i one) (from-onto us [] j two)
  where
    none : (x : Seat) → Contains [] x → ⊥
    none x c = let less = c.1 in omega (arith, less)

    by : ((k : ℕ) × (slice_get us k ≡ Some i)) ⊎ Contains [] i → ((k : ℕ) × (slice_get us k ≡ Some j)) ⊎ Contains [] j → i ≡ j
    by (inr c) other = absurd (none i c)
    by (inl at) (inr c) = absurd (none j c)
    by (inl at) (inl to) =
        let number : 1 + at.0 ≡ 1 + to.0 = script-number (1 + at.0) (1 + to.0) (sym (author-at room 1 ss bs us played at.0 i at.1) ∙ same ∙ author-at room 1 ss bs us played to.0 j to.1) in
        let place : at.0 ≡ to.0 = omega (arith, number) in
        same-some i j (sym at.1 ∙ ap (λ (k : ℕ). slice_get us k) place ∙ to.1)

-- ---- the machines that are left
pub whole-of : (last : List Sight) (journals : List Track) → AllZip EndsWhole last journals → AllByRecursion (λ (s : Sight). AreBy (own_marks s) s.seen) last
whole-of [] [] ends = tt
whole-of [] (j ∷ journals) ends = absurd ends
whole-of (s ∷ last) [] ends = absurd ends
whole-of (s ∷ last) (j ∷ journals) ends = (ends.0.1, whole-of last journals ends.1)

-- the machines that are left are those of the last pass, with all that it has seen
machines-left : (last : List Sight) (journals : List Track) → AllZip EndsWhole last journals → machines_of journals ≡ names_of (map (λ (s : Sight). s.home) last)
machines-left [] [] ends = refl
machines-left [] (j ∷ journals) ends = absurd ends
machines-left (s ∷ last) [] ends = absurd ends
machines-left (s ∷ last) (j ∷ journals) ends = grind (arith, common_steps, machines-left last journals ends.1)

history-left : (last : List Sight) (journals : List Track) (m : List ℕ) → AllZip EndsWhole last journals → history_in journals m ≡ entries (seen_in last m)
history-left [] [] m ends = refl
history-left [] (j ∷ journals) m ends = absurd ends
history-left (s ∷ last) [] m ends = absurd ends
history-left (s ∷ last) (j ∷ journals) m ends = grind (arith, common_steps, history-left last journals m ends.1)

pub eq-bytes : (xs : List ℕ) → bytes_eq xs xs ≡ true
eq-bytes xs = (bytes_eq-Decides xs xs).1 refl

-- each machine goes on from its own, where no two have one name
abbrev pub Others : List ℕ → List Track → Type 0
Others m ts = AllByRecursion (λ (t : Track). bytes_eq m t.machine ≡ false) ts

abbrev pub Apart : List Track → Type 0
Apart [] = Unit {0}
Apart (t ∷ ts) = Others t.machine ts × Apart ts

others-named : (m : List ℕ) (ts : List Track) (room : List Home) → machines_of ts ≡ names_of room → AllByRecursion (seats.IsOther m) room → Others m ts
others-named m [] room same all = tt
others-named m (t ∷ ts) [] same all = grind (arith, common_steps)
others-named m (t ∷ ts) (h ∷ room) same all =
    let head : t.machine ≡ h.machine = cc in
    let tail : machines_of ts ≡ names_of room = cc in
    (ap (λ (x : List ℕ). bytes_eq m x) head ∙ all.0, others-named m ts room tail all.1)

pub apart-named : (ts : List Track) (room : List Home) → machines_of ts ≡ names_of room → seats.AreDifferent room → Apart ts
apart-named [] room same all = tt
apart-named (t ∷ ts) [] same all = grind (arith, common_steps)
apart-named (t ∷ ts) (h ∷ room) same all =
    let head : t.machine ≡ h.machine = cc in
    let tail : machines_of ts ≡ names_of room = cc in
    (subst (λ (m : List ℕ). Others m ts) (sym head) (others-named h.machine ts room tail all.0), apart-named ts room tail all.1)

abbrev none : List ℕ → List Placed
none m = []

-- what is looked up by a machine's own name is found at its place
ends-each : (log : List ℕ → List (Marked Placed)) (kept : List ℕ → List Placed) (tracks : List Track) (last : List Sight) (journals : List Track)
    → AllZip EndsWhole last journals → AreKeptAs tracks last → machines_of tracks ≡ names_of (map (λ (s : Sight). s.home) last) → AllByRecursion (λ (t : Track). Legal (entries_of t.history)) journals
    → AllByRecursion (λ (t : Track). kept t.machine ≡ t.history) tracks → AllByRecursion (λ (s : Sight). log s.home.machine ≡ s.seen) last
    → AreEndsOf log kept none tracks journals
ends-each log kept [] [] [] ends same names legal is_kept is_seen = tt
ends-each log kept [] [] (j ∷ journals) ends same names legal is_kept is_seen = absurd ends
ends-each log kept [] (s ∷ last) journals ends same names legal is_kept is_seen = absurd same
ends-each log kept (t ∷ tracks) [] journals ends same names legal is_kept is_seen = absurd same
ends-each log kept (t ∷ tracks) (s ∷ last) [] ends same names legal is_kept is_seen = absurd ends
ends-each log kept (t ∷ tracks) (s ∷ last) (j ∷ journals) ends same names legal is_kept is_seen =
    let name : t.machine ≡ s.home.machine = cc in
    let rest : machines_of tracks ≡ names_of (map (λ (x : Sight). x.home) last) = cc in (
      record {
        machine = ap (λ (u : Track). u.machine) ends.0.0 ∙ sym name;
        same = ap (λ (u : Track). u.kept) ends.0.0 ∙ same.0;
        legal = legal.0;
        begins = is_kept.0;
        ends = ap (λ (u : Track). u.history) ends.0.0 ∙ ap (λ (l : List (Marked Placed)). entries l) (sym is_seen.0) ∙ ap (λ (m : List ℕ). entries (log m)) (sym name) ∙ sym (append-nil (entries (log t.machine)));
      },
      ends-each log kept tracks last journals ends.1 same.1 rest legal.1 is_kept.1 is_seen.1,
    )

pub all-map : {A : Type 0} (P Q : A → Type 0) (xs : List A) → ((x : A) → P x → Q x) → AllByRecursion P xs → AllByRecursion Q xs
all-map P Q [] f all = tt
all-map P Q (x ∷ xs) f all = (f x all.0, all-map P Q xs f all.1)

pub all-with : {A : Type 0} (P Q R : A → Type 0) (xs : List A) → ((x : A) → P x → Q x → R x) → AllByRecursion P xs → AllByRecursion Q xs → AllByRecursion R xs
all-with P Q R [] f one two = tt
all-with P Q R (x ∷ xs) f one two = (f x one.0 two.0, all-with P Q R xs f one.1 two.1)

pub own-histories : (tracks : List Track) → Apart tracks → AllByRecursion (λ (t : Track). history_in tracks t.machine ≡ t.history) tracks
own-histories [] apart = tt
own-histories (t ∷ tracks) apart = grind (arith, common_steps, eq-bytes, all-with, own-histories tracks apart.1)

pub own-seen : (last : List Sight) → seats.AreDifferent (map (λ (s : Sight). s.home) last) → AllByRecursion (λ (s : Sight). seen_in last s.home.machine ≡ s.seen) last
own-seen [] apart = tt
own-seen (s ∷ last) apart = (
  rw (eq-bytes s.home.machine) refl,
  all-with (λ (u : Sight). bytes_eq s.home.machine u.home.machine ≡ false) (λ (u : Sight). seen_in last u.home.machine ≡ u.seen) (λ (u : Sight). seen_in (s ∷ last) u.home.machine ≡ u.seen) last
      (λ u other own. rw other own) (others last apart.0) (own-seen last apart.1),
)
  where
    others : (pass : List Sight) → AllByRecursion (seats.IsOther s.home.machine) (map (λ (u : Sight). u.home) pass) → AllByRecursion (λ (u : Sight). bytes_eq s.home.machine u.home.machine ≡ false) pass
    others [] all = tt
    others (u ∷ pass) all = (all.0, others pass all.1)

-- ---- no worker bisects
abbrev pub IsNoBisector : ℕ → Placed → Type 0
IsNoBisector i p = is_bisector i p.author ≡ false

no-findings : (i : ℕ) (h : List Entry) (j : List Placed) → AllByRecursion (IsNoBisector i) j → findings_behind i h j ≡ []
no-findings i h [] all = refl
no-findings i h (p ∷ j) all = rw all.0 (no-findings i (h ++ p.entry ∷ []) j all.1)

no-give-ups : (i : ℕ) (j : List Placed) → AllByRecursion (IsNoBisector i) j → give_ups i j ≡ 0
no-give-ups i [] all = refl
no-give-ups i (p ∷ j) all = rw all.0 (no-give-ups i j all.1)

pub sum-none : (f : List ℕ → ℕ) (ms : List (List ℕ)) → ((m : List ℕ) → f m ≡ 0) → sum_by f ms ≡ 0
sum-none f [] each = refl
sum-none f (m ∷ ms) each = let here : 0 + f m ≡ 0 = let is = each m in omega (arith, is) in ap (λ (k : ℕ). fold (λ a x. a + f x) k ms) here ∙ sum-none f ms each

-- a number that no worker has which bisects
pub no-bisector-of : (crew : Crew) (i : ℕ) → ((k : ℕ) → IsOneOf crew.bisect k → k ≢ i) → (p : Placed) → MayAdd crew p → IsNoBisector i p
no-bisector-of crew i apart p may = grind (arith, common_steps)

-- a script that was played at one of the seats
pub has-played : (tracks : List Track) (machines : List (List ℕ)) (room : List Home) (seated : List Seat) (bs : List (List Sight)) (us : List Seat) (i : ℕ) (s : Played) (p : PlayedAt room 1 bs us s i)
    → slice_get seated i ≡ Some p.after → HasSeenKept tracks p.before → machines ≡ names_of room → HasPlayed tracks machines (map joined_of (onto seated [])) (i + 1) s
has-played tracks machines room seated bs us i s p at saw names =
    let number : 1 + i ≡ i + 1 = omega arith in
    let of : p.after.author ≡ author.Script (1 + i) = p.played.author in
    let c = contains-at (onto seated []) p.after (in-onto seated [] i p.after at) in
    record {
      joined = joined_of p.after;
      one = at-contains (map joined_of (onto seated [])) c.0 (joined_of p.after) (mapped-at joined_of (onto seated []) c.0 p.after c.1);
      author = of ∙ ap (λ (n : ℕ). author.Script n) number;
      before = sight_of p.before;
      counts = λ m. ap length (saw m) ∙ length-map (history_in tracks m) (λ (x : Placed). marked x None);
      exchanges = p.played.played.exchanges;
      part = grind (arith, common_steps);
      written = subst (λ (f : Bool). IsWritten f s.script s.transcript p.played.played.exchanges) (sym p.played.full) p.played.played.written;
    }

module _ (play : Play) (journals : List Track) (r : RunsScripts play journals) where
  abbrev crew : Crew
  crew = crew_of play

  e : EndsShared play.tracks r.room r.befores r.afters r.last
  e = sharing-ends play.tracks r.room r.befores r.afters r.first r.last r.shared

  owned : AllByRecursion (OwnsMade crew) r.afters
  owned = all-owned crew play.tracks r.room 1 play.scripts r.befores r.afters r.played e.began (omega arith) (omega arith)

  abbrev parts : List Joined
  parts = map joined_of (onto r.afters [])

  all : AreAll crew (history_in play.tracks) (seen_in r.last) parts
  all = gathered-all crew play.tracks r.room (onto r.afters []) r.last (record {
    of_room = r.of_room;
    machines = e.machines;
    seated = all-onto (λ (i : Seat). IsPassOf r.room i.pass) r.afters [] r.shared.seated tt;
    joining = e.joining;
    whole = whole-of r.last journals r.ended;
    owned = all-onto (OwnsMade crew) r.afters [] owned tt;
    apart = are-apart r.room play.scripts r.befores r.afters r.played;
    kept = r.kept;
  })

  names : machines_of journals ≡ names_of r.room
  names = machines-left r.last journals r.ended ∙ ap names_of r.of_room

  histories : (m : List ℕ) → history_in journals m ≡ entries (seen_in r.last m)
  histories m = history-left r.last journals m r.ended

  here : machines_of play.tracks ≡ names_of (map (λ (s : Sight). s.home) r.last)
  here = e.machines ∙ ap (λ (h : List Home). names_of h) (sym r.of_room)

  apart-tracks : Apart play.tracks
  apart-tracks = apart-named play.tracks r.room e.machines r.different

  script-at : (i : ℕ) (s : Played) → slice_get play.scripts i ≡ Some s → HasPlayed play.tracks (machines_of journals) parts (i + 1) s
  script-at i s is =
      let p : PlayedAt r.room 1 r.befores r.afters s i = played-at r.room 1 play.scripts r.befores r.afters r.played i s is in
      has-played play.tracks (machines_of journals) r.room r.afters r.befores r.afters i s p p.to (all-at (HasSeenKept play.tracks) r.befores i p.before e.began p.from) names

  no-bisectors : (i : ℕ) (m : List ℕ) → AllByRecursion (IsNoBisector i) (history_in journals m)
  no-bisectors i m =
      let by : AreByCrew crew (history_in play.tracks m) (journals_of (seen_in r.last) m) = all-by-crew crew (history_in play.tracks) (seen_in r.last) parts all m in
      let old : AllByRecursion (IsNoBisector i) (history_in play.tracks m) = all-map (λ (p : Placed). p.author ≡ author.Kept) (IsNoBisector i) (history_in play.tracks m) (λ p is. ap (λ (w : Author). is_bisector i w) is) (kept-in play.tracks r.kept m) in
      let new : AllByRecursion (IsNoBisector i) by.added = all-map (MayAdd crew) (IsNoBisector i) by.added (no-bisector-of crew i (λ k one same. omega (arith, one.0, one.1, r.no_bisecting))) by.may_add in
      subst (AllByRecursion (IsNoBisector i)) (sym (histories m ∙ by.goes_on)) (all-append (IsNoBisector i) (history_in play.tracks m) by.added old new)

  unasked-at : (i : ℕ) (a : Asked) → IsUnasked a → IsBisector (i + 1) crew play.word (machines_of journals) (history_in journals) a
  unasked-at i a un = record {
    asked = by un.asks;
    given_up = (
        let zero_is : all_give_ups (i + 1) (machines_of journals) (history_in journals) ≡ 0 = sum-none (λ m. give_ups (i + 1) (history_in journals m)) (machines_of journals) (λ m. no-give-ups (i + 1) (history_in journals m) (no-bisectors (i + 1) m)) in
        let le = un.counts in omega (arith, zero_is, le));
  }
    where
      none-asked : AreAsksOf (i + 1) crew play.word (machines_of journals) (history_in journals) []
      none-asked = record {
        found = record { uses = []; of_asks = refl; found = λ m declared. no-findings (i + 1) [] (history_in journals m) (no-bisectors (i + 1) m) };
        due = λ k d less. absurd (omega (arith, less));
        past = λ over. refl;
      }

      by : (a.asks ≡ None) ⊎ (a.asks ≡ Some []) → IfSome a.asks (AreAsksOf (i + 1) crew play.word (machines_of journals) (history_in journals))
      by (inl is) = rw is tt
      by (inr is) = rw is none-asked

  pub runs-fit : Fits play journals
  runs-fit = ends-fit play journals (record {
    log = seen_in r.last;
    more = none;
    parts = parts;
    all = all;
    late = λ m place p is. cc;
    tracks = ends-each (seen_in r.last) (history_in play.tracks) play.tracks r.last journals r.ended e.same here r.legal (own-histories play.tracks apart-tracks)
        (own-seen r.last (subst seats.AreDifferent (sym r.of_room) r.different));
    whole = λ m. histories m ∙ sym (append-nil (entries (seen_in r.last m)));
    scripts = script-at;
    bisectors = λ i a is. unasked-at i a (all-at IsUnasked play.runners i a r.unasked is);
  })
