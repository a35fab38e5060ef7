-- Private: no public contract cites this. From places to names: the passes that were joined are all that made entries.
use Rattle.std.proofs.Common.{◌≡◌, ◌<◌, ℕ, zero, suc, inl, inr, Bool, true, false, List, [], ◌∷◌, ◌++◌, length, map, get_or, refl, sym, ap, subst, ◌∙◌, Some, arith}
use Rattle.std.{specs.Prelude.{◌⊎◌, slice_get, Contains, bytes_eq, if◌then◌else◌}, specs.List.AllByRecursion, proofs.lemmas.Grind.common_steps}
use Rattle.std.proofs.lemmas.Option.{slice_get_within, get_or_from_slice_get}
use Rattle.history_lock.specs.{Marks.{AreBy, Follows, unmarked}, declared.view.Marked.Marked}
use Rattle.history_model.specs.declared.entries.Author.TheVariants as author
use Rattle.history_model.specs.declared.entries.Placed.{Placed}
use Rattle.track_model.specs.Tracks.{Track}
use Rattle.track_room.specs.{Asked.names_of, Rooms.IsPassOf, Sights.{Home, Sight, own_marks}}
use Rattle.play_fits.specs.{Journals.{machines_of, history_in}, Whole.{AreAll, GoesOn, IsMadeByOne, Joined}, Workers.Crew}
use Rattle.play_seats.specs.{Joining.{IsBehind, IsMadeByPart, Joining, Part, part_of}, Seats.{Seat, seen_in, mark_in}}
use Rattle.play_seats.{specs.Gathered.{parts_at, OwnsMade, AreKept, Gathered, joined_of}, proofs.Joining.joining-ends}

-- ---- lists
pub contains-at : {A : Type 0} (xs : List A) (x : A) → Contains xs x → (k : ℕ) × (slice_get xs k ≡ Some x)
contains-at {A = A} xs x c = (c.0, at xs c.0 c.1 c.2)
  where
    at : (ys : List A) (k : ℕ) → k < length ys → get_or ys k x ≡ x → slice_get ys k ≡ Some x
    at [] k less is = absurd (omega (arith, less))
    at (y ∷ ys) zero less is = ap (λ (z : A). Some z) is
    at (y ∷ ys) (suc k) less is = at ys k (omega (arith, less)) is

pub at-contains : {A : Type 0} (xs : List A) (k : ℕ) (x : A) → slice_get xs k ≡ Some x → Contains xs x
at-contains xs k x is = (k, slice_get_within xs k x is, get_or_from_slice_get xs k x x is)

pub all-at : {A : Type 0} (P : A → Type 0) (xs : List A) (k : ℕ) (x : A) → AllByRecursion P xs → slice_get xs k ≡ Some x → P x
all-at P [] k x all is = cc
all-at P (y ∷ xs) zero x all is = let same : y ≡ x = cc in subst P same all.0
all-at P (y ∷ xs) (suc k) x all is = all-at P xs k x all.1 is

pub mapped-at : {A B : Type 0} (f : A → B) (xs : List A) (k : ℕ) (x : A) → slice_get xs k ≡ Some x → slice_get (map f xs) k ≡ Some (f x)
mapped-at f [] k x is = cc
mapped-at {A = A} f (y ∷ xs) zero x is = let same : y ≡ x = cc in ap (λ (z : A). Some (f z)) same
mapped-at f (y ∷ xs) (suc k) x is = mapped-at f xs k x is

pub mapped-from : {A B : Type 0} (f : A → B) (xs : List A) (k : ℕ) (y : B) → slice_get (map f xs) k ≡ Some y → (x : A) × (slice_get xs k ≡ Some x) × (f x ≡ y)
mapped-from f [] k y is = cc
mapped-from f (x ∷ xs) zero y is = (x, refl, cc)
mapped-from f (x ∷ xs) (suc k) y is = mapped-from f xs k y is

-- ---- the histories before a run have what was kept
pub kept-in : (ts : List Track) → AllByRecursion AreKept ts → (m : List ℕ) → AllByRecursion (λ (p : Placed). p.author ≡ author.Kept) (history_in ts m)
kept-in [] all m = tt
kept-in (t ∷ ts) all m = by-name (bytes_eq t.machine m) (kept-in ts all.1 m)
  where
    by-name : (b : Bool) → AllByRecursion (λ (p : Placed). p.author ≡ author.Kept) (history_in ts m) → AllByRecursion (λ (p : Placed). p.author ≡ author.Kept) (if b then t.history else history_in ts m)
    by-name true rest = all.0
    by-name false rest = rest

-- ---- a machine's place
record SeenAt (pass : List Sight) (m : List ℕ) (k : ℕ) : Type 0 where
  sight : Sight
  here : slice_get pass k ≡ Some sight
  seen : seen_in pass m ≡ sight.seen
  mark : mark_in pass m ≡ sight.mark

record TrackAt (tracks : List Track) (m : List ℕ) (k : ℕ) : Type 0 where
  track : Track
  here : slice_get tracks k ≡ Some track
  history : history_in tracks m ≡ track.history

record At (room : List Home) (m : List ℕ) : Type 0 where
  place : ℕ
  pass_at : (pass : List Sight) → IsPassOf room pass → SeenAt pass m place
  tracks_at : (tracks : List Track) → machines_of tracks ≡ names_of room → TrackAt tracks m place

record Missing (room : List Home) (m : List ℕ) : Type 0 where
  unseen : (pass : List Sight) → IsPassOf room pass → seen_in pass m ≡ []
  none : (tracks : List Track) → machines_of tracks ≡ names_of room → history_in tracks m ≡ []

no-cons : {A : Type 0} {x : A} {xs : List A} → [] ≡ x ∷ xs → ⊥
no-cons is = cc

heads : {A : Type 0} (x y : A) (xs ys : List A) → x ∷ xs ≡ y ∷ ys → x ≡ y
heads x y xs ys is = cc

tails : {A : Type 0} (x y : A) (xs ys : List A) → x ∷ xs ≡ y ∷ ys → xs ≡ ys
tails x y xs ys is = cc

named-here : (h : Home) (room : List Home) (m : List ℕ) → bytes_eq h.machine m ≡ true → At (h ∷ room) m
named-here h room m is = record {
  place = 0;
  pass_at = λ pass of. pass-here pass of;
  tracks_at = λ tracks of. tracks-here tracks of;
}
  where
    pass-here : (pass : List Sight) → IsPassOf (h ∷ room) pass → SeenAt pass m 0
    pass-here [] of = absurd (no-cons of)
    pass-here (s ∷ pass) of =
        let same : s.home ≡ h = heads s.home h (map (λ (x : Sight). x.home) pass) room of in
        let yes : bytes_eq s.home.machine m ≡ true = ap (λ (x : Home). bytes_eq x.machine m) same ∙ is in
        record {
          sight = s;
          here = refl;
          seen = rw yes refl;
          mark = rw yes refl;
        }

    tracks-here : (tracks : List Track) → machines_of tracks ≡ names_of (h ∷ room) → TrackAt tracks m 0
    tracks-here [] of = absurd (no-cons of)
    tracks-here (t ∷ tracks) of =
        let same : t.machine ≡ h.machine = heads t.machine h.machine (machines_of tracks) (names_of room) of in
        let yes : bytes_eq t.machine m ≡ true = ap (λ (x : List ℕ). bytes_eq x m) same ∙ is in
        record { track = t; here = refl; history = rw yes refl }

named-later : (h : Home) (room : List Home) (m : List ℕ) → bytes_eq h.machine m ≡ false → At room m → At (h ∷ room) m
named-later h room m is at = record {
  place = suc at.place;
  pass_at = λ pass of. pass-later pass of;
  tracks_at = λ tracks of. tracks-later tracks of;
}
  where
    pass-later : (pass : List Sight) → IsPassOf (h ∷ room) pass → SeenAt pass m (suc at.place)
    pass-later [] of = absurd (no-cons of)
    pass-later (s ∷ pass) of =
        let same : s.home ≡ h = heads s.home h (map (λ (x : Sight). x.home) pass) room of in
        let other : bytes_eq s.home.machine m ≡ false = ap (λ (x : Home). bytes_eq x.machine m) same ∙ is in
        let rest : SeenAt pass m at.place = at.pass_at pass (tails s.home h (map (λ (x : Sight). x.home) pass) room of) in
        record {
          sight = rest.sight;
          here = rest.here;
          seen = rw other rest.seen;
          mark = rw other rest.mark;
        }

    tracks-later : (tracks : List Track) → machines_of tracks ≡ names_of (h ∷ room) → TrackAt tracks m (suc at.place)
    tracks-later [] of = absurd (no-cons of)
    tracks-later (t ∷ tracks) of =
        let same : t.machine ≡ h.machine = heads t.machine h.machine (machines_of tracks) (names_of room) of in
        let other : bytes_eq t.machine m ≡ false = ap (λ (x : List ℕ). bytes_eq x m) same ∙ is in
        let rest : TrackAt tracks m at.place = at.tracks_at tracks (tails t.machine h.machine (machines_of tracks) (names_of room) of) in
        record { track = rest.track; here = rest.here; history = rw other rest.history }

missing-later : (h : Home) (room : List Home) (m : List ℕ) → bytes_eq h.machine m ≡ false → Missing room m → Missing (h ∷ room) m
missing-later h room m is miss = record {
  unseen = λ pass of. unseen-later pass of;
  none = λ tracks of. none-later tracks of;
}
  where
    unseen-later : (pass : List Sight) → IsPassOf (h ∷ room) pass → seen_in pass m ≡ []
    unseen-later [] of = refl
    unseen-later (s ∷ pass) of =
        let same : s.home ≡ h = heads s.home h (map (λ (x : Sight). x.home) pass) room of in
        let other : bytes_eq s.home.machine m ≡ false = ap (λ (x : Home). bytes_eq x.machine m) same ∙ is in
        rw other (miss.unseen pass (tails s.home h (map (λ (x : Sight). x.home) pass) room of))

    none-later : (tracks : List Track) → machines_of tracks ≡ names_of (h ∷ room) → history_in tracks m ≡ []
    none-later [] of = refl
    none-later (t ∷ tracks) of =
        let same : t.machine ≡ h.machine = heads t.machine h.machine (machines_of tracks) (names_of room) of in
        let other : bytes_eq t.machine m ≡ false = ap (λ (x : List ℕ). bytes_eq x m) same ∙ is in
        rw other (miss.none tracks (tails t.machine h.machine (machines_of tracks) (names_of room) of))

find-at : (room : List Home) (m : List ℕ) → At room m ⊎ Missing room m
find-at [] m = inr (record { unseen = λ pass of. unseen-none pass of; none = λ tracks of. none-none tracks of })
  where
    unseen-none : (pass : List Sight) → IsPassOf [] pass → seen_in pass m ≡ []
    unseen-none [] of = refl
    unseen-none (s ∷ pass) of = absurd (no-cons (sym of))

    none-none : (tracks : List Track) → machines_of tracks ≡ names_of [] → history_in tracks m ≡ []
    none-none [] of = refl
    none-none (t ∷ tracks) of = absurd (no-cons (sym of))
find-at (h ∷ room) m = grind (arith, common_steps, named-here, named-later, missing-later, find-at room m)

-- ---- what is known of a machine
module _ (crew : Crew) (tracks : List Track) (room : List Home) (seats : List Seat) (pass : List Sight) (g : Gathered crew tracks room seats pass) where
  joining-at : (m : List ℕ) (at : At room m) → Joining (at.tracks_at tracks g.machines).track.history (parts_at at.place (at.pass_at pass g.of_room).sight seats) (at.pass_at pass g.of_room).sight
  joining-at m at = g.joining at.place (at.tracks_at tracks g.machines).track (at.pass_at pass g.of_room).sight (at.pass_at pass g.of_room).sight (at.tracks_at tracks g.machines).here (at.pass_at pass g.of_room).here

  -- the histories go on from what a seat's pass saw
  behind : (seat : Seat) → Contains seats seat → (m : List ℕ) → Follows (mark_in seat.pass m ∷ []) (seen_in seat.pass m) (seen_in pass m)
  behind seat one m = by-place (find-at room m)
    where
      of : IsPassOf room seat.pass
      of = let c = contains-at seats seat one in all-at (λ (i : Seat). IsPassOf room i.pass) seats c.0 seat g.seated c.1

      by-place : At room m ⊎ Missing room m → Follows (mark_in seat.pass m ∷ []) (seen_in seat.pass m) (seen_in pass m)
      by-place (inl at) =
          let f : SeenAt pass m at.place = at.pass_at pass g.of_room in
          let u : SeenAt seat.pass m at.place = at.pass_at seat.pass of in
          let c = contains-at seats seat one in
          let there : slice_get (parts_at at.place f.sight seats) c.0 ≡ Some (part_of (get_or seat.pass at.place f.sight)) = mapped-at (λ (i : Seat). part_of (get_or i.pass at.place f.sight)) seats c.0 seat c.1 in
          let same : get_or seat.pass at.place f.sight ≡ u.sight = get_or_from_slice_get seat.pass at.place u.sight f.sight u.here in
          let b : IsBehind f.sight.seen (part_of (get_or seat.pass at.place f.sight)) = all-at (IsBehind f.sight.seen) (parts_at at.place f.sight seats) c.0 (part_of (get_or seat.pass at.place f.sight)) (joining-at m at).behind there in
          let b2 : Follows (u.sight.mark ∷ []) u.sight.seen f.sight.seen = subst (λ (s : Sight). IsBehind f.sight.seen (part_of s)) same b in
          rw (f.seen, u.seen, u.mark) b2
      by-place (inr miss) = ([], miss.unseen pass g.of_room ∙ sym (miss.unseen seat.pass of ∙ refl) ∙ sym (nil-behind (seen_in seat.pass m)), tt)
        where
          nil-behind : (xs : List (Marked Placed)) → xs ++ [] ≡ xs
          nil-behind [] = refl
          nil-behind (x ∷ xs) = ap (λ (l : List (Marked Placed)). x ∷ l) (nil-behind xs)

  seat-of : (w : Joined) → Contains (map joined_of seats) w → (seat : Seat) × Contains seats seat × (joined_of seat ≡ w)
  seat-of w one =
      let c = contains-at (map joined_of seats) w one in
      let back : (seat : Seat) × (slice_get seats c.0 ≡ Some seat) × (joined_of seat ≡ w) = mapped-from joined_of seats c.0 w c.1 in
      (back.0, at-contains seats c.0 back.0 back.1, back.2)

  goes-on-seat : (seat : Seat) → Contains seats seat → GoesOn crew (seen_in pass) (joined_of seat)
  goes-on-seat seat one = record {
    rest = λ m. (behind seat one m).0;
    seen = λ m. (behind seat one m).1;
    others = λ m. (behind seat one m).2;
    made = let c = contains-at seats seat one in all-at (OwnsMade crew) seats c.0 seat g.owned c.1;
  }

  -- what is behind the kept entries
  record Back (m : List ℕ) : Type 0 where
    rest : List (Marked Placed)
    begins : seen_in pass m ≡ unmarked (history_in tracks m) ++ rest
    made : (place : ℕ) (x : Marked Placed) → slice_get rest place ≡ Some x → IsMadeByOne (map joined_of seats) m x

  back-of : (m : List ℕ) → Back m
  back-of m = by-place (find-at room m)
    where
      by-place : At room m ⊎ Missing room m → Back m
      by-place (inl at) =
          let f : SeenAt pass m at.place = at.pass_at pass g.of_room in
          let t : TrackAt tracks m at.place = at.tracks_at tracks g.machines in
          let j = joining-at m at in
          let by : AreBy (own_marks f.sight) f.sight.seen = all-at (λ (s : Sight). AreBy (own_marks s) s.seen) pass at.place f.sight g.whole f.here in
          let all : AllByRecursion (IsMadeByPart (parts_at at.place f.sight seats)) j.rest = joining-ends t.track.history (parts_at at.place f.sight seats) f.sight j by in
          record {
            rest = j.rest;
            begins = rw (f.seen, t.history) j.begins;
            made = λ place x is.
                let p : IsMadeByPart (parts_at at.place f.sight seats) x = all-at (IsMadeByPart (parts_at at.place f.sight seats)) j.rest place x all is in
                let back : (i : Seat) × (slice_get seats p.place ≡ Some i) × (part_of (get_or i.pass at.place f.sight) ≡ p.part) = mapped-from (λ (i : Seat). part_of (get_or i.pass at.place f.sight)) seats p.place p.part p.there in
                let seat : Seat = back.0 in
                let u : SeenAt seat.pass m at.place = at.pass_at seat.pass (all-at (λ (i : Seat). IsPassOf room i.pass) seats p.place seat g.seated back.1) in
                let same : get_or seat.pass at.place f.sight ≡ u.sight = get_or_from_slice_get seat.pass at.place u.sight f.sight u.here in
                record {
                  joined = joined_of seat;
                  one = at-contains (map joined_of seats) p.place (joined_of seat) (mapped-at joined_of seats p.place seat back.1);
                  mark = p.mark ∙ ap (λ (w : Part). Some w.mark) (sym back.2) ∙ ap (λ (s : Sight). Some s.mark) same ∙ ap (λ (n : ℕ). Some n) (sym u.mark);
                };
          }
      by-place (inr miss) = record {
        rest = [];
        begins = miss.unseen pass g.of_room ∙ ap (λ (h : List Placed). unmarked h ++ []) (sym (miss.none tracks g.machines));
        made = λ place x is. cc;
      }

  pub gathered-all : AreAll crew (history_in tracks) (seen_in pass) (map joined_of seats)
  gathered-all = record {
    each = λ w one. let s = seat-of w one in subst (GoesOn crew (seen_in pass)) s.2 (goes-on-seat s.0 s.1);
    apart = λ v w one two same.
        let i = seat-of v one in
        let j = seat-of w two in
        let authors : i.0.author ≡ j.0.author = ap (λ (x : Joined). x.author) i.2 ∙ same ∙ ap (λ (x : Joined). x.author) (sym j.2) in
        sym i.2 ∙ ap joined_of (g.apart i.0 j.0 i.1 j.1 authors) ∙ j.2;
    kept_are = λ m place p is. all-at (λ (e : Placed). e.author ≡ author.Kept) (history_in tracks m) place p (kept-in tracks g.kept m) is;
    rest = λ m. (back-of m).rest;
    begins = λ m. (back-of m).begins;
    made = λ m place x is. (back-of m).made place x is;
  }
