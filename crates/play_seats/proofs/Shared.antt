-- Private: no public contract cites this. The first pass of a room, from its beginning to where all passes are joined.
use Rattle.std.proofs.Common.{◌≡◌, ◌<◌, ℕ, zero, suc, List, [], ◌∷◌, ◌++◌, length, map, get_or, refl, sym, ap, subst, ◌∙◌, Some, arith, append_assoc, append-nil}
use Rattle.std.{specs.Prelude.{slice_get, bytes_eq, if◌then◌else◌}, specs.List.{AllByRecursion, AllZip}, proofs.lemmas.List.length-map}
use Rattle.std.proofs.lemmas.{Option.{slice_get_within, get_or_from_slice_get}, Grind.common_steps}
use Rattle.history_lock.specs.declared.view.Marked.{Marked}
use Rattle.history_model.specs.declared.entries.Placed.{Placed}
use Rattle.track_model.specs.Tracks.{Track}
use Rattle.track_room.specs.{Asked.names_of, Rooms.{AreSame, IsPassOf}, Sights.{Home, Sight, IsFirstOf, split_off, splitting}, Whole.AreOut}
use Rattle.track_room.proofs.Outs.{none-is-out, none-out-is-whole, split-goes-out, work-stays-out, join-comes-back}
use Rattle.play_fits.specs.Journals.{machines_of}
use Rattle.play_seats.specs.{Gathered.{AreJoining, parts_at}, Joining.{Joining, part_of}, Seats.{Seat, seen_in}}
use Rattle.play_seats.specs.Shared.{SplitsAll, JoinsAll, IsShared, EndsShared, AreKeptAs, HasSeenKept, onto, pass_of}
use Rattle.play_seats.proofs.{Joining.{joining-starts, joining-splits, joining-goes-on, all-unmarked}, Gathered.mapped-from}

-- ---- lists
onto-append : {A : Type 0} (xs behind : List A) → onto xs behind ≡ onto xs [] ++ behind
onto-append [] behind = refl
onto-append (x ∷ xs) behind = onto-append xs (x ∷ behind) ∙ sym (append_assoc (onto xs []) (x ∷ []) behind) ∙ ap (λ l. l ++ behind) (sym (onto-append xs (x ∷ [])))

stands-there : {A : Type 0} (xs : List A) (k : ℕ) (d : A) → k < length xs → slice_get xs k ≡ Some (get_or xs k d)
stands-there [] k d less = absurd (omega (arith, less))
stands-there (x ∷ xs) zero d less = refl
stands-there (x ∷ xs) (suc k) d less = stands-there xs k d (omega (arith, less))

long-of : (room : List Home) (pass : List Sight) → IsPassOf room pass → length pass ≡ length room
long-of room pass of = sym (length-map pass (λ (s : Sight). s.home)) ∙ ap length of

-- ---- which passes are out
splits-out : (old : List Sight) (befores : List (List Sight)) (new : List Sight) (outs : List (List Sight)) → SplitsAll old befores new → AreOut outs old → AreOut (onto befores outs) new
splits-out old [] new outs same out = subst (AreOut outs) (sym same) out
splits-out old (b ∷ befores) new outs splits out =
    splits-out (map splitting old) befores new (b ∷ outs) splits.1 (subst (λ (o : List Sight). AreOut (o ∷ outs) (map splitting old)) (sym splits.0) (split-goes-out outs old out))

works-out : (room : List Home) (befores : List (List Sight)) (afters : List Seat) (behind : List (List Sight)) (pass : List Sight) → length pass ≡ length room
    → AllZip (λ (b : List Sight) (i : Seat). AreSame b i.pass) befores afters → AllByRecursion (λ (i : Seat). IsPassOf room i.pass) afters
    → AreOut (onto befores behind) pass → AreOut (onto (map pass_of afters) behind) pass
works-out room [] [] behind pass long same seated out = out
works-out room [] (i ∷ afters) behind pass long same seated out = absurd same
works-out room (b ∷ befores) [] behind pass long same seated out = absurd same
works-out room (b ∷ befores) (i ∷ afters) behind pass long same seated out =
    let rest : AreOut (onto (map pass_of afters) (b ∷ behind)) pass = works-out room befores afters (b ∷ behind) pass long same.1 seated.1 out in
    let apart : AreOut (onto (map pass_of afters) [] ++ b ∷ behind) pass = subst (λ (o : List (List Sight)). AreOut o pass) (onto-append (map pass_of afters) (b ∷ behind)) rest in
    let size : length b ≡ length pass = sym (length-map b badge-of) ∙ sym (ap length same.0) ∙ length-map i.pass badge-of ∙ long-of room i.pass seated.0 ∙ sym long in
    subst (λ (o : List (List Sight)). AreOut o pass) (sym (onto-append (map pass_of afters) (i.pass ∷ behind)))
    (work-stays-out (onto (map pass_of afters) []) behind b i.pass pass same.0 size apart)
  where
    badge-of : Sight → Sight
    badge-of s = record { home = s.home; kept = s.kept; seen = []; mark = s.mark; given = s.given; joined = s.joined }

joins-in : (room : List Home) (afters : List Seat) (old new : List Sight) → length old ≡ length room → AllByRecursion (λ (i : Seat). IsPassOf room i.pass) afters
    → JoinsAll old (map pass_of afters) new → AreOut (onto (map pass_of afters) []) old → AreOut [] new
joins-in room [] old new long seated joins out = subst (AreOut []) (sym joins) out
joins-in room (i ∷ afters) old new long seated joins out =
    let between : List Sight = joins.0 in
    let apart : AreOut (onto (map pass_of afters) [] ++ i.pass ∷ []) old = subst (λ (o : List (List Sight)). AreOut o old) (onto-append (map pass_of afters) (i.pass ∷ [])) out in
    let back : AreOut (onto (map pass_of afters) [] ++ []) between = join-comes-back (onto (map pass_of afters) []) [] i.pass old between (long-of room i.pass seated.0 ∙ sym long) joins.1 apart in
    joins-in room afters between new (joins.1.long ∙ long) seated.1 joins.2 (subst (λ (o : List (List Sight)). AreOut o between) (append-nil (onto (map pass_of afters) [])) back)

-- ---- what the first pass knows
starts-joining : (tracks : List Track) (first : List Sight) → AllZip IsFirstOf tracks first → AreJoining tracks [] first
starts-joining [] [] all k t d s is here = cc
starts-joining [] (x ∷ first) all k t d s is here = absurd all
starts-joining (u ∷ tracks) [] all k t d s is here = absurd all
starts-joining (u ∷ tracks) (x ∷ first) all zero t d s is here = grind (arith, common_steps, joining-starts)
starts-joining (u ∷ tracks) (x ∷ first) all (suc k) t d s is here = starts-joining tracks first all.1 k t d s is here

splits-joining : (tracks : List Track) (old : List Sight) (befores : List (List Sight)) (new : List Sight) → SplitsAll old befores new → AreJoining tracks [] old → AreJoining tracks [] new
splits-joining tracks old [] new same knows = subst (AreJoining tracks []) (sym same) knows
splits-joining tracks old (b ∷ befores) new splits knows = splits-joining tracks (map splitting old) befores new splits.1 (λ k t d s is here.
    let back : (x : Sight) × (slice_get old k ≡ Some x) × (splitting x ≡ s) = mapped-from splitting old k s here in
    subst (λ (y : Sight). Joining t.history [] y) back.2 (joining-splits t.history [] back.0 (knows k t d back.0 is back.1)))

joins-joining : (tracks : List Track) (room : List Home) (afters seats : List Seat) (old new : List Sight) → length old ≡ length room → AllByRecursion (λ (i : Seat). IsPassOf room i.pass) afters
    → JoinsAll old (map pass_of afters) new → AreJoining tracks seats old → AreJoining tracks (onto afters seats) new
joins-joining tracks room [] seats old new long seated joins knows = subst (AreJoining tracks seats) (sym joins) knows
joins-joining tracks room (i ∷ afters) seats old new long seated joins knows =
    let between : List Sight = joins.0 in
    joins-joining tracks room afters (i ∷ seats) between new (joins.1.long ∙ long) seated.1 joins.2 (λ k t d s is here.
    let within : k < length between = slice_get_within between k s here in
    let below : k < length old = omega (arith, within, joins.1.long) in
    let among : k < length i.pass = omega (arith, below, long, long-of room i.pass seated.0) in
    let now : get_or between k d ≡ s = get_or_from_slice_get between k s d here in
    let was : Joining t.history (parts_at k d seats) (get_or old k d) = knows k t d (get_or old k d) is (stands-there old k d below) in
    subst (Joining t.history (part_of (get_or i.pass k d) ∷ parts_at k d seats)) now
    (joining-goes-on t.history (parts_at k d seats) (get_or old k d) (get_or i.pass k d) (get_or between k d) was (joins.1.joined k d among)))

-- ---- what each began with
seen-first : (tracks : List Track) (first : List Sight) → AllZip IsFirstOf tracks first → HasSeenKept tracks first
seen-first [] [] all m = refl
seen-first [] (x ∷ first) all m = absurd all
seen-first (t ∷ tracks) [] all m = absurd all
seen-first (t ∷ tracks) (x ∷ first) all m = grind (arith, common_steps, all-unmarked, bytes_eq, seen-first tracks first all.1 m)

seen-off : (pass : List Sight) (m : List ℕ) → seen_in (map split_off pass) m ≡ seen_in pass m
seen-off [] m = refl
seen-off (s ∷ pass) m = ap (λ (l : List (Marked Placed)). if bytes_eq s.home.machine m then s.seen else l) (seen-off pass m)

seen-splitting : (pass : List Sight) (m : List ℕ) → seen_in (map splitting pass) m ≡ seen_in pass m
seen-splitting [] m = refl
seen-splitting (s ∷ pass) m = ap (λ (l : List (Marked Placed)). if bytes_eq s.home.machine m then s.seen else l) (seen-splitting pass m)

all-began : (tracks : List Track) (old : List Sight) (befores : List (List Sight)) (new : List Sight) → SplitsAll old befores new → HasSeenKept tracks old → AllByRecursion (HasSeenKept tracks) befores
all-began tracks old [] new splits seen = tt
all-began tracks old (b ∷ befores) new splits seen = (
  λ m. ap (λ (o : List Sight). seen_in o m) splits.0 ∙ seen-off old m ∙ seen m,
  all-began tracks (map splitting old) befores new splits.1 (λ m. seen-splitting old m ∙ seen m),
)

names-first : (tracks : List Track) (first : List Sight) → AllZip IsFirstOf tracks first → machines_of tracks ≡ names_of (map (λ (s : Sight). s.home) first)
names-first [] [] all = refl
names-first [] (x ∷ first) all = absurd all
names-first (t ∷ tracks) [] all = absurd all
names-first (t ∷ tracks) (x ∷ first) all = ap (λ (u : Track). u.machine ∷ machines_of tracks) (sym all.0.0) ∙ ap (λ (l : List (List ℕ)). x.home.machine ∷ l) (names-first tracks first all.1)

splits-long : (old : List Sight) (befores : List (List Sight)) (new : List Sight) → SplitsAll old befores new → length new ≡ length old
splits-long old [] new same = ap length same
splits-long old (b ∷ befores) new splits = splits-long (map splitting old) befores new splits.1 ∙ length-map old splitting

-- ---- whether the store had a machine
zip-at : {A B : Type 0} (R : A → B → Type 0) (xs : List A) (ys : List B) → AllZip R xs ys → (k : ℕ) (y : B) → slice_get ys k ≡ Some y → (x : A) × (slice_get xs k ≡ Some x) × R x y
zip-at R [] [] all k y is = cc
zip-at R [] (z ∷ ys) all k y is = absurd all
zip-at R (x ∷ xs) [] all k y is = absurd all
zip-at R (x ∷ xs) (z ∷ ys) all zero y is = let same : z ≡ y = cc in (x, refl, subst (R x) same all.0)
zip-at R (x ∷ xs) (z ∷ ys) all (suc k) y is = zip-at R xs ys all.1 k y is

zip-from : {A B : Type 0} (R : A → B → Type 0) (xs : List A) (ys : List B) → length ys ≡ length xs → ((k : ℕ) (x : A) (y : B) → slice_get xs k ≡ Some x → slice_get ys k ≡ Some y → R x y) → AllZip R xs ys
zip-from R [] [] long each = tt
zip-from R [] (y ∷ ys) long each = absurd (omega (arith, long))
zip-from R (x ∷ xs) [] long each = absurd (omega (arith, long))
zip-from R (x ∷ xs) (y ∷ ys) long each = (each 0 x y refl refl, zip-from R xs ys (omega (arith, long)) (λ k. each (suc k)))

abbrev SameKept : Track → Sight → Type 0
SameKept t s = s.kept ≡ t.kept

first-kept : (tracks : List Track) (first : List Sight) → AllZip IsFirstOf tracks first → AreKeptAs tracks first
first-kept [] [] all = tt
first-kept [] (x ∷ first) all = absurd all
first-kept (t ∷ tracks) [] all = absurd all
first-kept (t ∷ tracks) (x ∷ first) all = (ap (λ (u : Track). u.kept) all.0.0, first-kept tracks first all.1)

splitting-kept : (tracks : List Track) (pass : List Sight) → AreKeptAs tracks pass → AreKeptAs tracks (map splitting pass)
splitting-kept [] [] all = tt
splitting-kept [] (x ∷ pass) all = absurd all
splitting-kept (t ∷ tracks) [] all = absurd all
splitting-kept (t ∷ tracks) (x ∷ pass) all = (all.0, splitting-kept tracks pass all.1)

splits-kept : (tracks : List Track) (old : List Sight) (befores : List (List Sight)) (new : List Sight) → SplitsAll old befores new → AreKeptAs tracks old → AreKeptAs tracks new
splits-kept tracks old [] new same kept = subst (AreKeptAs tracks) (sym same) kept
splits-kept tracks old (b ∷ befores) new splits kept = splits-kept tracks (map splitting old) befores new splits.1 (splitting-kept tracks old kept)

zip-long : {A B : Type 0} (R : A → B → Type 0) (xs : List A) (ys : List B) → AllZip R xs ys → length ys ≡ length xs
zip-long R [] [] all = refl
zip-long R [] (y ∷ ys) all = absurd all
zip-long R (x ∷ xs) [] all = absurd all
zip-long R (x ∷ xs) (y ∷ ys) all = let rest = zip-long R xs ys all.1 in omega (arith, rest)

joins-kept : (tracks : List Track) (room : List Home) (afters : List Seat) (old new : List Sight) → length old ≡ length room → AllByRecursion (λ (i : Seat). IsPassOf room i.pass) afters
    → JoinsAll old (map pass_of afters) new → AreKeptAs tracks old → AreKeptAs tracks new
joins-kept tracks room [] old new long seated joins kept = subst (AreKeptAs tracks) (sym joins) kept
joins-kept tracks room (i ∷ afters) old new long seated joins kept =
    let between : List Sight = joins.0 in
    let size : length between ≡ length tracks = joins.1.long ∙ zip-long SameKept tracks old kept in
    joins-kept tracks room afters between new (joins.1.long ∙ long) seated.1 joins.2 (zip-from SameKept tracks between size (λ k t s is here.
    let within : k < length between = slice_get_within between k s here in
    let below : k < length old = omega (arith, within, joins.1.long) in
    let among : k < length i.pass = omega (arith, below, long, long-of room i.pass seated.0) in
    let now : get_or between k s ≡ s = get_or_from_slice_get between k s s here in
    let was : (u : Track) × (slice_get tracks k ≡ Some u) × SameKept u (get_or old k s) = zip-at SameKept tracks old kept k (get_or old k s) (stands-there old k s below) in
    let same : was.0 ≡ t = some-same (sym was.1 ∙ is) in
    sym (ap (λ (x : Sight). x.kept) now) ∙ ap (λ (x : Sight). x.kept) (joins.1.joined k s among).2 ∙ was.2 ∙ ap (λ (u : Track). u.kept) same))
  where
    some-same : {a b : Track} → Some a ≡ Some b → a ≡ b
    some-same is = cc

pub sharing-ends : (tracks : List Track) (room : List Home) (befores : List (List Sight)) (afters : List Seat) (first last : List Sight) → IsShared tracks room befores afters first last
    → EndsShared tracks room befores afters last
sharing-ends tracks room befores afters first last s =
    let long : length s.between ≡ length room = splits-long first befores s.between s.splits ∙ long-of room first s.of_room in
    let out : AreOut (onto befores []) s.between = splits-out first befores s.between [] s.splits (none-is-out tracks first s.starts) in
    let worked : AreOut (onto (map pass_of afters) []) s.between = works-out room befores afters [] s.between long s.same s.seated out in
    record {
      machines = names-first tracks first s.starts ∙ ap (λ (r : List Home). names_of r) s.of_room;
      whole = none-out-is-whole last (joins-in room afters s.between last long s.seated s.joins worked);
      joining = joins-joining tracks room afters [] s.between last long s.seated s.joins (splits-joining tracks first befores s.between s.splits (starts-joining tracks first s.starts));
      same = joins-kept tracks room afters s.between last long s.seated s.joins (splits-kept tracks first befores s.between s.splits (first-kept tracks first s.starts));
      began = all-began tracks first befores s.between s.splits (seen-first tracks first s.starts);
    }
