-- Places of a room and of its passes.
use Rattle.std.proofs.Common.{◌≡◌, ◌≢◌, ℕ, zero, suc, Bool, true, false, List, [], ◌∷◌, append-nil, drop, get_or, set, length, ◌<◌, arith, refl, sym, ap, subst, ◌∙◌, Some, None}
use Rattle.std.specs.{Prelude.{◌||◌, bytes_eq, slice_get, unwrap_or, map, Result, IfOk, OnErr}, List.{list_any, AllByRecursion, AllZip}}
use Rattle.std.proofs.lemmas.{Slice.Eq.bytes_eq-Decides, Grind.common_steps}
use Rattle.history_lock.specs.declared.view.Marked.{Marked}
use Rattle.history_model.specs.declared.entries.{Placed.Placed, Author.Author}
use Rattle.request_model.specs.{declared.replies.Reply.Reply, declared.requests.Request.Request, Requests.machine_of}
use Rattle.request_model.specs.declared.requests.Request.TheVariants as request
use Rattle.request_model.specs.declared.replies.Refusal.TheVariants as refusal
use Rattle.play_model.specs.Replies.{is_of_history, why_apart}
use Rattle.track_room.specs.{Asked.{Asks, AsksBy, IsReplied, names_of}, Rooms.{IsFirst, IsPassOf, badge}, Sights.{Home, Sight, SeesMore, Visits, seeing}}
use Rattle.track_state.specs.Work.{Work}
use Rattle.track_room.proofs.Segments.{sees-again}

some-same : {A : Type 0} (x y : A) → Some x ≡ Some y → x ≡ y
some-same x y is = ap (λ o. unwrap_or o x) is

-- who has seen nothing new has seen more
pub sees-same : (s : Sight) → SeesMore s s
sees-same s = ([], tt, ap (λ (log : List (Marked Placed)). seeing s log) (sym (append-nil s.seen)))

pub all-same : (pass : List Sight) → AllZip SeesMore pass pass
all-same [] = tt
all-same (s ∷ pass) = (sees-same s, all-same pass)

-- one machine's pass has seen more
pub sees-at : (pass : List Sight) (place : ℕ) (s new : Sight) → slice_get pass place ≡ Some s → SeesMore s new → AllZip SeesMore pass (set pass place new)
sees-at [] place s new at sees = tt
sees-at (x ∷ pass) zero s new at sees = (subst (λ (y : Sight). SeesMore y new) (sym (some-same x s at)) sees, all-same pass)
sees-at (x ∷ pass) (suc place) s new at sees = (sees-same x, sees-at pass place s new at sees)

-- ---- which machine a request names

pub of-history : (names : List (List ℕ)) (q : Request) → ((machine : List ℕ) → q ≢ request.Machine machine)
    → (is_of_history names q ≡ list_any (λ (name : List ℕ). bytes_eq name (machine_of q)) names) × (why_apart q ≡ refusal.UnknownMachine)
of-history names q not = grind (arith, common_steps)

or-so : (b : Bool) {t : Bool} → t ≡ true → (b || t) ≡ true
or-so b is = grind (arith, common_steps)

-- the name of a machine that stands in the room is among the names
pub is-named : (room : List Home) (place : ℕ) (h : Home) (machine : List ℕ) → slice_get room place ≡ Some h → h.machine ≡ machine
    → list_any (λ (name : List ℕ). bytes_eq name machine) (names_of room) ≡ true
is-named [] place h machine at is = absurd (let no : None ≡ Some h = at in cc)
is-named (x ∷ room) zero h machine at is = grind (arith, common_steps, some-same, bytes_eq-Decides)
is-named (x ∷ room) (suc place) h machine at is = or-so (bytes_eq x.machine machine) (is-named room place h machine at is)

-- where each has another name, it isn't
pub not-named : (room : List Home) (machine : List ℕ) → AllByRecursion (λ (h : Home). bytes_eq h.machine machine ≡ false) room
    → list_any (λ (name : List ℕ). bytes_eq name machine) (names_of room) ≡ false
not-named [] machine others = refl
not-named (x ∷ room) machine others = ap (λ b. b || list_any (λ (name : List ℕ). bytes_eq name machine) (names_of room)) others.0 ∙ not-named room machine others.1

-- a pass of a room at a place where the room has a machine
pub at-place : (room : List Home) (pass : List Sight) (place : ℕ) (h : Home) → IsPassOf room pass → slice_get room place ≡ Some h → (s : Sight) × (slice_get pass place ≡ Some s) × (s.home ≡ h)
at-place room [] place h is at = absurd (let no : None ≡ Some h = subst (λ (hs : List Home). slice_get hs place ≡ Some h) (sym is) at in cc)
at-place [] (s ∷ pass) place h is at = absurd (let no : None ≡ Some h = at in cc)
at-place (x ∷ room) (s ∷ pass) zero h is at = (s, refl, ap (λ (hs : List Home). get_or hs 0 h) is ∙ some-same x h at)
at-place (x ∷ room) (s ∷ pass) (suc place) h is at = at-place room pass place h (ap (λ (hs : List Home). drop 1 hs) is) at

-- ---- a machine's pass that was changed

pub at-get : {A : Type 0} (xs : List A) (n : ℕ) (x d : A) → slice_get xs n ≡ Some x → get_or xs n d ≡ x
at-get [] n x d at = absurd (let no : None ≡ Some x = at in cc)
at-get (y ∷ xs) zero x d at = some-same y x at
at-get (y ∷ xs) (suc n) x d at = at-get xs n x d at

pub same-map : {A B : Type 0} (f : A → B) (xs : List A) (n : ℕ) (x y : A) → slice_get xs n ≡ Some x → f y ≡ f x → map f (set xs n y) ≡ map f xs
same-map f [] n x y at same = refl
same-map f (z ∷ xs) zero x y at same = ap (λ w. w ∷ map f xs) (same ∙ ap f (sym (some-same z x at)))
same-map f (z ∷ xs) (suc n) x y at same = ap (λ ws. f z ∷ ws) (same-map f xs n x y at same)

pub still-first : (pass : List Sight) (n : ℕ) (s new : Sight) → slice_get pass n ≡ Some s → badge new ≡ badge s → IsFirst pass → IsFirst (set pass n new)
still-first [] n s new at same first = first
still-first (x ∷ pass) zero s new at same first = (ap (λ (y : Sight). y.mark) (same ∙ ap badge (sym (some-same x s at))) ∙ first.0, first.1)
still-first (x ∷ pass) (suc n) s new at same first = (first.0, still-first pass n s new at same first.1)

-- who has seen more is the same
pub sees-badge : (old new : Sight) → SeesMore old new → badge new ≡ badge old
sees-badge old new sees = ap badge sees.2

pub asked-badge : {E : Type 0} (author : Author) (q : Request) (r : Result Reply E) (old new : Sight) → IfOk r (λ reply. IsReplied author q reply old new) → OnErr r (SeesMore old new)
    → badge new ≡ badge old
asked-badge author q r old new ok err = grind (arith, common_steps)

-- a reply by the machine at a place
pub asks-at : (room : List Home) (old : List Sight) (author : Author) (q : Request) (reply : Reply) (place : ℕ) (h : Home) (p new : Sight)
    → ((machine : List ℕ) → q ≢ request.Machine machine) → slice_get room place ≡ Some h → h.machine ≡ machine_of q → slice_get old place ≡ Some p
    → IsReplied author q reply p new → Asks room author q reply old (set old place new)
asks-at room old author q reply place h p new not stands named at is =
    let known : is_of_history (names_of room) q ≡ true = (of-history (names_of room) q not).0 ∙ is-named room place h (machine_of q) stands named in
    subst (λ (b : Bool). AsksBy b author q reply old (set old place new)) (sym known)
    (place, record { before = p; there = at; after = new; becomes = is; changed = refl })

-- ---- several machines' passes

pub all-sees-set : (old now : List Sight) (n : ℕ) (s new : Sight) → AllZip SeesMore old now → slice_get now n ≡ Some s → SeesMore s new → AllZip SeesMore old (set now n new)
all-sees-set [] [] n s new all at sees = tt
all-sees-set [] (y ∷ now) n s new all at sees = absurd all
all-sees-set (x ∷ old) [] n s new all at sees = absurd all
all-sees-set (x ∷ old) (y ∷ now) zero s new all at sees = (sees-again x y new all.0 (subst (λ (z : Sight). SeesMore z new) (sym (some-same y s at)) sees), all.1)
all-sees-set (x ∷ old) (y ∷ now) (suc n) s new all at sees = (all.0, all-sees-set old now n s new all.1 at sees)

-- what is read at a place
pub get-at : {A : Type 0} (xs : List A) (n : ℕ) (x : A) → n < length xs → x ≡ get_or xs n x → slice_get xs n ≡ Some x
get-at [] n x less is = absurd (omega (arith, less))
get-at (y ∷ xs) zero x less is = ap Some (sym is)
get-at (y ∷ xs) (suc n) x less is = get-at xs n x (omega (arith, less)) is

pub set-at : {A : Type 0} (xs : List A) (n : ℕ) (x : A) → n < length xs → slice_get (set xs n x) n ≡ Some x
set-at [] n x less = absurd (omega (arith, less))
set-at (y ∷ xs) zero x less = refl
set-at (y ∷ xs) (suc n) x less = set-at xs n x (omega (arith, less))

pub below-get : {A : Type 0} (xs : List A) (n : ℕ) (x : A) → slice_get xs n ≡ Some x → n < length xs
below-get [] n x at = absurd (let no : None ≡ Some x = at in cc)
below-get (y ∷ xs) zero x at = omega arith
below-get (y ∷ xs) (suc n) x at = let less = below-get xs n x at in omega (arith, less)

pub visits-badge : (Does : Work → Work → Type 0) (old new : Sight) → Visits Does old new → badge new ≡ badge old
visits-badge Does old new v = grind (arith, common_steps)

-- a pass of a room stays one where one machine's pass stays that machine's
pub still-of : (room : List Home) (xs : List Sight) (n : ℕ) (s new : Sight) → IsPassOf room xs → slice_get xs n ≡ Some s → badge new ≡ badge s → IsPassOf room (set xs n new)
still-of room xs n s new is at same = same-map (λ (t : Sight). t.home) xs n s new at (ap (λ (t : Sight). t.home) same) ∙ is
