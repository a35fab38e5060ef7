-- Private: no public contract cites this. A request to a room is asked beside others.
use Rattle.std.proofs.Common.{◌≡◌, ◌≤◌, ◌<◌, ◌+◌, ◌-◌, ℕ, zero, suc, inl, inr, Bool, true, false, List, [], ◌∷◌, ◌++◌, length, map, refl, sym, ap, subst, ◌∙◌, Option, Some, arith, append-nil, length-append}
use Rattle.std.{specs.Prelude.{slice_get, slice_set, bytes_eq, if◌then◌else◌}, specs.List.AllByRecursion, proofs.lemmas.Option.slice_get_within}
use Rattle.std.{proofs.lemmas.Slice.Eq.bytes_eq-Decides, specs.List.AllZip, proofs.lemmas.Grind.common_steps}
use Rattle.history_lock.specs.{Marks.{AreByOthers, IsOtherMark, entries, marked}, declared.view.Marked.Marked}
use Rattle.history_model.specs.declared.entries.{Author.Author, Placed.Placed}
use Rattle.request_model.specs.{declared.requests.Request.Request, declared.replies.Reply.Reply, Requests.machine_of}
use Rattle.play_model.specs.Replies.{is_of_history, IsReplyOn, IsReplyWhere, Adds}
use Rattle.play_fits.specs.Passes as passes
use Rattle.play_fits.proofs.{Lists.{same-bytes, stands-behind, stays-before}, Passes.by-order, Whole.other-at as other-mark}
use Rattle.track_room.specs.Sights.{Home, Sight, SeesMore, AddsOne, own_marks, seeing, track_of}
use Rattle.track_room.specs.Asked.{IsAnswered, IsReplied, ChangesAt, AsksBy, Asks, names_of}
use Rattle.play_script.specs.Posts.{IsSamePost, AsksTold, WaitsAt}
use Rattle.play_seats.specs.Seats as seats
use Rattle.play_seats.specs.Seats.{seen_in, mark_in, sight_of, IsSeated, Seat, post_of, Stays, AnswersAt, FailsAt}

-- ---- names
eq-bytes : (xs : List ℕ) → bytes_eq xs xs ≡ true
eq-bytes xs = (bytes_eq-Decides xs xs).1 refl

-- ---- different machines, as a pass has them
abbrev IsOther : List ℕ → Sight → Type 0
IsOther machine s = bytes_eq machine s.home.machine ≡ false

abbrev AreDifferent : List Sight → Type 0
AreDifferent [] = Unit {0}
AreDifferent (s ∷ pass) = AllByRecursion (IsOther s.home.machine) pass × AreDifferent pass

others-of : (machine : List ℕ) (pass : List Sight) → AllByRecursion (seats.IsOther machine) (map (λ (s : Sight). s.home) pass) → AllByRecursion (IsOther machine) pass
others-of machine [] all = tt
others-of machine (s ∷ pass) all = (all.0, others-of machine pass all.1)

different-of : (pass : List Sight) → seats.AreDifferent (map (λ (s : Sight). s.home) pass) → AreDifferent pass
different-of [] all = tt
different-of (s ∷ pass) all = (others-of s.home.machine pass all.0, different-of pass all.1)

-- ---- what is seen of a machine, at its place

-- one at a place of the others is another machine
other-at : (machine : List ℕ) (pass : List Sight) (place : ℕ) (s : Sight) → AllByRecursion (IsOther machine) pass → slice_get pass place ≡ Some s → bytes_eq machine s.home.machine ≡ false
other-at machine [] place s all is = cc
other-at machine (t ∷ pass) zero s all is = let same : t ≡ s = cc in subst (λ (u : Sight). bytes_eq machine u.home.machine ≡ false) same all.0
other-at machine (t ∷ pass) (suc place) s all is = other-at machine pass place s all.1 is

-- what is found by the first place of a machine
module _ {A : Type 0} (found : List Sight → List ℕ → A) (pick : Sight → A)
    (first : (s : Sight) (pass : List Sight) (m : List ℕ) → found (s ∷ pass) m ≡ (if bytes_eq s.home.machine m then pick s else found pass m)) where
  found-at : (pass : List Sight) (place : ℕ) (s : Sight) → slice_get pass place ≡ Some s → AreDifferent pass → found pass s.home.machine ≡ pick s
  found-at [] place s is different = cc
  found-at (t ∷ pass) zero s is different = let same : t ≡ s = cc in rw (first t pass s.home.machine, sym same, eq-bytes t.home.machine) refl
  found-at (t ∷ pass) (suc place) s is different = rw (first t pass s.home.machine, other-at t.home.machine pass place s different.0 is) (found-at pass place s is different.1)

  -- another machine stays
  found-other : (pass : List Sight) (place : ℕ) (s t : Sight) (n : List ℕ) → slice_get pass place ≡ Some s → t.home ≡ s.home → bytes_eq s.home.machine n ≡ false → found (slice_set pass place t) n ≡ found pass n
  found-other [] place s t n is home other = refl
  found-other (u ∷ pass) zero s t n is home other = grind (arith, common_steps)
  found-other (u ∷ pass) (suc place) s t n is home other = grind (arith, common_steps, found-other pass place s t n is home other)

seen-at : (pass : List Sight) (place : ℕ) (s : Sight) → slice_get pass place ≡ Some s → AreDifferent pass → seen_in pass s.home.machine ≡ s.seen
seen-at = found-at seen_in (λ s. s.seen) (λ s pass m. refl)

mark-at : (pass : List Sight) (place : ℕ) (s : Sight) → slice_get pass place ≡ Some s → AreDifferent pass → mark_in pass s.home.machine ≡ s.mark
mark-at = found-at mark_in (λ s. s.mark) (λ s pass m. refl)

seen-other : (pass : List Sight) (place : ℕ) (s t : Sight) (n : List ℕ) → slice_get pass place ≡ Some s → t.home ≡ s.home → bytes_eq s.home.machine n ≡ false → seen_in (slice_set pass place t) n ≡ seen_in pass n
seen-other = found-other seen_in (λ s. s.seen) (λ s pass m. refl)

mark-other : (pass : List Sight) (place : ℕ) (s t : Sight) (n : List ℕ) → slice_get pass place ≡ Some s → t.home ≡ s.home → bytes_eq s.home.machine n ≡ false → mark_in (slice_set pass place t) n ≡ mark_in pass n
mark-other = found-other mark_in (λ s. s.mark) (λ s pass m. refl)

-- the machine itself, where its name stays
set-at : (pass : List Sight) (place : ℕ) (s t : Sight) → slice_get pass place ≡ Some s → slice_get (slice_set pass place t) place ≡ Some t
set-at [] place s t is = cc
set-at (u ∷ pass) zero s t is = refl
set-at (u ∷ pass) (suc place) s t is = set-at pass place s t is

set-different : (pass : List Sight) (place : ℕ) (s t : Sight) → slice_get pass place ≡ Some s → t.home ≡ s.home → AreDifferent pass → AreDifferent (slice_set pass place t)
set-different [] place s t is home different = different
set-different (u ∷ pass) zero s t is home different = grind (arith, common_steps)
set-different (u ∷ pass) (suc place) s t is home different = (set-others u.home.machine pass place s t is home different.0, set-different pass place s t is home different.1)
  where
    set-others : (machine : List ℕ) (rest : List Sight) (n : ℕ) (v w : Sight) → slice_get rest n ≡ Some v → w.home ≡ v.home → AllByRecursion (IsOther machine) rest → AllByRecursion (IsOther machine) (slice_set rest n w)
    set-others machine [] n v w at home all = all
    set-others machine (x ∷ rest) zero v w at home all =
        let same : x ≡ v = cc in
        (subst (λ (h : Home). bytes_eq machine h.machine ≡ false) (ap (λ (y : Sight). y.home) same ∙ sym home) all.0, all.1)
    set-others machine (x ∷ rest) (suc n) v w at home all = (all.0, set-others machine rest n v w at home all.1)

-- ---- what the pass has seen more of the machine
record Grown (before after : Sight) : Type 0 where
  suffix : List (Marked Placed)
  is : after ≡ seeing before (before.seen ++ suffix)

grown : (author : Author) (q : Request) (reply : Reply) (before after : Sight) → IsAnswered author q reply before after → Grown before after
grown author q reply before after x5 = grind (arith, common_steps)

-- ---- what it made of that
not-own : (m : ℕ) (ms : List ℕ) → IsOtherMark (m ∷ ms) (Some m) → ⊥
not-own m ms other = other.0 refl

-- an entry with the pass's mark among what it has seen more is the one that the reply tells
made-more : (author : Author) (q : Request) (reply : Reply) (before after : Sight) → IsReplied author q reply before after → (place : ℕ) (p : Placed) → length before.seen ≤ place
    → slice_get after.seen place ≡ Some (marked p (Some before.mark)) → Adds author (track_of after).history (length before.seen) q reply × (reply.step ≡ place + 1)
made-more author q reply before after r place p le is = by-answer r.answered
  where
    none-of : (more : List (Marked Placed)) (n : ℕ) → AreByOthers (own_marks before) more → slice_get more n ≡ Some (marked p (Some before.mark)) → ⊥
    none-of more n others at = not-own before.mark before.joined (other-mark (own_marks before) more n (marked p (Some before.mark)) others at)

    by-answer : IsAnswered author q reply before after → Adds author (track_of after).history (length before.seen) q reply × (reply.step ≡ place + 1)
    by-answer (inr tells) =
        let here : slice_get (before.seen ++ tells.1.0) place ≡ Some (marked p (Some before.mark)) = ap (λ (s : Sight). slice_get s.seen place) (sym tells.1.2) ∙ is in
        absurd (none-of tells.1.0 (place - length before.seen) tells.1.1 (stands-behind before.seen tells.1.0 place (marked p (Some before.mark)) le here))
    by-answer (inl adds) =
        let sees : SeesMore before adds.1.0 = adds.1.1 in
        let one : AddsOne adds.1.0 after = adds.1.2 in
        let e : Marked Placed = marked one.0 (Some adds.1.0.mark) in
        let all : after.seen ≡ (before.seen ++ sees.0) ++ e ∷ [] = ap (λ (s : Sight). s.seen) one.1 ∙ ap (λ (s : Sight). s.seen ++ e ∷ []) sees.2 in
        let here : slice_get ((before.seen ++ sees.0) ++ e ∷ []) place ≡ Some (marked p (Some before.mark)) = ap (λ (l : List (Marked Placed)). slice_get l place) (sym all) ∙ is in
        let len : length after.seen ≡ length (before.seen ++ sees.0) + 1 = ap length all ∙ length-append (before.seen ++ sees.0) (e ∷ []) in
        let step : reply.step ≡ length after.seen = r.at_step in
        by-order place (length (before.seen ++ sees.0))
        (λ within.
        let there : slice_get (before.seen ++ sees.0) place ≡ Some (marked p (Some before.mark)) = sym (stays-before (before.seen ++ sees.0) (e ∷ []) place within) ∙ here in
        absurd (none-of sees.0 (place - length before.seen) sees.1 (stands-behind before.seen sees.0 place (marked p (Some before.mark)) le there)))
        (λ behind.
        let last : place < length after.seen = slice_get_within after.seen place (marked p (Some before.mark)) is in
        (adds.0, omega (arith, behind, len, step, last)))

-- ---- the request
reply-on : (author : Author) (q : Request) (reply : Reply) (before after : Sight) → IsAnswered author q reply before after → IsReplyOn author (track_of after).history (length before.seen) q reply
reply-on author q reply before after x5 = grind (arith, common_steps)

-- what is to be shown, whether the request names a history or not
record AsksWhere (named : Bool) (author : Author) (q : Request) (reply : Reply) (old new : List Sight) : Type 0 where
  sees : passes.SeesMore (sight_of old) (sight_of new)
  replies : IsReplyWhere named author (passes.journal_of (sight_of new)) (passes.count_of (sight_of old)) q reply
  made : (n : List ℕ) (place : ℕ) (p : Placed) → passes.count_of (sight_of old) n ≤ place → passes.IsMadeBy (sight_of new) n place p
      → (machine_of q ≡ n) × Adds author (passes.journal_of (sight_of new) n) (passes.count_of (sight_of old) n) q reply × (reply.step ≡ place + 1)

-- one machine's sight became another
module _ (author : Author) (q : Request) (reply : Reply) (old : List Sight) (different : AreDifferent old) (at : ℕ) (b a : Sight) (there : slice_get old at ≡ Some b) (r : IsReplied author q reply b a) where
  abbrev suffix : List (Marked Placed)
  suffix = (grown author q reply b a r.answered).suffix

  is-grown : a ≡ seeing b (b.seen ++ suffix)
  is-grown = (grown author q reply b a r.answered).is

  home-same : a.home ≡ b.home
  home-same = ap (λ (s : Sight). s.home) is-grown

  mark-same : a.mark ≡ b.mark
  mark-same = ap (λ (s : Sight). s.mark) is-grown

  seen-same : a.seen ≡ b.seen ++ suffix
  seen-same = ap (λ (s : Sight). s.seen) is-grown

  seen-new : seen_in (slice_set old at a) b.home.machine ≡ a.seen
  seen-new = subst (λ (h : Home). seen_in (slice_set old at a) h.machine ≡ a.seen) home-same
      (seen-at (slice_set old at a) at a (set-at old at b a there) (set-different old at b a there home-same different))

  mark-new : mark_in (slice_set old at a) b.home.machine ≡ a.mark
  mark-new = subst (λ (h : Home). mark_in (slice_set old at a) h.machine ≡ a.mark) home-same
      (mark-at (slice_set old at a) at a (set-at old at b a there) (set-different old at b a there home-same different))

  abbrev more-in : Bool → List (Marked Placed)
  more-in true = suffix
  more-in false = []

  seen-more : (n : List ℕ) (same : Bool) → bytes_eq b.home.machine n ≡ same → seen_in (slice_set old at a) n ≡ seen_in old n ++ more-in same
  seen-more n true is =
      subst (λ (m : List ℕ). seen_in (slice_set old at a) m ≡ seen_in old m ++ suffix) (same-bytes b.home.machine n is)
      (seen-new ∙ seen-same ∙ ap (λ (l : List (Marked Placed)). l ++ suffix) (sym (seen-at old at b there different)))
  seen-more n false is = seen-other old at b a n there home-same is ∙ sym (append-nil (seen_in old n))

  marks-stay : (n : List ℕ) (same : Bool) → bytes_eq b.home.machine n ≡ same → mark_in (slice_set old at a) n ≡ mark_in old n
  marks-stay n true is =
      subst (λ (m : List ℕ). mark_in (slice_set old at a) m ≡ mark_in old m) (same-bytes b.home.machine n is) (mark-new ∙ mark-same ∙ sym (mark-at old at b there different))
  marks-stay n false is = mark-other old at b a n there home-same is

  made-new : (n : List ℕ) (same : Bool) → bytes_eq b.home.machine n ≡ same → (place : ℕ) (p : Placed) → passes.count_of (sight_of old) n ≤ place → passes.IsMadeBy (sight_of (slice_set old at a)) n place p
      → (machine_of q ≡ n) × Adds author (passes.journal_of (sight_of (slice_set old at a)) n) (passes.count_of (sight_of old) n) q reply × (reply.step ≡ place + 1)
  made-new n true is place p le made = subst (λ (m : List ℕ). passes.count_of (sight_of old) m ≤ place → passes.IsMadeBy (sight_of (slice_set old at a)) m place p
      → (machine_of q ≡ m) × Adds author (passes.journal_of (sight_of (slice_set old at a)) m) (passes.count_of (sight_of old) m) q reply × (reply.step ≡ place + 1)) (same-bytes b.home.machine n is)
      (λ from here.
      let old_seen : seen_in old b.home.machine ≡ b.seen = seen-at old at b there different in
      let entry : slice_get a.seen place ≡ Some (marked p (Some b.mark)) = grind (arith, common_steps, slice_get, seen-new, mark-new, mark-same) in
      let count : length (seen_in old b.home.machine) ≡ length b.seen = ap length old_seen in
      let known : Adds author (track_of a).history (length b.seen) q reply × (reply.step ≡ place + 1) = made-more author q reply b a r place p (omega (arith, from, count)) entry in (
        sym r.of_machine,
        subst (λ (k : ℕ). Adds author (passes.journal_of (sight_of (slice_set old at a)) b.home.machine) k q reply) (sym count)
            (subst (λ (l : List (Marked Placed)). Adds author (entries l) (length b.seen) q reply) (sym seen-new) known.0),
        known.1,
      ))
      le made
  made-new n false is place p le made =
      let stays : seen_in (slice_set old at a) n ≡ seen_in old n = seen-other old at b a n there home-same is in
      let here : slice_get (seen_in old n) place ≡ Some (marked p (Some (mark_in (slice_set old at a) n))) = ap (λ (l : List (Marked Placed)). slice_get l place) (sym stays) ∙ made in
      let within : place < length (seen_in old n) = slice_get_within (seen_in old n) place (marked p (Some (mark_in (slice_set old at a) n))) here in
      absurd (omega (arith, within, le))

  asks-one : AsksWhere true author q reply old (slice_set old at a)
  asks-one = record {
    sees = record {
      marks = λ n. marks-stay n (bytes_eq b.home.machine n) refl;
      more = λ n. more-in (bytes_eq b.home.machine n);
      seen = λ n. seen-more n (bytes_eq b.home.machine n) refl;
    };
    replies = subst (λ (m : List ℕ). IsReplyOn author (passes.journal_of (sight_of (slice_set old at a)) m) (passes.count_of (sight_of old) m) q reply) r.of_machine
        (subst (λ (k : ℕ). IsReplyOn author (passes.journal_of (sight_of (slice_set old at a)) b.home.machine) k q reply) (sym (ap length (seen-at old at b there different)))
        (subst (λ (l : List (Marked Placed)). IsReplyOn author (entries l) (length b.seen) q reply) (sym seen-new) (reply-on author q reply b a r.answered)));
    made = λ n place p le made. made-new n (bytes_eq b.home.machine n) refl place p le made;
  }

asks-where : (named : Bool) (author : Author) (q : Request) (reply : Reply) (old new : List Sight) → AreDifferent old → AsksBy named author q reply old new → AsksWhere named author q reply old new
asks-where true author q reply old new different asks =
    let c : ChangesAt asks.0 (IsReplied author q reply) old new = asks.1 in
    subst (λ (l : List Sight). AsksWhere true author q reply old l) (sym c.changed) (asks-one author q reply old different asks.0 c.before c.after c.there c.becomes)
asks-where false author q reply old new different asks = rw asks.1 (record {
  sees = record { marks = λ n. refl; more = λ n. []; seen = λ n. sym (append-nil (seen_in old n)) };
  replies = asks.0;
  made = grind (arith, common_steps, length, slice_get_within);
})

room-asks-beside : (room : List Home) (author : Author) (q : Request) (reply : Reply) (old new : List Sight) → IsSeated room old → Asks room author q reply old new → passes.Asks author (names_of room) (sight_of old) q reply (sight_of new)
room-asks-beside room author q reply old new seated asks =
    let different : AreDifferent old = different-of old (subst seats.AreDifferent (sym seated.of_room) seated.different) in
    let w : AsksWhere (is_of_history (names_of room) q) author q reply old new = asks-where (is_of_history (names_of room) q) author q reply old new different asks in
    record { sees = w.sees; replies = w.replies; made = w.made }

-- ---- memory is wanting
record Waited (old new : List Sight) : Type 0 where
  more : List ℕ → List (Marked Placed)
  seen : (n : List ℕ) → seen_in new n ≡ seen_in old n ++ more n
  marks : (n : List ℕ) → mark_in new n ≡ mark_in old n
  none : (n : List ℕ) (place : ℕ) (p : Placed) → length (seen_in old n) ≤ place → slice_get (seen_in new n) place ≡ Some (marked p (Some (mark_in new n))) → ⊥

waited : (old new : List Sight) → AllZip SeesMore old new → Waited old new
waited [] [] sees = record { more = λ n. []; seen = λ n. refl; marks = λ n. refl; none = λ n place p le is. cc }
waited [] (t ∷ new) sees = absurd sees
waited (s ∷ old) [] sees = absurd sees
waited (s ∷ old) (t ∷ new) sees =
    let one : SeesMore s t = sees.0 in
    let rest : Waited old new = waited old new sees.1 in
    let home : t.home ≡ s.home = ap (λ (u : Sight). u.home) one.2 in
    record {
      more = λ n. if bytes_eq s.home.machine n then one.0 else rest.more n;
      seen = λ n. rw home (seen-one (bytes_eq s.home.machine n) s.seen one.0 t.seen (seen_in old n) (seen_in new n) (rest.more n) (ap (λ (u : Sight). u.seen) one.2) (rest.seen n));
      marks = λ n. rw home (mark-one (bytes_eq s.home.machine n) t.mark s.mark (mark_in new n) (mark_in old n) (ap (λ (u : Sight). u.mark) one.2) (rest.marks n));
      none = λ n place p. rw home (none-one (bytes_eq s.home.machine n) place p s.seen one.0 t.seen (seen_in old n) (seen_in new n) t.mark (mark_in new n) (ap (λ (u : Sight). u.seen) one.2)
          (λ k at. not-own s.mark s.joined (subst (λ (m : ℕ). IsOtherMark (own_marks s) (Some m)) (ap (λ (u : Sight). u.mark) one.2) (other-mark (own_marks s) one.0 k (marked p (Some t.mark)) one.1 at)))
          (rest.none n place p));
    }
  where
    seen-one : (b : Bool) (before more after others news mores : List (Marked Placed)) → after ≡ before ++ more → news ≡ others ++ mores → (if b then after else news) ≡ (if b then before else others) ++ (if b then more else mores)
    seen-one true before more after others news mores one two = one
    seen-one false before more after others news mores one two = two

    mark-one : (b : Bool) (after before news others : ℕ) → after ≡ before → news ≡ others → (if b then after else news) ≡ (if b then before else others)
    mark-one true after before news others one two = one
    mark-one false after before news others one two = two

    none-one : (b : Bool) (place : ℕ) (p : Placed) (before more after others news : List (Marked Placed)) (am nm : ℕ) → after ≡ before ++ more → ((k : ℕ) → slice_get more k ≡ Some (marked p (Some am)) → ⊥)
        → (length others ≤ place → slice_get news place ≡ Some (marked p (Some nm)) → ⊥)
        → length (if b then before else others) ≤ place → slice_get (if b then after else news) place ≡ Some (marked p (Some (if b then am else nm))) → ⊥
    none-one true place p before more after others news am nm is none later le made =
        none (place - length before) (stands-behind before more place (marked p (Some am)) le (ap (λ (l : List (Marked Placed)). slice_get l place) (sym is) ∙ made))
    none-one false place p before more after others news am nm is none later le made = later le made

-- ---- a script's place, as a post
same-post : (before after : Seat) → Stays before after → IsSamePost (post_of before) (post_of after)
same-post before after stays = record { author = stays.author; machines = ap names_of stays.room }

pub asks-told : (before : Seat) (q : Request) (told : Option Reply) (after : Seat) → AnswersAt before q told after → AsksTold (post_of before) q told (post_of after)
asks-told before q told after a = grind (arith, common_steps, same-post, room-asks-beside)

pub waits-at : (before after : Seat) → FailsAt before after → WaitsAt (post_of before) (post_of after)
waits-at before after f = grind (arith, common_steps, waited, same-post)
