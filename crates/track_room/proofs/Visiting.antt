-- A pass that enters a lock and leaves it, as what it knows of the machine.
use Rattle.std.{proofs.Common.{◌≡◌, List, sym, ap, ◌∙◌, Option, Some, arith}, proofs.lemmas.Grind.common_steps, specs.Prelude.{IfOk, OnErr, Result}}
use Rattle.history_model.specs.{declared.entries.Author.Author, declared.entries.Entry.Entry, declared.entries.Placed.Placed, Runs.Series}
use Rattle.history_lock.specs.{declared.view.Marked.Marked, declared.lock.Pass.Pass, Marks.{Follows, entries}}
use Rattle.history_lock.specs.Passes as passes
use Rattle.request_model.specs.declared.replies.Reply.{Reply}
use Rattle.track_model.specs.{Outcomes.Outcome, Tracks.{Track, IsFinishStep, with_added, with_finished}}
use Rattle.track_state.specs.{Work.{Work, bare}, Publications.IsPublished, Published.Published}
use Rattle.segment_cost.specs.declared.done.Done.{Done}
use Rattle.track_room.specs.{Visits.{DoesOrStays, Grows, IsFound, Stays}, declared.guarded.Owner.Owner, Inside.{owner_of, sight_of}}
use Rattle.track_room.{specs.Sights.{Sight, AddsOneAtMost, SeesMore, Visits, seeing, track_of}, proofs.Known.{made, track_at}}

-- ---- a machine that grows by one entry at most

pub bare-added : (author : Author) (t : Track) (a : Option Entry) → bare (with_added author t a) ≡ with_added author (bare t) a
bare-added author t a = grind (arith, common_steps)

added-grows : (t u : Track) (author : Author) (a : Option Entry) → bare u ≡ with_added author (bare t) a → Grows t u
added-grows t u author a same = grind (arith, common_steps)

-- a finished segmentation adds what a step adds
pub bare-finished : (author : Author) (s : Series) (t : Track) (o : Outcome) → bare (with_finished author s t o) ≡ with_added author (bare t) o.adds
bare-finished author s t o = grind (arith, common_steps)

pub finish-grows : (t u : Track) (author : Author) (s : Series) (o : Outcome) (reply : Reply) → IsFinishStep t author s o u reply → Grows t u
finish-grows t u author s o reply is = added-grows t u author o.adds (ap bare is.track ∙ bare-finished author s t o)

result-grows : {A E : Type 0} (t u : Track) (P : A → Type 0) (r : Result A E) → ((x : A) → P x → Grows t u) → IfOk r P → OnErr r (bare u ≡ bare t) → Grows t u
result-grows t u P r to is err = grind (arith, common_steps)

pub if-ok : {A E : Type 0} (P Q : A → Type 0) (r : Result A E) → ((x : A) → P x → Q x) → IfOk r P → IfOk r Q
if-ok P Q r to is = grind (arith, common_steps)

pub on-err : {A E : Type 0} (P Q : Type 0) (r : Result A E) → (P → Q) → OnErr r P → OnErr r Q
on-err P Q r to is = grind (arith, common_steps)

pub stays-if : {A E : Type 0} (w u : Work) (P : A → Type 0) (N : Type 0) (r : Result A E) → ((x : A) → P x → bare u.track ≡ bare w.track) → (N → bare u.track ≡ bare w.track) → IfOk r P → OnErr r N → bare u.track ≡ bare w.track
stays-if w u P N r to or is err = grind (arith, common_steps)

-- a pass that was in a lock and added nothing has seen what others added
pub only-sees : (old found new : Sight) → SeesMore old found → AddsOneAtMost found new → track_of new ≡ track_of found → SeesMore old new
only-sees old found new sees x4 is = grind (arith, common_steps)

-- by what was done to its machine
pub stays-sees : (old new : Sight) → Visits Stays old new → SeesMore old new
stays-sees old new v = only-sees old v.found new v.sees v.adds (sym v.left ∙ v.does ∙ v.was)

pub visits-as : (Does Do : Work → Work → Type 0) → ((w u : Work) → Does w u → Do w u) → (old new : Sight) → Visits Does old new → Visits Do old new
visits-as Does Do to old new v = record {
  found = v.found;
  sees = v.sees;
  before = v.before;
  after = v.after;
  was = v.was;
  left = v.left;
  does = to v.before v.after v.does;
  adds = v.adds;
}

-- what is done where there is memory, and what is left where there is none
module _ {A E : Type 0} (w u : Work) (Does : A → Work → Work → Type 0) (told : Result A E) where
  pub does-or-stays : {N : Type 0} → IfOk told (λ x. Does x w u) → (N → Stays w u) → OnErr told N → DoesOrStays Does told w u
  does-or-stays {N} does or none = (does, on-err N (Stays w u) told or none)

  pub does-grows : ((x : A) → Does x w u → Grows w.track u.track) → DoesOrStays Does told w u → Grows w.track u.track
  does-grows to is = result-grows w.track u.track (λ x. Does x w u) told to is.0 is.1

-- and by a visit
module _ {A E : Type 0} (Does : A → Work → Work → Type 0) (old new : Sight) where
  pub visits-ok : (told : Result A E) → Visits (DoesOrStays Does told) old new → IfOk told (λ x. Visits (Does x) old new)
  visits-ok told v = grind (arith, common_steps, visits-as, old, new)

  pub visits-err : (told : Result A E) → Visits (DoesOrStays Does told) old new → OnErr told (SeesMore old new)
  visits-err told v = grind (arith, common_steps)

module _ {S : Type 0} (p p1 p2 : Pass S Placed Owner) (t u : Track) where
  -- what the pass knows once it has entered
  abbrev found : Sight
  found = seeing (sight_of p) (passes.seen p1)

  -- the machine that it finds
  found-at : t.history ≡ entries (passes.seen p1) → passes.label p ≡ Some (owner_of t) → track_of found ≡ bare t
  unfolding track_at
  found-at was labelled = grind (arith, common_steps)

  pub is-found : (before : Work) → before.track ≡ t → Follows (passes.own_marks p) (passes.seen p) (passes.seen p1) → t.history ≡ entries (passes.seen p1)
      → passes.label p ≡ Some (owner_of t) → IsFound (sight_of p) before
  is-found before before_is more was labelled = record {
    found = found;
    sees = (more.0, more.2, ap (λ (log : List (Marked Placed)). seeing (sight_of p) log) more.1);
    was = ap bare before_is ∙ sym (found-at was labelled);
  }

  left-is : passes.IsSame p p1 → passes.IsSame p1 p2 → sight_of p2 ≡ seeing (sight_of p) (passes.seen p2)
  unfolding made
  left-is one two = grind (arith, common_steps)

  -- by the state that was found, and the one that was left
  pub visited : (before after : Work) → before.track ≡ t → after.track ≡ u → (Does : Work → Work → Type 0) → passes.IsSame p p1 → Follows (passes.own_marks p) (passes.seen p) (passes.seen p1)
      → t.history ≡ entries (passes.seen p1) → passes.label p ≡ Some (owner_of t)
      → passes.IsSame p1 p2 → passes.AddsOneAtMost p1 p2 → u.history ≡ entries (passes.seen p2) → Grows t u → Does before after → Visits Does (sight_of p) (sight_of p2)
  unfolding track_at
  visited before after before_is after_is Does one more was labelled two adds ends grows does =
      let left : sight_of p2 ≡ seeing (sight_of p) (passes.seen p2) = left-is one two in
      let then : track_of (sight_of p2) ≡ bare u = grind (arith, common_steps) in
      record {
        found = found;
        sees = (more.0, more.2, ap (λ (log : List (Marked Placed)). seeing (sight_of p) log) more.1);
        before = before;
        after = after;
        was = ap bare before_is ∙ sym (found-at was labelled);
        left = ap bare after_is ∙ sym then;
        does = does;
        adds = grind (arith, common_steps);
      }

-- ---- what workers hand in

pub publish-grows : (t u : Track) (author : Author) (done : Done) (told : Published) → IsPublished t author done told u → Grows t u
publish-grows t u author done told is = grind (arith, common_steps)
