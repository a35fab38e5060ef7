-- What a worker's pass has seen, call after call.
use Rattle.std.proofs.Common.{◌≡◌, ◌⊎◌, inl, ℕ, zero, suc, ◌+◌, List, [], ◌∷◌, ◌++◌, sym, ap, subst, ◌∙◌, Option, Some, arith}
use Rattle.std.{specs.Prelude.{slice_get, slice_set}, specs.List.{AllByRecursion, AllZip}, proofs.lemmas.Grind.common_steps}
use Rattle.std.proofs.lemmas.List.{append-nil, append_assoc}
use Rattle.metric_table.specs.declared.limits.Limit.{Limit}
use Rattle.segment_cost.specs.declared.done.Done.{Done}
use Rattle.history_lock.specs.{declared.view.Marked.Marked, Marks.AreByOthers}
use Rattle.history_model.specs.declared.entries.{Author.Author, Placed.Placed}
use Rattle.track_model.specs.Tracks.{Track, with_entry}
use Rattle.track_room.specs.{Work.bare, Asked.ChangesAt, Sights.{AddsOneAtMost, SeesMore, Sight, Visits, own_marks, seeing}, Taking.Publishes}
use Rattle.track_room.specs.{Publications.{IsAdded, IsTaken}, Published.Published}
use Rattle.machine_state.specs.Made.{entry_of}
use Rattle.recompute_workers.specs.Works.{IsByWorker, Works}

pub works-none : (author : Author) (s : Sight) → Works author s s
works-none author s = ([], tt, ap (λ (log : List (Marked Placed)). seeing s log) (sym (append-nil s.seen)))

by-others : (author : Author) (s : Sight) (more : List (Marked Placed)) → AreByOthers (own_marks s) more → AllByRecursion (IsByWorker author s) more
by-others author s [] others = tt
by-others author s (x ∷ xs) others = (inl others.0, by-others author s xs others.1)

pub works-sees : (author : Author) (old new : Sight) → SeesMore old new → Works author old new
works-sees author old new sees = (sees.0, by-others author old sees.0 sees.1, sees.2)

all-append : {A : Type 0} (P : A → Type 0) (xs ys : List A) → AllByRecursion P xs → AllByRecursion P ys → AllByRecursion P (xs ++ ys)
all-append P [] ys one two = two
all-append P (x ∷ xs) ys one two = (one.0, all-append P xs ys one.1 two)

pub works-trans : (author : Author) (a b c : Sight) → Works author a b → Works author b c → Works author a c
works-trans author a b c first then = (
  first.0 ++ then.0,
  all-append (IsByWorker author a) first.0 then.0 first.1 (subst (λ (s : Sight). AllByRecursion (IsByWorker author s) then.0) first.2 then.1),
  then.2 ∙ ap (λ (s : Sight). seeing s (s.seen ++ then.0)) first.2
      ∙ ap (λ (log : List (Marked Placed)). seeing a log) (append_assoc a.seen first.0 then.0),
)

-- ---- a publication
not-longer : {A : Type 0} (xs : List A) (a : A) → xs ++ a ∷ [] ≡ xs → ⊥
not-longer xs a is = grind (arith, common_steps)

last-same : {A : Type 0} (xs : List A) (a b : A) → xs ++ a ∷ [] ≡ xs ++ b ∷ [] → a ≡ b
last-same [] a b is = cc
last-same (x ∷ xs) a b is = last-same xs a b (cc)

added-of : (l : Option Limit) (old : Track) (author : Author) (done : Done) (told : Published) (new : Track) → IsAdded l old author done told new → (bare new ≡ bare old) ⊎ (bare new ≡ bare (with_entry author old (entry_of done)))
added-of l old author done told new is = grind (arith, common_steps)

taken-of : (o : Option ℕ) (old : Track) (author : Author) (done : Done) (told : Published) (new : Track) → IsTaken o old author done told new → (bare new ≡ bare old) ⊎ (bare new ≡ bare (with_entry author old (entry_of done)))
taken-of o old author done told new is = grind (arith, common_steps)

module _ (author : Author) (done : Done) (told : Published) (old new : Sight) (visits : Visits (Publishes author done told) old new) where
  own : AddsOneAtMost visits.found new → Works author visits.found new
  own x0 = grind (arith, common_steps)

  pub works-publishes : Works author old new
  works-publishes = works-trans author old visits.found new (works-sees author old visits.found visits.sees) (own visits.adds)

-- ---- all machines
module _ (R : Sight → Sight → Type 0) where
  pub zip-none : ((s : Sight) → R s s) → (xs : List Sight) → AllZip R xs xs
  zip-none same [] = tt
  zip-none same (x ∷ xs) = (same x, zip-none same xs)

  pub zip-trans : ((a b c : Sight) → R a b → R b c → R a c) → (xs ys zs : List Sight) → AllZip R xs ys → AllZip R ys zs → AllZip R xs zs
  zip-trans trans [] [] [] one two = tt
  zip-trans trans [] [] (z ∷ zs) one two = absurd two
  zip-trans trans [] (y ∷ ys) zs one two = absurd one
  zip-trans trans (x ∷ xs) [] zs one two = absurd one
  zip-trans trans (x ∷ xs) (y ∷ ys) [] one two = absurd two
  zip-trans trans (x ∷ xs) (y ∷ ys) (z ∷ zs) one two = (trans x y z one.0 two.0, zip-trans trans xs ys zs one.1 two.1)

  pub zip-from : (Q : Sight → Sight → Type 0) → ((a b : Sight) → Q a b → R a b) → (xs ys : List Sight) → AllZip Q xs ys → AllZip R xs ys
  zip-from Q weaker [] [] one = tt
  zip-from Q weaker [] (y ∷ ys) one = absurd one
  zip-from Q weaker (x ∷ xs) [] one = absurd one
  zip-from Q weaker (x ∷ xs) (y ∷ ys) one = (weaker x y one.0, zip-from Q weaker xs ys one.1)

  pub zip-change : ((s : Sight) → R s s) → (xs : List Sight) (place : ℕ) (before after : Sight) → slice_get xs place ≡ Some before → R before after → AllZip R xs (slice_set xs place after)
  zip-change same [] place before after there changed = grind (arith, common_steps)
  zip-change same (x ∷ xs) zero before after there changed = grind (arith, common_steps, zip-none)
  zip-change same (x ∷ xs) (suc k) before after there changed = (same x, zip-change same xs k before after there changed)

-- what one machine's change makes of all
pub works-change : (author : Author) (place : ℕ) (Becomes : Sight → Sight → Type 0) → ((a b : Sight) → Becomes a b → Works author a b) → (old new : List Sight)
    → ChangesAt place Becomes old new → AllZip (Works author) old new
works-change author place Becomes weaker old new is = grind (arith, common_steps, zip-change, works-none)
