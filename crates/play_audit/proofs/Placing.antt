-- Private: no public contract cites this. A script's way along a journal, one reply further.
use Rattle.std.proofs.lemmas.Grind.{common_steps}
use Rattle.std.proofs.Common.{◌≡◌, ℕ, zero, suc, ◌+◌, ◌-◌, ◌^◌, false, ◌<◌, ◌≤◌, List, [], ◌∷◌, get_or, length, Option, Some, sym, ap, subst, ◌∙◌, arith}
use Rattle.std.{specs.List.AllByRecursion, proofs.lemmas.Option.get_or_from_slice_get, specs.Prelude.{slice_get, IfOk, IfSome, Result}}
use Rattle.history_model.specs.declared.entries.{Author.Author, Placed.Placed}
use Rattle.request_model.specs.{declared.requests.Request.Request, Requests.machine_of, declared.replies.Reply.Reply}
use Rattle.journal_walk.specs.Walks.{Walked, coming}
use Rattle.play_model.specs.Replies.{Adds, Tells, stands_alone}
use Rattle.journal_lines.specs.Lines.{HasLine}
use Rattle.journal_reader.proofs.Lists.{some_at}
use Rattle.play_audit.specs.{Places.{IsBehind, IsBy, IsSound, Knows, MayAsk}, Replies.IsCompared}

-- a walk may go on to what is named
pub may_go : (machine : List ℕ) (history : List Placed) (known step : ℕ) (w : Walked) → IsBy machine history known w → known ≤ step → step ≤ length history
    → IsBy w.track.machine w.history step w
may_go machine history known step w by since within = grind (arith, common_steps)

pub its_sound : (machine : List ℕ) (history : List Placed) (known : ℕ) (w : Walked) → IsBy machine history known w → IsSound history → IsSound w.history
its_sound machine history known w by sound = subst IsSound (sym by.same) sound

-- a request may be asked there
pub may_ask : (q : Request) (history : List Placed) (known step : ℕ) (w v : Walked) → IsBy (machine_of q) history known w → IsBehind w.track.machine w.history step v
    → length history < 2 ^ 64 → stands_alone q ≡ false → IsSound history → known ≤ step → MayAsk q v × Knows v known
may_ask q history known step w v by b few shared sound since = grind (arith, common_steps)

-- and is then behind it
pub has_gone : (machine : List ℕ) (history : List Placed) (known step : ℕ) (w v : Walked) → IsBy machine history known w → IsBehind w.track.machine w.history step v
    → IsBehind machine history step v
has_gone machine history known step w v by b = grind (arith, common_steps)

-- what was told behind it
module _ (machine : List ℕ) (history : List Placed) (known step : ℕ) (w : Walked) (b : IsBehind machine history step w) (text : List ℕ) where
  pub told_as : {E : Type 0} (q : Request) (found : Result (Option ℕ) E) → IsCompared (Tells w.history known q) text (length w.track.history) found → IsCompared (Tells history known q) text step found
  told_as q found told = grind (arith, common_steps)

  pub added_as : {E : Type 0} (author by_ : Author) (q : Request) (next-step : ℕ) (found : Result (Option ℕ) E) → by_ ≡ author → step + 1 ≡ next-step
      → IsCompared (Adds by_ w.history known q) text (length w.track.history + 1) found → IsCompared (Adds author history known q) text next-step found
  added_as author by_ q next-step found same is told = grind (arith, common_steps)

  -- the entry that comes next
  pub comes_next : (p : Placed) → slice_get history step ≡ Some p → coming w ≡ Some p
  comes_next p is = ap (λ (h : List Placed). slice_get h (length w.track.history)) b.by.same ∙ ap (slice_get history) b.there ∙ is

  pub stays_ok : {E : Type 0} (v : Walked) (found : Result (Option ℕ) E) → IfOk found (λ o. IfSome o (λ len. v ≡ w)) → IfOk found (λ o. IfSome o (λ len. IsBy machine history step v))
  stays_ok v found same = grind (arith, common_steps)

-- ---- behind a walk, of any request

-- ---- the entry of a step

pub placed_at : (xs : List Placed) (k : ℕ) (x : Placed) → k < length xs → x ≡ get_or xs k x → slice_get xs k ≡ Some x
placed_at xs k x below is =
    let s = some_at xs k below in
    let same : x ≡ s.0 = is ∙ get_or_from_slice_get xs k s.0 x s.1 in
    s.1 ∙ ap Some (sym same)

pub line_at_place : (xs : List Placed) (k : ℕ) (x : Placed) → AllByRecursion HasLine xs → slice_get xs k ≡ Some x → HasLine x
line_at_place [] zero x each is = absurd (cc)
line_at_place [] (suc k) x each is = absurd (cc)
line_at_place (y ∷ xs) zero x each is = let same : y ≡ x = cc in subst HasLine same each.0
line_at_place (y ∷ xs) (suc k) x each is = line_at_place xs k x each.1 is

pub not_new : (author : Author) (j : List Placed) (known step : ℕ) (q : Request) (r : Reply) → step ≡ known → Adds author j known q r → r.step ≡ step → ⊥
not_new author j known step q r same a its = grind (arith, common_steps)

pub not_its_own : (author : Author) (j : List Placed) (known step : ℕ) (q : Request) (r : Reply) (p : Placed) → slice_get j (step - 1) ≡ Some p → (p.author ≡ author → ⊥)
    → Adds author j known q r → r.step ≡ step → ⊥
not_its_own author j known step q r p there other a its = grind (arith, common_steps)
