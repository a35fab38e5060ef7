-- Passes of a lock, as what they know of a machine.
use Rattle.std.specs.FinSet as set
use Rattle.std.proofs.{Common.{◌≡◌, ℕ, List, [], ◌∷◌, refl, sym, ap, subst, ◌∙◌, Option, Some, None, arith}, lemmas.Grind.common_steps}
use Rattle.atomic_table.specs.Seated.{TableId}
use Rattle.history_model.specs.declared.entries.Placed.{Placed}
use Rattle.history_lock.specs.{declared.view.Marked.Marked, declared.lock.Pass.Pass, Marks.{AreBy, Follows, unmarked, entries}}
use Rattle.history_lock.specs.Passes as passes
use Rattle.track_room.specs.{declared.guarded.Owner.Owner, Inside.{owner_of, machine_in, kept_in, sight_of}}
use Rattle.track_model.specs.Tracks.{Track}
use Rattle.track_room.specs.Sights.{Sight, Ends, EndsWhole, IsFirstOf, Joins, seeing}

entries-unmarked : (es : List Placed) → entries (unmarked es) ≡ es
entries-unmarked [] = refl
entries-unmarked (e ∷ es) = ap (λ xs. e ∷ xs) (entries-unmarked es)

unmarked-by : (marks : List ℕ) (es : List Placed) → AreBy marks (unmarked es)
unmarked-by marks [] = tt
unmarked-by marks (e ∷ es) = ((λ m is. absurd (let no : None ≡ Some m = is in cc)), unmarked-by marks es)

-- the machine of a label, with a history
unfoldable pub track_at : Option Owner → List Placed → Track
track_at l h = record { machine = machine_in l; kept = kept_in l; history = h; home = set.empty }

-- what a pass knows, by its parts
unfoldable pub made : TableId → Option Owner → List (Marked Placed) → ℕ → ℕ → List ℕ → Sight
made z l log m g js =
    record { home = record { lock = z; machine = machine_in l }; kept = kept_in l; seen = log; mark = m; given = g; joined = js }

module _ {S : Type 0} where
  pub first-of : (p : Pass S Placed Owner) (t : Track) → passes.label p ≡ Some (owner_of t) → passes.seen p ≡ unmarked t.history
      → passes.mark p ≡ 0 → passes.given p ≡ 0 → passes.joined p ≡ [] → IsFirstOf t (sight_of p)
  unfolding track_at
  first-of p t labelled seen mark given joined =
      let history : entries (passes.seen p) ≡ t.history = ap (λ (log : List (Marked Placed)). entries log) seen ∙ entries-unmarked t.history in
      let by : AreBy [] (passes.seen p) = subst (λ (log : List (Marked Placed)). AreBy [] log) (sym seen) (unmarked-by [] t.history) in
      (ap (λ (l : Option Owner). track_at l (entries (passes.seen p))) labelled ∙ ap (λ (h : List Placed). track_at (Some (owner_of t)) h) history, mark, given, joined, by)

  pub joins : (p w q : Pass S Placed Owner) → passes.lock_of q ≡ passes.lock_of p → passes.label q ≡ passes.label p → passes.mark q ≡ passes.mark p
      → passes.given q ≡ passes.given p → passes.Joins p w q → Joins (sight_of p) (sight_of w) (sight_of q)
  unfolding made
  joins p w q lock labelled mark given joint = grind (arith, common_steps)

  -- the machine in a lock that was closed
  pub ends : (p : Pass S Placed Owner) (t : Track) → passes.label p ≡ Some (owner_of t)
      → ((log : List (Marked Placed)) × Follows (passes.own_marks p) (passes.seen p) log × (t.history ≡ entries log))
      → Ends (sight_of p) t
  unfolding track_at
  ends p t labelled found = (
    seeing (sight_of p) found.0,
    (found.1.0, found.1.2, ap (λ (log : List (Marked Placed)). seeing (sight_of p) log) found.1.1),
    ap (λ (h : List Placed). track_at (Some (owner_of t)) h) found.2 ∙ ap (λ (l : Option Owner). track_at l (entries found.0)) (sym labelled),
  )

  pub ends-whole : (p : Pass S Placed Owner) (t : Track) → passes.label p ≡ Some (owner_of t)
      → (t.history ≡ entries (passes.seen p)) × AreBy (passes.own_marks p) (passes.seen p) → EndsWhole (sight_of p) t
  unfolding track_at
  ends-whole p t labelled found = grind (arith, common_steps)

-- a lock and its machine, where it is that of a pass
pub home-of : {S : Type 0} (p : Pass S Placed Owner) (t : Track) (z : TableId) (machine : List ℕ) → passes.lock_of p ≡ z → passes.label p ≡ Some (owner_of t)
    → machine ≡ t.machine → (sight_of p).home ≡ record { lock = z; machine = machine }
home-of p t z machine lock labelled named = grind (arith, common_steps)
