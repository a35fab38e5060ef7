-- No public contract cites this. Reading on until so many bytes are kept.
use Rattle.std.specs.Prelude.{◌≡◌, ℕ, ◌<◌, ◌≤◌, Bool, true, false, List, [], ◌++◌, length, Option, Some, None, IfSome}
use Rattle.track_outside.specs.declared.source.Source.{Ghosts}
use Rattle.request_reader.specs.{declared.stop.ReadStop.ReadStop, Scripts.{unfinished, Reads}, Unread.Unread, Filling.Gains, Parts.Fails}

-- as long as fewer bytes than so many are kept, it takes more to tell what they ask
abbrev pub NeedsMore : Unread → ℕ → Type 0
NeedsMore old total =
    (more : List ℕ) → length (old.kept ++ more) < total → Reads false old.before (old.kept ++ more) [] unfinished

-- so many bytes are kept, or all that were left are
abbrev pub HasEnough : ℕ → ℕ → Option (List ℕ) → Bool → Type 0
HasEnough total count after true = total ≤ count
HasEnough total count after false = (count < total) × IfSome after (λ left. left ≡ [])

-- the source gave bytes until there were enough
pub record Gathers (old new : Unread) (before after : Option (List ℕ)) (total : ℕ) (enough : Bool) : Type 0 where
  pub given : List ℕ
  pub gains : Gains old new before after given
  pub has : HasEnough total (length new.kept) after enough

-- the same of a source before and after it
abbrev pub GathersFrom : {S : Type 0} → Ghosts S → Unread → Unread → S → S → ℕ → Bool → Type 0
GathersFrom g old new from to total enough = Gathers old new (g.left from) (g.left to) total enough

-- there were enough, or the source gave more
abbrev pub Grows : Unread → Unread → Option (List ℕ) → Option (List ℕ) → ℕ → Option Bool → Type 0
Grows old new before after total (Some enough) = Gathers old new before after total enough
Grows old new before after total None =
    (length old.kept < total) × ((given : List ℕ) × (0 < length given) × Gains old new before after given)

-- reading stopped, where it took more
abbrev pub FailsNeed : {S : Type 0} → Ghosts S → Unread → S → S → ℕ → ReadStop → Type 0
FailsNeed g old from to total stop = NeedsMore old total → Fails g old from to stop
