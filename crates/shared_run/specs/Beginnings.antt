-- The machines that a shared run begins with, and what became of the keeper.
use Rattle.std.specs.Prelude.{◌≡◌, ◌≢◌, ℕ, List, [], ◌∷◌, Option, Some, None, IfSome, IsSome, Result, Ok, Err}
use Rattle.track_outside.specs.{Counts.Rose, Kept.with_more}
use Rattle.track_outside.specs.declared.keeper.Keeper as keeper
use Rattle.command_words.specs.Plans.{Plan}
use Rattle.track_model.specs.Tracks.{Track}
use Rattle.store_rows.specs.Faults.{MayHaveName}
use Rattle.keep_rows.specs.{Kept.AreKept, Loading.{Stored, nothing_stored, LeadTo, IsFirstBad}, Rows.new_rows}
use Rattle.shared_run.specs.declared.stop.RunStop.{RunStop, TheVariants.{NoMemory, StoreFault, BadStore, Full}}
use Rattle.shared_run.specs.Lists.{with_listed, IsFullAt}

-- what a store has: nothing where none is named, else the machines and the version that its rows lead to, where they are told
abbrev pub AreStored : {K : Type 0} → keeper.Ghosts K → (store : Option (List ℕ)) → K → Stored → Type 0
AreStored k None before stored = stored ≡ nothing_stored
AreStored k (Some name) before stored = AreKept stored.machines × IfSome (k.kept before) (λ rows. LeadTo rows stored)

-- what a run begins with: the machines of the store, then those of the list that it hasn't, and the version of the store
pub record Begins {K : Type 0} (k : keeper.Ghosts K) (plan : Plan) (before : K) (began : Stored)
    : Type 0 where
  pub stored : Stored
  pub from_store : AreStored k plan.store before stored
  pub listed : began.machines ≡ with_listed stored.machines plan.machines
  pub version : began.version ≡ stored.version

-- the keeper was started once by the store's name, or had no call where none is named
abbrev pub WasStarted : {K : Type 0} → keeper.Ghosts K → (store : Option (List ℕ)) → K → K → Type 0
WasStarted k None before after = after ≡ before
WasStarted k (Some name) before after = k.started after ≡ with_more (k.started before) (name ∷ [])

-- it was started so at most once, and has no other name more
abbrev pub MayBeStarted : {K : Type 0} → keeper.Ghosts K → (store : Option (List ℕ)) → K → K → Type 0
MayBeStarted k None before after = after ≡ before
MayBeStarted k (Some name) before after = MayHaveName name (k.started before) (k.started after)

-- so it was where the run isn't begun; only where memory was wanting the keeper of a store may not have been started
abbrev pub StartsAtMost : {K : Type 0} → keeper.Ghosts K → (store : Option (List ℕ)) → K → K → RunStop → Type 0
StartsAtMost k store before after why =
    MayBeStarted k store before after × (why ≢ NoMemory → WasStarted k store before after)

-- the machine at this place of the list is one too many
pub record IsOneTooMany {K : Type 0} (k : keeper.Ghosts K) (plan : Plan) (before : K) (place : ℕ)
    : Type 0 where
  pub stored : Stored
  pub from_store : AreStored k plan.store before stored
  pub full : IsFullAt stored.machines plan.machines place

-- why a store gives no machines
abbrev pub StoreCause : {K : Type 0} → keeper.Ghosts K → (store : Option (List ℕ)) → K → K → RunStop → Type 0
StoreCause k store before after NoMemory = Unit {0}
StoreCause k store before after StoreFault = IsSome store × Rose (k.faults before) (k.faults after)
StoreCause k store before after (BadStore row) =
    IsSome store × IfSome (k.kept before) (λ rows. IsFirstBad rows row)
StoreCause k store before after why = ⊥

-- why there are no machines to begin with
abbrev pub NoneCause : {K : Type 0} → keeper.Ghosts K → Plan → K → K → RunStop → Type 0
NoneCause k plan before after (Full place) = IsOneTooMany k plan before place
NoneCause k plan before after why = StoreCause k plan.store before after why

-- behind the run it has the new rows of the store's version behind its own where all is done, if a store is named; else it
-- has its own
abbrev pub Keeps : {K : Type 0} → keeper.Ghosts K → Plan → ℕ → List Track → K → K → Result (Unit {0}) RunStop
    → Type 0
Keeps k plan version journals before after (Ok done) =
    IsSome plan.store → k.kept after ≡ with_more (k.kept before) (new_rows version journals)
Keeps k plan version journals before after (Err why) = k.kept after ≡ k.kept before
