-- What a keeper of rows tells, and what its calls make of it.
use Rattle.std.specs.{Prelude.{◌≡◌, ℕ, List, [], ◌∷◌, ◌++◌, Option, Result, Ok, Err, Contains, length, option_map, map, Vec}, declared.alloc.Global.Global}
use Rattle.track_outside.specs.{Counts.one_more, declared.source.Failed.Failed as Fault, declared.out_error.OutError.OutError}
use Rattle.track_outside.specs.declared.out_error.OutError.TheVariants.{Failed, NoMemory}

-- the bytes of rows
abbrev pub bytes_of : List (Vec ℕ Global) → List (List ℕ)
bytes_of rows = map (λ (row : Vec ℕ Global). row.items) rows

-- what is told, with more behind it
abbrev pub with_more : Option (List (List ℕ)) → List (List ℕ) → Option (List (List ℕ))
with_more told more = option_map (λ rows. rows ++ more) told

-- what is told, with a name behind it where the call answered, if only that it failed
abbrev pub with_name : {A : Type 0} → Result A OutError → List ℕ → Option (List (List ℕ))
    → Option (List (List ℕ))
with_name (Ok done) name told = with_more told (name ∷ [])
with_name (Err Failed) name told = with_more told (name ∷ [])
with_name (Err NoMemory) name told = told

-- a keeper in memory: its rows, the names started, the numbers of the calls that fail, counted from
-- 1, how many calls there were, and how many faults
pub record Store : Type 0 where
  pub kept : List (List ℕ)
  pub started : List (List ℕ)
  pub fails : List ℕ
  pub calls : ℕ
  pub faults : ℕ

-- an empty one before the first call
abbrev pub new_store : List ℕ → Store
new_store fails = record { kept = []; started = []; fails = fails; calls = 0; faults = 0 }

-- the next call is planned to fail
abbrev pub IsPlanned : Store → Type 0
IsPlanned store = Contains store.fails (one_more store.calls)

-- what a call makes of a keeper in memory: it fails exactly where it is planned to, which leaves
-- `failed`; else it leaves `done`; either way it is counted. Want of memory changes nothing
abbrev pub Answers : {A : Type 0} → Store → Store → Store → Store → Result A OutError → Type 0
Answers old new failed done (Ok answer) =
    (¬ IsPlanned old) × (new ≡ record done { calls = one_more old.calls })
Answers old new failed done (Err Failed) =
    IsPlanned old
    × (new ≡ record failed { calls = one_more old.calls; faults = one_more old.faults })
Answers old new failed done (Err NoMemory) = new ≡ old

-- what `count` makes of a keeper in memory
abbrev pub CountsRows : Store → Store → Result ℕ Fault → Type 0
CountsRows old new (Ok n) =
    (¬ IsPlanned old) × (n ≡ length old.kept) × (new ≡ record old { calls = one_more old.calls })
CountsRows old new (Err failed) =
    IsPlanned old × (new ≡ record old { calls = one_more old.calls; faults = one_more old.faults })

-- a keeper with a name behind those that were started
abbrev pub named : List ℕ → Store → Store
named name store = record store { started = store.started ++ name ∷ [] }

-- a keeper with more rows behind its own
abbrev pub extended : List (List ℕ) → Store → Store
extended rows store = record store { kept = store.kept ++ rows }
