-- A kept entry, added again where it is allowed.
use Rattle.std.specs.Prelude.{◌≡◌, ◌↔◌, ℕ, ℤ, ◌+◌, Bool, ◌&&◌, nat_lt, if◌then◌else◌, IsTrue, List, [], ◌∷◌, ◌++◌, length, is_none, Option, Some, None}
use Rattle.metric_table.specs.Limits.{most}
use Rattle.metric_table.specs.declared.limits.Limit.TheVariants as limit
use Rattle.history_model.specs.{declared.entries.Author.TheVariants.Kept, declared.entries.Entry.Entry, Allowed.Allowed}
use Rattle.history_model.specs.{Commits.{declarations, number_of, name_of}, Entries.entries_of, Runs.known_series}
use Rattle.machine_state.specs.Forms as forms
use Rattle.machine_state.specs.Tracks.{Track, with_entry}

-- the entry was added exactly where it was allowed; else nothing changed
pub record IsReplayed (old : Track) (e : Entry) (added : Bool) (new : Track) : Type 0 where
  pub allowed : IsTrue added ↔ Allowed (entries_of old.history) e
  pub track : new ≡ (if added then with_entry Kept old e else old)

-- how many series an allowed entry makes known; nothing where it isn't allowed
abbrev pub IsAllowance : List Entry → Entry → Option ℕ → Type 0
IsAllowance h e None = Allowed h e → ⊥
IsAllowance h e (Some more) = Allowed h e × (length (known_series (h ++ e ∷ [])) ≡ length (known_series h) + more)

-- a commit of a new pair, within the limits
abbrev pub commit_fits : List Entry → ℕ → List ℕ → Bool
commit_fits h number name =
    is_none (name_of number h) && is_none (number_of name h) && nat_lt (length (declarations h)) (most limit.Commits) && nat_lt (length h) (most limit.Steps)

-- a retraction of a live run, within the limits
abbrev pub retraction_fits : List Entry → List ℕ → Bool
retraction_fits h run = is_none (forms.retract_refusal h run) && nat_lt (length h) (most limit.Steps)

-- a setting in range, within the limits
abbrev pub tuning_fits : List Entry → List ℕ → ℤ → ℕ → Bool
tuning_fits h metric penalty len = is_none (forms.tune_refusal metric penalty len) && nat_lt (length h) (most limit.Steps)
