-- No public contract cites this. A pass of a lock as what it knows of a machine.
use Rattle.std.specs.Prelude.{◌≡◌, ℕ, Bool, false, List, [], Option, Some, None}
use Rattle.history_model.specs.declared.entries.Placed.{Placed}
use Rattle.history_lock.specs.Passes as passes
use Rattle.history_lock.specs.declared.lock.Pass.{Pass}
use Rattle.track_room.specs.{declared.guarded.Owner.Owner, Sights.Sight}
use Rattle.track_model.specs.Tracks.{Track}

-- whose state it is
abbrev pub owner_of : Track → Owner
owner_of t = record { machine = t.machine; kept = t.kept }

abbrev pub machine_in : Option Owner → List ℕ
machine_in None = []
machine_in (Some o) = o.machine

abbrev pub kept_in : Option Owner → Bool
kept_in None = false
kept_in (Some o) = o.kept

module _ {S : Type 0} where
  -- what the pass knows
  abbrev pub sight_of : Pass S Placed Owner → Sight
  sight_of p = record {
    home = record { lock = passes.lock_of p; machine = machine_in (passes.label p) };
    kept = kept_in (passes.label p);
    seen = passes.seen p;
    mark = passes.mark p;
    given = passes.given p;
    joined = passes.joined p;
  }

  -- a pass between its calls: it is outside, and knows whose lock it is
  pub record IsAtRest (p : Pass S Placed Owner) : Type 0 where
    pub outside : passes.IsOutside p
    pub counted : p.splits ≡ passes.given p
    pub owner : Owner
    pub labelled : passes.label p ≡ Some owner
