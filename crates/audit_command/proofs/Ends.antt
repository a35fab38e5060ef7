-- How an audit ends, from what its parts promise.
use Rattle.std.{proofs.Common.{◌≡◌, ◌∙◌, ℕ, ◌^◌, inl, inr, length, List, ◌++◌, Ok, Err, refl, sym, arith}, specs.Prelude.option_map, specs.List.AllZip}
use Rattle.std.proofs.lemmas.List.{take_all}
use Rattle.track_outside.specs.{Calls.IsUntouched, Named.Call}
use Rattle.track_outside.specs.declared.files.Files as files
use Rattle.track_outside.specs.declared.sink.Sink as sink
use Rattle.track_outside.specs.declared.source.Source as source
use Rattle.audit_model.specs.declared.heard.Heard.{Heard}
use Rattle.audit_command.specs.declared.end.{FileStop.FileStop, AuditEnd.AuditEnd, AuditEnd.TheVariants.{Done, Differs, Unread, NoVerdict, WriteFault}}
use Rattle.audit_command.specs.declared.end.FileStop.TheVariants as stop
use Rattle.audit_command.specs.{Endings.{EndsFiles, EndsVerdict, HasCause}, Opening.{Asks, IsKept, IsOpen, WereMade, calls_for}, Reading.StopsAll}
use Rattle.audit_command.proofs.{Asked.kept_then, Gathered.past_at}

-- a sink that nothing was done to
pub untouched : {O : Type 0} (h : sink.Ghosts O) (out : O) → IsUntouched h out out
untouched h out = record { taken = refl; counts = omega arith }

module _ {F I O : Type 0} (g : files.Ghosts F I O) (i : source.Ghosts I) (names : List (List ℕ)) (old mid new : F) where
  noted_still : (made : List Call) → g.asked mid ≡ option_map (λ calls. calls ++ made) (g.asked old) → g.asked new ≡ g.asked mid → g.asked new ≡ option_map (λ calls. calls ++ made) (g.asked old)
  noted_still made is same = same ∙ is

  -- not all were opened
  pub ends_unopened : (why : FileStop) → Asks g names old mid (Err why) → IsKept g old mid → IsKept g mid new → g.asked new ≡ g.asked mid → EndsFiles g names old new (Unread why)
  ends_unopened stop.ReadFault asks kept then same = record {
    made = asks.made;
    were = inr asks.due;
    noted = noted_still asks.made asks.noted same;
    kept = kept_then g old mid new kept then;
    cause = omega (arith, asks.rose, then.reads);
  }
  ends_unopened (stop.TooLong place) asks kept then same = absurd asks.due
  ends_unopened stop.NoMemory asks kept then same = record {
    made = asks.made;
    were = asks.due;
    noted = noted_still asks.made asks.noted same;
    kept = kept_then g old mid new kept then;
    cause = tt;
  }

  -- all were opened, and not read
  pub ends_unread : (inputs : List I) (why : FileStop) → Asks g names old mid (Ok tt) → AllZip (IsOpen i (g.contents old)) names inputs → IsKept g old mid → StopsAll g i inputs (2 ^ 30) 0 mid new why
      → IsKept g mid new → g.asked new ≡ g.asked mid → EndsFiles g names old new (Unread why)
  ends_unread inputs stop.ReadFault asks opened kept stops then same = record {
    made = asks.made;
    were = inl asks.due;
    noted = noted_still asks.made asks.noted same;
    kept = kept_then g old mid new kept then;
    cause = omega (arith, kept.reads, stops);
  }
  ends_unread inputs (stop.TooLong place) asks opened kept stops then same = record {
    made = asks.made;
    were = asks.due;
    noted = noted_still asks.made asks.noted same;
    kept = kept_then g old mid new kept then;
    cause = past_at i (g.contents old) names inputs place stops.0 opened (omega (arith, stops.1)) stops.2;
  }
  ends_unread inputs stop.NoMemory asks opened kept stops then same = record {
    made = asks.made;
    were = (length (calls_for names), omega arith, asks.due ∙ sym (take_all (length (calls_for names)) (calls_for names) (omega arith)));
    noted = noted_still asks.made asks.noted same;
    kept = kept_then g old mid new kept then;
    cause = tt;
  }

  -- and all were read
  pub ends_read : Asks g names old mid (Ok tt) → IsKept g old mid → IsKept g mid new → g.asked new ≡ g.asked mid → EndsFiles g names old new Done
  ends_read asks kept then same = record {
    made = asks.made;
    were = asks.due;
    noted = noted_still asks.made asks.noted same;
    kept = kept_then g old mid new kept then;
    cause = tt;
  }

module _ {F I O : Type 0} (g : files.Ghosts F I O) (names : List (List ℕ)) (old new : F) where
  -- where all was read, it may end otherwise
  ends_as : (end : AuditEnd) (ends : EndsFiles g names old new Done) → WereMade (calls_for names) end ends.made → HasCause g names old new end → EndsFiles g names old new end
  ends_as end ends were cause = record { made = ends.made; were = were; noted = ends.noted; kept = ends.kept; cause = cause }

  -- memory may be wanting then
  pub ends_wanting : EndsFiles g names old new Done → EndsFiles g names old new (Unread stop.NoMemory)
  ends_wanting ends = ends_as (Unread stop.NoMemory) ends (length (calls_for names), omega arith, ends.were ∙ sym (take_all (length (calls_for names)) (calls_for names) (omega arith))) tt

  -- or there is a verdict, or none
  pub ends_told : {P : Type 0} (h : sink.Ghosts P) (bytes : List ℕ) (heard : List Heard) (out out' : P) (end : AuditEnd) → EndsFiles g names old new Done
      → EndsVerdict h bytes heard out out' end → EndsFiles g names old new end
  ends_told h bytes heard out out' (Unread why) ends told = absurd told
  ends_told h bytes heard out out' Done ends told = ends
  ends_told h bytes heard out out' (Differs verdict) ends told = ends_as (Differs verdict) ends ends.were tt
  ends_told h bytes heard out out' (NoVerdict why) ends told = ends_as (NoVerdict why) ends ends.were tt
  ends_told h bytes heard out out' WriteFault ends told = ends_as WriteFault ends ends.were tt
