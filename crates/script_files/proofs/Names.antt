-- Names and their bytes, while transcripts are closed.
use Rattle.std.proofs.{Common.{◌≡◌, ℕ, Bool, inl, inr, List, [], ◌∷◌, Option, Some, None, subst, arith}, lemmas.Grind.common_steps}
use Rattle.std.specs.{Prelude.{bytes_eq, if◌then◌else◌, option_map, IsSome, IsNone}, List.AllByRecursion}
use Rattle.std.proofs.lemmas.{Bool.cases_Bool, Slice.Eq.bytes_eq-Decides}
use Rattle.track_outside.specs.Named.{NamedBytes, bytes_at, with_bytes}
use Rattle.track_outside.specs.declared.sink.Sink as sink
use Rattle.script_files.specs.{declared.open.OpenScript.OpenScript, Closing.{IsClosable, AreClosable, with_written}}

either_there : (b : Bool) (x y : List ℕ) (z : Option (List ℕ)) → IsSome (if b then Some x else z) → IsSome (if b then Some y else z)
either_there b x y z there = grind (arith, common_steps)

later_there : (b : Bool) (x : List ℕ) (z z' : Option (List ℕ)) → (IsSome z → IsSome z') → IsSome (if b then Some x else z) → IsSome (if b then Some x else z')
later_there b x z z' go there = grind (arith, common_steps)

-- a name that is there stays there
pub still_there : (name bytes other : List ℕ) (names : List NamedBytes) → IsSome (bytes_at other names) → IsSome (bytes_at other (with_bytes name bytes names))
still_there name bytes other [] there = absurd (cc)
still_there name bytes other (f ∷ names) there = elim (cases_Bool (bytes_eq f.name name)) [
  | inl same ↦ rw same (either_there (bytes_eq name other) f.bytes bytes (bytes_at other names)
      (subst (λ (n : List ℕ). IsSome (if bytes_eq n other then Some f.bytes else bytes_at other names)) ((bytes_eq-Decides f.name name).0 same) there))
  | inr apart ↦ rw apart (later_there (bytes_eq f.name other) f.bytes (bytes_at other names) (bytes_at other (with_bytes name bytes names))
      (still_there name bytes other names) there)
]

none_of : (o : Option (List NamedBytes)) → IsNone o → o ≡ None
none_of o is = grind (arith, common_steps)

module _ {I O : Type 0} (o : sink.Ghosts O) where
  pub closable_still : (name bytes : List ℕ) (names : List NamedBytes) (opened : List (OpenScript I O)) → AllByRecursion (IsClosable o names) opened
      → AllByRecursion (IsClosable o (with_bytes name bytes names)) opened
  closable_still name bytes names [] all = tt
  closable_still name bytes names (s ∷ opened) all = grind (arith, common_steps, still_there, o.name, closable_still name bytes names opened all.1)

  -- the others can be closed still
  pub rest_closable : (told : Option (List NamedBytes)) (s : OpenScript I O) (opened : List (OpenScript I O)) → AreClosable o told (s ∷ opened)
      → AreClosable o (option_map (with_written o (s ∷ [])) told) opened
  rest_closable told s opened all = grind (arith, common_steps, closable_still, o.name, o.taken)
