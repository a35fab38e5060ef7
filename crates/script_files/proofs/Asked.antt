-- Scripts that are opened one after another.
use Rattle.std.proofs.Common.{◌≡◌, ℕ, suc, ◌+◌, ◌<◌, ◌≤◌, length, Bool, true, List, [], ◌∷◌, ◌++◌, take, Option, Some, None, Ok, Err, refl, sym, ap, subst, arith}
use Rattle.std.{specs.Prelude.{Result, IfErr, IsSome, slice_get}, specs.List.AllByRecursion, proofs.lemmas.Grind.common_steps}
use Rattle.track_outside.{specs.Named.{NamedBytes, Call, bytes_at, with_bytes}, proofs.Places.bytes_at-with_bytes}
use Rattle.track_outside.specs.declared.files.Files as files
use Rattle.track_outside.specs.declared.source.Source as source
use Rattle.track_outside.specs.declared.sink.Sink as sink
use Rattle.command_words.specs.Plans.{transcript_of}
use Rattle.script_files.specs.declared.open.{OpenFault.OpenFault, OpenFault.TheVariants.{ReadFault, WriteFault, NoMemory}, OpenScript.OpenScript}
use Rattle.script_files.specs.Opening.{Asks, AreMade, FailsAt, RoseAt, IsOpen, calls_for, opening, creating, with_transcript}
use Rattle.script_files.{specs.Closing.{AreClosable, IsClosable}, proofs.Names.closable_still}

-- ---- calls

fails_of_two : (creates : Bool) (a b : Call) (more made : List Call) (place : ℕ) (call : Call) → slice_get (a ∷ b ∷ []) place ≡ Some call
    → call.creates ≡ creates → made ≡ take place (a ∷ b ∷ []) ++ record call { failed = true } ∷ [] → FailsAt creates (a ∷ b ∷ more) made
fails_of_two creates a b more made place call next kind up_to = grind (arith, common_steps)

some_of_two : (a b : Call) (more made : List Call) (n : ℕ) → n < 2 → made ≡ take n (a ∷ b ∷ []) → (m : ℕ) × (m < length (a ∷ b ∷ more)) × (made ≡ take m (a ∷ b ∷ more))
some_of_two a b more made n few is = grind (arith, common_steps)

-- what is due of the first two is due of all
made_of_two : (a b : Call) (more made : List Call) (fault : OpenFault) → AreMade (a ∷ b ∷ []) (Err fault) made → AreMade (a ∷ b ∷ more) (Err fault) made
made_of_two a b more made ReadFault at = fails_of_two _ a b more made at.place at.call at.next at.kind at.up_to
made_of_two a b more made WriteFault at = fails_of_two _ a b more made at.place at.call at.next at.kind at.up_to
made_of_two a b more made NoMemory at = some_of_two a b more made at.0 at.1 at.2

fails_later : (creates : Bool) (a b : Call) (more made : List Call) → FailsAt creates more made → FailsAt creates (a ∷ b ∷ more) (a ∷ b ∷ made)
fails_later creates a b more made at = record {
  place = suc (suc at.place);
  call = at.call;
  next = at.next;
  kind = at.kind;
  up_to = ap (λ (l : List Call). a ∷ b ∷ l) at.up_to;
}

-- and what is due later, behind them
made_later : (a b : Call) (more made : List Call) (result : Result (Unit {0}) OpenFault) → AreMade more result made → AreMade (a ∷ b ∷ more) result (a ∷ b ∷ made)
made_later a b more made (Ok done) are = ap (λ (l : List Call). a ∷ b ∷ l) are
made_later a b more made (Err ReadFault) are = fails_later _ a b more made are
made_later a b more made (Err WriteFault) are = fails_later _ a b more made are
made_later a b more made (Err NoMemory) are = (suc (suc are.0), omega (arith, are.1), ap (λ (l : List Call). a ∷ b ∷ l) are.2)

module _ {F I O : Type 0} (g : files.Ghosts F I O) where
  rose_before : (old mid new : F) (result : Result (Unit {0}) OpenFault) → g.read_faults old ≤ g.read_faults mid → g.write_faults old ≤ g.write_faults mid
      → RoseAt g mid new result → RoseAt g old new result
  rose_before old mid new result reads writes rose = grind (arith, common_steps)

  -- the first script's calls failed
  pub asks_first : (script : List ℕ) (scripts : List (List ℕ)) (old new : F) (fault : OpenFault) → Asks g (script ∷ []) old new (Err fault)
      → Asks g (script ∷ scripts) old new (Err fault)
  asks_first script scripts old new fault asks = grind (arith, common_steps, made_of_two)

  -- they answered, and then those of the others came
  pub asks_then : (script : List ℕ) (scripts : List (List ℕ)) (old mid new : F) (result : Result (Unit {0}) OpenFault) → Asks g (script ∷ []) old mid (Ok tt)
      → Asks g scripts mid new result → Asks g (script ∷ scripts) old new result
  asks_then script scripts old mid new result first rest = record {
    made = opening script ∷ creating script ∷ rest.made;
    due = made_later (opening script) (creating script) (calls_for scripts) rest.made result rest.due;
    noted = grind (arith, common_steps);
    reads = omega (arith, first.reads, rest.reads);
    writes = omega (arith, first.writes, rest.writes);
    rose = rose_before old mid new result first.reads first.writes rest.rose;
  }

  pub asks_then_fault : {T : Type 0} (script : List ℕ) (scripts : List (List ℕ)) (old mid new : F) (found : Result T OpenFault) → Asks g (script ∷ []) old mid (Ok tt)
      → IfErr found (λ fault. Asks g scripts mid new (Err fault)) → IfErr found (λ fault. Asks g (script ∷ scripts) old new (Err fault))
  asks_then_fault script scripts old mid new (Ok x) first rest = tt
  asks_then_fault script scripts old mid new (Err fault) first rest = asks_then script scripts old mid new (Err fault) first rest

  -- no memory before the first call
  pub asks_none : (script : List ℕ) (scripts : List (List ℕ)) (old : F) → Asks g (script ∷ scripts) old old (Err NoMemory)
  asks_none script scripts old = grind (arith, common_steps)

-- ---- what can be closed

all_then : {X : Type 0} (P : X → Type 0) (xs : List X) (x : X) → AllByRecursion P xs → P x → AllByRecursion P (xs ++ x ∷ [])
all_then P [] x all is = (is, tt)
all_then P (y ∷ xs) x all is = (all.0, all_then P xs x all.1 is)

some_there : (o : Option (List ℕ)) (bytes : List ℕ) → o ≡ Some bytes → IsSome o
some_there o bytes is = subst (λ (x : Option (List ℕ)). IsSome x) (sym is) refl

pub closable_then : {I O : Type 0} (i : source.Ghosts I) (o : sink.Ghosts O) (told : Option (List NamedBytes)) (opened : List (OpenScript I O)) (script : List ℕ)
    (s : OpenScript I O) → AreClosable o told opened → IsOpen i o told script s → AreClosable o (with_transcript script told) (opened ++ s ∷ [])
closable_then i o None opened script s all is = tt
closable_then i o (Some names) opened script s all is =
    let new : List NamedBytes = with_bytes (transcript_of script) [] names in
    let there : IsSome (bytes_at (o.name s.output) new) = grind (arith, common_steps, bytes_at, new, some_there, bytes_at-with_bytes) in
    all_then (IsClosable o new) opened s (closable_still o (transcript_of script) [] names opened all) (record { there = there; tells = is.tells })
