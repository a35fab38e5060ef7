-- Scripts that were opened one after another have the bytes that their names had before the first.
use Rattle.std.proofs.{Common.{◌≡◌, ◌∙◌, ℕ, Bool, false, inl, inr, List, [], ◌∷◌, Option, Some, refl, sym, subst, ap, arith}, lemmas.Grind.common_steps}
use Rattle.std.{specs.Prelude.{All, Contains, bytes_eq, if◌then◌else◌}, specs.List.{AllZip, AllByRecursion}, proofs.lemmas.Bool.cases_Bool}
use Rattle.std.proofs.lemmas.{Slice.Eq.bytes_eq-Decides, List.Elements.{All-head, All-tail, Contains-get_or}}
use Rattle.track_outside.specs.Named.{NamedBytes, bytes_at, with_bytes}
use Rattle.track_outside.specs.declared.source.Source as source
use Rattle.track_outside.specs.declared.sink.Sink as sink
use Rattle.command_words.specs.Plans.{transcript_of}
use Rattle.script_files.specs.{declared.open.OpenScript.OpenScript, Opening.{IsOpen, AreOpen, with_transcript}}

differs : (one other : List ℕ) → (one ≡ other → ⊥) → bytes_eq one other ≡ false
differs one other apart = grind (arith, common_steps, cases_Bool, bytes_eq, bytes_eq-Decides)

same_else : (b : Bool) (x : List ℕ) (z z' : Option (List ℕ)) → z ≡ z' → (if b then Some x else z) ≡ (if b then Some x else z')
same_else b x z z' same = ap (λ (o : Option (List ℕ)). if b then Some x else o) same

-- another name has the bytes that it had
pub bytes_at-other : (name bytes other : List ℕ) (names : List NamedBytes) → (name ≡ other → ⊥) → bytes_at other (with_bytes name bytes names) ≡ bytes_at other names
bytes_at-other name bytes other [] apart = rw (differs name other apart) refl
bytes_at-other name bytes other (f ∷ names) apart = elim (cases_Bool (bytes_eq f.name name)) [
  | inl same ↦
      let its : f.name ≡ name = (bytes_eq-Decides f.name name).0 same in
      let not_it : bytes_eq f.name other ≡ false = differs f.name other (λ is. apart (sym its ∙ is)) in
      rw same (rw (differs name other apart, not_it) refl)
  | inr is ↦ rw is (same_else (bytes_eq f.name other) f.bytes (bytes_at other (with_bytes name bytes names)) (bytes_at other names)
      (bytes_at-other name bytes other names apart))
]

-- a script among all, whose transcript is none of them
abbrev IsOneOf : List (List ℕ) → List ℕ → Type 0
IsOneOf all script = Contains all script × ¬ Contains all (transcript_of script)

module _ {I O : Type 0} (i : source.Ghosts I) (o : sink.Ghosts O) where
  -- a transcript that was created before leaves a script as it is
  open_before : (told : Option (List NamedBytes)) (earlier script : List ℕ) (s : OpenScript I O) → (transcript_of earlier ≡ script → ⊥)
      → IsOpen i o (with_transcript earlier told) script s → IsOpen i o told script s
  open_before told earlier script s apart is = grind (arith, common_steps, bytes_at-other)

  open_from : (all : List (List ℕ)) (start told : Option (List NamedBytes)) (scripts : List (List ℕ)) (opened : List (OpenScript I O))
      → ((script : List ℕ) (s : OpenScript I O) → Contains all script → IsOpen i o told script s → IsOpen i o start script s)
      → AllByRecursion (IsOneOf all) scripts → AreOpen i o told scripts opened → AllZip (IsOpen i o start) scripts opened
  open_from all start told [] [] back own are = tt
  open_from all start told [] (s ∷ opened) back own are = absurd are
  open_from all start told (script ∷ scripts) [] back own are = absurd are
  open_from all start told (script ∷ scripts) (s ∷ opened) back own are = (
    back script s own.0.0 are.0,
    open_from all start (with_transcript script told) scripts opened
        (λ other t has is. back other t has (open_before told script other t (λ same. own.0.1 (subst (Contains all) (sym same) has)) is))
        own.1 are.1,
  )

by_recursion : {X : Type 0} (P : X → Type 0) (xs : List X) → All P xs → AllByRecursion P xs
by_recursion P [] all = tt
by_recursion P (x ∷ xs) all = (All-head P x xs all, by_recursion P xs (All-tail P x xs all))

each_one : (all : List (List ℕ)) → All (λ script. ¬ Contains all (transcript_of script)) all → All (IsOneOf all) all
each_one all own k d below = (Contains-get_or all k d below, own k d below)

-- none of the scripts is another's transcript
pub open_from_start : {I O : Type 0} (i : source.Ghosts I) (o : sink.Ghosts O) (told : Option (List NamedBytes)) (scripts : List (List ℕ)) (opened : List (OpenScript I O))
    → All (λ script. ¬ Contains scripts (transcript_of script)) scripts → AreOpen i o told scripts opened → AllZip (IsOpen i o told) scripts opened
open_from_start i o told scripts opened own are =
    open_from i o scripts told told scripts opened (λ script s has is. is) (by_recursion (IsOneOf scripts) scripts (each_one scripts own)) are
