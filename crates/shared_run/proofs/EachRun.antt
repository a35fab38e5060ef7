-- Private: no public contract cites this. What each script of a run read and wrote: how it ended, and how often its files failed.
use Rattle.std.proofs.Common.{◌≡◌, ◌≢◌, ℕ, zero, suc, ◌<◌, ◌≤◌, ◌+◌, List, [], ◌∷◌, length, map, Option, Some, None, Err, refl, sym, subst, ◌∙◌, arith}
use Rattle.std.{proofs.lemmas.Bool.lt-ltb, proofs.lemmas.List.append_cancel_right, proofs.lemmas.Grind.common_steps, specs.List.{AllByRecursion, AllZip}}
use Rattle.std.specs.Prelude.{◌⊎◌, slice_get, slice_index_or, AllPairs, Result, codes, not, count_by, nat_lt, if◌then◌else◌, option_and_then, IfSome}
use Rattle.track_outside.specs.{Counts.Rose, Named.{NamedBytes, bytes_at}}
use Rattle.track_outside.specs.declared.source.Source as source
use Rattle.track_outside.specs.declared.sink.Sink as sink
use Rattle.command_words.specs.Plans.{transcript_of}
use Rattle.request_words.specs.Bodies.{Item}
use Rattle.script_files.specs.{declared.open.OpenScript.OpenScript, Opening.IsOpen, Closing.{AreApart, failed_inputs, failed_outputs}}
use Rattle.script_loop.specs.{Endings.{HasRead, HasWritten}, declared.stop.Stop.Stop}
use Rattle.script_loop.specs.declared.stop.Stop.TheVariants as stop
use Rattle.worker_crew.specs.{Played.in_full, Sights.{Home, Sight}, Players.{Playing, Plays, end_of, open_of, players_from}}

-- ---- lists
pub some-same : {A : Type 0} (x y : A) → Some x ≡ Some y → x ≡ y
some-same x y same = cc

pub record At {A B : Type 0} (R : A → B → Type 0) (x : A) (ys : List B) (k : ℕ) : Type 0 where
  pub it : B
  pub there : slice_get ys k ≡ Some it
  pub holds : R x it

pub zip-at : {A B : Type 0} (R : A → B → Type 0) (xs : List A) (ys : List B) → AllZip R xs ys → (k : ℕ) (x : A) → slice_get xs k ≡ Some x → At R x ys k
zip-at R [] ys all k x is = absurd (cc)
zip-at R (z ∷ xs) [] all k x is = absurd all
zip-at R (z ∷ xs) (y ∷ ys) all zero x is = record { it = y; there = refl; holds = subst (λ a. R a y) (some-same z x is) all.0 }
zip-at R (z ∷ xs) (y ∷ ys) all (suc k) x is = let rest = zip-at R xs ys all.1 k x is in record { it = rest.it; there = rest.there; holds = rest.holds }

pub there-at : {A : Type 0} (xs : List A) (k : ℕ) → k < length xs → (x : A) × (slice_get xs k ≡ Some x)
there-at [] k less = absurd (omega (arith, less))
there-at (x ∷ xs) zero less = (x, refl)
there-at (x ∷ xs) (suc k) less = there-at xs k (omega (arith, less))

-- ---- a script that was run
module _ {I O : Type 0} (i : source.Ghosts I) (o : sink.Ghosts O) (told : Option (List NamedBytes)) where
  pub record WasRun (script : List ℕ) (p : Playing I O) : Type 0 where
    pub input : I
    pub output : O
    pub left : IfSome told (λ names. i.left input ≡ bytes_at script names)
    pub items : List Item
    pub text : List ℕ
    pub read : HasRead i input p.input items p.ended
    pub wrote : HasWritten o output p.output text p.ended
    pub named : o.name p.output ≡ transcript_of script

  pub all-run : (room : List Home) (n : ℕ) (scripts : List (List ℕ)) (opened : List (OpenScript I O)) (passes : List (List Sight)) (played : List (Playing I O))
      → length passes ≡ length opened → AllZip (IsOpen i o told) scripts opened → AllZip (Plays i o) (players_from room n passes opened) played → AllZip WasRun scripts played
  all-run room n [] [] [] [] pair are plays = tt
  all-run room n [] [] [] (p ∷ played) pair are plays = absurd plays
  all-run room n [] [] (q ∷ passes) played pair are plays = absurd (omega (arith, pair))
  all-run room n [] (s ∷ opened) passes played pair are plays = absurd are
  all-run room n (x ∷ scripts) [] passes played pair are plays = absurd are
  all-run room n (x ∷ scripts) (s ∷ opened) [] played pair are plays = absurd (omega (arith, pair))
  all-run room n (x ∷ scripts) (s ∷ opened) (q ∷ passes) [] pair are plays = absurd plays
  all-run room n (x ∷ scripts) (s ∷ opened) (q ∷ passes) (p ∷ played) pair are plays = (
    record {
      input = s.input;
      output = s.output;
      left = are.0.left;
      items = plays.0.ended.items;
      text = plays.0.ended.text;
      read = plays.0.ended.read;
      wrote = plays.0.ended.wrote;
      named = plays.0.ended.named ∙ are.0.name;
    },
    all-run room (n + 1) scripts opened passes played (omega (arith, pair)) are.1 plays.1,
  )

  -- ---- no two transcripts have one name
  transcript-one : (a b : List ℕ) → transcript_of a ≡ transcript_of b → a ≡ b
  transcript-one a b same = append_cancel_right a b (codes ".out") same

  others-apart : (x : List ℕ) (p : Playing I O) → o.name p.output ≡ transcript_of x → (scripts : List (List ℕ)) (played : List (Playing I O)) → AllZip WasRun scripts played
      → ((k : ℕ) → k < length scripts → x ≢ slice_index_or scripts k x) → AllByRecursion (λ (other : OpenScript I O). o.name other.output ≢ o.name p.output) (map open_of played)
  others-apart x p named [] [] all each = tt
  others-apart x p named [] (q ∷ played) all each = absurd all
  others-apart x p named (y ∷ scripts) [] all each = absurd all
  others-apart x p named (y ∷ scripts) (q ∷ played) all each = (
    (λ same. each 0 (omega arith) (sym (transcript-one y x (sym all.0.named ∙ same ∙ named)))),
    others-apart x p named scripts played all.1 (λ k less. each (suc k) (omega (arith, less))),
  )

  pub transcripts-apart : (scripts : List (List ℕ)) (played : List (Playing I O)) → AllZip WasRun scripts played → AllPairs ◌≢◌ scripts → AreApart o (map open_of played)
  transcripts-apart [] [] all pairs = tt
  transcripts-apart [] (p ∷ played) all pairs = absurd all
  transcripts-apart (x ∷ scripts) [] all pairs = absurd all
  transcripts-apart (x ∷ scripts) (p ∷ played) all pairs = (
    others-apart x p all.0.named scripts played all.1 (λ k less. pairs 0 (suc k) x (omega arith) (omega (arith, less))),
    transcripts-apart scripts played all.1 (λ a b d less within. pairs (suc a) (suc b) d (omega (arith, less)) (omega (arith, within))),
  )

  -- ---- scripts that weren't answered in full
  one-if : (n : ℕ) → 0 < n → ◌≡◌ {A = ℕ} (if nat_lt 0 n then 1 else 0) 1
  one-if n less = rw (lt-ltb 0 n less) refl

  pub rose-some : (before after : ℕ) → Rose before after → 0 < after
  rose-some before after rose = omega (arith, rose)

  abbrev failures : Playing I O → ℕ
  failures p = (if nat_lt 0 (i.faults p.input) then 1 else 0) + (if nat_lt 0 (o.faults p.output) then 1 else 0)

  pub all-failed : (scripts : List (List ℕ)) (played : List (Playing I O)) → AllZip WasRun scripts played
      → AllByRecursion (λ (e : Result (Unit {0}) Stop). e ≢ Err stop.NoMemory) (map end_of played)
      → count_by not (map in_full (map end_of played)) ≤ failed_inputs i (map open_of played) + failed_outputs o (map open_of played)
  all-failed [] [] all some = omega arith
  all-failed [] (p ∷ played) all some = absurd all
  all-failed (x ∷ scripts) [] all some = absurd all
  all-failed (x ∷ scripts) (p ∷ played) all some = grind (arith, common_steps, all-failed scripts played all.1 some.1)

  -- one that failed is counted among those that did
  one-counts : (faults : Playing I O → ℕ) (failed : List (Playing I O) → ℕ) → ((q : Playing I O) (rest : List (Playing I O)) → failed (q ∷ rest) ≡ (if nat_lt 0 (faults q) then 1 else 0) + failed rest)
      → (played : List (Playing I O)) (k : ℕ) (p : Playing I O) → slice_get played k ≡ Some p → 0 < faults p → 0 < failed played
  one-counts faults failed more [] k p is some = absurd (cc)
  one-counts faults failed more (q ∷ played) zero p is some = grind (arith, common_steps)
  one-counts faults failed more (q ∷ played) (suc k) p is some = let rest = one-counts faults failed more played k p is some in omega (arith, rest, more q played)

  pub input-counts : (played : List (Playing I O)) (k : ℕ) (p : Playing I O) → slice_get played k ≡ Some p → 0 < i.faults p.input → 0 < failed_inputs i (map open_of played)
  input-counts = one-counts (λ p. i.faults p.input) (λ l. failed_inputs i (map open_of l)) (λ q rest. refl)

  pub output-counts : (played : List (Playing I O)) (k : ℕ) (p : Playing I O) → slice_get played k ≡ Some p → 0 < o.faults p.output → 0 < failed_outputs o (map open_of played)
  output-counts = one-counts (λ p. o.faults p.output) (λ l. failed_outputs o (map open_of l)) (λ q rest. refl)

  -- ---- what the files tell of a script's bytes
  pub left-is : (script bytes : List ℕ) (left : Option (List ℕ)) → IfSome told (λ names. left ≡ bytes_at script names) → option_and_then (bytes_at script) told ≡ Some bytes → left ≡ Some bytes
  left-is script bytes left tells is = grind (arith, common_steps)

  pub script-told : (script : List ℕ) (left : Option (List ℕ)) → IfSome told (λ names. left ≡ bytes_at script names)
      → (option_and_then (bytes_at script) told ≡ None) ⊎ (option_and_then (bytes_at script) told ≡ left)
  script-told script left tells = grind (arith, common_steps)
