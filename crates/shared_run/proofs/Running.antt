-- Private: no public contract cites this. Scripts that were opened, seated, played and closed.
use Rattle.std.{proofs.lemmas.Grind.common_steps, specs.Prelude.{Result, option_map, IsSome, IfErr, IsErrAnd}, specs.List.{AllByRecursion, AllZip}}
use Rattle.std.proofs.Common.{◌≡◌, ◌<◌, ◌+◌, ℕ, List, [], ◌∷◌, ◌++◌, length, map, take, drop, refl, sym, ap, subst, ◌∙◌, Option, Err, arith}
use Rattle.track_outside.specs.Named.{Call, NamedBytes, bytes_at}
use Rattle.track_outside.specs.declared.files.Files as files
use Rattle.track_outside.specs.declared.source.Source as source
use Rattle.track_outside.specs.declared.sink.Sink as sink
use Rattle.script_files.specs.{declared.open.OpenFault.OpenFault as Fault, declared.open.OpenScript.OpenScript, Opening.{Asks, IsOpen, calls_for}}
use Rattle.script_files.specs.Closing.{AreClosable, IsClosable}
use Rattle.script_loop.specs.{Endings.HasWritten, declared.stop.Stop.Stop}
use Rattle.worker_crew.specs.{Rooms.{IsPassOf, badge}, Sights.{Home, Sight}, Seats.{AreDifferent, IsSeated}}
use Rattle.worker_crew.specs.Players.{CanPlay, IsOfRoom, Playing, Plays, open_of, players_from}
use Rattle.shared_run.specs.{declared.stop.RunStop.RunStop, declared.stop.RunStop.TheVariants.NoMemory, Causes.open_stop, Ran.NotBegun}

-- ---- early
calls-some : (scripts : List (List ℕ)) → 0 < length scripts → 0 < length (calls_for scripts)
calls-some [] some = absurd (omega (arith, some))
calls-some (s ∷ scripts) some = omega arith

same-told : (told : Option (List Call)) → told ≡ option_map (λ made. made ++ []) told
same-told told = grind (arith, common_steps)

-- memory was wanting before the first file
pub none-made : {F I O A : Type 0} (f : files.Ghosts F I O) (scripts : List (List ℕ)) (now : F) → 0 < length scripts → (result : Result A RunStop) → IsErrAnd result (λ why. why ≡ NoMemory)
    → IfErr result (NotBegun f scripts now now)
none-made f scripts now some result is = grind (arith, common_steps, calls-some, same-told)

pub not-open : {F I O : Type 0} (f : files.Ghosts F I O) (scripts : List (List ℕ)) (old new : F) (why : Fault) → Asks f scripts old new (Err why) → NotBegun f scripts old new (open_stop why)
not-open f scripts old new why asks = grind (arith, common_steps)

-- ---- lists
pub whole : {A : Type 0} (new old : List A) → length new ≡ length old → take (length old) (new ++ drop (length new) old) ≡ new
whole [] [] same = refl
whole [] (y ∷ old) same = absurd (omega (arith, same))
whole (x ∷ new) [] same = absurd (omega (arith, same))
whole {A = A} (x ∷ new) (y ∷ old) same = ap (λ (l : List A). x ∷ l) (whole new old (omega (arith, same)))

pub shorter : {I O : Type 0} (room : List Home) (n : ℕ) (passes : List (List Sight)) (opened : List (OpenScript I O)) → length passes ≡ length opened → length (players_from room n passes opened) ≡ length passes
shorter room n [] [] same = refl
shorter room n [] (o ∷ opened) same = absurd (omega (arith, same))
shorter room n (p ∷ passes) [] same = absurd (omega (arith, same))
shorter room n (p ∷ passes) (o ∷ opened) same = let rest = shorter room (n + 1) passes opened (omega (arith, same)) in omega (arith, rest)

-- ---- seats
pub seated-all : (room : List Home) (passes : List (List Sight)) → AreDifferent room → AllByRecursion (IsPassOf room) passes → AllByRecursion (IsSeated room) passes
seated-all room [] different all = tt
seated-all room (p ∷ passes) different all = (record { of_room = all.0; different = different }, seated-all room passes different all.1)

pub can-play : {I O : Type 0} (i : source.Ghosts I) (o : sink.Ghosts O) (told : Option (List NamedBytes)) (room : List Home) (n : ℕ) (passes : List (List Sight)) (scripts : List (List ℕ)) (opened : List (OpenScript I O))
    → AllZip (IsOpen i o told) scripts opened → AllByRecursion (CanPlay o) (players_from room n passes opened)
can-play i o told room n [] scripts opened all = tt
can-play i o told room n (p ∷ passes) scripts [] all = tt
can-play i o told room n (p ∷ passes) [] (s ∷ opened) all = absurd all
can-play i o told room n (p ∷ passes) (x ∷ scripts) (s ∷ opened) all = (all.0.empty, can-play i o told room (n + 1) passes scripts opened all.1)

pub of-room : {I O : Type 0} (room : List Home) (n : ℕ) (passes : List (List Sight)) (opened : List (OpenScript I O)) → AllByRecursion (IsPassOf room) passes → AllByRecursion (IsOfRoom room) (players_from room n passes opened)
of-room room n [] opened all = tt
of-room room n (p ∷ passes) [] all = tt
of-room room n (p ∷ passes) (s ∷ opened) all = (all.0, of-room room (n + 1) passes opened all.1)

homes : (pass : List Sight) → map (λ (s : Sight). s.home) (map badge pass) ≡ map (λ (s : Sight). s.home) pass
homes [] = refl
homes (s ∷ pass) = ap (λ (l : List Home). s.home ∷ l) (homes pass)

pub still-of-room : {I O : Type 0} (i : source.Ghosts I) (o : sink.Ghosts O) (room : List Home) (olds news : List (Playing I O)) → AllZip (Plays i o) olds news → AllByRecursion (IsOfRoom room) olds → AllByRecursion (IsOfRoom room) news
still-of-room i o room [] [] all of = tt
still-of-room i o room [] (p ∷ news) all of = absurd all
still-of-room i o room (q ∷ olds) [] all of = absurd all
still-of-room i o room (q ∷ olds) (p ∷ news) all of = (
  sym (homes p.seat.pass) ∙ ap (λ (l : List Sight). map (λ (s : Sight). s.home) l) all.0.stays.same ∙ homes q.seat.pass ∙ of.0,
  still-of-room i o room olds news all.1 of.1,
)

-- ---- files

tells-still : {O : Type 0} (o : sink.Ghosts O) (old new : O) (text : List ℕ) (result : Result (Unit {0}) Stop) → HasWritten o old new text result → IsSome (o.taken old) → IsSome (o.taken new)
tells-still o old new text result wrote is = grind (arith, common_steps)

closable-then : {I O : Type 0} (i : source.Ghosts I) (o : sink.Ghosts O) (names : List NamedBytes) (room : List Home) (n : ℕ) (passes : List (List Sight)) (opened : List (OpenScript I O)) (played : List (Playing I O))
    → length passes ≡ length opened → AllZip (Plays i o) (players_from room n passes opened) played → AllByRecursion (IsClosable o names) opened → AllByRecursion (IsClosable o names) (map open_of played)
closable-then i o names room n [] [] [] same plays all = tt
closable-then i o names room n [] [] (p ∷ played) same plays all = absurd plays
closable-then i o names room n [] (s ∷ opened) played same plays all = absurd (omega (arith, same))
closable-then i o names room n (q ∷ passes) [] played same plays all = absurd (omega (arith, same))
closable-then i o names room n (q ∷ passes) (s ∷ opened) [] same plays all = absurd plays
closable-then i o names room n (q ∷ passes) (s ∷ opened) (p ∷ played) same plays all = (
  record {
    there = subst (λ (m : List ℕ). IsSome (bytes_at m names)) (sym plays.0.ended.named) all.0.there;
    tells = tells-still o s.output p.output plays.0.ended.text p.ended plays.0.ended.wrote all.0.tells;
  },
  closable-then i o names room (n + 1) passes opened played (omega (arith, same)) plays.1 all.1,
)

pub closable-played : {I O : Type 0} (i : source.Ghosts I) (o : sink.Ghosts O) (told : Option (List NamedBytes)) (room : List Home) (n : ℕ) (passes : List (List Sight)) (opened : List (OpenScript I O)) (played : List (Playing I O))
    → length passes ≡ length opened → AllZip (Plays i o) (players_from room n passes opened) played → AreClosable o told opened → AreClosable o told (map open_of played)
closable-played i o told room n passes opened played same plays all = grind (arith, common_steps, closable-then)

-- what was written back through a slice
pub whole-of : {A : Type 0} (len : ℕ) (new old : List A) → len ≡ length old → length new ≡ length old → take len (new ++ drop (length new) old) ≡ new
whole-of {A = A} len new old is same = ap (λ (n : ℕ). take n (new ++ drop (length new) old)) is ∙ whole new old same
