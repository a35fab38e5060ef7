-- Private: no public contract cites this. The scripts that were run at a room fit the journals that it leaves.
use Rattle.std.proofs.Common.{◌≤◌, ◌++◌, take, ap₂, ◌≡◌, ℕ, ◌+◌, Bool, true, false, List, [], ◌∷◌, length, map, Option, None, refl, sym, ap, subst, ◌∙◌, arith}
use Rattle.std.{specs.Prelude.{◌⊎◌, zip, Result, IfSome}, specs.List.{AllByRecursion, AllZip}, proofs.lemmas.List.{length-map, length-take}}
use Rattle.std.proofs.lemmas.{Slice.Zip.AllZip-long, Grind.common_steps}
use Rattle.track_outside.specs.Named.{NamedBytes, bytes_at}
use Rattle.track_outside.specs.declared.files.Files as files
use Rattle.track_outside.specs.declared.runner.Runner as runner
use Rattle.track_outside.specs.declared.source.Source as source
use Rattle.track_outside.specs.declared.sink.Sink as sink
use Rattle.command_words.specs.Plans.{Plan, AreScripts, transcript_of}
use Rattle.track_model.specs.Tracks.{Track}
use Rattle.script_files.specs.{declared.open.OpenScript.OpenScript, Opening.IsOpen, Closing.HaveWritten}
use Rattle.script_loop.specs.declared.stop.Stop.{Stop}
use Rattle.worker_crew.specs.{Rooms.{AreSame, IsPassOf, IsWhole}, Sights.{EndsWhole, Home, IsFirstOf, Sight}, Played.in_full, Fitting.ArePlayedFrom}
use Rattle.play_fits.specs.{Fits.{Fits, Play}, Scripts.{Exchange, IsWritten}, Quiet.IsQuiet}
use Rattle.worker_crew.specs.{Gathered.AreKept, Seats.{AreDifferent, Seat}, Shared.JoinsAll, Laws.{RunOfPlayersFits, RunOfPlayersIsQuiet}, Runs.RunsPlayers}
use Rattle.worker_crew.specs.Shared as shared
use Rattle.worker_crew.specs.{Last.HasQuietSeries, Seated.{AreSeated, BisectorsSit, RecomputersSit, SeatsShare, bisect_seat, recompute_seat}}
use Rattle.worker_crew.specs.{Whole.{CrewRuns, RunsCrew}, Workers.Working, Players.{IsOfRoom, Playing, Plays, end_of, open_of, pass_of, players_from}}
use Rattle.worker_crew.specs.Workers as workers
use Rattle.shared_run.specs.Endings as endings
use Rattle.shared_run.specs.{Endings.Told, Crews.{AreNew, RanCrew, RanIn, asked_by, word_of}, Ran.Ran}
use Rattle.shared_run.proofs.{Running.{of-room, shorter, still-of-room}, EachRun.{all-run, script-told, transcripts-apart}}

-- ---- bytes that the files tell, or don't
less-told : (P : List ℕ → Type 0) (one other : Option (List ℕ)) → (other ≡ None) ⊎ (other ≡ one) → IfSome one P → IfSome other P
less-told P one other x3 holds = grind (arith, common_steps)

less-written : (full : Bool) (script script' transcript transcript' : Option (List ℕ)) (xs : List Exchange) → (script' ≡ None) ⊎ (script' ≡ script) → (transcript' ≡ None) ⊎ (transcript' ≡ transcript)
    → IsWritten full script transcript xs → IsWritten full script' transcript' xs
less-written true script script' transcript transcript' xs one two w = grind (arith, common_steps)
less-written false script script' transcript transcript' xs one two w = record {
  script_is = less-told _ script script' one w.script_is;
  whole = w.whole;
  last = w.last;
  all = w.all;
  one = w.one;
  transcript_is = less-told _ transcript transcript' two w.transcript_is;
}

-- ---- the scripts, seat by seat
abbrev pub seat_of : {I O : Type 0} → Playing I O → Seat
seat_of p = p.seat

module _ {F I O K : Type 0} (t : Told F I O K) (plan : Plan) (before after : F) (i : source.Ghosts I) (o : sink.Ghosts O) where
  transcript-told : (script name : List ℕ) (taken : Option (List ℕ)) → name ≡ transcript_of script → IfSome (t.files.contents after) (λ names. bytes_at name names ≡ taken)
      → (endings.bytes_in t plan after (transcript_of script) ≡ None) ⊎ (endings.bytes_in t plan after (transcript_of script) ≡ taken)
  transcript-told script name taken named tells = grind (arith, common_steps)

  written-first : (s : OpenScript I O) (opened : List (OpenScript I O)) (told : Option (List NamedBytes)) → HaveWritten o (s ∷ opened) told → IfSome told (λ names. bytes_at (o.name s.output) names ≡ o.taken s.output)
  written-first s opened told w = grind (arith, common_steps)

  written-rest : (s : OpenScript I O) (opened : List (OpenScript I O)) (told : Option (List NamedBytes)) → HaveWritten o (s ∷ opened) told → HaveWritten o opened told
  written-rest s opened told w = grind (arith, common_steps)

  played-from : (room : List Home) (n : ℕ) (scripts : List (List ℕ)) (opened : List (OpenScript I O)) (passes : List (List Sight)) (played : List (Playing I O))
      → length passes ≡ length opened → AllZip (IsOpen i o (t.files.contents before)) scripts opened → AllZip (Plays i o) (players_from room n passes opened) played
      → HaveWritten o (map open_of played) (t.files.contents after)
      → ArePlayedFrom room n (map (endings.played t plan before after) (zip scripts (map in_full (map end_of played)))) passes (map seat_of played)
  played-from room n [] [] [] [] pair are plays wrote = tt
  played-from room n [] [] [] (p ∷ played) pair are plays wrote = absurd plays
  played-from room n [] [] (q ∷ passes) played pair are plays wrote = absurd (omega (arith, pair))
  played-from room n [] (s ∷ opened) passes played pair are plays wrote = absurd are
  played-from room n (x ∷ scripts) [] passes played pair are plays wrote = absurd are
  played-from room n (x ∷ scripts) (s ∷ opened) [] played pair are plays wrote = absurd (omega (arith, pair))
  played-from room n (x ∷ scripts) (s ∷ opened) (q ∷ passes) [] pair are plays wrote = absurd plays
  played-from room n (x ∷ scripts) (s ∷ opened) (q ∷ passes) (p ∷ played) pair are plays wrote = (
    record {
      author = plays.0.stays.author;
      result = p.ended;
      full = refl;
      played = record {
        same = plays.0.played.same;
        exchanges = plays.0.played.exchanges;
        part = plays.0.played.part;
        written = less-written (in_full p.ended) (i.left s.input) (endings.bytes_in t plan before x) (o.taken p.output) (endings.bytes_in t plan after (transcript_of x)) plays.0.played.exchanges
            (script-told i o (t.files.contents before) x (i.left s.input) are.0.left)
            (transcript-told x (o.name p.output) (o.taken p.output) (plays.0.ended.named ∙ are.0.name) (written-first (open_of p) (map open_of played) (t.files.contents after) wrote))
            plays.0.played.written;
      };
    },
    played-from room (n + 1) scripts opened passes played (omega (arith, pair)) are.1 plays.1 (written-rest (open_of p) (map open_of played) (t.files.contents after) wrote),
  )

-- ---- the room's first pass
module _ {I O : Type 0} (i : source.Ghosts I) (o : sink.Ghosts O) where
  same-passes : (played : List (Playing I O)) → map shared.pass_of (map seat_of played) ≡ map pass_of played
  same-passes [] = refl
  same-passes (p ∷ played) = ap (λ (l : List (List Sight)). p.seat.pass ∷ l) (same-passes played)

  seats-of-room : (room : List Home) (played : List (Playing I O)) → AllByRecursion (IsOfRoom room) played → AllByRecursion (λ (s : Seat). IsPassOf room s.pass) (map seat_of played)
  seats-of-room room [] all = tt
  seats-of-room room (p ∷ played) all = (all.0, seats-of-room room played all.1)

  seats-same : (room : List Home) (n : ℕ) (opened : List (OpenScript I O)) (passes : List (List Sight)) (played : List (Playing I O)) → length passes ≡ length opened
      → AllZip (Plays i o) (players_from room n passes opened) played → AllZip (λ (b : List Sight) (s : Seat). AreSame b s.pass) passes (map seat_of played)
  seats-same room n [] [] [] pair plays = tt
  seats-same room n [] [] (p ∷ played) pair plays = absurd plays
  seats-same room n [] (q ∷ passes) played pair plays = absurd (omega (arith, pair))
  seats-same room n (s ∷ opened) [] played pair plays = absurd (omega (arith, pair))
  seats-same room n (s ∷ opened) (q ∷ passes) [] pair plays = absurd plays
  seats-same room n (s ∷ opened) (q ∷ passes) (p ∷ played) pair plays = (plays.0.stays.same, seats-same room (n + 1) opened passes played (omega (arith, pair)) plays.1)

  -- the scripts' seats, at their room
  pub scripts-seated : {F : Type 0} (f : files.Ghosts F I O) (scripts : List (List ℕ)) (room : List Home) (passes : List (List Sight)) (old new : F) (ends : List (Result (Unit {0}) Stop))
      → AllByRecursion (IsPassOf room) passes → (r : Ran f i o scripts room passes old new ends) → AreSeated room passes (map seat_of r.played)
  scripts-seated f scripts room passes old new ends of r = record {
    same = seats-same room 1 r.opened passes r.played r.many r.plays;
    of_room = seats-of-room room r.played (still-of-room i o room (players_from room 1 passes r.opened) r.played r.plays (of-room room 1 passes r.opened of));
    many = length-map r.played seat_of ∙ AllZip-long (Plays i o) (players_from room 1 passes r.opened) r.played r.plays ∙ shorter room 1 passes r.opened r.many;
  }

-- ---- the room's first pass, with workers
recompute-passes : (ws : List Working) → map shared.pass_of (map recompute_seat ws) ≡ map workers.pass_of ws
recompute-passes [] = refl
recompute-passes (w ∷ ws) = ap (λ (l : List (List Sight)). w.pass ∷ l) (recompute-passes ws)

bisect-passes : (ws : List Working) → map shared.pass_of (map bisect_seat ws) ≡ map workers.pass_of ws
bisect-passes [] = refl
bisect-passes (w ∷ ws) = ap (λ (l : List (List Sight)). w.pass ∷ l) (bisect-passes ws)

module _ {F I O A : Type 0} (f : files.Ghosts F I O) (i : source.Ghosts I) (o : sink.Ghosts O) (r : runner.Ghosts A) (plan : Plan) (tracks : List Track) (room : List Home) (first last : List Sight) (old new : F)
    (began worked : List A) (ends : List (Result (Unit {0}) Stop)) (enough : plan.bisect ≤ length began) (c : RanCrew f i o r plan room first last old new began worked ends) where
  few : length (take plan.bisect began) ≡ length c.of_bisect
  few = let size = length-take plan.bisect began in let many = c.split.bisecting.many in let is = enough in omega (arith, size, many, is)

  pub seats-of-scripts : AreSeated room c.passes (map seat_of c.scripts.played)
  seats-of-scripts = scripts-seated i o f plan.scripts room c.passes old new ends c.split.of_scripts.of_room c.scripts

  gone : JoinsAll c.between (map shared.pass_of (map seat_of c.scripts.played) ++ (map shared.pass_of (map recompute_seat c.recomputers) ++ map shared.pass_of (map bisect_seat c.bisectors))) last
  gone = grind (arith, common_steps, last, ap₂, same-passes, i, o, recompute-passes, bisect-passes)

  -- so the first pass is whole where all have gone again
  pub is-whole : shared.SharingEnds → RecomputersSit → BisectorsSit r → SeatsShare → IsPassOf room first → AllZip IsFirstOf tracks first → IsWhole last
  is-whole law recompute bisect share of starts =
      (law tracks room (c.passes ++ (c.of_recompute ++ c.of_bisect)) (map seat_of c.scripts.played ++ (map recompute_seat c.recomputers ++ map bisect_seat c.bisectors)) first last
      (share tracks room first c.between last c.passes c.of_recompute c.of_bisect (map seat_of c.scripts.played) (map recompute_seat c.recomputers) (map bisect_seat c.bisectors) of starts c.split.splits
      seats-of-scripts (recompute room (word_of plan) c.of_recompute c.recomputers c.recomputed).seated
      (bisect room (word_of plan) c.of_bisect (take plan.bisect began) c.bisectors (take plan.bisect worked) few c.bisected).seated gone)).whole

-- a room leaves as many machines as it was made of
pub left-long : (room : List Home) (first last : List Sight) (tracks left : List Track) → IsPassOf room first → IsPassOf room last → AllZip IsFirstOf tracks first → AllZip EndsWhole last left → length left ≡ length tracks
left-long room first last tracks left of whole starts closed =
    let a = AllZip-long IsFirstOf tracks first starts in
    let b = AllZip-long EndsWhole last left closed in
    let c = length-map first (λ (s : Sight). s.home) in
    let d = length-map last (λ (s : Sight). s.home) in
    let e = ap length of in
    let f = ap length whole in
    omega (arith, a, b, c, d, e, f)

-- ---- a whole run
pub record Laws {A : Type 0} (r : runner.Ghosts A) : Type 0 where
  pub runs : CrewRuns r
  pub fits : RunOfPlayersFits
  pub quiet : RunOfPlayersIsQuiet

module _ {F I O K A : Type 0} (t : Told F I O K) (i : source.Ghosts I) (r : runner.Ghosts A) (plan : Plan) (began ended : List A) (before after : F) (tracks : List Track) (ends : List (Result (Unit {0}) Stop))
    (journals : List Track) (full : Bool) (n : RanIn t.files i t.out r plan tracks before after began ended ends journals full) (laws : Laws r) (scripts : AreScripts plan.scripts) (enough : plan.bisect ≤ length began)
    (new : AreNew r began) (different : AreDifferent n.room) (kept : AllByRecursion AreKept tracks) where
  abbrev pub fulls : List Bool
  fulls = map in_full (map end_of n.ran.scripts.played)

  wrote-all : HaveWritten t.out (map open_of n.ran.scripts.played) (t.files.contents after)
  wrote-all = n.ran.scripts.written (transcripts-apart i t.out (t.files.contents before) plan.scripts n.ran.scripts.played
      (all-run i t.out (t.files.contents before) n.room 1 plan.scripts n.ran.scripts.opened n.ran.passes n.ran.scripts.played n.ran.scripts.many n.ran.scripts.are_open n.ran.scripts.plays) scripts.apart)

  abbrev play : Play
  play = endings.run_of t plan tracks fulls (asked_by r began ended) before after

  crew : RunsCrew r play journals began n.worked ended
  crew = record {
    room = n.room;
    different = different;
    first = n.first;
    between = n.ran.between;
    last = n.last;
    of_room = n.of_room;
    starts = n.starts;
    kept = kept;
    passes = n.ran.passes;
    of_recompute = n.ran.of_recompute;
    of_bisect = n.ran.of_bisect;
    splits = n.ran.split.splits;
    scripts = map seat_of n.ran.scripts.played;
    seated = seats-of-scripts t.files i t.out r plan tracks n.room n.first n.last before after began n.worked ends enough n.ran;
    played = played-from t plan before after i t.out n.room 1 plan.scripts n.ran.scripts.opened n.ran.passes n.ran.scripts.played n.ran.scripts.many n.ran.scripts.are_open n.ran.scripts.plays wrote-all;
    many_recompute = n.ran.split.recomputing.many;
    recomputers = n.ran.recomputers;
    recomputed = n.ran.recomputed;
    many_bisect = n.ran.split.bisecting.many;
    enough = enough;
    bisectors = n.ran.bisectors;
    bisected = n.ran.bisected;
    others = n.ran.others;
    joins = subst (λ (l : List (List Sight)). JoinsAll n.ran.between (l ++ (map workers.pass_of n.ran.recomputers ++ map workers.pass_of n.ran.bisectors)) n.last) (sym (same-passes i t.out n.ran.scripts.played)) n.ran.joins;
    whole = n.whole;
    left = n.left;
    closed = n.closed;
    main = n.finishes.main;
    legal = n.legal;
    new = new;
    runners = refl;
  }

  abbrev run : RunsPlayers play journals
  run = (laws.runs play journals began n.worked ended crew).0

  pub run-fits : Fits play journals
  run-fits = laws.fits play journals run

  pub run-quiet : full ≡ true → IsQuiet plan.recompute plan.bisect journals
  unfolding crew
  run-quiet done = laws.quiet play journals run (record {
    series = λ one. subst (AllByRecursion HasQuietSeries) (sym (laws.runs play journals began n.worked ended crew).1) (n.finishes.series done one);
    jobs = λ one. n.finishes.jobs done one;
  })
