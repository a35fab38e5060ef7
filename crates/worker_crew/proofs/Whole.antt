-- Private: no public contract cites this. What scripts and workers ensure comes to a run of players.
use Rattle.std.{proofs.Common.{◌≡◌, List, [], ◌∷◌, ◌++◌, length, map, refl, sym, ap, ap₂, subst, ◌∙◌, arith}, specs.Prelude.{drop, take}}
use Rattle.std.proofs.lemmas.{List.{length-take, map-append, take-append-drop}, Grind.common_steps}
use Rattle.track_outside.specs.declared.runner.Runner as runner
use Rattle.track_model.specs.Tracks.{Track}
use Rattle.play_crew.specs.{Sights.Sight, Shared.IsShared}
use Rattle.play_fits.specs.Fits.{Play}
use Rattle.play_crew.specs.Shared as seats
use Rattle.worker_crew.specs.{Runs.{AreBisectedFrom, RunsPlayers, Tally}, Seated.{HaveBisected, HaveRecomputed, bisect_seat, recompute_seat, tally_of}}
use Rattle.worker_crew.{specs.Whole.{RunsCrew, tallies}, specs.Workers.{Working, pass_of}, proofs.Seated.{bisectors-sit, recomputers-sit, seats-share}}

recompute-passes : (ws : List Working) → map seats.pass_of (map recompute_seat ws) ≡ map pass_of ws
recompute-passes [] = refl
recompute-passes (w ∷ ws) = ap (λ (l : List (List Sight)). w.pass ∷ l) (recompute-passes ws)

bisect-passes : (ws : List Working) → map seats.pass_of (map bisect_seat ws) ≡ map pass_of ws
bisect-passes [] = refl
bisect-passes (w ∷ ws) = ap (λ (l : List (List Sight)). w.pass ∷ l) (bisect-passes ws)

module _ {A : Type 0} (r : runner.Ghosts A) (play : Play) (journals : List Track) (began worked ended : List A) (c : RunsCrew r play journals began worked ended) where
  recomputed : HaveRecomputed c.room c.of_recompute c.recomputers
  recomputed = recomputers-sit c.room play.word c.of_recompute c.recomputers c.recomputed

  few : length (take play.bisect began) ≡ length c.of_bisect
  few = let size = length-take play.bisect began in let many = c.many_bisect in let enough = c.enough in omega (arith, size, many, enough)

  bisected : HaveBisected r c.room play.word c.of_bisect (take play.bisect began) c.bisectors (take play.bisect worked)
  bisected = bisectors-sit r c.room play.word c.of_bisect (take play.bisect began) c.bisectors (take play.bisect worked) few c.bisected

  split : (runners : List A) → map (tally_of r) (take play.bisect runners) ++ map (tally_of r) (drop play.bisect runners) ≡ tallies r runners
  split runners = sym (map-append (tally_of r) (take play.bisect runners) (drop play.bisect runners)) ∙ ap (map (tally_of r)) (take-append-drop play.bisect runners)

  abbrev behind : List Tally
  behind = map (tally_of r) (drop play.bisect began)

  from : AreBisectedFrom play.word 1 c.of_bisect (map bisect_seat c.bisectors) (tallies r began) (tallies r worked)
  from =
      let all : AreBisectedFrom play.word 1 c.of_bisect (map bisect_seat c.bisectors) (map (tally_of r) (take play.bisect began) ++ behind) (map (tally_of r) (take play.bisect worked) ++ behind) = bisected.from behind in
      let after : map (tally_of r) (take play.bisect worked) ++ behind ≡ tallies r worked =
      ap (λ (l : List A). map (tally_of r) (take play.bisect worked) ++ map (tally_of r) l) (sym c.others) ∙ split worked in
      subst (λ (l : List Tally). AreBisectedFrom play.word 1 c.of_bisect (map bisect_seat c.bisectors) (tallies r began) l) after
      (subst (λ (l : List Tally). AreBisectedFrom play.word 1 c.of_bisect (map bisect_seat c.bisectors) l (map (tally_of r) (take play.bisect worked) ++ behind)) (split began) all)

  shared : IsShared play.tracks c.room (c.passes ++ (c.of_recompute ++ c.of_bisect)) (c.scripts ++ (map recompute_seat c.recomputers ++ map bisect_seat c.bisectors)) c.first c.last
  shared = grind (arith, common_steps, seats-share, play.tracks, map, recomputed.seated, bisected.seated, ap₂, recompute-passes, bisect-passes)

  crew-runs : RunsPlayers play journals
  crew-runs = record {
    scripts = record { befores = c.passes; afters = c.scripts };
    recomputers = record { befores = c.of_recompute; afters = map recompute_seat c.recomputers };
    bisectors = record { befores = c.of_bisect; afters = map bisect_seat c.bisectors };
    left = c.left;
    at_room = record { room = c.room; different = c.different; first = c.first; last = c.last; shared = shared; of_room = c.whole; kept = c.kept; ended = c.closed };
    began = tallies r began;
    worked = tallies r worked;
    ended = tallies r ended;
    played = c.played;
    recomputed = recomputed.from;
    as_many_recompute = recomputed.seated.many ∙ c.many_recompute;
    bisected = from;
    as_many_bisect = bisected.seated.many ∙ c.many_bisect;
    main = c.main;
    legal = c.legal;
    new = c.new;
    runners = c.runners;
  }

  -- in which main published the same
  pub crew-gives : (run : RunsPlayers play journals) × (run.published ≡ c.published)
  unfolding crew-runs
  crew-gives = (crew-runs, refl)
