use Rattle.std.proofs.Common.{◌++◌, codes}
use Rattle.series_gen.{specs.Script.{in_turn, line, commit_line, turn, retract_line, segment_line}, proofs.Turns.behind}
use Rattle.series_gen.proofs.script.put_parts.Goals as goal

pub returns : goal.returns
returns c =
    let machine = line (codes "machine g") in
    let tune = line (codes "tune g ns/op 300000000000") in
    let changes = line (codes "changes g G ns/op") in
    let commits = in_turn commit_line 500 in
    let turns = in_turn (turn c.args.number) 2_000 in
    let retractions = in_turn retract_line 10 in
    let s0 = c.args.out.now.items in
    let s2 = c.put_commits.new.out.items in
    let s3 = c.extend_from_slice-2.new.self.items in
    let s4 = c.put_turns.new.out.items in
    let s5 = c.put_retractions.new.out.items in
    let s6 = c.extend_from_slice-3.new.self.items in
    let e2 = behind s0 c.extend_from_slice.new.self.items s2 machine commits c.in_ok-extend_from_slice.ensures.items c.in_ok-put_commits.ensures in
    let e3 = behind s0 s2 s3 (machine ++ commits) tune e2 c.in_ok-extend_from_slice-2.ensures.items in
    let e4 = behind s0 s3 s4 (machine ++ commits ++ tune) turns e3 c.in_ok-put_turns.ensures in
    let e5 = behind s0 s4 s5 (machine ++ commits ++ tune ++ turns) retractions e4 c.in_ok-put_retractions.ensures in
    let e6 = behind s0 s5 s6 (machine ++ commits ++ tune ++ turns ++ retractions) segment_line e5 c.in_ok-extend_from_slice-3.ensures.items in
    behind s0 s6 c.extend_from_slice-4.new.self.items (machine ++ commits ++ tune ++ turns ++ retractions ++ segment_line) changes e6
    c.in_ok-extend_from_slice-4.ensures.items
