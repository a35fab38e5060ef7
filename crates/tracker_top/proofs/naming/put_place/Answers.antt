use Rattle.std.proofs.{Common.{ℕ, List, [], ◌∷◌, ◌++◌, decimal, subst}, lemmas.Result.MatchResult-weaker}
use Rattle.track_outside.{specs.Calls.{Took, FailedIn}, proofs.InParts.{took_more, failed_first, failed_more}}
use Rattle.history_model.proofs.Cases.{any-err}
use Rattle.tracker_top.proofs.naming.put_place.Goals as goal

pub returns-in_err-put_all-clause-err : goal.returns-in_err-put_all-clause-err
returns-in_err-put_all-clause-err g c =
    let rest : List ℕ = c.args.word.now ++ decimal c.args.number ++ 10 ∷ [] in
    any-err c.from_residual.result (failed_first g.O.Sink c.args.err.now c.put_all.new.sink c.args.what.now (c.args.name.now ++ rest) c.in_err-put_all.ensures.err)

pub returns-in_err-put_all-2-clause-err : goal.returns-in_err-put_all-2-clause-err
returns-in_err-put_all-2-clause-err g c =
    let rest : List ℕ = c.args.word.now ++ decimal c.args.number ++ 10 ∷ [] in
    let name = subst (FailedIn g.O.Sink c.put_all.new.sink c.put_all-2.new.sink) c.as_bytes.ensures.value c.in_err-put_all-2.ensures.err in
    any-err c.from_residual-in_err-put_all-2.result
    (failed_more g.O.Sink c.args.err.now c.put_all.new.sink c.put_all-2.new.sink c.args.what.now (c.args.name.now ++ rest) c.in_ok-put_all.ensures.ok
    (failed_first g.O.Sink c.put_all.new.sink c.put_all-2.new.sink c.args.name.now rest name))

pub returns-clause-ok : goal.returns-clause-ok
returns-clause-ok g c =
    let rest : List ℕ = c.args.word.now ++ decimal c.args.number ++ 10 ∷ [] in
    let name = subst (Took g.O.Sink c.put_all.new.sink c.put_all-2.new.sink) c.as_bytes.ensures.value c.in_ok-put_all-2.ensures.ok in
    MatchResult-weaker c.put_numbered.result c.put_numbered.ensures.ok
    (λ done took. took_more g.O.Sink c.args.err.now c.put_all.new.sink c.put_numbered.new.err c.args.what.now (c.args.name.now ++ rest) c.in_ok-put_all.ensures.ok
    (took_more g.O.Sink c.put_all.new.sink c.put_all-2.new.sink c.put_numbered.new.err c.args.name.now rest name took))
    (λ failed told. told)

pub returns-clause-err : goal.returns-clause-err
returns-clause-err g c =
    let rest : List ℕ = c.args.word.now ++ decimal c.args.number ++ 10 ∷ [] in
    let name = subst (Took g.O.Sink c.put_all.new.sink c.put_all-2.new.sink) c.as_bytes.ensures.value c.in_ok-put_all-2.ensures.ok in
    MatchResult-weaker c.put_numbered.result c.put_numbered.ensures.err (λ done told. told)
    (λ failed part. failed_more g.O.Sink c.args.err.now c.put_all.new.sink c.put_numbered.new.err c.args.what.now (c.args.name.now ++ rest) c.in_ok-put_all.ensures.ok
    (failed_more g.O.Sink c.put_all.new.sink c.put_all-2.new.sink c.put_numbered.new.err c.args.name.now rest name part))
