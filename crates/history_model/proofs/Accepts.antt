-- The positions of a series after a run was accepted: its samples are put into the positions as they stand.
use Rattle.std.{proofs.Common.{◌≡◌, ◌+◌, List, [], ◌∷◌, ◌++◌, length, refl, ap, ◌∙◌, cond, arith}, specs.Prelude.{None, find, is_none}}
use Rattle.std.proofs.lemmas.{List.{append-nil, append_assoc}, List.Elements.filter-append, Grind.{flat_map-append, common_steps}}
use Rattle.history_model.specs.{declared.entries.Acceptance.Acceptance, declared.entries.Entry.Entry, declared.run.Run.Run, Laws.with_all}
use Rattle.history_model.specs.declared.entries.Entry.TheVariants as entry
use Rattle.history_model.specs.Runs.{Series, acceptance, acceptances, retraction, retractions, retracted, takes_back, live_of}
use Rattle.history_model.{specs.Positions.{Brought, brought_by, brought, positions, positions_of}, proofs.Chosen.{chosen-push, chosen-skip}}
use Rattle.segment_model.proofs.Insertions.{positions-push}

pub positions-more : (items xs : List Brought) → positions_of (items ++ xs) ≡ with_all xs (positions_of items)
positions-more items [] = ap positions_of (append-nil items)
positions-more items (x ∷ xs) = grind (arith, common_steps, positions_of, append_assoc, positions-push, positions-more (items ++ x ∷ []) xs)

pub positions-accept : (h : List Entry) (run : Run) (s : Series) → retracted run.run h ≡ None
    → positions (h ++ entry.Accept run ∷ []) s ≡ with_all (brought_by s (record { step = length h + 1; run = run })) (positions h s)
positions-accept h run s live =
    let a : Acceptance = record { step = length h + 1; run = run } in
    let e : Entry = entry.Accept run in
    let runs_are : live_of (retractions h) (acceptances h ++ a ∷ []) ≡ live_of (retractions h) (acceptances h) ++ a ∷ [] =
    filter-append (λ (b : Acceptance). is_none (find (takes_back b.run.run) (retractions h))) (acceptances h) (a ∷ [])
    ∙ ap (λ o. live_of (retractions h) (acceptances h) ++ cond (is_none o) (a ∷ []) []) live in
    let brought_are : brought s (live_of (retractions h) (acceptances h ++ a ∷ [])) ≡ brought s (live_of (retractions h) (acceptances h)) ++ brought_by s a =
    ap (brought s) runs_are ∙ flat_map-append (brought_by s) (live_of (retractions h) (acceptances h)) (a ∷ [])
    ∙ ap (λ xs. brought s (live_of (retractions h) (acceptances h)) ++ xs) (append-nil (brought_by s a)) in
    rw (chosen-push acceptance h e, chosen-skip retraction h e refl)
    (ap positions_of brought_are ∙ positions-more (brought s (live_of (retractions h) (acceptances h))) (brought_by s a))
