use Rattle.std.proofs.Common.{◌≡◌, ◌+◌, ◌≤◌, ◌<◌, List, [], ◌∷◌, ◌++◌, length, sym, ap, subst, ◌∙◌, arith, refl, Option, Some, None}
use Rattle.std.proofs.lemmas.List.{length-append, length-map}
use Rattle.metric_table.specs.{Limits.most, declared.limits.Limit.Limit}
use Rattle.metric_table.specs.declared.limits.Limit.TheVariants as limit
use Rattle.history_model.specs.declared.{entries.Entry.Entry, entries.Placed.Placed, publication.Publication.Publication}
use Rattle.history_model.specs.declared.entries.Entry.TheVariants as entry
use Rattle.history_model.specs.{Allowed.{Allowed, first_passed}, Entries.entries_of, Publications.cut_count}
use Rattle.track_model.specs.Tracks.{with_publication}
use Rattle.machine_state.{specs.Made.{publication_from, entry_of}, proofs.Publishing.may-publish}
use Rattle.track_series.{specs.Publications.{IsAdded, passed}, proofs.publishing.put.Goals.After-most-2}
use Rattle.track_series.specs.declared.publishing.Published.TheVariants as published
use Rattle.track_series.proofs.publishing.put.Goals as goal

-- the entry that it adds, and what the tests leave
module _ (c : After-most-2) where
  abbrev h : List Entry
  h = entries_of c.args.track.now.history

  abbrev e : Entry
  e = entry_of c.args.redone.done

  room : length h < most limit.Steps
  room = omega (arith, c.len.ensures, length-map c.args.track.now.history (λ (p : Placed). p.entry), c.if-len-most.false, c.most.ensures)

  -- the steps stay within their limit, so it is the cuts that say more
  of-cuts : (o : Option Limit) → first_passed (limit.Cuts ∷ []) h e ≡ o → passed h c.args.redone.done ≡ o
  of-cuts o is = c.within_law.ensures.kept limit.Steps (limit.Cuts ∷ []) h e (omega (arith, length-append h (e ∷ []), room)) ∙ is

pub add_publication-requires-clause-allowed : goal.add_publication-requires-clause-allowed
add_publication-requires-clause-allowed c =
    let at = (goal.at.add_publication-requires-clause-allowed c).After-most-2 in
    let few : cut_count (h at) + length c.args.redone.done.cert.cuts ≤ most limit.Cuts = omega (arith, c.cut_count.ensures.count, c.cut_count.ensures.few, c.len-2.ensures, c.most-2.ensures, c.if-len-most-2.false) in
    subst (λ (p : Publication). Allowed (h at) (entry.Publish p)) (sym c.in_ok-publication.ensures)
    (c.publish_law.ensures.allowed (h at) (publication_from c.args.redone.done) c.history_law.ensures.limits (may-publish (h at) c.args.redone.done c.requires.made c.requires.latest) (record { steps = room at; cuts = few }))

pub returns-clause-put : goal.returns-clause-put
returns-clause-put c =
    let at = (goal.at.returns-clause-put c).After-most-2 in
    let more = c.publication_law.ensures.cuts (h at) (e at) in
    let cuts : cut_count (h at ++ e at ∷ []) ≤ most limit.Cuts = omega (arith, more, c.cut_count.ensures.count, c.cut_count.ensures.few, c.len-2.ensures, c.most-2.ensures, c.if-len-most-2.false) in
    subst (λ (o : Option Limit). IsAdded o c.args.track.now c.args.author c.args.redone.done (published.Ok c.in_ok-step.step) c.add_publication.new.self)
    (sym (of-cuts at None (c.within_law.ensures.kept limit.Cuts [] (h at) (e at) cuts)))
    (ap published.Ok c.in_ok-step.ensures.step, c.in_ok-step.ensures.track ∙ ap (λ (p : Publication). with_publication c.args.author c.args.track.now p) c.in_ok-publication.ensures)

pub returns-then-len-most-2-clause-put : goal.returns-then-len-most-2-clause-put
returns-then-len-most-2-clause-put c =
    let at = (goal.at.returns-then-len-most-2-clause-put c).After-most-2 in
    let more = c.publication_law.ensures.cuts (h at) (e at) in
    let many : most limit.Cuts < cut_count (h at ++ e at ∷ []) = omega (arith, more, c.cut_count.ensures.count, c.cut_count.ensures.few, c.len-2.ensures, c.most-2.ensures, c.if-len-most-2.true) in
    subst (λ (o : Option Limit). IsAdded o c.args.track.now c.args.author c.args.redone.done (published.Full limit.Cuts) c.args.track.now)
    (sym (of-cuts at (Some limit.Cuts) (c.within_law.ensures.passed limit.Cuts [] (h at) (e at) many))) (refl, refl)
