use Rattle.std.proofs.Common.{◌≡◌, ◌+◌, ℕ, List, ap, sym, subst, ◌∙◌, length, filter}
use Rattle.audit_model.specs.Heard.{is_of_store}
use Rattle.history_model.specs.declared.entries.Placed.{Placed}
use Rattle.journal_reader.specs.Journals.{Journal}
use Rattle.play_audit.proofs.{Listed.read_at, Knowing.{AreKnownFirst, known_next}}
use Rattle.play_audit.proofs.hearing.places_of.Goals as goal

pub loop-journal-preserved : goal.loop-journal-preserved
loop-journal-preserved c =
    let js = c.args.journals.now in
    let n : ℕ = c.loop-journal.journal-index in
    let at = read_at js n c.journal-item.result c.loop-journal-test.true c.journal-item.is in
    let view = c.journal.view_is in
    let history : c.deref.result.now ≡ c.journal-item.result.history = c.deref.ensures.value ∙ ap (λ (j : Journal). j.history) view in
    let known = c.kept_count-known.ensures ∙ ap (λ (h : List Placed). length (filter is_of_store h)) history in
    subst (AreKnownFirst js (n + 1)) (sym c.in_ok-push.ensures.items)
    (known_next js n c.kept_count-known.result c.args.anew c.journal-item.result c.loop-journal.places.items c.requires c.loop-journal.invariant at known)
