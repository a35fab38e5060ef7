use Rattle.std.{proofs.Common.{◌≡◌, Some, cond, ap, sym, ◌∙◌, arith}, specs.Ordering.is_eq, proofs.lemmas.Grind.common_steps}
use Rattle.history_model.specs.declared.entries.Entry.{Entry, TheVariants.Publish}
use Rattle.journal_walk.specs.{Firsts.{Places, key_cmp, key_of, place_of, publishes}, declared.firsts.SeriesVersion.SeriesVersion}
use Rattle.journal_walk.proofs.firsts.Firsts.put.Goals as goal

pub returns-in_ok-insert : goal.returns-in_ok-insert
returns-in_ok-insert c key =
    let made : SeriesVersion = record { test = c.in_ok-copy.field-0; metric = c.in_ok-copy-2.field-0; version = c.get-p.result.now.version } in
    let named : made ≡ key_of c.get-p.result.now = grind (arith, common_steps) in
    let told : Publish c.get-p.result.now ≡ c.args.entry.now = ap (λ (p : _). Publish p) c.get-p.ensures ∙ sym c.in-Publish.is in
    let put : place_of key c.insert.new.self.entries ≡ cond (is_eq (key_cmp made key)) (Some c.args.place) (place_of key c.self.inside.places.entries) =
    c.in_ok-insert.ensures.updates.0 key in
    put
    ∙ ap (λ (k : SeriesVersion). cond (is_eq (key_cmp k key)) (Some c.args.place) (place_of key c.self.inside.places.entries)) named
    ∙ ap (λ (e : Entry). cond (publishes key e) (Some c.args.place) (place_of key c.self.inside.places.entries)) told
    ∙ ap (λ (ps : Places). cond (publishes key c.args.entry.now) (Some c.args.place) (place_of key ps)) c.self.view_is
