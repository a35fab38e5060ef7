use Rattle.std.{proofs.Common.{length, FitsSigned, subst, sym, ap, ◌∙◌}, specs.Int.w128, proofs.lemmas.Int.to_z-of_z}
use Rattle.history_model.specs.declared.entries.Entry.TheVariants.{Publish}
use Rattle.track_entry.proofs.{Same.same_publication, Readers.kept_err}
use Rattle.track_entry.proofs.read.read_publish.Goals as goal

pub returns-in_err-test : goal.returns-in_err-test
returns-in_err-test c p is are =
    kept_err c.in_err-test.field-0.0 c.from_residual.result _ _ c.from_residual.ensures (c.in_err-test.ensures.reads p.test p.metric p.version p.base _ is.series.test is.series.metric is.series.short is.version is.base are)

pub returns-in_err-total : goal.returns-in_err-total
returns-in_err-total c p is are =
    let read = c.in_ok-test.ensures.reads p.test p.metric p.version p.base _ is.series.test is.series.metric is.series.short is.version is.base are in
    kept_err c.in_err-total.field-0.0 c.from_residual-in_err-total.result _ _ c.from_residual-in_err-total.ensures (c.in_err-total.ensures.reads p.total _ is.total read.4)

pub returns-in_err-behind_count : goal.returns-in_err-behind_count
returns-in_err-behind_count c p is are =
    let read = c.in_ok-test.ensures.reads p.test p.metric p.version p.base _ is.series.test is.series.metric is.series.short is.version is.base are in
    let total = c.in_ok-total.ensures.reads p.total _ is.total read.4 in
    kept_err c.in_err-behind_count.field-0.0 c.from_residual-in_err-behind_count.result _ _ c.from_residual-in_err-behind_count.ensures (c.in_err-behind_count.ensures.reads (length p.cuts) _ is.few total.1)

pub returns-in_err-cuts : goal.returns-in_err-cuts
returns-in_err-cuts c p is are =
    let read = c.in_ok-test.ensures.reads p.test p.metric p.version p.base _ is.series.test is.series.metric is.series.short is.version is.base are in
    let total = c.in_ok-total.ensures.reads p.total _ is.total read.4 in
    kept_err c.in_err-cuts.field-0.0 c.from_residual-in_err-cuts.result _ _ c.from_residual-in_err-cuts.ensures (c.in_err-cuts.ensures p.cuts is.each (c.in_ok-behind_count.ensures.reads (length p.cuts) _ is.few total.1).1)

pub returns : goal.returns
returns c p is are =
    let read = c.in_ok-test.ensures.reads p.test p.metric p.version p.base _ is.series.test is.series.metric is.series.short is.version is.base are in
    let total = c.in_ok-total.ensures.reads p.total _ is.total read.4 in
    let count = c.in_ok-behind_count.ensures.reads (length p.cuts) _ is.few total.1 in
    let fits : FitsSigned w128 c.in_ok-total.total = subst (FitsSigned w128) (sym total.0) is.total in
    ap Publish c.in_ok-publication.ensures
    ∙ same_publication p read.0 read.1 read.2 read.3 (to_z-of_z w128 c.in_ok-total.total fits ∙ total.0) (c.in_ok-cuts.ensures p.cuts is.each count.1)
