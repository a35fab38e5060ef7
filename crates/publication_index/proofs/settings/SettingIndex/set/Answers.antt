use Rattle.std.{proofs.Common.{Option, Some, cond, ap, ◌∙◌}, specs.Prelude.{unwrap_or, bytes_eq}, proofs.lemmas.Map.Text.is_eq-slice_cmp}
use Rattle.name_index.{specs.Pairs.{Named, is_same, found_name}, proofs.Written.read-cond}
use Rattle.history_model.specs.{declared.setting.Setting.Setting, Penalties.default_setting}
use Rattle.publication_index.specs.Given.{given}
use Rattle.publication_index.proofs.settings.SettingIndex.set.Goals as goal

pub returns-clause-ok : goal.returns-clause-ok
returns-clause-ok c m =
    let read : Option Setting → Setting = λ o. unwrap_or o (default_setting m) in
    ap read (c.in_ok-put.ensures.ok m)
    ∙ read-cond read (is_same c.args.metric.now m) (Some c.args.setting) (found_name m c.self.inside.0)
    ∙ ap (λ b. cond b c.args.setting (given m c.self.inside.0)) (is_eq-slice_cmp c.args.metric.now m)
    ∙ ap (λ (es : Named Setting). cond (bytes_eq c.args.metric.now m) c.args.setting (given m es)) c.self.view_is
