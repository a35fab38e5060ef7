use Rattle.std.proofs.Common.{sym, ◌∙◌}
use Rattle.track_model.proofs.Settings.{setting-is}
use Rattle.journal_walk.proofs.start.start_at.Goals as goal

pub returns-then-is_same_setting : goal.returns-then-is_same_setting
returns-then-is_same_setting c = setting-is c.in-Some.start.setting c.args.setting (sym c.is_same_setting.ensures ∙ c.if-is_same_setting.true)
