use Rattle.std.{proofs.Common.subst, specs.List.AllByRecursion}
use Rattle.keep_rows.specs.Growth.{MayBeKept}
use Rattle.script_desk.proofs.GoingOn.{kept_come_back}
use Rattle.script_desk.proofs.session.Session.comes_back_law.Goals as goal

pub returns : goal.returns
returns c =
    kept_come_back c.args.self.now c.comes_back_law.ensures.back c.comes_back_law.ensures.loaded
    (subst (AllByRecursion MayBeKept) c.machines.ensures c.may_be_kept_law.ensures)
