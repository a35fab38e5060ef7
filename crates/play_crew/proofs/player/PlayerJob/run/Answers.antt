use Rattle.std.proofs.Common.{sym}
use Rattle.play_crew.proofs.Players.{was-played}
use Rattle.play_crew.proofs.player.PlayerJob.run.Goals as goal

pub returns : goal.returns
returns g c =
    let s = c.self.inside in
    let p = c.play_script-self-inside in
    rw (sym c.self.view_is) (was-played g.I.Source g.O.Sink s.number s.desk p.new.desk s.script.input p.new.input s.script.output p.new.out s.ended p.result p.ensures.played p.ensures.ends p.ensures.counts p.ensures.named)
