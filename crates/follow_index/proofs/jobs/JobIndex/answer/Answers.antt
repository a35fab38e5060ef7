use Rattle.follow_index.proofs.Counts.{numbers-after, goes-on}
use Rattle.follow_index.proofs.jobs.JobIndex.answer.Goals as goal

pub invariant_of-self : goal.invariant_of-self
invariant_of-self c = numbers-after c.args.number c.args.place c.answer.new.self c.self.view_is c.requires c.index_mut-job.ensures.value _ _ c.self.invariant c.keep_open.ensures

pub returns : goal.returns
returns c = goes-on c.args.number c.args.place c.answer.new.self c.self.view_is c.requires c.index_mut-job.ensures.value _ _ c.answer.ensures.told c.answer.ensures.done
