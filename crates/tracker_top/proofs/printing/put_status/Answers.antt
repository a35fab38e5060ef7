use Rattle.std.proofs.Common.{decimal, append-nil}
use Rattle.tracker_top.proofs.printing.put_status.Goals as goal

pub returns-in-CutOff-clause-ok : goal.returns-in-CutOff-clause-ok
returns-in-CutOff-clause-ok g c = rw (c.in-CutOff.is, append-nil (decimal c.in-CutOff.offset)) c.put_numbered-in-CutOff.ensures.ok

pub returns-in-CutOff-clause-err : goal.returns-in-CutOff-clause-err
returns-in-CutOff-clause-err g c = rw (c.in-CutOff.is, append-nil (decimal c.in-CutOff.offset)) c.put_numbered-in-CutOff.ensures.err

pub returns-in-InputTooLong-clause-ok : goal.returns-in-InputTooLong-clause-ok
returns-in-InputTooLong-clause-ok g c = rw c.in-InputTooLong.is c.put_all-in-InputTooLong.ensures.ok

pub returns-in-InputTooLong-clause-err : goal.returns-in-InputTooLong-clause-err
returns-in-InputTooLong-clause-err g c = rw c.in-InputTooLong.is c.put_all-in-InputTooLong.ensures.err

pub returns-in-TooFew-clause-ok : goal.returns-in-TooFew-clause-ok
returns-in-TooFew-clause-ok g c = rw (c.in-TooFew.is, append-nil (decimal c.in-TooFew.count)) c.put_numbered-in-TooFew.ensures.ok

pub returns-in-TooFew-clause-err : goal.returns-in-TooFew-clause-err
returns-in-TooFew-clause-err g c = rw (c.in-TooFew.is, append-nil (decimal c.in-TooFew.count)) c.put_numbered-in-TooFew.ensures.err

pub returns-in-Differs-clause-ok : goal.returns-in-Differs-clause-ok
returns-in-Differs-clause-ok g c = rw c.in-Differs.is c.put_all-in-Differs.ensures.ok

pub returns-in-Differs-clause-err : goal.returns-in-Differs-clause-err
returns-in-Differs-clause-err g c = rw c.in-Differs.is c.put_all-in-Differs.ensures.err
