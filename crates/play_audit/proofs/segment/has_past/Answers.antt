use Rattle.std.proofs.{Common.{subst, arith}, lemmas.Bool.ltb-true}
use Rattle.journal_walk.specs.Walks.{Walked, GoesOn, IsStuck}
use Rattle.play_audit.proofs.Passing.{few_so_far, goes_further, never_stuck, not-more, some_pass, starts_going}
use Rattle.play_audit.proofs.segment.has_past.Goals as goal

pub loop-past-init : goal.loop-past-init
loop-past-init c = starts_going c.args.past.now (record { test = c.args.test.now; metric = c.args.metric.now }) c.args.to c.args.room c.requires.along c.requires.since c.requires.within

pub returns-then-branch-room-clause-yes : goal.returns-then-branch-room-clause-yes
returns-then-branch-room-clause-yes c = λ is.
    some_pass c.args.past.now c.loop-past.past (record { test = c.args.test.now; metric = c.args.metric.now }) c.args.to c.args.room c.in_ok-cuts_now.field-0
    c.one_certificate_law.ensures c.loop-past.invariant c.in_ok-cuts_now.ensures.cuts c.if-branch-room.true

pub go_on-requires : goal.go_on-requires
go_on-requires c = rw c.in_ok-cuts_now.ensures.same c.loop-past.invariant.by.along

pub unreachable-requires : goal.unreachable-requires
unreachable-requires c =
    never_stuck c.args.past.now c.loop-past.past (record { test = c.args.test.now; metric = c.args.metric.now }) c.args.to c.args.room c.requires.sound c.loop-past.invariant
    (omega (arith, c.len.ensures, c.loop-past-test.true)) (subst IsStuck c.in_ok-cuts_now.ensures.same (c.in_ok-go_on.ensures.stuck c.if-not-branch.true))

pub loop-past-preserved : goal.loop-past-preserved
loop-past-preserved c =
    let goes : GoesOn c.loop-past.past c.go_on.new.self = subst (λ (x : Walked). GoesOn x c.go_on.new.self) c.in_ok-cuts_now.ensures.same (c.in_ok-go_on.ensures.added c.if-not-branch.false) in
    goes_further c.args.past.now c.loop-past.past c.go_on.new.self (record { test = c.args.test.now; metric = c.args.metric.now }) c.args.to c.args.room c.in_ok-cuts_now.field-0
    c.along_law.ensures.stays c.one_certificate_law.ensures c.loop-past.invariant c.in_ok-cuts_now.ensures.cuts c.if-branch-room.false
    (omega (arith, c.len.ensures, c.loop-past-test.true)) goes

pub returns-clause-yes : goal.returns-clause-yes
returns-clause-yes c = λ is.
    some_pass c.args.past.now c.loop-past.past (record { test = c.args.test.now; metric = c.args.metric.now }) c.args.to c.args.room c.in_ok-cuts.cuts
    c.one_certificate_law.ensures c.loop-past.invariant c.in_ok-cuts.ensures.cuts (ltb-true c.args.room c.in_ok-cuts.cuts is)

pub returns-clause-no : goal.returns-clause-no
returns-clause-no c = λ is version since until.
    few_so_far c.args.past.now c.loop-past.past (record { test = c.args.test.now; metric = c.args.metric.now }) c.args.to c.args.room c.in_ok-cuts.cuts
    c.one_certificate_law.ensures c.loop-past.invariant c.in_ok-cuts.ensures.cuts (not-more c.args.room c.in_ok-cuts.cuts is) version since
    (omega (arith, until, c.len.ensures, c.loop-past-test.false))
