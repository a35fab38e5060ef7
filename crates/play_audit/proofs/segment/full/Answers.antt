use Rattle.std.{proofs.Common.{◌≡◌, ◌≢◌, ◌+◌, ◌-◌, ◌<◌, ◌≤◌, ◌++◌, ℕ, List, length, sym, subst, arith}, specs.Prelude.{IfNone, IfOk, IfSome, Option}}
use Rattle.metric_table.specs.{Limits.most, declared.limits.Limit.TheVariants.{Cuts, Steps}}
use Rattle.history_model.specs.Publications.{cut_count}
use Rattle.request_model.specs.declared.replies.Refusal.TheVariants.{Full}
use Rattle.reply_text.specs.Replies.{text_of}
use Rattle.track_model.specs.{Outcomes.refuses, Replies.reply_of}
use Rattle.journal_walk.specs.Walks.{Walked, added}
use Rattle.play_audit.specs.{Segments.PassesCuts, Texts.BeginsWith}
use Rattle.play_audit.proofs.Refusing.{cuts_fit, cuts_full, cuts_not, full_front, not_front, steps_full, steps_not}
use Rattle.play_audit.proofs.segment.full.Goals as goal

pub returns-then-len-most-clause-some : goal.returns-then-len-most-clause-some
returns-then-len-most-clause-some c =
    let full : most Steps ≤ length c.args.walk.now.track.history = omega (arith, c.if-len-most.true, c.len.ensures, c.most.ensures) in
    full_front c.publication_law.ensures.cuts c.args.walk.now c.args.known c.args.test.now c.args.metric.now c.args.transcript.now Steps c.refused.result
    (steps_full c.publication_law.ensures.cuts c.args.walk.now c.args.known c.args.test.now c.args.metric.now c.args.transcript.now c.requires.known.along c.requires.known.since
    c.requires.known.there c.args.last c.requires.known.is_last full c.requires.known.past c.in_ok-_cuts._cuts c.in_ok-_cuts.ensures.cuts)
    (subst (λ (x : Walked). IfOk c.refused.result (λ o. IfSome o (BeginsWith c.args.transcript.now (reply_of (added x) (refuses (Full Steps)))))) c.in_ok-_cuts.ensures.same c.refused.ensures.some)

pub returns-then-len-most-clause-none : goal.returns-then-len-most-clause-none
returns-then-len-most-clause-none c =
    let full : most Steps ≤ length c.args.walk.now.track.history = omega (arith, c.if-len-most.true, c.len.ensures, c.most.ensures) in
    not_front c.publication_law.ensures.cuts c.args.walk.now c.args.known c.args.test.now c.args.metric.now c.args.transcript.now (Full Steps) c.refused.result
    (steps_not c.publication_law.ensures.cuts c.args.walk.now c.args.known c.args.test.now c.args.metric.now c.args.transcript.now c.requires.known.along c.requires.known.since
    c.requires.known.there c.args.last c.requires.known.is_last full)
    (subst (λ (x : Walked). IfOk c.refused.result (λ o. IfNone o ((rest : List ℕ) → c.args.transcript.now ≢ text_of (reply_of (added x) (refuses (Full Steps))) ++ rest))) c.in_ok-_cuts.ensures.same c.refused.ensures.none)

pub returns-then-branch-clause-some : goal.returns-then-branch-clause-some
returns-then-branch-clause-some c =
    let left : length c.args.walk.now.track.history < most Steps = omega (arith, c.if-len-most.false, c.len.ensures, c.most.ensures) in
    let few : cut_count (added c.args.walk.now) ≤ most Cuts = c.passes_cuts.ensures.few in
    let room : cut_count (added c.args.walk.now) + (most Cuts - cut_count (added c.args.walk.now)) ≡ most Cuts = omega (arith, few) in
    record {
      limit = Cuts;
      full = cuts_full c.publication_law.ensures.cuts c.args.walk.now c.args.known c.args.test.now c.args.metric.now c.args.transcript.now c.requires.known.along c.requires.known.since
          c.requires.known.there c.args.last c.requires.known.is_last left (most Cuts - cut_count (added c.args.walk.now)) room
          (subst (λ (n : ℕ). PassesCuts c.args.walk.now.history (record { test = c.args.test.now; metric = c.args.metric.now }) n (length c.args.walk.now.track.history) (most Cuts - cut_count (added c.args.walk.now)))
          c.max.ensures (c.in_ok-passes_cuts-in-Some.ensures.yes c.if-branch.true));
      begins = subst (λ (o : Option ℕ). IfSome o (BeginsWith c.args.transcript.now (reply_of (added c.args.walk.now) (refuses (Full Cuts))))) c.in-Some.is c.in_ok-len.ensures.some;
    }

pub returns-else-branch-clause-none : goal.returns-else-branch-clause-none
returns-else-branch-clause-none c =
    let left : length c.args.walk.now.track.history < most Steps = omega (arith, c.if-len-most.false, c.len.ensures, c.most.ensures) in
    let few : cut_count (added c.args.walk.now) ≤ most Cuts = c.passes_cuts.ensures.few in
    let room : cut_count (added c.args.walk.now) + (most Cuts - cut_count (added c.args.walk.now)) ≡ most Cuts = omega (arith, few) in
    cuts_fit c.publication_law.ensures.cuts c.args.walk.now c.args.known c.args.test.now c.args.metric.now c.args.transcript.now c.requires.known.along c.requires.known.since
    c.requires.known.there c.args.last c.requires.known.is_last left (most Cuts - cut_count (added c.args.walk.now)) room
    (λ version since until. c.in_ok-passes_cuts-in-Some.ensures.no c.if-branch.false version (subst (λ (n : ℕ). n ≤ version) (sym c.max.ensures) since) until)

pub returns-in-None-clause-none : goal.returns-in-None-clause-none
returns-in-None-clause-none c =
    let left : length c.args.walk.now.track.history < most Steps = omega (arith, c.if-len-most.false, c.len.ensures, c.most.ensures) in
    cuts_not c.publication_law.ensures.cuts c.args.walk.now c.args.known c.args.test.now c.args.metric.now c.args.transcript.now c.requires.known.along c.requires.known.since
    c.requires.known.there c.args.last c.requires.known.is_last left
    (subst (λ (o : Option ℕ). IfNone o ((rest : List ℕ) → c.args.transcript.now ≢ text_of (reply_of (added c.args.walk.now) (refuses (Full Cuts))) ++ rest)) c.in-None.is c.in_ok-len.ensures.none)
