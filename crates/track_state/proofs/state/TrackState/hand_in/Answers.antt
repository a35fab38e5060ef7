use Rattle.std.{proofs.Common.{◌≡◌, ◌≢◌, ℕ, cond, List, refl, sym, ap, subst, ◌∙◌, None, true, arith}, specs.Prelude.nat_lt, proofs.lemmas.Grind.common_steps}
use Rattle.metric_table.specs.declared.limits.Limit.{Limit}
use Rattle.segment_cost.specs.declared.done.Done.{Done}
use Rattle.history_model.specs.{declared.entries.Author.Author, declared.entries.Entry.Entry, Entries.entries_of, Publications.last_publication}
use Rattle.history_model.{specs.Runs.{Series, is_known, same_series}, proofs.Cases.any-err}
use Rattle.publication_index.specs.Kept.{series_of as series_of_done}
use Rattle.touch_index.specs.{Marks.mark_of, declared.key.SeriesKey.SeriesKey, declared.mark.Claim.TheVariants.{Free, Refused}}
use Rattle.touch_model.specs.Touches.{last_touch}
use Rattle.track_model.specs.Tracks.{Track}
use Rattle.track_step.specs.{Publications.{IsPublished, later}, Published.Published}
use Rattle.track_step.specs.Published.TheVariants as published
use Rattle.track_state.specs.{Covering.{Covers, MakeSame}, Taking.{Finishes, Publishes, claim_after}, Work.{Work, claim_by, key_of, series_of}}
use Rattle.track_state.proofs.{Snapped.is-same, Handed.freed}
use Rattle.track_state.proofs.state.TrackState.hand_in.Goals as goal

-- a limit refused it: nothing was published, and no later version had been
refused : (old : Track) (author : Author) (done : Done) (told : Published) (limit : Limit) (new : Track) → told ≡ published.Full limit → IsPublished old author done told new
    → (later done.version (last_publication (series_of_done done) (entries_of old.history)) ≡ None) × (new ≡ old)
refused old author done told limit new is published = grind (arith, common_steps)

pub note_refusal-requires-clause-covers : goal.note_refusal-requires-clause-covers
note_refusal-requires-clause-covers c =
    let full = refused c.self.inside.track c.args.author c.args.done c.in_ok-end.end.told c.in-Full.field-0 c.finish.new.track c.in-Full.is c.in_ok-end.ensures.published in
    subst (λ (t : Track). Covers (entries_of t.history) c.self.inside.seen c.self.inside.touched) (sym full.1) c.self.invariant

pub note_refusal-requires-clause-known : goal.note_refusal-requires-clause-known
note_refusal-requires-clause-known c =
    let full = refused c.self.inside.track c.args.author c.args.done c.in_ok-end.end.told c.in-Full.field-0 c.finish.new.track c.in-Full.is c.in_ok-end.ensures.published in
    let s : Series = series_of_done c.args.done in
    let k_is : series_of c.in_ok-key.key ≡ s = ap series_of c.in_ok-key.ensures in
    let made : is_known s (entries_of c.self.inside.track.history) ≡ true = grind (arith, common_steps) in
    subst (λ (t : Track). is_known (series_of c.in_ok-key.key) (entries_of t.history) ≡ true) (sym full.1)
    (subst (λ (u : Series). is_known u (entries_of c.self.inside.track.history) ≡ true) (sym k_is) made)

pub note_refusal-requires-clause-latest : goal.note_refusal-requires-clause-latest
note_refusal-requires-clause-latest c =
    let full = refused c.self.inside.track c.args.author c.args.done c.in_ok-end.end.told c.in-Full.field-0 c.finish.new.track c.in-Full.is c.in_ok-end.ensures.published in
    let k_is : series_of c.in_ok-key.key ≡ series_of_done c.args.done = ap series_of c.in_ok-key.ensures in
    subst (λ (t : Track). later c.args.done.version (last_publication (series_of c.in_ok-key.key) (entries_of t.history)) ≡ None) (sym full.1)
    (subst (λ (u : Series). later c.args.done.version (last_publication u (entries_of c.self.inside.track.history)) ≡ None) (sym k_is) full.0)

pub returns-in_err-note_refusal-clause-same : goal.returns-in_err-note_refusal-clause-same
returns-in_err-note_refusal-clause-same c =
    let full = refused c.self.inside.track c.args.author c.args.done c.in_ok-end.end.told c.in-Full.field-0 c.finish.new.track c.in-Full.is c.in_ok-end.ensures.published in
    any-err c.from_residual-in_err-note_refusal.result
    (is-same c.args.self.now c.self.inside.track c.finish.new.track c.self.inside.touched c.note_refusal.new.touched c.self.inside.claimed.items c.self.view_is full.1
    (subst (λ (t : Track). MakeSame (entries_of t.history) c.self.inside.touched c.note_refusal.new.touched) full.1 c.in_err-note_refusal.ensures.same))

pub returns-in-Full-clause-published : goal.returns-in-Full-clause-published
returns-in-Full-clause-published c =
    let full = refused c.self.inside.track c.args.author c.args.done c.in_ok-end.end.told c.in-Full.field-0 c.finish.new.track c.in-Full.is c.in_ok-end.ensures.published in
    let h : List Entry = entries_of c.self.inside.track.history in
    let version : ℕ = c.args.done.version in
    let key : SeriesKey = c.in_ok-key.key in
    let k_is : series_of key ≡ series_of_done c.args.done = ap series_of c.in_ok-key.ensures in
    let before : Work = record { track = c.self.inside.track; marks = c.self.inside.touched; jobs = c.self.inside.claimed.items } in
    let after : Work = record { track = c.finish.new.track; marks = c.note_refusal.new.touched; jobs = c.self.inside.claimed.items } in
    let made : Publishes before c.args.author c.args.done (published.Full c.in-Full.field-0) after = record {
      track = subst (λ (t : Published). IsPublished c.self.inside.track c.args.author c.args.done t c.finish.new.track) c.in-Full.is c.in_ok-end.ensures.published;
      claims = λ t.
          subst (λ (x : Track). claim_by (entries_of c.finish.new.track.history) t (mark_of (key_of t) c.note_refusal.new.touched)
          ≡ cond (same_series (series_of key) t) (cond (nat_lt version (last_touch (entries_of x.history) (series_of key))) Free Refused) (claim_by (entries_of x.history) t (mark_of (key_of t) c.self.inside.touched))) full.1
          (c.in_ok-note_refusal.ensures.refused t)
          ∙ ap (λ (s : Series). cond (same_series s t) (cond (nat_lt version (last_touch h s)) Free Refused) (claim_by h t (mark_of (key_of t) c.self.inside.touched))) k_is;
      jobs = refl;
    } in
    subst (λ (w : Work). Publishes w c.args.author c.args.done c.in_ok-end.end.told after) c.self.view_is
    (subst (λ (t : Published). Publishes before c.args.author c.args.done t after) (sym c.in-Full.is) made)

-- no limit refused it, so the claim ends
is-free : (told : Published) (version touched : ℕ) → ((limit : Limit) → told ≢ published.Full limit) → claim_after told version touched ≡ Free
is-free (published.Ok step) version touched other = refl
is-free (published.Stale later) version touched other = refl
is-free (published.Full limit) version touched other = absurd (other limit refl)

pub invariant_of-self-2 : goal.invariant_of-self-2
invariant_of-self-2 c =
    (freed c.touch_law.ensures.last c.touch_law.ensures.past c.touch_law.ensures.known c.publication_law.ensures.known c.stale_law.ensures
    c.self.inside.track c.args.author c.args.done c.finish.new.track c.history_law.ensures.legal c.self.inside.seen c.self.inside.touched c.set_claim.new.self c.in_ok-key.key c.self.invariant c.set_claim.ensures
    c.in_ok-end.end.told c.in_ok-end.ensures.published c.in_default.not-Full).0

pub returns : goal.returns
returns c =
    let h : List Entry = entries_of c.self.inside.track.history in
    let s : Series = series_of_done c.args.done in
    let told : Published = c.in_ok-end.end.told in
    let k_is : series_of c.in_ok-key.key ≡ s = ap series_of c.in_ok-key.ensures in
    let before : Work = record { track = c.self.inside.track; marks = c.self.inside.touched; jobs = c.self.inside.claimed.items } in
    let after : Work = record { track = c.finish.new.track; marks = c.set_claim.new.self; jobs = c.self.inside.claimed.items } in
    let all = freed c.touch_law.ensures.last c.touch_law.ensures.past c.touch_law.ensures.known c.publication_law.ensures.known c.stale_law.ensures
    c.self.inside.track c.args.author c.args.done c.finish.new.track c.history_law.ensures.legal c.self.inside.seen c.self.inside.touched c.set_claim.new.self c.in_ok-key.key c.self.invariant c.set_claim.ensures
    told c.in_ok-end.ensures.published c.in_default.not-Full in
    let made : Publishes before c.args.author c.args.done told after = record {
      track = c.in_ok-end.ensures.published;
      claims = grind (arith, common_steps, all.1, cond, same_series, h, k_is, s, is-free, told, c.self.inside.touched, c.in_default.not-Full);
      jobs = refl;
    } in
    record {
      published = subst (λ (w : Work). Publishes w c.args.author c.args.done told after) c.self.view_is made;
      step = subst (λ (w : Work). Finishes w c.args.author c.args.done after c.in_ok-end.end.reply) c.self.view_is c.in_ok-end.ensures.step;
      same = tt;
    }
