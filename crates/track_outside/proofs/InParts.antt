-- What a sink took of bytes that are written in parts.
use Rattle.std.proofs.{Common.{◌≡◌, ℕ, ◌+◌, ◌≤◌, List, [], ◌++◌, length, take, Option, sym, ap, ◌∙◌, arith, length-append}, lemmas.Grind.common_steps}
use Rattle.std.{specs.Io.KnownBytes.append_known, proofs.Math.Seq.take-append-add}
use Rattle.track_outside.specs.{declared.sink.Sink.Ghosts, Calls.{Took, TookFront, FailedIn, TookPart}}

append_known-append : (before : Option (List ℕ)) (part more : List ℕ) → append_known (append_known before part) more ≡ append_known before (part ++ more)
append_known-append before part more = grind (arith, common_steps)

pub append_known-nil : (before : Option (List ℕ)) → before ≡ append_known before []
append_known-nil before = grind (arith, common_steps)

module _ {O : Type 0} (g : Ghosts O) where
  pub took_none : (old new : O) → g.taken new ≡ g.taken old → g.faults old ≤ g.faults new → Took g old new []
  took_none old new same counts = record { taken = same ∙ append_known-nil (g.taken old); counts = counts }

  module _ (old between new : O) (part more : List ℕ) (took : Took g old between part) where
    pub took_more : Took g between new more → Took g old new (part ++ more)
    took_more next = record {
      taken = next.taken ∙ ap (λ known. append_known known more) took.taken ∙ append_known-append (g.taken old) part more;
      counts = omega (arith, took.counts, next.counts);
    }

    -- a first part of what comes next goes on behind what was taken
    front_more : TookFront (g.taken between) (g.taken new) more → TookFront (g.taken old) (g.taken new) (part ++ more)
    front_more front = (
      length part + front.0,
      omega (arith, front.1, length-append part more),
      front.2 ∙ ap (λ known. append_known known (take front.0 more)) took.taken ∙ append_known-append (g.taken old) part (take front.0 more)
          ∙ ap (append_known (g.taken old)) (sym (take-append-add part more front.0)),
    )

    pub failed_more : FailedIn g between new more → FailedIn g old new (part ++ more)
    failed_more failed = record { part = front_more failed.part; rose = omega (arith, took.counts, failed.rose); counts = omega (arith, took.counts, failed.counts) }

    pub part_more : TookPart g between new more → TookPart g old new (part ++ more)
    part_more some = record { part = front_more some.part; counts = omega (arith, took.counts, some.counts) }

  -- what it took a first part of goes on
  pub failed_first : (old new : O) (part more : List ℕ) → FailedIn g old new part → FailedIn g old new (part ++ more)
  failed_first old new part more failed = grind (arith, common_steps)
