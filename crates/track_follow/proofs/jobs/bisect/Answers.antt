use Rattle.std.{proofs.Common.{◌≡◌, ℕ, List, refl, sym, subst, ◌∙◌, Option, Some}, specs.Prelude.{IsSome, unwrap_or}}
use Rattle.history_model.specs.{declared.entries.Entry.Entry, Commits.{name_of, number_of}, Entries.entries_of}
use Rattle.track_replay.proofs.Named.{number-is-named}
use Rattle.track_follow.proofs.jobs.bisect.Goals as goal

named : (h : List Entry) (name : List ℕ) (n : ℕ) → number_of name h ≡ Some n → IsSome (name_of n h)
named h name n is =
    let P : Option ℕ → Type 0 = λ o. IsSome (name_of (unwrap_or o 0) h) in
    let some : IsSome (number_of name h) = subst (λ (o : Option ℕ). IsSome o) (sym is) refl in
    subst P is (number-is-named h name some)

pub begin-requires : goal.begin-requires
begin-requires c =
    let h : List Entry = entries_of c.args.track.now.history in (
      named h c.args.lo.now c.in-Some.lo (sym c.number_of.ensures ∙ c.in-Some.is),
      named h c.args.hi.now c.in-Some-number_of.hi (sym c.number_of-2.ensures ∙ c.in-Some-number_of.is),
      c.if-lo-hi.false,
    )
