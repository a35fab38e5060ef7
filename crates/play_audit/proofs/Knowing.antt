-- Private: no public contract cites this. A script's ways along the journals.
use Rattle.std.proofs.{Common.{◌≡◌, inl, inr, ℕ, ◌+◌, ◌≤◌, List, [], ◌∷◌, ◌++◌, length, Some, None, sym, ap, subst, ◌∙◌, arith}, lemmas.Grind.common_steps}
use Rattle.std.{specs.Prelude.{Bool, slice_get}, specs.List.AllByRecursion, proofs.Common.{filter, length-append}}
use Rattle.journal_reader.specs.Journals.{Journal, AreDifferent, IsOther}
use Rattle.audit_model.{specs.Heard.{is_of_store, kept_count}, specs.Verdicts.track_of, proofs.Exchanges.snoc_at}
use Rattle.audit_model.proofs.Machines.{AreOthers, IsOtherTrack, kept_at}
use Rattle.play_audit.{specs.Known.{AreKnown, AreSound, IsKnown, tracks_of}, proofs.Listed.{same_at, track_at}, proofs.Marking.filter_short}
use Rattle.play_audit.specs.declared.place.Place.{Place}

-- along the first journals, so many
pub record AreKnownFirst (js : List Journal) (n : ℕ) (places : List Place) : Type 0 where
  pub many : length places ≡ n
  pub each : (a : ℕ) (j : Journal) (p : Place) → slice_get js a ≡ Some j → slice_get places a ≡ Some p → IsKnown js [] j p

-- ---- different machines

other-tracks : (m : List ℕ) (js : List Journal) → AllByRecursion (IsOther m) js → AllByRecursion (IsOtherTrack m) (tracks_of js)
other-tracks m [] each = tt
other-tracks m (j ∷ js) each = (each.0, other-tracks m js each.1)

pub tracks_other : (js : List Journal) → AreDifferent js → AreOthers (tracks_of js)
tracks_other [] different = tt
tracks_other (j ∷ js) different = (other-tracks j.machine js different.0, tracks_other js different.1)

pub none_other : (m : List ℕ) (js : List Journal) → AllByRecursion (IsOther m) js → AllByRecursion (IsOtherTrack m) (tracks_of js)
none_other m js each = other-tracks m js each

-- ---- at the beginning

-- one way more
pub known_next : (js : List Journal) (n known : ℕ) (anew : Bool) (j : Journal) (places : List Place) → AreSound js → AreKnownFirst js n places
    → slice_get js n ≡ Some j → known ≡ length (filter is_of_store j.history) → AreKnownFirst js (n + 1) (places ++ record { walk = None; known = known; anew = anew } ∷ [])
known_next js n known anew j places sound first here counted =
    let p : Place = record { walk = None; known = known; anew = anew } in
    let kept : kept_count (tracks_of js) j.machine ≡ length (filter is_of_store j.history) =
    kept_at (tracks_of js) n (track_of j) (tracks_other js sound.different) (track_at js n j here) in
    let short : length (filter is_of_store j.history) ≤ length j.history = filter_short is_of_store j.history in
    let within : known ≤ length j.history = omega (arith, counted, short) in
    let is : IsKnown js [] j p = grind (arith, common_steps) in
    record {
      many = length-append places (p ∷ []) ∙ ap (λ (k : ℕ). k + 1) first.many;
      each = λ a i q at there. elim (snoc_at places p q a there) [
        | inl l ↦ first.each a i q at l.1
        | inr r ↦
            let place : a ≡ n = r.0 ∙ first.many in
            let one : i ≡ j = same_at js n i j (subst (λ (k : ℕ). slice_get js k ≡ Some i) place at) here in
            subst (λ (x : Journal). IsKnown js [] x q) (sym one) (subst (IsKnown js [] j) (sym r.1) is)
      ];
    }

pub all_known : (js : List Journal) (n : ℕ) (places : List Place) → n ≡ length js → AreKnownFirst js n places → AreKnown js [] places
all_known js n places size first = record { many = first.many ∙ size; each = first.each }
