-- What the names of transcripts have when all are closed.
use Rattle.std.{proofs.Common.{◌≡◌, ◌≢◌, ◌∙◌, ℕ, List, [], ◌∷◌, Option, Some, None, refl, sym, subst, arith}, specs.Prelude.{IsSome, option_map, unwrap_or}}
use Rattle.std.{specs.List.AllByRecursion, proofs.lemmas.Grind.common_steps}
use Rattle.track_outside.{specs.Named.{NamedBytes, bytes_at, with_bytes}, proofs.Places.bytes_at-with_bytes}
use Rattle.track_outside.specs.declared.sink.Sink as sink
use Rattle.script_files.specs.{declared.open.OpenScript.OpenScript, Closing.{AreClosable, IsClosable, AreApart, HaveWritten, with_written}}
use Rattle.script_files.proofs.{FromStart.bytes_at-other, Names.closable_still}

told_text : (taken : Option (List ℕ)) → IsSome taken → Some (unwrap_or taken []) ≡ taken
told_text taken tells = grind (arith, common_steps)

module _ {I O : Type 0} (o : sink.Ghosts O) where
  -- a name that is none of theirs has what it had
  other_kept : (name : List ℕ) (opened : List (OpenScript I O)) (names : List NamedBytes) → AllByRecursion (λ s. o.name s.output ≢ name) opened
      → bytes_at name (with_written o opened names) ≡ bytes_at name names
  other_kept name [] names apart = refl
  other_kept name (s ∷ opened) names apart =
      other_kept name opened (with_bytes (o.name s.output) (unwrap_or (o.taken s.output) []) names) apart.1
      ∙ bytes_at-other (o.name s.output) (unwrap_or (o.taken s.output) []) name names apart.0

  each_written : (opened : List (OpenScript I O)) (names : List NamedBytes) → AllByRecursion (IsClosable o names) opened → AreApart o opened
      → AllByRecursion (λ s. bytes_at (o.name s.output) (with_written o opened names) ≡ o.taken s.output) opened
  each_written [] names all apart = tt
  each_written (s ∷ opened) names all apart =
      let text = unwrap_or (o.taken s.output) [] in
      let next = with_bytes (o.name s.output) text names in (
        other_kept (o.name s.output) opened next apart.0 ∙ bytes_at-with_bytes (o.name s.output) text names ∙ told_text (o.taken s.output) all.0.tells,
        each_written opened next (closable_still o (o.name s.output) text names opened all.1) apart.1,
      )

  pub have_written : (opened : List (OpenScript I O)) (before after : Option (List NamedBytes)) → AreClosable o before opened → AreApart o opened
      → after ≡ option_map (with_written o opened) before → HaveWritten o opened after
  have_written opened before after all apart is = subst (HaveWritten o opened) (sym is) (of before all)
    where
      of : (told : Option (List NamedBytes)) → AreClosable o told opened → HaveWritten o opened (option_map (with_written o opened) told)
      of None all' = tt
      of (Some names) all' = each_written opened names all' apart
