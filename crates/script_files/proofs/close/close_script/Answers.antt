use Rattle.std.{proofs.Common.{List, [], ◌∷◌, Option, Some, None}, specs.Prelude.{IfSome, IsSome}}
use Rattle.track_outside.specs.Named.{NamedBytes}
use Rattle.track_outside.specs.declared.sink.Sink as sink
use Rattle.script_files.specs.{declared.open.OpenScript.OpenScript, Closing.AreClosable}

module _ {I O : Type 0} (o : sink.Ghosts O) where
  tells : (told : Option (List NamedBytes)) (s : OpenScript I O) → AreClosable o told (s ∷ []) → IfSome told (λ names. IsSome (o.taken s.output))
  tells None s all = tt
  tells (Some names) s all = all.0.tells
