use Rattle.std.{proofs.Common.{rules, ◌≡◌, ℕ, ◌-◌, ◌≤◌, ◌⊎◌, List, [], ◌∷◌, min, length, refl, inl, inr, arith}, specs.Prelude.Contains}
use Rattle.track_outside.specs.Counts.{one_more}
use Rattle.track_outside.proofs.mem_sink.MemSinkSink.write.Goals as goal

-- where no byte of a piece fits, there is no room, or the piece is empty
none_fits : (bytes : List ℕ) (room used : ℕ) → min (length bytes) (room - used) ≡ 0 → (room ≤ used) ⊎ (bytes ≡ [])
none_fits [] room used none = inr refl
none_fits (b ∷ bytes) room used none = inl (omega (arith, none))

pub returns-then-fails : goal.returns-then-fails
returns-then-fails c =
    let why : Contains c.args.self.now.fails (one_more c.args.self.now.calls)
    ⊎ (c.args.self.now.room ≤ length c.args.self.now.taken)
    ⊎ (c.args.bytes.now ≡ []) = elim c.then-fails.either [
      | inl planned ↦ inl (let told = c.next_fails-fails.ensures.told.0 planned in let same = c.next_fails-fails.ensures.fails in search rules)
      | inr full ↦ inr (let count = full.1 in none_fits c.args.bytes.now c.args.self.now.room (length c.args.self.now.taken) (search rules))
    ] in
    search rules
