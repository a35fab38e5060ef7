-- How many tables may still be made for the lists that are known: three for each, of which two are for its ends.
use Rattle.std.proofs.Common.{◌≡◌, ◌≢◌, ℕ, ℤ, ◌+◌, ◌-◌, ◌*◌, ◌<◌, ◌≤◌, ◌⊎◌, List, [], ◌∷◌, length, inl, inr, refl, sym, ap, ◌∙◌, pos, ◌+ℤ◌, ◌-ℤ◌, ◌≤ℤ◌, ◌<ℤ◌, arith}
use Rattle.std.proofs.lemmas.{Int.ints, Bool.cases_eq}
use Rattle.segment_model.specs.Segments.{Position}
use Rattle.segment_cost.specs.{Certificate.StandsFor, declared.cert.Cert.Cert}
use Rattle.penalty_path.{specs.Paths.AreBest, specs.Crossing.{Parts, Turn}, specs.Known.Known, proofs.Known.best-stands, proofs.Ahead.Ahead}
use Rattle.penalty_path.proofs.Crossing.{turns}

-- a list's last penalty may still cost a table, or is known
abbrev pub IsEnd : List Position → Cert → ℕ → Type 0
IsEnd points cert u = (u ≡ 1) ⊎ ((u ≡ 0) × ¬ AreBest points (cert.penalty +ℤ pos 1) cert.cuts)

-- and its first one
abbrev pub IsStart : List Position → Cert → ℕ → Type 0
IsStart points cert v = (v ≡ 1) ⊎ ((v ≡ 0) × ¬ AreBest points (cert.penalty -ℤ pos 1) cert.cuts)

-- two neighbours with different lists, and the room with and without the second list
pub record Pair (points : List Position) (last next : Cert) (room rest : ℕ) : Type 0 where
  pub u : ℕ
  pub v : ℕ
  pub ends : IsEnd points last u
  pub starts : IsStart points next v
  pub size : room + u + v ≡ rest + 3

abbrev pub Room : List Position → Cert → List Cert → ℕ → Type 0
Room points last [] room = room ≡ 0
Room points last (next ∷ more) room =
    ((last.cuts ≡ next.cuts) × Room points next more room)
    ⊎ ((last.cuts ≢ next.cuts) × ((rest : ℕ) × Pair points last next room rest × Room points next more rest))

start-small : (points : List Position) (cert : Cert) (v : ℕ) → IsStart points cert v → v ≤ 1
start-small points cert v h = elim h [ inl e ↦ omega (arith, e) | inr e ↦ omega (arith, e.0) ]

module _ (points : List Position) (known : Known points) where
  pub room-same : (last next : Cert) (more : List Cert) (room : ℕ) → last.cuts ≡ next.cuts → Room points last (next ∷ more) room → Room points next more room
  room-same last next more room same h = elim h [ inl there ↦ there.1 | inr differ ↦ absurd (differ.0 same) ]

  pub room-next : (last next : Cert) (more : List Cert) (room : ℕ) → last.cuts ≢ next.cuts → Room points last (next ∷ more) room
      → (rest : ℕ) × (room ≤ rest + 3) × Room points next more rest
  room-next last next more room differs h = elim h [
    | inl there ↦ absurd (differs there.0)
    | inr differ ↦ (differ.1.0, omega (arith, differ.1.1.size), differ.1.2)
  ]

  -- two lists with equally many cuts are one
  same-or-not : (b c : ℤ) (one other : Cert) → StandsFor points b 1 one → StandsFor points c 1 other → (one.cuts ≡ other.cuts) ⊎ (one.cuts ≢ other.cuts)
  same-or-not b c one other h k = elim (cases_eq (length one.cuts) (length other.cuts)) [
    | inl same ↦ inl (known.count c b other.cuts one.cuts (best-stands points c other k) (best-stands points b one h) same)
    | inr apart ↦ inr (λ e. apart (ap length e))
  ]

  module _ (last cert next : Cert) (more : List Cert) (room : ℕ) (last_stands : StandsFor points last.penalty 1 last) (cert_stands : StandsFor points cert.penalty 1 cert)
      (next_stands : StandsFor points next.penalty 1 next) (above : last.penalty <ℤ cert.penalty) (below : cert.penalty <ℤ next.penalty) (differs : last.cuts ≢ next.cuts)
      (parts : Parts last next cert.penalty) where
    turn : Turn points last next cert.penalty
    turn = turns points known last next cert.penalty last_stands next_stands differs parts

    end-is-one : (u : ℕ) → last.cuts ≡ cert.cuts → IsEnd points last u → u ≡ 1
    end-is-one u same h = elim h [
      | inl e ↦ e
      | inr none ↦
          let there : AreBest points cert.penalty last.cuts = rw same (best-stands points cert.penalty cert cert_stands) in
          absurd (none.1 (known.between last.penalty cert.penalty (last.penalty +ℤ pos 1) last.cuts (best-stands points last.penalty last last_stands) there (omega (arith, ints)) (omega (arith, ints, above))))
    ]

    start-is-one : (v : ℕ) → cert.cuts ≡ next.cuts → IsStart points next v → v ≡ 1
    start-is-one v same h = elim h [
      | inl e ↦ e
      | inr none ↦
          let there : AreBest points cert.penalty next.cuts = rw same at (best-stands points cert.penalty cert cert_stands) in
          absurd (none.1 (known.between cert.penalty next.penalty (next.penalty -ℤ pos 1) next.cuts there (best-stands points next.penalty next next_stands) (omega (arith, ints, below)) (omega (arith, ints))))
    ]

    put : (rest : ℕ) → Pair points last next room rest → Room points next more rest → Room points last (cert ∷ next ∷ more) (room + 1)
    put rest pair h = elim (same-or-not last.penalty cert.penalty last cert last_stands cert_stands) [
      | inl same ↦ inl (
        same,
        inr (
          (λ e. differs (same ∙ e)),
          (
            rest,
            record {
              u = 0;
              v = pair.v;
              ends = inr (refl, λ best. turn.ends (rw (← same) at best));
              starts = pair.starts;
              size = omega (arith, pair.size, end-is-one pair.u same pair.ends);
            },
            h,
          ),
        ),
      )
      | inr apart ↦ elim (same-or-not cert.penalty next.penalty cert next cert_stands next_stands) [
        | inl same ↦ inr (
          apart,
          (
            rest,
            record {
              u = pair.u;
              v = 0;
              ends = pair.ends;
              starts = inr (refl, λ best. turn.begins (rw same at best));
              size = omega (arith, pair.size, start-is-one pair.v same pair.starts);
            },
            inl (same, h),
          ),
        )
        | inr other ↦ inr (
          apart,
          (
            room + pair.u - 1,
            record {
              u = pair.u;
              v = 1;
              ends = pair.ends;
              starts = inl refl;
              size = omega (arith, pair.size, start-small points next pair.v pair.starts);
            },
            inr (
              other,
              (
                rest,
                record {
                  u = 1;
                  v = pair.v;
                  ends = inl refl;
                  starts = pair.starts;
                  size = omega (arith, pair.size, start-small points next pair.v pair.starts);
                },
                h,
              ),
            ),
          ),
        )
      ]
    ]

    -- a certificate between, at such a penalty, takes one table, and leaves room for it
    pub room-between : Room points last (next ∷ more) room → Room points last (cert ∷ next ∷ more) (room + 1)
    room-between h = elim h [ inl there ↦ absurd (differs there.0) | inr differ ↦ put differ.1.0 differ.1.1 differ.1.2 ]

  -- a certificate for a greater penalty with other cuts has fewer
  pub fewer-next : (b c : ℤ) (one other : Cert) → StandsFor points b 1 one → StandsFor points c 1 other → b ≤ℤ c → one.cuts ≢ other.cuts → length other.cuts < length one.cuts
  fewer-next b c one other h k le apart =
      let here = best-stands points b one h in
      let there = best-stands points c other k in
      let few = known.fall b c one.cuts other.cuts here there le in
      elim (cases_eq (length other.cuts) (length one.cuts)) [
        | inl same ↦ absurd (apart (sym (known.count b c one.cuts other.cuts here there same)))
        | inr differ ↦ omega (arith, few, differ)
      ]

  -- the room is at most three for each cut
  pub room-few : (high now : ℤ) (last : Cert) (more : List Cert) (room : ℕ) → StandsFor points now 1 last → Ahead points now high more → Room points last more room
      → room ≤ 3 * length last.cuts
  room-few high now last [] room h ahead r = omega (arith, r)
  room-few high now last (next ∷ more) room h ahead r = elim r [
    | inl there ↦ omega (arith, ap length there.0, room-few high next.penalty next more room ahead.1 ahead.2 there.1)
    | inr differ ↦
        omega (arith, differ.1.1.size, room-few high next.penalty next more differ.1.0 ahead.1 ahead.2 differ.1.2, fewer-next now next.penalty last next h ahead.1 (omega (arith, ints, ahead.0)) differ.0)
  ]

  -- at the beginning: one list, or two
  pub one-room : (last next : Cert) → StandsFor points last.penalty 1 last → StandsFor points next.penalty 1 next → (room : ℕ) × (Room points last (next ∷ []) room) × (0 ≤ room)
  one-room last next h k = elim (same-or-not last.penalty next.penalty last next h k) [
    | inl same ↦ (0, inl (same, refl), omega arith)
    | inr differ ↦ (1, inr (differ, (0, record { u = 1; v = 1; ends = inl refl; starts = inl refl; size = omega arith }, refl)), omega arith)
  ]
