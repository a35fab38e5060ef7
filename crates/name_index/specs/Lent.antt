-- What becomes of a map once the value that it lent was changed.
use Rattle.std.specs.{Prelude.{◌≡◌, List, Option}, BTreeMap.Lent.OrdMembers}
use Rattle.std.specs.Borrow.{Fml, RattleType, MutBor, LendsSo}
use Rattle.name_index.specs.{contracts.map.OrderedMap.the_row, Found.IsWrittenThere}

abbrev pub LendsAt : (K T : RattleType) (g : OrdMembers K.Denot) → MutBor (List (K.Denot × T.Denot)) → K.Denot → Option (MutBor T.Denot) → Fml
LendsAt K T g m key r =
    LendsSo (the_row K T (record { cmp = g.cmp }) (record { eq = g.eq }) (record { partial_cmp = g.partial_cmp })) T m r
    (λ n w. IsWrittenThere g.cmp key m.now w n) (λ n. n ≡ m.now)
