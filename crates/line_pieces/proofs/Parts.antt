-- A part of some bytes that shows why reading stops, and parts that are read one after another.
use Rattle.std.proofs.Common.{◌≡◌, ℕ, ◌+◌, ◌^◌, ◌≤◌, List, [], ◌++◌, length, take, drop, refl, sym, ap, subst, ◌∙◌, arith, append-nil, append_assoc, length-append}
use Rattle.std.proofs.lemmas.List.{length-take}
use Rattle.line_pieces.{specs.declared.stop.Stop.Stop, specs.Pieces.{Reading, HasCause, ReadsMore, MoreRefused}, proofs.Fronts.{part_front, split_at}}

module _ {R : Type 0} (kind : Reading R) (old : R) (read : List ℕ) where
  -- a part of the bytes, behind those that were done
  pub part_refused : (done part back bytes rest : List ℕ) (stop : Stop) → done ++ (part ++ back) ≡ bytes → length (read ++ bytes) ≤ 2 ^ 30
      → kind.has_read (read ++ done) old → MoreRefused kind part old stop → HasCause (kind.rules (kind.most old)) ((read ++ bytes) ++ rest) stop
  part_refused done part back bytes rest stop whole short has told =
      let same : ((read ++ done) ++ part) ++ back ≡ read ++ bytes = part_front read done part back bytes whole in
      subst (λ bs. HasCause (kind.rules (kind.most old)) bs stop)
      (sym (append_assoc ((read ++ done) ++ part) back rest) ∙ ap (λ bs. bs ++ rest) same)
      (told (read ++ done) (back ++ rest) has (omega (arith, short, length-append ((read ++ done) ++ part) back, ap (λ (bs : List ℕ). length bs) same)))

  -- as many bytes as are allowed
  pub front_refused : (bytes rest : List ℕ) (allowed : ℕ) (stop : Stop) → length read + allowed ≡ 2 ^ 30 → kind.has_read read old
      → MoreRefused kind (take allowed bytes) old stop → HasCause (kind.rules (kind.most old)) ((read ++ bytes) ++ rest) stop
  front_refused bytes rest allowed stop short has told =
      subst (λ bs. HasCause (kind.rules (kind.most old)) bs stop) (split_at read bytes rest allowed)
      (told read (drop allowed bytes ++ rest) has (omega (arith, short, length-append read (take allowed bytes), length-take allowed bytes)))

  -- the same, once they were read
  pub read_refused : (bytes rest : List ℕ) (allowed : ℕ) (stop : Stop) → length read + allowed ≡ 2 ^ 30 → kind.has_read (read ++ take allowed bytes) old
      → MoreRefused kind [] old stop → HasCause (kind.rules (kind.most old)) ((read ++ bytes) ++ rest) stop
  read_refused bytes rest allowed stop short has told =
      subst (λ bs. HasCause (kind.rules (kind.most old)) bs stop)
      (ap (λ bs. bs ++ (drop allowed bytes ++ rest)) (append-nil (read ++ take allowed bytes)) ∙ split_at read bytes rest allowed)
      (told (read ++ take allowed bytes) (drop allowed bytes ++ rest) has
      (omega (arith, short, length-append read (take allowed bytes), length-take allowed bytes, length-append (read ++ take allowed bytes) [])))

module _ {R : Type 0} (kind : Reading R) (old new : R) (part next : List ℕ) where
  pub read_on : (newer : R) → ReadsMore kind part old new → ReadsMore kind next new newer → ReadsMore kind (part ++ next) old newer
  read_on newer one two read has = subst (λ bs. kind.has_read bs newer) (append_assoc read part next) (two (read ++ part) (one read has))

  -- the first part is refused
  pub refused_before : (stop : Stop) → MoreRefused kind part old stop → MoreRefused kind (part ++ next) old stop
  refused_before stop told read rest has short =
      part_refused kind old read [] part next (part ++ next) rest stop refl short (subst (λ bs. kind.has_read bs old) (sym (append-nil read)) has) told

  -- the part behind it is
  pub refused_behind : (stop : Stop) → kind.most new ≡ kind.most old → ReadsMore kind part old new → MoreRefused kind next new stop → MoreRefused kind (part ++ next) old stop
  refused_behind stop limit reads told read rest has short =
      subst (λ m. HasCause (kind.rules m) ((read ++ (part ++ next)) ++ rest) stop) limit
      (part_refused kind new read part next [] (part ++ next) rest stop (ap (λ bs. part ++ bs) (append-nil next)) short (reads read has) told)
