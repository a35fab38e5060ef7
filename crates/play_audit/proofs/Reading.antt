-- Private: no public contract cites this. What a script asks, one item more.
use Rattle.std.proofs.Common.{◌≡◌, inl, inr, ℕ, ◌+◌, ◌-◌, ◌≤◌, true, false, List, [], ◌++◌, length, sym, ap, subst, ◌∙◌, arith, append_assoc, length-append}
use Rattle.std.{specs.Prelude.if◌then◌else◌, proofs.lemmas.Grind.common_steps}
use Rattle.request_words.specs.Bodies.{Item}
use Rattle.request_reader.specs.{Next.{TakesWhole, TakesLast}, Reading.{PiecesComeFirst, PiecesJoin}}
use Rattle.request_reader.specs.{Scripts.{ArePieces, IsScript, Reads, ReadsLeft, cut_off, end, input_limit}, Unread.{Unread, nothing_read}}
use Rattle.play_audit.specs.Items.{Reading, Finishes, GoesOn, IsOf, IsCutOff}

pub still_of : PiecesJoin → (old new : Reading) (more : List Item) → new.items ≡ old.items ++ more
    → TakesWhole old.unread.before (old.unread.kept ++ old.left) more new.unread.before (new.unread.kept ++ new.left)
    → (script : List ℕ) → IsOf script old → IsOf script new
still_of join old new more grown takes script is = record {
  used = is.used ++ takes.used;
  split = is.split ∙ ap (λ l. is.used ++ l) takes.split ∙ sym (append_assoc is.used takes.used (new.unread.kept ++ new.left));
  place = takes.place ∙ ap (λ n. n + length takes.used) is.place ∙ sym (length-append is.used takes.used);
  pieces = subst (ArePieces (is.used ++ takes.used)) (sym grown) (join is.used takes.used old.items more is.pieces takes.pieces);
}

pub ends_of : PiecesComeFirst → (old : Reading) (items more : List Item) (rest : List ℕ) → items ≡ old.items ++ more
    → TakesLast old.unread.before (old.unread.kept ++ old.left) more rest
    → (script : List ℕ) → IsOf script old → IsScript script items end
ends_of first old items more rest grown takes script is =
    let size : length script ≡ length is.used + length (old.unread.kept ++ old.left) = ap length is.split ∙ length-append is.used (old.unread.kept ++ old.left) in
    let here : Reads true (0 + length is.used) (old.unread.kept ++ old.left) more end = grind (arith, common_steps) in
    let all : Reads true 0 (is.used ++ (old.unread.kept ++ old.left)) (old.items ++ more) end = grind (arith, common_steps) in
    inl (
      omega (arith, size, takes.short, is.place),
      subst (λ l. Reads true 0 l items end) (sym is.split) (subst (λ l. Reads true 0 (is.used ++ (old.unread.kept ++ old.left)) l end) (sym grown) all),
    )

pub cut_of : PiecesComeFirst → (old : Reading) (offset : ℕ) → ReadsLeft old.unread.before (old.unread.kept ++ old.left) [] (cut_off offset) → IsCutOff old offset
cut_of first old offset (inl reads) script is short =
    let here : Reads true (0 + length is.used) (old.unread.kept ++ old.left) [] (cut_off offset) = grind (arith, common_steps) in
    let all : Reads true 0 (is.used ++ (old.unread.kept ++ old.left)) (old.items ++ []) (cut_off offset) = grind (arith, common_steps) in
    (old.items ++ [], inl (omega (arith, short), subst (λ l. Reads true 0 l (old.items ++ []) (cut_off offset)) (sym is.split) all))
cut_of first old offset (inr reads) script is short =
    let size : length script ≡ length is.used + length (old.unread.kept ++ old.left) = ap length is.split ∙ length-append is.used (old.unread.kept ++ old.left) in
    absurd (omega (arith, size, reads.0, is.place, short))

-- ---- a script, as far as it was read

pub record Going (script : List ℕ) (u : Unread) (left : List ℕ) (items : List Item) : Type 0 where
  pub open_ : u.ended ≡ false → (u.stopped ≡ false) × (u.before ≤ input_limit) × IsOf script (record { unread = u; left = left; items = items })
  pub over : u.ended ≡ true → IsScript script items end

pub begins_going : (script source : List ℕ) (u : Unread) (items : List Item) → source ≡ script → u ≡ nothing_read → items ≡ [] → Going script u source items
begins_going script source u items same none empty = grind (arith, common_steps)

pub goes_going : (script left rest : List ℕ) (u v : Unread) (items more : List Item) → u.ended ≡ false → Going script u left items
    → (v.ended ≡ false → GoesOn (record { unread = u; left = left; items = items }) (record { unread = v; left = rest; items = more }))
    → (v.ended ≡ true → Finishes (record { unread = u; left = left; items = items }) more) → Going script v rest more
goes_going script left rest u v items more going is on last =
    let here = is.open_ going in
    record {
      open_ = λ still. (let step = on still in (step.on, step.within, step.still script here.2));
      over = λ ended. last ended script here.2;
    }

-- how much may still be read
abbrev pub left_of : Unread → ℕ
left_of u = if u.ended then 0 else 1 + (input_limit - u.before)
