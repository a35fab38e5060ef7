-- What was read before a fault of the input is asked first.
use Rattle.std.proofs.Common.{◌≡◌, ℕ, ◌+◌, inl, false, List, [], ◌++◌, length, Option, sym, ap, subst, ◌∙◌, arith, append_assoc, append-nil, length-append}
use Rattle.request_words.specs.Bodies.{Item}
use Rattle.request_reader.specs.Scripts.{ArePieces, Ends, long, last, inside, more, unfinished}
use Rattle.script_loop.specs.{Endings.GaveOpen, Outputs.AsksFirst}

module _ (at : ℕ) (back : List ℕ) (items : List Item) where
  none_behind : Ends false at back items unfinished → items ≡ []
  none_behind (long l empty is) = absurd cc
  none_behind (last all l c g is) = absurd cc
  none_behind (inside all l empty is) = absurd cc
  none_behind (more all l empty is) = empty

pub open_first : (bytes : List ℕ) (after : Option (List ℕ)) (items : List Item) → GaveOpen bytes after items → AsksFirst bytes items
open_first bytes after items told =
    let reads = told.reads in
    let whole : items ≡ reads.asked = reads.told ∙ ap (λ xs. reads.asked ++ xs) (none_behind (0 + length reads.front) reads.back reads.last reads.ends) ∙ append-nil reads.asked in
    inl (
      reads.front,
      reads.back ++ told.rest,
      told.gave ∙ ap (λ bs. bs ++ told.rest) reads.split ∙ append_assoc reads.front reads.back told.rest,
      omega (arith, told.within, ap length reads.split, length-append reads.front reads.back),
      subst (ArePieces reads.front) (sym whole) reads.pieces,
    )
