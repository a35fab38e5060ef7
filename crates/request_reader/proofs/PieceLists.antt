-- Pieces in front of bytes are read before them.
use Rattle.std.proofs.Common.{◌≡◌, ℕ, ◌+◌, List, [], ◌∷◌, ◌++◌, length, sym, ap, ◌∙◌, subst, arith, append_assoc, length-append}
use Rattle.request_words.specs.Bodies.{Item}
use Rattle.request_reader.specs.{Scripts.{Piece, text_of, ArePiecesOf, Ends}, Reading.PiecesComeFirst}

pub pieces_join : (ps qs : List Piece) (bytes more : List ℕ) (items others : List Item)
    → ArePiecesOf ps bytes items → ArePiecesOf qs more others → ArePiecesOf (ps ++ qs) (bytes ++ more) (items ++ others)
pieces_join [] qs bytes more items others first second = rw (first.0, first.1) second
pieces_join (p ∷ ps) qs bytes more items others first second =
    let rest : List ℕ = first.0 in
    let asked : List Item = first.1 in (
      rest ++ more,
      asked ++ others,
      ap (λ bs. bs ++ more) first.2 ∙ append_assoc (text_of p) rest more,
      ap (λ xs. xs ++ others) first.3 ∙ append_assoc p.asks asked others,
      first.4,
      pieces_join ps qs rest more asked others first.5 second,
    )

pub pieces_come_first : PiecesComeFirst
pieces_come_first all at used bytes asked items ending pieces reads =
    let place : at + length used + length reads.front ≡ at + length (used ++ reads.front) = omega (arith, length-append used reads.front) in
    record {
      front = used ++ reads.front;
      back = reads.back;
      asked = asked ++ reads.asked;
      last = reads.last;
      split = ap (λ bs. used ++ bs) reads.split ∙ sym (append_assoc used reads.front reads.back);
      told = ap (λ xs. asked ++ xs) reads.told ∙ sym (append_assoc asked reads.asked reads.last);
      pieces = (pieces.0 ++ reads.pieces.0, pieces_join pieces.0 reads.pieces.0 used reads.front asked reads.asked pieces.1 reads.pieces.1);
      ends = subst (λ k. Ends all k reads.back reads.last ending) place reads.ends;
    }
