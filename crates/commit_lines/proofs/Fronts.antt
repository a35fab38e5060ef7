-- A refusal that some bytes show stands, whatever comes behind them.
use Rattle.std.proofs.lemmas.Grind.{common_steps}
use Rattle.std.{proofs.Common.{◌≡◌, ℕ, ◌+◌, inl, inr, List, [], ◌∷◌, ◌++◌, length, refl, sym, ap, subst, ◌∙◌, append_assoc, arith}, specs.List.slice_split}
use Rattle.line_text.proofs.Parts.{first_part, goes_on}
use Rattle.line_pieces.{proofs.Lines.{is_feed, on_refused-weaker}, specs.declared.stop.Refusal.Refusal, specs.declared.stop.Refusal.TheVariants.Bad}
use Rattle.line_pieces.specs.declared.stop.Stop.{Stop}
use Rattle.commit_lines.specs.{Lines.MayGo, Reading.{HasBegun, IsFirstRefused, FrontRefuses}, HasRead.ShowsRefused}
use Rattle.commit_lines.proofs.Words.{may_front, good_may}

-- a list with an item, from its last one
record Ends (x : List ℕ) (behind : List (List ℕ)) : Type 0 where
  front : List (List ℕ)
  last : List ℕ
  is : x ∷ behind ≡ front ++ last ∷ []

ends : (x : List ℕ) (behind : List (List ℕ)) → Ends x behind
ends x [] = record { front = []; last = x; is = refl }
ends x (y ∷ behind) =
    let rest = ends y behind in
    record { front = x ∷ rest.front; last = rest.last; is = ap (λ (ls : List (List ℕ)). x ∷ ls) rest.is }

-- the first refused line stays it where more lines come
pub first_later : (why : Refusal) (lines more : List (List ℕ)) (k : ℕ) → IsFirstRefused why lines k → IsFirstRefused why (lines ++ more) k
first_later why lines more k first = grind (arith, common_steps)

open_more : (bytes next : List ℕ) (lines : List (List ℕ)) (rest : List ℕ) (names : List (List ℕ)) (k : ℕ) (first : List ℕ) (behind : List (List ℕ))
    → HasBegun bytes lines rest names → k ≡ length lines + 1 → ¬ MayGo names rest → slice_split is_feed next ≡ first ∷ behind → FrontRefuses Bad (bytes ++ next) k
open_more bytes next lines rest names k first [] begun number never parts =
    inr (
      lines,
      rest ++ first,
      names,
      record { split = goes_on is_feed bytes next lines rest first [] begun.split parts; accepted = begun.accepted },
      refl,
      number,
      λ may. never (may_front names rest first may),
    )
open_more bytes next lines rest names k first (x ∷ behind) begun number never parts =
    let end = ends x behind in
    inl (
      lines ++ (rest ++ first) ∷ end.front,
      end.last,
      goes_on is_feed bytes next lines rest first (x ∷ behind) begun.split parts
          ∙ ap (λ (ls : List (List ℕ)). lines ++ (rest ++ first) ∷ ls) end.is
          ∙ sym (append_assoc lines ((rest ++ first) ∷ end.front) (end.last ∷ [])),
      record {
        before = lines;
        line = rest ++ first;
        behind = end.front;
        names = names;
        split = refl;
        number = number;
        accepted = begun.accepted;
        refused = λ good. never (may_front names rest first (good_may names (rest ++ first) good));
      },
    )

pub front_more : (why : Refusal) (bytes next : List ℕ) (k : ℕ) → FrontRefuses why bytes k → FrontRefuses why (bytes ++ next) k
front_more why bytes next k (inl (lines, rest, split, first)) =
    let part = first_part is_feed next in
    let end = ends (rest ++ part.first) part.behind in
    inl (
      lines ++ end.front,
      end.last,
      goes_on is_feed bytes next lines rest part.first part.behind split part.is
          ∙ ap (λ (ls : List (List ℕ)). lines ++ ls) end.is
          ∙ sym (append_assoc lines end.front (end.last ∷ [])),
      first_later why lines end.front k first,
    )
front_more why bytes next k (inr (lines, rest, names, begun, is, number, never)) =
    let part = first_part is_feed next in
    subst (λ (w : Refusal). FrontRefuses w (bytes ++ next) k) (sym is)
    (open_more bytes next lines rest names k part.first part.behind begun number never part.is)

pub shows_more : (bytes next : List ℕ) (stop : Stop) → ShowsRefused bytes stop → ShowsRefused (bytes ++ next) stop
shows_more bytes next stop =
    on_refused-weaker (λ why k. FrontRefuses why bytes k) (λ why k. FrontRefuses why (bytes ++ next) k) stop (λ why k. front_more why bytes next k)
