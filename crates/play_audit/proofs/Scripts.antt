-- Private: no public contract cites this. What scripts ask, script by script.
use Rattle.std.proofs.Common.{◌≡◌, inl, inr, ℕ, zero, suc, ◌+◌, ◌-◌, ◌<◌, ◌≤◌, Bool, true, false, List, [], ◌∷◌, ◌++◌, length, take, drop, Some, Vec, Global, sym, ap, subst, ◌∙◌, arith, length-append}
use Rattle.std.{specs.Prelude.slice_get, proofs.lemmas.Option.slice_get_within, proofs.lemmas.Grind.common_steps}
use Rattle.std.proofs.lemmas.List as lists
use Rattle.request_words.specs.Bodies.{Item}
use Rattle.request_reader.specs.{Reading.OneReading, Scripts.{ArePiecesOf, Ending, Ends, IsScript, Piece, Reads, cut_off, end, input_limit}}
use Rattle.audit_model.{specs.declared.heard.Heard.Heard, specs.Verdicts.{IsCutOff, NoneCutOff}, proofs.Exchanges.snoc_at}
use Rattle.journal_reader.proofs.Lists.{some_at}
use Rattle.play_audit.{specs.Heard.AskThese, proofs.Listed.same_at}

-- what is left of a list
pub left_some : {A : Type 0} (xs : List A) (n : ℕ) (x : A) (rest : List A) → x ∷ rest ≡ drop n xs → (slice_get xs n ≡ Some x) × (rest ≡ drop (n + 1) xs)
left_some [] zero x rest is = absurd (cc)
left_some [] (suc n) x rest is = absurd (cc)
left_some (y ∷ xs) zero x rest is = let one : y ≡ x = cc in let two : rest ≡ xs = cc in (ap (λ (z : _). Some z) one, two)
left_some (y ∷ xs) (suc n) x rest is = grind (arith, common_steps, left_some xs n x rest is)

-- a script is read one way
pub one_script : OneReading → (bytes : List ℕ) (items others : List Item) (ending other : Ending) → IsScript bytes items ending → IsScript bytes others other → (items ≡ others) × (ending ≡ other)
one_script law bytes items others ending other one two = elim one [
  | inl within ↦ elim two [
    | inl also ↦ law true 0 bytes items others ending other within.1 also.1
    | inr past ↦ absurd (omega (arith, within.0, past.0))
  ]
  | inr past ↦ elim two [
    | inl within ↦ absurd (omega (arith, within.0, past.0))
    | inr also ↦ law false 0 (take (input_limit - 0) bytes) items others ending other past.1 also.1
  ]
]

pieces-short : (ps : List Piece) (bytes : List ℕ) (items : List Item) → ArePiecesOf ps bytes items → length items ≤ length bytes
pieces-short [] bytes items are = let none : length items ≡ 0 = ap length are.1 in omega (arith, none)
pieces-short (p ∷ ps) bytes items are = grind (arith, common_steps, pieces-short ps are.0 are.1 are.5)

ends-one : (all : Bool) (at : ℕ) (bytes : List ℕ) (items : List Item) (ending : Ending) → Ends all at bytes items ending → length items ≤ 1
ends-one all at bytes items ending x5 = grind (arith, common_steps)

reads-short : (all : Bool) (at : ℕ) (bytes : List ℕ) (items : List Item) (ending : Ending) → Reads all at bytes items ending → length items ≤ length bytes + 1
reads-short all at bytes items ending r = grind (arith, common_steps, length, length-append, pieces-short, ends-one)

pub script_short : (bytes : List ℕ) (items : List Item) → IsScript bytes items end → length items ≤ 1_073_741_825
script_short bytes items reads = elim reads [
  | inl within ↦
      let size : 0 + length bytes ≤ 1_073_741_824 = within.0 in
      let short : length items ≤ length bytes + 1 = reads-short true 0 bytes items end within.1 in
      omega (arith, size, short)
  | inr past ↦
      let beyond : 1_073_741_824 < 0 + length bytes = past.0 in
      let size : length (take (input_limit - 0) bytes) ≡ 1_073_741_824 = lists.length-take-le 1_073_741_824 bytes (omega (arith, beyond)) in
      let short : length items ≤ length (take (input_limit - 0) bytes) + 1 = reads-short false 0 (take (input_limit - 0) bytes) items end past.1 in
      omega (arith, size, short)
]

-- the first scripts, so many, ask these
pub record HaveRead (heard : List Heard) (n : ℕ) (asked : List (Vec Item Global)) : Type 0 where
  pub many : length asked ≡ n
  pub each : (i : ℕ) (x : Heard) (items : Vec Item Global) → slice_get heard i ≡ Some x → slice_get asked i ≡ Some items → IsScript x.script items.items end

pub none_read : (heard : List Heard) → HaveRead heard 0 []
none_read heard = grind (arith, common_steps)

pub next_read : (heard : List Heard) (n : ℕ) (asked : List (Vec Item Global)) (x : Heard) (items : Vec Item Global) → HaveRead heard n asked → slice_get heard n ≡ Some x
    → IsScript x.script items.items end → HaveRead heard (n + 1) (asked ++ items ∷ [])
next_read heard n asked x items read here reads = record {
  many = length-append asked (items ∷ []) ∙ ap (λ (k : ℕ). k + 1) read.many;
  each = λ i y others at there. elim (snoc_at asked items others i there) [
    | inl front ↦ read.each i y others at front.1
    | inr back ↦
        let same : x ≡ y = same_at heard n x y here (subst (λ (k : ℕ). slice_get heard k ≡ Some y) (back.0 ∙ read.many) at) in
        subst (λ (v : Vec Item Global). IsScript y.script v.items end) (sym back.1) (subst (λ (z : Heard). IsScript z.script items.items end) same reads)
  ];
}

pub all_read : (heard : List Heard) (n : ℕ) (asked : List (Vec Item Global)) → HaveRead heard n asked → n ≡ length heard → AskThese heard asked
all_read heard n asked read all = record { many = read.many ∙ all; each = read.each }

-- the next is cut off
pub first_cut : OneReading → (heard : List Heard) (n : ℕ) (asked : List (Vec Item Global)) (x : Heard) (items : List Item) (offset : ℕ) → HaveRead heard n asked → slice_get heard n ≡ Some x
    → IsScript x.script items (cut_off offset) → IsCutOff heard (n + 1) offset
first_cut law heard n asked x items offset read here reads = record {
  some = omega arith;
  cut = x;
  here = (let back : n ≡ n + 1 - 1 = omega arith in subst (λ (k : ℕ). slice_get heard k ≡ Some x) back here);
  items = items;
  reads = reads;
  first = λ i y below at others place is.
      let its = some_at asked i (omega (arith, below, read.many)) in
      let both : end ≡ cut_off place = (one_script law y.script its.0.items others end (cut_off place) (read.each i y its.0 at its.1) is).1 in
      absurd (cc);
}

-- none is
pub none_cut : OneReading → (heard : List Heard) (asked : List (Vec Item Global)) → AskThese heard asked → NoneCutOff heard
none_cut law heard asked these = record {
  each = λ i x here items offset is.
      let its = some_at asked i (omega (arith, slice_get_within heard i x here, these.many)) in
      let both : end ≡ cut_off offset = (one_script law x.script its.0.items items end (cut_off offset) (these.each i x its.0 here its.1) is).1 in
      absurd (cc);
}
