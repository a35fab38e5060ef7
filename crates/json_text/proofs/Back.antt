-- Where the machine goes on, the grammar does.
use Rattle.std.proofs.lemmas.Grind.{common_steps}
use Rattle.std.proofs.Common.{◌≡◌, ℕ, ◌==◌, true, false, List, [], ◌∷◌, ◌++◌, inl, inr, IsTrue, Option, Some, None, option_map, refl, sym, subst, ◌∙◌, ap, append_assoc, append-nil, arith}
use Rattle.json_text.specs.{declared.state.Digits.Digits, declared.state.Digits.TheVariants.AfterMinus, Classes.is_blank}
use Rattle.json_text.specs.Tree.{Tree, null, boolean, number, text, list, object, Items, no_items, item, Members, no_members, member}
use Rattle.json_text.{specs.Grammar.{IsNumber, IsValue, IsItems, IsMembers, IsMember}, proofs.Choices.{chosen, equal}}
use Rattle.json_text.specs.Machine.{Frame, in_list, in_member, value, first_item, first_key, next_key, colon, letters, digits, State, begin, begin_key, first_digit, digits_after, may_end, after_value, close, step, next_digit}
use Rattle.json_text.{specs.Parts.{then_item, then_member}, proofs.Completion.{Closes, EndsNumber, Completes, Leads}}
use Rattle.json_text.proofs.{Numbers.{LeadsOn, digits_back, ends_here}, Forth.{and_no_items, then_and_items, and_no_members, then_and_members}}

joined : {b c : ℕ} {rest other : List ℕ} → b ≡ c → rest ≡ other → b ∷ rest ≡ c ∷ other
joined e f = cc

regrouped : (a b c d e : List ℕ) → a ++ (b ++ (c ++ (d ++ e))) ≡ ((a ++ (b ++ c)) ++ d) ++ e
regrouped a b c d e = sym (simp append_assoc)

grouped_three : (a b c d : List ℕ) → a ++ (b ++ (c ++ d)) ≡ (a ++ (b ++ c)) ++ d
grouped_three a b c d = sym (simp append_assoc)

grouped_member : (within after val rest : List ℕ) → within ++ 34 ∷ (after ++ 58 ∷ (val ++ rest)) ≡ (((within ++ 34 ∷ []) ++ after) ++ 58 ∷ val) ++ rest
grouped_member within after val rest = sym (simp append_assoc)

-- a value begins here, and what is behind it ends the text
abbrev pub Begun : ℕ → List Frame → List ℕ → Tree → Type 0
Begun b frames rest whole = (inside more : List ℕ) × (tree : Tree) × (b ∷ rest ≡ inside ++ more) × IsValue inside tree × Closes frames tree more whole

-- a number's first byte
number_back : (b : ℕ) (tail : List ℕ) → LeadsOn (first_digit b) tail → IsNumber (b ∷ tail)
number_back b tail l = elim (chosen (λ next. LeadsOn next tail) (b == 45) _ _ l) [
  | inl (is, (whole, fraction, exponent, e, w, f, x)) ↦
      (b ∷ [], whole, fraction, exponent, ap (λ bytes. b ∷ bytes) (e ∙ sym (append_assoc whole fraction exponent)), inr (joined (equal b 45 is) refl), w, f, x)
  | inr (is, unsigned) ↦
      let (whole, fraction, exponent, e, w, f, x) = digits_back AfterMinus b tail unsigned in
      ([], whole, fraction, exponent, e ∙ sym (append_assoc whole fraction exponent), inl refl, w, f, x)
]

number_begun : (b : ℕ) (frames : List Frame) (rest : List ℕ) (whole : Tree) (place : Option Digits) → ((tail : List ℕ) → LeadsOn place tail → IsNumber (b ∷ tail))
    → Leads (option_map (λ (place : Digits). (digits place (b ∷ []), frames)) place) rest whole → Begun b frames rest whole
number_begun b frames rest whole None is l = absurd l
number_begun b frames rest whole (Some place) is (tail, more, e, ends, k) = (b ∷ tail, more, number (b ∷ tail), ap (λ bytes. b ∷ bytes) e, (refl, is tail ends), k)

-- where the machine begins a value, the grammar does
pub begin_back : (b : ℕ) (frames : List Frame) (rest : List ℕ) (whole : Tree) → Leads (begin b frames) rest whole → Begun b frames rest whole
begin_back b frames rest whole l = elim (chosen (λ (o : Option State). Leads o rest whole) (b == 91) _ _ l) [
  | inl (is, (inside, more, items, e, all, k)) ↦
      (91 ∷ (inside ++ 93 ∷ []), more, list items, joined (equal b 91 is) (e ∙ sym (append_assoc inside (93 ∷ []) more)), (inside, refl, all), k)
  | inr (is, l1) ↦ elim (chosen (λ (o : Option State). Leads o rest whole) (b == 123) _ _ l1) [
    | inl (is, (inside, more, members, e, all, k)) ↦
        (123 ∷ (inside ++ 125 ∷ []), more, object members, joined (equal b 123 is) (e ∙ sym (append_assoc inside (125 ∷ []) more)), (inside, refl, all), k)
    | inr (is, l2) ↦ elim (chosen (λ (o : Option State). Leads o rest whole) (b == 34) _ _ l2) [
      | inl (is, (inside, more, spelled, e, spells, k)) ↦
          (34 ∷ (inside ++ 34 ∷ []), more, text spelled, joined (equal b 34 is) (e ∙ sym (append_assoc inside (34 ∷ []) more)), (inside, refl, spells), k)
      | inr (is, l3) ↦ elim (chosen (λ (o : Option State). Leads o rest whole) (b == 110) _ _ l3) [
        | inl (is, (more, e, k)) ↦ (110 ∷ 117 ∷ 108 ∷ 108 ∷ [], more, null, joined (equal b 110 is) e, refl, k)
        | inr (is, l4) ↦ elim (chosen (λ (o : Option State). Leads o rest whole) (b == 116) _ _ l4) [
          | inl (is, (more, e, k)) ↦ (116 ∷ 114 ∷ 117 ∷ 101 ∷ [], more, boolean true, joined (equal b 116 is) e, refl, k)
          | inr (is, l5) ↦ elim (chosen (λ (o : Option State). Leads o rest whole) (b == 102) _ _ l5) [
            | inl (is, (more, e, k)) ↦ (102 ∷ 97 ∷ 108 ∷ 115 ∷ 101 ∷ [], more, boolean false, joined (equal b 102 is) e, refl, k)
            | inr (is, l6) ↦ number_begun b frames rest whole (first_digit b) (number_back b) l6
          ]
        ]
      ]
    ]
  ]
]

pub value_back : (b : ℕ) (frames : List Frame) (rest : List ℕ) (whole : Tree) → Leads (step b value frames) rest whole → Completes value frames (b ∷ rest) whole
value_back b frames rest whole l = elim (chosen (λ (o : Option State). Leads o rest whole) (is_blank b) _ _ l) [
  | inl (blank, (before, inside, more, tree, e, blanks, v, k)) ↦ (b ∷ before, inside, more, tree, ap (λ bytes. b ∷ bytes) e, (blank, blanks), v, k)
  | inr (blank, begins) ↦ let (inside, more, tree, e, v, k) = begin_back b frames rest whole begins in ([], inside, more, tree, e, tt, v, k)
]

-- white space before the first item
items_blank : (b : ℕ) (inside : List ℕ) (items : Items) → IsTrue (is_blank b) → IsItems inside items → IsItems (b ∷ inside) items
items_blank b inside no_items blank all = (blank, all)
items_blank b inside (item tree items) blank (one, further, is, (before, within, after, e, blanks, v, blanks'), all) =
    (b ∷ one, further, ap (λ bytes. b ∷ bytes) is, (b ∷ before, within, after, ap (λ bytes. b ∷ bytes) e, (blank, blanks), v, blanks'), all)

first_item_begun : (b : ℕ) (frames : List Frame) (rest : List ℕ) (whole : Tree) → Begun b (in_list no_items ∷ frames) rest whole → Completes first_item frames (b ∷ rest) whole
first_item_begun b frames rest whole (inside, more, tree, e, v, (after, between, behind, others, e', blanks, all, k)) = (
  (inside ++ after) ++ between,
  behind,
  item tree others,
  e ∙ ap (λ bytes. inside ++ bytes) e' ∙ sym (append_assoc inside after (between ++ 93 ∷ behind)) ∙ sym (append_assoc (inside ++ after) between (93 ∷ behind)),
  (inside ++ after, between, refl, ([], inside, after, refl, tt, v, blanks), all),
  k,
)

pub first_item_back : (b : ℕ) (frames : List Frame) (rest : List ℕ) (whole : Tree) → Leads (step b first_item frames) rest whole → Completes first_item frames (b ∷ rest) whole
first_item_back b frames rest whole l = elim (chosen (λ (o : Option State). Leads o rest whole) (is_blank b) _ _ l) [
  | inl (blank, (inside, more, items, e, all, k)) ↦ (b ∷ inside, more, items, ap (λ bytes. b ∷ bytes) e, items_blank b inside items blank all, k)
  | inr (blank, l1) ↦ elim (chosen (λ (o : Option State). Leads o rest whole) (b == 93) _ _ l1) [
    | inl (is, k) ↦ ([], rest, no_items, joined (equal b 93 is) refl, tt, k)
    | inr (is, begins) ↦ first_item_begun b frames rest whole (begin_back b (in_list no_items ∷ frames) rest whole begins)
  ]
]

-- behind a value in a list: white space, a comma and more, or the bracket
close_list_back : (b : ℕ) (tree : Tree) (items : Items) (frames : List Frame) (rest : List ℕ) (whole : Tree) → Leads (close b tree (in_list items ∷ frames)) rest whole
    → Closes (in_list items ∷ frames) tree (b ∷ rest) whole
close_list_back b tree items frames rest whole l = elim (chosen (λ (o : Option State). Leads o rest whole) (b == 44) _ _ l) [
  | inl (is, (before, inside, more, next, e, blanks, v, (after, between, behind, others, e', blanks', all, k))) ↦ (
    [],
    44 ∷ ((before ++ (inside ++ after)) ++ between),
    behind,
    item next others,
    joined (equal b 44 is) (e ∙ ap (λ bytes. before ++ (inside ++ bytes)) e' ∙ regrouped before inside after between (93 ∷ behind)),
    tt,
    (before ++ (inside ++ after), between, refl, (before, inside, after, refl, blanks, v, blanks'), all),
    subst (λ all. Closes frames (list all) behind whole) (then_and_items (then_item items tree) next others) k,
  )
  | inr (is, l1) ↦ elim (chosen (λ (o : Option State). Leads o rest whole) (b == 93) _ _ l1) [
    | inl (is, k) ↦ ([], [], rest, no_items, joined (equal b 93 is) refl, tt, refl, subst (λ all. Closes frames (list all) rest whole) (sym (and_no_items (then_item items tree))) k)
    | inr (is, none) ↦ absurd none
  ]
]

pub ended_list_back : (b : ℕ) (tree : Tree) (items : Items) (frames : List Frame) (rest : List ℕ) (whole : Tree) → Leads (after_value b tree (in_list items ∷ frames)) rest whole
    → Closes (in_list items ∷ frames) tree (b ∷ rest) whole
ended_list_back b tree items frames rest whole l = elim (chosen (λ (o : Option State). Leads o rest whole) (is_blank b) _ _ l) [
  | inl (blank, (after, inside, more, others, e, blanks, all, k)) ↦ (b ∷ after, inside, more, others, ap (λ bytes. b ∷ bytes) e, (blank, blanks), all, k)
  | inr (blank, closes) ↦ close_list_back b tree items frames rest whole closes
]

-- the quote before a key, and the member behind it
key_back : (b : ℕ) (so_far : Members) (frames : List Frame) (rest : List ℕ) (whole : Tree) → Leads (begin_key b so_far frames) rest whole → Completes (next_key so_far) frames (b ∷ rest) whole
key_back b so_far frames rest whole l = elim (chosen (λ (o : Option State). Leads o rest whole) (b == 34) _ _ l) [
  | inl (is, (inside, more, key, e, spells, (after, val, others, behind, tree, further, e', blanks, v, all, k))) ↦ (
    ((34 ∷ (inside ++ 34 ∷ [])) ++ after) ++ 58 ∷ val,
    others,
    behind,
    key,
    tree,
    further,
    joined (equal b 34 is) (e ∙ ap (λ bytes. inside ++ 34 ∷ bytes) e' ∙ grouped_member inside after val (others ++ 125 ∷ behind)),
    ((34 ∷ (inside ++ 34 ∷ [])) ++ after, val, refl, ([], 34 ∷ (inside ++ 34 ∷ []), after, refl, tt, (inside, refl, spells), blanks), v),
    all,
    k,
  )
  | inr (is, none) ↦ absurd none
]

-- white space before a member
member_blank : (b : ℕ) (one key : List ℕ) (tree : Tree) → IsTrue (is_blank b) → IsMember (λ bytes. IsValue bytes tree) key one → IsMember (λ bytes. IsValue bytes tree) key (b ∷ one)
member_blank b one key tree blank (name, val, e, (before, within, after, e', blanks, quoted, blanks'), v) =
    (b ∷ name, val, ap (λ bytes. b ∷ bytes) e, (b ∷ before, within, after, ap (λ bytes. b ∷ bytes) e', (blank, blanks), quoted, blanks'), v)

pub next_key_back : (b : ℕ) (so_far : Members) (frames : List Frame) (rest : List ℕ) (whole : Tree) → Leads (step b (next_key so_far) frames) rest whole → Completes (next_key so_far) frames (b ∷ rest) whole
next_key_back b so_far frames rest whole l = elim (chosen (λ (o : Option State). Leads o rest whole) (is_blank b) _ _ l) [
  | inl (blank, (one, inside, more, key, tree, further, e, entry, all, k)) ↦
      (b ∷ one, inside, more, key, tree, further, ap (λ bytes. b ∷ bytes) e, member_blank b one key tree blank entry, all, k)
  | inr (blank, begins) ↦ key_back b so_far frames rest whole begins
]

members_blank : (b : ℕ) (inside : List ℕ) (members : Members) → IsTrue (is_blank b) → IsMembers inside members → IsMembers (b ∷ inside) members
members_blank b inside no_members blank all = (blank, all)
members_blank b inside (member key tree members) blank (one, further, is, entry, all) = (b ∷ one, further, ap (λ bytes. b ∷ bytes) is, member_blank b one key tree blank entry, all)

first_member_back : (frames : List Frame) (rest : List ℕ) (whole : Tree) → Completes (next_key no_members) frames rest whole → Completes first_key frames rest whole
first_member_back frames rest whole (one, inside, more, key, tree, further, e, entry, all, k) =
    (one ++ inside, more, member key tree further, e ∙ sym (append_assoc one inside (125 ∷ more)), (one, inside, refl, entry, all), k)

pub first_key_back : (b : ℕ) (frames : List Frame) (rest : List ℕ) (whole : Tree) → Leads (step b first_key frames) rest whole → Completes first_key frames (b ∷ rest) whole
first_key_back b frames rest whole l = elim (chosen (λ (o : Option State). Leads o rest whole) (is_blank b) _ _ l) [
  | inl (blank, (inside, more, members, e, all, k)) ↦ (b ∷ inside, more, members, ap (λ bytes. b ∷ bytes) e, members_blank b inside members blank all, k)
  | inr (blank, l1) ↦ elim (chosen (λ (o : Option State). Leads o rest whole) (b == 125) _ _ l1) [
    | inl (is, k) ↦ ([], rest, no_members, joined (equal b 125 is) refl, tt, k)
    | inr (is, begins) ↦ first_member_back frames (b ∷ rest) whole (key_back b no_members frames rest whole begins)
  ]
]

pub colon_back : (b : ℕ) (members : Members) (key : List ℕ) (frames : List Frame) (rest : List ℕ) (whole : Tree) → Leads (step b (colon members key) frames) rest whole
    → Completes (colon members key) frames (b ∷ rest) whole
colon_back b members key frames rest whole l = elim (chosen (λ (o : Option State). Leads o rest whole) (is_blank b) _ _ l) [
  | inl (blank, (after, val, others, more, tree, further, e, blanks, v, all, k)) ↦ (b ∷ after, val, others, more, tree, further, ap (λ bytes. b ∷ bytes) e, (blank, blanks), v, all, k)
  | inr (blank, l1) ↦ elim (chosen (λ (o : Option State). Leads o rest whole) (b == 58) _ _ l1) [
    | inl (is, (before, inside, more, tree, e, blanks, v, (after, between, behind, others, e', blanks', all, k))) ↦ (
      [],
      before ++ (inside ++ after),
      between,
      behind,
      tree,
      others,
      joined (equal b 58 is) (e ∙ ap (λ bytes. before ++ (inside ++ bytes)) e' ∙ grouped_three before inside after (between ++ 125 ∷ behind)),
      tt,
      (before, inside, after, refl, blanks, v, blanks'),
      all,
      k,
    )
    | inr (is, none) ↦ absurd none
  ]
]

close_member_back : (b : ℕ) (tree : Tree) (members : Members) (key : List ℕ) (frames : List Frame) (rest : List ℕ) (whole : Tree) → Leads (close b tree (in_member members key ∷ frames)) rest whole
    → Closes (in_member members key ∷ frames) tree (b ∷ rest) whole
close_member_back b tree members key frames rest whole l = elim (chosen (λ (o : Option State). Leads o rest whole) (b == 44) _ _ l) [
  | inl (is, (one, inside, more, other, next, further, e, entry, all, k)) ↦ (
    [],
    44 ∷ (one ++ inside),
    more,
    member other next further,
    joined (equal b 44 is) (e ∙ sym (append_assoc one inside (125 ∷ more))),
    tt,
    (one, inside, refl, entry, all),
    subst (λ all. Closes frames (object all) more whole) (then_and_members (then_member members (key, tree)) other next further) k,
  )
  | inr (is, l1) ↦ elim (chosen (λ (o : Option State). Leads o rest whole) (b == 125) _ _ l1) [
    | inl (is, k) ↦ ([], [], rest, no_members, joined (equal b 125 is) refl, tt, refl, subst (λ all. Closes frames (object all) rest whole) (sym (and_no_members (then_member members (key, tree)))) k)
    | inr (is, none) ↦ absurd none
  ]
]

pub ended_back : (b : ℕ) (tree : Tree) (frames : List Frame) (rest : List ℕ) (whole : Tree) → Leads (after_value b tree frames) rest whole → Closes frames tree (b ∷ rest) whole
ended_back b tree [] rest whole l = grind (arith, common_steps)
ended_back b tree (in_list items ∷ frames) rest whole l = ended_list_back b tree items frames rest whole l
ended_back b tree (in_member members key ∷ frames) rest whole l = elim (chosen (λ (o : Option State). Leads o rest whole) (is_blank b) _ _ l) [
  | inl (blank, (after, inside, more, others, e, blanks, all, k)) ↦ (b ∷ after, inside, more, others, ap (λ bytes. b ∷ bytes) e, (blank, blanks), all, k)
  | inr (blank, closes) ↦ close_member_back b tree members key frames rest whole closes
]

pub letters_back : (left : List ℕ) (b : ℕ) (tree : Tree) (frames : List Frame) (rest : List ℕ) (whole : Tree) → Leads (step b (letters left tree) frames) rest whole
    → Completes (letters left tree) frames (b ∷ rest) whole
letters_back left b tree frames rest whole l = grind (arith, common_steps)

digits_behind : (b : ℕ) (place : Digits) (spelling : List ℕ) (frames : List Frame) (rest : List ℕ) (whole : Tree) (next : Option Digits)
    → ((tail : List ℕ) → LeadsOn next tail → EndsNumber place (b ∷ tail)) → Leads (next_digit b place spelling frames next) rest whole → Completes (digits place spelling) frames (b ∷ rest) whole
digits_behind b place spelling frames rest whole (Some next) ends (tail, more, e, on, k) =
    (b ∷ tail, more, ap (λ bytes. b ∷ bytes) e, ends tail on, subst (λ bytes. Closes frames (number bytes) more whole) (append_assoc spelling (b ∷ []) tail) k)
digits_behind b place spelling frames rest whole None ends l = elim (chosen (λ (o : Option State). Leads o rest whole) (may_end place) _ _ l) [
  | inl (may, after) ↦
      ([], b ∷ rest, refl, ends_here place may, subst (λ bytes. Closes frames (number bytes) (b ∷ rest) whole) (sym (append-nil spelling)) (ended_back b (number spelling) frames rest whole after))
  | inr (may, none) ↦ absurd none
]

pub digits_on_back : (place : Digits) (spelling : List ℕ) (b : ℕ) (frames : List Frame) (rest : List ℕ) (whole : Tree) → Leads (step b (digits place spelling) frames) rest whole
    → Completes (digits place spelling) frames (b ∷ rest) whole
digits_on_back place spelling b frames rest whole l = digits_behind b place spelling frames rest whole (digits_after b place) (digits_back place b) l
