-- Where the grammar goes on, the machine does.
use Rattle.std.proofs.Common.{◌≡◌, ℕ, ◌==◌, Bool, true, false, cond, List, [], ◌∷◌, ◌++◌, IsTrue, ◌||◌, Option, None, refl, arith, sym, subst, ◌∙◌, ap, append_assoc, append-nil}
use Rattle.std.proofs.lemmas.{Bool.Decides.nat_tests, Grind.common_steps}
use Rattle.json_text.{specs.declared.state.Digits.Digits, proofs.Numbers.{LeadsOn, digits_forth, digits_end}}
use Rattle.json_text.specs.{Classes.is_blank, Tree.{Tree, null, boolean, number, text, list, object, Items, no_items, item, Members, no_members, member}}
use Rattle.json_text.specs.Grammar.{IsBlank, IsNumber, Spells, Spaced, IsMember, IsValue, IsItems, MoreItems, IsMembers, MoreMembers}
use Rattle.json_text.specs.Machine.{Frame, in_list, in_member, value, first_item, first_key, next_key, colon, letters, digits, State, begin, digits_after, may_end, after_value, step, next_digit}
use Rattle.json_text.{specs.Parts.{then_item, then_member}, proofs.Completion.{and_items, and_members, Closes, EndsNumber, Leads}}
use Rattle.json_text.proofs.Choices.{when, unless, head_same, along, not_equal}

-- items behind items
pub and_no_items : (items : Items) → and_items items no_items ≡ items
and_no_items no_items = refl
and_no_items (item tree items) = ap (item tree) (and_no_items items)

pub then_and_items : (items : Items) (tree : Tree) (more : Items) → and_items (then_item items tree) more ≡ and_items items (item tree more)
then_and_items no_items tree more = refl
then_and_items (item first items) tree more = ap (item first) (then_and_items items tree more)

-- four parts before a rest, grouped to the right
pub regroup : (a b c d e : List ℕ) → ((a ++ (b ++ c)) ++ d) ++ e ≡ a ++ (b ++ (c ++ (d ++ e)))
regroup a b c d e = simp append_assoc

-- where a blank byte leaves the state
skipped : {w b : ℕ} {left rest : List ℕ} (whole : Tree) (same other : Option State) (after : ℕ → Option State) → b ∷ rest ≡ w ∷ left → after w ≡ cond (is_blank w) same other
    → IsTrue (is_blank w) → Leads same left whole → Leads (after b) rest whole
skipped {w} {left = left} whole same other after e is blank leads = grind (arith, common_steps)

-- white space begins no value
pub blank_begins_none : (b : ℕ) (frames : List Frame) → IsTrue (is_blank b) → begin b frames ≡ None
blank_begins_none b frames h = grind (arith, common_steps)

pub not_true : (t : Bool) → (IsTrue t → ⊥) → t ≡ false
not_true t h = grind (arith, common_steps)

-- where a value begins, white space and the bracket that closes a list are out of the question
pub begins_no_blank : (b : ℕ) (frames : List Frame) (rest : List ℕ) (whole : Tree) → Leads (begin b frames) rest whole → is_blank b ≡ false
begins_no_blank b frames rest whole l = not_true (is_blank b) (λ h. subst (λ (o : Option State). Leads o rest whole) (blank_begins_none b frames h) l)

pub begins_no_close : (b : ℕ) (frames : List Frame) (rest : List ℕ) (whole : Tree) → Leads (begin b frames) rest whole → (b == 93) ≡ false
begins_no_close b frames rest whole l = not_equal b 93 (λ is. subst (λ c. Leads (begin c frames) rest whole) is l)

number_forth : (spelling more : List ℕ) (b : ℕ) (rest : List ℕ) (frames : List Frame) (whole : Tree) → b ∷ rest ≡ spelling ++ more → IsNumber spelling
    → Closes frames (number spelling) more whole → Leads (begin b frames) rest whole
number_forth [] more b rest frames whole e ([], [], fraction, exponent, same, m, w, f, x) k = absurd w
number_forth [] more b rest frames whole e ([], d ∷ ds, fraction, exponent, same, m, w, f, x) k = absurd (cc same)
number_forth [] more b rest frames whole e (s ∷ sign, whole_part, fraction, exponent, same, m, w, f, x) k = absurd (cc same)
number_forth (d ∷ tail) more b rest frames whole e is k = grind (arith, common_steps)

-- where a value begins, the machine reads its first byte
pub value_forth : (tree : Tree) (inside more : List ℕ) (b : ℕ) (rest : List ℕ) (frames : List Frame) (whole : Tree) → b ∷ rest ≡ inside ++ more → IsValue inside tree
    → Closes frames tree more whole → Leads (begin b frames) rest whole
value_forth null inside more b rest frames whole e v k = along (λ c left. Leads (begin c frames) left whole) (e ∙ ap (λ bytes. bytes ++ more) v) (more, refl, k)
value_forth (boolean true) inside more b rest frames whole e v k = along (λ c left. Leads (begin c frames) left whole) (e ∙ ap (λ bytes. bytes ++ more) v) (more, refl, k)
value_forth (boolean false) inside more b rest frames whole e v k = along (λ c left. Leads (begin c frames) left whole) (e ∙ ap (λ bytes. bytes ++ more) v) (more, refl, k)
value_forth (number spelling) inside more b rest frames whole e v k = number_forth spelling more b rest frames whole (e ∙ ap (λ bytes. bytes ++ more) v.0) v.1 k
value_forth (text spelled) inside more b rest frames whole e (between, is, s) k = grind (arith, common_steps)
value_forth (list items) inside more b rest frames whole e (between, is, all) k = grind (arith, common_steps)
value_forth (object members) inside more b rest frames whole e (between, is, all) k = grind (arith, common_steps)

-- a value that may have white space before it
pub spaced_forth : (before inside more : List ℕ) (tree : Tree) (b : ℕ) (rest : List ℕ) (frames : List Frame) (whole : Tree) → b ∷ rest ≡ before ++ (inside ++ more)
    → IsBlank before → IsValue inside tree → Closes frames tree more whole → Leads (step b value frames) rest whole
spaced_forth [] inside more tree b rest frames whole e blank v k =
    let begins = value_forth tree inside more b rest frames whole e v k in
    unless (λ (o : Option State). Leads o rest whole) (is_blank b) _ _ (begins_no_blank b frames rest whole begins) begins
spaced_forth (w ∷ before) inside more tree b rest frames whole e blank v k = grind (arith, common_steps)

-- a first item that may have white space before it, and the items behind it
pub first_item_forth : (before inside after further more : List ℕ) (tree : Tree) (others : Items) (b : ℕ) (rest : List ℕ) (frames : List Frame) (whole : Tree)
    → b ∷ rest ≡ before ++ (inside ++ (after ++ (further ++ 93 ∷ more))) → IsBlank before → IsValue inside tree → IsBlank after → MoreItems further others
    → Closes frames (list (item tree others)) more whole → Leads (step b first_item frames) rest whole
first_item_forth [] inside after further more tree others b rest frames whole e blank v blank' all k =
    let begins : Leads (begin b (in_list no_items ∷ frames)) rest whole = value_forth tree inside (after ++ (further ++ 93 ∷ more)) b rest (in_list no_items ∷ frames) whole e v (after, further, more, others, refl, blank', all, k) in
    unless (λ (o : Option State). Leads o rest whole) (is_blank b) _ _ (begins_no_blank b (in_list no_items ∷ frames) rest whole begins)
    (unless (λ (o : Option State). Leads o rest whole) (b == 93) _ _ (begins_no_close b (in_list no_items ∷ frames) rest whole begins) begins)
first_item_forth (w ∷ before) inside after further more tree others b rest frames whole e blank v blank' all k =
    skipped whole _ _ (λ c. step c first_item frames) e refl blank.0 ((before ++ (inside ++ after)) ++ further, more, item tree others, sym (regroup before inside after further (93 ∷ more)), (before ++ (inside ++ after), further, refl, (before, inside, after, refl, blank.1, v, blank'), all), k)

pub items_forth : (items : Items) (inside more : List ℕ) (b : ℕ) (rest : List ℕ) (frames : List Frame) (whole : Tree) → b ∷ rest ≡ inside ++ 93 ∷ more → IsItems inside items
    → Closes frames (list items) more whole → Leads (step b first_item frames) rest whole
items_forth no_items [] more b rest frames whole e all k = along (λ c left. Leads (step c first_item frames) left whole) e k
items_forth no_items (w ∷ inside) more b rest frames whole e all k = grind (arith, common_steps)
items_forth (item tree others) inside more b rest frames whole e (one, further, is, (before, within, after, is', blank, v, blank'), all) k =
    first_item_forth before within after further more tree others b rest frames whole
    (e ∙ ap (λ bytes. bytes ++ 93 ∷ more) (is ∙ ap (λ bytes. bytes ++ further) is') ∙ regroup before within after further (93 ∷ more)) blank v blank' all k

-- behind a value in a list
pub in_list_forth : (after inside more : List ℕ) (others items : Items) (tree : Tree) (b : ℕ) (rest : List ℕ) (frames : List Frame) (whole : Tree)
    → b ∷ rest ≡ after ++ (inside ++ 93 ∷ more) → IsBlank after → MoreItems inside others → Closes frames (list (and_items (then_item items tree) others)) more whole
    → Leads (after_value b tree (in_list items ∷ frames)) rest whole
in_list_forth (w ∷ after) inside more others items tree b rest frames whole e blank all k = grind (arith, common_steps)
in_list_forth [] inside more no_items items tree b rest frames whole e blank all k = grind (arith, common_steps, along, and_no_items, then_item)
in_list_forth [] inside more (item next others) items tree b rest frames whole e blank (one, further, is, (before, within, after, is', blank', v, blank''), all) k =
    along (λ c left. Leads (after_value c tree (in_list items ∷ frames)) left whole)
    (e ∙ ap (λ bytes. bytes ++ 93 ∷ more) (is ∙ ap (λ bytes. 44 ∷ (bytes ++ further)) is')) (
      before,
      within,
      after ++ (further ++ 93 ∷ more),
      next,
      regroup before within after further (93 ∷ more),
      blank',
      v,
      (after, further, more, others, refl, blank'', all, subst (λ all. Closes frames (list all) more whole) (sym (then_and_items (then_item items tree) next others)) k),
    )

-- members behind members
pub and_no_members : (members : Members) → and_members members no_members ≡ members
and_no_members no_members = refl
and_no_members (member key tree members) = ap (member key tree) (and_no_members members)

pub then_and_members : (members : Members) (key : List ℕ) (tree : Tree) (more : Members) → and_members (then_member members (key, tree)) more ≡ and_members members (member key tree more)
then_and_members no_members key tree more = refl
then_and_members (member first held members) key tree more = ap (member first held) (then_and_members members key tree more)

-- a key with white space round it, a colon and a value, before a rest
pub regroup_member : (before within after val rest : List ℕ)
    → ((before ++ ((34 ∷ (within ++ 34 ∷ [])) ++ after)) ++ 58 ∷ val) ++ rest ≡ before ++ (34 ∷ (within ++ 34 ∷ (after ++ 58 ∷ (val ++ rest))))
regroup_member before within after val rest = simp append_assoc

-- a next key that may have white space before it
pub next_key_forth : (before within after val others more key : List ℕ) (tree : Tree) (further so_far : Members) (b : ℕ) (rest : List ℕ) (frames : List Frame) (whole : Tree)
    → b ∷ rest ≡ before ++ (34 ∷ (within ++ 34 ∷ (after ++ 58 ∷ (val ++ (others ++ 125 ∷ more))))) → IsBlank before → Spells within key → IsBlank after
    → Spaced (λ bytes. IsValue bytes tree) val → MoreMembers others further → Closes frames (object (and_members (then_member so_far (key, tree)) further)) more whole
    → Leads (step b (next_key so_far) frames) rest whole
next_key_forth [] within after val others more key tree further so_far b rest frames whole e blank spells blank' v all k = grind (arith, common_steps)
next_key_forth (w ∷ before) within after val others more key tree further so_far b rest frames whole e blank spells blank' v all k =
    along (λ c left. Leads (step c (next_key so_far) frames) left whole) e
    (when (λ (o : Option State). Leads o (before ++ (34 ∷ (within ++ 34 ∷ (after ++ 58 ∷ (val ++ (others ++ 125 ∷ more)))))) whole) (is_blank w) _ _ blank.0 (
      (before ++ ((34 ∷ (within ++ 34 ∷ [])) ++ after)) ++ 58 ∷ val,
      others,
      more,
      key,
      tree,
      further,
      sym (regroup_member before within after val (others ++ 125 ∷ more)),
      (before ++ ((34 ∷ (within ++ 34 ∷ [])) ++ after), val, refl, (before, 34 ∷ (within ++ 34 ∷ []), after, refl, blank.1, (within, refl, spells), blank'), v),
      all,
      k,
    ))

-- a first key that may have white space before it
pub first_key_forth : (before within after val others more key : List ℕ) (tree : Tree) (further : Members) (b : ℕ) (rest : List ℕ) (frames : List Frame) (whole : Tree)
    → b ∷ rest ≡ before ++ (34 ∷ (within ++ 34 ∷ (after ++ 58 ∷ (val ++ (others ++ 125 ∷ more))))) → IsBlank before → Spells within key → IsBlank after
    → Spaced (λ bytes. IsValue bytes tree) val → MoreMembers others further → Closes frames (object (member key tree further)) more whole
    → Leads (step b first_key frames) rest whole
first_key_forth [] within after val others more key tree further b rest frames whole e blank spells blank' v all k = grind (arith, common_steps)
first_key_forth (w ∷ before) within after val others more key tree further b rest frames whole e blank spells blank' v all k =
    along (λ c left. Leads (step c first_key frames) left whole) e
    (when (λ (o : Option State). Leads o (before ++ (34 ∷ (within ++ 34 ∷ (after ++ 58 ∷ (val ++ (others ++ 125 ∷ more)))))) whole) (is_blank w) _ _ blank.0 (
      ((before ++ ((34 ∷ (within ++ 34 ∷ [])) ++ after)) ++ 58 ∷ val) ++ others,
      more,
      member key tree further,
      sym (append_assoc ((before ++ ((34 ∷ (within ++ 34 ∷ [])) ++ after)) ++ 58 ∷ val) others (125 ∷ more) ∙ regroup_member before within after val (others ++ 125 ∷ more)),
      (
        (before ++ ((34 ∷ (within ++ 34 ∷ [])) ++ after)) ++ 58 ∷ val,
        others,
        refl,
        (before ++ ((34 ∷ (within ++ 34 ∷ [])) ++ after), val, refl, (before, 34 ∷ (within ++ 34 ∷ []), after, refl, blank.1, (within, refl, spells), blank'), v),
        all,
      ),
      k,
    ))

-- a member's bytes, with each part in sight
member_parts : (one name before quoted within after val rest : List ℕ) → one ≡ name ++ 58 ∷ val → name ≡ before ++ (quoted ++ after) → quoted ≡ 34 ∷ (within ++ 34 ∷ [])
    → one ++ rest ≡ before ++ (34 ∷ (within ++ 34 ∷ (after ++ 58 ∷ (val ++ rest))))
member_parts one name before quoted within after val rest e f g = grind (arith, common_steps)

pub next_member_forth : (one others more key : List ℕ) (tree : Tree) (further so_far : Members) (b : ℕ) (rest : List ℕ) (frames : List Frame) (whole : Tree)
    → b ∷ rest ≡ one ++ (others ++ 125 ∷ more) → IsMember (λ bytes. IsValue bytes tree) key one → MoreMembers others further
    → Closes frames (object (and_members (then_member so_far (key, tree)) further)) more whole → Leads (step b (next_key so_far) frames) rest whole
next_member_forth one others more key tree further so_far b rest frames whole e (name, val, is, (before, quoted, after, is', blank, (within, is'', spells), blank'), v) all k =
    next_key_forth before within after val others more key tree further so_far b rest frames whole (e ∙ member_parts one name before quoted within after val (others ++ 125 ∷ more) is is' is'') blank spells blank' v all k

pub members_forth : (members : Members) (inside more : List ℕ) (b : ℕ) (rest : List ℕ) (frames : List Frame) (whole : Tree) → b ∷ rest ≡ inside ++ 125 ∷ more → IsMembers inside members
    → Closes frames (object members) more whole → Leads (step b first_key frames) rest whole
members_forth no_members [] more b rest frames whole e all k = along (λ c left. Leads (step c first_key frames) left whole) e k
members_forth no_members (w ∷ inside) more b rest frames whole e all k = grind (arith, common_steps)
members_forth (member key tree further) inside more b rest frames whole e (one, others, is, (name, val, is1, (before, quoted, after, is2, blank, (within, is3, spells), blank'), v), all) k =
    first_key_forth before within after val others more key tree further b rest frames whole
    (e ∙ ap (λ bytes. bytes ++ 125 ∷ more) is ∙ append_assoc one others (125 ∷ more) ∙ member_parts one name before quoted within after val (others ++ 125 ∷ more) is1 is2 is3)
    blank spells blank' v all k

-- behind a key
pub colon_forth : (after inside others more key : List ℕ) (tree : Tree) (further members : Members) (b : ℕ) (rest : List ℕ) (frames : List Frame) (whole : Tree)
    → b ∷ rest ≡ after ++ 58 ∷ (inside ++ (others ++ 125 ∷ more)) → IsBlank after → Spaced (λ bytes. IsValue bytes tree) inside → MoreMembers others further
    → Closes frames (object (and_members (then_member members (key, tree)) further)) more whole → Leads (step b (colon members key) frames) rest whole
colon_forth (w ∷ after) inside others more key tree further members b rest frames whole e blank v all k = grind (arith, common_steps)
colon_forth [] inside others more key tree further members b rest frames whole e blank (before, within, after, is, blank', v, blank'') all k =
    along (λ c left. Leads (step c (colon members key) frames) left whole) e (
      before,
      within,
      after ++ (others ++ 125 ∷ more),
      tree,
      ap (λ bytes. bytes ++ (others ++ 125 ∷ more)) is ∙ append_assoc before (within ++ after) (others ++ 125 ∷ more) ∙ ap (λ bytes. before ++ bytes) (append_assoc within after (others ++ 125 ∷ more)),
      blank',
      v,
      (after, others, more, further, refl, blank'', all, k),
    )

-- behind a value in an object
pub in_member_forth : (after inside more key : List ℕ) (others members : Members) (tree : Tree) (b : ℕ) (rest : List ℕ) (frames : List Frame) (whole : Tree)
    → b ∷ rest ≡ after ++ (inside ++ 125 ∷ more) → IsBlank after → MoreMembers inside others → Closes frames (object (and_members (then_member members (key, tree)) others)) more whole
    → Leads (after_value b tree (in_member members key ∷ frames)) rest whole
in_member_forth (w ∷ after) inside more key others members tree b rest frames whole e blank all k = grind (arith, common_steps)
in_member_forth [] inside more key no_members members tree b rest frames whole e blank all k =
    along (λ c left. Leads (after_value c tree (in_member members key ∷ frames)) left whole) (e ∙ ap (λ bytes. bytes ++ 125 ∷ more) all)
    (subst (λ all. Closes frames (object all) more whole) (and_no_members (then_member members (key, tree))) k)
in_member_forth [] inside more key (member other next others) members tree b rest frames whole e blank (one, further, is, entry, all) k =
    along (λ c left. Leads (after_value c tree (in_member members key ∷ frames)) left whole) (e ∙ ap (λ bytes. bytes ++ 125 ∷ more) is ∙ ap (λ bytes. 44 ∷ bytes) (append_assoc one further (125 ∷ more)))
    (one, further, more, other, next, others, refl, entry, all, subst (λ all. Closes frames (object all) more whole) (sym (then_and_members (then_member members (key, tree)) other next others)) k)

-- behind a value
pub ended_forth : (frames : List Frame) (tree : Tree) (b : ℕ) (rest : List ℕ) (whole : Tree) → Closes frames tree (b ∷ rest) whole → Leads (after_value b tree frames) rest whole
ended_forth frames tree b rest whole x5 = grind (arith, common_steps, when, in_list_forth, in_member_forth)

-- within a word
pub letters_forth : (left : List ℕ) (letter : ℕ) (more : List ℕ) (tree : Tree) (b : ℕ) (rest : List ℕ) (frames : List Frame) (whole : Tree)
    → b ∷ rest ≡ letter ∷ (left ++ more) → Closes frames tree more whole → Leads (step b (letters (letter ∷ left) tree) frames) rest whole
letters_forth left letter more tree b rest frames whole e k = grind (arith, common_steps)

-- what may stand behind a value
abbrev pub is_delimiter : ℕ → Bool
is_delimiter b = is_blank b || (b == 44) || (b == 93) || (b == 125)

-- no number goes on with it
delimiter_stops : (place : Digits) (b : ℕ) → IsTrue (is_delimiter b) → digits_after b place ≡ None
delimiter_stops place b h = grind (arith, common_steps)

blank_delimits : (b : ℕ) → IsTrue (is_blank b) → IsTrue (is_delimiter b)
blank_delimits b h = grind (arith, nat_tests)

literal_delimits : (b c : ℕ) → b ≡ c → IsTrue (is_delimiter c) → IsTrue (is_delimiter b)
literal_delimits b c e h = subst (λ n. IsTrue (is_delimiter n)) (sym e) h

-- a value ends, so a delimiter or nothing comes
closes_delimits : (frames : List Frame) (tree : Tree) (b : ℕ) (rest : List ℕ) (whole : Tree) → Closes frames tree (b ∷ rest) whole → IsTrue (is_delimiter b)
closes_delimits [] tree b rest whole (blank, same) = blank_delimits b blank.0
closes_delimits (in_list items ∷ frames) tree b rest whole (w ∷ after, inside, more, others, e, blank, all, k) = literal_delimits b w (head_same e) (blank_delimits w blank.0)
closes_delimits (in_list items ∷ frames) tree b rest whole ([], inside, more, no_items, e, blank, all, k) = literal_delimits b 93 (head_same (e ∙ ap (λ bytes. bytes ++ 93 ∷ more) all)) refl
closes_delimits (in_list items ∷ frames) tree b rest whole ([], inside, more, item next others, e, blank, (one, further, is, v, all), k) = literal_delimits b 44 (head_same (e ∙ ap (λ bytes. bytes ++ 93 ∷ more) is)) refl
closes_delimits (in_member so_far key ∷ frames) tree b rest whole (w ∷ after, inside, more, others, e, blank, all, k) = literal_delimits b w (head_same e) (blank_delimits w blank.0)
closes_delimits (in_member so_far key ∷ frames) tree b rest whole ([], inside, more, no_members, e, blank, all, k) = literal_delimits b 125 (head_same (e ∙ ap (λ bytes. bytes ++ 125 ∷ more) all)) refl
closes_delimits (in_member so_far key ∷ frames) tree b rest whole ([], inside, more, member other next others, e, blank, (one, further, is, v, all), k) = literal_delimits b 44 (head_same (e ∙ ap (λ bytes. bytes ++ 125 ∷ more) is)) refl

next_place : (b : ℕ) (place : Digits) (spelling tail more : List ℕ) (frames : List Frame) (whole : Tree) (next : Option Digits) → LeadsOn next tail
    → Closes frames (number (spelling ++ b ∷ tail)) more whole → Leads (next_digit b place spelling frames next) (tail ++ more) whole
next_place b place spelling tail more frames whole next l k = grind (arith, common_steps)

-- within a number or behind it
pub digits_on : (place : Digits) (spelling tail more : List ℕ) (b : ℕ) (rest : List ℕ) (frames : List Frame) (whole : Tree) → b ∷ rest ≡ tail ++ more → EndsNumber place tail
    → Closes frames (number (spelling ++ tail)) more whole → Leads (step b (digits place spelling) frames) rest whole
digits_on place spelling [] more b rest frames whole e ends k =
    let behind = subst (λ left. Closes frames (number spelling) left whole) (sym e) (subst (λ bytes. Closes frames (number bytes) more whole) (append-nil spelling) k) in
    subst (λ next. Leads (next_digit b place spelling frames next) rest whole) (sym (delimiter_stops place b (closes_delimits frames (number spelling) b rest whole behind)))
    (when (λ (o : Option State). Leads o rest whole) (may_end place) _ _ (digits_end place ends) (ended_forth frames (number spelling) b rest whole behind))
digits_on place spelling (t ∷ tail) more b rest frames whole e ends k = grind (arith, common_steps, along, next_place, digits_forth)
