-- The compact text of a tree is a text of it, and UTF-8.
use Rattle.std.{proofs.Common.{◌≡◌, ℕ, List, [], ◌∷◌, ◌++◌, true, false, ◌<◌, refl, sym, ap, nat_lt}, proofs.lemmas.List.append-nil, specs.Str.IsUtf8}
use Rattle.std.{specs.List.list_all, proofs.lemmas.Bool.ltb-true, proofs.lemmas.List.Elements.All-weaker, proofs.lemmas.List.Sums.AllPass-from_list_all}
use Rattle.std.proofs.lemmas.Str.{IsUtf8-append, IsUtf8-from_ascii, Ascii.IsAscii-from_all}
use Rattle.json_text.specs.Bytes as byte
use Rattle.json_text.specs.Tree.{Tree, null, boolean, number, text, list, object, Items, no_items, item, Members, no_members, member}
use Rattle.json_text.specs.Grammar.{IsNumber, IsQuoted, Spaced, IsMember, IsValue, IsItems, MoreItems, IsMembers, MoreMembers, IsText}
use Rattle.lnt_report.specs.{Quoted.quoted, Written.{compact, compact_items, more_items, compact_members, more_members}}
use Rattle.lnt_report.proofs.QuotedTexts.{quoted-is, quoted-utf8}

-- texts and keys are UTF-8, and each number is spelled as one
abbrev mutual
  pub IsFine : Tree → Type 0
  IsFine null = Unit {0}
  IsFine (boolean truth) = Unit {0}
  IsFine (number spelling) = IsNumber spelling × IsUtf8 spelling
  IsFine (text content) = IsUtf8 content
  IsFine (list items) = AreFine items
  IsFine (object members) = HasFine members

  pub AreFine : Items → Type 0
  AreFine no_items = Unit {0}
  AreFine (item tree items) = IsFine tree × AreFine items

  pub HasFine : Members → Type 0
  HasFine no_members = Unit {0}
  HasFine (member key tree members) = IsUtf8 key × IsFine tree × HasFine members

-- with no white space round it
bare : (Inside : List ℕ → Type 0) (bytes : List ℕ) → Inside bytes → Spaced Inside bytes
bare Inside bytes h = ([], bytes, [], sym (append-nil bytes), tt, h, tt)

bare_member : (Value : List ℕ → Type 0) (key value : List ℕ) → IsUtf8 key → Value value → IsMember Value key (quoted key ++ byte.colon ∷ value)
bare_member Value key value u v =
    (quoted key, value, refl, bare (λ inside. IsQuoted inside key) (quoted key) (quoted-is key u), bare Value value v)

-- a member before others, and the same behind a comma
first_member : (key : List ℕ) (tree : Tree) (members : Members) → IsUtf8 key → IsValue (compact tree) tree → MoreMembers (more_members members) members
    → IsMembers (compact_members (member key tree members)) (member key tree members)
first_member key tree members u v more =
    (quoted key ++ byte.colon ∷ compact tree, more_members members, refl, bare_member (λ inside. IsValue inside tree) key (compact tree) u v, more)

later_member : (key : List ℕ) (tree : Tree) (members : Members) → IsMembers (compact_members (member key tree members)) (member key tree members)
    → MoreMembers (more_members (member key tree members)) (member key tree members)
later_member key tree _ (one, more, is, fits, others) = (one, more, ap (λ (bytes : List ℕ). byte.comma ∷ bytes) is, fits, others)

mutual
  value_is : (tree : Tree) → IsFine tree → IsValue (compact tree) tree
  value_is null h = refl
  value_is (boolean true) h = refl
  value_is (boolean false) h = refl
  value_is (number spelling) h = (refl, h.0)
  value_is (text content) h = quoted-is content h
  value_is (list items) h = (compact_items items, refl, items_are items h)
  value_is (object members) h = (compact_members members, refl, members_are members h)

  items_are : (items : Items) → AreFine items → IsItems (compact_items items) items
  items_are no_items h = tt
  items_are (item tree items) h =
      (compact tree, more_items items, refl, bare (λ inside. IsValue inside tree) (compact tree) (value_is tree h.0), more_are items h.1)

  more_are : (items : Items) → AreFine items → MoreItems (more_items items) items
  more_are no_items h = refl
  more_are (item tree items) h =
      (compact tree, more_items items, refl, bare (λ inside. IsValue inside tree) (compact tree) (value_is tree h.0), more_are items h.1)

  members_are : (members : Members) → HasFine members → IsMembers (compact_members members) members
  members_are no_members h = tt
  members_are (member key tree members) h = first_member key tree members h.0 (value_is tree h.1) (more_members_are members h.2)

  more_members_are : (members : Members) → HasFine members → MoreMembers (more_members members) members
  more_members_are no_members h = refl
  more_members_are (member key tree members) h = later_member key tree members (first_member key tree members h.0 (value_is tree h.1) (more_members_are members h.2))

pub compact-text : (tree : Tree) → IsFine tree → IsText (compact tree) tree
compact-text tree h = bare (λ inside. IsValue inside tree) (compact tree) (value_is tree h)

-- ASCII is UTF-8
pub ascii : (bytes : List ℕ) → list_all (λ b. nat_lt b 128) bytes ≡ true → IsUtf8 bytes
ascii bytes e =
    IsUtf8-from_ascii bytes (IsAscii-from_all bytes
    (All-weaker (λ b. nat_lt b 128 ≡ true) (λ b. b < 128) (λ b h. ltb-true b 128 h) bytes (AllPass-from_list_all (λ b. nat_lt b 128) bytes e)))

-- one ASCII byte before or behind
before_ascii : (b : ℕ) (bytes : List ℕ) → IsUtf8 (b ∷ []) → IsUtf8 bytes → IsUtf8 (b ∷ bytes)
before_ascii b bytes h u = IsUtf8-append (b ∷ []) bytes h u

between : (a b : ℕ) (bytes : List ℕ) → IsUtf8 (a ∷ []) → IsUtf8 (b ∷ []) → IsUtf8 bytes → IsUtf8 (a ∷ (bytes ++ b ∷ []))
between a b bytes h k u = before_ascii a (bytes ++ b ∷ []) h (IsUtf8-append bytes (b ∷ []) u k)

one_comma : IsUtf8 (byte.comma ∷ [])
one_comma = ascii (byte.comma ∷ []) refl

utf8_member : (key value : List ℕ) → IsUtf8 key → IsUtf8 value → IsUtf8 (quoted key ++ byte.colon ∷ value)
utf8_member key value u v =
    IsUtf8-append (quoted key) (byte.colon ∷ value) (quoted-utf8 key u) (before_ascii byte.colon value (ascii (byte.colon ∷ []) refl) v)

nil_utf8 : IsUtf8 []
nil_utf8 = ascii [] refl

mutual
  value_utf8 : (tree : Tree) → IsFine tree → IsUtf8 (compact tree)
  value_utf8 null h = ascii byte.null_letters refl
  value_utf8 (boolean true) h = ascii byte.true_letters refl
  value_utf8 (boolean false) h = ascii byte.false_letters refl
  value_utf8 (number spelling) h = h.1
  value_utf8 (text content) h = quoted-utf8 content h
  value_utf8 (list items) h = between byte.open_list byte.close_list (compact_items items)
      (ascii (byte.open_list ∷ []) refl) (ascii (byte.close_list ∷ []) refl) (items_utf8 items h)
  value_utf8 (object members) h = between byte.open_object byte.close_object (compact_members members)
      (ascii (byte.open_object ∷ []) refl) (ascii (byte.close_object ∷ []) refl) (members_utf8 members h)

  items_utf8 : (items : Items) → AreFine items → IsUtf8 (compact_items items)
  items_utf8 no_items h = nil_utf8
  items_utf8 (item tree items) h = IsUtf8-append (compact tree) (more_items items) (value_utf8 tree h.0) (more_utf8 items h.1)

  more_utf8 : (items : Items) → AreFine items → IsUtf8 (more_items items)
  more_utf8 no_items h = nil_utf8
  more_utf8 (item tree items) h =
      before_ascii byte.comma (compact tree ++ more_items items) one_comma
      (IsUtf8-append (compact tree) (more_items items) (value_utf8 tree h.0) (more_utf8 items h.1))

  members_utf8 : (members : Members) → HasFine members → IsUtf8 (compact_members members)
  members_utf8 no_members h = nil_utf8
  members_utf8 (member key tree members) h =
      IsUtf8-append (quoted key ++ byte.colon ∷ compact tree) (more_members members)
      (utf8_member key (compact tree) h.0 (value_utf8 tree h.1)) (more_members_utf8 members h.2)

  more_members_utf8 : (members : Members) → HasFine members → IsUtf8 (more_members members)
  more_members_utf8 no_members h = nil_utf8
  more_members_utf8 (member key tree members) h =
      before_ascii byte.comma ((quoted key ++ byte.colon ∷ compact tree) ++ more_members members) one_comma
      (IsUtf8-append (quoted key ++ byte.colon ∷ compact tree) (more_members members)
      (utf8_member key (compact tree) h.0 (value_utf8 tree h.1)) (more_members_utf8 members h.2))

pub compact-utf8 : (tree : Tree) → IsFine tree → IsUtf8 (compact tree)
compact-utf8 tree h = value_utf8 tree h
