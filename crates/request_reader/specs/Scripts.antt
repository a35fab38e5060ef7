-- The bytes of a script: pieces one after another, which are a line and its body, and how they end.
use Rattle.std.specs.Prelude.{◌≡◌, ◌≢◌, ℕ, ◌+◌, ◌-◌, ◌^◌, ◌<◌, ◌≤◌, ◌⊎◌, Bool, true, false, List, [], ◌∷◌, ◌++◌, All, length, take}
use Rattle.request_words.specs.{Bodies.Item, Items.{Gives, Counts}}

-- the most bytes of a line
abbrev pub line_limit : ℕ
line_limit = 4_096

-- the most bytes of an input that are read
abbrev pub input_limit : ℕ
input_limit = 2 ^ 30

-- bytes within a line, as many as a line may have
pub record IsLine (bytes : List ℕ) : Type 0 where
  pub no_feed : All (λ b. b ≢ 10) bytes
  pub short : length bytes ≤ line_limit

-- a line and the bytes behind it that belong to it, and what they ask
pub record Piece : Type 0 where
  pub line : List ℕ
  pub body : List ℕ
  pub asks : List Item

-- the bytes of a piece
abbrev pub text_of : Piece → List ℕ
text_of p = p.line ++ 10 ∷ p.body

pub record IsPiece (p : Piece) : Type 0 where
  pub line : IsLine p.line
  pub counted : Counts p.line (length p.body)
  pub gives : Gives p.line p.body p.asks

-- the bytes are pieces one after another, and this is what they ask
abbrev pub ArePiecesOf : List Piece → List ℕ → List Item → Type 0
ArePiecesOf [] bytes items = (bytes ≡ []) × (items ≡ [])
ArePiecesOf (p ∷ ps) bytes items =
    (rest : List ℕ) × (more : List Item) × (bytes ≡ text_of p ++ rest) × (items ≡ p.asks ++ more)
    × IsPiece p × ArePiecesOf ps rest more

abbrev pub ArePieces : List ℕ → List Item → Type 0
ArePieces bytes items = (pieces : List Piece) × ArePiecesOf pieces bytes items

-- more bytes without a line feed than a line may have come first
pub record IsTooLong (bytes : List ℕ) : Type 0 where
  pub long : line_limit < length bytes
  pub no_feed : All (λ b. b ≢ 10) (take (line_limit + 1) bytes)

-- a line with its line feed, and fewer bytes behind it than belong to it
pub record IsInside (bytes : List ℕ) : Type 0 where
  pub line : List ℕ
  pub part : List ℕ
  pub count : ℕ
  pub is : bytes ≡ line ++ 10 ∷ part
  pub whole : IsLine line
  pub counted : Counts line count
  pub short : length part < count

-- a line without its line feed, with a body still to come
pub record IsBefore (bytes : List ℕ) : Type 0 where
  pub line : IsLine bytes
  pub count : ℕ
  pub counted : Counts bytes count
  pub some : 0 < count

-- how bytes end: well, inside a body or with a line too long that begins at this place, or so that it takes more bytes
-- to tell
pub data Ending : Type 0 where
  end : Ending
  cut_off : (offset : ℕ) → Ending
  unfinished : Ending

-- Bytes that begin at a place end so behind the last whole piece; `all` says that no bytes come behind them. The last line
-- needs no line feed.
pub data Ends (all : Bool) (at : ℕ) (bytes : List ℕ) (items : List Item) (ending : Ending) : Type 0 where
  long : IsTooLong bytes → items ≡ [] → ending ≡ cut_off at → Ends all at bytes items ending
  last : all ≡ true → IsLine bytes → Counts bytes 0 → Gives bytes [] items → ending ≡ end
      → Ends all at bytes items ending
  inside : all ≡ true → (IsInside bytes ⊎ IsBefore bytes) → items ≡ [] → ending ≡ cut_off at
      → Ends all at bytes items ending
  more : all ≡ false → (IsInside bytes ⊎ IsLine bytes) → items ≡ [] → ending ≡ unfinished
      → Ends all at bytes items ending

-- what bytes that begin at a place ask, and how they end
pub record Reads (all : Bool) (at : ℕ) (bytes : List ℕ) (items : List Item) (ending : Ending) : Type 0 where
  pub front : List ℕ
  pub back : List ℕ
  pub asked : List Item
  pub last : List Item
  pub split : bytes ≡ front ++ back
  pub told : items ≡ asked ++ last
  pub pieces : ArePieces front asked
  pub ends : Ends all (at + length front) back last ending

-- What the bytes of an input ask that are left behind so many, and how it ends; `unfinished` where it takes a byte past
-- the limit.
abbrev pub ReadsLeft : ℕ → List ℕ → List Item → Ending → Type 0
ReadsLeft at bytes items ending =
    ((at + length bytes ≤ input_limit) × Reads true at bytes items ending)
    ⊎ ((input_limit < at + length bytes) × Reads false at (take (input_limit - at) bytes) items ending)

-- what the bytes of a script ask, and how it ends
abbrev pub IsScript : List ℕ → List Item → Ending → Type 0
IsScript bytes items ending = ReadsLeft 0 bytes items ending

-- the bytes of a script ask these items first: its first pieces do, or all of it does
abbrev pub AsksFirst : List ℕ → List Item → Type 0
AsksFirst bytes items =
    ((used : List ℕ) × (rest : List ℕ) × (bytes ≡ used ++ rest)
    × (length used ≤ input_limit) × ArePieces used items)
    ⊎ IsScript bytes items end
