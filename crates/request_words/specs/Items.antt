-- What a request line asks with the bytes of its body: a request, or the first refusal that it meets.
use Rattle.std.specs.Prelude.{◌≡◌, ℕ, ◌<◌, ◌≤◌, ◌⊎◌, List, [], ◌∷◌, Err}
use Rattle.line_text.specs.Lines.{words_of}
use Rattle.request_model.specs.declared.replies.Refusal.TheVariants.{BadRequest, BadName, BadPenalty, BadLength, BodyTooLong}
use Rattle.request_words.specs.{Forms.{Form, IsOfForm, HasNoForm, body_length, IsNamed, IsInRange, HasLength}, Bodies.{Item, AsksNamed}}

-- the most bytes of a body
abbrev pub body_limit : ℕ
body_limit = 8_388_608

-- what a line of the form asks
pub data AsksForm (form : Form) (body : List ℕ) (item : Item) : Type 0 where
  long : body_limit < body_length form → item ≡ Err BodyTooLong → AsksForm form body item
  unnamed : body_length form ≤ body_limit → (¬ IsNamed form) → item ≡ Err BadName → AsksForm form body item
  wide : body_length form ≤ body_limit → IsNamed form → (¬ IsInRange form) → item ≡ Err BadPenalty → AsksForm form body item
  off : body_length form ≤ body_limit → IsNamed form → IsInRange form → (¬ HasLength form) → item ≡ Err BadLength → AsksForm form body item
  named : body_length form ≤ body_limit → IsNamed form → IsInRange form → HasLength form → AsksNamed form body item → AsksForm form body item

-- what a request line asks
pub data Asks (line body : List ℕ) (item : Item) : Type 0 where
  formless : HasNoForm line → item ≡ Err BadRequest → Asks line body item
  formed : (form : Form) → IsOfForm line form → AsksForm form body item → Asks line body item

-- the first byte is #, or there is no word
abbrev pub IsSkipped : List ℕ → Type 0
IsSkipped line = ((more : List ℕ) × (line ≡ 35 ∷ more)) ⊎ (words_of line ≡ [])

-- a line asks nothing where it is skipped, else one thing
abbrev pub Gives : List ℕ → List ℕ → List Item → Type 0
Gives line body items =
    (IsSkipped line × (items ≡ []))
    ⊎ ((¬ IsSkipped line) × (item : Item) × Asks line body item × (items ≡ item ∷ []))

-- so many bytes behind a line belong to it: those that its form counts, and none where it has no form
abbrev pub Counts : List ℕ → ℕ → Type 0
Counts line n =
    ((form : Form) × IsOfForm line form × (n ≡ body_length form)) ⊎ (HasNoForm line × (n ≡ 0))

-- a line asks one thing with its body
abbrev pub OneItem : Type 0
OneItem = (line body : List ℕ) (item other : Item) → Asks line body item → Asks line body other → item ≡ other
