-- What a type says of the table that it keeps.
use Rattle.std.{proofs.Common.{◌≡◌, ℕ, ℤ, List, Option, Some, None, sym, ap, ap₂, subst, ◌∙◌}, proofs.Math.Logic.∥∥₁_elim, specs.Prelude.IfSome}
use denote.Struct.Props.{props}
use Rattle.segment_model.specs.Values.{values_by_position}
use Rattle.pelt_core.specs.{Done.Done, Seen.{Tabled, table_of}}
use Rattle.publication_index.specs.Standing.{IsTableFor, IsKeptTable}

-- a table of these positions, this penalty and this length
pub same-table : (t : Tabled) (ps : List (List ℤ)) (b : ℤ) (len : ℕ) → t.positions ≡ ps → t.penalty ≡ b → t.length ≡ len → t ≡ table_of ps b len
same-table t ps b len positions penalty long = ap₂ (λ (xs : List (List ℤ)) (y : ℤ). table_of xs y t.length) positions penalty ∙ ap (table_of ps b) long

pub stands-for : (done : Done) (table : Option Tabled) → ∥ IsTableFor done table ∥₁ → IsTableFor done table
stands-for done None s = tt
stands-for done (Some t) s =
    same-table t (values_by_position done.points) done.cert.penalty done.cert.length
    (∥∥₁_elim s (search props) (λ x. ap (λ (u : Tabled). u.positions) x))
    (∥∥₁_elim s (search props) (λ x. ap (λ (u : Tabled). u.penalty) x))
    (∥∥₁_elim s (search props) (λ x. ap (λ (u : Tabled). u.length) x))

-- the table of a segmentation is that of one that is kept, where it is kept
pub kept-table : (done : Done) (o : Option Done) → o ≡ Some done → (table : Option Tabled) → IsTableFor done table → IfSome table (λ t. IsKeptTable t o)
kept-table done o is None stands = tt
kept-table done o is (Some t) stands = subst (λ (d : Option Done). IsKeptTable t d) (sym is) stands
