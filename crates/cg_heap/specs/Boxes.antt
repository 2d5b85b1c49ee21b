-- What a contract sees of the six boxes: the bodies of each kind, in the order of the kinds. (Ours.)
use Rattle.std.specs.Prelude.{ℕ, List, slice_set, slice_index_or, refl}
use Rattle.std.specs.FinMap as fin
use Rattle.std.specs.Coded.{Coded, code_by, coded×, coded_ℕ, coded_list}
use Rattle.cg_value.specs.declared.Entry.{Entry}
use Rattle.cg_value.specs.contracts.Entry as entry
use Rattle.cg_value.specs.declared.KindCode.{KindCode}
use Rattle.cg_value.specs.declared.KindCode.TheVariants.{List as ListKind, Tuple, Dict, Inst, Func, Weak}
pub use Rattle.cg_kind.specs.Six.{six_kinds}
use Rattle.cg_kind.specs.Bodies.{Body, Bodies, Holds, body_of, entries_at, spare_at, with_body}

-- a body is stored as the pair of its parts
abbrev pub body_code : Coded Body
body_code =
    code_by
    (List Entry × ℕ)
    (coded× (coded_list entry.the_row.coded) coded_ℕ)
    (λ b. (b.entries, b.spare))
    (λ p. body_of p.0 p.1)
    (λ _. refl)

abbrev pub boxes_code : Coded (List Bodies)
boxes_code = coded_list (fin.code coded_ℕ body_code)

-- the index of a kind's box
abbrev pub code_index : KindCode → ℕ
code_index ListKind = 0
code_index Tuple = 1
code_index Dict = 2
code_index Inst = 3
code_index Func = 4
code_index Weak = 5

-- the bodies of a kind
abbrev pub bodies_at : List Bodies → KindCode → Bodies
bodies_at all code = slice_index_or all (code_index code) fin.empty

-- the boxes with other bodies for one kind
abbrev pub boxes_with : List Bodies → KindCode → Bodies → List Bodies
boxes_with all code bodies = slice_set all (code_index code) bodies

-- a place holds a body of the kind
abbrev pub HasBody : List Bodies → KindCode → ℕ → Type 0
HasBody all code at = Holds (bodies_at all code) at

-- its entries, and its spare capacity
abbrev pub entries_in_box : List Bodies → KindCode → ℕ → List Entry
entries_in_box all code at = entries_at (bodies_at all code) at

abbrev pub spare_in_box : List Bodies → KindCode → ℕ → ℕ
spare_in_box all code at = spare_at (bodies_at all code) at

-- one body with these entries and this spare capacity, all others unchanged
abbrev pub boxes_with_body : List Bodies → KindCode → ℕ → List Entry → ℕ → List Bodies
boxes_with_body all code at entries spare = boxes_with all code (with_body (bodies_at all code) at entries spare)

-- one body removed
abbrev pub boxes_without : List Bodies → KindCode → ℕ → List Bodies
boxes_without all code at = boxes_with all code (fin.remove (bodies_at all code) at)
