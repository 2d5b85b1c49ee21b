-- The table of forms: for each command and each declaration its word, the number of its words, and what each place requires.
-- (Ours.)
use Rattle.std.specs.Prelude.{ℕ, List, [], ◌∷◌, ◌++◌, Bool, true, false, map, codes, slice_index_or}
use Rattle.cg_script.specs.declared.form.Form.{Form}
use Rattle.cg_script.specs.declared.form.Form.TheVariants as forms
use Rattle.cg_script.specs.declared.form.FormRow.{FormRow as CodeRow}
use Rattle.cg_script.specs.declared.form.Sort.{Sort}
use Rattle.cg_script.specs.declared.form.Sort.TheVariants.{Key, Variable, Name, Class, Proc, Finalizer, Value, Number, Profile, Budget, Count, Flag}

-- What a form requires: its word, whether that word is reserved, the sorts of its first places, and the least and the
-- greatest number of its words. Further places take values.
pub record FormRow : Type 0 where
  pub word : List ℕ
  pub reserved : Bool
  pub places : List Sort
  pub fewest : ℕ
  pub most : ℕ

-- a row, with its least and greatest number of words
abbrev pub asks : List ℕ → Bool → List Sort → ℕ → ℕ → FormRow
asks word reserved places fewest most = record { word = word; reserved = reserved; places = places; fewest = fewest; most = most }

-- a row with a reserved word
abbrev pub takes : List ℕ → List Sort → ℕ → ℕ → FormRow
takes word places fewest most = asks word true places fewest most

-- what the code has as a row
abbrev pub row_seen : CodeRow → FormRow
row_seen r = asks r.word.now r.reserved r.places.now r.fewest r.most

-- one row for each form; a line `x = v` has no word
abbrev pub row : Form → FormRow
row forms.MakeList = takes (codes "list") (Variable ∷ Key ∷ Key ∷ []) 3 64
row forms.MakeTuple = takes (codes "tuple") (Variable ∷ Key ∷ Key ∷ []) 4 64
row forms.MakeDict = takes (codes "dict") (Variable ∷ Key ∷ Key ∷ []) 3 3
row forms.MakeInst = takes (codes "new") (Variable ∷ Key ∷ Key ∷ Class ∷ []) 4 4
row forms.MakeFunc = takes (codes "func") (Variable ∷ Key ∷ Key ∷ Proc ∷ []) 4 12
row forms.MakeRef = takes (codes "ref") (Variable ∷ Key ∷ Key ∷ Value ∷ Value ∷ []) 4 5
row forms.Bind = asks [] false (Variable ∷ Key ∷ Value ∷ []) 3 3
row forms.Del = takes (codes "del") (Key ∷ Variable ∷ []) 2 2
row forms.Append = takes (codes "append") (Key ∷ Value ∷ Value ∷ []) 3 3
row forms.SetItem = takes (codes "setitem") (Key ∷ Value ∷ Number ∷ Value ∷ []) 4 4
row forms.DelItem = takes (codes "delitem") (Key ∷ Value ∷ Number ∷ []) 3 3
row forms.Put = takes (codes "put") (Key ∷ Value ∷ Value ∷ Value ∷ []) 4 4
row forms.Remove = takes (codes "drop") (Key ∷ Value ∷ Value ∷ []) 3 3
row forms.SetAttr = takes (codes "setattr") (Key ∷ Value ∷ Name ∷ Value ∷ []) 4 4
row forms.DelAttr = takes (codes "delattr") (Key ∷ Value ∷ Name ∷ []) 3 3
row forms.Item = takes (codes "item") (Variable ∷ Key ∷ Key ∷ Value ∷ Number ∷ []) 5 5
row forms.Get = takes (codes "get") (Variable ∷ Key ∷ Key ∷ Value ∷ Value ∷ []) 5 5
row forms.Attr = takes (codes "attr") (Variable ∷ Key ∷ Key ∷ Value ∷ Name ∷ []) 5 5
row forms.Deref = takes (codes "deref") (Variable ∷ Key ∷ Key ∷ Value ∷ []) 4 4
row forms.Call = takes (codes "call") (Key ∷ Value ∷ []) 2 2
row forms.Quit = takes (codes "quit") (Key ∷ Value ∷ []) 2 2
row forms.Collect = takes (codes "collect") (Key ∷ Number ∷ []) 1 2
row forms.Enable = takes (codes "enable") (Key ∷ []) 1 1
row forms.Disable = takes (codes "disable") (Key ∷ []) 1 1
row forms.Threshold = takes (codes "threshold") (Key ∷ Count ∷ Count ∷ Count ∷ []) 2 4
row forms.Flags = takes (codes "debug") (Key ∷ Flag ∷ Flag ∷ Flag ∷ Flag ∷ Flag ∷ []) 1 6
row forms.Freeze = takes (codes "freeze") (Key ∷ []) 1 1
row forms.Unfreeze = takes (codes "unfreeze") (Key ∷ []) 1 1
row forms.Print = takes (codes "print") (Key ∷ Value ∷ []) 2 2
row forms.Refs = takes (codes "refs") (Key ∷ Value ∷ []) 2 2
row forms.Tracked = takes (codes "tracked") (Key ∷ Value ∷ []) 2 2
row forms.Finalized = takes (codes "finalized") (Key ∷ Value ∷ []) 2 2
row forms.Referents = asks (codes "referents") false (Key ∷ Value ∷ []) 2 2
row forms.Referrers = asks (codes "referrers") false (Key ∷ Value ∷ []) 2 2
row forms.Why = asks (codes "why") false (Key ∷ Variable ∷ []) 2 2
row forms.Count = takes (codes "count") (Key ∷ []) 1 1
row forms.Gens = takes (codes "gens") (Key ∷ []) 1 1
row forms.Profile = asks (codes "profile") false (Key ∷ Profile ∷ []) 2 2
row forms.Shutdown = asks (codes "shutdown") false (Key ∷ []) 1 1
row forms.Budget = takes (codes "budget") (Key ∷ Budget ∷ []) 2 2
row forms.Class = takes (codes "class") (Key ∷ Name ∷ Finalizer ∷ Finalizer ∷ []) 2 4
row forms.Def = takes (codes "def") (Key ∷ Name ∷ []) 2 2
row forms.End = takes (codes "end") (Key ∷ []) 1 1

-- the sort of a place, counting from 0
abbrev pub sort_at : Form → ℕ → Sort
sort_at form place = slice_index_or (row form).places place Value

-- the word of a form
abbrev pub word_of : Form → List ℕ
word_of form = (row form).word

-- the forms of lines `x = ..` selected by a third word; any other such line binds a value
abbrev pub binding_forms : List Form
binding_forms = forms.MakeList ∷ forms.MakeTuple ∷ forms.MakeDict ∷ forms.MakeInst ∷ forms.MakeFunc ∷ forms.MakeRef ∷ forms.Item ∷ forms.Get
    ∷ forms.Attr ∷ forms.Deref ∷ []

-- the forms of the other lines, selected by the first word
abbrev pub opening_forms : List Form
opening_forms = forms.Del ∷ forms.Append ∷ forms.SetItem ∷ forms.DelItem ∷ forms.Put ∷ forms.Remove ∷ forms.SetAttr ∷ forms.DelAttr ∷ forms.Call
    ∷ forms.Quit ∷ forms.Collect ∷ forms.Enable ∷ forms.Disable ∷ forms.Threshold ∷ forms.Flags ∷ forms.Freeze ∷ forms.Unfreeze ∷ forms.Print
    ∷ forms.Refs ∷ forms.Tracked ∷ forms.Finalized ∷ forms.Referents ∷ forms.Referrers ∷ forms.Why ∷ forms.Count ∷ forms.Gens
    ∷ forms.Profile ∷ forms.Shutdown ∷ forms.Budget ∷ forms.Class ∷ forms.Def ∷ forms.End ∷ []

-- forms by their words
abbrev pub by_words : List Form → List (List ℕ × Form)
by_words these = map (λ form. (word_of form, form)) these

unfoldable pub bindings : List (List ℕ × Form)
bindings = by_words binding_forms

unfoldable pub openers : List (List ℕ × Form)
openers = by_words opening_forms

-- all forms that a word selects
abbrev pub worded_forms : List Form
worded_forms = binding_forms ++ opening_forms

unfoldable pub words_of_forms : List (List ℕ × Form)
words_of_forms = by_words worded_forms

-- whether a form is a line `x = ..` selected by a third word
abbrev pub binds : Form → Bool
binds forms.MakeList = true
binds forms.MakeTuple = true
binds forms.MakeDict = true
binds forms.MakeInst = true
binds forms.MakeFunc = true
binds forms.MakeRef = true
binds forms.Item = true
binds forms.Get = true
binds forms.Attr = true
binds forms.Deref = true
binds form = false
