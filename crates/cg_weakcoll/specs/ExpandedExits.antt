-- The `finalize` lines of an extended script become exit finalizers of the script that its expansion spells. (Ours.)
use Rattle.std.specs.Prelude.{◌≡◌, ℕ, ◌+◌, true, false, List, [], ◌∷◌, None}
use Rattle.cg_script.specs.declared.item.Item.{Item}
use Rattle.cg_script.specs.Canonical.{name_of, procs_in, text_of}
use Rattle.cg_script.specs.Pieces.{lines_of, words_of, word_at}
use Rattle.cg_script.specs.Reading.{reading, spells}
use Rattle.cg_weakcoll.specs.Expansion.{exit_name, expansion, finalizes, first_bad, function_name, object_name, proc_name, watch_name}
use Rattle.cg_weakcoll.specs.Exits.{AreExits, Exit}
use Rattle.cg_weakcoll.specs.MapLines.{WordStandsFor}

-- an exit finalizer belongs to the `finalize` line with this number
pub record IsExitOf (texts : List (List ℕ)) (items : List Item) (l : ℕ) (line : List ℕ) (e : Exit) : Type 0 where
  pub proc_is : name_of texts (procs_in items) e.proc ≡ proc_name l
  pub object_is : text_of texts e.object ≡ object_name l
  pub exit_is : text_of texts e.exit ≡ exit_name l
  pub function_is : text_of texts e.function ≡ function_name l
  pub watch_is : text_of texts e.watch ≡ watch_name l
  pub target_is : WordStandsFor texts (word_at (words_of line) 1) e.target
  pub source_is : WordStandsFor texts (word_at (words_of line) 2) e.source

-- these belong to the `finalize` lines among some lines, in order, where the first line has this number
pub data AreExitsOf (texts : List (List ℕ)) (items : List Item) : ℕ → List (List ℕ) → List Exit → Type 0 where
  NoLine : (l : ℕ) → AreExitsOf texts items l [] []
  Finalizes : (l : ℕ) (line : List ℕ) (lines : List (List ℕ)) (e : Exit) (exits : List Exit) → finalizes line ≡ true → IsExitOf texts items l line e
      → AreExitsOf texts items (l + 1) lines exits → AreExitsOf texts items l (line ∷ lines) (e ∷ exits)
  Other : (l : ℕ) (line : List ℕ) (lines : List (List ℕ)) (exits : List Exit) → finalizes line ≡ false → AreExitsOf texts items (l + 1) lines exits → AreExitsOf texts items l (line ∷ lines) exits

-- a script has the exit finalizers of these lines
pub record HasExitsOf (texts : List (List ℕ)) (items : List Item) (lines : List (List ℕ)) : Type 0 where
  pub exits : List Exit
  pub of_lines : AreExitsOf texts items 1 lines exits
  pub are : AreExits (record { names = texts; items = items }) exits

-- In the script that an expansion spells, each `finalize` line has its exit finalizer.
abbrev pub ExpandedExitsAreThere : Type 0
ExpandedExitsAreThere = (bytes : List ℕ) → first_bad bytes ≡ None → (texts : List (List ℕ)) (items : List Item) → reading (expansion bytes) ≡ spells texts items
    → HasExitsOf texts items (lines_of bytes)
