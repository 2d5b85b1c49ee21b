-- Values whose strings are among the first texts of a script: what lists of entries, names and objects keep of that, and
-- what the commands of a script name.
use Rattle.std.proofs.Common.{◌≡◌, refl, sym, subst, ℕ, zero, suc, ◌<◌, ◌≤◌, Bool, true, false, inl, inr, List, [], ◌∷◌, ◌++◌, map, length, replicate, Option, Some, None}
use Rattle.std.specs.Prelude.{◌==◌, if◌then◌else◌, flat_map, option_map, unwrap_or}
use Rattle.std.specs.List.{All}
use Rattle.std.proofs.lemmas.List.Elements.{All-get_or, All-head, All-tail}
use Rattle.std.proofs.lemmas.Option.{unwrap_or-slice_get}
use Rattle.cg_value.specs.declared.Entry.{Entry}
use Rattle.cg_value.specs.declared.Val.{Val}
use Rattle.cg_value.specs.declared.Val.TheVariants.{Str}
use Rattle.cg_script.specs.declared.Script.{Script}
use Rattle.cg_script.specs.declared.Item.{Item}
use Rattle.cg_script.specs.declared.Item.TheVariants.{Class, Def, Run}
use Rattle.cg_script.specs.declared.Command.{Command}
use Rattle.cg_script.specs.Texts.{command_texts, item_texts, TextsAreKnown}
use Rattle.cg_graph.specs.Member.{Includes}
use Rattle.cg_graph.specs.Value.{item, same_value, put}
use Rattle.cg_graph.specs.Object.{Object, change, object_at, entries_of}
use Rattle.cg_graph.proofs.Members.{either, Includes-append_left, Includes-append_right, Includes-append_cases, Includes-map_cases}
use Rattle.cg_machine.specs.Program.{commands_of, procedures}
use Rattle.cg_machine.specs.World.{World}
use Rattle.cg_machine.specs.Lines.{IsPrintableValue}
use Rattle.cg_laws.specs.Origins.{all_commands}
use Rattle.cg_represents.proofs.Lists.{found_at}

-- a string of a value is one of the first n texts
abbrev pub HasText : ℕ → Val → Type 0
HasText n (Str s) = s < n
HasText n v = Unit {0}

-- so are the key and the value of an entry
pub record EntryHasTexts (n : ℕ) (e : Entry) : Type 0 where
  pub key : HasText n e.key
  pub val : HasText n e.val

abbrev pub HaveTexts : ℕ → List Entry → Type 0
HaveTexts n entries = (e : Entry) → Includes entries e → EntryHasTexts n e

abbrev pub ObjectsHaveTexts : ℕ → List Object → Type 0
ObjectsHaveTexts n objects = (x : Object) → Includes objects x → HaveTexts n x.entries

-- what names are bound to, and the entries of all objects
pub record AreTextsOf (n : ℕ) (bound : List (Option Val)) (present : List Object) : Type 0 where
  pub names : (v : Val) → Includes bound (Some v) → HasText n v
  pub objects : ObjectsHaveTexts n present

abbrev pub WorldHasTexts : ℕ → World → Type 0
WorldHasTexts n w = AreTextsOf n w.names w.objects

pub replicated_member : {X : Type 0} (n : ℕ) (y x : X) → Includes (replicate n y) x → y ≡ x
replicated_member zero y x m = absurd m
replicated_member (suc n) y x m = either m (λ e. e) (replicated_member n y x)

flat_member : {X Y : Type 0} (f : X → List Y) (xs : List X) (x : X) (y : Y) → Includes xs x → Includes (f x) y → Includes (flat_map f xs) y
flat_member f [] x y m k = absurd m
flat_member f (z ∷ xs) x y (inl e) k = Includes-append_left (f z) (flat_map f xs) y (subst (λ q. Includes (f q) y) (sym e) k)
flat_member f (z ∷ xs) x y (inr m) k = Includes-append_right (f z) (flat_map f xs) y (flat_member f xs x y m k)

all_member : {X : Type 0} (P : X → Type 0) (xs : List X) (x : X) → All P xs → Includes xs x → P x
all_member P [] x h m = absurd m
all_member P (y ∷ xs) x h (inl e) = subst P e (All-head P y xs h)
all_member P (y ∷ xs) x h (inr m) = all_member P xs x (All-tail P y xs h) m

-- If each text is short, such a value can be printed.
pub text_printable : (texts : List (List ℕ)) → All (λ text. length text ≤ 1024) texts → (v : Val) → HasText (length texts) v → IsPrintableValue texts v
text_printable texts short (Str s) h = (h, subst (λ text. length text ≤ 1024) (sym (unwrap_or-slice_get texts s [])) (All-get_or (λ text. length text ≤ 1024) texts s [] h short))
text_printable texts short v h = tt

module _ (n : ℕ) where
  pub item_texts_of : (v : Val) → HasText n v → EntryHasTexts n (item v)
  item_texts_of v h = record { key = tt; val = h }

  pub entries_item : (entries : List Entry) (v : Val) → HaveTexts n entries → HasText n v → HaveTexts n (entries ++ item v ∷ [])
  entries_item entries v h k e m = either (Includes-append_cases entries (item v ∷ []) e m) (h e) (λ l. either l (λ i. subst (EntryHasTexts n) i (item_texts_of v k)) (λ none. absurd none))

  pub entries_put : (entries : List Entry) (key v : Val) → HaveTexts n entries → HasText n key → HasText n v → HaveTexts n (put entries key v)
  entries_put [] key v h hk hv = λ e m. either m (λ same. subst (EntryHasTexts n) same (record { key = hk; val = hv })) (λ none. absurd none)
  entries_put (x ∷ entries) key v h hk hv = go (same_value x.key key) (entries_put entries key v (λ e m. h e (inr m)) hk hv)
    where
      go : (b : Bool) → HaveTexts n (put entries key v) → HaveTexts n (if b then record { key = x.key; val = v } ∷ entries else x ∷ put entries key v)
      go true rest e m = either m (λ same. subst (EntryHasTexts n) same (record { key = (h x (inl refl)).key; val = hv })) (λ k. h e (inr k))
      go false rest e m = either m (λ same. h e (inl same)) (rest e)

  pub entries_texts : (objects : List Object) (o : ℕ) → ObjectsHaveTexts n objects → HaveTexts n (entries_of objects o)
  entries_texts objects o h = go (object_at objects o) refl
    where
      go : (m : Option Object) → object_at objects o ≡ m → HaveTexts n (unwrap_or (option_map (λ (x : Object). x.entries) m) [])
      go None e = λ y k. absurd k
      go (Some x) e = h x (found_at objects o x e).0

  -- what a function does to the texts of an object
  abbrev pub KeepsTexts : (Object → Object) → Type 0
  KeepsTexts f = (x : Object) → HaveTexts n x.entries → HaveTexts n (f x).entries

  pub mapped_texts : (f : Object → Object) → KeepsTexts f → (objects : List Object) → ObjectsHaveTexts n objects → ObjectsHaveTexts n (map f objects)
  mapped_texts f keeps objects h y m = let x = Includes-map_cases f objects y m in subst (λ (z : Object). HaveTexts n z.entries) x.2 (keeps x.0 (h x.0 x.1))

  pub tested_texts : (f : Object → Object) → KeepsTexts f → (test : Object → Bool) (objects : List Object) → ObjectsHaveTexts n objects
      → ObjectsHaveTexts n (map (λ x. if test x then f x else x) objects)
  tested_texts f keeps test objects h = mapped_texts (λ x. if test x then f x else x) (λ x. go (test x) x) objects h
    where
      go : (b : Bool) (x : Object) → HaveTexts n x.entries → HaveTexts n (if b then f x else x).entries
      go true x k = keeps x k
      go false x k = k

  pub changed_texts : (f : Object → Object) → KeepsTexts f → (o : ℕ) (objects : List Object) → ObjectsHaveTexts n objects → ObjectsHaveTexts n (change f o objects)
  changed_texts f keeps o objects h = tested_texts f keeps (λ x. x.serial == o) objects h

-- The texts of each command of a script are among those of its items.
outside_text : (items : List Item) (command : Command) (t : ℕ) → Includes (commands_of items) command → Includes (command_texts command) t → Includes (flat_map item_texts items) t
outside_text [] command t m k = absurd m
outside_text (Class c ∷ items) command t m k = inr (outside_text items command t m k)
outside_text (Def p ∷ items) command t m k = Includes-append_right (item_texts (Def p)) (flat_map item_texts items) t (outside_text items command t m k)
outside_text (Run c ∷ items) command t (inl e) k = Includes-append_left (command_texts c) (flat_map item_texts items) t (subst (λ (q : Command). Includes (command_texts q) t) (sym e) k)
outside_text (Run c ∷ items) command t (inr m) k = Includes-append_right (command_texts c) (flat_map item_texts items) t (outside_text items command t m k)
outside_text (other ∷ items) command t m k = outside_text items command t m k

body_text : (items : List Item) (command : Command) (t : ℕ) → Includes (flat_map (λ p. p.body) (procedures items)) command → Includes (command_texts command) t → Includes (flat_map item_texts items) t
body_text [] command t m k = absurd m
body_text (Class c ∷ items) command t m k = inr (body_text items command t m k)
body_text (Def p ∷ items) command t m k = either (Includes-append_cases p.body (flat_map (λ q. q.body) (procedures items)) command m)
    (λ l. Includes-append_left (item_texts (Def p)) (flat_map item_texts items) t (inr (flat_member command_texts p.body command t l k)))
    (λ l. Includes-append_right (item_texts (Def p)) (flat_map item_texts items) t (body_text items command t l k))
body_text (Run c ∷ items) command t m k = Includes-append_right (command_texts c) (flat_map item_texts items) t (body_text items command t m k)
body_text (other ∷ items) command t m k = body_text items command t m k

-- a command names only texts below n
abbrev pub NamesTexts : ℕ → Command → Type 0
NamesTexts n command = (t : ℕ) → Includes (command_texts command) t → t < n

-- In a script that uses only its own texts, each command does.
pub commands_name_texts : (script : Script) → TextsAreKnown script → (command : Command) → Includes (all_commands script) command → NamesTexts (length script.names) command
commands_name_texts script known command m t k = all_member (λ i. i < length script.names) (flat_map item_texts script.items) t known
    (either (Includes-append_cases (commands_of script.items) (flat_map (λ p. p.body) (procedures script.items)) command m)
    (λ l. outside_text script.items command t l k) (λ l. body_text script.items command t l k))
