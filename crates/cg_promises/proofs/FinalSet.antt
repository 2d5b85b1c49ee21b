-- The members of a final set while its collection goes on: only members and releases hold them, they have no referent and no
-- weak reference refers to them, their finalizers have run, and they are no locals of frames. What a step must do to keep
-- this.
use Rattle.std.proofs.Common.{◌≡◌, ◌≢◌, refl, sym, ◌∙◌, ap, subst, ℕ, ◌<◌, ◌≤◌, Bool, true, false, inl, inr, ◌⊎◌, List, [], ◌∷◌, map, Option, Some, None, arith}
use Rattle.std.specs.Prelude.{◌==◌, ◌||◌, if◌then◌else◌, is_some}
use Rattle.std.specs.List.{list_any}
use Rattle.std.proofs.lemmas.Bool.{eqb-true}
use Rattle.cg_value.specs.declared.Val.{Val}
use Rattle.cg_value.specs.declared.Entry.{Entry}
use Rattle.cg_value.specs.declared.Place.{Place}
use Rattle.cg_value.specs.declared.Place.TheVariants.{Cand, Gen, Legacy, Untracked}
use Rattle.cg_value.specs.declared.KindCode.TheVariants.{Tuple}
use Rattle.cg_script.specs.declared.Script.{Script}
use Rattle.cg_graph.specs.Member.{Includes}
use Rattle.cg_graph.specs.Value.{references}
use Rattle.cg_graph.specs.Object.{Object, change, serials, with_place, with_referent}
use Rattle.cg_graph.specs.Holdings.{name_holdings}
use Rattle.cg_graph.proofs.Members.{either, or_right, Includes-map, Includes-map_cases}
use Rattle.cg_machine.specs.declared.event.Event.{Event}
use Rattle.cg_machine.specs.declared.event.Event.TheVariants.{BudgetSpent, Enter, Free}
use Rattle.cg_machine.specs.declared.event.FrameSpec.{FrameSpec}
use Rattle.cg_machine.specs.Program.{finalizer_of, legacy_of}
use Rattle.cg_machine.specs.World.{World, Activity, Framed, Dying, Death, Collecting, Collection, CollectPhase, Turns, Turn, AfterTurn, Ending}
use Rattle.cg_machine.specs.Holdings.{dying_holds, holds, is_collection, is_death_of}
use Rattle.cg_machine.specs.Frame.{Transition, Yields, start_frame}
use Rattle.cg_machine.specs.Weak.{loses_referent}
use Rattle.cg_machine.specs.Collect.{has_flag, save_all}
use Rattle.cg_laws.specs.Laws.{is_stop, named}
use Rattle.cg_laws.proofs.Starting.{begun_frame, starts_either}
use Rattle.cg_laws.proofs.Unreferred.{IsLater, some_later, none_later, still_later, lost_later}
use Rattle.cg_represents.proofs.Lists.{each_changed}

-- the phases after the second reachability pass
abbrev pub IsLate : CollectPhase → Type 0
IsLate Turns = Unit {0}
IsLate (Turn o) = Unit {0}
IsLate (AfterTurn o) = Unit {0}
IsLate Ending = Unit {0}
IsLate phase = ⊥

-- what an activity may do with members
abbrev pub Fits : List ℕ → Activity → Type 0
Fits members (Framed f) = (¬ Includes members f.subject) × ((g : ℕ) → f.function ≡ Some g → ¬ Includes members g)
Fits members (Dying d) = (n : ℕ) → Includes (dying_holds d.object d.phase) n → ¬ Includes members n
Fits members (Collecting c) = IsLate c.phase × (has_flag c.flags save_all ≡ false)
Fits members a = Unit {0}

-- an activity below the collection holds no member and is the death of none
pub record IsOutOf (members : List ℕ) (a : Activity) : Type 0 where
  pub holds_none : (n : ℕ) → Includes (holds a) n → ¬ Includes members n
  pub no_death : (d : Death) → a ≡ Dying d → ¬ Includes members d.object

abbrev pub ClearsIf : Bool → Type 0 → Type 0 → Type 0
ClearsIf true here under = here
ClearsIf false here under = under

abbrev pub Clears : List ℕ → List Activity → Type 0
Clears members [] = Unit {0}
Clears members (a ∷ below) = ClearsIf (is_collection a) ((b : Activity) → Includes below b → IsOutOf members b) (Clears members below)

-- A member has references only if it is a tuple, is dying, or has not had its turn.
abbrev pub IsBare : Object → Type 0
IsBare x = (n : ℕ) → ¬ Includes (references x.entries) n

abbrev pub NotAfter : List Activity → ℕ → Type 0
NotAfter stack o = (c : Collection) → Includes stack (Collecting c) → c.phase ≢ AfterTurn o

abbrev pub Excused : List Activity → Object → Type 0
Excused stack x = (x.code ≡ Tuple) ⊎ IsBare x ⊎ (list_any (is_death_of x.serial) stack ≡ true) ⊎ (x.place ≡ Cand) × NotAfter stack x.serial

pub record IsDone (script : Script) (x : Object) : Type 0 where
  pub refers_to_none : x.referent ≡ None
  pub ran : is_some (finalizer_of script x) ≡ true → x.finalized ≡ true
  pub no_legacy : legacy_of script x ≡ None
  pub not_aside : x.place ≢ Legacy

pub record Sealed (script : Script) (members : List ℕ) (objects : List Object) (names : List (Option Val)) (stack : List Activity) (next : ℕ) : Type 0 where
  pub made : (o : ℕ) → Includes members o → o < next
  pub above : (o : ℕ) → Includes members o → 1 < o
  pub unnamed : (o : ℕ) → Includes members o → ¬ Includes (name_holdings names) o
  pub entries : (y : Object) → Includes objects y → (o : ℕ) → Includes members o → Includes (references y.entries) o → Includes members y.serial
  pub referents : (y : Object) → Includes objects y → (o : ℕ) → Includes members o → y.referent ≢ Some o
  pub inside : (x : Object) → Includes objects x → Includes members x.serial → IsDone script x
  pub stack_fits : (a : Activity) → Includes stack a → Fits members a
  pub collecting : list_any is_collection stack ≡ true
  pub under : Clears members stack
  pub excused : (x : Object) → Includes objects x → Includes members x.serial → Excused stack x

-- a line names a member only to free it
abbrev pub TellsOut : List ℕ → List Event → Type 0
TellsOut members events = (event : Event) → Includes events event → (n : ℕ) → Includes (named event) n → Includes members n → event ≡ Free n

-- and is not a stop
abbrev pub TellsStill : List ℕ → List Event → Type 0
TellsStill members events = TellsOut members events × ((event : Event) → Includes events event → is_stop event ≡ false)

pub record Passes (script : Script) (members : List ℕ) (events : List Event) (after : World) : Type 0 where
  pub sealed : Sealed script members after.objects after.names after.stack after.next_serial
  pub lines : TellsStill members events

-- the same object, with no new finalizer to run and not made uncollectable
pub record IsLesser (x y : Object) : Type 0 where
  pub later : IsLater x y
  pub finalized : x.finalized ≡ true → y.finalized ≡ true
  pub place : y.place ≡ Legacy → x.place ≡ Legacy

pub same_lesser : {es : List Entry} {x : Object} → IsLesser x (record x { entries = es })
same_lesser = record { later = still_later; finalized = λ e. e; place = λ e. e }

-- entries that hold no member
abbrev pub IsClean : List ℕ → Object → Type 0
IsClean members y = (o : ℕ) → Includes members o → ¬ Includes (references y.entries) o

-- where an object comes from: it has no more references than before, or is no member and holds none, or is new
abbrev pub Lessens : Object → Object → Type 0
Lessens x y = (n : ℕ) → Includes (references y.entries) n → Includes (references x.entries) n

abbrev pub Fewer : Object → Object → Type 0
Fewer x y = Lessens x y × (x.place ≡ Cand → y.place ≡ Cand)

abbrev pub Comes : List ℕ → List Object → ℕ → Object → Type 0
Comes members before next y = ((x : Object) × Includes before x × IsLesser x y × (Fewer x y ⊎ (¬ Includes members x.serial) × IsClean members y))
    ⊎ (y.serial ≡ next) × IsClean members y × ((o : ℕ) → Includes members o → y.referent ≢ Some o)

-- the same, except for condemned objects
abbrev pub Loose : List ℕ → List Object → ℕ → Object → Type 0
Loose members before next y = ((x : Object) × Includes before x × IsLesser x y × (Lessens x y ⊎ (¬ Includes members x.serial) × IsClean members y))
    ⊎ (y.serial ≡ next) × IsClean members y × ((o : ℕ) → Includes members o → y.referent ≢ Some o)

pub loosen : (members : List ℕ) (before : List Object) (next : ℕ) (y : Object) → Comes members before next y → Loose members before next y
loosen members before next y (inl x) = inl (x.0, x.1, x.2, either x.3 (λ f. inl f.0) (λ c. inr c))
loosen members before next y (inr new) = inr new

-- the same for all, with no new ones
abbrev pub Shrinks : List Object → List Object → Type 0
Shrinks before after = (y : Object) → Includes after y → (x : Object) × Includes before x × IsLesser x y × Fewer x y

pub done_later : (script : Script) (x y : Object) → IsLesser x y → IsDone script x → IsDone script y
done_later script x y l h = record {
  refers_to_none = none_later x y l.later h.refers_to_none;
  ran = λ some. l.finalized (h.ran (ap (λ m. is_some m) (sym finalizer) ∙ some));
  no_legacy = legacy ∙ h.no_legacy;
  not_aside = λ e. h.not_aside (l.place e);
}
  where
    finalizer : finalizer_of script y ≡ finalizer_of script x
    finalizer = let c : y.code ≡ x.code = l.later.code in let k : y.class ≡ x.class = l.later.class in cc

    legacy : legacy_of script y ≡ legacy_of script x
    legacy = let c : y.code ≡ x.code = l.later.code in let k : y.class ≡ x.class = l.later.class in cc

pub record IsMeek (f : Object → Object) : Type 0 where
  pub lesser : (x : Object) → IsLesser x (f x)
  pub fewer : (x : Object) → Fewer x (f x)

pub if_shrinks : (f : Object → Object) → IsMeek f → (test : Object → Bool) (objects : List Object) → Shrinks objects (map (λ x. if test x then f x else x) objects)
if_shrinks f h test objects y m = let x = Includes-map_cases (λ x. if test x then f x else x) objects y m in
    let both : IsLesser x.0 y × Fewer x.0 y = subst (λ z. IsLesser x.0 z × Fewer x.0 z) x.2 (one (test x.0) x.0) in
    (x.0, x.1, both.0, both.1)
  where
    one : (b : Bool) (x : Object) → IsLesser x (if b then f x else x) × Fewer x (if b then f x else x)
    one true x = (h.lesser x, h.fewer x)
    one false x = (same_lesser, (λ n k. k, λ e. e))

pub change_shrinks : (f : Object → Object) → IsMeek f → (o : ℕ) (objects : List Object) → Shrinks objects (change f o objects)
change_shrinks f h o objects = if_shrinks f h (λ x. x.serial == o) objects

pub gen_apart : (g : ℕ) → Gen g ≢ Legacy
gen_apart g e = cc

pub untracked_apart : Untracked ≢ Legacy
untracked_apart e = cc

pub lost_shrinks : (weak : ℕ) (objects : List Object) → Shrinks objects (loses_referent weak objects)
lost_shrinks weak objects = change_shrinks (with_referent None)
    (record {
      lesser = λ x. record { later = lost_later; finalized = λ e. e; place = λ e. e };
      fewer = λ x. (λ n k. k, λ e. e);
    }) weak objects

pub none_out : (members : List ℕ) → TellsStill members []
none_out members = (λ event m. absurd m, λ event m. absurd m)

pub one_out : (members : List ℕ) (event : Event) → ((n : ℕ) → Includes (named event) n → Includes members n → event ≡ Free n) → TellsOut members (event ∷ [])
one_out members event h e (inl i) n m k = subst (λ x. x ≡ Free n) i (h n (subst (λ x. Includes (named x) n) (sym i) m) k)
one_out members event h e (inr none) n m k = absurd none

pub one_still : (members : List ℕ) (event : Event) → is_stop event ≡ false → ((n : ℕ) → Includes (named event) n → Includes members n → event ≡ Free n) → TellsStill members (event ∷ [])
one_still members event still h = (one_out members event h, λ e m. either m (λ i. subst (λ x. is_stop x ≡ false) i still) (λ none. absurd none))

pub shrunk : (members : List ℕ) (before after : List Object) {next : ℕ} → Shrinks before after → (y : Object) → Includes after y → Comes members before next y
shrunk members before after shrinks y m = let x = shrinks y m in inl (x.0, x.1, x.2, inl x.3)

pub all_same : (members : List ℕ) (objects : List Object) {next : ℕ} → (y : Object) → Includes objects y → Comes members objects next y
all_same members objects y m = inl (y, m, same_lesser, inl (λ n k. k, λ e. e))

module _ (script : Script) (members : List ℕ) where
  pub goes_sealed : {before after : List Object} {names now : List (Option Val)} (stack to : List Activity) {next later : ℕ} → next ≤ later
      → ((y : Object) → Includes after y → Loose members before next y) → ((o : ℕ) → Includes members o → ¬ Includes (name_holdings now) o)
      → ((a : Activity) → Includes to a → Fits members a) → list_any is_collection to ≡ true → (Clears members stack → Clears members to)
      → ((y : Object) → Includes after y → Includes members y.serial → Excused to y) → Sealed script members before names stack next
      → Sealed script members after now to later
  goes_sealed stack to {later = later} more comes unnamed fits collecting under excused h = record {
    made = λ o m. omega (arith, h.made o m, more);
    above = h.above;
    unnamed = unnamed;
    entries = λ y m o k r. either (comes y m)
        (λ x. either x.3 (λ fewer. subst (Includes members) (sym x.2.later.serial) (h.entries x.0 x.1 o k (fewer o r))) (λ clean. absurd (clean.1 o k r)))
        (λ new. absurd (new.1 o k r));
    referents = λ y m o k e. either (comes y m) (λ x. h.referents x.0 x.1 o k (some_later x.0 y x.2.later o e)) (λ new. new.2 o k e);
    inside = λ y m k. either (comes y m) (λ x. done_later script x.0 y x.2 (h.inside x.0 x.1 (subst (Includes members) x.2.later.serial k)))
        (λ new. let low = h.made y.serial k in absurd (let e = new.0 in omega (arith, low, e)));
    stack_fits = fits;
    collecting = collecting;
    under = under h.under;
    excused = excused;
  }

  -- an object that lost references or stays condemned is still excused
  pub still_excused : (stack to : List Activity) (x y : Object) → IsLesser x y → Lessens x y → (x.place ≡ Cand → NotAfter stack x.serial → Excused to y)
      → (list_any (is_death_of x.serial) stack ≡ true → list_any (is_death_of x.serial) to ≡ true) → Excused stack x → Excused to y
  still_excused stack to x y l fewer cand deaths (inl e) = inl (l.later.code ∙ e)
  still_excused stack to x y l fewer cand deaths (inr (inl bare)) = inr (inl (λ n k. bare n (fewer n k)))
  still_excused stack to x y l fewer cand deaths (inr (inr (inl e))) = inr (inr (inl (subst (λ s. list_any (is_death_of s) to ≡ true) (sym l.later.serial) (deaths e))))
  still_excused stack to x y l fewer cand deaths (inr (inr (inr w))) = cand w.0 w.1

  pub comes_excused : (before after : List Object) (names : List (Option Val)) (stack to : List Activity) (next : ℕ) → ((y : Object) → Includes after y
      → Comes members before next y) → ((n : ℕ) → NotAfter stack n → NotAfter to n)
      → ((n : ℕ) → Includes members n → list_any (is_death_of n) stack ≡ true → list_any (is_death_of n) to ≡ true) → Sealed script members before names stack
      next → (y : Object) → Includes after y → Includes members y.serial → Excused to y
  comes_excused before after names stack to next comes turns deaths h y m k = either (comes y m)
      (λ x. let inside = subst (Includes members) x.2.later.serial k in either x.3
      (λ fewer. still_excused stack to x.0 y x.2 fewer.0 (λ e w. inr (inr (inr (fewer.1 e, subst (NotAfter to) (sym x.2.later.serial) (turns x.0.serial w)))))
      (deaths x.0.serial inside) (h.excused x.0 x.1 inside))
      (λ clean. absurd (clean.0 inside)))
      (λ new. let low = h.made y.serial k in absurd (let e = new.0 in omega (arith, low, e)))

  -- objects lose references, and the stack goes on
  pub shrinks_sealed : {before after : List Object} {names : List (Option Val)} (stack to : List Activity) {next : ℕ} → ((y : Object) → Includes after y
      → Comes members before next y) → ((a : Activity) → Includes to a → Fits members a) → list_any is_collection to ≡ true → (Clears members stack
      → Clears members to)
      → ((n : ℕ) → NotAfter stack n → NotAfter to n) → ((n : ℕ) → Includes members n → list_any (is_death_of n) stack ≡ true → list_any (is_death_of n) to ≡ true)
      → Sealed script members before names stack next → Sealed script members after names to next
  shrinks_sealed {before = before} {after = after} {names = names} stack to {next = next} comes fits collecting under turns deaths h = goes_sealed stack to
      (omega arith) (λ y m. loosen members before next y (comes y m)) h.unnamed fits collecting under (comes_excused before after names stack to next comes
      turns deaths h) h

  -- an activity other than a collection is replaced or pushed
  not_after : (a b : Activity) (below : List Activity) → is_collection b ≡ false → (n : ℕ) → NotAfter (a ∷ below) n → NotAfter (b ∷ below) n
  not_after a b below none n h c m = either m (λ e. absurd (let no : false ≡ true = sym none ∙ ap is_collection e in cc)) (λ k. h c (inr k))

  pub turn_sealed : (a b : Activity) (below : List Activity) {before after : List Object} {names : List (Option Val)} {next : ℕ}
      → ((y : Object) → Includes after y → Comes members before next y) → Fits members b → is_collection a ≡ false → is_collection b ≡ false
      → ((n : ℕ) → Includes members n → is_death_of n a ≡ is_death_of n b)
      → Sealed script members before names (a ∷ below) next → Sealed script members after names (b ∷ below) next
  turn_sealed a b below {before = before} {after = after} {names = names} {next = next} comes fit none also same h = shrinks_sealed (a ∷ below) (b ∷ below) comes
      (λ x m. either m (λ e. subst (Fits members) e fit) (λ k. h.stack_fits x (inr k))) (subst (λ t. (t || list_any is_collection below) ≡ true) (none ∙ sym also) h.collecting)
      (λ k. subst (λ t. ClearsIf t ((d : Activity) → Includes below d → IsOutOf members d) (Clears members below)) (none ∙ sym also) k)
      (not_after a b below also) (λ n m e. subst (λ t. (t || list_any (is_death_of n) below) ≡ true) (same n m) e) h

  pub push_sealed : (a : Activity) {stack : List Activity} {objects : List Object} {names : List (Option Val)} {next : ℕ} → Fits members a → is_collection a
      ≡ false → Sealed script members objects names stack next → Sealed script members objects names (a ∷ stack) next
  push_sealed a {stack = stack} {objects = objects} {names = names} {next = next} fit none h = shrinks_sealed stack (a ∷ stack) (all_same members objects)
      (λ x m. either m (λ e. subst (Fits members) e fit) (h.stack_fits x)) (or_right (is_collection a) (list_any is_collection stack) h.collecting)
      (λ k. subst (λ t. ClearsIf t ((d : Activity) → Includes stack d → IsOutOf members d) (Clears members stack)) (sym none) k)
      (λ n w c m. either m (λ e. absurd (let no : false ≡ true = sym none ∙ ap is_collection e in cc)) (λ k. w c k)) (λ n m e. or_right (is_death_of n a) (list_any (is_death_of n) stack) e) h

  pub pop_sealed : (a : Activity) {below : List Activity} {before after : List Object} {names : List (Option Val)} {next : ℕ} → ((y : Object) → Includes after y
      → Comes members before next y) → is_collection a ≡ false → ((n : ℕ) → Includes members n → Includes (serials after) n → is_death_of n a ≡ false)
      → Sealed script members before names (a ∷ below) next → Sealed script members after names below next
  pop_sealed a {below = below} {before = before} {after = after} {names = names} {next = next} comes none apart h = goes_sealed (a ∷ below) below (omega arith)
      (λ y m. loosen members before next y (comes y m)) h.unnamed (λ x m. h.stack_fits x (inr m)) (subst (λ t. (t || list_any is_collection below) ≡ true) none
      h.collecting)
      (λ k. subst (λ t. ClearsIf t ((d : Activity) → Includes below d → IsOutOf members d) (Clears members below)) none k) excused h
    where
      excused : (y : Object) → Includes after y → Includes members y.serial → Excused below y
      excused y m k = either (comes y m)
          (λ x. let inside = subst (Includes members) x.2.later.serial k in either x.3
          (λ fewer. still_excused (a ∷ below) below x.0 y x.2 fewer.0 (λ e w. inr (inr (inr (fewer.1 e, λ c i. subst (λ s. c.phase ≢ AfterTurn s) (sym x.2.later.serial) (w c (inr i))))))
          (λ e. subst (λ t. (t || list_any (is_death_of x.0.serial) below) ≡ true) (apart x.0.serial inside (subst (Includes (serials after)) x.2.later.serial
          (Includes-map (λ (z : Object). z.serial) after y m))) e) (h.excused x.0 x.1 inside))
          (λ clean. absurd (clean.0 inside)))
          (λ new. let low = h.made y.serial k in absurd (let e = new.0 in omega (arith, low, e)))

  -- one object moves, and is excused for another reason
  pub place_sealed : (f : Object → Object) (o : ℕ) {objects : List Object} {names : List (Option Val)} {stack : List Activity} {next : ℕ}
      → ((x : Object) → IsLesser x (f x)) → ((x : Object) → (f x).entries ≡ x.entries)
      → ((x : Object) → Includes objects x → x.serial ≡ o → Includes members x.serial → Excused stack (f x)) → Sealed script members objects names stack next
      → Sealed script members (change f o objects) names stack next
  place_sealed f o {objects = objects} {names = names} {stack = stack} {next = next} lesser same other h = goes_sealed stack stack (omega arith) comes
      h.unnamed h.stack_fits h.collecting (λ k. k) excused h
    where
      lessens : (b : Bool) (x : Object) → IsLesser x (if b then f x else x) × Lessens x (if b then f x else x)
      lessens true x = (lesser x, λ n k. subst (λ es. Includes (references es) n) (same x) k)
      lessens false x = (same_lesser, λ n k. k)

      comes : (y : Object) → Includes (change f o objects) y → Loose members objects next y
      comes y m = let x = Includes-map_cases (λ x. if x.serial == o then f x else x) objects y m in subst (Loose members objects next) x.2
          (let l = lessens (x.0.serial == o) x.0 in inl (x.0, x.1, l.0, inl l.1))

      excused : (y : Object) → Includes (change f o objects) y → Includes members y.serial → Excused stack y
      excused = each_changed (λ z. Includes members z.serial → Excused stack z) f (λ x. x.serial == o) objects
          (λ x m t k. other x m (eqb-true x.serial o t) (subst (Includes members) (lesser x).later.serial k)) (λ x m t k. h.excused x m k)

  -- the changed objects are no members
  pub others_come : (f : Object → Object) (o : ℕ) {before : List Object} {names : List (Option Val)} {stack : List Activity} {next : ℕ}
      → ((x : Object) → IsLesser x (f x)) → ((x : Object) → (f x).entries ≡ x.entries) → (¬ Includes members o) → Sealed script members before names stack next
      → (y : Object) → Includes (change f o before) y → Comes members before next y
  others_come f o {before = before} {next = next} lesser same out h = each_changed (Comes members before next) f (λ x. x.serial == o) before
      (λ x k t.
      let away : ¬ Includes members x.serial = subst (λ n. ¬ Includes members n) (sym (eqb-true x.serial o t)) out in
      inl (x, k, lesser x, inr (away, λ p i r. away (h.entries x k p i (subst (λ es. Includes (references es) p) (same x) r)))))
      (λ x k t. inl (x, k, same_lesser, inl (λ n i. i, λ e. e)))

  pub placed_lesser : (p : Place) → p ≢ Legacy → (x : Object) → IsLesser x (with_place p x)
  placed_lesser p apart x = record { later = still_later; finalized = λ e. e; place = λ e. absurd (apart e) }

  pub starts_sealed : (spec : FrameSpec) (u : World) → (¬ Includes members spec.subject) → ((g : ℕ) → spec.func ≡ Some g → ¬ Includes members g)
      → Sealed script members u.objects u.names u.stack u.next_serial → (let s : Transition = start_frame script spec u in Passes script members s.0 s.1)
  starts_sealed spec u subject function h = starts_either (Passes script members) script spec u (record { sealed = h; lines = one_still members BudgetSpent refl (λ n m. absurd m) })
      (λ some. record {
        sealed = push_sealed (begun_frame script spec) (subject, function) refl h;
        lines = one_still members (Enter spec.sort spec.subject) refl (λ n m k. absurd (either m (λ e. subject (subst (Includes members) (sym e) k))
            (λ no. no)));
      })

  pub yields_sealed : (t : Transition) (events : List Event) (after : World) → Yields t events after → Passes script members t.0 t.1 → Passes script members events after
  yields_sealed t events after step h = subst (λ es. Passes script members es after) (sym step.0) (subst (Passes script members t.0) (sym step.1) h)
