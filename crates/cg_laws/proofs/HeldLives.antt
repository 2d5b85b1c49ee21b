-- Whatever is held lives, and a weak reference that waits for its callback has one: an invariant of runs, and the moves that
-- make up steps.
use Rattle.std.proofs.Common.{◌≡◌, ◌≢◌, refl, sym, ◌∙◌, ap, subst, ℕ, ◌+◌, ◌≤◌, Bool, true, false, cond, not, inl, inr, ◌⊎◌, List, [], ◌∷◌, ◌++◌, map, Option, Some, None, arith}
use Rattle.std.specs.Prelude.{◌==◌, if◌then◌else◌, flat_map}
use Rattle.std.proofs.lemmas.Bool.{eqb-true, ne_eqb}
use Rattle.cg_value.specs.declared.Entry.{Entry}
use Rattle.cg_value.specs.declared.Val.{Val}
use Rattle.cg_value.specs.declared.KindCode.TheVariants.{List as ListKind, Weak}
use Rattle.cg_graph.specs.Member.{Includes}
use Rattle.cg_graph.specs.Value.{references}
use Rattle.cg_graph.specs.Object.{Object, change, without, serials, with_entries}
use Rattle.cg_graph.specs.Holdings.{name_holdings, occurrences}
use Rattle.cg_graph.proofs.Members.{either, Includes-append_left, Includes-append_right, Includes-append_cases, Includes-map, Includes-map_cases, Includes-filter, Includes-filter_cases}
use Rattle.cg_graph.proofs.Objects.{occurrences-append}
use Rattle.cg_machine.specs.World.{Activity, Dying, Collecting, Death, DyingPhase, Clearing, Calling, AfterCall, Collection, CollectPhase, WeakClearing, WeakCalling, AfterCallback, AfterRelease, Turn}
use Rattle.cg_machine.specs.Holdings.{holds, dying_holds, collect_holds}
use Rattle.cg_machine.specs.Weak.{callback_in, is_function}
use Rattle.cg_machine.specs.Collect.{is_condemned}
use Rattle.cg_represents.specs.Orderly.{death_waits, collection_waits, waits_of, all_waits, IsWaiting, HasFunction}
use Rattle.cg_represents.proofs.Lists.{occurrences-cons, no_times, each_changed}
use Rattle.cg_laws.proofs.Unreferred.{IsLater, Alters, later_refl, if_alters, entries_alter, lives_after, some_later, none_later, still_later}

-- a collection clears weak references
abbrev pub IsClearingPhase : CollectPhase → Type 0
IsClearingPhase (WeakClearing waiting) = Unit {0}
IsClearingPhase phase = ⊥

abbrev pub IsClearing : List Activity → Type 0
IsClearing (Collecting c ∷ below) = IsClearingPhase c.phase
IsClearing stack = ⊥

-- A condemned object may have a referent while the collection clears weak references; afterwards only if it has no
-- callback.
abbrev pub MayRefer : List Entry → List Activity → Type 0
MayRefer entries stack = IsClearing stack ⊎ (callback_in entries ≡ None)

-- no callback of an object is to come
abbrev pub CallsNone : Object → Type 0
CallsNone x = (x.referent ≡ None) ⊎ (callback_in x.entries ≡ None)

pub record Orderly (objects : List Object) (names : List (Option Val)) (stack : List Activity) : Type 0 where
  pub names_live : (o : ℕ) → Includes (name_holdings names) o → Includes (serials objects) o
  pub root_lives : Includes (serials objects) 1
  pub entries_live : (x : Object) → Includes objects x → (o : ℕ) → Includes (references x.entries) o → Includes (serials objects) o
  pub stack_lives : (o : ℕ) → Includes (flat_map holds stack) o → Includes (serials objects) o
  pub deaths_live : (d : Death) → Includes stack (Dying d) → Includes (serials objects) d.object
  pub callbacks : (x : Object) → Includes objects x → x.code ≡ Weak → (f : ℕ) → Includes (references x.entries) f → HasFunction objects f
  pub codes : (x : Object) → Includes objects x → (r : ℕ) → x.referent ≡ Some r → x.code ≡ Weak
  pub garbage : (x : Object) → Includes objects x → x.serial ≡ 1 → x.code ≡ ListKind
  pub waiting : (weak : ℕ) → Includes (all_waits stack) weak → (x : Object) → Includes objects x → x.serial ≡ weak → IsWaiting x
  pub once : (weak : ℕ) → occurrences weak (all_waits stack) ≤ 1
  pub condemned : (x : Object) → Includes objects x → is_condemned x ≡ true → (¬ Includes (all_waits stack) x.serial) × ((x.referent ≡ None) ⊎ MayRefer x.entries stack)
  pub turns : (c : Collection) → Includes stack (Collecting c) → (o : ℕ) → c.phase ≡ Turn o → (¬ Includes (all_waits stack) o) × ((x : Object) → Includes objects x → x.serial ≡ o → CallsNone x)

pub record From (before : List Object) (stack : List Activity) (y : Object) : Type 0 where
  pub was : Object
  pub member : Includes before was
  pub later : IsLater was y
  pub same : Includes (all_waits stack) y.serial → callback_in y.entries ≡ callback_in was.entries
  pub live : (f : ℕ) → Includes (references y.entries) f → Includes (serials before) f
  pub fewer : y.code ≡ Weak → (f : ℕ) → Includes (references y.entries) f → Includes (references was.entries) f
  pub quiet : y.code ≡ Weak → callback_in was.entries ≡ None → callback_in y.entries ≡ None
  pub condemned : is_condemned y ≡ true → (is_condemned was ≡ true) ⊎ IsClearing stack × (¬ Includes (all_waits stack) y.serial)

function_after : (before after : List Object) → Alters before after → (f : ℕ) → HasFunction before f → HasFunction after f
function_after before after a f z =
    let y = a.lasts z.0 z.1 in
    let code : y.0.code ≡ z.0.code = y.2.code in
    let same : is_function y.0 ≡ is_function z.0 = cc in
    (y.0, y.1, y.2.serial ∙ z.2, same ∙ z.3)

pub objects_orderly : (before after : List Object) (names : List (Option Val)) (stack : List Activity) → Alters before after → ((y : Object) → Includes after y
    → From before stack y) → Orderly before names stack → Orderly after names stack
objects_orderly before after names stack alters from h = record {
  names_live = λ o m. lives o (h.names_live o m);
  root_lives = lives 1 h.root_lives;
  entries_live = λ y m o k. lives o ((from y m).live o k);
  stack_lives = λ o m. lives o (h.stack_lives o m);
  deaths_live = λ d m. lives d.object (h.deaths_live d m);
  callbacks = λ y m e f k. let x = from y m in function_after before after alters f (h.callbacks x.was x.member (sym x.later.code ∙ e) f (x.fewer e f k));
  codes = λ y m r e. let x = from y m in x.later.code ∙ h.codes x.was x.member r (some_later x.was y x.later r e);
  garbage = λ y m e. let x = from y m in x.later.code ∙ h.garbage x.was x.member (sym x.later.serial ∙ e);
  waiting = λ weak k y m e.
      let x = from y m in
      let was = h.waiting weak k x.was x.member (sym x.later.serial ∙ e) in
      record { code = x.later.code ∙ was.code; referent = none_later x.was y x.later was.referent; callback = λ n. was.callback (sym (x.same (subst (Includes (all_waits stack)) (sym e) k)) ∙ n) };
  once = h.once;
  condemned = λ y m e. let x = from y m in either (x.condemned e) (λ k. let was = h.condemned x.was x.member k
      in (λ n. was.0 (subst (Includes (all_waits stack)) x.later.serial n), either was.1 (λ n. inl (none_later x.was y x.later n)) (λ r. still_may y x r))) (λ
      k. (k.1, inr (inl k.0)));
  turns = λ c m o e. let t = h.turns c m o e in (
    t.0,
    λ y k i. let x = from y k in either (t.1 x.was x.member (sym x.later.serial ∙ i))
        (λ n. inl (none_later x.was y x.later n)) (λ n. calls_none y x n),
  );
}
  where
    lives : (o : ℕ) → Includes (serials before) o → Includes (serials after) o
    lives o m = lives_after before after alters o m

    calls_none : (y : Object) (x : From before stack y) → callback_in x.was.entries ≡ None → CallsNone y
    calls_none y x n = go y.referent refl
      where
        go : (r : Option ℕ) → y.referent ≡ r → CallsNone y
        go None e = inl e
        go (Some r) e = inr (x.quiet (x.later.code ∙ h.codes x.was x.member r (some_later x.was y x.later r e)) n)

    still_may : (y : Object) (x : From before stack y) → MayRefer x.was.entries stack → (y.referent ≡ None) ⊎ MayRefer y.entries stack
    still_may y x (inl clearing) = inr (inl clearing)
    still_may y x (inr t) = either (calls_none y x t) (λ e. inl e) (λ e. inr (inr e))

pub from_same : (objects : List Object) (stack : List Activity) (names : List (Option Val)) (x y : Object) → Orderly objects names stack → Includes objects x
    → IsLater x y → y.entries ≡ x.entries → (is_condemned y ≡ true → (is_condemned x ≡ true) ⊎ IsClearing stack × (¬ Includes (all_waits stack) y.serial))
    → From objects stack y
from_same objects stack names x y h m later entries condemned = record {
  was = x;
  member = m;
  later = later;
  same = λ k. ap callback_in entries;
  live = λ f k. h.entries_live x m f (subst (λ es. Includes (references es) f) entries k);
  fewer = λ e f k. subst (λ es. Includes (references es) f) entries k;
  quiet = λ e n. ap callback_in entries ∙ n;
  condemned = condemned;
}

pub if_orderly : (f : Object → Object) (test : Object → Bool) {objects : List Object} {names : List (Option Val)} {stack : List Activity}
    → ((x : Object) → IsLater x (f x)) → ((x : Object) → (f x).entries ≡ x.entries)
    → ((x : Object) → Includes objects x → test x ≡ true → is_condemned (f x) ≡ true → (is_condemned x ≡ true) ⊎ IsClearing stack
    × (¬ Includes (all_waits stack) x.serial)) → Orderly objects names stack
    → Orderly (map (λ x. if test x then f x else x) objects) names stack
if_orderly f test {objects = objects} {names = names} {stack = stack} later entries condemned h = objects_orderly objects (map (λ x. if test x then f x else x) objects) names stack (if_alters f later test objects)
    (each_changed (From objects stack) f test objects (λ x m e. from_same objects stack names x (f x) h m (later x) (entries x) (λ k. subst (λ s. (is_condemned x ≡ true)
    ⊎ IsClearing stack × (¬ Includes (all_waits stack) s)) (sym (later x).serial) (condemned x m e k))) (λ x m e. from_same objects stack names x x h m (later_refl x) refl (λ k. inl k))) h

-- Its new entries are old ones, or live if it is no weak reference.
pub entries_orderly : (s : ℕ) (es : List Entry) {objects : List Object} {names : List (Option Val)} {stack : List Activity} → (¬ Includes (all_waits stack) s)
    → ((f : ℕ) → Includes (references es) f → Includes (serials objects) f)
    → ((x : Object) → Includes objects x → x.serial ≡ s → x.code ≡ Weak → (f : ℕ) → Includes (references es) f → Includes (references x.entries) f)
    → ((x : Object) → Includes objects x → x.serial ≡ s → x.code ≡ Weak → callback_in x.entries ≡ None → callback_in es ≡ None)
    → Orderly objects names stack → Orderly (change (with_entries es) s objects) names stack
entries_orderly s es {objects = objects} {names = names} {stack = stack} apart live fewer quiet h = objects_orderly objects (change (with_entries es) s objects) names stack (entries_alter es s objects)
    (each_changed (From objects stack) (with_entries es) (λ x. x.serial == s) objects (λ x m e. record {
      was = x;
      member = m;
      later = still_later;
      same = λ k. absurd (apart (subst (Includes (all_waits stack)) (eqb-true x.serial s e) k));
      live = live;
      fewer = λ w. fewer x m (eqb-true x.serial s e) w;
      quiet = λ w. quiet x m (eqb-true x.serial s e) w;
      condemned = λ k. inl k;
    }) (λ x m e. from_same objects stack names x x h m (later_refl x) refl (λ k. inl k))) h

-- Something that waits for nothing goes on top.
pub push_orderly : (a : Activity) {objects : List Object} {names : List (Option Val)} {stack : List Activity} → waits_of a ≡ [] → (IsClearing stack → ⊥)
    → ((o : ℕ) → Includes (holds a) o → Includes (serials objects) o)
    → ((d : Death) → a ≡ Dying d → Includes (serials objects) d.object) → ((c : Collection) (o : ℕ) → a ≡ Collecting c → c.phase ≢ Turn o)
    → Orderly objects names stack → Orderly objects names (a ∷ stack)
push_orderly a {stack = stack} none still held death turn h = record {
  names_live = h.names_live;
  root_lives = h.root_lives;
  entries_live = h.entries_live;
  stack_lives = λ o m. either (Includes-append_cases (holds a) (flat_map holds stack) o m) (held o) (h.stack_lives o);
  deaths_live = λ d m. either m (death d) (h.deaths_live d);
  callbacks = h.callbacks;
  codes = h.codes;
  garbage = h.garbage;
  waiting = λ weak m. h.waiting weak (subst (λ ws. Includes ws weak) same m);
  once = λ weak. subst (λ ws. occurrences weak ws ≤ 1) (sym same) (h.once weak);
  condemned = λ x m e. let k = h.condemned x m e in (λ n. k.0 (subst (λ ws. Includes ws x.serial) same n), either k.1 (λ n. inl n) (λ r. either r (λ n. absurd (still n)) (λ t. inr (inr t))));
  turns = λ c m o e. either m (λ i. absurd (turn c o i e)) (λ k. let t = h.turns c k o e in (λ n. t.0 (subst (λ ws. Includes ws o) same n), t.1));
}
  where
    same : all_waits (a ∷ stack) ≡ all_waits stack
    same = ap (λ ws. ws ++ all_waits stack) none

pub pop_orderly : (a : Activity) {objects : List Object} {names : List (Option Val)} {below : List Activity} → (IsClearing (a ∷ below) → ⊥)
    → Orderly objects names (a ∷ below) → Orderly objects names below
pop_orderly a {below = below} still h = record {
  names_live = h.names_live;
  root_lives = h.root_lives;
  entries_live = h.entries_live;
  stack_lives = λ o m. h.stack_lives o (Includes-append_right (holds a) (flat_map holds below) o m);
  deaths_live = λ d m. h.deaths_live d (inr m);
  callbacks = h.callbacks;
  codes = h.codes;
  garbage = h.garbage;
  waiting = λ weak m. h.waiting weak (later weak m);
  once = λ weak. let all = h.once weak in omega (arith, all, occurrences-append weak (waits_of a) (all_waits below));
  condemned = λ x m e. let k = h.condemned x m e in (λ n. k.0 (later x.serial n), either k.1 (λ n. inl n) (λ r. either r (λ n. absurd (still n)) (λ t. inr (inr t))));
  turns = λ c m o e. let t = h.turns c (inr m) o e in (λ n. t.0 (later o n), t.1);
}
  where
    later : (weak : ℕ) → Includes (all_waits below) weak → Includes (all_waits (a ∷ below)) weak
    later weak m = Includes-append_right (waits_of a) (all_waits below) weak m

-- What waits after a turn of the top waited before, except perhaps one more.
pub record TurnsTo (a b : Activity) (objects : List Object) (below : List Activity) : Type 0 where
  pub held : (o : ℕ) → Includes (holds b) o → Includes (serials objects) o
  pub death : (d : Death) → b ≡ Dying d → Includes (serials objects) d.object
  pub waits : (weak : ℕ) → Includes (waits_of b) weak → Includes (waits_of a) weak ⊎ (¬ Includes (all_waits (a ∷ below)) weak)
      × ((x : Object) → Includes objects x → x.serial ≡ weak → IsWaiting x × (is_condemned x ≡ false))
  pub apart : (c : Collection) → Includes below (Collecting c) → (o : ℕ) → c.phase ≡ Turn o → ¬ Includes (waits_of b) o
  pub once : (weak : ℕ) → occurrences weak (waits_of b) + occurrences weak (all_waits below) ≤ 1
  pub turn : (c : Collection) (o : ℕ) → b ≡ Collecting c → c.phase ≡ Turn o → (¬ Includes (all_waits (b ∷ below)) o) × ((x : Object) → Includes objects x → x.serial ≡ o → CallsNone x)
  pub clearing : (x : Object) → Includes objects x → is_condemned x ≡ true → MayRefer x.entries (a ∷ below) → (x.referent ≡ None) ⊎ MayRefer x.entries (b ∷ below)

pub turn_orderly : (a b : Activity) (objects : List Object) (names : List (Option Val)) (below : List Activity) → TurnsTo a b objects below
    → Orderly objects names (a ∷ below) → Orderly objects names (b ∷ below)
turn_orderly a b objects names below t h = record {
  names_live = h.names_live;
  root_lives = h.root_lives;
  entries_live = h.entries_live;
  stack_lives = λ o m. either (Includes-append_cases (holds b) (flat_map holds below) o m) (t.held o) (λ k. h.stack_lives o (Includes-append_right (holds a) (flat_map holds below) o k));
  deaths_live = λ d m. either m (t.death d) (λ k. h.deaths_live d (inr k));
  callbacks = h.callbacks;
  codes = h.codes;
  garbage = h.garbage;
  waiting = λ weak m x k e. either (Includes-append_cases (waits_of b) (all_waits below) weak m)
      (λ n. either (t.waits weak n) (λ i. h.waiting weak (Includes-append_left (waits_of a) (all_waits below) weak i) x k e) (λ i. (i.1 x k e).0))
      (λ n. h.waiting weak (Includes-append_right (waits_of a) (all_waits below) weak n) x k e);
  once = λ weak. let all = t.once weak in omega (arith, all, occurrences-append weak (waits_of b) (all_waits below));
  condemned = λ x m e. let k = h.condemned x m e in (not_waiting x m e k.0, either k.1 (λ n. inl n) (λ n. t.clearing x m e n));
  turns = λ c m o e. either m (λ i. t.turn c o i e) (λ k. let u = h.turns c (inr k) o e in (apart c k o e u.0, u.1));
}
  where
    not_waiting : (x : Object) → Includes objects x → is_condemned x ≡ true → ¬ Includes (all_waits (a ∷ below)) x.serial → ¬ Includes (all_waits (b ∷ below)) x.serial
    not_waiting x m e free n = either (Includes-append_cases (waits_of b) (all_waits below) x.serial n)
        (λ k. either (t.waits x.serial k) (λ i. free (Includes-append_left (waits_of a) (all_waits below) x.serial i)) (λ i. let no : true ≡ false = sym e ∙ (i.1 x m refl).1 in cc))
        (λ k. free (Includes-append_right (waits_of a) (all_waits below) x.serial k))

    apart : (c : Collection) → Includes below (Collecting c) → (o : ℕ) → c.phase ≡ Turn o → ¬ Includes (all_waits (a ∷ below)) o → ¬ Includes (all_waits (b ∷ below)) o
    apart c m o e free n = either (Includes-append_cases (waits_of b) (all_waits below) o n) (t.apart c m o e) (λ k. free (Includes-append_right (waits_of a) (all_waits below) o k))

pub turns_fewer : (a b : Activity) {objects : List Object} {names : List (Option Val)} {below : List Activity} → Orderly objects names (a ∷ below)
    → ((o : ℕ) → Includes (holds b) o → Includes (serials objects) o) → ((d : Death) → b ≡ Dying d → Includes (serials objects) d.object)
    → ((weak : ℕ) → Includes (waits_of b) weak → Includes (waits_of a) weak) → ((weak : ℕ) → occurrences weak (waits_of b) ≤ occurrences weak (waits_of a))
    → ((c : Collection) (o : ℕ) → b ≡ Collecting c → c.phase ≡ Turn o → (¬ Includes (all_waits (a ∷ below)) o) × ((x : Object) → Includes objects x → x.serial ≡ o → CallsNone x))
    → ((x : Object) → Includes objects x → is_condemned x ≡ true → MayRefer x.entries (a ∷ below) → (x.referent ≡ None) ⊎ MayRefer x.entries (b ∷ below)) → Orderly objects names (b ∷ below)
turns_fewer a b {objects = objects} {names = names} {below = below} h held death fewer count turn clearing = turn_orderly a b objects names below (record {
  held = held;
  death = death;
  waits = λ weak m. inl (fewer weak m);
  apart = λ c m o e n. (h.turns c (inr m) o e).0 (Includes-append_left (waits_of a) (all_waits below) o (fewer o n));
  once = λ weak. let all = h.once weak in let less = count weak in omega (arith, all, less, occurrences-append weak (waits_of a) (all_waits below));
  turn = λ c o i e. let t = turn c o i e in (
    λ n. either (Includes-append_cases (waits_of b) (all_waits below) o n)
        (λ k. t.0 (Includes-append_left (waits_of a) (all_waits below) o (fewer o k))) (λ k. t.0 (Includes-append_right (waits_of a) (all_waits below) o k)),
    t.1,
  );
  clearing = clearing;
}) h

pub turns_more : (a b : Activity) (s : ℕ) {objects : List Object} {names : List (Option Val)} {below : List Activity} → Orderly objects names (a ∷ below)
    → ((o : ℕ) → Includes (holds b) o → Includes (serials objects) o) → ((d : Death) → b ≡ Dying d → Includes (serials objects) d.object)
    → waits_of b ≡ waits_of a ++ s ∷ [] → (¬ Includes (all_waits (a ∷ below)) s) → ((x : Object) → Includes objects x → x.serial ≡ s → IsWaiting x × (is_condemned x ≡ false))
    → ((c : Collection) → Includes below (Collecting c) → (o : ℕ) → c.phase ≡ Turn o → s ≢ o) → ((c : Collection) (o : ℕ) → b ≡ Collecting c → c.phase ≢ Turn o)
    → ((x : Object) → Includes objects x → is_condemned x ≡ true → MayRefer x.entries (a ∷ below) → (x.referent ≡ None) ⊎ MayRefer x.entries (b ∷ below)) → Orderly objects names (b ∷ below)
turns_more a b s {objects = objects} {names = names} {below = below} h held death more new is apart turn clearing = turn_orderly a b objects names below (record {
  held = held;
  death = death;
  waits = λ weak m. either (cases weak m) (λ k. inl k) (λ e. inr (subst (λ q. ¬ Includes (all_waits (a ∷ below)) q) e new, λ x k i. is x k (i ∙ sym e)));
  apart = λ c m o e n. either (cases o n) (λ k. (h.turns c (inr m) o e).0 (Includes-append_left (waits_of a) (all_waits below) o k)) (apart c m o e);
  once = λ weak. count weak (s == weak) refl;
  turn = λ c o i e. absurd (turn c o i e);
  clearing = clearing;
}) h
  where
    cases : (weak : ℕ) → Includes (waits_of b) weak → Includes (waits_of a) weak ⊎ (s ≡ weak)
    cases weak m = either (Includes-append_cases (waits_of a) (s ∷ []) weak (subst (λ ws. Includes ws weak) more m)) (λ k. inl k) (λ k. either k (λ e. inr e) (λ n. absurd n))

    sum : (weak : ℕ) → occurrences weak (waits_of b) ≡ occurrences weak (waits_of a) + occurrences weak (s ∷ [])
    sum weak = ap (occurrences weak) more ∙ occurrences-append weak (waits_of a) (s ∷ [])

    count : (weak : ℕ) (t : Bool) → (s == weak) ≡ t → occurrences weak (waits_of b) + occurrences weak (all_waits below) ≤ 1
    count weak true e =
        let none : occurrences weak (all_waits (a ∷ below)) ≡ 0 = no_times weak (all_waits (a ∷ below)) (subst (λ q. ¬ Includes (all_waits (a ∷ below)) q) (eqb-true s weak e) new) in
        let one : ◌≡◌ {A = ℕ} (cond (s == weak) 1 0) 1 = ap (λ k. cond k 1 0) e in
        omega (arith, sum weak, none, one, occurrences-cons weak s [], occurrences-append weak (waits_of a) (all_waits below))
    count weak false e =
        let all = h.once weak in
        let one : ◌≡◌ {A = ℕ} (cond (s == weak) 1 0) 0 = ap (λ k. cond k 1 0) e in
        omega (arith, all, sum weak, one, occurrences-cons weak s [], occurrences-append weak (waits_of a) (all_waits below))

-- what waits is held
pub waits_are_held : (a : Activity) (weak : ℕ) → Includes (waits_of a) weak → Includes (holds a) weak
waits_are_held (Dying d) weak m = death d.phase m
  where
    death : (phase : DyingPhase) → Includes (death_waits phase) weak → Includes (dying_holds d.object phase) weak
    death (Clearing waiting) k = k
    death (Calling waiting) k = k
    death (AfterCall reference callback waiting) k = inr (inr k)
    death phase k = absurd k
waits_are_held (Collecting c) weak m = collection c.phase m
  where
    collection : (phase : CollectPhase) → Includes (collection_waits phase) weak → Includes (collect_holds phase) weak
    collection (WeakClearing waiting) k = k
    collection (WeakCalling waiting) k = k
    collection (AfterCallback reference waiting) k = k
    collection (AfterRelease reference waiting) k = k
    collection phase k = absurd k
waits_are_held a weak m = absurd m

pub waits_held : (stack : List Activity) (weak : ℕ) → Includes (all_waits stack) weak → Includes (flat_map holds stack) weak
waits_held [] weak m = m
waits_held (a ∷ stack) weak m =
    either (Includes-append_cases (waits_of a) (all_waits stack) weak m) (λ k. Includes-append_left (holds a) (flat_map holds stack) weak
    (waits_are_held a weak k)) (λ k. Includes-append_right (holds a) (flat_map holds stack) weak (waits_held stack weak k))

pub without_orderly : (o : ℕ) (objects : List Object) (names : List (Option Val)) (stack : List Activity) → (¬ Includes (name_holdings names) o) → o ≢ 1
    → ((x : Object) → Includes objects x → ¬ Includes (references x.entries) o) → (¬ Includes (flat_map holds stack) o)
    → ((d : Death) → Includes stack (Dying d) → d.object ≢ o) → Orderly objects names stack → Orderly (without o objects) names stack
without_orderly o objects names stack no_name no_root no_entry no_hold no_death h = record {
  names_live = λ s m. lives s (λ e. no_name (subst (Includes (name_holdings names)) e m)) (h.names_live s m);
  root_lives = lives 1 (λ e. no_root (sym e)) h.root_lives;
  entries_live = λ x m s k. lives s (λ e. no_entry x (was x m) (subst (Includes (references x.entries)) e k)) (h.entries_live x (was x m) s k);
  stack_lives = λ s m. lives s (λ e. no_hold (subst (Includes (flat_map holds stack)) e m)) (h.stack_lives s m);
  deaths_live = λ d m. lives d.object (no_death d m) (h.deaths_live d m);
  callbacks = λ x m e f k. let z = h.callbacks x (was x m) e f k in (z.0, stays z.0 (λ i. no_entry x (was x m) (subst (Includes (references x.entries)) (sym z.2 ∙ i) k)) z.1, z.2, z.3);
  codes = λ x m. h.codes x (was x m);
  garbage = λ x m. h.garbage x (was x m);
  waiting = λ weak k x m. h.waiting weak k x (was x m);
  once = h.once;
  condemned = λ x m. h.condemned x (was x m);
  turns = λ c m s e. let t = h.turns c m s e in (t.0, λ x k. t.1 x (was x k));
}
  where
    was : (x : Object) → Includes (without o objects) x → Includes objects x
    was x m = (Includes-filter_cases (λ y. not (y.serial == o)) objects x m).0

    stays : (z : Object) → z.serial ≢ o → Includes objects z → Includes (without o objects) z
    stays z apart m = Includes-filter (λ y. not (y.serial == o)) objects z (ap not (ne_eqb z.serial o apart)) m

    lives : (s : ℕ) → s ≢ o → Includes (serials objects) s → Includes (serials (without o objects)) s
    lives s apart m =
        let x = Includes-map_cases (λ (z : Object). z.serial) objects s m in
        subst (Includes (serials (without o objects))) x.2 (Includes-map (λ (z : Object). z.serial) (without o objects) x.0 (stays x.0 (λ k. apart (sym x.2 ∙ k)) x.1))
