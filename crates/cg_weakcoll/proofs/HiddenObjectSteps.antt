-- A hidden object stays hidden in every step except those of commands that use its name.
use Rattle.std.proofs.Common.{◌≡◌, ◌≢◌, refl, sym, ◌∙◌, ap, subst, ℕ, zero, suc, ◌-◌, ◌<◌, ◌≤◌, Bool, true, false, not, ◌&&◌, ◌||◌, inl, inr, ◌⊎◌, List, [], ◌∷◌, ◌++◌, map, Option, Some, None, arith}
use Rattle.std.specs.Prelude.{◌==◌, if◌then◌else◌, flat_map, slice_set}
use Rattle.std.proofs.lemmas.Bool.{eqb-true}
use Rattle.cg_value.specs.declared.KindCode.{KindCode}
use Rattle.cg_value.specs.declared.KindCode.TheVariants.{Inst}
use Rattle.cg_value.specs.declared.Place.{Place}
use Rattle.cg_value.specs.declared.Place.TheVariants.{Untracked, Gen, Frozen}
use Rattle.cg_value.specs.declared.Val.{Val}
use Rattle.cg_value.specs.declared.Val.TheVariants.{None as Nothing, Ref}
use Rattle.cg_value.specs.declared.Entry.{Entry}
use Rattle.cg_script.specs.declared.Script.{Script}
use Rattle.cg_script.specs.declared.Command.{Command}
use Rattle.cg_script.specs.Texts.{command_names}
use Rattle.cg_graph.specs.Member.{Includes, includes}
use Rattle.cg_graph.specs.Object.{Object, change, is_at, is_tracked, objects_at, same_place, serials, with_entries, with_place}
use Rattle.cg_graph.specs.Holdings.{Graph, entry_holdings, graph_of, name_holdings, occurrences}
use Rattle.cg_graph.specs.Reach.{first}
use Rattle.cg_graph.specs.Value.{put, reference_in, references, references_of_value}
use Rattle.cg_graph.proofs.Members.{cases_of, either, includes-of, Includes-of, Includes-append_cases, Includes-append_left, Includes-append_right, Includes-filter_cases, Includes-map, Includes-map_cases}
use Rattle.cg_graph.proofs.Objects.{occurrences-append}
use Rattle.cg_machine.specs.declared.event.Event.{Event}
use Rattle.cg_machine.specs.declared.event.FrameSort.{FrameSort}
use Rattle.cg_machine.specs.declared.event.FrameSort.TheVariants.{Del, Legacy as LegacyFrame, Callback, Call as CallFrame}
use Rattle.cg_machine.specs.Program.{body_of, finalizer_of, legacy_of}
use Rattle.cg_machine.specs.World.{World, Activity, Framed, Releasing, Dying, Death, Frame, BudgetIsSpent, with_change, with_stack}
use Rattle.cg_machine.specs.Holdings.{dying_holds, holdings, holds}
use Rattle.cg_machine.specs.Frame.{Yields, procedure_of, start_frame}
use Rattle.cg_machine.specs.Collect.{IsMemberOf, Survives, merged, merged_place}
use Rattle.cg_machine.specs.Effects.{Changes, Effect, bound, frozen, may_track, replaced, tracked_by, unfrozen, with_new}
use Rattle.cg_represents.specs.Orderly.{runs_own_frame}
use Rattle.cg_machine.specs.Operands.{is_dict, self_in, weak_in}
use Rattle.cg_laws.proofs.CommandRefs.{HoldNone, all_free, entry_free, option_free, put_free}
use Rattle.cg_represents.proofs.Lists.{present, each_changed}
use Rattle.cg_laws.proofs.Unreferred.{some_later}
use Rattle.cg_laws.proofs.Lookups.{references_of_member, same_object}
use Rattle.cg_laws.proofs.Invariants.{FromFrame, FromTop, Takes, emptied, on}
use Rattle.cg_represents.proofs.Serials.{Rises}
use Rattle.cg_laws.proofs.ShapeLaws.{changes_leave}
use Rattle.cg_represents.proofs.Shapes.{AsksWhy, Binds, Edits, Ends, Freezes, HasParts, IsAtHand, IsEdit, Makes, Puts, Sets, Shape, StartsCollection, StartsFrame, Unfreezes}
use Rattle.cg_represents.proofs.Representing.{death_found}
use Rattle.cg_laws.proofs.Unheld.{held_by_member}
use Rattle.cg_laws.specs.Apart.{IsFound}
use Rattle.cg_laws.proofs.Starting.{call_frame, called_either}
use Rattle.cg_laws.proofs.Condemned.{filter_holdings}
use Rattle.cg_promises.proofs.HoldersMove.{IsFree}
use Rattle.cg_promises.proofs.FullStart.{own_held}
use Rattle.cg_weakcoll.proofs.ActivitySteps.{Acts, BegunBy, IsCollected, all_to_call}
use Rattle.cg_weakcoll.proofs.HiddenObjects.{Hidden, IsNoLocal, hand_not, held_by}
use Rattle.cg_weakcoll.proofs.KnownOfRuns.{Began, Changed, Asked, Done, Known, Stood, Stopped}

abbrev in_merge : ℕ → Object → Object
in_merge g x = with_place (merged_place g x.place) x

same_graph : (g : ℕ) (objects : List Object) → graph_of (map (in_merge g) objects) ≡ graph_of objects
same_graph g [] = refl
same_graph g (x ∷ objects) = ap (λ (gr : Graph). (x.serial, x.entries) ∷ gr) (same_graph g objects)

-- holds other than those of entries
abbrev pub others_hold : World → List ℕ
others_hold w = name_holdings w.names ++ (1 ∷ []) ++ flat_map holds w.stack

-- what is held in this way survives the start of a collection
pub held_survives : (w : World) (g o : ℕ) → Includes (others_hold w) o → IsMemberOf (merged g w) (Gen g) o → Survives (merged g w) (Gen g) o
held_survives w g o k m =
    let more = present o (others_hold w) k in
    let less = filter_holdings (is_at (Gen g)) (merged g w).objects o in
    let same : occurrences o (entry_holdings (graph_of (merged g w).objects)) ≡ occurrences o (entry_holdings (graph_of w.objects)) =
    ap (λ (gr : Graph). occurrences o (entry_holdings gr)) (same_graph g w.objects) in
    let all : occurrences o (holdings (merged g w)) ≡ occurrences o (holdings w) = ap (λ (gr : Graph). occurrences o (name_holdings w.names ++ (1 ∷ [])
    ++ entry_holdings gr ++ flat_map holds w.stack)) (same_graph g w.objects) in
    let a = occurrences-append o (name_holdings w.names ++ (1 ∷ []) ++ entry_holdings (graph_of w.objects)) (flat_map holds w.stack) in
    let b = occurrences-append o (name_holdings w.names ++ (1 ∷ [])) (entry_holdings (graph_of w.objects)) in
    let d = occurrences-append o (name_holdings w.names ++ (1 ∷ [])) (flat_map holds w.stack) in
    first (omega (arith, more, less, same, all, a, b, d)) m

-- a member of a generation is tracked
member_tracked : (w : World) (g o : ℕ) → Rises 1 w.next_serial w.objects → IsMemberOf (merged g w) (Gen g) o → (x : Object) → Includes w.objects x → x.serial ≡ o → x.place ≢ Untracked
member_tracked w g o rises m x i s u =
    let z = Includes-map_cases (λ (y : Object). y.serial) (objects_at (merged g w).objects (Gen g)) o m in
    let at = Includes-filter_cases (is_at (Gen g)) (merged g w).objects z.0 z.1 in
    let y = Includes-map_cases (in_merge g) w.objects z.0 at.0 in
    let same : y.0 ≡ x = same_object 1 w.next_serial w.objects y.0 x rises y.1 i (ap (λ (q : Object). q.serial) y.2 ∙ z.2 ∙ sym s) in
    let standing : same_place (merged_place g x.place) (Gen g) ≡ true = subst (λ (q : Object). same_place (merged_place g q.place) (Gen g) ≡ true) same
    (subst (λ (q : Object). is_at (Gen g) q ≡ true) (sym y.2) at.1) in
    let no : false ≡ true = sym (ap (λ p. same_place (merged_place g p) (Gen g)) u) ∙ standing in cc

-- an object that only names and activities hold is not collected; when unheld, it is dying
pub not_collected : (script : Script) (budget : ℕ) (w : World) (o : ℕ) → Known script budget w → ((x : Object) → Includes w.objects x
    → ¬ Includes (references x.entries) o) → o ≢ 1 → (x : Object) → Includes w.objects x → x.serial ≡ o → ¬ IsCollected w o
not_collected script budget w o k entries root x i s collected = go (cases_of (includes (others_hold w) o))
  where
    go : (includes (others_hold w) o ≡ true) ⊎ (includes (others_hold w) o ≡ false) → ⊥
    go (inl t) = collected.2 (held_survives w collected.0 o (Includes-of (others_hold w) o t) collected.1)
    go (inr f) =
        let none : ¬ Includes (others_hold w) o = λ m. let no : true ≡ false = sym (includes-of (others_hold w) o m) ∙ f in cc in
        let unheld : ¬ Includes (flat_map holds w.stack) o = λ m. none (Includes-append_right (name_holdings w.names ++ (1 ∷ [])) (flat_map holds w.stack) o m) in
        let free : IsFree w.objects w.names w.stack o = record {
          names_none = λ m. none (Includes-append_left (name_holdings w.names ++ (1 ∷ [])) (flat_map holds w.stack) o (Includes-append_left (name_holdings w.names) (1 ∷ []) o m));
          root_not = root;
          entries_none = entries;
          stack_none = unheld;
        } in
        let d = death_found o w.stack (k.minded.minds o (subst (Includes (serials w.objects)) s (Includes-map (λ (z : Object). z.serial) w.objects x i)) free) in
        fades d.0 d.1 d.2 unheld (cases_of (runs_own_frame d.0.phase))
      where
        fades : (d : Death) → Includes w.stack (Dying d) → d.object ≡ o → ¬ Includes (flat_map holds w.stack) o → (runs_own_frame d.phase ≡ true) ⊎ (runs_own_frame d.phase ≡ false) → ⊥
        fades d m e unheld (inl own) = unheld (held_by_member w.stack (Dying d) o m (subst (Includes (dying_holds d.object d.phase)) e (own_held d.object d.phase own)))
        fades d m e unheld (inr apart) = member_tracked w collected.0 o k.fit.sound.rises collected.1 x i s ((k.lawful.orderly.deaths d m).untracked apart x i (s ∙ sym e))

-- an object with a finalizer is an instance
pub finalizer_inst : (script : Script) (x : Object) (p : ℕ) → finalizer_of script x ≡ Some p → x.code ≡ Inst
finalizer_inst script x p e = go x.code refl
  where
    go : (k : KindCode) → x.code ≡ k → x.code ≡ Inst
    go Inst c = c
    go k c = absurd (let no : finalizer_of script x ≡ None = cc in let bad : None ≡ Some p = sym no ∙ e in cc)

pub legacy_inst : (script : Script) (x : Object) (p : ℕ) → legacy_of script x ≡ Some p → x.code ≡ Inst
legacy_inst script x p e = go x.code refl
  where
    go : (k : KindCode) → x.code ≡ k → x.code ≡ Inst
    go Inst c = c
    go k c = absurd (let no : legacy_of script x ≡ None = cc in let bad : None ≡ Some p = sym no ∙ e in cc)

-- the same world with another stack, whose frames have the same locals
pub restacked : (n o : ℕ) (w after : World) → after.names ≡ w.names → after.objects ≡ w.objects → after.next_serial ≡ w.next_serial
    → ((f : Frame) → Includes after.stack (Framed f) → IsNoLocal o f.sort f.subject) → Hidden n o w → Hidden n o after
restacked n o w after names objects serial locals h = record {
  names = λ x apart. subst (λ ns. ¬ Includes (held_by ns x) o) (sym names) (h.names x apart);
  root = h.root;
  made = subst (λ s. o < s) (sym serial) h.made;
  entries = λ x m. h.entries x (subst (λ os. Includes os x) objects m);
  referents = λ x m. h.referents x (subst (λ os. Includes os x) objects m);
  locals = locals;
  apart = λ x m. h.apart x (subst (λ os. Includes os x) objects m);
  kind = λ x m. h.kind x (subst (λ os. Includes os x) objects m);
}

-- an activity other than a frame is pushed
pub pushed : (n o : ℕ) (a : Activity) (w : World) → ((f : Frame) → a ≢ Framed f) → Hidden n o w → Hidden n o (with_stack (a ∷ w.stack) w)
pushed n o a w apart h = restacked n o w (with_stack (a ∷ w.stack) w) refl refl refl (λ f m. either m (λ e. absurd (apart f e)) (h.locals f)) h

-- a step of an activity other than commands
pub acted_hidden : (script : Script) (budget n o : ℕ) (w : World) (a : Activity) (below : List Activity) (events : List Event) (after : World)
    → Known script budget w → w.stack ≡ a ∷ below → Acts script w below events after
    → ¬ Includes (all_to_call w.stack) o → Hidden n o w → Hidden n o after
acted_hidden script budget n o w a below events after k top acts uncalled h = record {
  names = λ x apart. subst (λ ns. ¬ Includes (held_by ns x) o) (sym acts.names) (h.names x apart);
  root = h.root;
  made = subst (λ s. o < s) (sym acts.serial) h.made;
  entries = λ y m r. let x = acts.grows y m in either (x.2.refers o r) (h.entries x.0 x.1) (λ z. h.apart z.0 z.1 z.2 z.3);
  referents = λ y m e. let x = acts.grows y m in h.referents x.0 x.1 (some_later x.0 y x.2.later o e);
  locals = λ f m. framed f (subst (λ st. Includes st (Framed f)) acts.stack m);
  apart = λ y m s f. let x = acts.grows y m in let is = sym x.2.later.serial ∙ s in
      either (x.2.place f) (h.apart x.0 x.1 is) (λ c. not_collected script budget w o k h.entries h.root x.0 x.1 is (subst (IsCollected w) is c));
  kind = λ y m s c. let x = acts.grows y m in h.kind x.0 x.1 (sym x.2.later.serial ∙ s) (sym x.2.later.code ∙ c);
}
  where
    some_is : (i : ℕ) → Some i ≡ Some o → i ≡ o
    some_is i e = cc

    begun : (sort : FrameSort) (subject p : ℕ) → BegunBy script w sort subject p → IsNoLocal o sort subject
    begun Del subject p by = (λ e. h.kind by.0 by.1 (by.2 ∙ some_is subject e) (finalizer_inst script by.0 p by.3), λ e. let no : None ≡ Some o = e in cc)
    begun LegacyFrame subject p by = (λ e. h.kind by.0 by.1 (by.2 ∙ some_is subject e) (legacy_inst script by.0 p by.3), λ e. let no : None ≡ Some o = e in cc)
    begun Callback subject p by = (λ e. let no : None ≡ Some o = e in cc, λ e. uncalled (subst (Includes (all_to_call w.stack)) (some_is subject e) by.0))
    begun CallFrame subject p by = absurd by

    framed : (f : Frame) → Includes (acts.tops ++ below) (Framed f) → IsNoLocal o f.sort f.subject
    framed f m = either (Includes-append_cases acts.tops below (Framed f) m) (λ i. let b = acts.raised (Framed f) i in begun f.sort f.subject b.proc b.by)
        (λ i. h.locals f (subst (λ st. Includes st (Framed f)) (sym top) (inr i)))

-- a command is taken from the top, or the remaining commands are dropped
pub taken_locals : (o : ℕ) (command : Command) (a b : Activity) (below : List Activity) → Takes command a b → ((f : Frame) → Includes (a ∷ below) (Framed f)
    → IsNoLocal o f.sort f.subject)
    → (f : Frame) → Includes (b ∷ below) (Framed f) → IsNoLocal o f.sort f.subject
taken_locals o command a b below (FromTop commands) h f (inl e) = cc
taken_locals o command a b below (FromFrame g commands left) h f (inl e) = let same : record g { commands = commands } ≡ f = cc
    in subst (λ (q : Frame). IsNoLocal o q.sort q.subject) same (h g (inl refl))
taken_locals o command a b below takes h f (inr m) = h f (inr m)

emptied_locals : (o : ℕ) (a : Activity) (below : List Activity) → ((f : Frame) → Includes (a ∷ below) (Framed f) → IsNoLocal o f.sort f.subject)
    → (f : Frame) → Includes (emptied a ∷ below) (Framed f) → IsNoLocal o f.sort f.subject
emptied_locals o (Framed g) below h f (inl e) = let same : record g { commands = [] } ≡ f = cc in subst (λ (q : Frame). IsNoLocal o q.sort q.subject) same (h g (inl refl))
emptied_locals o a below h f (inl e) = cc
emptied_locals o a below h f (inr m) = h f (inr m)

pub taken_hidden : (n o : ℕ) (command : Command) (a b : Activity) (below : List Activity) (v : World) → Takes command a b → Hidden n o (on a below v) → Hidden n o (on b below v)
taken_hidden n o command a b below v takes h = restacked n o (on a below v) (on b below v) refl refl refl (taken_locals o command a b below takes h.locals) h

pub emptied_hidden : (n o : ℕ) (a : Activity) (below : List Activity) (v : World) → Hidden n o (on a below v) → Hidden n o (on (emptied a) below v)
emptied_hidden n o a below v h = restacked n o (on a below v) (on (emptied a) below v) refl refl refl (emptied_locals o a below h.locals) h

pub set_free : (names : List (Option Val)) (name x o : ℕ) (v : Option Val) → ¬ Includes (references_of_value v) o → ¬ Includes (held_by names x) o → ¬ Includes (held_by (slice_set names name v) x) o
set_free (u ∷ names) zero zero o v free h = free
set_free (u ∷ names) (suc name) (suc x) o v free h = set_free names name x o v free h
set_free xs name x o v free h = h

-- another name than this one is bound
pub set_other : (names : List (Option Val)) (name x : ℕ) (v : Option Val) → x ≢ name → held_by (slice_set names name v) x ≡ held_by names x
set_other (u ∷ names) zero zero v apart = absurd (apart refl)
set_other (u ∷ names) (suc name) (suc x) v apart = set_other names name x v (λ e. apart (ap suc e))
set_other xs name x v apart = refl

-- the objects after a change
pub changed_hidden : (n o : ℕ) (u next : World) → ((x : ℕ) → x ≢ n → ¬ Includes (held_by next.names x) o) → u.next_serial ≤ next.next_serial → next.stack ≡ u.stack
    → ((y : Object) → Includes next.objects y → (¬ Includes (references y.entries) o) × (y.referent ≢ Some o) × (y.serial ≡ o → (¬ IsFound y.place) × (y.code ≢ Inst))) → Hidden n o u → Hidden n o next
changed_hidden n o u next names later stack objects h = record {
  names = names;
  root = h.root;
  made = let m = h.made in omega (arith, m, later);
  entries = λ y m. (objects y m).0;
  referents = λ y m. (objects y m).1;
  locals = λ f m. h.locals f (subst (λ st. Includes st (Framed f)) stack m);
  apart = λ y m s. ((objects y m).2 s).0;
  kind = λ y m s. ((objects y m).2 s).1;
}

pub frozen_found : (p : Place) → IsFound (frozen p) → IsFound p
frozen_found (Gen i) f = f
frozen_found p f = f

pub unfrozen_found : (p : Place) → IsFound (unfrozen p) → IsFound p
unfrozen_found Frozen f = f
unfrozen_found p f = f

module _ (n o : ℕ) (u : World) (command : Command) (h : Hidden n o u) (spoken : ¬ Includes (command_names command) n) where
  -- an object that existed before
  abbrev Unshown : Object → Type 0
  Unshown y = (¬ Includes (references y.entries) o) × (y.referent ≢ Some o) × (y.serial ≡ o → (¬ IsFound y.place) × (y.code ≢ Inst))

  old : (x : Object) → Includes u.objects x → Unshown x
  old x m = (h.entries x m, h.referents x m, λ s. (h.apart x m s, h.kind x m s))

  value_free : (v : Val) → IsAtHand u command v → ¬ Includes (references_of_value (Some v)) o
  value_free v hand = option_free (reference_in v) o (hand_not n o u h command v spoken hand)

  option_value_free : (v : Option Val) → ((w : Val) → v ≡ Some w → IsAtHand u command w) → ¬ Includes (references_of_value v) o
  option_value_free None hand = λ m. m
  option_value_free (Some v) hand = value_free v (hand v refl)

  nothing_not : (k : Val) → k ≡ Nothing → reference_in k ≢ Some o
  nothing_not k e r = let no : None ≡ Some o = sym (ap reference_in e) ∙ r in cc

  items_free : (entries : List Entry) → ((e : Entry) → Includes entries e → (e.key ≡ Nothing) × IsAtHand u command e.val) → HoldNone o entries
  items_free entries items = all_free o entries (λ e m. let i = items e m in entry_free e o (hand_not n o u h command e.val spoken i.1) (nothing_not e.key i.0))

  edit_free : (x : Object) (entries : List Entry) (given : List ℕ) → Includes u.objects x → IsEdit u command x entries given → HoldNone o entries
  edit_free x entries given m edit = all_free o entries (λ e i. either (edit.come e i) (λ was k. h.entries x m (references_of_member x.entries e o was k))
      (λ new. entry_free e o (hand_not n o u h command e.val spoken new.2) (nothing_not e.key new.1)))

  changed : (f : Object → Object) (s : ℕ) → ((x : Object) → Includes u.objects x → x.serial ≡ s → Unshown (f x)) → (y : Object) → Includes (change f s u.objects) y → Unshown y
  changed f s k = each_changed Unshown f (λ x. x.serial == s) u.objects (λ x i t. k x i (eqb-true x.serial s t)) (λ x i t. old x i)

  placed : (f : Place → Place) → ((p : Place) → IsFound (f p) → IsFound p) → (y : Object) → Includes (map (λ x. with_place (f x.place) x) u.objects) y → Unshown y
  placed f k y m = let x = Includes-map_cases (λ x. with_place (f x.place) x) u.objects y m in subst Unshown x.2 (
    h.entries x.0 x.1,
    h.referents x.0 x.1,
    λ s. (λ i. h.apart x.0 x.1 s (k x.0.place i), h.kind x.0 x.1 s),
  )

  put_one : (key v : Val) (entries : List Entry) (s : ℕ) → HoldNone o (put entries key v) → (x : Object) → Includes u.objects x → Unshown (tracked_by u key v (with_entries (put entries key v) x))
  put_one key v entries s free x m = go (is_dict x && not (is_tracked x) && (may_track u key || may_track u v))
    where
      go : (b : Bool) → Unshown (if b then with_place (Gen 0) (with_entries (put entries key v) x) else with_entries (put entries key v) x)
      go true = (free, h.referents x m, λ e. (λ f. f, h.kind x m e))
      go false = (free, h.referents x m, λ e. (h.apart x m e, h.kind x m e))

  new_unshown : (kind : KindCode) (class : Option ℕ) (entries : List Entry) (referent : Option ℕ) (y : Object) → y.entries ≡ entries → y.referent ≡ referent
      → y.serial ≡ u.next_serial → HasParts u command kind class entries referent → Unshown y
  new_unshown kind class entries referent y es rs ss parts = (
    subst (HoldNone o) (sym es) (items_free entries parts.items),
    λ e. let k = parts.refers o (sym rs ∙ e) in hand_not n o u h command (Ref k.1.0.serial) spoken k.1.1.hand (ap (λ i. Some i) k.1.2),
    λ e. absurd (let low = h.made in omega (arith, low, e, ss)),
  )

  -- what a command leaves
  left : {wanted wants : Bool} {told lines : List Event} {given_up given : List ℕ} {after next : World} → Changes wanted told given_up after ≡ Changes wants lines given next
      → Hidden n o after → Hidden n o next
  left {wanted} {wants} {told} {lines} {given_up} {given} {after} {next} is k = let same : after ≡ next = cc in subst (Hidden n o) same k

  shape_hidden : (e : Effect) → Shape u command e → (wants : Bool) (lines : List Event) (given : List ℕ) (next : World) → e ≡ Changes wants lines given next → next.stack ≡ u.stack → Hidden n o next
  shape_hidden e (Binds name v own hand) wants lines given next is stack = left is
      (changed_hidden n o u (bound u name v) (λ x apart. set_free u.names name x o v (option_value_free v hand) (h.names x apart)) (omega arith) refl old h)
  shape_hidden e (Makes name kind class entries referent own parts) wants lines given next is stack =
      let fresh : ¬ Includes (references_of_value (Some (Ref u.next_serial))) o = λ m. either m (λ i. let low = h.made in absurd (omega (arith, low, i))) (λ no. no) in
      left is (changed_hidden n o u (bound (with_new u kind class entries referent) name (Some (Ref u.next_serial)))
      (λ x apart. set_free u.names name x o (Some (Ref u.next_serial)) fresh (h.names x apart)) (omega arith) refl
      (λ y m. either (Includes-append_cases u.objects (_ ∷ []) y m) (old y)
      (λ k. either k (λ i. new_unshown kind class entries referent y (ap (λ (z : Object). z.entries) (sym i)) (ap (λ (z : Object). z.referent) (sym i))
      (ap (λ (z : Object). z.serial) (sym i)) parts) (λ no. absurd no))) h)
  shape_hidden e (Edits wants_memory x entries given_up has mutable edit) wants lines given next is stack = left is
      (changed_hidden n o u (with_change (with_entries entries) x.serial u) h.names (omega arith) refl (changed (with_entries entries) x.serial
      (λ z m s. (edit_free x entries given_up has.member edit, h.referents z m, λ i. (h.apart z m i, h.kind z m i)))) h)
  shape_hidden e (Puts x key v has mutable hand_key hand room) wants lines given next is stack =
      let f : Object → Object = λ y. tracked_by u key v (with_entries (put x.entries key v) y) in
      let free : HoldNone o (put x.entries key v) = put_free x.entries key v o (h.entries x has.member) (hand_not n o u h command key spoken hand_key) (hand_not n o u h command v spoken hand) in
      left is (changed_hidden n o u (with_change f x.serial u) h.names (omega arith) refl (changed f x.serial (λ z m s. put_one key v x.entries x.serial free z m)) h)
  shape_hidden e (Sets numbers own keeps) wants lines given next is stack = left is
      (changed_hidden n o u (record u { numbers = numbers }) h.names (omega arith) refl old h)
  shape_hidden e (Freezes own) wants lines given next is stack = left is
      (changed_hidden n o u (record u { objects = replaced frozen u; numbers = record u.numbers { zero_count = 0; one_count = 0; two_count = 0 } }) h.names
      (omega arith) refl (placed frozen frozen_found) h)
  shape_hidden e (Unfreezes own) wants lines given next is stack = left is
      (changed_hidden n o u (record u { objects = replaced unfrozen u }) h.names (omega arith) refl (placed unfrozen unfrozen_found) h)
  shape_hidden e (StartsFrame f has) wants lines given next is stack = absurd (cc)
  shape_hidden e (StartsCollection g low) wants lines given next is stack = absurd (cc)
  shape_hidden e Ends wants lines given next is stack = absurd (cc)
  shape_hidden e (AsksWhy x has calm) wants lines given next is stack = absurd (cc)
  shape_hidden e shape wants lines given next is stack = left is h

pub called_hidden : (script : Script) (n o f : ℕ) (u : World) (events : List Event) (after : World) → Yields (start_frame script (call_frame u f) u) events after → Hidden n o u
    → Hidden n o after
called_hidden script n o f u events after step h = called_either (λ lines w. Hidden n o w) script u f events after step
    (restacked n o u (record u { outcome = BudgetIsSpent }) refl refl refl h.locals h)
    (restacked n o u (record u { budget = u.budget - 1; stack = Framed frame ∷ u.stack }) refl refl refl (λ g m. either m (λ e. locals g (frame_is g e)) (h.locals g)) h)
  where
    frame : Frame
    frame = record { sort = CallFrame; subject = f; function = Some f; commands = body_of script (procedure_of u f) }

    locals : (g : Frame) → frame ≡ g → IsNoLocal o g.sort g.subject
    locals g e = subst (λ (q : Frame). IsNoLocal o q.sort q.subject) e (λ i. let no : None ≡ Some o = i in cc, λ i. let no : None ≡ Some o = i in cc)

    frame_is : (g : Frame) → Framed frame ≡ Framed g → frame ≡ g
    frame_is g e = cc

-- a command that does not use the name
pub done_hidden : (script : Script) (n o : ℕ) (command : Command) (b : Activity) (below : List Activity) (v : World) (events : List Event) (after : World)
    → ¬ Includes (command_names command) n → Done script command (on b below v) b below events after → Hidden n o (on b below v) → Hidden n o after
done_hidden script n o command b below v events after spoken (Stood answers is) h = subst (Hidden n o) (sym is) h
done_hidden script n o command b below v events after spoken (Stopped answers is) h = subst (Hidden n o) (sym is) (emptied_hidden n o b below v h)
done_hidden script n o command b below v events after spoken (Changed wants given next is shape) h = subst (Hidden n o) (sym is)
    (pushed n o (Releasing given) next (λ f e. cc) (shape_hidden n o (on b below v) command h spoken (Changes wants events given next) shape wants events given
    next refl (changes_leave (on b below v) command wants events given next shape).stack))
done_hidden script n o command b below v events after spoken (Began f has step) h = called_hidden script n o f.serial (on b below v) events after step h
done_hidden script n o command b below v events after spoken (Asked g none is) h = subst (Hidden n o) (sym is) (pushed n o _ (on b below v) (λ f e. cc) h)
