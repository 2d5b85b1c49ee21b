-- Unheld objects are dying, by the parts of a world. A step that moves the holds of entries or activities to another activity
-- keeps this. A weak reference has at most one entry, so removing its callback loses no other reference.
use Rattle.std.proofs.Common.{◌≡◌, ◌≢◌, refl, sym, ◌∙◌, subst, ℕ, ◌<◌, Bool, true, false, inl, inr, ◌⊎◌, List, [], ◌∷◌, ◌++◌, length, map, Option, None}
use Rattle.std.specs.Prelude.{◌==◌, ◌||◌, if◌then◌else◌, flat_map}
use Rattle.std.specs.List.{list_any}
use Rattle.cg_value.specs.declared.Val.{Val}
use Rattle.cg_value.specs.declared.Place.{Place}
use Rattle.cg_value.specs.declared.KindCode.TheVariants.{Tuple, Weak}
use Rattle.cg_graph.specs.Member.{Includes}
use Rattle.cg_graph.specs.Value.{references}
use Rattle.cg_graph.specs.Object.{Object, change, serials, with_place, with_referent}
use Rattle.cg_graph.specs.Holdings.{entry_holdings, graph_of, name_holdings}
use Rattle.cg_graph.proofs.Members.{either, Includes-append_left, Includes-append_right, Includes-append_cases, Includes-map}
use Rattle.cg_machine.specs.declared.event.FrameSpec.{FrameSpec}
use Rattle.cg_machine.specs.Frame.{start_frame}
use Rattle.cg_machine.specs.World.{World, Activity, Releasing}
use Rattle.cg_machine.specs.Holdings.{holdings, holds, in_degree, is_death_of}
use Rattle.cg_laws.proofs.Starting.{begun_frame, starts_either}
use Rattle.cg_laws.proofs.Releasing.{entry_holder, none_holds}
use Rattle.cg_represents.proofs.Lists.{no_times, each_changed}
use Rattle.cg_script.specs.declared.Script.{Script}
use Rattle.cg_machine.specs.Weak.{loses_referent}
use Rattle.cg_represents.proofs.Moves.{AtMostOne}
use Rattle.cg_promises.proofs.FinalizerOnce.{Marks, Old, old_lives, old_trans, if_old, same_old}

-- nothing holds an object
pub record IsFree (objects : List Object) (names : List (Option Val)) (stack : List Activity) (o : ℕ) : Type 0 where
  pub names_none : ¬ Includes (name_holdings names) o
  pub root_not : o ≢ 1
  pub entries_none : (x : Object) → Includes objects x → ¬ Includes (references x.entries) o
  pub stack_none : ¬ Includes (flat_map holds stack) o

abbrev pub Minds : List Object → List (Option Val) → List Activity → ℕ → Type 0
Minds objects names stack n = Includes (serials objects) n → IsFree objects names stack n → list_any (is_death_of n) stack ≡ true

-- A weak reference has at most one entry, and the references of a tuple have smaller serials than the tuple.
abbrev pub IsSingle : Object → Type 0
IsSingle x = (x.code ≡ Weak → AtMostOne x.entries) × (x.code ≡ Tuple → (n : ℕ) → Includes (references x.entries) n → n < x.serial)

abbrev pub AreSingle : List Object → Type 0
AreSingle objects = (x : Object) → Includes objects x → IsSingle x

-- the invariant, for this many names
pub record Minded (k : ℕ) (objects : List Object) (names : List (Option Val)) (stack : List Activity) : Type 0 where
  pub minds : (n : ℕ) → Minds objects names stack n
  pub single : AreSingle objects
  pub count : length names ≡ k

abbrev pub IsMinded : ℕ → World → Type 0
IsMinded k w = Minded k w.objects w.names w.stack

-- what entries held is still held by entries, or has moved
pub record Keeps (before after : List Object) (moved : List ℕ) : Type 0 where
  pub old : Old before after
  pub entries : (x : Object) → Includes before x → (n : ℕ) → Includes (references x.entries) n → ((y : Object) × Includes after y × Includes (references y.entries) n) ⊎ Includes moved n
  pub single : AreSingle before → AreSingle after

pub keeps_same : (objects : List Object) → Keeps objects objects []
keeps_same objects = record { old = same_old objects; entries = λ x m n k. inl (x, m, k); single = λ s. s }

pub keeps_trans : (before now after : List Object) → Keeps before now [] → Keeps now after [] → Keeps before after []
keeps_trans before now after h k = record {
  old = old_trans before now after h.old k.old;
  entries = λ x m n i. either (h.entries x m n i) (λ y. k.entries y.0 y.1 n y.2) (λ no. absurd no);
  single = λ s. k.single (h.single s);
}

pub test_keeps : (f : Object → Object) (test : Object → Bool) (objects : List Object) (moved : List ℕ) → ((x : Object) → Marks x (f x))
    → ((x : Object) → Includes objects x → test x ≡ true → (n : ℕ) → Includes (references x.entries) n → Includes (references (f x).entries) n ⊎ Includes moved n)
    → ((x : Object) → Includes objects x → test x ≡ true → IsSingle x → IsSingle (f x)) → Keeps objects (map (λ x. if test x then f x else x) objects) moved
test_keeps f test objects moved marks entries single = record {
  old = if_old f marks test objects;
  entries = λ x m n k. either (held (test x) x refl m n k) (λ e. inl (if test x then f x else x, Includes-map (λ x. if test x then f x else x) objects x m, e)) (λ e. inr e);
  single = λ s. each_changed IsSingle f test objects (λ x m t. single x m t (s x m)) (λ x m t. s x m);
}
  where
    held : (b : Bool) (x : Object) → test x ≡ b → Includes objects x → (n : ℕ) → Includes (references x.entries) n → Includes (references (if b then f x else x).entries) n ⊎ Includes moved n
    held true x t m n k = entries x m t n k
    held false x t m n k = inl k

-- a change that keeps entries and kind
pub record IsPlainly (f : Object → Object) : Type 0 where
  pub marks : (x : Object) → Marks x (f x)
  pub entries : (x : Object) → (f x).entries ≡ x.entries
  pub code : (x : Object) → (f x).code ≡ x.code

pub plain_keeps : (f : Object → Object) (test : Object → Bool) (objects : List Object) → IsPlainly f → Keeps objects (map (λ x. if test x then f x else x) objects) []
plain_keeps f test objects h = test_keeps f test objects [] h.marks (λ x m t n k. inl (subst (λ es. Includes (references es) n) (sym (h.entries x)) k))
    (λ x m t s. (
      λ e. subst AtMostOne (sym (h.entries x)) (s.0 (sym (h.code x) ∙ e)),
      λ e n k. subst (λ i. n < i) (sym (h.marks x).serial)
          (s.1 (sym (h.code x) ∙ e) n (subst (λ es. Includes (references es) n) (h.entries x) k)),
    ))

pub change_keeps : (f : Object → Object) (o : ℕ) (objects : List Object) → IsPlainly f → Keeps objects (change f o objects) []
change_keeps f o objects h = plain_keeps f (λ x. x.serial == o) objects h

pub placed : (p : Place) → IsPlainly (with_place p)
placed p = record { marks = λ x. record { serial = refl; code = refl; class = refl; finalized = λ e. e }; entries = λ x. refl; code = λ x. refl }

pub lost : IsPlainly (with_referent None)
lost = record { marks = λ x. record { serial = refl; code = refl; class = refl; finalized = λ e. e }; entries = λ x. refl; code = λ x. refl }

pub lost_keeps : (weak : ℕ) (objects : List Object) → Keeps objects (loses_referent weak objects) []
lost_keeps weak objects = change_keeps (with_referent None) weak objects lost

-- the stack goes on: an activity is replaced, gives up references, or ends
abbrev pub Turned : Activity → Activity → List ℕ → Type 0
Turned a b moved = ((n : ℕ) → Includes (holds a) n → Includes (holds b) n) × ((n : ℕ) → Includes moved n → Includes (holds b) n) × ((n : ℕ) → is_death_of n a ≡ is_death_of n b)

pub stack_minded : (k : ℕ) (before after : List Object) (names : List (Option Val)) (from to : List Activity) (moved : List ℕ) → Keeps before after moved
    → ((n : ℕ) → Includes (flat_map holds from) n → Includes (flat_map holds to) n)
    → ((n : ℕ) → Includes moved n → Includes (flat_map holds to) n) → ((n : ℕ) → list_any (is_death_of n) from ≡ true → list_any (is_death_of n) to ≡ true)
    → Minded k before names from → Minded k after names to
stack_minded k before after names from to moved keeps held given deaths h = record {
  minds = λ n m free. deaths n (h.minds n (old_lives before after keeps.old n m) (record {
    names_none = free.names_none;
    root_not = free.root_not;
    entries_none = λ x i e. either (keeps.entries x i n e) (λ y. free.entries_none y.0 y.1 y.2) (λ g. free.stack_none (given n g));
    stack_none = λ i. free.stack_none (held n i);
  }));
  single = keeps.single h.single;
  count = h.count;
}

pub turn_minded : (k : ℕ) (a b : Activity) (below : List Activity) (before after : List Object) (names : List (Option Val)) (moved : List ℕ)
    → Keeps before after moved → Turned a b moved → Minded k before names (a ∷ below) → Minded k after names (b ∷ below)
turn_minded k a b below before after names moved keeps t h = stack_minded k before after names (a ∷ below) (b ∷ below) moved keeps
    (λ n m. either (Includes-append_cases (holds a) (flat_map holds below) n m) (λ i. Includes-append_left (holds b) (flat_map holds below) n (t.0 n i))
    (λ i. Includes-append_right (holds b) (flat_map holds below) n i))
    (λ n m. Includes-append_left (holds b) (flat_map holds below) n (t.1 n m))
    (λ n e. subst (λ d. (d || list_any (is_death_of n) below) ≡ true) (t.2 n) e) h

-- some references move to a release on top
pub give_minded : (k : ℕ) (references : List ℕ) (a b : Activity) (below : List Activity) (before after : List Object) (names : List (Option Val)) (moved : List ℕ) → Keeps before after moved
    → ((n : ℕ) → Includes (holds a) n → Includes references n ⊎ Includes (holds b) n) → ((n : ℕ) → Includes moved n → Includes references n
    ⊎ Includes (holds b) n) → ((n : ℕ) → is_death_of n a ≡ is_death_of n b)
    → Minded k before names (a ∷ below) → Minded k after names (Releasing references ∷ b ∷ below)
give_minded k refs a b below before after names moved keeps held given deaths h = stack_minded k before after names (a ∷ below) (Releasing refs ∷ b ∷ below) moved keeps
    (λ n m. either (Includes-append_cases (holds a) (flat_map holds below) n m) (λ i. placed_in n (held n i))
    (λ i. Includes-append_right refs (holds b ++ flat_map holds below) n (Includes-append_right (holds b) (flat_map holds below) n i)))
    (λ n m. placed_in n (given n m))
    (λ n e. subst (λ d. (d || list_any (is_death_of n) below) ≡ true) (deaths n) e) h
  where
    placed_in : (n : ℕ) → Includes refs n ⊎ Includes (holds b) n → Includes (refs ++ (holds b ++ flat_map holds below)) n
    placed_in n (inl i) = Includes-append_left refs (holds b ++ flat_map holds below) n i
    placed_in n (inr i) = Includes-append_right refs (holds b ++ flat_map holds below) n (Includes-append_left (holds b) (flat_map holds below) n i)

-- an activity that holds nothing and is no death ends
pub end_minded : (k : ℕ) (a : Activity) (below : List Activity) (before after : List Object) (names : List (Option Val)) → Keeps before after [] → holds a ≡ []
    → ((n : ℕ) → is_death_of n a ≡ false) → Minded k before names (a ∷ below) → Minded k after names below
end_minded k a below before after names keeps none deaths h = stack_minded k before after names (a ∷ below) below [] keeps
    (λ n m. subst (λ hs. Includes (hs ++ flat_map holds below) n) none m) (λ n m. absurd m) (λ n e. subst (λ d. (d || list_any (is_death_of n) below) ≡ true) (deaths n) e) h

pub push_minded : (k : ℕ) (a : Activity) (objects : List Object) (names : List (Option Val)) (stack : List Activity) → ((n : ℕ) → is_death_of n a ≡ false)
    → Minded k objects names stack → Minded k objects names (a ∷ stack)
push_minded k a objects names stack deaths h = stack_minded k objects objects names stack (a ∷ stack) [] (keeps_same objects)
    (λ n m. Includes-append_right (holds a) (flat_map holds stack) n m) (λ n m. absurd m) (λ n e. subst (λ d. (d || list_any (is_death_of n) stack) ≡ true) (sym (deaths n)) e) h

pub starts_minded : (k : ℕ) (script : Script) (spec : FrameSpec) (u : World) → IsMinded k u → IsMinded k (start_frame script spec u).1
starts_minded k script spec u h = starts_either (λ lines. IsMinded k) script spec u (record { minds = h.minds; single = h.single; count = h.count })
    (λ some. push_minded k (begun_frame script spec) u.objects u.names u.stack (λ n. refl) h)

-- an object is unheld exactly if its in-degree is 0
pub free_degree : (w : World) (o : ℕ) → IsFree w.objects w.names w.stack o → in_degree w o ≡ 0
free_degree w o f = no_times o (holdings w) (λ m. either (Includes-append_cases (name_holdings w.names ++ (1 ∷ []) ++ entry_holdings (graph_of w.objects))
    (flat_map holds w.stack) o m) front f.stack_none)
  where
    named : ¬ Includes (name_holdings w.names ++ (1 ∷ [])) o
    named m = either (Includes-append_cases (name_holdings w.names) (1 ∷ []) o m) f.names_none (λ k. either k (λ e. f.root_not (sym e)) (λ no. no))

    front : ¬ Includes (name_holdings w.names ++ (1 ∷ []) ++ entry_holdings (graph_of w.objects)) o
    front m = either (Includes-append_cases (name_holdings w.names ++ (1 ∷ [])) (entry_holdings (graph_of w.objects)) o m) named (λ k. let x = entry_holder w.objects o k in f.entries_none x.0 x.1 x.2)

pub degree_free : (w : World) (o : ℕ) → in_degree w o ≡ 0 → IsFree w.objects w.names w.stack o
degree_free w o e = let h = none_holds w o e in record { names_none = h.names; root_not = h.root; entries_none = h.entries; stack_none = h.stack }
