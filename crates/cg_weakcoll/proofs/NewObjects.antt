-- A new object is held only by the name that it is bound to.
use Rattle.std.proofs.Common.{◌≡◌, ◌≢◌, refl, sym, ◌∙◌, ap, subst, ℕ, zero, suc, ◌<◌, inl, List, [], ◌∷◌, ◌++◌, Option, Some, None, arith}
use Rattle.std.specs.Prelude.{flat_map, slice_set}
use Rattle.std.proofs.lemmas.Option.{same_Some}
use Rattle.cg_value.specs.declared.KindCode.{KindCode}
use Rattle.cg_value.specs.declared.KindCode.TheVariants.{List as ListKind, Inst}
use Rattle.cg_value.specs.declared.Val.{Val}
use Rattle.cg_value.specs.declared.Val.TheVariants.{Ref}
use Rattle.cg_value.specs.declared.Entry.{Entry}
use Rattle.cg_script.specs.declared.Script.{Script}
use Rattle.cg_script.specs.declared.Command.{Command}
use Rattle.cg_graph.specs.Member.{Includes}
use Rattle.cg_graph.specs.Object.{Object, first_place, serials}
use Rattle.cg_graph.specs.Holdings.{entry_holdings, graph_of, name_holdings}
use Rattle.cg_graph.specs.Value.{references, references_of_value}
use Rattle.cg_graph.proofs.Members.{either, Includes-append_cases, Includes-append_left, Includes-append_right, Includes-map}
use Rattle.cg_machine.specs.declared.event.FrameSort.{FrameSort}
use Rattle.cg_machine.specs.declared.event.FrameSort.TheVariants.{Callback, Call as CallFrame}
use Rattle.cg_machine.specs.World.{World, Activity, Framed, Frame, Releasing, push}
use Rattle.cg_machine.specs.Holdings.{holdings, holds}
use Rattle.cg_machine.specs.Effects.{bound, with_new}
use Rattle.cg_machine.specs.Operands.{self_in, weak_in}
use Rattle.cg_laws.proofs.Unreferred.{lives_within}
use Rattle.cg_laws.proofs.Invariants.{Takes, on}
use Rattle.cg_represents.proofs.Lists.{entry_held}
use Rattle.cg_laws.specs.Apart.{IsFound}
use Rattle.cg_weakcoll.proofs.HiddenObjects.{Hidden, IsNoLocal, held_by}
use Rattle.cg_weakcoll.proofs.HiddenObjectSteps.{changed_hidden, pushed, set_free, set_other, taken_locals}
use Rattle.cg_weakcoll.proofs.KnownOfRuns.{Known}

-- nothing refers to an object
pub record Unborn (o : ℕ) (w : World) : Type 0 where
  pub names : (x : ℕ) → ¬ Includes (held_by w.names x) o
  pub root : o ≢ 1
  pub entries : (x : Object) → Includes w.objects x → ¬ Includes (references x.entries) o
  pub referents : (x : Object) → Includes w.objects x → x.referent ≢ Some o
  pub locals : (f : Frame) → Includes w.stack (Framed f) → IsNoLocal o f.sort f.subject
  pub absent : (x : Object) → Includes w.objects x → x.serial ≢ o

-- the value of a name, among what names hold
pub held_named : (names : List (Option Val)) (x o : ℕ) → Includes (held_by names x) o → Includes (name_holdings names) o
held_named [] x o m = absurd m
held_named (v ∷ names) zero o m = Includes-append_left (references_of_value v) (name_holdings names) o m
held_named (v ∷ names) (suc x) o m = Includes-append_right (references_of_value v) (name_holdings names) o (held_named names x o m)

module _ (script : Script) (budget : ℕ) (w : World) (k : Known script budget w) where
  -- what is held is older than the next object
  pub lives_below : (o : ℕ) → Includes (serials w.objects) o → o < w.next_serial
  lives_below o m = (lives_within 1 w.next_serial w.objects o k.fit.sound.rises m).1

  pub held_below : (o : ℕ) → Includes (holdings w) o → o < w.next_serial
  held_below o m = lives_below o (k.lawful.orderly.held_live o m)

  pub named_below : (x o : ℕ) → Includes (held_by w.names x) o → o < w.next_serial
  named_below x o m = held_below o (Includes-append_left (name_holdings w.names ++ (1 ∷ []) ++ entry_holdings (graph_of w.objects)) (flat_map holds w.stack) o
      (Includes-append_left (name_holdings w.names ++ (1 ∷ [])) (entry_holdings (graph_of w.objects)) o (Includes-append_left (name_holdings w.names) (1 ∷ []) o (held_named w.names x o m))))

  pub entry_below : (x : Object) (o : ℕ) → Includes w.objects x → Includes (references x.entries) o → o < w.next_serial
  entry_below x o m i = held_below o (Includes-append_left (name_holdings w.names ++ (1 ∷ []) ++ entry_holdings (graph_of w.objects)) (flat_map holds w.stack) o
      (Includes-append_right (name_holdings w.names ++ (1 ∷ [])) (entry_holdings (graph_of w.objects)) o (entry_held w.objects x o m i)))

  root_below : 1 < w.next_serial
  root_below = held_below 1 (Includes-append_left (name_holdings w.names ++ (1 ∷ []) ++ entry_holdings (graph_of w.objects)) (flat_map holds w.stack) 1
      (Includes-append_left (name_holdings w.names ++ (1 ∷ [])) (entry_holdings (graph_of w.objects)) 1 (Includes-append_right (name_holdings w.names) (1 ∷ []) 1 (inl refl))))

  pub member_below : (x : Object) → Includes w.objects x → x.serial < w.next_serial
  member_below x m = lives_below x.serial (Includes-map (λ (z : Object). z.serial) w.objects x m)

  local_old : (f : Frame) (sort : FrameSort) → f.sort ≡ sort → Includes w.stack (Framed f) → IsNoLocal w.next_serial sort f.subject
  local_old f Callback is m = (
    λ e. let no : None ≡ Some w.next_serial = e in cc,
    λ e. let low = lives_below f.subject
        (k.lawful.orderly.locals f m (λ c. let no : Callback ≡ CallFrame = sym is ∙ c in cc)) in let s = same_Some f.subject w.next_serial e
        in omega (arith, low, s),
  )
  local_old f CallFrame is m = (λ e. let no : None ≡ Some w.next_serial = e in cc, λ e. let no : None ≡ Some w.next_serial = e in cc)
  local_old f sort is m = (
    λ e. let low = lives_below f.subject (k.lawful.orderly.locals f m (λ c. let no : sort ≡ CallFrame = sym is ∙ c in cc))
        in let s = same_Some f.subject w.next_serial e in omega (arith, low, s),
    λ e. let no : None ≡ Some w.next_serial = e in cc,
  )

  pub unborn : Unborn w.next_serial w
  unborn = record {
    names = λ x m. let low = named_below x w.next_serial m in omega (arith, low);
    root = λ e. let low = root_below in omega (arith, low, e);
    entries = λ x m i. let low = entry_below x w.next_serial m i in omega (arith, low);
    referents = λ x m e. let z = (k.lawful.orderly.referents x m w.next_serial e).1 in let low = member_below z.0 z.1 in let s = z.2 in omega (arith, low, s);
    locals = λ f m. local_old f f.sort refl m;
    absent = λ x m e. let low = member_below x m in omega (arith, low, e);
  }

pub unborn_taken : (o : ℕ) (command : Command) (a b : Activity) (below : List Activity) (v : World) → Takes command a b → Unborn o (on a below v) → Unborn o (on b below v)
unborn_taken o command a b below v takes h = record {
  names = h.names;
  root = h.root;
  entries = h.entries;
  referents = h.referents;
  locals = taken_locals o command a b below takes h.locals;
  absent = h.absent;
}

-- the new object is no instance
first_apart : (kind : KindCode) → ¬ IsFound (first_place kind)
first_apart ListKind f = f
first_apart k f = f

pub new_hidden : (n : ℕ) (u : World) (kind : KindCode) (class : Option ℕ) (entries : List Entry) (referent : Option ℕ) (given : List ℕ) → kind ≢ Inst
    → ¬ Includes (references entries) u.next_serial → referent ≢ Some u.next_serial → Unborn u.next_serial u
    → Hidden n u.next_serial (push (Releasing given) (bound (with_new u kind class entries referent) n (Some (Ref u.next_serial))))
new_hidden n u kind class entries referent given apart free other h = record {
  names = λ x e m. h.names x (subst (λ hs. Includes hs u.next_serial) (set_other u.names n x (Some (Ref u.next_serial)) e) m);
  root = h.root;
  made = omega arith;
  entries = λ y m. either (Includes-append_cases u.objects (_ ∷ []) y m) (h.entries y)
      (λ k. either k (λ i. subst (λ (z : Object). ¬ Includes (references z.entries) u.next_serial) i free) (λ none. absurd none));
  referents = λ y m. either (Includes-append_cases u.objects (_ ∷ []) y m) (h.referents y) (λ k. either k (λ i. subst (λ (z : Object). z.referent ≢ Some u.next_serial) i other) (λ none. absurd none));
  locals = λ f m. either m (λ e. cc) (h.locals f);
  apart = λ y m s. either (Includes-append_cases u.objects (_ ∷ []) y m) (λ k. absurd (h.absent y k s))
      (λ k. either k (λ i. subst (λ (z : Object). ¬ IsFound z.place) i (first_apart kind)) (λ none. absurd none));
  kind = λ y m s. either (Includes-append_cases u.objects (_ ∷ []) y m) (λ k. absurd (h.absent y k s)) (λ k. either k (λ i. subst (λ (z : Object). z.code ≢ Inst) i apart) (λ none. absurd none));
}

-- an older hidden object, where a new object is bound to its own name or another
pub old_hidden : (n o name : ℕ) (u : World) (kind : KindCode) (class : Option ℕ) (entries : List Entry) (referent : Option ℕ) (given : List ℕ)
    → ¬ Includes (references entries) o → referent ≢ Some o → Hidden n o u
    → Hidden n o (push (Releasing given) (bound (with_new u kind class entries referent) name (Some (Ref u.next_serial))))
old_hidden n o name u kind class entries referent given free other h = pushed n o (Releasing given) (bound (with_new u kind class entries referent) name (Some (Ref u.next_serial))) (λ f e. cc)
    (changed_hidden n o u (bound (with_new u kind class entries referent) name (Some (Ref u.next_serial))) names (omega arith) refl objects h)
  where
    low : o < u.next_serial
    low = h.made

    fresh : ¬ Includes (references_of_value (Some (Ref u.next_serial))) o
    fresh m = either m (λ i. absurd (omega (arith, low, i))) (λ none. none)

    names : (x : ℕ) → x ≢ n → ¬ Includes (held_by (slice_set u.names name (Some (Ref u.next_serial))) x) o
    names x e = set_free u.names name x o (Some (Ref u.next_serial)) fresh (h.names x e)

    objects : (y : Object) → Includes (with_new u kind class entries referent).objects y → (¬ Includes (references y.entries) o) × (y.referent ≢ Some o)
        × (y.serial ≡ o → (¬ IsFound y.place) × (y.code ≢ Inst))
    objects y m = either (Includes-append_cases u.objects (_ ∷ []) y m) (λ k. (h.entries y k, h.referents y k, λ s. (h.apart y k s, h.kind y k s)))
        (λ k. either k (λ i. (
          subst (λ (z : Object). ¬ Includes (references z.entries) o) i free,
          subst (λ (z : Object). z.referent ≢ Some o) i other,
          λ s. absurd (omega (arith, low, s, ap (λ (z : Object). z.serial) i)),
        )) (λ none. absurd none))
