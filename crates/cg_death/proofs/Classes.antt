-- The class of an object in a heap, and its finalizers.
use Rattle.std.proofs.Common.{◌≡◌, ◌≢◌, refl, sym, ◌∙◌, ap, ℕ, Bool, Option, Some, None, IsSome}
use Rattle.std.specs.Prelude.{IfSome, if◌then◌else◌, option_map, option_and_then, slice_get}
use Rattle.std.specs.FinMap as fin
use Rattle.cg_value.specs.declared.KindCode.{KindCode}
use Rattle.cg_value.specs.declared.KindCode.TheVariants.{Inst}
use Rattle.cg_script.specs.declared.Script.{Script}
use Rattle.cg_script.specs.declared.ClassDef.{ClassDef}
use Rattle.cg_graph.specs.Object.{object_at}
use Rattle.cg_graph.specs.Store.{Store, Node, IsLive, objects_of, object_from}
use Rattle.cg_graph.proofs.Objects.{object-at}
use Rattle.cg_machine.specs.Program.{classes, class_of, class_number, finalizer_of}
use Rattle.cg_machine.specs.Dying.{finalizer_to_run}

-- only instances have a class
no_class : (code : KindCode) (class : Option ℕ) → code ≢ Inst → class_number code class ≡ None
no_class Inst class other = absurd (other refl)
no_class code class other = refl

module _ (script : Script) (store : Store) (o : ℕ) (live : IsLive store o) where
  -- what a kind and a number say of an object's finalizers
  pub class-at : (pick : ClassDef → Option ℕ) (code : KindCode) (class k : Option ℕ) → IfSome (fin.get store.nodes o) (λ n. code ≡ n.code) → IfSome (fin.get store.nodes o) (λ n. class ≡ n.class)
      → code ≡ Inst → class ≡ k → option_and_then (λ x. option_and_then pick (class_of script x)) (object_at (objects_of store) o)
      ≡ option_and_then pick (option_and_then (slice_get (classes script.items)) k)
  class-at pick code class k coded classed inst is = ap (option_and_then (λ x. option_and_then pick (class_of script x))) (object-at store o) ∙ known (fin.get store.nodes o) live coded classed
    where
      known : (x : Option Node) → IsSome x → IfSome x (λ n. code ≡ n.code) → IfSome x (λ n. class ≡ n.class)
          → option_and_then (λ x. option_and_then pick (class_of script x)) (option_map (object_from store.rows o) x) ≡ option_and_then pick (option_and_then (slice_get (classes script.items)) k)
      known None h e f = cc
      known (Some n) h e f = λ i. option_and_then pick (option_and_then (slice_get (classes script.items)) (class_number ((sym e ∙ inst) i) ((sym f ∙ is) i)))

  -- an object other than an instance has none
  pub none-at : (pick : ClassDef → Option ℕ) (code : KindCode) → code ≢ Inst → IfSome (fin.get store.nodes o) (λ n. code ≡ n.code)
      → option_and_then (λ x. option_and_then pick (class_of script x)) (object_at (objects_of store) o) ≡ None
  none-at pick code other coded = ap (option_and_then (λ x. option_and_then pick (class_of script x))) (object-at store o) ∙ known (fin.get store.nodes o) live coded
    where
      known : (x : Option Node) → IsSome x → IfSome x (λ n. code ≡ n.code) → option_and_then (λ x. option_and_then pick (class_of script x)) (option_map (object_from store.rows o) x) ≡ None
      known None h e = cc
      known (Some n) h e = ap (λ k. option_and_then pick (option_and_then (slice_get (classes script.items)) k)) (no_class n.code n.class (λ i. other (e ∙ i)))

  -- the finalizer that is still to run
  pub to_run-at : (finalized : Bool) → IfSome (fin.get store.nodes o) (λ n. finalized ≡ n.finalized)
      → option_and_then (finalizer_to_run script) (object_at (objects_of store) o) ≡ (if finalized then None else option_and_then (finalizer_of script) (object_at (objects_of store) o))
  to_run-at finalized is =
      ap (option_and_then (finalizer_to_run script)) (object-at store o)
      ∙ known (fin.get store.nodes o) live is
      ∙ ap (λ x. if finalized then None else option_and_then (finalizer_of script) x) (sym (object-at store o))
    where
      known : (x : Option Node) → IsSome x → IfSome x (λ n. finalized ≡ n.finalized) → option_and_then (finalizer_to_run script)
          (option_map (object_from store.rows o) x) ≡ (if finalized then None else option_and_then (finalizer_of script) (option_map (object_from store.rows o)
          x))
      known None h e = cc
      known (Some n) h e = ap (λ b. if b then None else finalizer_of script (object_from store.rows o n)) (sym e)
