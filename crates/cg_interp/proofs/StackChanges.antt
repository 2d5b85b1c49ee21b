-- What a heap represents when an activity is pushed, popped, or replaced.
use Rattle.std.proofs.Common.{◌≡◌, refl, sym, ◌∙◌, ap, subst, ℕ, ◌+◌, ◌<◌, inr, List, [], ◌∷◌, ◌++◌, Option, None, Some, arith, append-nil, Bool}
use Rattle.std.specs.Prelude.{flat_map, option_map}
use Rattle.std.specs.FinMap as fin
use Rattle.cg_script.specs.declared.Command.{Command}
use Rattle.cg_graph.specs.Holdings.{occurrences}
use Rattle.cg_graph.specs.Store.{Store, Node, IsLive}
use Rattle.cg_graph.specs.Changes.{held, more}
use Rattle.cg_graph.proofs.Maps.{same_map, get-mapped}
use Rattle.cg_graph.proofs.Objects.{objects-same, occurrences-append}
use Rattle.cg_graph.proofs.Members.{either}
use Rattle.cg_heap.proofs.HoldLemmas.{outside-held}
use Rattle.cg_machine.specs.World.{World, Activity, TopLevel, Framed, Releasing, Dying, Collecting, Frame, Death, Collection, Running, push, with_stack, ShuttingDown}
use Rattle.cg_machine.specs.Holdings.{holds}
use Rattle.cg_script.specs.declared.Script.{Script}
use Rattle.cg_machine.specs.declared.event.Event.{Event}
use Rattle.cg_machine.specs.Run.{StepOf}
use Rattle.cg_represents.specs.Represents.{Represents, Goes}
use Rattle.cg_represents.proofs.Representing.{Matches, matches, represents}

-- no references hold nothing
pub held-none : (store : Store) → held [] store ≡ store
held-none store = λ i. record store { nodes = same_map (held [] store).nodes store.nodes (λ q. get-mapped (λ s n. more 0 n) store.nodes q ∙ known (fin.get store.nodes q)) i }
  where
    known : (x : Option Node) → option_map (more 0) x ≡ x
    known None = refl
    known (Some n) = let same : n.outside + 0 ≡ n.outside = omega arith in ap (λ k. Some (record n { outside = k })) same

-- neither a death nor a collection
pub record IsPlain (a : Activity) : Type 0 where
  pub no_death : (d : Death) → a ≡ Dying d → ⊥
  pub no_collection : (c : Collection) → a ≡ Collecting c → ⊥

pub plain_script : (commands : List Command) → IsPlain (TopLevel commands)
plain_script commands = record { no_death = λ d e. cc; no_collection = λ c e. cc }

pub plain_frame : (f : Frame) → IsPlain (Framed f)
plain_frame f = record { no_death = λ d e. cc; no_collection = λ c e. cc }

pub plain_shutdown : (started : Bool) → IsPlain (ShuttingDown started)
plain_shutdown started = record { no_death = λ d e. cc; no_collection = λ c e. cc }

pub plain_release : (references : List ℕ) → IsPlain (Releasing references)
plain_release references = record { no_death = λ d e. cc; no_collection = λ c e. cc }

-- One plain activity more or less changes only the holds.
module _ (store : Store) (w : World) (a : Activity) (plain : IsPlain a) (below : List Activity) where
  pub pushed : Matches store (with_stack below w) → Matches store (with_stack (a ∷ below) w)
  pushed m = record {
    objects = m.objects;
    next_serial = m.next_serial;
    names = m.names;
    deaths = λ d i. m.deaths d (either i (λ e. absurd (plain.no_death d e)) (λ k. k));
    no_others = λ r i waits. let found = m.no_others r i waits in (found.0, inr found.1, found.2);
    collection = λ c i. m.collection c (either i (λ e. absurd (plain.no_collection c e)) (λ k. k));
  }

  pub popped : Matches store (with_stack (a ∷ below) w) → Matches store (with_stack below w)
  popped m = record {
    objects = m.objects;
    next_serial = m.next_serial;
    names = m.names;
    deaths = λ d i. m.deaths d (inr i);
    no_others = λ r i waits. let found = m.no_others r i waits in (found.0, either found.1 (λ e. absurd (plain.no_death found.0 e)) (λ k. k), found.2);
    collection = λ c i. m.collection c (inr i);
  }

-- The heap represents a world without a plain activity that holds nothing, and with another one on top that holds what
-- the first one held.
pub replaced : (store : Store) (w : World) (a b : Activity) (below : List Activity) → IsPlain a → IsPlain b → holds b ≡ holds a
    → Represents store (with_stack (a ∷ below) w) → Represents store (with_stack (b ∷ below) w)
replaced store w a b below plain_a plain_b same r =
    represents store (with_stack (b ∷ below) w)
    (pushed store w b plain_b below (popped store w a plain_a below (matches store (with_stack (a ∷ below) w) r)))
    (λ s. r.outside s ∙ ap (λ l. occurrences s (l ++ flat_map holds below)) (sym same))

pub taken : (store : Store) (w : World) (a : Activity) (below : List Activity) → IsPlain a → holds a ≡ [] → Represents store (with_stack (a ∷ below) w) → Represents store (with_stack below w)
taken store w a below plain none r =
    represents store (with_stack below w) (popped store w a plain below (matches store (with_stack (a ∷ below) w) r))
    (λ s. r.outside s ∙ ap (λ l. occurrences s (l ++ flat_map holds below)) none)

-- what a new plain activity holds is held from outside
pub holding : (store : Store) (w : World) (a : Activity) (refs : List ℕ) → IsPlain a → holds a ≡ refs → ((s : ℕ) → 0 < occurrences s refs → IsLive store s)
    → Represents store w → Represents (held refs store) (push a w)
holding store w a refs plain is live r =
    represents (held refs store) (push a w)
    (pushed (held refs store) w a plain w.stack (record {
      objects = objects-same store (λ s n. more (occurrences s refs) n) (λ s n. refl) ∙ r.objects;
      next_serial = r.next_serial;
      names = r.names;
      deaths = r.deaths;
      no_others = r.no_others;
      collection = r.collection;
    }))
    (λ s. let same : occurrences s (holds a ++ flat_map holds w.stack) ≡ occurrences s (refs ++ flat_map holds w.stack) = ap (λ l. occurrences s (l ++ flat_map holds w.stack)) is in
    omega (arith, same, outside-held refs store s (live s), r.outside s, occurrences-append s refs (flat_map holds w.stack)))

-- a world is that world with its own stack
pub at_stack : (P : World → Type 0) (w : World) (stack : List Activity) → w.stack ≡ stack → P (with_stack stack w) → P w
at_stack P w stack top p = subst (λ s. P (with_stack s w)) (sym top) p

pub spelled : (P : World → Type 0) (w : World) (stack : List Activity) → w.stack ≡ stack → P w → P (with_stack stack w)
spelled P w stack top p = subst (λ s. P (with_stack s w)) top p

-- one step of the machine
abbrev pub one_step : (script : Script) (w : World) (events : List Event) (after : World) → w.outcome ≡ Running → StepOf script w w.stack events after → Goes script w events after
one_step script w events after running step = record {
  steps = record { events = events; world = after } ∷ [];
  run = (record { running = running; step = step }, tt);
  prints = append-nil events;
  ends = refl;
  alone = tt;
}
