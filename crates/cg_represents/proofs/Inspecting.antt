-- What the inspection commands report: numbers, and objects that are held or live.
use Rattle.std.proofs.Common.{refl, ap, subst, ℕ, inl, inr, ◌⊎◌, List, [], ◌∷◌, ◌++◌, map, flat_map, arith}
use Rattle.std.specs.Prelude.{filter}
use Rattle.cg_graph.specs.declared.Edge.{Edge}
use Rattle.cg_graph.specs.Member.{Includes}
use Rattle.cg_graph.specs.Value.{references}
use Rattle.cg_graph.specs.Object.{Object, serials}
use Rattle.cg_graph.specs.Holdings.{name_holdings, entry_holdings, graph_of}
use Rattle.cg_graph.specs.Reach.{edges}
use Rattle.cg_graph.specs.Path.{IsHeldElse, LeadsTo, refers_to}
use Rattle.cg_graph.proofs.Members.{either, Includes-append_left, Includes-append_right, Includes-append_cases, Includes-map, Includes-map_cases, Includes-filter_cases}
use Rattle.cg_machine.specs.declared.event.Event.{Event}
use Rattle.cg_machine.specs.declared.event.Event.TheVariants.{Referent, Referrer, Listed, Held, Via, Unreachable}
use Rattle.cg_machine.specs.World.{World}
use Rattle.cg_machine.specs.Holdings.{holds, holdings, other_holdings}
use Rattle.cg_machine.specs.Effects.{referrers}
use Rattle.cg_machine.specs.Commands.{Explanation, HasPath, HasNone}
use Rattle.cg_represents.proofs.Lists.{Includes-of_count, entry_held}

-- something holds an object, or it is there
abbrev pub IsThere : World → ℕ → Type 0
IsThere w n = Includes (holdings w) n ⊎ Includes (serials w.objects) n

-- a line of an inspection
abbrev pub TellsThere : World → Event → Type 0
TellsThere w (Referent n) = IsThere w n
TellsThere w (Referrer n) = IsThere w n
TellsThere w (Listed n) = Unit {0}
TellsThere w (Held n) = IsThere w n
TellsThere w (Via n) = IsThere w n
TellsThere w Unreachable = Unit {0}
TellsThere w line = ⊥

abbrev pub AllTellThere : World → List Event → Type 0
AllTellThere w lines = (line : Event) → Includes lines line → TellsThere w line

held_in_entry : (w : World) (x : Object) (n : ℕ) → Includes w.objects x → Includes (references x.entries) n → Includes (holdings w) n
held_in_entry w x n m h = Includes-append_left (name_holdings w.names ++ (1 ∷ []) ++ entry_holdings (graph_of w.objects)) (flat_map holds w.stack) n
    (Includes-append_right (name_holdings w.names ++ (1 ∷ [])) (entry_holdings (graph_of w.objects)) n (entry_held w.objects x n m h))

-- what is held by a root or an activity
held_else : (w : World) (o n : ℕ) → IsHeldElse (other_holdings w) o n → Includes (holdings w) n
held_else w o n held =
    either (Includes-append_cases (name_holdings w.names ++ (1 ∷ [])) (flat_map holds w.stack) n (Includes-of_count n (name_holdings w.names ++ (1 ∷ [])
    ++ flat_map holds w.stack) (omega (arith, held))))
    (λ m. Includes-append_left (name_holdings w.names ++ (1 ∷ []) ++ entry_holdings (graph_of w.objects)) (flat_map holds w.stack) n
    (Includes-append_left (name_holdings w.names ++ (1 ∷ [])) (entry_holdings (graph_of w.objects)) n m))
    (λ m. Includes-append_right (name_holdings w.names ++ (1 ∷ []) ++ entry_holdings (graph_of w.objects)) (flat_map holds w.stack) n m)

edge_holder : (objects : List Object) (from to : ℕ) → Includes (edges (graph_of objects)) (record { from = from; to = to }) → (x : Object) × Includes objects x × Includes (references x.entries) to
edge_holder [] from to m = absurd m
edge_holder (x ∷ objects) from to m =
    either (Includes-append_cases (map (λ (r : ℕ). record { from = x.serial; to = r }) (references x.entries)) (edges (graph_of objects)) (record { from = from; to = to }) m)
    (λ k. let e = Includes-map_cases (λ (r : ℕ). record { from = x.serial; to = r }) (references x.entries) (record { from = from; to = to }) k in
    (x, inl refl, subst (Includes (references x.entries)) (ap (λ (edge : Edge). edge.to) e.2) e.1))
    (λ k. let f = edge_holder objects from to k in (f.0, inr f.1, f.2))

-- the rest of a path
led_there : (w : World) (from : ℕ) (path : List ℕ) (o : ℕ) → LeadsTo (edges (graph_of w.objects)) from path o → AllTellThere w (map Via path)
led_there w from [] o leads line m = absurd m
led_there w from (next ∷ path) o leads line m =
    let f = edge_holder w.objects from next leads.0 in
    either m (λ e. subst (TellsThere w) e (inl (held_in_entry w f.0 next f.1 f.2))) (λ k. led_there w next path o leads.1 line k)

pub explained : (w : World) (o : ℕ) (lines : List Event) → Explanation w o lines → AllTellThere w lines
explained w o lines (HasPath [] short) line m = absurd short.leads
explained w o lines (HasPath (first ∷ path) short) line m =
    either m (λ e. subst (TellsThere w) e (inl (held_else w o first short.leads.0))) (λ k. led_there w first path o short.leads.1 line k)
explained w o lines (HasNone none) line m = either m (λ e. subst (TellsThere w) e tt) (λ k. absurd k)

listed : (w : World) (tells : ℕ → Event) (objects : List ℕ) (count : ℕ) → ((n : ℕ) → Includes objects n → TellsThere w (tells n)) → AllTellThere w (map tells objects ++ Listed count ∷ [])
listed w tells objects count there line m =
    either (Includes-append_cases (map tells objects) (Listed count ∷ []) line m)
    (λ k. let e = Includes-map_cases tells objects line k in subst (TellsThere w) e.2 (there e.0 e.1))
    (λ k. either k (λ e. subst (TellsThere w) e tt) (λ no. absurd no))

pub referents_there : (w : World) (x : Object) (count : ℕ) → Includes w.objects x → AllTellThere w (map Referent (references x.entries) ++ Listed count ∷ [])
referents_there w x count m = listed w (λ n. Referent n) (references x.entries) count (λ n h. inl (held_in_entry w x n m h))

pub referrers_there : (w : World) (o count : ℕ) → AllTellThere w (map Referrer (referrers w o) ++ Listed count ∷ [])
referrers_there w o count = listed w (λ n. Referrer n) (referrers w o) count (λ n h.
    let x = Includes-map_cases (λ (y : Object). y.serial) (filter (refers_to o) w.objects) n h in
    let m = Includes-filter_cases (refers_to o) w.objects x.0 x.1 in
    inr (subst (Includes (serials w.objects)) x.2 (Includes-map (λ (y : Object). y.serial) w.objects x.0 m.0)))
