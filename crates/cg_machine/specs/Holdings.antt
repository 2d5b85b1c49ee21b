-- What a world holds, and how often. (Developer guide, "reference counting". A referent is not held: weak references
-- do not keep their object alive, PEP 205.)
use Rattle.std.specs.Prelude.{ℕ, Bool, true, false, ◌==◌, List, [], ◌∷◌, ◌++◌, Option, flat_map, option_to_list}
use Rattle.std.specs.List.{list_any}
use Rattle.cg_graph.specs.Holdings.{name_holdings, occurrences, entry_holdings, graph_of}
use Rattle.cg_machine.specs.declared.event.FrameSort.{FrameSort}
use Rattle.cg_machine.specs.declared.event.FrameSort.TheVariants.{Del, Legacy, Callback, Call}
use Rattle.cg_machine.specs.World.{World, Activity, TopLevel, Framed, Releasing, Dying, Collecting, ShuttingDown, DyingPhase, Finalizer, AfterFinalizer, Clearing, Calling, AfterCall, LegacyFinalizer, AfterLegacy, Detaching, Emptying, CollectPhase, Start, WeakClearing, WeakCalling, AfterCallback, AfterRelease, Finalizing, AfterFinalizing, Split, Turns, Turn, AfterTurn, Ending}

-- A frame holds its function if a command called it. The locals of other frames are held by the activity that started
-- them.
abbrev pub call_holds : FrameSort → Option ℕ → List ℕ
call_holds Del function = []
call_holds Legacy function = []
call_holds Callback function = []
call_holds Call function = option_to_list function

-- a death holds its object while the object's own code runs, and the weak references and the callback that it calls
abbrev pub dying_holds : ℕ → DyingPhase → List ℕ
dying_holds o Finalizer = []
dying_holds o AfterFinalizer = o ∷ []
dying_holds o (Clearing waiting) = waiting
dying_holds o (Calling waiting) = waiting
dying_holds o (AfterCall weak callback waiting) = callback ∷ weak ∷ waiting
dying_holds o LegacyFinalizer = []
dying_holds o AfterLegacy = o ∷ []
dying_holds o Detaching = []
dying_holds o Emptying = []

-- a collection holds the waiting weak references, and the object that it finalizes or clears
abbrev pub collect_holds : CollectPhase → List ℕ
collect_holds Start = []
collect_holds (WeakClearing waiting) = waiting
collect_holds (WeakCalling waiting) = waiting
collect_holds (AfterCallback weak waiting) = weak ∷ waiting
collect_holds (AfterRelease weak waiting) = waiting
collect_holds Finalizing = []
collect_holds (AfterFinalizing o) = o ∷ []
collect_holds Split = []
collect_holds Turns = []
collect_holds (Turn o) = o ∷ []
collect_holds (AfterTurn o) = []
collect_holds Ending = []

-- what an activity holds
abbrev pub holds : Activity → List ℕ
holds (TopLevel commands) = []
holds (Framed f) = call_holds f.sort f.function
holds (Releasing references) = references
holds (Dying d) = dying_holds d.object d.phase
holds (Collecting c) = collect_holds c.phase
holds (ShuttingDown started) = []

-- The holdings of a world: an object once for each name, garbage root (which holds the garbage list), entry or activity
-- that holds it. Dying objects still hold what their entries hold.
abbrev pub holdings : World → List ℕ
holdings w = name_holdings w.names ++ (1 ∷ []) ++ entry_holdings (graph_of w.objects) ++ flat_map holds w.stack

-- how often names, the garbage root and activities hold an object
abbrev pub other_holdings : World → ℕ → ℕ
other_holdings w o = occurrences o (name_holdings w.names ++ (1 ∷ []) ++ flat_map holds w.stack)

-- how often an object is held
abbrev pub in_degree : World → ℕ → ℕ
in_degree w o = occurrences o (holdings w)

-- an activity is the death of an object
abbrev pub is_death_of : ℕ → Activity → Bool
is_death_of o (TopLevel commands) = false
is_death_of o (Framed f) = false
is_death_of o (Releasing references) = false
is_death_of o (Dying d) = d.object == o
is_death_of o (Collecting c) = false
is_death_of o (ShuttingDown started) = false

-- a death of the object is on the stack
abbrev pub is_dying : World → ℕ → Bool
is_dying w o = list_any (is_death_of o) w.stack

-- whether an activity is a collection
abbrev pub is_collection : Activity → Bool
is_collection (TopLevel commands) = false
is_collection (Framed f) = false
is_collection (Releasing references) = false
is_collection (Dying d) = false
is_collection (Collecting c) = true
is_collection (ShuttingDown started) = false

-- a collection is on the stack
abbrev pub is_collecting : World → Bool
is_collecting w = list_any is_collection w.stack
