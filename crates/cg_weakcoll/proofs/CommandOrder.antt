-- The script's own commands are done in order.
use Rattle.std.proofs.Common.{◌≡◌, refl, sym, ◌∙◌, ap, subst, ℕ, ◌-◌, true, false, inl, inr, List, [], ◌∷◌, ◌++◌, Option, Some, None}
use Rattle.std.proofs.lemmas.List.{append_assoc}
use Rattle.cg_script.specs.declared.Script.{Script}
use Rattle.cg_script.specs.declared.Command.{Command}
use Rattle.cg_graph.specs.Member.{Includes}
use Rattle.cg_graph.proofs.Members.{either, Includes-append_cases}
use Rattle.cg_machine.specs.declared.event.Event.{Event}
use Rattle.cg_machine.specs.Program.{commands_of}
use Rattle.cg_machine.specs.World.{World, Activity, TopLevel, Framed, Releasing, ShuttingDown, opening, push}
use Rattle.cg_machine.specs.Commands.{new_collection}
use Rattle.cg_machine.specs.Due.{due}
use Rattle.cg_machine.specs.Run.{Run, Step, StepOf, StepTaken, TopLevelStep, last_world, world_after}
use Rattle.cg_laws.proofs.Invariants.{AreLast, FromFrame, FromTop, Takes, emptied, on}
use Rattle.cg_represents.proofs.Serials.{Rises}
use Rattle.cg_laws.proofs.ShapeLaws.{changes_leave}
use Rattle.cg_laws.proofs.Starting.{begun_frame, call_frame, called_either}
use Rattle.cg_weakcoll.specs.Exits.{ExitsAreCalledLastFirst, own_command, own_commands}
use Rattle.cg_weakcoll.proofs.ActivitySteps.{IsRaised}
use Rattle.cg_weakcoll.proofs.KnownOfRuns.{Acted, Asked, Began, Bottomed, Changed, Commanded, Done, Due, GaveUp, Lasted, Over, Stood, Stopped, Went, known_after, went}

-- an activity other than the script's own
abbrev IsAbove : Activity → Type 0
IsAbove (TopLevel commands) = ⊥
IsAbove (ShuttingDown started) = ⊥
IsAbove a = Unit {0}

abbrev AllAbove : List Activity → Type 0
AllAbove stack = (a : Activity) → Includes stack a → IsAbove a

-- none of the script's own commands is left
abbrev NoneLeft : List Activity → Type 0
NoneLeft stack = (commands : List Command) → Includes stack (TopLevel commands) → commands ≡ []

-- the commands done, and those left
data InOrder (all done : List Command) (stack : List Activity) : Type 0 where
  Left : (tops : List Activity) (commands : List Command) → stack ≡ tops ++ TopLevel commands ∷ [] → AllAbove tops → all ≡ done ++ commands → InOrder all done stack
  Ended : NoneLeft stack → (undone : List Command) → all ≡ done ++ undone → InOrder all done stack

raised_above : (script : Script) (w : World) (a : Activity) → IsRaised script w a → IsAbove a
raised_above script w (TopLevel commands) r = r
raised_above script w (ShuttingDown started) r = r
raised_above script w a r = tt

joined_none : (tops below : List Activity) → AllAbove tops → NoneLeft below → NoneLeft (tops ++ below)
joined_none tops below h k commands m = either (Includes-append_cases tops below (TopLevel commands) m) (λ i. absurd (h (TopLevel commands) i)) (k commands)

one_above : (a : Activity) → IsAbove a → AllAbove (a ∷ [])
one_above a h b (inl i) = subst IsAbove i h
one_above a h b (inr none) = absurd none

two_above : (a b : Activity) → IsAbove a → IsAbove b → AllAbove (a ∷ b ∷ [])
two_above a b h k c (inl i) = subst IsAbove i h
two_above a b h k c (inr m) = one_above b k c m

appended_above : (xs ys : List Activity) → AllAbove xs → AllAbove ys → AllAbove (xs ++ ys)
appended_above xs ys h k a m = either (Includes-append_cases xs ys a m) (h a) (k a)

same_tops : (a b : Activity) (below under stack : List Activity) → stack ≡ a ∷ below → stack ≡ b ∷ under → (a ≡ b) × (below ≡ under)
same_tops a b below under stack x y = let both : a ∷ below ≡ b ∷ under = sym x ∙ y in (let top : a ≡ b = cc in top, let rest : below ≡ under = cc in rest)

tops_same : (xs ys : List Command) → TopLevel xs ≡ TopLevel ys → xs ≡ ys
tops_same xs ys is = cc

append_one : (tops : List Activity) (a : Activity) (below : List Activity) → tops ++ a ∷ below ≡ (tops ++ a ∷ []) ++ below
append_one [] a below = refl
append_one (t ∷ tops) a below = ap (λ st. t ∷ st) (append_one tops a below)

-- what a command leaves on the stack
data Leaves (b : Activity) (below stack : List Activity) : Type 0 where
  GoesOn : (tops : List Activity) → stack ≡ tops ++ b ∷ below → AllAbove tops → Leaves b below stack
  Stops : stack ≡ emptied b ∷ below → Leaves b below stack

done_leaves : (script : Script) (command : Command) (b : Activity) (below : List Activity) (v : World) (events : List Event) (after : World)
    → Done script command (on b below v) b below events after → Leaves b below after.stack
done_leaves script command b below v events after (Stood answers is) = GoesOn [] (ap (λ (z : World). z.stack) is) (λ c m. absurd m)
done_leaves script command b below v events after (Stopped answers is) = Stops (ap (λ (z : World). z.stack) is)
done_leaves script command b below v events after (Changed wants given next is shape) = GoesOn (Releasing given ∷ []) (ap (λ (z : World). z.stack) is
    ∙ ap (λ st. Releasing given ∷ st) (changes_leave (on b below v) command wants events given next shape).stack) (one_above (Releasing given) tt)
done_leaves script command b below v events after (Began f has step) =
    let frame = begun_frame script (call_frame (on b below v) f.serial) in
    called_either (λ lines w. Leaves b below w.stack) script (on b below v) f.serial events after step (GoesOn [] refl (λ a m. absurd m)) (GoesOn (frame ∷ []) refl (one_above frame tt))
done_leaves script command b below v events after (Asked g none is) = GoesOn (new_collection g true (on b below v) ∷ []) (ap (λ (z : World). z.stack) is)
    (one_above (new_collection g true (on b below v)) tt)

taken_above : (command : Command) (a b : Activity) → Takes command a b → IsAbove a → IsAbove b × IsAbove (emptied b)
taken_above command a b (FromTop commands) h = absurd h
taken_above command a b (FromFrame f commands left) h = (tt, tt)

-- a step with another activity on top
above_step : (script : Script) (w : World) (a : Activity) (below : List Activity) (events : List Event) (after : World) → w.stack ≡ a ∷ below → IsAbove a
    → Went script w events after → (tops : List Activity) × (after.stack ≡ tops ++ below) × AllAbove tops
above_step script w a below events after top h (Acted b under is acts) =
    (acts.tops, acts.stack ∙ ap (λ st. acts.tops ++ st) (sym (same_tops a b below under w.stack top is).1), λ c m. raised_above script w c (acts.raised c m))
above_step script w a below events after top h (Due g set none is) = (
  new_collection g false w ∷ a ∷ [],
  ap (λ (z : World). z.stack) is
      ∙ ap (λ st. new_collection g false w ∷ st) top,
  two_above (new_collection g false w) a tt h,
)
above_step script w a below events after top h (Over b at_top place last is) = (a ∷ [], ap (λ (z : World). z.stack) is ∙ top, one_above a h)
above_step script w a below events after top h (Bottomed under is none q) = absurd (subst IsAbove (same_tops a (TopLevel []) below under w.stack top is).0 h)
above_step script w a below events after top h (GaveUp name under is none q) = absurd (subst IsAbove (same_tops a (ShuttingDown false) below under w.stack top is).0 h)
above_step script w a below events after top h (Lasted under is none q) = absurd (subst IsAbove (same_tops a (ShuttingDown false) below under w.stack top is).0 h)
above_step script w a below events after top h (Commanded command c b under v is takes hb done) =
    let s = same_tops a c below under w.stack top (ap (λ (z : World). z.stack) is) in go (done_leaves script command b under v events after done)
    (taken_above command c b takes (subst IsAbove s.0 h)) s.1
  where
    go : Leaves b under after.stack → IsAbove b × IsAbove (emptied b) → below ≡ under → (tops : List Activity) × (after.stack ≡ tops ++ below) × AllAbove tops
    go (GoesOn tops st above) hb same = (tops ++ b ∷ [], st ∙ append_one tops b under ∙ ap (λ z. (tops ++ b ∷ []) ++ z) (sym same), appended_above tops (b ∷ []) above (one_above b hb.0))
    go (Stops st) hb same = (emptied b ∷ [], st ∙ ap (λ z. emptied b ∷ z) (sym same), one_above (emptied b) hb.1)

nil_right : {X : Type 0} (xs : List X) → xs ++ [] ≡ xs
nil_right [] = refl
nil_right (x ∷ xs) = ap (λ ys. x ∷ ys) (nil_right xs)

-- which command is done
above_own : (d : Option ℕ) (a : Activity) (below : List Activity) → IsAbove a → own_command d (a ∷ below) ≡ []
above_own d (TopLevel commands) below h = absurd h
above_own d (ShuttingDown started) below h = absurd h
above_own None a below h = refl
above_own (Some g) a below h = refl

none_own : (d : Option ℕ) (stack : List Activity) → NoneLeft stack → own_command d stack ≡ []
none_own None (TopLevel (c ∷ commands) ∷ below) h = absurd (let no : c ∷ commands ≡ [] = h (c ∷ commands) (inl refl) in cc)
none_own m stack h = refl

module _ (script : Script) (w : World) (events : List Event) (after : World) (step : Step script w events after) (x : Went script w events after) (all done : List Command) where
  same_done : (own : List Command) → own ≡ [] → (stack : List Activity) → InOrder all done stack → InOrder all (done ++ own) stack
  same_done own none stack h = subst (λ ds. InOrder all ds stack) (sym (ap (λ os. done ++ os) none ∙ nil_right done)) h

  joined : (tops below more : List Activity) (stack : List Activity) → stack ≡ tops ++ (below ++ more) → stack ≡ (tops ++ below) ++ more
  joined tops below more stack is = is ∙ sym (append_assoc tops below more)

  -- a due collection comes first
  due_first : (commands : List Command) (g : ℕ) → w.stack ≡ TopLevel commands ∷ [] → due w ≡ Some g → after ≡ push (new_collection g false w) w
  due_first commands g top set = (subst (λ d. TopLevelStep script w d commands [] events after) set (subst (λ st. StepOf script w st events after) top step.step)).1

  -- none is due, and the script's own commands are on top
  top_first : (commands : List Command) → w.stack ≡ TopLevel commands ∷ [] → due w ≡ None → all ≡ done ++ commands → Went script w events after
      → InOrder all (done ++ own_command None (TopLevel commands ∷ [])) after.stack
  top_first commands top free at (Acted a below is acts) =
      let s = same_tops (TopLevel commands) a [] below w.stack top is in
      ended commands at (subst NoneLeft (sym acts.stack) (joined_none acts.tops below (λ c m. raised_above script w c (acts.raised c m)) (subst NoneLeft s.1 (λ c m. absurd m))))
    where
      ended : (cs : List Command) → all ≡ done ++ cs → NoneLeft after.stack → InOrder all (done ++ own_command None (TopLevel cs ∷ [])) after.stack
      ended [] i none = Ended none [] (i ∙ ap (λ ds. ds ++ []) (sym (nil_right done)))
      ended (c ∷ cs) i none = Ended none cs (i ∙ sym (append_assoc done (c ∷ []) cs))
  top_first commands top free at (Due g set none is) = absurd (let no : None ≡ Some g = sym free ∙ set in cc)
  top_first [] top free at (Over a under place last is) = Left [] [] (ap (λ (z : World). z.stack) is ∙ top) (λ a m. absurd m) (at ∙ ap (λ ds. ds ++ []) (sym (nil_right done)))
  top_first (c ∷ cs) top free at (Over a under place last is) = absurd (subst (λ (b : Activity). AreLast w b events) (sym (same_tops (TopLevel (c ∷ cs)) a [] under w.stack top place).0) last)
  top_first [] top free at (Bottomed below under none is) = let s = same_tops (TopLevel []) (TopLevel []) [] below w.stack top under in
      Ended (λ cs m. either (subst (λ (z : World). Includes z.stack (TopLevel cs)) is m) (λ i. cc)
      (λ i. absurd (subst (λ st. Includes st (TopLevel cs)) (sym s.1) i))) [] (at ∙ ap (λ ds. ds ++ []) (sym (nil_right done)))
  top_first (c ∷ cs) top free at (Bottomed below under none is) = absurd (let s = tops_same (c ∷ cs) [] (same_tops (TopLevel (c ∷ cs)) (TopLevel []) [] below w.stack top under).0 in cc)
  top_first commands top free at (GaveUp name below under none is) = absurd (let s = (same_tops (TopLevel commands) (ShuttingDown false) [] below w.stack top under).0 in cc)
  top_first commands top free at (Lasted below under none is) = absurd (let s = (same_tops (TopLevel commands) (ShuttingDown false) [] below w.stack top under).0 in cc)
  top_first commands top free at (Commanded command a b below v is takes hb d) =
      let s = same_tops (TopLevel commands) a [] below w.stack top (ap (λ (z : World). z.stack) is) in taken command a b below takes s.0 (sym s.1) (done_leaves script command b below v events after d)
    where
      taken : (c : Command) (y z : Activity) (under : List Activity) → Takes c y z → TopLevel commands ≡ y → under ≡ [] → Leaves z under after.stack
          → InOrder all (done ++ own_command None (TopLevel commands ∷ [])) after.stack
      taken c y z under (FromFrame f cs left) is_top bottom l = absurd (cc)
      taken c y z under (FromTop cs) is_top bottom (GoesOn tops st above) = subst (λ xs. InOrder all (done ++ own_command None (TopLevel xs ∷ [])) after.stack)
          (sym (tops_same commands (c ∷ cs) is_top))
          (Left tops cs (st ∙ ap (λ u. tops ++ TopLevel cs ∷ u) bottom) above (at ∙ ap (λ xs. done ++ xs) (tops_same commands (c ∷ cs) is_top) ∙ sym (append_assoc done (c ∷ []) cs)))
      taken c y z under (FromTop cs) is_top bottom (Stops st) = subst (λ xs. InOrder all (done ++ own_command None (TopLevel xs ∷ [])) after.stack) (sym (tops_same commands (c ∷ cs) is_top))
          (Ended (λ xs m. either (subst (λ u. Includes u (TopLevel xs)) (st ∙ ap (λ u. TopLevel [] ∷ u) bottom) m) (λ i. sym (tops_same [] xs i))
          (λ i. absurd i)) cs (at ∙ ap (λ xs. done ++ xs) (tops_same commands (c ∷ cs) is_top) ∙ sym (append_assoc done (c ∷ []) cs)))

  by_due : (commands : List Command) (d : Option ℕ) → due w ≡ d → w.stack ≡ TopLevel commands ∷ [] → all ≡ done ++ commands → InOrder all (done ++ own_command d (TopLevel commands ∷ [])) after.stack
  by_due commands (Some g) set top at = same_done [] refl after.stack (Left (new_collection g false w ∷ []) commands
      (ap (λ (z : World). z.stack) (due_first commands g top set) ∙ ap (λ st. new_collection g false w ∷ st) top) (one_above (new_collection g false w) tt) at)
  by_due commands None set top at = top_first commands top set at x

  none_after : NoneLeft w.stack → Went script w events after → NoneLeft after.stack
  none_after h (Acted a below top acts) cs m = joined_none acts.tops below (λ c i. raised_above script w c (acts.raised c i))
      (λ ds i. h ds (subst (λ st. Includes st (TopLevel ds)) (sym top) (inr i))) cs (subst (λ st. Includes st (TopLevel cs)) acts.stack m)
  none_after h (Due g set none is) cs m = either (subst (λ (z : World). Includes z.stack (TopLevel cs)) is m) (λ i. cc) (h cs)
  none_after h (Over a under place last is) cs m = h cs (subst (λ (z : World). Includes z.stack (TopLevel cs)) is m)
  none_after h (Bottomed below top none is) cs m = either (subst (λ (z : World). Includes z.stack (TopLevel cs)) is m) (λ i. cc) (λ i. h cs (subst (λ st. Includes st (TopLevel cs)) (sym top) (inr i)))
  none_after h (GaveUp name below top none is) cs m = either (subst (λ (z : World). Includes z.stack (TopLevel cs)) is m) (λ i. cc) (h cs)
  none_after h (Lasted below top none is) cs m = either (subst (λ (z : World). Includes z.stack (TopLevel cs)) is m) (λ i. cc)
      (λ j. either j (λ i. cc) (λ i. h cs (subst (λ st. Includes st (TopLevel cs)) (sym top) (inr i))))
  none_after h (Commanded command a b below v is takes hb d) cs m = go command a b below (ap (λ (z : World). z.stack) is) takes (done_leaves script command b below v events after d) cs m
    where
      go : (c : Command) (y z : Activity) (under : List Activity) → w.stack ≡ y ∷ under → Takes c y z → Leaves z under after.stack → NoneLeft after.stack
      go c y z under top (FromTop cs) l = absurd (let no : c ∷ cs ≡ [] = h (c ∷ cs) (subst (λ st. Includes st (TopLevel (c ∷ cs))) (sym top) (inl refl)) in cc)
      go c y z under top (FromFrame f cs left) (GoesOn tops st above) = subst NoneLeft (sym st) (joined_none tops (Framed (record f { commands = cs }) ∷ under)
          above (λ xs m. either m (λ i. cc) (λ i. h xs (subst (λ st. Includes st (TopLevel xs)) (sym top) (inr i)))))
      go c y z under top (FromFrame f cs left) (Stops st) = subst NoneLeft (sym st) (λ xs m. either m (λ i. cc) (λ i. h xs (subst (λ st. Includes st (TopLevel xs)) (sym top) (inr i))))

  order_step : InOrder all done w.stack → InOrder all (done ++ own_command (due w) w.stack) after.stack
  order_step (Left [] commands is above at) = subst (λ st. InOrder all (done ++ own_command (due w) st) after.stack) (sym is) (by_due commands (due w) refl is at)
  order_step (Left (t ∷ tops) commands is above at) =
      let s = above_step script w t (tops ++ TopLevel commands ∷ []) events after is (above t (inl refl)) x in
      same_done (own_command (due w) w.stack) (ap (own_command (due w)) is ∙ above_own (due w) t (tops ++ TopLevel commands ∷ []) (above t (inl refl))) after.stack
      (Left (s.0 ++ tops) commands (joined s.0 tops (TopLevel commands ∷ []) after.stack s.1) (appended_above s.0 tops s.2 (λ a m. above a (inr m))) at)
  order_step (Ended none undone at) = same_done (own_command (due w) w.stack) (none_own (due w) w.stack none) after.stack (Ended (none_after none x) undone at)

order_run : (script : Script) (all done : List Command) (w : World) (steps : List StepTaken) → Run script w steps
    → ((front : List StepTaken) → Run script w front → Rises 1 (last_world w front).next_serial (last_world w front).objects) → InOrder all done w.stack
    → InOrder all (done ++ own_commands w steps) (last_world w steps).stack
order_run script all done w [] run known h = subst (λ ds. InOrder all ds w.stack) (sym (nil_right done)) h
order_run script all done w (step ∷ steps) run known h =
    let next = order_run script all (done ++ own_command (due w) w.stack) step.world steps run.1 (λ front r. known (step ∷ front) (run.0, r))
    (order_step script w step.events step.world run.0 (went script w step.events step.world (known [] tt) run.0) all done h) in
    subst (λ ds. InOrder all ds (last_world step.world steps).stack) (append_assoc done (own_command (due w) w.stack) (own_commands step.world steps)) next

undone_of : (all done : List Command) (stack : List Activity) → InOrder all done stack → (undone : List Command) × (all ≡ done ++ undone)
undone_of all done stack (Left tops commands is above at) = (commands, at)
undone_of all done stack (Ended none undone at) = (undone, at)

pub last_first : ExitsAreCalledLastFirst
last_first script budget steps texts run exits a =
    let h = order_run script (commands_of script.items) [] (opening script budget) steps run
    (λ front r. (known_after script budget front texts r).fit.sound.rises) (Left [] (commands_of script.items) refl (λ b m. absurd m) refl) in
    let u = undone_of (commands_of script.items) (own_commands (opening script budget) steps) (world_after script budget steps).stack h in
    record { undone = u.0; order = sym u.1 ∙ a.commands }
