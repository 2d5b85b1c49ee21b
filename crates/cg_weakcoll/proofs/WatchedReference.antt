-- The weak reference of an exit finalizer is hidden until its callback begins or the procedure has called the function.
use Rattle.std.proofs.Common.{◌≡◌, refl, sym, ◌∙◌, ap, subst, ℕ, ◌+◌, ◌<◌, Bool, true, false, cond, inl, inr, ◌⊎◌, List, [], ◌∷◌, ◌++◌, Option, Some, None, arith}
use Rattle.std.specs.Prelude.{◌==◌, count_by, flat_map, option_and_then, slice_get}
use Rattle.std.proofs.lemmas.Bool.{eq-eqb, eqb-true}
use Rattle.std.proofs.lemmas.List.Sums.{sum_by-cons}
use Rattle.std.proofs.lemmas.Option.{same_Some}
use Rattle.cg_value.specs.declared.Place.{Place}
use Rattle.cg_value.specs.declared.Place.TheVariants.{Cand, Seen, Legacy}
use Rattle.cg_value.specs.declared.Val.{Val}
use Rattle.cg_value.specs.declared.Val.TheVariants.{None as Nothing, Ref}
use Rattle.cg_script.specs.declared.Script.{Script}
use Rattle.cg_script.specs.declared.Command.{Command}
use Rattle.cg_script.specs.declared.Command.TheVariants.{Call, Del, Deref, Quit}
use Rattle.cg_script.specs.declared.Operand.TheVariants.{Name}
use Rattle.cg_graph.specs.Member.{Includes}
use Rattle.cg_graph.specs.Holdings.{name_holdings}
use Rattle.cg_graph.specs.Object.{Object}
use Rattle.cg_graph.specs.Value.{references_of_value}
use Rattle.cg_graph.proofs.Members.{either, Includes-append_left}
use Rattle.cg_machine.specs.declared.event.Event.{Event}
use Rattle.cg_machine.specs.declared.event.Event.TheVariants.{Enter}
use Rattle.cg_machine.specs.declared.event.FrameSort.TheVariants.{Callback}
use Rattle.cg_machine.specs.World.{World, TopLevel}
use Rattle.cg_machine.specs.Holdings.{holdings, holds}
use Rattle.cg_machine.specs.Collect.{is_condemned}
use Rattle.cg_represents.specs.Orderly.{IsHeldInItsFramesAlone}
use Rattle.cg_laws.proofs.Unreferred.{IsLater, none_later}
use Rattle.cg_represents.proofs.Lists.{absent}
use Rattle.cg_laws.specs.Apart.{IsFound}
use Rattle.cg_weakcoll.specs.Exits.{Exit, IsOther, is_callback_of}
use Rattle.cg_weakcoll.proofs.ActivitySteps.{Loses, all_to_call}
use Rattle.cg_weakcoll.proofs.NewObjects.{held_named, named_below}
use Rattle.cg_weakcoll.proofs.CallbacksOnce.{Spent, Tells, spent_stays}
use Rattle.cg_weakcoll.proofs.HiddenObjects.{Hidden, held_by}
use Rattle.cg_weakcoll.proofs.HiddenObjectSteps.{held_survives, others_hold}
use Rattle.cg_weakcoll.proofs.KnownOfRuns.{Known}

-- how often the callback begins in a step
abbrev pub callbacks : ℕ → List Event → ℕ
callbacks s events = count_by (is_callback_of s) events

-- the procedure has its object, the weak reference's referent if it still lives
pub record Held (e : Exit) (s n : ℕ) (w : World) (referent : ℕ) : Type 0 where
  pub quiet : n ≡ 0
  pub uncalled : ¬ Includes (all_to_call w.stack) s
  pub named : slice_get w.names e.object ≡ Some (Some (Ref referent))
  pub refers : (x : Object) → Includes w.objects x → x.serial ≡ s → (x.referent ≡ None) ⊎ (x.referent ≡ Some referent)
  pub apart : (z : Object) → Includes w.objects z → z.serial ≡ referent → ¬ IsFound z.place

-- what is known at each command of the procedure, after this many callbacks
pub data Standing (e : Exit) (s n : ℕ) (w : World) : List Command → Type 0 where
  StandsDeref : Standing e s n w (Deref e.object (Name e.watch) ∷ Quit (Name e.object) ∷ Del e.watch ∷ Del e.object ∷ Call (Name e.function) ∷ [])
  StandsQuit : ((v : Val) → slice_get w.names e.object ≡ Some (Some v) → (v ≡ Nothing) ⊎ ((r : ℕ) × (v ≡ Ref r) × Held e s n w r))
      → Standing e s n w (Quit (Name e.object) ∷ Del e.watch ∷ Del e.object ∷ Call (Name e.function) ∷ [])
  StandsWatch : (r : ℕ) → Held e s n w r → Standing e s n w (Del e.watch ∷ Del e.object ∷ Call (Name e.function) ∷ [])
  StandsObject : (r : ℕ) → Held e s n w r → ¬ Includes (held_by w.names e.watch) s → Standing e s n w (Del e.object ∷ Call (Name e.function) ∷ [])
  StandsCall : n ≡ 0 → Spent s w → Standing e s n w (Call (Name e.function) ∷ [])

-- what is known of the weak reference s, after this many callbacks and calls
pub record Watching (e : Exit) (s n calls : ℕ) (w : World) : Type 0 where
  pub made : s < w.next_serial
  pub live : (x : Object) → Includes w.objects x → x.serial ≡ s → (r : ℕ) → x.referent ≡ Some r → Hidden e.watch s w
  pub calm : (n ≡ 0) ⊎ ((n ≡ 1) × Spent s w)
  pub named : (q : ℕ) → Includes (held_by w.names e.watch) q → q ≡ s
  pub own : (commands : List Command) → Includes w.stack (TopLevel commands) → (c : Command) → Includes commands c → IsOther e c ⊎ (c ≡ Call (Name e.exit))
  pub called : (calls ≡ 0) ⊎ ((n ≡ 0) × Spent s w)

pub count_cases : (s : ℕ) (events : List Event) → (callbacks s events ≡ 0) ⊎ Includes events (Enter Callback s)
count_cases s [] = inl refl
count_cases s (x ∷ events) = go x (count_cases s events)
  where
    other : (y : Event) → is_callback_of s y ≡ false → (callbacks s events ≡ 0) ⊎ Includes events (Enter Callback s) → (callbacks s (y ∷ events) ≡ 0) ⊎ Includes (y ∷ events) (Enter Callback s)
    other y f (inl z) = inl (let c = sum_by-cons (λ t. cond (is_callback_of s t) 1 0) y events in let k : ◌≡◌ {A = ℕ} (cond (is_callback_of s y) 1 0) 0 = ap
        (λ b. cond b 1 0) f in omega (arith, c, k, z))
    other y f (inr m) = inr (inr m)

    callback : (n : ℕ) (b : Bool) → (n == s) ≡ b → (callbacks s events ≡ 0) ⊎ Includes events (Enter Callback s) → (callbacks s (Enter Callback n ∷ events) ≡ 0)
        ⊎ Includes (Enter Callback n ∷ events) (Enter Callback s)
    callback n true t rest = inr (inl (ap (λ i. Enter Callback i) (eqb-true n s t)))
    callback n false t rest = other (Enter Callback n) t rest

    go : (y : Event) → (callbacks s events ≡ 0) ⊎ Includes events (Enter Callback s) → (callbacks s (y ∷ events) ≡ 0) ⊎ Includes (y ∷ events) (Enter Callback s)
    go (Enter Callback n) rest = callback n (n == s) refl rest
    go (Enter sort n) rest = other (Enter sort n) refl rest
    go y rest = other y refl rest

pub none_counted : (s : ℕ) (events : List Event) → ¬ Includes events (Enter Callback s) → callbacks s events ≡ 0
none_counted s events none = either (count_cases s events) (λ z. z) (λ m. absurd (none m))

pub one_counted : (s : ℕ) → callbacks s (Enter Callback s ∷ []) ≡ 1
one_counted s = let c = sum_by-cons (λ t. cond (is_callback_of s t) 1 0) (Enter Callback s) []
    in let k : ◌≡◌ {A = ℕ} (cond (is_callback_of s (Enter Callback s)) 1 0) 1 = ap (λ b. cond b 1 0) (eq-eqb s s refl) in omega (arith, c, k)

condemned_found : (z : Object) → is_condemned z ≡ true → IsFound z.place
condemned_found z t = go z.place refl
  where
    go : (p : Place) → z.place ≡ p → IsFound z.place
    go Cand e = subst IsFound (sym e) tt
    go Seen e = subst IsFound (sym e) tt
    go Legacy e = subst IsFound (sym e) tt
    go p e = absurd (let no : is_condemned z ≡ false = cc in let bad : true ≡ false = sym t ∙ no in cc)

-- a name holds its value
pub named_held : (names : List (Option Val)) (x r : ℕ) → slice_get names x ≡ Some (Some (Ref r)) → Includes (held_by names x) r
named_held names x r e = subst (λ m. Includes (references_of_value (option_and_then (λ v. v) m)) r) (sym e) (inl refl)

module _ (script : Script) (budget : ℕ) (e : Exit) (s n : ℕ) (w : World) (events : List Event) (after : World) (k : Known script budget w) (t : Tells s w events after) where
  -- what the procedure holds stays while it has that name
  held_stays : (r : ℕ) → Held e s n w r → slice_get after.names e.object ≡ slice_get w.names e.object → Held e s (n + callbacks s events) after r
  held_stays r h names = record {
    quiet = let z = none_counted s events (λ m. h.uncalled (t.begins m).0) in let q = h.quiet in omega (arith, z, q);
    uncalled = λ m. either (t.waits m) h.uncalled lost;
    named = names ∙ h.named;
    refers = λ y m i. let x = t.comes y m i in later x.0 y x.2 (h.refers x.0 x.1 (sym x.2.serial ∙ i));
    apart = λ z m i f. either (t.places r z m i young f) (λ a. h.apart a.0 a.1 a.2 a.3) (λ c. c.2 (held_survives w c.0 r other c.1));
  }
    where
      held : Includes (name_holdings w.names) r
      held = held_named w.names e.object r (named_held w.names e.object r h.named)

      other : Includes (others_hold w) r
      other = Includes-append_left (name_holdings w.names ++ (1 ∷ [])) (flat_map holds w.stack) r (Includes-append_left (name_holdings w.names) (1 ∷ []) r held)

      young : r < w.next_serial
      young = named_below script budget w k e.object r (named_held w.names e.object r h.named)

      later : (x y : Object) → IsLater x y → (x.referent ≡ None) ⊎ (x.referent ≡ Some r) → (y.referent ≡ None) ⊎ (y.referent ≡ Some r)
      later x y l (inl none) = inl (none_later x y l none)
      later x y l (inr some) = either l.referent (λ same. inr (same ∙ some)) (λ none. inl none)

      lost : Loses w s → ⊥
      lost l = either (h.refers l.object l.member l.same) (λ none. let no : None ≡ Some l.referent = sym none ∙ l.refers in cc) (λ some. go (same_Some l.referent r (sym l.refers ∙ some)))
        where
          held_at : Includes (holdings w) r
          held_at = Includes-append_left (name_holdings w.names ++ (1 ∷ []) ++ _) (flat_map holds w.stack) r (Includes-append_left (name_holdings w.names
              ++ (1 ∷ [])) _ r (Includes-append_left (name_holdings w.names) (1 ∷ []) r held))

          go : l.referent ≡ r → ⊥
          go is = either l.lost
              (λ d. absent d.0.object (holdings w) (subst (λ phase. IsHeldInItsFramesAlone d.0.object phase (holdings w)) d.4 (k.lawful.unheld d.0 d.2))
              (subst (Includes (holdings w)) (sym (d.3 ∙ is)) held_at))
              (λ z. h.apart z.0 z.1 (z.2 ∙ is) (condemned_found z.0 z.3))

  -- a step of another activity
  pub standing_rests : (cs : List Command) → slice_get after.names e.object ≡ slice_get w.names e.object → slice_get after.names e.watch
      ≡ slice_get w.names e.watch → Standing e s n w cs → Standing e s (n + callbacks s events) after cs
  standing_rests cs object watch StandsDeref = StandsDeref
  standing_rests cs object watch (StandsQuit h) = StandsQuit (λ v i. either (h v (sym object ∙ i)) (λ none. inl none) (λ r. inr (r.0, r.1, held_stays r.0 r.2 object)))
  standing_rests cs object watch (StandsWatch r h) = StandsWatch r (held_stays r h object)
  standing_rests cs object watch (StandsObject r h free) = StandsObject r (held_stays r h object) (λ m. free (subst (λ o. Includes (references_of_value (option_and_then (λ v. v) o)) s) watch m))
  standing_rests cs object watch (StandsCall quiet spent) = let p = spent_stays s w events after t spent in StandsCall (let z = none_counted s events p.1 in omega (arith, z, quiet)) p.0
