-- From the finalizers to the second reachability pass: condemned objects are visited, and survivors go back to a
-- generation.
use Rattle.std.proofs.Common.{◌≡◌, ◌≢◌, refl, sym, ◌∙◌, ap, subst, ℕ, ◌+◌, Bool, true, false, ◌||◌, inl, inr, List, [], ◌∷◌, length, Option, Some, None}
use Rattle.std.specs.Prelude.{◌==◌, option_and_then}
use Rattle.std.proofs.lemmas.Bool.{eqb-true}
use Rattle.cg_value.specs.declared.Place.{Place}
use Rattle.cg_value.specs.declared.Place.TheVariants.{Untracked, Gen, Cand, Seen, Back, Legacy, Pend}
use Rattle.cg_script.specs.declared.Script.{Script}
use Rattle.cg_graph.specs.Member.{Includes, includes}
use Rattle.cg_graph.specs.Value.{references}
use Rattle.cg_graph.specs.Object.{Object, change, object_at, entries_of, is_at, same_place, with_place, marked, serials_at}
use Rattle.cg_graph.proofs.Members.{or_left, or_right, Includes-of}
use Rattle.cg_machine.specs.declared.event.Event.{Event}
use Rattle.cg_machine.specs.declared.event.FrameSort.TheVariants.{Del}
use Rattle.cg_machine.specs.World.{World, Activity, Releasing, Collection, CollectPhase, Finalizing, AfterFinalizing, Split, Turns, push, with_change, with_objects}
use Rattle.cg_machine.specs.Weak.{loses_referent, AllLose}
use Rattle.cg_machine.specs.Dying.{finalizer_to_run}
use Rattle.cg_machine.specs.Collect.{collection_at, older, looks_at, IsMemberOf, replaced_place, FinalizingStep, get_older, loses_at_split, SplitStep}
use Rattle.cg_represents.proofs.Lists.{Reach-inside}
use Rattle.cg_laws.specs.Apart.{IsInLatePhase, IsFound, IsApart}
use Rattle.cg_laws.proofs.SetsApart.{NoneCollects, AreApart, Keeps, goes_to, restands, starts_apart, gives_up_apart, is_tracked_at, stands_at, places_kept, moved, lost_apart}

-- the garbage list is in no such place
pub root_not_at : (objects : List Object) (phase : CollectPhase) (p : Place) (o : ℕ) → same_place Untracked p ≡ false → AreApart objects phase → Includes (serials_at objects p) o → o ≢ 1
root_not_at objects phase p o tracked h m e = let x = stands_at objects p o m in is_tracked_at p x.0 tracked x.2 (h.garbage x.0 x.1 (x.3 ∙ e)).untracked

condemned_found : (p : Place) → (same_place p Cand || same_place p Seen) ≡ true → IsFound p
condemned_found Cand e = tt
condemned_found Seen e = tt
condemned_found Legacy e = tt
condemned_found p e = let no : false ≡ true = e in cc

-- from the second pass on: what moves to the older generation, and what stays condemned
pub late_at_gen : (g : ℕ) (x : Object) → IsInLatePhase (with_place (Gen g) x)
late_at_gen g x = record {
  seen = λ e. let no : Gen g ≡ Seen = e in cc;
  back = λ e. let no : Gen g ≡ Back = e in cc;
  pending = λ e. let no : Gen g ≡ Pend = e in cc;
}

late_at_cand : (x : Object) → IsInLatePhase (with_place Cand x)
late_at_cand x = record {
  seen = λ e. let no : Cand ≡ Seen = e in cc;
  back = λ e. let no : Cand ≡ Back = e in cc;
  pending = λ e. let no : Cand ≡ Pend = e in cc;
}

-- several weak references are cleared
all_lose_apart : (wanted : Object → Bool) (weaks : List ℕ) (objects after : List Object) → AllLose wanted objects weaks after → AreApart objects Split → AreApart after Split
all_lose_apart wanted [] objects after lose h = subst (λ os. AreApart os Split) (sym lose.1) h
all_lose_apart wanted (weak ∷ weaks) objects after lose h = all_lose_apart wanted weaks (loses_referent weak objects) after lose.1
    (lost_apart weak objects Split (λ x k. record { seen = k.seen; back = k.back; pending = k.pending }) h)

module _ (script : Script) (c : Collection) (below : List Activity) (v : World) (alone : NoneCollects below) where
  abbrev at : CollectPhase → World
  at phase = collection_at c phase below v

  to : (after next : World) → after ≡ next → IsApart next → IsApart after
  to after next e h = subst IsApart (sym e) h

  seen_apart : (f : Object → Object) (o : ℕ) → Keeps f → ((x : Object) → (f x).place ≡ Seen) → IsMemberOf (at Finalizing) Cand o → AreApart v.objects Finalizing
      → AreApart (change f o v.objects) Finalizing
  seen_apart f o keeps place member h = moved f (λ x. x.serial == o) v.objects Finalizing Finalizing keeps (λ k. k)
      (record {
        untracked = λ x m t one e. absurd (root_not_at v.objects Finalizing Cand o refl h member (sym (eqb-true x.serial o t) ∙ one));
        chosen = λ x m t k. (λ e. let no : Seen ≡ Back = sym (place x) ∙ e in cc, λ e. let no : Seen ≡ Pend = sym (place x) ∙ e in cc);
        others = λ x m t k. k;
        found = λ x m t k. let z = stands_at v.objects Cand o member in
            subst (λ s. ¬ Includes (references (entries_of v.objects 1)) s) (z.3 ∙ sym (eqb-true x.serial o t))
            (h.unsaved z.0 z.1 (condemned_found z.0.place (or_left (is_at Cand z.0) (is_at Seen z.0) z.2)));
      }) h

  looks_at_apart : (o : ℕ) (m : Option ℕ) → IsMemberOf (at Finalizing) Cand o → AreApart v.objects Finalizing → IsApart (looks_at script c o below (at Finalizing) m).1
  looks_at_apart o None member h = goes_to c Finalizing below (with_change (with_place Seen) o (at Finalizing)) alone (seen_apart (with_place Seen) o (places_kept (λ x. Seen)) (λ x. refl) member h)
  looks_at_apart o (Some p) member h =
      starts_apart script (record { sort = Del; proc = p; subject = o; func = None }) (collection_at c (AfterFinalizing o) below (with_change seen o (at Finalizing)))
      (goes_to c (AfterFinalizing o) below (with_change seen o (at Finalizing)) alone (restands Finalizing (AfterFinalizing o) (change seen o v.objects) (λ k. k) (λ x m k. k)
      (seen_apart seen o (record { serial = λ x. refl; code = λ x. refl; entries = λ x. refl }) (λ x. refl) member h)))
    where
      seen : Object → Object
      seen x = marked (with_place Seen x)

  -- after all were visited, they are condemned again
  pub finalizing_apart : (events : List Event) (after : World) → FinalizingStep script c below (at Finalizing) events after → AreApart v.objects Finalizing → IsApart after
  finalizing_apart events after (inl step) h = to after _ step.yields.1 (looks_at_apart step.object (option_and_then (finalizer_to_run script) (object_at v.objects step.object)) step.condemned h)
  finalizing_apart events after (inr step) h = to after _ step.1.1 (goes_to c Split below (replaced_place Seen Cand (at Finalizing)) alone
      (moved (with_place Cand) (is_at Seen) v.objects Finalizing Split (places_kept (λ x. Cand)) (λ k. k)
      (record {
        untracked = λ x m t one e. absurd (is_tracked_at Seen x refl t e);
        chosen = λ x m t k. late_at_cand x;
        others = λ x m t k. record { seen = λ e. let no : true ≡ false = sym (ap (λ p. same_place p Seen) e) ∙ t in cc; back = k.0; pending = k.1 };
        found = λ x m t k. h.unsaved x m (condemned_found x.place (or_right (is_at Cand x) (is_at Seen x) t));
      }) h))

  pub after_finalizing_apart : (o : ℕ) → AreApart v.objects (AfterFinalizing o) → IsApart (push (Releasing (o ∷ [])) (at Finalizing))
  after_finalizing_apart o h = gives_up_apart (o ∷ []) (at Finalizing) (goes_to c Finalizing below v alone (restands (AfterFinalizing o) Finalizing v.objects (λ k. k) (λ x m k. k) h))

  pub split_apart : (events : List Event) (after : World) → SplitStep c below (at Split) events after → AreApart v.objects Split → IsApart after
  split_apart events after step h = to after _ step.world (goes_to (record c { collected = c.collected + length (serials_at step.objects Cand) }) Turns below
      (with_objects step.objects (at Split)) alone
      (restands Split Turns step.objects (λ k. k) (λ x m k. k) (all_lose_apart (loses_at_split now) step.cleared now step.objects step.lose older_now)))
    where
      place : Place
      place = Gen (older c.generation)

      now : List Object
      now = get_older c.generation step.alive v.objects

      member : (s : ℕ) → includes step.alive s ≡ true → IsMemberOf (at Split) Cand s
      member s e = Reach-inside ((step.survivors s).0 (Includes-of step.alive s e))

      older_now : AreApart now Split
      older_now = moved (with_place place) (λ x. includes step.alive x.serial) v.objects Split Split (places_kept (λ x. place)) (λ k. k)
          (record {
            untracked = λ x m t one e. absurd (root_not_at v.objects Split Cand x.serial refl h (member x.serial t) one);
            chosen = λ x m t k. late_at_gen (older c.generation) x;
            others = λ x m t k. k;
            found = λ x m t k n. k;
          }) h
