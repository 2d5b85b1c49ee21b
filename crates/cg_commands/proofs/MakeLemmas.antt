-- Making and binding objects.
use Rattle.std.proofs.Common.{◌≡◌, sym, ◌∙◌, ap, ℕ, suc, ◌+◌, ◌<◌, ◌≤◌, Bool, true, false, List, [], ◌∷◌, length, Option, Some, Result, Ok, Err, inl, inr, arith}
use Rattle.std.specs.Prelude.{◌⊎◌, ◌↔◌, slice_get, nat_lt}
use Rattle.std.proofs.lemmas.Bool.Decides.{leb_tells}
use Rattle.cg_value.specs.declared.Val.{Val}
use Rattle.cg_value.specs.declared.Val.TheVariants as val
use Rattle.cg_value.specs.declared.Entry.{Entry}
use Rattle.cg_value.specs.declared.KindCode.{KindCode}
use Rattle.cg_graph.specs.Value.{references_of_value, entry_references}
use Rattle.cg_graph.specs.Store.{Store}
use Rattle.cg_graph.specs.Changes.{made, unheld, named}
use Rattle.cg_heap.specs.declared.fault.HeapFault.{HeapFault}
use Rattle.cg_heap.specs.declared.fault.HeapFault.TheVariants as fault
use Rattle.cg_heap.specs.Calls.{IsSound, object_number, entry_number, made_named}
use Rattle.cg_heap.specs.Weak.{attached}
use Rattle.cg_heap.proofs.CallerLemmas.{kinds-made, kinds-unheld, lives_on}
use Rattle.cg_machine.specs.declared.event.Event.TheVariants.{Made}
use Rattle.cg_machine.specs.World.{World}
use Rattle.cg_machine.specs.Effects.{Effect, Changes, makes, with_new, bound, given_up_by, live, has_room}
use Rattle.cg_graph.specs.declared.limits.TheConstants.{MOST_OBJECTS}
use Rattle.cg_machine.specs.Refusals.{◌>>=◌, unless, object_limit}
use Rattle.cg_represents.specs.Represents.{Represents}
use Rattle.cg_commands.specs.declared.done.Done.TheVariants.{Changed}
use Rattle.cg_commands.specs.declared.locals.Locals.{Locals}
use Rattle.cg_commands.specs.Refusals.{refusal_by}
use Rattle.cg_commands.specs.Answers.{PerformsOnHeap}
use Rattle.cg_commands.proofs.ChangesOfHeaps.{gives_up, renamed}
use Rattle.cg_commands.proofs.BindingLemmas.{given-up_by, was_live}
use Rattle.cg_commands.proofs.Limits.{room, no_room, live-number}
use Rattle.cg_commands.proofs.NewObjects.{represents-new}

-- one more object may live, or not
few : (store : Store) (w : World) → Represents store w → IsSound store → object_number store < 1000000 → unless (nat_lt (live w) MOST_OBJECTS) object_limit ≡ Ok tt
few store w r sound fits = known (nat_lt (live w) MOST_OBJECTS) (leb_tells (suc (live w)) MOST_OBJECTS)
  where
    known : (b : Bool) → ((b ≡ true) × (suc (live w) ≤ 1000000)) ⊎ ((b ≡ false) × (1000000 < suc (live w))) → unless b object_limit ≡ Ok tt
    known b (inl h) = ap (λ b. unless b object_limit) h.0
    known b (inr h) = absurd (omega (arith, h.1, fits, live-number store w r sound))

full : (store : Store) (w : World) → Represents store w → IsSound store → 1000000 ≤ object_number store → unless (nat_lt (live w) MOST_OBJECTS) object_limit ≡ Err object_limit
full store w r sound at = known (nat_lt (live w) MOST_OBJECTS) (leb_tells (suc (live w)) MOST_OBJECTS)
  where
    known : (b : Bool) → ((b ≡ true) × (suc (live w) ≤ 1000000)) ⊎ ((b ≡ false) × (1000000 < suc (live w))) → unless b object_limit ≡ Err object_limit
    known b (inl h) = absurd (omega (arith, h.1, at, live-number store w r sound))
    known b (inr h) = ap (λ b. unless b object_limit) h.0

module _ (store : Store) (sound : IsSound store) (locals : Option Locals) (name : ℕ) (code : KindCode) (class : Option ℕ) (parts : List Entry) (referent : Option ℕ) where
  abbrev serial : ℕ
  serial = store.last + 1

  abbrev made_store : Store
  made_store = attached serial referent (made code class parts store)

  abbrev effect_with : World → Result (Unit {0}) ℕ → Result (Unit {0}) ℕ → Result Effect ℕ
  effect_with w first second =
      first >>= (λ _. second >>= (λ _. Ok (Changes true (Made code w.next_serial ∷ []) (given_up_by w name) (bound (with_new w code class parts referent) name
      (Some (val.Ref w.next_serial))))))

  abbrev checked : World → Result Effect ℕ
  checked w = Ok (Changes true (Made code w.next_serial ∷ []) (given_up_by w name) (bound (with_new w code class parts referent) name (Some (val.Ref w.next_serial))))

  fits : object_number store < 1000000 → entry_number store + length parts ≤ 4000000 → (w : World) → Represents store w → makes w name code class parts referent ≡ checked w
  unfolding ◌>>=◌
  fits objects entries w r = λ i. effect_with w (few store w r sound objects i) (room store w r (length parts) entries i)

  pub makes-performs : (n : ℕ) → n ≡ serial → (was : Option Val) → slice_get store.names name ≡ Some was → (e : Entry) → entry_references e
      ≡ references_of_value was → (new : Store) → new ≡ made_named name was code class parts referent store → {X : Type 0} (x : X)
      → ((Ok x ≡ Err fault.ObjectLimit) ↔ (1000000 ≤ object_number store)) → ((Ok x ≡ Err fault.EntryLimit) ↔ ((object_number store < 1000000) × (4000000 < entry_number store + length parts)))
      → PerformsOnHeap store locals (λ w. makes w name code class parts referent) new (Ok (Changed (Some (Made code n)) e))
  makes-performs n same was at e entry new now x objects entries w s =
      gives_up _ (Some (Made code n)) e true (references_of_value was) (named name (Some (val.Ref serial)) (unheld (serial ∷ []) made_store))
      (bound (with_new w code class parts referent) name (Some (val.Ref serial))) store new
      (fits few_objects few_entries w s.represents
      ∙ (λ i. Ok (Changes true (Made code (next i) ∷ []) (given-up_by store sound locals name was at w s.represents i)
      (bound (with_new w code class parts referent) name (Some (val.Ref (s.represents.next_serial i)))))))
      entry now
      (renamed (unheld (serial ∷ []) made_store) (with_new w code class parts referent)
      (represents-new store w s.represents sound code class parts referent) name (Some (val.Ref serial)))
      (λ q some. lives_on made_store (unheld (serial ∷ []) made_store) (kinds-unheld (serial ∷ []) made_store) q
      (lives_on store (made code class parts store) (kinds-made code class parts store sound.below) q (was_live store sound locals name was at q some)))
    where
      next : w.next_serial ≡ n
      next = s.represents.next_serial ∙ sym same

      few_objects : object_number store < 1000000
      few_objects = known (leb_tells 1000000 (object_number store))
        where
          known : {b : Bool} → ((b ≡ true) × (1000000 ≤ object_number store)) ⊎ ((b ≡ false) × (object_number store < 1000000)) → object_number store < 1000000
          known (inl h) = let no' = objects.1 h.1 in absurd (cc)
          known (inr h) = h.1

      few_entries : entry_number store + length parts ≤ 4000000
      few_entries = known (leb_tells (entry_number store + length parts) 4000000)
        where
          known : {b : Bool} → ((b ≡ true) × (entry_number store + length parts ≤ 4000000)) ⊎ ((b ≡ false) × (4000000 < entry_number store + length parts))
              → entry_number store + length parts ≤ 4000000
          known (inl h) = h.1
          known (inr h) = let no' = entries.1 (few_objects, h.1) in absurd (cc)

  pub makes-refused : {X : Type 0} (f : HeapFault) (r : Result X HeapFault) → r ≡ Err f → ((r ≡ Err fault.ObjectLimit) ↔ (1000000 ≤ object_number store))
      → ((r ≡ Err fault.EntryLimit) ↔ ((object_number store < 1000000) × (4000000 < entry_number store + length parts)))
      → (new : Store) → new ≡ store → PerformsOnHeap store locals (λ w. makes w name code class parts referent) new (Err (refusal_by f))
  unfolding ◌>>=◌
  makes-refused fault.ObjectLimit r is objects entries new same = λ w s.
      (ap (λ q. effect_with w q (has_room w (length parts))) (full store w s.represents sound (objects.0 is)), same)
  makes-refused fault.EntryLimit r is objects entries new same = λ w s.
      let both = entries.0 is in
      ((λ i. effect_with w (few store w s.represents sound both.0 i) (no_room store w s.represents (length parts) both.1 i)), same)
  makes-refused fault.OutOfMemory r is objects entries new same = λ w s. (
    inl (record {
      lines = Made code w.next_serial ∷ [];
      given_up = given_up_by w name;
      after = bound (with_new w code class parts referent) name (Some (val.Ref w.next_serial));
      is = fits few_objects few_entries w s.represents;
    }),
    same,
  )
    where
      few_objects : object_number store < 1000000
      few_objects = known (leb_tells 1000000 (object_number store))
        where
          known : {b : Bool} → ((b ≡ true) × (1000000 ≤ object_number store)) ⊎ ((b ≡ false) × (object_number store < 1000000)) → object_number store < 1000000
          known (inl h) = let no' = sym is ∙ objects.1 h.1 in absurd (cc)
          known (inr h) = h.1

      few_entries : entry_number store + length parts ≤ 4000000
      few_entries = known (leb_tells (entry_number store + length parts) 4000000)
        where
          known : {b : Bool} → ((b ≡ true) × (entry_number store + length parts ≤ 4000000)) ⊎ ((b ≡ false) × (4000000 < entry_number store + length parts))
              → entry_number store + length parts ≤ 4000000
          known (inl h) = h.1
          known (inr h) = let no' = sym is ∙ entries.1 (few_objects, h.1) in absurd (cc)
