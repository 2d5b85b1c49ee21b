-- The values of several operands, and a callback.
use Rattle.std.proofs.Common.{◌≡◌, refl, sym, ◌∙◌, ap, subst, ℕ, ◌+◌, ◌<◌, List, [], ◌∷◌, ◌++◌, map, Option, Some, Result, Ok, Err, inl, inr, arith, length-append}
use Rattle.std.proofs.lemmas.Bool.{cases_eq}
use Rattle.std.proofs.lemmas.List.{map-append}
use Rattle.std.proofs.lemmas.List.Elements.{All-nil, All-cons}
use Rattle.cg_value.specs.declared.Val.{Val}
use Rattle.cg_value.specs.declared.Val.TheVariants as val
use Rattle.cg_value.specs.declared.Entry.{Entry}
use Rattle.cg_kind.specs.Calls.{AreItems}
use Rattle.cg_script.specs.declared.command.Operand.{Operand}
use Rattle.cg_graph.specs.Holdings.{occurrences}
use Rattle.cg_graph.specs.Value.{item, references, references_of_value}
use Rattle.cg_graph.specs.Store.{Store, IsLive}
use Rattle.cg_heap.specs.Calls.{IsLiveValue}
use Rattle.cg_heap.proofs.ReferenceLemmas.{push-item, refs-are}
use Rattle.cg_machine.specs.World.{World}
use Rattle.cg_machine.specs.Weak.{is_function}
use Rattle.cg_machine.specs.Operands.{value, values, object}
use Rattle.cg_machine.specs.Effects.{callback_entries}
use Rattle.cg_machine.specs.Refusals.{◌>>=◌, not_callable}
use Rattle.cg_commands.specs.declared.done.Refusal.{Refusal}
use Rattle.cg_commands.specs.declared.locals.Locals.{Locals}
use Rattle.cg_commands.specs.Refusals.{Declines}
use Rattle.cg_commands.specs.Stands.{Reads, IsRefused}
use Rattle.cg_commands.specs.Objects.{RefersTo, HasNoObject}
use Rattle.cg_commands.specs.Parts.{Gathers, IsCallback}
use Rattle.cg_commands.proofs.FirstRefusal.{declines_then}
use Rattle.cg_commands.proofs.Reading.{object-found}

-- the values of two lists of operands
right-unit : {A : Type 0} (r : Result A ℕ) → r ≡ (r >>= (λ x. Ok x))
unfolding ◌>>=◌
right-unit (Ok x) = refl
right-unit (Err e) = refl

values-append : (w : World) (xs ys : List Operand) → values w (xs ++ ys) ≡ (values w xs >>= (λ vs. values w ys >>= (λ us. Ok (vs ++ us))))
unfolding ◌>>=◌
values-append w [] ys = right-unit (values w ys)
values-append w (x ∷ xs) ys = first (values-append w xs ys) (value w x)
  where
    third : (v : Val) (vs : List Val) (r : Result (List Val) ℕ) → ((r >>= (λ us. Ok (vs ++ us))) >>= (λ ts. Ok (v ∷ ts))) ≡ (r >>= (λ us. Ok (v ∷ vs ++ us)))
    third v vs (Ok us) = refl
    third v vs (Err e) = refl

    second : (v : Val) (r q : Result (List Val) ℕ) → ((r >>= (λ vs. q >>= (λ us. Ok (vs ++ us)))) >>= (λ ts. Ok (v ∷ ts))) ≡ ((r >>= (λ vs. Ok (v ∷ vs))) >>= (λ vs. q >>= (λ us. Ok (vs ++ us))))
    second v (Ok vs) q = third v vs q
    second v (Err e) q = refl

    first : values w (xs ++ ys) ≡ (values w xs >>= (λ vs. values w ys >>= (λ us. Ok (vs ++ us)))) → (r : Result Val ℕ)
        → (r >>= (λ v. values w (xs ++ ys) >>= (λ vs. Ok (v ∷ vs))))
        ≡ ((r >>= (λ v. values w xs >>= (λ vs. Ok (v ∷ vs)))) >>= (λ vs. values w ys >>= (λ us. Ok (vs ++ us))))
    first rest (Ok v) = ap (λ q. q >>= (λ vs. Ok (v ∷ vs))) rest ∙ second v (values w xs) (values w ys)
    first rest (Err e) = refl

module _ (store : Store) (locals : Option Locals) where
  pub gathers-more : (ops : List Operand) (parts : List Entry) → Gathers store locals ops parts → (op : Operand) (v : Val)
      → Reads store locals (λ w. value w op) v → IsLiveValue store v → Gathers store locals (ops ++ op ∷ []) (parts ++ item v ∷ [])
  unfolding ◌>>=◌
  gathers-more ops parts g op v reads live = record {
    vals = g.vals ++ v ∷ [];
    reads = λ w s. values-append w ops (op ∷ [])
        ∙ ap (λ r. r >>= (λ vs. values w (op ∷ []) >>= (λ us. Ok (vs ++ us)))) (g.reads w s)
        ∙ ap (λ r. (r >>= (λ v. Ok (v ∷ []))) >>= (λ us. Ok (g.vals ++ us))) (reads w s);
    items = ap (λ l. l ++ item v ∷ []) g.items ∙ sym (map-append item g.vals (v ∷ []));
    counted = length-append parts (item v ∷ []) ∙ ap (λ n. n + 1) g.counted ∙ sym (length-append ops (op ∷ []));
    live = λ s some. lives s (push-item s parts v) some;
  }
    where
      lives : (s : ℕ) → occurrences s (references (parts ++ item v ∷ [])) ≡ occurrences s (references parts) + occurrences s (references_of_value (Some v))
          → 0 < occurrences s (references (parts ++ item v ∷ [])) → IsLive store s
      lives s split some = elim (cases_eq (occurrences s (references parts)) 0) [
        | inl none ↦ live s (refs-are v s (omega (arith, split, some, none)))
        | inr there ↦ g.live s (omega (arith, there))
      ]

  -- the first operand without a value is refused
  pub gathers-stop : (front : List Operand) (parts : List Entry) → Gathers store locals front parts → (op : Operand) (rest ops : List Operand) → ops ≡ front
      ++ op ∷ rest → (r : Refusal) → IsRefused store locals (λ w. value w op) r → IsRefused store locals (λ w. values w ops) r
  unfolding ◌>>=◌
  gathers-stop front parts g op rest ops is r refuses w s =
      subst (λ q. Declines r q)
      (sym (ap (values w) is ∙ values-append w front (op ∷ rest) ∙ ap (λ q. q >>= (λ vs. values w (op ∷ rest) >>= (λ us. Ok (vs ++ us)))) (g.reads w s)))
      (declines_then r (values w (op ∷ rest)) (λ us. Ok (g.vals ++ us)) (declines_then r (value w op) (λ v. values w rest >>= (λ vs. Ok (v ∷ vs))) (refuses w s)))

  callback-is : (w : World) (v : Val) → (v ≡ val.None → ⊥) → callback_entries w v ≡ (object w is_function not_callable v >>= (λ f. Ok (item v ∷ [])))
  callback-is w val.None other = absurd (other refl)
  callback-is w (val.Int n) other = refl
  callback-is w (val.Str n) other = refl
  callback-is w (val.Ref o) other = refl

  pub callback-function : (v : Val) (o : ℕ) → RefersTo store is_function v o → (v ≡ val.None → ⊥) → IsLiveValue store v → (parts : List Entry) → parts ≡ []
      ++ item v ∷ [] → IsCallback store locals v parts
  unfolding ◌>>=◌
  callback-function v o there other live parts is = subst (λ ps. IsCallback store locals v ps) (sym is) (record {
    vals = v ∷ [];
    reads = λ w s. callback-is w v other ∙ ap (λ q. q >>= (λ f. Ok (item v ∷ []))) (object-found store w s.represents is_function not_callable v o there);
    items = refl;
    single = omega arith;
    live = λ s some. live s (refs-are v s (let split = push-item s [] v in omega (arith, split, some)));
  })

  pub callback-refused : (v : Val) (r : Refusal) → HasNoObject store is_function not_callable v r → (v ≡ val.None → ⊥) → IsRefused store locals (λ w. callback_entries w v) r
  callback-refused v r none other w s = subst (λ q. Declines r q) (sym (callback-is w v other)) (declines_then r (object w is_function not_callable v) (λ f. Ok (item v ∷ [])) (none w s.represents))

-- entries made from values are items
pub items-are : (vs : List Val) (parts : List Entry) → parts ≡ map item vs → AreItems parts
items-are vs parts is = subst (λ ps. AreItems ps) (sym is) (each vs)
  where
    each : (vs : List Val) → AreItems (map item vs)
    each [] = All-nil (λ (e : Entry). e.key ≡ val.None)
    each (v ∷ vs) = All-cons (λ (e : Entry). e.key ≡ val.None) (item v) (map item vs) refl (each vs)
