-- The order in which references are found.
use Rattle.std.proofs.Common.{◌≡◌, ◌≢◌, refl, sym, ◌∙◌, ap, subst, ℕ, zero, suc, ◌<◌, ◌≤◌, inl, inr, cond, take, get_or, List, [], ◌∷◌, ◌++◌, length, Option, Some, None, arith, append_assoc}
use Rattle.std.specs.Prelude.{slice_get}
use Rattle.std.proofs.lemmas.Bool.{eq-eqb, ne_eqb, cases_eq}
use Rattle.std.proofs.lemmas.List.{append-nil, append_cancel_left}
use Rattle.std.proofs.lemmas.Option.{slice_get_within}
use Rattle.cg_graph.specs.Member.{Includes}
use Rattle.cg_graph.proofs.Members.{either, Includes-append_left, Includes-append_cases}
use Rattle.cg_search.specs.Walks.{Findings, objects_in, Finds, IsStart}
use Rattle.cg_search.proofs.Trails.{get_cases, get_in, finds_none, finds_new, finds_present, finds_more, objects_append}
use Rattle.cg_inspect.specs.Order.{position_among}
use Rattle.cg_inspect.specs.Findings.{RiseBy, FindsInOrder}
use Rattle.cg_inspect.proofs.Objects.{Ascends, in_range}

-- Positions.
position_here : (r : ℕ) (refs : List ℕ) (o : ℕ) → r ≡ o → position_among (r ∷ refs) o ≡ 0
position_here r refs o same = ap (λ b. cond b 0 (suc (position_among refs o))) (eq-eqb r o same)

position_there : (r : ℕ) (refs : List ℕ) (o : ℕ) → r ≢ o → position_among (r ∷ refs) o ≡ suc (position_among refs o)
position_there r refs o differs = ap (λ b. cond b 0 (suc (position_among refs o))) (ne_eqb r o differs)

position_kept : (refs more : List ℕ) (o : ℕ) → Includes refs o → position_among (refs ++ more) o ≡ position_among refs o
position_kept [] more o m = absurd m
position_kept (r ∷ refs) more o m = elim (cases_eq r o) [
  | inl same ↦ position_here r (refs ++ more) o same ∙ sym (position_here r refs o same)
  | inr differs ↦
      let rest : Includes refs o = either m (λ e. absurd (differs e)) (λ k. k) in
      position_there r (refs ++ more) o differs ∙ ap suc (position_kept refs more o rest) ∙ sym (position_there r refs o differs)
]

position_within : (refs : List ℕ) (o : ℕ) → Includes refs o → position_among refs o < length refs
position_within [] o m = absurd m
position_within (r ∷ refs) o m = elim (cases_eq r o) [
  | inl same ↦ omega (arith, position_here r refs o same)
  | inr differs ↦
      let rest : Includes refs o = either m (λ e. absurd (differs e)) (λ k. k) in
      omega (arith, position_there r refs o differs, position_within refs o rest)
]

position_past : (refs more : List ℕ) (o : ℕ) → ¬ Includes refs o → length refs ≤ position_among (refs ++ more) o
position_past [] more o none = omega arith
position_past (r ∷ refs) more o none =
    omega (arith, position_there r (refs ++ more) o (λ e. none (inl e)), position_past refs more o (λ m. none (inr m)))

-- What is found, one after the other.
module _ (old : Findings) (holder : Option ℕ) where
  in_order : (refs : List ℕ) (new more : Findings) → Finds old refs holder new → new ≡ old ++ more
      → ((e : ℕ × Option ℕ) → Includes more e → ¬ Includes (objects_in old) e.0) → RiseBy (position_among refs) more
      → FindsInOrder old refs holder new
  in_order refs new more finds is fresh order = record {
    finds = finds;
    fresh = subst (λ (es : Findings). (e : ℕ × Option ℕ) → Includes es e → ¬ Includes (objects_in old) e.0) same fresh;
    order = subst (λ (es : Findings). RiseBy (position_among refs) es) same order;
  }
    where
      same : more ≡ finds.more
      same = append_cancel_left old more finds.more (sym is ∙ finds.is)

  pub none_in_order : FindsInOrder old [] holder old
  none_in_order = in_order [] old [] (finds_none old holder) (sym (append-nil old)) (λ e m. absurd m) (λ i k e f less a b. absurd (cc))

  pub present_in_order : (object : ℕ) → Includes (objects_in old) object → FindsInOrder old (object ∷ []) holder old
  present_in_order object there =
      in_order (object ∷ []) old [] (finds_present old old object holder refl there) (sym (append-nil old))
      (λ e m. absurd m) (λ i k e f less a b. absurd (cc))

  pub new_in_order : (new : Findings) (object : ℕ) → new ≡ old ++ (object, holder) ∷ [] → ¬ Includes (objects_in old) object
      → FindsInOrder old (object ∷ []) holder new
  new_in_order new object is absent =
      in_order (object ∷ []) new ((object, holder) ∷ []) (finds_new old new object holder is absent) is
      (λ e m there. absent (subst (Includes (objects_in old)) (sym (ap (λ (x : ℕ × Option ℕ). x.0) (either m (λ s. s) (λ f. absurd f)))) there)) alone
    where
      alone : RiseBy (position_among (object ∷ [])) ((object, holder) ∷ [])
      alone i k e f less a b =
          let first = slice_get_within ((object, holder) ∷ []) i e a in
          let last = slice_get_within ((object, holder) ∷ []) k f b in
          absurd (omega (arith, less, first, last))

  pub more_in_order : (mid new : Findings) (refs : List ℕ) (object : ℕ) → FindsInOrder old refs holder mid → FindsInOrder mid (object ∷ []) holder new
      → FindsInOrder old (refs ++ object ∷ []) holder new
  more_in_order mid new refs object a b =
      in_order (refs ++ object ∷ []) new (a.finds.more ++ b.finds.more) (finds_more old mid new refs object holder a.finds b.finds)
      (b.finds.is ∙ ap (λ (l : Findings). l ++ b.finds.more) a.finds.is ∙ append_assoc old a.finds.more b.finds.more) fresh order
    where
      stays : (o : ℕ) → Includes (objects_in old) o → Includes (objects_in mid) o
      stays o m =
          subst (λ (es : Findings). Includes (objects_in es) o) (sym a.finds.is)
          (subst (λ (os : List ℕ). Includes os o) (sym (objects_append old a.finds.more))
          (Includes-append_left (objects_in old) (objects_in a.finds.more) o m))

      fresh : (e : ℕ × Option ℕ) → Includes (a.finds.more ++ b.finds.more) e → ¬ Includes (objects_in old) e.0
      fresh e m there = either (Includes-append_cases a.finds.more b.finds.more e m) (λ k. a.fresh e k there) (λ k. b.fresh e k (stays e.0 there))

      early : (i : ℕ) (e : ℕ × Option ℕ) → slice_get a.finds.more i ≡ Some e → Includes refs e.0
      early i e at = (a.finds.only e (get_in a.finds.more i e at)).0

      late : (k : ℕ) (f : ℕ × Option ℕ) → slice_get b.finds.more k ≡ Some f → ¬ Includes refs f.0
      late k f at m = b.fresh f (get_in b.finds.more k f at) (a.finds.all f.0 m)

      one : (k : ℕ) (f : ℕ × Option ℕ) → slice_get b.finds.more k ≡ Some f → object ≡ f.0
      one k f at = either (b.finds.only f (get_in b.finds.more k f at)).0 (λ e. e) (λ none. absurd none)

      kept : (o : ℕ) → Includes refs o → position_among (refs ++ object ∷ []) o ≡ position_among refs o
      kept o m = position_kept refs (object ∷ []) o m

      order : RiseBy (position_among (refs ++ object ∷ [])) (a.finds.more ++ b.finds.more)
      order i k e f less at then = elim (get_cases a.finds.more b.finds.more i e at) [
        | inl p ↦ elim (get_cases a.finds.more b.finds.more k f then) [
          | inl q ↦ omega (arith, a.order i k e f less p q, kept e.0 (early i e p), kept f.0 (early k f q))
          | inr q ↦
              omega (arith, kept e.0 (early i e p), position_within refs e.0 (early i e p), position_past refs (object ∷ []) f.0 (late q.0 f q.2))
        ]
        | inr p ↦ elim (get_cases a.finds.more b.finds.more k f then) [
          | inl q ↦ let low = slice_get_within a.finds.more k f q in absurd (omega (arith, less, p.1, low))
          | inr q ↦
              let here = b.order p.0 q.0 e f (omega (arith, less, p.1, q.1)) p.2 q.2 in
              let same : e.0 ≡ f.0 = sym (one p.0 e p.2) ∙ one q.0 f q.2 in
              absurd (omega (arith, here, ap (position_among (object ∷ [])) same))
        ]
      ]

-- The objects that roots hold are found by rising serial.
below_next : (xs : List ℕ) → Ascends xs → (i : ℕ) → i < length xs → (o : ℕ) → Includes (take i xs) o → o < get_or xs i 0
below_next [] rises i low o m = absurd (omega (arith, low))
below_next (x ∷ xs) rises zero low o m = absurd m
below_next (x ∷ xs) rises (suc i) low o m = either m
    (λ e. subst (λ p. p < get_or xs i 0) e (rises.0 (get_or xs i 0) (in_range xs i (omega (arith, low)))))
    (λ k. below_next xs rises.1 i (omega (arith, low)) o k)

pub roots_in_order : (Held : ℕ → Type 0) (xs : List ℕ) (i : ℕ) (old new : Findings) → Ascends xs → i < length xs
    → IsStart (λ o. Held o × Includes (take i xs) o) old → RiseBy (λ o. o) old
    → FindsInOrder old (get_or xs i 0 ∷ []) None new → RiseBy (λ o. o) new
roots_in_order Held xs i old new ascends low start rise b =
    subst (λ (es : Findings). RiseBy (λ o. o) es) (sym b.finds.is)
    (λ j k e f less at then. elim (get_cases old b.finds.more j e at) [
      | inl p ↦ elim (get_cases old b.finds.more k f then) [
        | inl q ↦ rise j k e f less p q
        | inr q ↦ subst (λ o. e.0 < o) (one q.0 f q.2) (below_next xs ascends i low e.0 (start.only e (get_in old j e p)).0.1)
      ]
      | inr p ↦ elim (get_cases old b.finds.more k f then) [
        | inl q ↦ let high = slice_get_within old k f q in absurd (omega (arith, less, p.1, high))
        | inr q ↦
            let here = b.order p.0 q.0 e f (omega (arith, less, p.1, q.1)) p.2 q.2 in
            let same : e.0 ≡ f.0 = sym (one p.0 e p.2) ∙ one q.0 f q.2 in
            absurd (omega (arith, here, ap (position_among (get_or xs i 0 ∷ [])) same))
      ]
    ])
  where
    one : (k : ℕ) (f : ℕ × Option ℕ) → slice_get b.finds.more k ≡ Some f → get_or xs i 0 ≡ f.0
    one k f at = either (b.finds.only f (get_in b.finds.more k f at)).0 (λ e. e) (λ none. absurd none)
