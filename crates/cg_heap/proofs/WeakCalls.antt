-- The effect of calls on weak references.
use Rattle.std.proofs.Common.{◌≡◌, ℕ, Bool, ◌+◌, ◌<◌, ◌≤◌, List, Option, Some, None, IsSome, refl, sym, ap, subst, arith}
use Rattle.std.specs.Prelude.{IfSome, if◌then◌else◌, All}
use Rattle.cg_value.specs.declared.Val.{Val}
use Rattle.cg_value.specs.declared.Entry.{Entry}
use Rattle.cg_value.specs.declared.KindCode.{KindCode}
use Rattle.cg_value.specs.declared.KindCode.TheVariants.{List as ListKind, Tuple, Dict, Inst, Func, Weak}
use Rattle.cg_kind.specs.Bodies.{Bodies}
use Rattle.cg_graph.specs.Rows.{Row}
use Rattle.cg_graph.specs.Store.{Store, IsLive, HasCode}
use Rattle.cg_graph.specs.Changes.{made}
use Rattle.cg_arena.specs.Nodes.{Nodes}
use Rattle.cg_heap.specs.declared.heap.objects.Objects.{Objects}
use Rattle.cg_heap.specs.Keeps.{store_of}
use Rattle.cg_heap.proofs.HeapIsStore.{Closed, closed}
use Rattle.cg_graph.specs.Rows.{with_row_waiting, without_row}
use Rattle.cg_heap.specs.Weak.{HasReferent, with_new_row, attached, cleared_weak, forgotten_weak}
use Rattle.cg_heap.proofs.CallerLemmas.{lives_on, live_of_kind, kinds-made, made_kind}
use Rattle.cg_heap.proofs.RowsAndHolds.{kept-attached, kept-cleared, kept-forgotten}
use Rattle.std.proofs.lemmas.List.Elements.{All-weaker}
use Rattle.cg_heap.proofs.Calls.{keeps-aside}

module _ {all : List Bodies} {v : Nodes} {names : List (Option Val)} {last : ℕ} {rows : List Row} {objects : Objects} {number : ℕ} {old : Store}
    (h : Closed all v names last rows objects number old) where
  abbrev was : Store
  was = store_of all v names last rows

  -- a weak reference loses its referent
  pub after_clear : (weak : ℕ) (wait : Bool) (rows' : List Row) → rows' ≡ (if wait then with_row_waiting weak rows else without_row weak rows)
      → Closed all v names last rows' objects number (cleared_weak weak wait old)
  after_clear weak wait rows' e =
      subst (λ s. Closed all v names last rows' objects number (cleared_weak weak wait s)) h.is
      (subst (λ r. Closed all v names last r objects number (cleared_weak weak wait was)) (sym e)
      (closed all v objects number (cleared_weak weak wait was) (keeps-aside h.keeps.0) (kept-cleared weak wait was h.keeps.1) refl))

  pub after_forget : (weak : ℕ) (rows' : List Row) → rows' ≡ without_row weak rows → Closed all v names last rows' objects number (forgotten_weak weak old)
  after_forget weak rows' e =
      subst (λ s. Closed all v names last rows' objects number (forgotten_weak weak s)) h.is
      (subst (λ r. Closed all v names last r objects number (forgotten_weak weak was)) (sym e)
      (closed all v objects number (forgotten_weak weak was) (keeps-aside h.keeps.0) (kept-forgotten weak was h.keeps.1) refl))

  -- all rows have weak references below a new serial
  pub rows_below : All (λ r. r.weak < last + 1) rows
  rows_below = All-weaker (λ r. HasCode was r.weak Weak) (λ r. r.weak < last + 1) (λ r has. let low : r.weak ≤ last = h.keeps.0.shape.below r.weak
      (live_of_kind was r.weak Weak has) in omega (arith, low)) rows h.keeps.1.rows.weak

  -- a weak reference gets its referent
  pub after_attach : (weak : ℕ) (referent : Option ℕ) → All (λ r. r.weak < weak) rows → (IsSome referent → HasCode old weak Weak)
      → IfSome referent (λ o. IsLive old o) → (rows' : List Row) → rows' ≡ with_new_row weak referent rows → Closed all v names last rows' objects number
      (attached weak referent old)
  after_attach weak referent newest kind live rows' e =
      subst (λ s. Closed all v names last rows' objects number (attached weak referent s)) h.is
      (subst (λ r. Closed all v names last r objects number (attached weak referent was)) (sym e)
      (closed all v objects number (attached weak referent was) (keeps-aside h.keeps.0)
      (kept-attached weak referent was newest
      (λ some. subst (λ s. HasCode s weak Weak) (sym h.is) (kind some))
      (subst (λ s. IfSome referent (λ o. IsLive s o)) (sym h.is) live)
      h.keeps.1) refl))

module _ {all : List Bodies} {v : Nodes} {names : List (Option Val)} {last : ℕ} {rows : List Row} {objects : Objects} {number : ℕ} {old : Store}
    (h : Closed all v names last rows objects number old) where
  old_below : (s : ℕ) → IsLive old s → s ≤ old.last
  old_below = subst (λ (o : Store). (s : ℕ) → IsLive o s → s ≤ o.last) h.is h.keeps.0.shape.below

  last_is : last ≡ old.last
  last_is = ap (λ (s : Store). s.last) h.is

  -- and its row is added
  pub after_making : (code : KindCode) (class : Option ℕ) (parts : List Entry) (referent : Option ℕ) → HasReferent code referent
      → IfSome referent (λ o. IsLive old o) → (all' : List Bodies) (v' : Nodes) (objects' : Objects) (number' : ℕ) → Closed all' v' names (last + 1) rows objects' number'
      (made code class parts old)
      → (rows' : List Row) → rows' ≡ with_new_row (last + 1) referent rows → Closed all' v' names (last + 1) rows' objects' number' (attached (old.last + 1) referent (made code class parts old))
  after_making code class parts referent has live all' v' objects' number' made_so rows' e =
      subst (λ k. Closed all' v' names (last + 1) rows' objects' number' (attached (k + 1) referent (made code class parts old))) last_is
      (after_attach made_so (last + 1) referent (rows_below h)
      (λ some. subst (λ k. HasCode (made code class parts old) (k + 1) Weak) (sym last_is) (subst (HasCode (made code class parts old) (old.last + 1))
      (refers code has some) (made_kind code class parts old)))
      (still referent live) rows' e)
    where
      refers : (c : KindCode) → HasReferent c referent → IsSome referent → c ≡ Weak
      refers ListKind none some = absurd (cc)
      refers Tuple none some = absurd (cc)
      refers Dict none some = absurd (cc)
      refers Inst none some = absurd (cc)
      refers Func none some = absurd (cc)
      refers Weak h some = refl

      still : (r : Option ℕ) → IfSome r (λ o. IsLive old o) → IfSome r (λ o. IsLive (made code class parts old) o)
      still None h = tt
      still (Some o) h = lives_on old (made code class parts old) (kinds-made code class parts old old_below) o h
