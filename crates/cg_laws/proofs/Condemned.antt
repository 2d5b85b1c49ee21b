-- Which objects a collection condemns, and what its changes of the objects keep: an object that an activity holds survives.
use Rattle.std.proofs.Common.{◌≡◌, ◌≢◌, refl, sym, ◌∙◌, subst, ℕ, ◌≤◌, Bool, true, false, cond, not, inl, inr, List, [], ◌∷◌, ◌++◌, Option, arith}
use Rattle.std.specs.Prelude.{◌==◌, ◌&&◌, ◌||◌, nat_le, if◌then◌else◌, flat_map, filter}
use Rattle.std.proofs.lemmas.Bool.{eqb-true}
use Rattle.cg_value.specs.declared.Val.{Val}
use Rattle.cg_value.specs.declared.Val.TheVariants.{Ref}
use Rattle.cg_value.specs.declared.Place.{Place}
use Rattle.cg_value.specs.declared.Place.TheVariants.{Untracked, Gen}
use Rattle.cg_value.specs.declared.KindCode.TheVariants.{List as ListKind, Weak}
use Rattle.cg_graph.specs.Member.{Includes}
use Rattle.cg_graph.specs.Value.{item, references}
use Rattle.cg_graph.specs.Object.{Object, change, is_at, is_tracked, with_place, with_entries, serials, objects_at}
use Rattle.cg_graph.specs.Holdings.{occurrences, entry_holdings, graph_of, name_holdings}
use Rattle.cg_graph.specs.Reach.{first}
use Rattle.cg_graph.proofs.Members.{either, Includes-map}
use Rattle.cg_graph.proofs.Objects.{occurrences-append}
use Rattle.cg_machine.specs.World.{World, Activity}
use Rattle.cg_machine.specs.Holdings.{holds}
use Rattle.cg_machine.specs.Weak.{loses_referent, AllLose}
use Rattle.cg_machine.specs.Collect.{merged_place, survivor_place, has_none_tracked, older, is_condemned, Survives, saved, all_saved}
use Rattle.cg_machine.specs.Operands.{is_dict}
use Rattle.cg_laws.proofs.Unreferred.{later_refl, place_later, lives_after, change_alters, still_later}
use Rattle.cg_laws.proofs.Lookups.{references-append}
use Rattle.cg_represents.proofs.Lists.{present, each_changed}
use Rattle.cg_laws.proofs.HeldLives.{Orderly, From, objects_orderly, from_same}
use Rattle.cg_laws.proofs.HeldLivesDeaths.{one_orderly, lost_orderly, false_true}

pub filter_holdings : (p : Object → Bool) (objects : List Object) (o : ℕ) → occurrences o (entry_holdings (graph_of (filter p objects))) ≤ occurrences o (entry_holdings (graph_of objects))
filter_holdings p [] o = omega arith
filter_holdings p (x ∷ objects) o = go (p x) (filter_holdings p objects o)
  where
    go : (b : Bool) → occurrences o (entry_holdings (graph_of (filter p objects))) ≤ occurrences o (entry_holdings (graph_of objects))
        → occurrences o (entry_holdings (graph_of (cond b (x ∷ filter p objects) (filter p objects)))) ≤ occurrences o (entry_holdings (graph_of (x ∷ objects)))
    go true k = omega (
      arith,
      k,
      occurrences-append o (references x.entries) (entry_holdings (graph_of (filter p objects))),
      occurrences-append o (references x.entries) (entry_holdings (graph_of objects)),
    )
    go false k = omega (arith, k, occurrences-append o (references x.entries) (entry_holdings (graph_of objects)))

pub held_survives : (w : World) (p : Place) (x : Object) → Includes (objects_at w.objects p) x → Includes (flat_map holds w.stack) x.serial → Survives w p x.serial
held_survives w p x m held =
    let more = present x.serial (flat_map holds w.stack) held in
    let less = filter_holdings (is_at p) w.objects x.serial in
    first (omega (
      arith,
      more,
      less,
      occurrences-append x.serial (name_holdings w.names ++ (1 ∷ []) ++ entry_holdings (graph_of w.objects))
          (flat_map holds w.stack),
      occurrences-append x.serial (name_holdings w.names ++ (1 ∷ [])) (entry_holdings (graph_of w.objects)),
    ))
    (Includes-map (λ (z : Object). z.serial) (objects_at w.objects p) x m)

-- survivors' places are not those of condemned objects
pub survivor_uncondemned : (g : ℕ) (objects : List Object) (x y : Object) → is_condemned (with_place (survivor_place g objects x) y) ≡ false
survivor_uncondemned g objects x y = go (not (is_tracked x) || (g == 2) && is_dict x && has_none_tracked objects x)
  where
    go : (b : Bool) → is_condemned (with_place (if b then Untracked else Gen (older g)) y) ≡ false
    go true = refl
    go false = refl

pub merged_uncondemned : (g : ℕ) (p : Place) (x : Object) → is_condemned (with_place (merged_place g p) x) ≡ true → is_condemned (with_place p x) ≡ true
merged_uncondemned g (Gen i) x e = go (nat_le i g) e
  where
    go : (b : Bool) → is_condemned (with_place (if b then Gen g else Gen i) x) ≡ true → is_condemned (with_place (Gen i) x) ≡ true
    go true k = false_true k
    go false k = k
merged_uncondemned g p x e = e

-- an object is appended to the garbage list
pub saved_orderly : (s : ℕ) (objects : List Object) (names : List (Option Val)) (stack : List Activity) → Includes (serials objects) s
    → Orderly objects names stack → Orderly (saved s objects) names stack
saved_orderly s objects names stack lives h = objects_orderly objects (saved s objects) names stack
    (change_alters longer (λ x. still_later) 1 objects) from h
  where
    longer : Object → Object
    longer x = with_entries (x.entries ++ item (Ref s) ∷ []) x

    no_weak : (x : Object) → Includes objects x → x.serial ≡ 1 → x.code ≢ Weak
    no_weak x m e c = let no : ListKind ≡ Weak = sym (h.garbage x m e) ∙ c in cc

    from : (y : Object) → Includes (saved s objects) y → From objects stack y
    from = each_changed (From objects stack) longer (λ x. x.serial == 1) objects (λ x m e. record {
      was = x;
      member = m;
      later = still_later;
      same = λ k. absurd (no_weak x m (eqb-true x.serial 1 e) (h.waiting x.serial k x m refl).code);
      live = λ f k. either (references-append x.entries (item (Ref s) ∷ []) f k) (h.entries_live x m f) (λ n. either n (λ i. subst (Includes (serials objects)) i lives) (λ i. absurd i));
      fewer = λ c. absurd (no_weak x m (eqb-true x.serial 1 e) c);
      quiet = λ c. absurd (no_weak x m (eqb-true x.serial 1 e) c);
      condemned = λ k. inl k;
    }) (λ x m e. from_same objects stack names x x h m (later_refl x) refl (λ k. inl k))

saved_lives : (s : ℕ) (objects : List Object) (o : ℕ) → Includes (serials objects) o → Includes (serials (saved s objects)) o
saved_lives s objects o m = lives_after objects (saved s objects) (change_alters (λ x. with_entries (x.entries ++ item (Ref s) ∷ []) x)
    (λ x. still_later) 1 objects) o m

pub all_saved_orderly : (keeps : List ℕ) (objects : List Object) (names : List (Option Val)) (stack : List Activity)
    → ((o : ℕ) → Includes keeps o → Includes (serials objects) o) → Orderly objects names stack → Orderly (all_saved keeps objects) names stack
all_saved_orderly [] objects names stack live h = h
all_saved_orderly (s ∷ keeps) objects names stack live h = all_saved_orderly keeps (saved s objects) names stack
    (λ o m. saved_lives s objects o (live o (inr m))) (saved_orderly s objects names stack (live s (inl refl)) h)

pub all_lose_orderly : (wanted : Object → Bool) (weaks : List ℕ) (objects after : List Object) (names : List (Option Val)) (stack : List Activity)
    → AllLose wanted objects weaks after → Orderly objects names stack → Orderly after names stack
all_lose_orderly wanted [] objects after names stack lose h = subst (λ os. Orderly os names stack) (sym lose.1) h
all_lose_orderly wanted (weak ∷ weaks) objects after names stack lose h = all_lose_orderly wanted weaks (loses_referent weak objects) after names stack lose.1 (lost_orderly weak h)

-- an object moves to a place of uncondemned objects
pub placed_orderly : (p : Place) (o : ℕ) (objects : List Object) (names : List (Option Val)) (stack : List Activity)
    → ((x : Object) → is_condemned (with_place p x) ≡ true → is_condemned x ≡ true) → Orderly objects names stack → Orderly (change (with_place p) o objects)
    names stack
placed_orderly p o objects names stack condemned h = one_orderly (with_place p) o (place_later p) (λ x. refl) condemned h
