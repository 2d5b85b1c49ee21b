-- The list of a store's objects after its nodes change.
use Rattle.std.proofs.Common.{◌≡◌, ◌<◌, ◌≤◌, IsSome, ℕ, ◌+◌, Bool, true, false, cond, not, List, [], ◌∷◌, ◌++◌, map, Option, Some, None, refl, sym, ap, ◌∙◌, subst, inl, inr, arith, sum_by}
use Rattle.std.specs.Prelude.{◌==◌, if◌then◌else◌, option_map, filter, find}
use Rattle.std.proofs.lemmas.Bool.{cases_eq, eq-eqb, ne_eqb}
use Rattle.std.proofs.lemmas.List.Sums.{sum_by-append, sum_by-cons}
use Rattle.std.specs.Ordering.{nat_cmp, eq_by_cmp}
use Rattle.std.specs.Cmp.{nat_cmp_total, nat_cmp_is, unsigned_tied}
use Rattle.std.specs.declared.cmp.Ordering.TheVariants.{Greater}
use Rattle.std.specs.FinMap as fin
use Rattle.std.specs.FinMap.Entries.{put, by_order, where_key, is_sorted-where_key, find-where_key}
use Rattle.cg_value.specs.declared.Entry.{Entry}
use Rattle.cg_value.specs.declared.KindCode.{KindCode}
use Rattle.cg_graph.specs.Maps.{mapped, changed, total}
use Rattle.cg_graph.specs.Value.{references}
use Rattle.cg_graph.specs.Holdings.{occurrences, entry_holdings, graph_of, name_holdings}
use Rattle.cg_graph.specs.Object.{Object, object_at, without, change}
use Rattle.cg_graph.specs.Rows.{Row}
use Rattle.cg_graph.specs.Store.{Store, Node, object_from, objects_of, held_by, held_within, inner}
use Rattle.cg_graph.specs.Changes.{made, new_node}
use Rattle.cg_graph.proofs.Maps.{entries-mapped, same_map, get-remove_same, get-remove_other}
use Rattle.cg_graph.proofs.Counts.{occurrences-entry_holdings}

-- changing each node changes each object
pub objects-mapped : (store : Store) (g : ℕ → Node → Node) (F : Object → Object) → ((s : ℕ) (n : Node) → object_from store.rows s (g s n)
    ≡ F (object_from store.rows s n)) → objects_of (record store { nodes = mapped g store.nodes }) ≡ map F (objects_of store)
objects-mapped store g F same = ap (map (λ (e : ℕ × Node). object_from store.rows e.0 e.1)) (entries-mapped g store.nodes) ∙ each (fin.entries store.nodes)
  where
    each : (es : List (ℕ × Node)) → map (λ (e : ℕ × Node). object_from store.rows e.0 e.1) (map (λ (e : ℕ × Node). (e.0, g e.0 e.1)) es)
        ≡ map F (map (λ (e : ℕ × Node). object_from store.rows e.0 e.1) es)
    each [] = refl
    each (e ∷ es) = λ i. same e.0 e.1 i ∷ each es i

-- a change of nodes that no object shows
pub objects-same : (store : Store) (g : ℕ → Node → Node) → ((s : ℕ) (n : Node) → object_from store.rows s (g s n) ≡ object_from store.rows s n)
    → objects_of (record store { nodes = mapped g store.nodes }) ≡ objects_of store
objects-same store g same = objects-mapped store g (λ x. x) same ∙ map_id (objects_of store)
  where
    map_id : (xs : List Object) → map (λ x. x) xs ≡ xs
    map_id [] = refl
    map_id (x ∷ xs) = ap (λ l. x ∷ l) (map_id xs)

-- changing one node changes one object
pub objects-changed : (store : Store) (o : ℕ) (g : Node → Node) (f : Object → Object) → ((s : ℕ) (n : Node) → object_from store.rows s (g n)
    ≡ f (object_from store.rows s n)) → objects_of (record store { nodes = changed g o store.nodes }) ≡ change f o (objects_of store)
objects-changed store o g f same = objects-mapped store (λ s n. if s == o then g n else n) (λ x. if x.serial == o then f x else x) (λ s n. one (s == o) s n)
  where
    one : (b : Bool) (s : ℕ) (n : Node) → object_from store.rows s (if b then g n else n) ≡ (if b then f (object_from store.rows s n) else object_from store.rows s n)
    one true s n = same s n
    one false s n = refl

-- the object of a serial
pub object-at : (store : Store) (o : ℕ) → object_at (objects_of store) o ≡ option_map (object_from store.rows o) (fin.get store.nodes o)
object-at store o = each (fin.entries store.nodes) ∙ ap (option_map (object_from store.rows o)) (sym (fin.get-entries store.nodes o))
  where
    each : (es : List (ℕ × Node)) → find (λ x. x.serial == o) (map (λ e. object_from store.rows e.0 e.1) es) ≡ option_map (object_from store.rows o) (fin.find nat_cmp o es)
    each [] = refl
    each (e ∷ es) =
        elim (cases_eq e.0 o) [
          | inl same ↦
              ap (λ b. cond b (Some (object_from store.rows e.0 e.1)) (find (λ x. x.serial == o) (map (λ e. object_from store.rows e.0 e.1) es))) (eq-eqb e.0 o same)
              ∙ ap (λ s. Some (object_from store.rows s e.1)) same
              ∙ sym (ap (λ b. option_map (object_from store.rows o) (cond b (Some e.1) (fin.find nat_cmp o es))) (unsigned_tied o e.0 ∙ eq-eqb o e.0 (sym same)))
          | inr differs ↦
              ap (λ b. cond b (Some (object_from store.rows e.0 e.1)) (find (λ x. x.serial == o) (map (λ e. object_from store.rows e.0 e.1) es))) (ne_eqb e.0 o differs)
              ∙ each es
              ∙ sym (ap (λ b. option_map (object_from store.rows o) (cond b (Some e.1) (fin.find nat_cmp o es))) (unsigned_tied o e.0 ∙ ne_eqb o e.0 (λ h. differs (sym h))))
        ]

pub occurrences-append : (s : ℕ) (xs ys : List ℕ) → occurrences s (xs ++ ys) ≡ occurrences s xs + occurrences s ys
occurrences-append s xs ys = sum_by-append (λ r. cond (r == s) 1 0) xs ys

sums-alike : (rows : List Row) (s : ℕ) (es : List (ℕ × Node)) → sum_by (λ (n : ℕ × List Entry). occurrences s (references n.1))
    (map (λ (x : Object). (x.serial, x.entries)) (map (λ (e : ℕ × Node). object_from rows e.0 e.1) es)) ≡ sum_by (λ (e : ℕ × Node). held_by s e.1) es
sums-alike rows s [] = refl
sums-alike rows s (e ∷ es) =
    sum_by-cons {X = ℕ × List Entry} (λ n. occurrences s (references n.1)) (e.0, e.1.entries) (map (λ (x : Object). (x.serial, x.entries)) (map (λ (e : ℕ × Node). object_from rows e.0 e.1) es))
    ∙ ap (λ k. held_by s e.1 + k) (sums-alike rows s es)
    ∙ sym (sum_by-cons {X = ℕ × Node} (λ e. held_by s e.1) e es)

-- the heap's count of holds is the count in its objects
pub inner-holdings : (store : Store) (s : ℕ) → inner store s ≡ occurrences s (name_holdings store.names ++ (1 ∷ []) ++ entry_holdings (graph_of (objects_of store)))
unfolding held_within
inner-holdings store s =
    let entries : occurrences s (entry_holdings (graph_of (objects_of store))) ≡ total (held_by s) store.nodes = occurrences-entry_holdings s
    (graph_of (objects_of store)) ∙ sums-alike store.rows s (fin.entries store.nodes) in
    omega (arith, entries, occurrences-append s (name_holdings store.names ++ (1 ∷ [])) (entry_holdings (graph_of (objects_of store))), occurrences-append s (name_holdings store.names) (1 ∷ []))

-- the entries of a map with a key removed
pub entries-remove : {X : Type 0} (m : fin.FinMap nat_cmp X) (k : ℕ) → fin.entries (fin.remove m k) ≡ filter (λ e. not (e.0 == k)) (fin.entries m)
entries-remove {X} m k = ap fin.entries (sym same) ∙ fin.entries-from_sorted nat_cmp (where_key nat_cmp keep (fin.entries m)) (is_sorted-where_key nat_cmp keep (fin.entries m) (fin.entries_sorted m))
  where
    keep : ℕ → Bool
    keep x = not (x == k)

    left : fin.FinMap nat_cmp X
    left = fin.from_sorted (where_key nat_cmp keep (fin.entries m))

    get-left : (q : ℕ) → fin.get left q ≡ cond (keep q) (fin.get m q) None
    get-left q =
        fin.get-from_sorted nat_cmp (where_key nat_cmp keep (fin.entries m)) q (is_sorted-where_key nat_cmp keep (fin.entries m) (fin.entries_sorted m))
        ∙ find-where_key nat_cmp keep q (λ x t. ap keep (sym (fin.nat_cmp-IsAntisymmetric q x t))) (fin.entries m)
        ∙ ap (λ y. cond (keep q) y None) (sym (fin.get-entries m q))

    same : left ≡ fin.remove m k
    same = same_map left (fin.remove m k)
        (λ q. get-left q ∙ elim (cases_eq q k) [
          | inl e ↦ ap (λ b. cond (not b) (fin.get m q) None) (eq-eqb q k e) ∙ sym (get-remove_same m k q e)
          | inr n ↦ ap (λ b. cond (not b) (fin.get m q) None) (ne_eqb q k n) ∙ sym (get-remove_other m k q n)
        ])

pub objects-remove : (store : Store) (o : ℕ) → objects_of (record store { nodes = fin.remove store.nodes o }) ≡ without o (objects_of store)
objects-remove store o = ap (map (λ (e : ℕ × Node). object_from store.rows e.0 e.1)) (entries-remove store.nodes o) ∙ each (fin.entries store.nodes)
  where
    each : (es : List (ℕ × Node)) → map (λ e. object_from store.rows e.0 e.1) (filter (λ e. not (e.0 == o)) es) ≡ filter (λ x. not (x.serial == o)) (map (λ e. object_from store.rows e.0 e.1) es)
    each [] = refl
    each (e ∷ es) = go (not (e.0 == o)) (each es)
      where
        go : (b : Bool) → map (λ e. object_from store.rows e.0 e.1) (filter (λ e. not (e.0 == o)) es) ≡ filter (λ x. not (x.serial == o)) (map (λ e. object_from store.rows e.0 e.1) es)
            → map (λ e. object_from store.rows e.0 e.1) (cond b (e ∷ filter (λ e. not (e.0 == o)) es) (filter (λ e. not (e.0 == o)) es))
            ≡ cond b (object_from store.rows e.0 e.1 ∷ filter (λ x. not (x.serial == o)) (map (λ e. object_from store.rows e.0 e.1) es))
            (filter (λ x. not (x.serial == o)) (map (λ e. object_from store.rows e.0 e.1) es))
        go true h = ap (λ l. object_from store.rows e.0 e.1 ∷ l) h
        go false h = h

greater : (a b : ℕ) → b < a → nat_cmp a b ≡ Greater
greater a b h = sym (nat_cmp_is a b Greater h)

-- A new greatest key goes last.
module _ {X : Type 0} (k : ℕ) (v : X) where
  put-last : (es : List (ℕ × X)) → ((q : ℕ) → IsSome (fin.find nat_cmp q es) → q < k) → put nat_cmp k v es ≡ es ++ (k, v) ∷ []
  put-last [] below = refl
  put-last (e ∷ es) below =
      let first : e.0 < k = below e.0 (subst (λ b. IsSome (cond b (Some e.1) (fin.find nat_cmp e.0 es))) (sym (unsigned_tied e.0 e.0 ∙ eq-eqb e.0 e.0 refl)) refl) in
      ap (λ r. by_order r ((k, v) ∷ e ∷ es) ((e.0, v) ∷ es) (e ∷ put nat_cmp k v es)) (greater k e.0 first)
      ∙ ap (λ l. e ∷ l) (put-last es (λ q h. below q (later q h)))
    where
      later : (q : ℕ) → IsSome (fin.find nat_cmp q es) → IsSome (fin.find nat_cmp q (e ∷ es))
      later q h = elim (eq_by_cmp nat_cmp q e.0) as (λ b. IsSome (cond b (Some e.1) (fin.find nat_cmp q es))) [ true ↦ refl | false ↦ h ]

  pub entries-last : (m : fin.FinMap nat_cmp X) → ((q : ℕ) → IsSome (fin.get m q) → q < k) → fin.entries (fin.insert m k v) ≡ fin.entries m ++ (k, v) ∷ []
  entries-last m below =
      fin.entries-insert nat_cmp_total m k v
      ∙ put-last (fin.entries m) (λ q h. below q (subst IsSome (sym (fin.get-entries m q)) h))

pub objects-made : (store : Store) (code : KindCode) (class : Option ℕ) (parts : List Entry) → ((q : ℕ) → IsSome (fin.get store.nodes q) → q ≤ store.last)
    → objects_of (made code class parts store) ≡ objects_of store ++ object_from store.rows (store.last + 1) (new_node code class parts) ∷ []
objects-made store code class parts below =
    ap (map (λ (e : ℕ × Node). object_from store.rows e.0 e.1)) (entries-last (store.last + 1) (new_node code class parts) store.nodes (λ q h. let low = below q h in omega (arith, low)))
    ∙ map-append (fin.entries store.nodes)
  where
    map-append : (es : List (ℕ × Node)) → map (λ (e : ℕ × Node). object_from store.rows e.0 e.1) (es ++ (store.last + 1, new_node code class parts) ∷ [])
        ≡ map (λ (e : ℕ × Node). object_from store.rows e.0 e.1) es ++ object_from store.rows (store.last + 1) (new_node code class parts) ∷ []
    map-append [] = refl
    map-append (e ∷ es) = ap (λ l. object_from store.rows e.0 e.1 ∷ l) (map-append es)
