-- The rows of weak references to the members of the final set, and then those of members, are removed one by one: each is
-- the newest to its referent.
use Rattle.std.proofs.Common.{◌≡◌, ◌≢◌, refl, sym, ◌∙◌, ap, subst, ℕ, ◌≤◌, Bool, true, false, cond, not, ◌&&◌, ◌||◌, inl, inr, List, [], ◌∷◌, ◌++◌, append_assoc, map, reverse, Option, Some, None, arith}
use Rattle.std.specs.Prelude.{◌==◌, ◌⊎◌, filter, flat_map}
use Rattle.std.specs.FinMap as fin
use Rattle.std.proofs.lemmas.Bool.{not-true, eq-eqb, eqb-true, ne_eqb}
use Rattle.cg_graph.specs.Member.{Includes, includes}
use Rattle.cg_graph.specs.Holdings.{occurrences}
use Rattle.cg_graph.specs.Object.{Object}
use Rattle.cg_graph.specs.Rows.{Row, IsRising, referent_in, refers_to, waits_with, newest_first, weak_references_in, waiting_in, without_row}
use Rattle.cg_graph.specs.Store.{Store, Node, IsLive, objects_of, object_from}
use Rattle.cg_graph.proofs.Members.{either, cases_of, true_and, true_or, includes-of, Includes-of, Includes-filter_cases}
use Rattle.cg_machine.specs.Weak.{MayLoseNext, NoneLeft, AllLose}
use Rattle.cg_trial.proofs.Lists.{occurrences-cons, occurs}
use Rattle.cg_death.proofs.RowSplits.{row_of_one, one_of_row, split_at, referent-is, left-in}
use Rattle.cg_death.proofs.WeakObjects.{row_there}
use Rattle.cg_collect.specs.Phases.{references_in, refers_to_any, without_referents, without_rows, members_losing, is_lost_with, without_rows_of}
use Rattle.cg_collect.proofs.PlacesOfObjects.{node_of_live, node_there, object_there}
use Rattle.cg_collect.proofs.RowFilters.{rising-filter, filter_all, filter_same, filter_twice, flat_map_alike, filter_filter, eqb-sym, filter-newest, without_rows-newest, without_rows-nil, filter-without, objects_without, highest, newest_left, refers, row_listed}

-- If no row refers to a member and no member has a referent, nothing is cleared.
pub none_lost : (final : List ℕ) (rows : List Row) → IsRising rows → ((r : Row) → Includes rows r → r.waits ≡ false → ¬ Includes final r.referent)
    → ((o : ℕ) → Includes final o → referent_in rows o ≡ None)
    → filter (λ r. not (is_lost_with final r)) rows ≡ rows
none_lost final rows rise unreferred none = filter_all (λ r. not (is_lost_with final r)) rows each
  where
    each : (r : Row) → Includes rows r → not (is_lost_with final r) ≡ true
    each r inside = either (cases_of (is_lost_with final r)) (λ lost. absurd (not_lost lost)) (λ e. ap not e)
      where
        not_lost : is_lost_with final r ≡ true → ⊥
        not_lost lost =
            let parts = true_and (includes final r.referent || includes final r.weak) (not r.waits) lost in
            let there : r.waits ≡ false = not-true r.waits parts.1 in
            either (true_or (includes final r.referent) (includes final r.weak) parts.0)
            (λ e. unreferred r inside there (Includes-of final r.referent e))
            (λ e. let f : None ≡ Some r.referent = sym (none r.weak (Includes-of final r.weak e)) ∙ referent-is rows r (split_at rows r rise inside) there in cc)

-- the rows rise by weak reference, and each of these lives
pub record AreAlive (store : Store) (rows : List Row) : Type 0 where
  pub rise : IsRising rows
  pub live : (r : Row) → Includes rows r → IsLive store r.weak

alive-filter : (store : Store) (test : Row → Bool) (rows : List Row) → AreAlive store rows → AreAlive store (filter test rows)
alive-filter store test rows are = record { rise = rising-filter test rows are.rise; live = λ r m. are.live r (Includes-filter_cases test rows r m).0 }

-- The rows that pass a test are all those that are to lose an object.
record IsGroup (final : List ℕ) (q : ℕ) (test : Row → Bool) (rows : List Row) : Type 0 where
  to : (r : Row) → test r ≡ true → refers_to q r ≡ true
  lost : (r : Row) → test r ≡ true → Includes final q ⊎ Includes final r.weak
  all : (r : Row) → Includes rows r → refers_to q r ≡ true → Includes final q ⊎ Includes final r.weak → test r ≡ true

module _ (store : Store) (final : List ℕ) (wanted : Object → Bool)
    (wants : (rows : List Row) (weak : ℕ) (n : Node) (o : ℕ) → fin.get store.nodes weak ≡ Some n → referent_in rows weak ≡ Some o → Includes final o
    ⊎ Includes final weak → wanted (object_from rows weak n) ≡ true)
    (wanted_is : (rows : List Row) (x : Object) → Includes (objects_of (record store { rows = rows })) x → wanted x ≡ true → (o : ℕ) × (x.referent ≡ Some o)
    × (Includes final o ⊎ Includes final x.serial)) where
  abbrev pub at : List Row → Store
  at rows = record store { rows = rows }

  abbrev lost_rows : List Row → List Row
  lost_rows rows = filter (λ r. not (is_lost_with final r)) rows

  abbrev Lose : List Row → List ℕ → List Row → Type 0
  Lose rows weaks after = AllLose wanted (objects_of (at rows)) weaks (objects_of (at after))

  -- The newest of a group may be cleared next.
  may_lose : (q : ℕ) (test : Row → Bool) (rows : List Row) → IsGroup final q test rows → AreAlive store rows → (ws : List ℕ) (r : Row) → Includes rows r
      → test r ≡ true → newest_first test rows ≡ r.weak ∷ ws
      → MayLoseNext wanted (objects_of (at rows)) r.weak
  may_lose q test rows group are ws r inside passes is =
      let (n, got) = node_of_live store r.weak (are.live r inside) in
      let refers_q : referent_in rows r.weak ≡ Some q = refers rows are.rise q r inside (group.to r passes) in
      record {
        object = object_from rows r.weak n;
        is = refl;
        member = object_there (at rows) r.weak n got;
        to_lose = wants rows r.weak n q got refers_q (group.lost r passes);
        newest = λ y m h same.
            let (k, found, made) = node_there (at rows) y m in
            let refers_too : y.referent ≡ Some q = same ∙ refers_q in
            let (p, inside_p, passes_p, weak_p) = row_there rows y.serial q (ap (λ (z : Object). z.referent) made ∙ refers_too) in
            let (o, is_o, which) = wanted_is rows y m h in
            let same_o : o ≡ q = (let both : Some o ≡ Some q = sym is_o ∙ refers_too in cc) in
            let which_p : Includes final q ⊎ Includes final p.weak = either which (λ a. inl (subst (Includes final) same_o a)) (λ b. inr (subst (Includes final) (sym weak_p) b)) in
            highest test rows are.rise ws r inside passes is y.serial (subst (Includes (newest_first test rows)) weak_p (one_of_row test rows p inside_p (group.all p inside_p passes_p which_p)));
      }

  -- All of a group are cleared, newest first, and then others.
  lose_group : (q : ℕ) (test : Row → Bool) (ws : List ℕ) (rows : List Row) (more : List ℕ) (after : List Row) → newest_first test rows ≡ ws → IsGroup final q test rows → AreAlive store rows
      → Lose (filter (λ r. not (test r)) rows) more after → Lose rows (ws ++ more) after
  lose_group q test [] rows more after is group are others = subst (λ (l : List Row). Lose l more after) (filter_all (λ r. not (test r)) rows none) others
    where
      none : (r : Row) → Includes rows r → not (test r) ≡ true
      none r inside = either (cases_of (test r)) (λ e. absurd (subst (λ l. Includes l r.weak) is (one_of_row test rows r inside e))) (λ e. ap not e)
  lose_group q test (w ∷ ws) rows more after is group are others =
      let (r, inside, passes, same) = row_of_one test rows w (subst (λ l. Includes l w) (sym is) (inl refl)) in
      let here : newest_first test rows ≡ r.weak ∷ ws = is ∙ ap (λ v. v ∷ ws) (sym same) in
      let left : List Row = without_row r.weak rows in
      let rest : Lose left (ws ++ more) after =
      lose_group q test ws left more after (newest_left test rows are.rise ws r inside passes here)
      (record { to = group.to; lost = group.lost; all = λ x m. group.all x (left-in r.weak rows x m) })
      (alive-filter store (λ x. not (x.weak == r.weak)) rows are)
      (subst (λ (l : List Row). Lose l more after) (sym (filter-without rows are.rise r inside (λ x. not (test x)) (ap not passes))) others) in
      subst (λ v. Lose rows (v ∷ (ws ++ more)) after) same
      (may_lose q test rows group are ws r inside passes here, subst (λ (os : List Object). AllLose wanted os (ws ++ more) (objects_of (at after))) (objects_without rows are.rise r inside store) rest)

  -- The weak references to members are cleared, member by member, and then others.
  pub lose_first : (members : List ℕ) → ((o : ℕ) → Includes members o → Includes final o) → ((o : ℕ) → occurrences o members ≤ 1) → (rows : List Row)
      → AreAlive store rows → (more : List ℕ) (after : List Row)
      → Lose (without_referents members rows) more after → Lose rows (flat_map (weak_references_in rows) members ++ more) after
  lose_first [] within once rows are more after others = subst (λ (l : List Row). Lose l more after) (filter_all (λ r. not (refers_to_any [] r)) rows (λ r m. refl)) others
  lose_first (o ∷ members) within once rows are more after others =
      subst (λ (l : List ℕ). Lose rows l after) (sym (append_assoc (weak_references_in rows o) (flat_map (weak_references_in rows) members) more))
      (lose_group o (refers_to o) (weak_references_in rows o) rows (flat_map (weak_references_in rows) members ++ more) after refl
      (record { to = λ r e. e; lost = λ r e. inl (within o (inl refl)); all = λ r m e which. e }) are
      (subst (λ (l : List ℕ). Lose left (l ++ more) after) (flat_map_alike (weak_references_in left) (weak_references_in rows) members (λ q m. others_left q (not_among q m)))
      (lose_first members (λ q m. within q (inr m)) (λ q. omega (arith, once q, occurrences-cons q o members)) left (alive-filter store (λ r. not (refers_to o r)) rows are) more after
      (subst (λ (l : List Row). Lose l more after) (sym both_left) others))))
    where
      left : List Row
      left = filter (λ r. not (refers_to o r)) rows

      not_among : (q : ℕ) → Includes members q → q ≢ o
      not_among q m e =
          let some = occurs members o (subst (Includes members) e m) in
          let one : cond {A = ℕ} (o == o) 1 0 ≡ 1 = ap (λ b. cond {A = ℕ} b 1 0) (eq-eqb o o refl) in
          absurd (omega (arith, some, once o, occurrences-cons o o members, one))

      others_left : (q : ℕ) → q ≢ o → weak_references_in left q ≡ weak_references_in rows q
      others_left q differs = ap (λ l. reverse (map (λ (r : Row). r.weak) l)) (filter_twice (refers_to q) (λ r. not (refers_to o r)) rows (λ r e. ap not (apart_from r e)))
        where
          apart_from : (r : Row) → refers_to q r ≡ true → refers_to o r ≡ false
          apart_from r e = let parts = true_and (r.referent == q) (not r.waits) e in ap (λ b. b && not r.waits) (ne_eqb r.referent o (λ k. differs (sym (eqb-true r.referent q parts.0) ∙ k)))

      both_left : without_referents members left ≡ without_referents (o ∷ members) rows
      both_left =
          filter_filter (λ r. not (refers_to_any members r)) (λ r. not (refers_to o r)) rows
          ∙ filter_same (λ r. not (refers_to o r) && not (refers_to_any members r)) (λ r. not (refers_to_any (o ∷ members) r)) rows
          (λ r m. ap (λ b. not (b && not r.waits) && not (refers_to_any members r)) (eqb-sym r.referent o) ∙ neither (o == r.referent) (includes members r.referent) (not r.waits))
        where
          neither : (a b c : Bool) → (not (a && c) && not (b && c)) ≡ not ((a || b) && c)
          neither true true true = refl
          neither true true false = refl
          neither true false true = refl
          neither true false false = refl
          neither false b c = refl

  -- the members that refer to an object, newest first
  abbrev among : List Row → Option ℕ → List ℕ
  among rows k = filter (includes final) (references_in rows k)

  -- A member has a referent, and no row refers to a member.
  module _ (rows : List Row) (are : AreAlive store rows) (unreferred : (r : Row) → Includes rows r → r.waits ≡ false → ¬ Includes final r.referent) (o t : ℕ) (has : referent_in rows o ≡ Some t) where
    -- whether a row is that of a member with this referent
    abbrev goes_with : Row → Bool
    goes_with r = refers_to t r && includes final r.weak

    abbrev left : List Row
    left = filter (λ r. not (goes_with r)) rows

    weaks_are : among rows (Some t) ≡ newest_first goes_with rows
    weaks_are = filter-newest (refers_to t) final rows

    left_is : without_rows (among rows (Some t)) rows ≡ left
    left_is = ap (λ ws. without_rows ws rows) weaks_are ∙ without_rows-newest goes_with rows are.rise

    -- the remaining ones had their referents, and are not among these
    left_has : (q p : ℕ) → referent_in left q ≡ Some p → (referent_in rows q ≡ Some p) × ((t ≡ p) × Includes final q → ⊥)
    left_has q p has_p =
        let (r, inside, passes, same) = row_there left q p has_p in
        let (there, kept) = Includes-filter_cases (λ x. not (goes_with x)) rows r inside in (
          ap (referent_in rows) (sym same) ∙ refers rows are.rise p r there passes,
          λ both.
              let lost : goes_with r ≡ true = λ i. (ap (λ k. refers_to k r) both.0 ∙ passes) i && (ap (includes final) same ∙ includes-of final q both.1) i in
              let f : false ≡ true = sym (ap not lost) ∙ kept in
              cc,
        )

    left_none : (q : ℕ) → Includes final q → (o ≡ q) ⊎ (referent_in rows q ≡ None) → referent_in left q ≡ None
    left_none q m which = go (referent_in left q) refl
      where
        go : (k : Option ℕ) → referent_in left q ≡ k → referent_in left q ≡ None
        go None e = e
        go (Some p) e =
            let (had, not_both) = left_has q p e in
            absurd (either which
            (λ same. let is : Some t ≡ Some p = sym has ∙ ap (referent_in rows) same ∙ had in let tp : t ≡ p = cc in not_both (tp, m))
            (λ none. let f : None ≡ Some p = sym none ∙ had in cc))

    same_end : lost_rows left ≡ lost_rows rows
    same_end = filter_twice (λ r. not (is_lost_with final r)) (λ r. not (goes_with r)) rows (λ r h. bools (r.referent == t) (not r.waits) (includes final r.weak) (includes final r.referent) h)
      where
        bools : (a b c d : Bool) → not ((d || c) && b) ≡ true → not ((a && b) && c) ≡ true
        bools true true true true h = h
        bools true true true false h = h
        bools a b c d h = refl

    lose_same : (more : List Row → List ℕ) → Lose left (more left) (lost_rows left) → Lose rows (among rows (Some t) ++ more (without_rows (among rows (Some t)) rows)) (lost_rows rows)
    lose_same more others =
        lose_group t goes_with (among rows (Some t)) rows (more (without_rows (among rows (Some t)) rows)) (lost_rows rows) (sym weaks_are)
        (record {
          to = λ r e. (true_and (refers_to t r) (includes final r.weak) e).0;
          lost = λ r e. inr (Includes-of final r.weak (true_and (refers_to t r) (includes final r.weak) e).1);
          all = λ r inside e which.
              let parts = true_and (r.referent == t) (not r.waits) e in
              either which
              (λ a. absurd (unreferred r inside (not-true r.waits parts.1) (subst (Includes final) (sym (eqb-true r.referent t parts.0)) a)))
              (λ b. λ i. e i && includes-of final r.weak b i);
        }) are
        (subst (λ (l : List Row). Lose left (more l) (lost_rows rows)) (sym left_is) (subst (λ (l : List Row). Lose left (more left) l) same_end others))

  -- If none has a referent, none is left.
  lose_none : (rows : List Row) → AreAlive store rows → ((r : Row) → Includes rows r → r.waits ≡ false → ¬ Includes final r.referent)
      → ((o : ℕ) → Includes final o → referent_in rows o ≡ None) → Lose rows [] (lost_rows rows)
  lose_none rows are unreferred none = (none_left, ap (λ (l : List Row). objects_of (at l)) (none_lost final rows are.rise unreferred none))
    where
      no : (x : Object) → Includes (objects_of (at rows)) x → wanted x ≡ true → ⊥
      no x m h =
          let (o, refers_o, which) = wanted_is rows x m h in
          let (n, got, made) = node_there (at rows) x m in
          let found : referent_in rows x.serial ≡ Some o = ap (λ (y : Object). y.referent) made ∙ refers_o in
          let (r, inside, passes, same) = row_there rows x.serial o found in
          let parts = true_and (r.referent == o) (not r.waits) passes in
          either which
          (λ a. unreferred r inside (not-true r.waits parts.1) (subst (Includes final) (sym (eqb-true r.referent o parts.0)) a))
          (λ b. let f : None ≡ Some o = sym (none x.serial b) ∙ found in cc)

      none_left : NoneLeft wanted (objects_of (at rows))
      none_left x m = either (cases_of (wanted x)) (λ h. absurd (no x m h)) (λ e. e)

  -- the remaining members are cleared in order
  abbrev LoseInOrder : List ℕ → Type 0
  LoseInOrder members = (rows : List Row) → AreAlive store rows → ((r : Row) → Includes rows r → r.waits ≡ false → ¬ Includes final r.referent)
      → ((o : ℕ) → Includes final o → Includes members o ⊎ (referent_in rows o ≡ None))
      → Lose rows (members_losing final members rows) (lost_rows rows)

  lose_next : (o : ℕ) (members : List ℕ) → LoseInOrder members → LoseInOrder (o ∷ members)
  lose_next o members others rows are unreferred behind = known (referent_in rows o) refl
    where
      behind_o : (q : ℕ) → Includes final q → (o ≡ q) ⊎ Includes members q ⊎ (referent_in rows q ≡ None)
      behind_o q m = either (behind q m) (λ k. either k (λ e. inl e) (λ l. inr (inl l))) (λ none. inr (inr none))

      known : (k : Option ℕ) → referent_in rows o ≡ k → Lose rows (among rows (referent_in rows o) ++ members_losing final members
          (without_rows (among rows (referent_in rows o)) rows)) (lost_rows rows)
      known None e =
          subst (λ k. Lose rows (among rows k ++ members_losing final members (without_rows (among rows k) rows)) (lost_rows rows)) (sym e)
          (subst (λ (l : List Row). Lose rows (members_losing final members l) (lost_rows rows)) (sym (without_rows-nil rows))
          (others rows are unreferred (λ q m. either (behind_o q m) (λ same. inr (ap (referent_in rows) (sym same) ∙ e)) (λ k. k))))
      known (Some t) e =
          subst (λ k. Lose rows (among rows k ++ members_losing final members (without_rows (among rows k) rows)) (lost_rows rows)) (sym e)
          (lose_same rows are unreferred o t e (members_losing final members)
          (others (left rows are unreferred o t e) (alive-filter store (λ r. not (refers_to t r && includes final r.weak)) rows are)
          (λ r inside. unreferred r (Includes-filter_cases (λ x. not (refers_to t x && includes final x.weak)) rows r inside).0)
          (λ q m. either (behind_o q m) (λ same. inr (left_none rows are unreferred o t e q m (inl same)))
          (λ k. either k (λ l. inl l) (λ none. inr (left_none rows are unreferred o t e q m (inr none)))))))

  -- Then members are cleared, for each all with the same referent.
  pub lose_members : (members : List ℕ) → LoseInOrder members
  lose_members [] = λ rows are unreferred behind. lose_none rows are unreferred (λ o m. either (behind o m) (λ k. absurd k) (λ e. e))
  lose_members (o ∷ members) = lose_next o members (lose_members members)

-- Waiting ones still wait.
pub waiting-rest : (members : List ℕ) (rows : List Row) (o : ℕ) → waiting_in (filter (λ r. not (is_lost_with members r)) rows) o ≡ waiting_in rows o
waiting-rest members rows o =
    ap (λ (l : List Row). reverse (map (λ (r : Row). r.weak) l))
    (filter_twice (waits_with o) (λ r. not (is_lost_with members r)) rows
    (λ r waits. let parts = true_and (r.referent == o) r.waits waits in ap not ((λ i. (includes members r.referent || includes members r.weak)
    && not (parts.1 i)) ∙ nothing (includes members r.referent || includes members r.weak))))
  where
    nothing : (b : Bool) → (b && false) ≡ false
    nothing true = refl
    nothing false = refl

-- no row refers to a member without weak references
pub none_referring : (members : List ℕ) (rows : List Row) → ((o : ℕ) → Includes members o → weak_references_in rows o ≡ []) → (r : Row) → Includes rows r
    → r.waits ≡ false → ¬ Includes members r.referent
none_referring members rows none r inside there m = absurd (subst (λ l. Includes l r.weak) (none r.referent m) (row_listed rows r inside there))

pub none_to_lose : (members : List ℕ) (rows : List Row) → ((o : ℕ) → Includes members o → weak_references_in rows o ≡ []) → without_referents members rows ≡ rows
none_to_lose members rows none = filter_all (λ r. not (refers_to_any members r)) rows each
  where
    each : (r : Row) → Includes rows r → not (refers_to_any members r) ≡ true
    each r inside = either (cases_of (refers_to_any members r))
        (λ yes'. let parts = true_and (includes members r.referent) (not r.waits) yes'
        in absurd (none_referring members rows none r inside (not-true r.waits parts.1) (Includes-of members r.referent parts.0)))
        (λ no. ap not no)

-- clearing one leaves the others
pub same_without : (members : List ℕ) (store : Store) (rise : IsRising store.rows) (r : Row) (inside : Includes store.rows r) → is_lost_with members r ≡ true
    → without_rows_of members (record store { rows = without_row r.weak store.rows }) ≡ without_rows_of members store
same_without members store rise r inside lost = λ i. record store { rows = filter-without store.rows rise r inside (λ x. not (is_lost_with members x)) (ap not lost) i }
