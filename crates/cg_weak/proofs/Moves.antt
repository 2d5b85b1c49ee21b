-- A row leaves or joins a chain: the effect on the neighbours, in one direction along the chain. The two directions
-- differ only in the order.
use Rattle.std.proofs.Common.{◌≡◌, ◌≢◌, ◌⊎◌, ℕ, Option, Some, None, sym, ap, ◌∙◌, subst, inl, inr, arith}
use Rattle.std.proofs.lemmas.Bool.{cases_eq, cases_order}
use Rattle.cg_weak.specs.Nodes.{Chain}
use Rattle.cg_weak.specs.Chains.{at_end}
use Rattle.cg_weak.specs.Table.{below, above, IsLast, IsLinked, IsEnded}

-- a direction along a chain is a strict total order
pub record IsWay (before : ℕ → ℕ → Type 0) : Type 0 where
  pub never : (v : ℕ) → before v v → ⊥
  pub along : (u v w : ℕ) → before u v → before v w → before u w
  pub either : (u v : ℕ) → u ≢ v → before u v ⊎ before v u

pub down : IsWay below
down = record {
  never = λ v lower. absurd (omega (arith, lower));
  along = λ u v w first second. omega (arith, first, second);
  either = λ u v differs. elim (cases_order u v) [
    | inl same ↦ absurd (differs same)
    | inr apart ↦ apart
  ];
}

pub up : IsWay above
up = record {
  never = λ v lower. absurd (omega (arith, lower));
  along = λ u v w first second. omega (arith, first, second);
  either = λ u v differs. elim (cases_order u v) [
    | inl same ↦ absurd (differs same)
    | inr apart ↦ elim apart [ inl lower ↦ inr lower | inr higher ↦ inl higher ]
  ];
}

-- sets with the same members have the same last member
pub last_same : (before : ℕ → ℕ → Type 0) (P Q : ℕ → Type 0) (a : Option ℕ) → ((z : ℕ) → P z → Q z) → ((z : ℕ) → Q z → P z) → IsLast before P a → IsLast before Q a
last_same before P Q None to back none = λ z in_Q. none z (back z in_Q)
last_same before P Q (Some y) to back (here, others) = (to y here, λ z in_Q. others z (back z in_Q))

-- the row of w has left chain k, and all others are unchanged
pub record HasLeft (chain new : ℕ → Option Chain) (w : ℕ) (k : Chain) : Type 0 where
  pub here : chain w ≡ Some k
  pub gone : new w ≡ None
  pub others : (v : ℕ) → v ≢ w → new v ≡ chain v

-- the row of w has joined chain k, and all others are unchanged
pub record HasCome (chain new : ℕ → Option Chain) (w : ℕ) (k : Chain) : Type 0 where
  pub nowhere : chain w ≡ None
  pub here : new w ≡ Some k
  pub others : (v : ℕ) → v ≢ w → new v ≡ chain v

pub same_value : {X : Type 0} (x y : X) → ◌≡◌ {A = Option X} (Some x) (Some y) → x ≡ y
same_value x y e = cc

pub some_or_none : {X : Type 0} (x : X) → ◌≡◌ {A = Option X} None (Some x) → ⊥
some_or_none x e = absurd (cc)

module _ (before : ℕ → ℕ → Type 0) (way : IsWay before) (chain new : ℕ → Option Chain) (w : ℕ) (k : Chain) where
  -- the neighbour of w that comes after it
  abbrev pub Beyond : Option ℕ → Type 0
  Beyond after = IsLast (λ u v. before v u) (λ v. (chain v ≡ Some k) × before w v) after

  apart : (u v : ℕ) → before u v → u ≢ v
  apart u v first same = way.never v (subst (λ x. before x v) same first)

  module _ (left : HasLeft chain new w k) where
    -- a row in a chain now was there before, and is not w
    was : (v : ℕ) (j : Chain) → new v ≡ Some j → (v ≢ w) × (chain v ≡ Some j)
    was v j is =
        let differs : v ≢ w = λ same. some_or_none j (sym left.gone ∙ ap new (sym same) ∙ is) in
        (differs, sym (left.others v differs) ∙ is)

    stays : (v : ℕ) (j : Chain) → chain v ≡ Some j → v ≢ w → new v ≡ Some j
    stays v j is differs = left.others v differs ∙ is

    -- if v follows w, its new predecessor is that of w
    mended : (v : ℕ) (at : Option ℕ) → Beyond (Some v) → IsLast before (λ u. (chain u ≡ Some k) × before u w) at → IsLast before (λ u. (new u ≡ Some k) × before u v) at
    mended v at after =
        last_same before (λ u. (chain u ≡ Some k) × before u w) (λ u. (new u ≡ Some k) × before u v) at
        (λ u is. (stays u k is.0 (apart u w is.1), way.along u w v is.1 after.0.1))
        (λ u is. let old = was u k is.0 in (
          old.1,
          elim (way.either u w old.0) [
            | inl found ↦ found
            | inr higher ↦ absurd (way.never v (way.along v u v (after.1 u (old.1, higher) (apart u v is.1)) is.1))
          ],
        ))

    -- if v does not follow w, its predecessor is not w
    not_w : (v : ℕ) (after : Option ℕ) → Beyond after → after ≢ Some v → chain v ≡ Some k → before w v → ((u : ℕ) → (chain u ≡ Some k) × before u v → u ≢ w → before u w) → ⊥
    not_w v None beyond differs is first rest = beyond v (is, first)
    not_w v (Some x) beyond differs is first rest =
        let x_before : before x v = beyond.1 v (is, first) (λ same. differs (ap Some (sym same))) in
        way.never w (way.along w x w beyond.0.1 (rest x (beyond.0.0, x_before) (λ same. apart w x beyond.0.1 (sym same))))

    kept : (v : ℕ) (j : Chain) (after at : Option ℕ) → Beyond after → after ≢ Some v → chain v ≡ Some j → IsLast before (λ u. (chain u ≡ Some j) × before u v)
        at → IsLast before (λ u. (new u ≡ Some j) × before u v) at
    kept v j after None beyond differs is none = λ u in_new. none u ((was u j in_new.0).1, in_new.1)
    kept v j after (Some y) beyond differs is (here, others) =
        let not_gone : y ≢ w = λ same.
        let in_k : chain v ≡ Some k = is ∙ sym here.0 ∙ ap chain same ∙ left.here in
        let same_chain : j ≡ k = same_value j k (sym is ∙ in_k) in
        not_w v after beyond differs in_k (subst (λ u. before u v) same here.1)
        (λ u in_k_too apart_u. subst (before u) same (others u (in_k_too.0 ∙ ap Some (sym same_chain), in_k_too.1) (λ e. apart_u (e ∙ same)))) in
        ((stays y j here.0 not_gone, here.1), λ u in_new apart_u. others u ((was u j in_new.0).1, in_new.1) apart_u)

    pub left_linked : (next new_next : ℕ → Option ℕ) (after : Option ℕ) → Beyond after
        → ((v : ℕ) → v ≢ w → after ≡ Some v → new_next v ≡ next w)
        → ((v : ℕ) → v ≢ w → after ≢ Some v → new_next v ≡ next v)
        → IsLinked before chain next → IsLinked before new new_next
    left_linked next new_next None beyond next_to else_where linked v j is =
        let old = was v j is in
        subst (IsLast before (λ u. (new u ≡ Some j) × before u v)) (sym (else_where v old.0 (some_or_none v)))
        (kept v j None (next v) beyond (some_or_none v) old.1 (linked v j old.1))
    left_linked next new_next (Some x) beyond next_to else_where linked v j is = go (cases_eq x v)
      where
        old : (v ≢ w) × (chain v ≡ Some j)
        old = was v j is

        go : (x ≡ v) ⊎ (x ≢ v) → IsLast before (λ u. (new u ≡ Some j) × before u v) (new_next v)
        go (inl same) =
            let same_chain : k ≡ j = same_value k j (sym beyond.0.0 ∙ ap chain same ∙ old.1) in
            subst (λ i. IsLast before (λ u. (new u ≡ Some i) × before u v) (new_next v)) same_chain
            (subst (IsLast before (λ u. (new u ≡ Some k) × before u v)) (sym (next_to v old.0 (ap Some same)))
            (mended v (next w) (subst (λ y. Beyond (Some y)) same beyond) (linked w k left.here)))
        go (inr differs) =
            let other = λ (e : Some x ≡ Some v). differs (same_value x v e) in
            subst (IsLast before (λ u. (new u ≡ Some j) × before u v)) (sym (else_where v old.0 other))
            (kept v j (Some x) (next v) beyond other old.1 (linked v j old.1))

    -- the end of the chain that w left
    end_left : (after at end : Option ℕ) → Beyond after → IsLast before (λ u. (chain u ≡ Some k) × before u w) at → IsLast before (λ u. chain u ≡ Some k) end
        → IsLast before (λ u. new u ≡ Some k) (at_end after at end)
    end_left None None end beyond none last = λ u is. let old = was u k is in elim (way.either u w old.0) [
      | inl lower ↦ none u (old.1, lower)
      | inr higher ↦ beyond u (old.1, higher)
    ]
    end_left None (Some y) end beyond (here, others) last = (
      stays y k here.0 (apart y w here.1),
      λ u is differs. let old = was u k is in elim (way.either u w old.0) [
        | inl lower ↦ others u (old.1, lower) differs
        | inr higher ↦ absurd (beyond u (old.1, higher))
      ],
    )
    end_left (Some x) at None beyond none last = absurd (last w left.here)
    end_left (Some x) at (Some y) beyond nexts (here, others) =
        let not_gone : y ≢ w = λ same.
        way.never w (way.along w x w beyond.0.1 (subst (before x) same (others x beyond.0.0 (λ e. apart w x beyond.0.1 (sym (e ∙ same)))))) in
        (stays y k here not_gone, λ u is differs. others u (was u k is).1 differs)

    end_kept : (j : Chain) (end : Option ℕ) → j ≢ k → IsLast before (λ u. chain u ≡ Some j) end → IsLast before (λ u. new u ≡ Some j) end
    end_kept j end other =
        last_same before (λ u. chain u ≡ Some j) (λ u. new u ≡ Some j) end
        (λ u is. stays u j is (λ same. other (same_value j k (sym is ∙ ap chain same ∙ left.here)))) (λ u is. (was u j is).1)

    pub left_ended : (next : ℕ → Option ℕ) (end new_end : Chain → Option ℕ) (after : Option ℕ) → Beyond after
        → new_end k ≡ at_end after (next w) (end k)
        → ((j : Chain) → j ≢ k → new_end j ≡ end j)
        → IsLinked before chain next → IsEnded before chain end → (j : Chain) → (j ≡ k) ⊎ (j ≢ k) → IsLast before (λ v. new v ≡ Some j) (new_end j)
    left_ended next end new_end after beyond here_is others_are linked ended j (inl same) =
        subst (λ i. IsLast before (λ v. new v ≡ Some i) (new_end i)) (sym same)
        (subst (IsLast before (λ v. new v ≡ Some k)) (sym here_is) (end_left after (next w) (end k) beyond (linked w k left.here) (ended k)))
    left_ended next end new_end after beyond here_is others_are linked ended j (inr other) =
        subst (IsLast before (λ v. new v ≡ Some j)) (sym (others_are j other)) (end_kept j (end j) other (ended j))

  module _ (come : HasCome chain new w k) where
    -- a row in a chain now is w, or was there before
    since : (v : ℕ) (j : Chain) → new v ≡ Some j → ((v ≡ w) × (k ≡ j)) ⊎ ((v ≢ w) × (chain v ≡ Some j))
    since v j is = elim (cases_eq v w) [
      | inl same ↦ inl (same, same_value k j (sym come.here ∙ ap new (sym same) ∙ is))
      | inr differs ↦ inr (differs, sym (come.others v differs) ∙ is)
    ]

    remains : (v : ℕ) (j : Chain) → chain v ≡ Some j → new v ≡ Some j
    remains v j is = come.others v (λ same. some_or_none j (sym come.nowhere ∙ ap chain (sym same) ∙ is)) ∙ is

    -- the predecessor of w
    arrived : (at : Option ℕ) → IsLast before (λ u. (chain u ≡ Some k) × before u w) at → IsLast before (λ u. (new u ≡ Some k) × before u w) at
    arrived at =
        last_same before (λ u. (chain u ≡ Some k) × before u w) (λ u. (new u ≡ Some k) × before u w) at (λ u is. (remains u k is.0, is.1))
        (λ u is. elim (since u k is.0) [
          | inl same ↦ absurd (apart u w is.1 same.0)
          | inr old ↦ (old.1, is.1)
        ])

    -- w is the predecessor of the row that follows it
    follows : (v : ℕ) → Beyond (Some v) → IsLast before (λ u. (new u ≡ Some k) × before u v) (Some w)
    follows v beyond = (
      (come.here, beyond.0.1),
      λ u in_new differs. elim (since u k in_new.0) [
        | inl same ↦ absurd (differs same.0)
        | inr old ↦ elim (way.either u w old.0) [
          | inl found ↦ found
          | inr higher ↦ absurd (way.never v (way.along v u v (beyond.1 u (old.1, higher) (apart u v in_new.1)) in_new.1))
        ]
      ],
    )

    -- no row is between w and its successor
    between : (v : ℕ) (after : Option ℕ) → Beyond after → after ≢ Some v → chain v ≡ Some k → before w v → (x : ℕ) × (chain x ≡ Some k) × before w x × before x v
    between v None beyond differs is first = absurd (beyond v (is, first))
    between v (Some x) beyond differs is first =
        (x, beyond.0.0, beyond.0.1, beyond.1 v (is, first) (λ same. differs (ap Some (sym same))))

    unmoved : (v : ℕ) (j : Chain) (after at : Option ℕ) → Beyond after → after ≢ Some v → chain v ≡ Some j → IsLast before (λ u. (chain u ≡ Some j)
        × before u v) at → IsLast before (λ u. (new u ≡ Some j) × before u v) at
    unmoved v j after None beyond differs is none = λ u in_new. elim (since u j in_new.0) [
      | inl same ↦
          let found = between v after beyond differs (is ∙ ap Some (sym same.1)) (subst (λ x. before x v) same.0 in_new.1) in
          none found.0 (found.1 ∙ ap Some same.1, found.3)
      | inr old ↦ none u (old.1, in_new.1)
    ]
    unmoved v j after (Some y) beyond differs is (here, others) = (
      (remains y j here.0, here.1),
      λ u in_new apart_u. elim (since u j in_new.0) [
        | inl same ↦
            let found = between v after beyond differs (is ∙ ap Some (sym same.1)) (subst (λ x. before x v) same.0 in_new.1) in
            subst (λ x. before x y) (sym same.0) (elim (cases_eq found.0 y) [
              | inl met ↦ subst (before w) met found.2
              | inr other ↦ way.along w found.0 y found.2 (others found.0 (found.1 ∙ ap Some same.1, found.3) other)
            ])
        | inr old ↦ others u (old.1, in_new.1) apart_u
      ],
    )

    pub come_linked : (next new_next : ℕ → Option ℕ) (after at : Option ℕ) → Beyond after → IsLast before (λ u. (chain u ≡ Some k) × before u w) at
        → new_next w ≡ at
        → ((v : ℕ) → v ≢ w → after ≡ Some v → new_next v ≡ Some w)
        → ((v : ℕ) → v ≢ w → after ≢ Some v → new_next v ≡ next v)
        → IsLinked before chain next → IsLinked before new new_next
    come_linked next new_next after at beyond last here_is next_to else_where linked v j is = elim (since v j is) [
      | inl same ↦ at_w v j same.0 same.1
      | inr old ↦ at_other old.0 old.1 after beyond next_to else_where
    ]
      where
        at_w : (v : ℕ) (j : Chain) → v ≡ w → k ≡ j → IsLast before (λ u. (new u ≡ Some j) × before u v) (new_next v)
        at_w v j same chain_is =
            subst (λ i. IsLast before (λ u. (new u ≡ Some i) × before u v) (new_next v)) chain_is
            (subst (λ x. IsLast before (λ u. (new u ≡ Some k) × before u x) (new_next x)) (sym same)
            (subst (IsLast before (λ u. (new u ≡ Some k) × before u w)) (sym here_is) (arrived at last)))

        at_other : v ≢ w → chain v ≡ Some j → (after : Option ℕ) → Beyond after → ((u : ℕ) → u ≢ w → after ≡ Some u → new_next u ≡ Some w) → ((u : ℕ) → u ≢ w → after ≢ Some u → new_next u ≡ next u)
            → IsLast before (λ u. (new u ≡ Some j) × before u v) (new_next v)
        at_other differs old None beyond next_to else_where =
            subst (IsLast before (λ u. (new u ≡ Some j) × before u v)) (sym (else_where v differs (some_or_none v)))
            (unmoved v j None (next v) beyond (some_or_none v) old (linked v j old))
        at_other differs old (Some x) beyond next_to else_where = elim (cases_eq x v) [
          | inl same ↦
              let chain_is : k ≡ j = same_value k j (sym beyond.0.0 ∙ ap chain same ∙ old) in
              subst (λ i. IsLast before (λ u. (new u ≡ Some i) × before u v) (new_next v)) chain_is
              (subst (IsLast before (λ u. (new u ≡ Some k) × before u v)) (sym (next_to v differs (ap Some same)))
              (follows v (subst (λ y. Beyond (Some y)) same beyond)))
          | inr apart_x ↦
              let other = λ (e : Some x ≡ Some v). apart_x (same_value x v e) in
              subst (IsLast before (λ u. (new u ≡ Some j) × before u v)) (sym (else_where v differs other))
              (unmoved v j (Some x) (next v) beyond other old (linked v j old))
        ]

    -- the end of the chain that w joined
    end_come : (after end : Option ℕ) → Beyond after → IsLast before (λ u. chain u ≡ Some k) end → IsLast before (λ u. new u ≡ Some k) (at_end after (Some w) end)
    end_come None end beyond last = (
      come.here,
      λ u is differs. elim (since u k is) [
        | inl same ↦ absurd (differs same.0)
        | inr old ↦ elim (way.either u w old.0) [
          | inl lower ↦ lower
          | inr higher ↦ absurd (beyond u (old.1, higher))
        ]
      ],
    )
    end_come (Some x) None beyond none = absurd (none x beyond.0.0)
    end_come (Some x) (Some y) beyond (here, others) = (
      remains y k here,
      λ u is differs. elim (since u k is) [
        | inl same ↦ subst (λ z. before z y) (sym same.0) (elim (cases_eq x y) [
          | inl met ↦ subst (before w) met beyond.0.1
          | inr other ↦ way.along w x y beyond.0.1 (others x beyond.0.0 other)
        ])
        | inr old ↦ others u old.1 differs
      ],
    )

    end_unmoved : (j : Chain) (end : Option ℕ) → j ≢ k → IsLast before (λ u. chain u ≡ Some j) end → IsLast before (λ u. new u ≡ Some j) end
    end_unmoved j end other =
        last_same before (λ u. chain u ≡ Some j) (λ u. new u ≡ Some j) end (λ u is. remains u j is)
        (λ u is. elim (since u j is) [
          | inl same ↦ absurd (other (sym same.1))
          | inr old ↦ old.1
        ])

    pub come_ended : (end new_end : Chain → Option ℕ) (after : Option ℕ) → Beyond after
        → new_end k ≡ at_end after (Some w) (end k)
        → ((j : Chain) → j ≢ k → new_end j ≡ end j)
        → IsEnded before chain end → (j : Chain) → (j ≡ k) ⊎ (j ≢ k) → IsLast before (λ v. new v ≡ Some j) (new_end j)
    come_ended end new_end after beyond here_is others_are ended j (inl same) =
        subst (λ i. IsLast before (λ v. new v ≡ Some i) (new_end i)) (sym same)
        (subst (IsLast before (λ v. new v ≡ Some k)) (sym here_is) (end_come after (end k) beyond (ended k)))
    come_ended end new_end after beyond here_is others_are ended j (inr other) =
        subst (IsLast before (λ v. new v ≡ Some j)) (sym (others_are j other)) (end_unmoved j (end j) other (ended j))
