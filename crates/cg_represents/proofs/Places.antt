-- The test on places distinguishes them.
use Rattle.std.proofs.Common.{◌≡◌, ◌≢◌, refl, sym, ◌∙◌, ap, true, false}
use Rattle.std.proofs.lemmas.Bool.{eqb-true, eq-eqb}
use Rattle.cg_value.specs.declared.Place.{Place}
use Rattle.cg_value.specs.declared.Place.TheVariants.{Untracked, Gen, Frozen, Cand, Seen, Back, Legacy, Pend}
use Rattle.cg_graph.specs.Object.{same_place}
use Rattle.cg_graph.proofs.Members.{either, cases_of}

pub place_is : (p q : Place) → same_place p q ≡ true → p ≡ q
place_is Untracked Untracked h = refl
place_is (Gen m) (Gen n) h = ap Gen (eqb-true m n h)
place_is Frozen Frozen h = refl
place_is Cand Cand h = refl
place_is Seen Seen h = refl
place_is Back Back h = refl
place_is Legacy Legacy h = refl
place_is Pend Pend h = refl
place_is p q h = absurd (cc)

pub place_self : (p : Place) → same_place p p ≡ true
place_self (Gen i) = eq-eqb i i refl
place_self p = refl

pub place_at_is : (p q : Place) → p ≡ q → same_place p q ≡ true
place_at_is p q e = ap (same_place p) (sym e) ∙ place_self p

pub place_differs : (p q : Place) → p ≢ q → same_place p q ≡ false
place_differs p q differ = either (cases_of (same_place p q)) (λ e. absurd (differ (place_is p q e))) (λ e. e)
