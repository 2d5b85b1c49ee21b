-- Places that still hold an object, for the tests.
use Rattle.std.proofs.Common.{◌≡◌, ◌≢◌, ℕ, List, refl}
use Rattle.cg_value.specs.declared.Entry.{Entry}
use Rattle.cg_value.specs.declared.KindCode.{KindCode}
use Rattle.cg_value.specs.declared.KindCode.TheVariants.{List as ListKind, Tuple, Dict, Inst, Func, Weak}
use Rattle.cg_kind.specs.Bodies.{Bodies, Holds, with_body}
use Rattle.cg_kind.proofs.BodyLemmas.{holds_after, holds_same}

-- an append to an object of any kind leaves each place held
pub holds_after_append : (kind : KindCode) (old new : Bodies) (at : ℕ) (entries : List Entry) (spare : ℕ)
    → (kind ≡ ListKind → new ≡ with_body old at entries spare) → (kind ≢ ListKind → new ≡ old) → (place : ℕ) → Holds old place → Holds new place
holds_after_append ListKind old new at entries spare appends others = holds_after old new at entries spare (appends refl)
holds_after_append Tuple old new at entries spare appends others = holds_same old new (others (λ is. cc))
holds_after_append Dict old new at entries spare appends others = holds_same old new (others (λ is. cc))
holds_after_append Inst old new at entries spare appends others = holds_same old new (others (λ is. cc))
holds_after_append Func old new at entries spare appends others = holds_same old new (others (λ is. cc))
holds_after_append Weak old new at entries spare appends others = holds_same old new (others (λ is. cc))
