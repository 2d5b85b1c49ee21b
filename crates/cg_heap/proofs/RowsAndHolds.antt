-- What a heap keeps of its rows and outside holds through each change.
use Rattle.std.proofs.Common.{◌≡◌, ◌≢◌, ℕ, ◌<◌, Bool, true, false, Option, Some, None, IsSome, refl, sym, subst, arith}
use Rattle.std.specs.Prelude.{IfSome}
use Rattle.std.specs.List.{All}
use Rattle.std.proofs.lemmas.List.Elements.{All-weaker, All-push}
use Rattle.cg_value.specs.declared.KindCode.TheVariants.{Weak}
use Rattle.cg_graph.specs.Rows.{IsRising, new_row}
use Rattle.cg_graph.specs.Store.{Store, IsLive, HasCode}
use Rattle.cg_graph.specs.Changes.{gone}
use Rattle.cg_weak.proofs.RowLists.{rising-append, rising-without, rising-waiting, each-without}
use Rattle.cg_weak.proofs.CallerLemmas.{each-cleared}
use Rattle.cg_heap.specs.Weak.{IsInNoRow, attached, cleared_weak, forgotten_weak}
use Rattle.cg_heap.specs.Keeps.{RowsAndHolds, outside_total}
use Rattle.cg_heap.proofs.RowLemmas.{all_both}
use Rattle.cg_heap.proofs.CallerLemmas.{KeepsKinds, lives_on, live_of_kind, kind_of_live, kinds-gone, total-gone}

-- the rows are unchanged, and the objects they name live on
pub kept : (old new : Store) → KeepsKinds old new → new.rows ≡ old.rows → outside_total new < 2147483648 → RowsAndHolds old → RowsAndHolds new
kept old new kinds same fits ok = record {
  rows = record {
    rise = subst IsRising (sym same) ok.rows.rise;
    weak = subst (All (λ r. HasCode new r.weak Weak)) (sym same) (All-weaker (λ r. HasCode old r.weak Weak) (λ r. HasCode new r.weak Weak) (λ r has. kinds r.weak Weak has) old.rows ok.rows.weak);
    referent = subst (All (λ r. IsLive new r.referent)) (sym same) (All-weaker (λ r. IsLive old r.referent) (λ r. IsLive new r.referent)
        (λ r live. lives_on old new kinds r.referent live) old.rows ok.rows.referent);
  };
  holds = fits;
}

-- an object in no row is freed
pub kept-gone : (o : ℕ) (store : Store) → IsInNoRow o store.rows → RowsAndHolds store → RowsAndHolds (gone o store)
kept-gone o store none ok = record {
  rows = record {
    rise = ok.rows.rise;
    weak = all_both (λ r. HasCode store r.weak Weak) (λ r. (r.weak ≢ o) × (r.referent ≢ o)) (λ r. HasCode (gone o store) r.weak Weak)
        (λ r has differs. kinds-gone o store r.weak Weak differs.0 has) store.rows ok.rows.weak none;
    referent = all_both (λ r. IsLive store r.referent) (λ r. (r.weak ≢ o) × (r.referent ≢ o)) (λ r. IsLive (gone o store) r.referent)
        (λ r live differs. let (c, has) = kind_of_live store r.referent live in live_of_kind (gone o store) r.referent c
        (kinds-gone o store r.referent c differs.1 has)) store.rows ok.rows.referent none;
  };
  holds = omega (arith, ok.holds, total-gone o store);
}

-- a weak reference gets its referent
pub kept-attached : (weak : ℕ) (referent : Option ℕ) (store : Store) → All (λ r. r.weak < weak) store.rows → (IsSome referent → HasCode store weak Weak)
    → IfSome referent (λ o. IsLive store o) → RowsAndHolds store → RowsAndHolds (attached weak referent store)
kept-attached weak None store newest kind live ok = record { rows = record { rise = ok.rows.rise; weak = ok.rows.weak; referent = ok.rows.referent }; holds = ok.holds }
kept-attached weak (Some o) store newest kind live ok = record {
  rows = record {
    rise = rising-append store.rows (new_row weak o) ok.rows.rise newest;
    weak = All-push (λ r. HasCode store r.weak Weak) store.rows (new_row weak o) ok.rows.weak (kind refl);
    referent = All-push (λ r. IsLive store r.referent) store.rows (new_row weak o) ok.rows.referent live;
  };
  holds = ok.holds;
}

-- one loses it
pub kept-cleared : (weak : ℕ) (wait : Bool) (store : Store) → RowsAndHolds store → RowsAndHolds (cleared_weak weak wait store)
kept-cleared weak wait store ok = record {
  rows = record {
    rise = rising wait;
    weak = each-cleared (λ r. HasCode store r.weak Weak) (λ r has. has) weak wait store.rows ok.rows.weak;
    referent = each-cleared (λ r. IsLive store r.referent) (λ r live. live) weak wait store.rows ok.rows.referent;
  };
  holds = ok.holds;
}
  where
    rising : (b : Bool) → IsRising (cleared_weak weak b store).rows
    rising true = rising-waiting weak store.rows ok.rows.rise
    rising false = rising-without weak store.rows ok.rows.rise

pub kept-forgotten : (weak : ℕ) (store : Store) → RowsAndHolds store → RowsAndHolds (forgotten_weak weak store)
kept-forgotten weak store ok = record {
  rows = record {
    rise = rising-without weak store.rows ok.rows.rise;
    weak = each-without (λ r. HasCode store r.weak Weak) weak store.rows ok.rows.weak;
    referent = each-without (λ r. IsLive store r.referent) weak store.rows ok.rows.referent;
  };
  holds = ok.holds;
}
