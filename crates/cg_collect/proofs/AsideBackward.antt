-- What an object leads to is set aside from its last entry to its first.
use Rattle.std.proofs.Common.{◌≡◌, sym, ◌∙◌, ap, subst, ℕ, ◌+◌, ◌-◌, ◌≤◌, inl, inr, List, ◌∷◌, ◌++◌, length, drop, Some, arith}
use Rattle.std.specs.Prelude.{slice_get}
use Rattle.std.proofs.lemmas.List.{drop_all, drop_more}
use Rattle.std.proofs.lemmas.Option.{slice_get_within, get_or_from_slice_get}
use Rattle.cg_value.specs.declared.Entry.{Entry}
use Rattle.cg_graph.specs.Member.{Includes}
use Rattle.cg_graph.specs.Value.{references}
use Rattle.cg_graph.specs.Store.{Store, entries_of}
use Rattle.cg_graph.proofs.Members.{either, Includes-append_left, Includes-append_right, Includes-append_cases}
use Rattle.cg_trial.specs.View.{targets}
use Rattle.cg_collect.specs.Starting.{SetsReferencesAside}
use Rattle.cg_collect.proofs.PlacesOfObjects.{entries_on}
use Rattle.cg_collect.proofs.Uncollectable.{aside_none, aside_more}

-- in which order references stand does not matter
aside_as : (r q : List ℕ) (old new : Store) → SetsReferencesAside r old new → ((o : ℕ) → Includes r o → Includes q o) → ((o : ℕ) → Includes q o → Includes r o) → SetsReferencesAside q old new
aside_as r q old new so within back = record {
  same = so.same;
  more = so.more;
  behind = so.behind;
  fewer = so.fewer;
  aside = λ o h. so.aside o (back o h);
  others = λ o. either (so.others o) (λ stays. inl stays) (λ went. inr (went.0, went.1, within o went.2));
}

-- It has come from the last entry down to a place, and looked at each once.
pub record SettingBack (o : ℕ) (old now : Store) (end before looks : ℕ) : Type 0 where
  pub within : end ≤ length (entries_of old o)
  pub so_far : SetsReferencesAside (references (drop end (entries_of old o))) old now
  pub looked : looks ≡ before + (length (entries_of old o) - end)

pub setting_back-first : (o : ℕ) (store : Store) (end steps : ℕ) → end ≡ length (entries_of store o) → SettingBack o store store end steps steps
setting_back-first o store end steps is = record {
  within = omega (arith, is);
  so_far = subst (λ (l : List Entry). SetsReferencesAside (references l) store store) (sym (drop_all end (entries_of store o) (omega (arith, is)))) (aside_none store);
  looked = omega (arith, is);
}

pub setting_back-more : (o : ℕ) (old mid half new : Store) (end before looks later : ℕ) (e : Entry) → SettingBack o old mid (end + 1) before looks → slice_get (entries_of mid o) end ≡ Some e
    → SetsReferencesAside (targets e.val) mid half → SetsReferencesAside (targets e.key) half new → later ≡ looks + 1 → SettingBack o old new end before later
setting_back-more o old mid half new end before looks later e so is one two rises = record {
  within = omega (arith, so.within);
  so_far = aside_as (behind ++ (targets e.val ++ targets e.key)) (references (drop end es)) old new
      (aside_more behind (targets e.val ++ targets e.key) old mid new so.so_far (aside_more (targets e.val) (targets e.key) mid half new one two))
      (λ p h. subst (λ (l : List ℕ). Includes l p) (sym parts)
      (either (Includes-append_cases behind (targets e.val ++ targets e.key) p h)
      (λ k. Includes-append_right (targets e.val ++ targets e.key) behind p k)
      (λ k. Includes-append_left (targets e.val ++ targets e.key) behind p k)))
      (λ p h. either (Includes-append_cases (targets e.val ++ targets e.key) behind p (subst (λ (l : List ℕ). Includes l p) parts h))
      (λ k. Includes-append_right behind (targets e.val ++ targets e.key) p k)
      (λ k. Includes-append_left behind (targets e.val ++ targets e.key) p k));
  looked = omega (arith, so.looked, so.within, rises);
}
  where
    es : List Entry
    es = entries_of old o

    behind : List ℕ
    behind = references (drop (end + 1) es)

    here : slice_get es end ≡ Some e
    here = ap (λ l. slice_get l end) (sym (entries_on old mid so.so_far.same o)) ∙ is

    parts : references (drop end es) ≡ (targets e.val ++ targets e.key) ++ behind
    parts = ap references (drop_more es end e (slice_get_within es end e here)) ∙ ap (λ (x : Entry). references (x ∷ drop (end + 1) es)) (get_or_from_slice_get es end e e here)

-- it has come to the first
pub setting_back-all : (o : ℕ) (old now : Store) (end before looks : ℕ) → end ≡ 0 → SettingBack o old now end before looks → SetsReferencesAside (references (entries_of old o)) old now
setting_back-all o old now end before looks is so = subst (λ n. SetsReferencesAside (references (drop n (entries_of old o))) old now) is so.so_far
