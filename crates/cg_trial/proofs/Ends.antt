-- After sieving, the members are split, in terms of the store.
use Rattle.std.proofs.Common.{◌≡◌, ap, ℕ, ◌+◌, cond, List, Option, Some, None, arith}
use Rattle.std.specs.Prelude.{◌==◌, ◌↔◌, option_map}
use Rattle.std.specs.FinMap as fin
use Rattle.cg_value.specs.declared.Place.{Place}
use Rattle.cg_value.specs.declared.Place.TheVariants.{Cand}
use Rattle.cg_graph.specs.Member.{Includes}
use Rattle.cg_graph.specs.Holdings.{occurrences}
use Rattle.cg_graph.specs.Store.{Store, Node, list_at}
use Rattle.cg_graph.specs.Reachable.{IsReachable, IsUnreachable}
use Rattle.cg_graph.proofs.Members.{either}
use Rattle.cg_heap.specs.Calls.{IsListed}
use Rattle.cg_trial.specs.View.{view_of, IsSame, bare_node}
use Rattle.cg_trial.specs.Sift.{IsSieved}
use Rattle.cg_trial.specs.Split.{IsSplitPlace, kept_place, IsSameNode, IsSameButPlaces}
use Rattle.cg_trial.proofs.Lists.{occurs}
use Rattle.cg_trial.proofs.PlacesOfObjects.{once_at}
use Rattle.cg_trial.proofs.WalkInvariant.{in_lists, from_first}
use Rattle.cg_trial.proofs.Objects.{members, paths}

-- nodes are equal except for places and numbers
same_nodes : (old new : Option Node) → option_map bare_node new ≡ option_map bare_node old → IsSameNode old new
same_nodes None None h = tt
same_nodes (Some n) (Some m) h = let bare : bare_node m ≡ bare_node n = cc in ap {A = Node} (λ (x : Node). record x { place = m.place; number = m.number }) bare
same_nodes found m h = absurd (cc)

pub same_but_places : (old new : Store) → IsSame (view_of old) (view_of new) → IsSameButPlaces old new
same_but_places old new same = record {
  nodes = λ s. same_nodes (fin.get old.nodes s) (fin.get new.nodes s) (ap (λ bare. bare s) same.bares);
  last = ap (λ b. b.last) same.besides;
  names = ap (λ b. b.names) same.besides;
  rows = ap (λ b. b.rows) same.besides;
}

module _ (place : Place) (old new : Store) (listed : IsListed old) (is : IsSplitPlace place) (sieved : IsSieved place (view_of old) (view_of new)) where
  abbrev left : List ℕ
  left = list_at new Cand

  abbrev kept : List ℕ
  kept = list_at new (kept_place place)

  counts : (o : ℕ) → occurrences o left + occurrences o kept ≡ occurrences o (list_at old place)
  counts o = sieved.sums (λ x. cond (x == o) 1 0)

  path_then : (o : ℕ) → Includes kept o → IsReachable old place o
  path_then o h = (paths old listed place is o).0 (sieved.reached o h)

  kept_then : (o : ℕ) → IsReachable old place o → Includes kept o
  kept_then o r = sieved.all_reached o ((paths old listed place is o).1 r)

  pub is_reachable : (o : ℕ) → Includes kept o ↔ IsReachable old place o
  is_reachable o = (path_then o, kept_then o)

  left_then : (o : ℕ) → Includes left o → IsUnreachable old place o
  left_then o h = record {
    member = (members old listed place is o).0 (from_first left kept (list_at old place) o (counts o) h);
    no_path = λ r. absurd (omega (arith, occurs left o h, occurs kept o (kept_then o r), counts o, once_at old listed place o));
  }

  left_back : (o : ℕ) → IsUnreachable old place o → Includes left o
  left_back o l =
      either (in_lists left kept (list_at old place) o (counts o) ((members old listed place is o).1 l.member))
      (λ h. absurd (l.no_path (path_then o h)))
      (λ h. h)

  pub is_unreachable : (o : ℕ) → Includes left o ↔ IsUnreachable old place o
  is_unreachable o = (left_then o, left_back o)
