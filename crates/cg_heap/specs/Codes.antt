-- Encodings by which proofs distinguish stores. (Ours.)
use Rattle.std.specs.Prelude.{ℕ, Bool, List, Option, refl}
use Rattle.std.specs.Ordering.{nat_cmp}
use Rattle.std.specs.FinMap as fin
use Rattle.std.specs.Coded.{Coded, code_by, coded×, coded_ℕ, coded_list, coded_bool, coded_option}
use Rattle.cg_value.specs.declared.KindCode.{KindCode}
use Rattle.cg_value.specs.declared.Place.{Place}
use Rattle.cg_value.specs.declared.Val.{Val}
use Rattle.cg_value.specs.declared.Entry.{Entry}
use Rattle.cg_value.specs.contracts.Val as val
use Rattle.cg_value.specs.contracts.Entry as entry
use Rattle.cg_value.specs.contracts.KindCode as kind
use Rattle.cg_value.specs.contracts.Place as where_it_is
use Rattle.cg_graph.specs.Rows.{Row}
use Rattle.cg_graph.specs.Store.{Store, Node}

-- a node is encoded as the tuple of its fields
abbrev pub node_code : Coded Node
node_code =
    code_by
    (KindCode × (Option ℕ × (List Entry × (Bool × (Place × (ℕ × ℕ))))))
    (coded× kind.the_row.coded (coded× (coded_option coded_ℕ) (coded× (coded_list entry.the_row.coded) (coded× coded_bool (coded× where_it_is.the_row.coded (coded× coded_ℕ coded_ℕ))))))
    (λ n. (n.code, (n.class, (n.entries, (n.finalized, (n.place, (n.number, n.outside)))))))
    (λ p. record { code = p.0; class = p.1.0; entries = p.1.1.0; finalized = p.1.1.1.0; place = p.1.1.1.1.0; number = p.1.1.1.1.1.0; outside = p.1.1.1.1.1.1 })
    (λ _. refl)

abbrev pub row_code : Coded Row
row_code =
    code_by
    (ℕ × (ℕ × Bool))
    (coded× coded_ℕ (coded× coded_ℕ coded_bool))
    (λ r. (r.weak, (r.referent, r.waits)))
    (λ p. record { weak = p.0; referent = p.1.0; waits = p.1.1 })
    (λ _. refl)

abbrev pub store_code : Coded Store
store_code =
    code_by
    (fin.FinMap nat_cmp Node × (ℕ × (List (Option Val) × (List (List ℕ) × List Row))))
    (coded× (fin.code coded_ℕ node_code) (coded× coded_ℕ (coded× (coded_list (coded_option val.the_row.coded)) (coded× (coded_list (coded_list coded_ℕ)) (coded_list row_code)))))
    (λ s. (s.nodes, (s.last, (s.names, (s.lists, s.rows)))))
    (λ p. record { nodes = p.0; last = p.1.0; names = p.1.1.0; lists = p.1.1.1.0; rows = p.1.1.1.1 })
    (λ _. refl)
