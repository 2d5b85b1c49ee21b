-- Reading the lines of records one by one gives these records.
use Rattle.std.proofs.Common.{◌≡◌, ℕ, Bool, List, [], ◌∷◌, ◌++◌, map, Option, Some, None, refl, sym, ap, ◌∙◌, append_assoc, append-nil}
use Rattle.std.specs.Prelude.{flat_map, option_map, IfSome}
use Rattle.cg_records.specs.declared.graph.Member.{Member}
use Rattle.cg_records.specs.declared.graph.Graph.{Graph}
use Rattle.cg_records.specs.declared.graph.Rec.{Rec}
use Rattle.cg_records.specs.declared.line.Line.TheVariants as lines
use Rattle.cg_records.specs.declared.draft.Stage.TheVariants.{Between, Within, Ended}
use Rattle.cg_records.specs.declared.draft.Draft.{Draft}
use Rattle.cg_records.specs.Members.{member, with_reference}
use Rattle.cg_records.specs.Reading.{graph, recorded, draft, step}
use Rattle.cg_records.specs.RecordLines.{member_lines, graph_lines, rest_lines, record_lines, all_lines}
use Rattle.cg_records.proofs.Runs.{then, run, chain}

abbrev pub start : Draft
start = draft [] Between

pub with_reference-last : (ms : List Member) (s d : ℕ) (legacy : Bool) (refs : List ℕ) (n : ℕ)
    → with_reference (ms ++ member s d legacy refs ∷ []) n ≡ Some (ms ++ member s d legacy (refs ++ n ∷ []) ∷ [])
with_reference-last (m ∷ k ∷ ms) s d legacy refs n = ap (option_map (λ rest. m ∷ rest)) (with_reference-last (k ∷ ms) s d legacy refs n)
with_reference-last xs s d legacy refs n = refl

-- inside a graph of a record
module _ (rs : List Rec) (g : ℕ) (f : Option Graph) where
  abbrev here : Graph → Draft
  here a = draft rs (Within g f a)

  run_references : (ms : List Member) (s d : ℕ) (legacy : Bool) (done ns : List ℕ)
      → run step (here (graph (ms ++ member s d legacy done ∷ []) [] [])) (map lines.Reference ns) ≡ Some (here (graph (ms ++ member s d legacy (done ++ ns) ∷ []) [] []))
  run_references ms s d legacy done [] = ap (λ l. Some (here (graph (ms ++ member s d legacy l ∷ []) [] []))) (sym (append-nil done))
  run_references ms s d legacy done (n ∷ ns) =
      ap (λ r. then (option_map (λ a. here a) (option_map (λ members. graph members [] []) r)) (λ e. run step e (map lines.Reference ns))) (with_reference-last ms s d legacy done n)
      ∙ run_references ms s d legacy (done ++ n ∷ []) ns
      ∙ ap (λ l. Some (here (graph (ms ++ member s d legacy l ∷ []) [] []))) (append_assoc done (n ∷ []) ns)

  run_members : (done ms : List Member) → run step (here (graph done [] [])) (flat_map member_lines ms) ≡ Some (here (graph (done ++ ms) [] []))
  run_members done [] = ap (λ l. Some (here (graph l [] []))) (sym (append-nil done))
  run_members done (m ∷ ms) =
      chain step (here (graph (done ++ member m.serial m.degree m.legacy [] ∷ []) [] [])) (here (graph (done ++ m ∷ []) [] [])) (map lines.Reference m.refs)
      (flat_map member_lines ms) (Some (here (graph (done ++ m ∷ ms) [] [])))
      (run_references done m.serial m.degree m.legacy [] m.refs)
      (run_members (done ++ m ∷ []) ms ∙ ap (λ l. Some (here (graph l [] []))) (append_assoc done (m ∷ []) ms))

  run_lost : (ms : List Member) (done ns : List ℕ) → run step (here (graph ms done [])) (map lines.Lost ns) ≡ Some (here (graph ms (done ++ ns) []))
  run_lost ms done [] = ap (λ l. Some (here (graph ms l []))) (sym (append-nil done))
  run_lost ms done (n ∷ ns) = run_lost ms (done ++ n ∷ []) ns ∙ ap (λ l. Some (here (graph ms l []))) (append_assoc done (n ∷ []) ns)

  run_graph : (a : Graph) → run step (here (graph [] [] [])) (graph_lines a) ≡ Some (here (graph a.members a.lost []))
  run_graph a =
      chain step (here (graph [] [] [])) (here (graph a.members [] [])) (flat_map member_lines a.members) (map lines.Lost a.lost)
      (Some (here (graph a.members a.lost []))) (run_members [] a.members) (run_lost a.members [] a.lost)

run_legacy : (rs : List Rec) (g : ℕ) (ms : List Member) (lost done ns : List ℕ) → run step (draft rs (Within g None (graph ms lost done))) (map lines.Legacy ns)
    ≡ Some (draft rs (Within g None (graph ms lost (done ++ ns))))
run_legacy rs g ms lost done [] = ap (λ l. Some (draft rs (Within g None (graph ms lost l)))) (sym (append-nil done))
run_legacy rs g ms lost done (n ∷ ns) = run_legacy rs g ms lost (done ++ n ∷ []) ns ∙ ap (λ l. Some (draft rs (Within g None (graph ms lost l)))) (append_assoc done (n ∷ []) ns)

run_rest : (rs : List Rec) (g : ℕ) (a : Graph) (second : Option Graph) → IfSome second (λ b. b.legacy ≡ []) → run step (draft rs (Within g None a))
    (rest_lines second) ≡ Some (draft (rs ++ recorded g a second ∷ []) Between)
run_rest rs g a None h = refl
run_rest rs g a (Some b) h =
    chain step (draft rs (Within g (Some a) (graph [] [] []))) (draft rs (Within g (Some a) (graph b.members b.lost []))) (graph_lines b) (lines.Stop ∷ [])
    (Some (draft (rs ++ recorded g a (Some b) ∷ []) Between)) (run_graph rs g (Some a) b)
    (ap (λ l. Some (draft (rs ++ recorded g a (Some (graph b.members b.lost l)) ∷ []) Between)) (sym h))

run_record : (rs : List Rec) (r : Rec) → IfSome r.second (λ b. b.legacy ≡ []) → run step (draft rs Between) (record_lines r) ≡ Some (draft (rs ++ r ∷ []) Between)
run_record rs r h =
    chain step (draft rs (Within r.generation None (graph [] [] []))) (draft rs (Within r.generation None (graph r.first.members r.first.lost [])))
    (graph_lines r.first) (map lines.Legacy r.first.legacy ++ rest_lines r.second)
    (Some (draft (rs ++ r ∷ []) Between)) (run_graph rs r.generation None r.first)
    (chain step (draft rs (Within r.generation None (graph r.first.members r.first.lost []))) (draft rs (Within r.generation None r.first))
    (map lines.Legacy r.first.legacy) (rest_lines r.second) (Some (draft (rs ++ r ∷ []) Between))
    (run_legacy rs r.generation r.first.members r.first.lost [] r.first.legacy) (run_rest rs r.generation r.first r.second h))

-- only first graphs have legacy sets
abbrev pub ArePlain : List Rec → Type 0
ArePlain [] = Unit {0}
ArePlain (r ∷ rs) = IfSome r.second (λ b. b.legacy ≡ []) × ArePlain rs

run_records : (rs qs : List Rec) → ArePlain qs → run step (draft rs Between) (all_lines qs) ≡ Some (draft (rs ++ qs) Ended)
run_records rs [] h = ap (λ l. Some (draft l Ended)) (sym (append-nil rs))
run_records rs (q ∷ qs) h =
    ap (run step (draft rs Between)) (append_assoc (record_lines q) (flat_map record_lines qs) (lines.End ∷ []))
    ∙ chain step (draft rs Between) (draft (rs ++ q ∷ []) Between) (record_lines q) (all_lines qs) (Some (draft (rs ++ q ∷ qs) Ended)) (run_record rs q h.0)
    (run_records (rs ++ q ∷ []) qs h.1 ∙ ap (λ l. Some (draft l Ended)) (append_assoc rs (q ∷ []) qs))

-- the lines of records give these records
pub run-all_lines : (qs : List Rec) → ArePlain qs → run step start (all_lines qs) ≡ Some (draft qs Ended)
run-all_lines qs h = run_records [] qs h
