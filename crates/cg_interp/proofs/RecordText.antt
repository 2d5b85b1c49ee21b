-- What is written of the graphs of a run, in order, is the text of its records.
use Rattle.std.proofs.Common.{◌≡◌, refl, sym, ◌∙◌, ap, ℕ, Bool, true, false, List, [], ◌∷◌, ◌++◌, Option, None, Some, append_assoc, codes}
use Rattle.std.specs.Prelude.{flat_map}
use Rattle.cg_io.specs.Causes.{AppendsFront}
use Rattle.cg_records.specs.declared.graph.Graph.{Graph}
use Rattle.cg_records.specs.declared.graph.Rec.{Rec}
use Rattle.cg_records.specs.Reading.{recorded}
use Rattle.cg_records.specs.Text.{text, record_text, graph_text, numbered}
use Rattle.cg_interp.specs.declared.graphs.Detection.{Detection}
use Rattle.cg_interp.specs.declared.graphs.Detection.TheVariants.{First, Second}
use Rattle.cg_interp.specs.Graphs.{taken_while, begins_record, closing}
use Rattle.cg_interp.specs.Recorded.{Picture, second_of, records_of}
use Rattle.cg_interp.specs.Recording.{picture_text, text_if_taken, text_so_far, unfinished_so_far}

-- what is written from some graphs to the end
abbrev pub text_to_end : Bool → List Picture → List ℕ
text_to_end unfinished pictures = text_so_far unfinished pictures ++ (closing (unfinished_so_far unfinished pictures) ++ codes "end\n")

assoc_first : (f c h g s e : List ℕ) → (f ++ c) ++ ((h ++ g) ++ (s ++ e)) ≡ f ++ ((((c ++ h) ++ g) ++ s) ++ e)
assoc_first f c h g s e = simp (append_assoc)

assoc_second : (n o x l t y z s e : List ℕ) → ((((n ++ o) ++ x) ++ l) ++ ((t ++ y) ++ z)) ++ (s ++ e) ≡ ((n ++ o) ++ (x ++ l)) ++ (((t ++ (y ++ z)) ++ s) ++ e)
assoc_second n o x l t y z s e = simp (append_assoc)

assoc_cut : (n o x l c e : List ℕ) → (((((n ++ o) ++ x) ++ l) ++ c) ++ []) ++ e ≡ ((n ++ o) ++ (x ++ l)) ++ (c ++ e)
assoc_cut n o x l c e = simp (append_assoc)

assoc_front : (n o x l : List ℕ) → (((n ++ o) ++ x) ++ l) ≡ (n ++ o) ++ (x ++ l)
assoc_front n o x l = simp (append_assoc)

-- the text of a record, and of those after it
text-cons : (r : Rec) (records : List Rec) → text (r ∷ records) ≡ record_text r ++ text records
text-cons r records = append_assoc (record_text r) (flat_map record_text records) (codes "end\n")

-- a record whose second graph comes next, and the records of the graphs from there
abbrev begun : ℕ → Graph → List Picture → List Rec
begun g graph pictures = recorded g graph (second_of pictures) ∷ records_of pictures

abbrev legacy_text : Graph → List ℕ
legacy_text graph = flat_map (numbered (codes "legacy")) graph.legacy

abbrev BothWritten : List Picture → Type 0
BothWritten pictures = (text (records_of pictures) ≡ text_to_end false pictures) × ((g : ℕ) (graph : Graph) → text (begun g graph pictures)
    ≡ picture_text false (First g) graph ++ text_to_end true pictures)

both : (pictures : List Picture) → BothWritten pictures
both [] = (refl, λ g graph. assoc_cut (numbered (codes "record") g) (codes "graph 1\n") (graph_text graph) (legacy_text graph) (codes "cut\n") (codes "end\n"))
both (p ∷ ps) = by p.detection p.graph (both ps)
  where
    by : (d : Detection) (h : Graph) → BothWritten ps → BothWritten (record { detection = d; graph = h } ∷ ps)
    by (First m) h rec = (
      rec.1 m h ∙ sym (append_assoc (picture_text false (First m) h) (text_so_far true ps) (closing (unfinished_so_far true ps) ++ codes "end\n")),
      λ g graph.
          text-cons (recorded g graph None) (begun m h ps)
          ∙ ap (λ t. record_text (recorded g graph None) ++ t) (rec.1 m h)
          ∙ ap (λ t. (t ++ codes "cut\n") ++ (picture_text false (First m) h ++ text_to_end true ps)) (assoc_front (numbered (codes "record") g)
          (codes "graph 1\n") (graph_text graph) (legacy_text graph))
          ∙ assoc_first (picture_text false (First g) graph) (codes "cut\n") (numbered (codes "record") m ++ codes "graph 1\n") (graph_text h ++ legacy_text h)
          (text_so_far true ps) (closing (unfinished_so_far true ps) ++ codes "end\n"),
    )
    by Second h rec = (
      rec.0,
      λ g graph.
          text-cons (recorded g graph (Some h)) (records_of ps)
          ∙ ap (λ t. record_text (recorded g graph (Some h)) ++ t) rec.0
          ∙ assoc_second (numbered (codes "record") g) (codes "graph 1\n") (graph_text graph) (legacy_text graph) (codes "graph 2\n") (graph_text h)
          (codes "stop\n") (text_so_far false ps) (closing (unfinished_so_far false ps) ++ codes "end\n"),
    )

pub all_written : (pictures : List Picture) → text (records_of pictures) ≡ text_to_end false pictures
all_written pictures = (both pictures).0

-- some graphs, and then others
pub unfinished-append : (b : Bool) (ps qs : List Picture) → unfinished_so_far b (ps ++ qs) ≡ unfinished_so_far (unfinished_so_far b ps) qs
unfinished-append b [] qs = refl
unfinished-append b (p ∷ ps) qs = unfinished-append (begins_record p.detection) ps qs

pub text_so_far-append : (b : Bool) (ps qs : List Picture) → text_so_far b (ps ++ qs) ≡ text_so_far b ps ++ text_so_far (unfinished_so_far b ps) qs
text_so_far-append b [] qs = refl
text_so_far-append b (p ∷ ps) qs =
    ap (λ t. text_if_taken b (taken_while b p.detection) p.graph ++ t) (text_so_far-append (begins_record p.detection) ps qs)
    ∙ sym (append_assoc (text_if_taken b (taken_while b p.detection) p.graph) (text_so_far (begins_record p.detection) ps) (text_so_far (unfinished_so_far (begins_record p.detection) ps) qs))

pub text_to_end-append : (b : Bool) (ps qs : List Picture) → text_to_end b (ps ++ qs) ≡ text_so_far b ps ++ text_to_end (unfinished_so_far b ps) qs
text_to_end-append b ps qs =
    ap (λ t. t ++ (closing (unfinished_so_far b (ps ++ qs)) ++ codes "end\n")) (text_so_far-append b ps qs)
    ∙ ap (λ u. (text_so_far b ps ++ text_so_far (unfinished_so_far b ps) qs) ++ (closing u ++ codes "end\n")) (unfinished-append b ps qs)
    ∙ append_assoc (text_so_far b ps) (text_so_far (unfinished_so_far b ps) qs) (closing (unfinished_so_far (unfinished_so_far b ps) qs) ++ codes "end\n")

-- A prefix of what is written from here on is a prefix of the text of all records.
pub front_of_all : (before now : Option (List ℕ)) (ps qs : List Picture) (more rest : List ℕ) → AppendsFront before now (text_so_far false ps ++ more)
    → text_to_end (unfinished_so_far false ps) qs ≡ more ++ rest
    → AppendsFront before now (text (records_of (ps ++ qs)))
front_of_all before now ps qs more rest wrote is = record {
  front = wrote.front;
  rest = wrote.rest ++ rest;
  whole =
      all_written (ps ++ qs)
      ∙ text_to_end-append false ps qs
      ∙ ap (λ t. text_so_far false ps ++ t) is
      ∙ sym (append_assoc (text_so_far false ps) more rest)
      ∙ ap (λ t. t ++ rest) wrote.whole
      ∙ append_assoc wrote.front wrote.rest rest;
  appended = wrote.appended;
}
