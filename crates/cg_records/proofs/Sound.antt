-- What was read is what the lines say: an allowed line extends the draft by one line.
use Rattle.std.proofs.Common.{◌≡◌, ℕ, Bool, List, [], ◌∷◌, ◌++◌, map, Option, Some, None, refl, sym, ap, subst, ◌∙◌, append_assoc, append-nil}
use Rattle.std.specs.Prelude.{flat_map, option_map, IfSome}
use Rattle.std.proofs.lemmas.List.{map_push}
use Rattle.std.proofs.lemmas.Grind.{flat_map-append}
use Rattle.cg_records.specs.declared.graph.Member.{Member}
use Rattle.cg_records.specs.declared.graph.Graph.{Graph}
use Rattle.cg_records.specs.declared.graph.Rec.{Rec}
use Rattle.cg_records.specs.declared.line.Line.{Line}
use Rattle.cg_records.specs.declared.line.Line.TheVariants as lines
use Rattle.cg_records.specs.declared.draft.Stage.{Stage}
use Rattle.cg_records.specs.declared.draft.Stage.TheVariants.{Between, Opened, Within, Ended}
use Rattle.cg_records.specs.declared.draft.Draft.{Draft}
use Rattle.cg_records.specs.Members.{member, with_reference}
use Rattle.cg_records.specs.Reading.{graph, recorded, draft, in_graph, at_graph, step}
use Rattle.cg_records.specs.RecordLines.{member_lines, graph_lines, record_lines, all_lines}
use Rattle.cg_records.proofs.Runs.{run, goes_on}
use Rattle.cg_records.proofs.Machine.{start, ArePlain}

-- the lines of a graph, with its legacy set
abbrev full : Graph → List Line
full g = graph_lines g ++ map lines.Legacy g.legacy

abbrev stage_lines : Stage → List Line
stage_lines Between = []
stage_lines (Opened g) = lines.Record g ∷ []
stage_lines (Within g None a) = lines.Record g ∷ lines.First ∷ full a
stage_lines (Within g (Some f) a) = lines.Record g ∷ lines.First ∷ (graph_lines f ++ (map lines.Legacy f.legacy ++ lines.Second ∷ graph_lines a))
stage_lines Ended = lines.End ∷ []

abbrev lines_in : Draft → List Line
lines_in d = flat_map record_lines d.records ++ stage_lines d.stage

-- a second graph has no legacy set
abbrev IsPlain : Stage → Type 0
IsPlain (Within g (Some f) a) = a.legacy ≡ []
IsPlain other = Unit {0}

plain_more : (rs : List Rec) (r : Rec) → ArePlain rs → IfSome r.second (λ b. b.legacy ≡ []) → ArePlain (rs ++ r ∷ [])
plain_more [] r h k = (k, tt)
plain_more (q ∷ rs) r h k = (h.0, plain_more rs r h.1 k)

-- the effect of a line on a draft
record Grows (d : Draft) (l : Line) (e : Draft) : Type 0 where
  pub says : lines_in e ≡ lines_in d ++ l ∷ []
  pub plain : ArePlain d.records → IsPlain d.stage → ArePlain e.records × IsPlain e.stage

reference_more : (m : Member) (old : List Member) (n : ℕ) (o : Option (List Member)) (ns : List Member) → ((rest : List Member) → o ≡ Some rest
    → flat_map member_lines rest ≡ flat_map member_lines old ++ lines.Reference n ∷ [])
    → option_map (λ rest. m ∷ rest) o ≡ Some ns → flat_map member_lines ns ≡ flat_map member_lines (m ∷ old) ++ lines.Reference n ∷ []
reference_more m old n None ns ih e = absurd (cc)
reference_more m old n (Some rest) ns ih e =
    let is : m ∷ rest ≡ ns = cc in
    sym (ap (flat_map member_lines) is) ∙ ap (λ t. member_lines m ++ t) (ih rest refl) ∙ sym (append_assoc (member_lines m) (flat_map member_lines old) (lines.Reference n ∷ []))

reference_lines : (ms ns : List Member) (n : ℕ) → with_reference ms n ≡ Some ns → flat_map member_lines ns ≡ flat_map member_lines ms ++ lines.Reference n ∷ []
reference_lines [] ns n e = absurd (cc)
reference_lines (m ∷ []) ns n e =
    let is : member m.serial m.degree m.legacy (m.refs ++ n ∷ []) ∷ [] ≡ ns = cc in
    sym (ap (flat_map member_lines) is) ∙ ap (λ t. lines.Member m.serial m.degree m.legacy ∷ (t ++ [])) (map_push lines.Reference m.refs n)
    ∙ ap (λ t. lines.Member m.serial m.degree m.legacy ∷ t) (append-nil (map lines.Reference m.refs ++ lines.Reference n ∷ [])
    ∙ ap (λ t. t ++ lines.Reference n ∷ []) (sym (append-nil (map lines.Reference m.refs))))
reference_lines (m ∷ k ∷ ms) ns n e = reference_more m (k ∷ ms) n (with_reference (k ∷ ms) n) ns (λ rest p. reference_lines (k ∷ ms) rest n p) e

-- a graph gets one more line, and has no legacy set before or after
record HasMore (a : Graph) (l : Line) (b : Graph) : Type 0 where
  pub says : graph_lines b ≡ graph_lines a ++ l ∷ []
  pub before : a.legacy ≡ []
  pub after : b.legacy ≡ []

more_of_member : (ms : List Member) (lost legacy : List ℕ) (s d : ℕ) (mark : Bool) (b : Graph) → in_graph (graph ms lost legacy) (lines.Member s d mark)
    ≡ Some b → HasMore (graph ms lost legacy) (lines.Member s d mark) b
more_of_member ms [] [] s d mark b e =
    let is : graph (ms ++ member s d mark [] ∷ []) [] [] ≡ b = cc in
    subst (HasMore (graph ms [] []) (lines.Member s d mark)) is (record {
      says = append-nil (flat_map member_lines (ms ++ member s d mark [] ∷ [])) ∙ flat_map-append member_lines ms (member s d mark [] ∷ [])
          ∙ ap (λ t. t ++ lines.Member s d mark ∷ []) (sym (append-nil (flat_map member_lines ms)));
      before = refl;
      after = refl;
    })
more_of_member ms list legacy s d mark b e = absurd (cc)

more_of_reference : (ms : List Member) (lost legacy : List ℕ) (n : ℕ) (b : Graph) → in_graph (graph ms lost legacy) (lines.Reference n) ≡ Some b → HasMore (graph ms lost legacy) (lines.Reference n) b
more_of_reference ms [] [] n b e = by (with_reference ms n) refl e
  where
    by : (o : Option (List Member)) → with_reference ms n ≡ o → option_map (λ members. graph members [] []) o ≡ Some b → HasMore (graph ms [] []) (lines.Reference n) b
    by None p q = absurd (cc)
    by (Some ns) p q =
        let is : graph ns [] [] ≡ b = cc in
        subst (HasMore (graph ms [] []) (lines.Reference n)) is (record {
          says = append-nil (flat_map member_lines ns) ∙ reference_lines ms ns n p ∙ ap (λ t. t ++ lines.Reference n ∷ []) (sym (append-nil (flat_map member_lines ms)));
          before = refl;
          after = refl;
        })
more_of_reference ms list legacy n b e = absurd (cc)

more_of_lost : (ms : List Member) (lost legacy : List ℕ) (n : ℕ) (b : Graph) → in_graph (graph ms lost legacy) (lines.Lost n) ≡ Some b → HasMore (graph ms lost legacy) (lines.Lost n) b
more_of_lost ms lost [] n b e =
    let is : graph ms (lost ++ n ∷ []) [] ≡ b = cc in
    subst (HasMore (graph ms lost []) (lines.Lost n)) is (record {
      says = ap (λ t. flat_map member_lines ms ++ t) (map_push lines.Lost lost n) ∙ sym (append_assoc (flat_map member_lines ms) (map lines.Lost lost) (lines.Lost n ∷ []));
      before = refl;
      after = refl;
    })
more_of_lost ms lost (x ∷ xs) n b e = absurd (cc)

-- the lines before, a record's first two, and the lines after
pushed : (r : List Line) (x y l : Line) (xs : List Line) → r ++ x ∷ y ∷ (xs ++ l ∷ []) ≡ (r ++ x ∷ y ∷ xs) ++ l ∷ []
pushed r x y l xs = sym (append_assoc r (x ∷ y ∷ xs) (l ∷ []))

module _ (rs : List Rec) (g : ℕ) where
  grows_more : (f : Option Graph) (a : Graph) (l : Line) (c : Graph) → HasMore a l c → Grows (draft rs (Within g f a)) l (draft rs (Within g f c))
  grows_more None a l c h =
      record {
        says =
            ap (λ t. flat_map record_lines rs ++ lines.Record g ∷ lines.First ∷ t) (ap (λ t. graph_lines c ++ map lines.Legacy t) h.after
            ∙ append-nil (graph_lines c) ∙ h.says ∙ ap (λ t. t ++ l ∷ []) (sym (append-nil (graph_lines a)) ∙ ap (λ t. graph_lines a ++ map lines.Legacy t)
            (sym h.before)))
            ∙ pushed (flat_map record_lines rs) (lines.Record g) lines.First l (full a);
        plain = λ p q. (p, tt);
      }
  grows_more (Some f) a l c h =
      record {
        says =
            ap (λ t. flat_map record_lines rs ++ lines.Record g ∷ lines.First ∷ t) (ap (λ t. graph_lines f ++ (map lines.Legacy f.legacy ++ lines.Second ∷ t))
            h.says ∙ behind (graph_lines f) (map lines.Legacy f.legacy) (graph_lines a))
            ∙ pushed (flat_map record_lines rs) (lines.Record g) lines.First l (graph_lines f ++ (map lines.Legacy f.legacy ++ lines.Second ∷ graph_lines a));
        plain = λ p q. (p, h.after);
      }
    where
      behind : (xs ys zs : List Line) → xs ++ (ys ++ lines.Second ∷ (zs ++ l ∷ [])) ≡ (xs ++ (ys ++ lines.Second ∷ zs)) ++ l ∷ []
      behind xs ys zs = simp append_assoc

  in_step : (f : Option Graph) (a : Graph) (l : Line) (e : Draft) → ((b : Graph) → in_graph a l ≡ Some b → HasMore a l b) → at_graph rs g f a l ≡ Some e → Grows (draft rs (Within g f a)) l e
  in_step f a l e more h = by (in_graph a l) refl h
    where
      by : (o : Option Graph) → in_graph a l ≡ o → option_map (λ grown. draft rs (Within g f grown)) o ≡ Some e → Grows (draft rs (Within g f a)) l e
      by None p q = absurd (cc)
      by (Some b) p q = let is : draft rs (Within g f b) ≡ e = cc in subst (Grows (draft rs (Within g f a)) l) is (grows_more f a l b (more b p))

  legacy_step : (f : Option Graph) (a : Graph) (n : ℕ) (e : Draft) → step (draft rs (Within g f a)) (lines.Legacy n) ≡ Some e → Grows (draft rs (Within g f a)) (lines.Legacy n) e
  legacy_step None a n e h =
      let is : draft rs (Within g None (graph a.members a.lost (a.legacy ++ n ∷ []))) ≡ e = cc in
      subst (Grows (draft rs (Within g None a)) (lines.Legacy n)) is (record {
        says =
            ap (λ t. flat_map record_lines rs ++ lines.Record g ∷ lines.First ∷ t) (ap (λ t. graph_lines a ++ t) (map_push lines.Legacy a.legacy n)
            ∙ sym (append_assoc (graph_lines a) (map lines.Legacy a.legacy) (lines.Legacy n ∷ [])))
            ∙ pushed (flat_map record_lines rs) (lines.Record g) lines.First (lines.Legacy n) (full a);
        plain = λ p q. (p, tt);
      })
  legacy_step (Some f) a n e h = absurd (cc)

  second_step : (f : Option Graph) (a : Graph) (e : Draft) → step (draft rs (Within g f a)) lines.Second ≡ Some e → Grows (draft rs (Within g f a)) lines.Second e
  second_step None a e h =
      let is : draft rs (Within g (Some a) (graph [] [] [])) ≡ e = cc in
      subst (Grows (draft rs (Within g None a)) lines.Second) is (record {
        says =
            ap (λ t. flat_map record_lines rs ++ lines.Record g ∷ lines.First ∷ t) (sym (append_assoc (graph_lines a) (map lines.Legacy a.legacy) (lines.Second ∷ [])))
            ∙ pushed (flat_map record_lines rs) (lines.Record g) lines.First lines.Second (full a);
        plain = λ p q. (p, refl);
      })
  second_step (Some f) a e h = absurd (cc)

  one_record : (r : Rec) (xs : List Line) → record_lines r ≡ xs → flat_map record_lines (rs ++ r ∷ []) ++ [] ≡ flat_map record_lines rs ++ xs
  one_record r xs same =
      append-nil (flat_map record_lines (rs ++ r ∷ [])) ∙ flat_map-append record_lines rs (r ∷ []) ∙ ap (λ t. flat_map record_lines rs ++ t) (append-nil (record_lines r) ∙ same)

  cut_step : (f : Option Graph) (a : Graph) (e : Draft) → step (draft rs (Within g f a)) lines.Cut ≡ Some e → Grows (draft rs (Within g f a)) lines.Cut e
  cut_step None a e h =
      let is : draft (rs ++ recorded g a None ∷ []) Between ≡ e = cc in
      subst (Grows (draft rs (Within g None a)) lines.Cut) is (record {
        says =
            one_record (recorded g a None) (lines.Record g ∷ lines.First ∷ (full a ++ lines.Cut ∷ []))
            (ap (λ t. lines.Record g ∷ lines.First ∷ t) (sym (append_assoc (graph_lines a) (map lines.Legacy a.legacy) (lines.Cut ∷ []))))
            ∙ pushed (flat_map record_lines rs) (lines.Record g) lines.First lines.Cut (full a);
        plain = λ p q. (plain_more rs (recorded g a None) p tt, tt);
      })
  cut_step (Some f) a e h = absurd (cc)

  stop_step : (f : Option Graph) (a : Graph) (e : Draft) → step (draft rs (Within g f a)) lines.Stop ≡ Some e → Grows (draft rs (Within g f a)) lines.Stop e
  stop_step None a e h = absurd (cc)
  stop_step (Some f) a e h =
      let is : draft (rs ++ recorded g f (Some a) ∷ []) Between ≡ e = cc in
      subst (Grows (draft rs (Within g (Some f) a)) lines.Stop) is (record {
        says =
            one_record (recorded g f (Some a)) (lines.Record g ∷ lines.First ∷ ((graph_lines f ++ (map lines.Legacy f.legacy ++ lines.Second ∷ graph_lines a)) ++ lines.Stop ∷ []))
            (ap (λ t. lines.Record g ∷ lines.First ∷ t) (behind (graph_lines f) (map lines.Legacy f.legacy) (graph_lines a)))
            ∙ pushed (flat_map record_lines rs) (lines.Record g) lines.First lines.Stop (graph_lines f ++ (map lines.Legacy f.legacy ++ lines.Second ∷ graph_lines a));
        plain = λ p q. (plain_more rs (recorded g f (Some a)) p q, tt);
      })
    where
      behind : (xs ys zs : List Line) → xs ++ (ys ++ lines.Second ∷ (zs ++ lines.Stop ∷ [])) ≡ (xs ++ (ys ++ lines.Second ∷ zs)) ++ lines.Stop ∷ []
      behind xs ys zs = simp append_assoc

  grows_within : (f : Option Graph) (a : Graph) (l : Line) (e : Draft) → step (draft rs (Within g f a)) l ≡ Some e → Grows (draft rs (Within g f a)) l e
  grows_within f a lines.Second e h = second_step f a e h
  grows_within f a (lines.Member s d mark) e h = in_step f a (lines.Member s d mark) e (λ b p. more_of_member a.members a.lost a.legacy s d mark b p) h
  grows_within f a (lines.Reference n) e h = in_step f a (lines.Reference n) e (λ b p. more_of_reference a.members a.lost a.legacy n b p) h
  grows_within f a (lines.Lost n) e h = in_step f a (lines.Lost n) e (λ b p. more_of_lost a.members a.lost a.legacy n b p) h
  grows_within f a (lines.Legacy n) e h = legacy_step f a n e h
  grows_within f a lines.Cut e h = cut_step f a e h
  grows_within f a lines.Stop e h = stop_step f a e h
  grows_within f a line e h = absurd (cc)

grows_between : (rs : List Rec) (l : Line) (e : Draft) → step (draft rs Between) l ≡ Some e → Grows (draft rs Between) l e
grows_between rs (lines.Record n) e h =
    let is : draft rs (Opened n) ≡ e = cc in
    subst (Grows (draft rs Between) (lines.Record n)) is (record { says = ap (λ t. t ++ lines.Record n ∷ []) (sym (append-nil (flat_map record_lines rs))); plain = λ p q. (p, tt) })
grows_between rs lines.End e h =
    let is : draft rs Ended ≡ e = cc in
    subst (Grows (draft rs Between) lines.End) is (record { says = ap (λ t. t ++ lines.End ∷ []) (sym (append-nil (flat_map record_lines rs))); plain = λ p q. (p, tt) })
grows_between rs line e h = absurd (cc)

grows_opened : (rs : List Rec) (g : ℕ) (l : Line) (e : Draft) → step (draft rs (Opened g)) l ≡ Some e → Grows (draft rs (Opened g)) l e
grows_opened rs g lines.First e h =
    let is : draft rs (Within g None (graph [] [] [])) ≡ e = cc in
    subst (Grows (draft rs (Opened g)) lines.First) is (record { says = sym (append_assoc (flat_map record_lines rs) (lines.Record g ∷ []) (lines.First ∷ [])); plain = λ p q. (p, tt) })
grows_opened rs g line e h = absurd (cc)

grows_at : (rs : List Rec) (s : Stage) (l : Line) (e : Draft) → step (draft rs s) l ≡ Some e → Grows (draft rs s) l e
grows_at rs Between l e h = grows_between rs l e h
grows_at rs (Opened g) l e h = grows_opened rs g l e h
grows_at rs (Within g f a) l e h = grows_within rs g f a l e h
grows_at rs Ended l e h = absurd (cc)

grows : (d : Draft) (l : Line) (e : Draft) → step d l ≡ Some e → Grows d l e
grows d l e h = grows_at d.records d.stage l e h

-- lines that were read, and the draft after them
pub record Holds (done : List Line) (d : Draft) : Type 0 where
  pub reached : run step start done ≡ Some d
  pub says : lines_in d ≡ done
  pub plain : ArePlain d.records × IsPlain d.stage

pub holds_more : (done : List Line) (d e : Draft) (l : Line) → Holds done d → step d l ≡ Some e → Holds (done ++ l ∷ []) e
holds_more done d e l h s =
    let more = grows d l e s in
    record { reached = goes_on step start d e done l h.reached s; says = more.says ∙ ap (λ t. t ++ l ∷ []) h.says; plain = more.plain h.plain.0 h.plain.1 }

pub ended_says : (done : List Line) (rs : List Rec) (d : Draft) → Holds done d → d ≡ draft rs Ended → (all_lines rs ≡ done) × ArePlain rs
ended_says done rs d h e = (ap lines_in (sym e) ∙ h.says, subst (λ (b : Draft). ArePlain b.records) e h.plain.0)
