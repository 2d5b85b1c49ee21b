-- The first fault of some graphs, and that no bytes have two verdicts.
use Rattle.std.proofs.Common.{◌≡◌, refl, sym, ◌∙◌, ap, subst, ℕ, suc, ◌+◌, ◌*◌, ◌<◌, ◌≤◌, true, false, inl, inr, List, [], ◌∷◌, ◌++◌, length, take, drop, Some, arith, get_or}
use Rattle.std.specs.List.{All}
use Rattle.std.proofs.lemmas.List.{take-append-drop, take_more, length-append}
use Rattle.std.proofs.lemmas.List.Concat.{flat_map-append}
use Rattle.std.proofs.lemmas.List.Elements.{All-append, All-cons, All-nil}
use Rattle.std.proofs.lemmas.List.{append-nil, append_assoc}
use Rattle.cg_graph.proofs.Members.{Includes-append_right}
use Rattle.cg_graph.specs.Member.{Includes}
use Rattle.cg_records.specs.declared.graph.Graph.{Graph}
use Rattle.cg_records.specs.declared.graph.Rec.{Rec}
use Rattle.cg_records.proofs.Read.{same_records}
use Rattle.cg_cert.specs.declared.check.Verdict.{Verdict}
use Rattle.cg_cert.specs.declared.check.Verdict.TheVariants.{Yes, No}
use Rattle.cg_cert.specs.Judged.{Part, part, second_part, parts_of, all_parts, IsRight, HasFault, misnamed, too_low, loses, sets_aside, IsFirstFault, IsTextOf, Judges, unreadable, faulty, right}
use Rattle.cg_cert.specs.Positions.{JudgesRecords}

-- the first graph of a record has a fault
pub fault_first : (r : Rec) (code : ℕ) → HasFault (part true r.first) code → IsFirstFault (parts_of r) 1 code
fault_first r code fault = record { front = []; faulty = part true r.first; back = second_part r.second; parts_are = refl; position_is = refl; right = All-nil IsRight; fault = fault }

-- only the second has one
pub fault_second : (r : Rec) (g : Graph) (code : ℕ) → r.second ≡ Some g → IsRight (part true r.first) → HasFault (part false g) code → IsFirstFault (parts_of r) 2 code
fault_second r g code is first_right fault = record {
  front = part true r.first ∷ [];
  faulty = part false g;
  back = [];
  parts_are = ap (λ o. part true r.first ∷ second_part o) is;
  position_is = refl;
  right = All-cons IsRight (part true r.first) [] first_right (All-nil IsRight);
  fault = fault;
}

-- the graphs of one more record
pub parts_more : (records : List Rec) (k : ℕ) (r : Rec) → k < length records → r ≡ get_or records k r → all_parts (take (k + 1) records) ≡ all_parts (take k records) ++ parts_of r
parts_more records k r within read =
    ap all_parts (take_more records k r within ∙ ap (λ (s : Rec). take k records ++ s ∷ []) (sym read))
    ∙ flat_map-append parts_of (take k records) (r ∷ [])
    ∙ ap (λ (ps : List Part). all_parts (take k records) ++ ps) (append-nil (parts_of r))

pub right_more : (records : List Rec) (k : ℕ) (r : Rec) → k < length records → r ≡ get_or records k r → All IsRight (all_parts (take k records))
    → All IsRight (parts_of r) → All IsRight (all_parts (take (k + 1) records))
right_more records k r within read before here = subst (λ (ps : List Part). All IsRight ps) (sym (parts_more records k r within read))
    (All-append IsRight (all_parts (take k records)) (parts_of r) before here)

pub count_more : (records : List Rec) (k : ℕ) (r : Rec) (graphs more : ℕ) → k < length records → r ≡ get_or records k r → graphs
    ≡ length (all_parts (take k records)) → more ≡ length (parts_of r) → graphs + more ≡ length (all_parts (take (k + 1) records))
count_more records k r graphs more within read before here = omega (arith, before, here, ap length (parts_more records k r within read), length-append (all_parts (take k records)) (parts_of r))

-- a record has the first fault of all
pub fault_more : (records : List Rec) (k : ℕ) (r : Rec) (graphs position code : ℕ) → k < length records → r ≡ get_or records k r → graphs
    ≡ length (all_parts (take k records)) → All IsRight (all_parts (take k records)) → IsFirstFault (parts_of r) position code
    → IsFirstFault (all_parts records) (graphs + position) code
fault_more records k r graphs position code within read count before h = record {
  front = all_parts (take k records) ++ h.front;
  faulty = h.faulty;
  back = h.back ++ all_parts (drop (k + 1) records);
  parts_are = whole;
  position_is = omega (arith, count, h.position_is, length-append (all_parts (take k records)) h.front);
  right = All-append IsRight (all_parts (take k records)) h.front before h.right;
  fault = h.fault;
}
  where
    whole : all_parts records ≡ (all_parts (take k records) ++ h.front) ++ h.faulty ∷ (h.back ++ all_parts (drop (k + 1) records))
    whole =
        ap all_parts (sym (take-append-drop (k + 1) records))
        ∙ flat_map-append parts_of (take (k + 1) records) (drop (k + 1) records)
        ∙ ap (λ (ps : List Part). ps ++ all_parts (drop (k + 1) records)) (parts_more records k r within read ∙ ap (λ (ps : List Part). all_parts (take k records) ++ ps) h.parts_are)
        ∙ append_assoc (all_parts (take k records)) (h.front ++ h.faulty ∷ h.back) (all_parts (drop (k + 1) records))
        ∙ ap (λ (ps : List Part). all_parts (take k records) ++ ps) (append_assoc h.front (h.faulty ∷ h.back) (all_parts (drop (k + 1) records)))
        ∙ sym (append_assoc (all_parts (take k records)) h.front (h.faulty ∷ (h.back ++ all_parts (drop (k + 1) records))))

-- How far the verdict has come: the graphs of the first records are right, and this is their number.
pub record RightSoFar (done : List Rec) (k graphs : ℕ) : Type 0 where
  pub count : graphs ≡ length (all_parts done)
  pub few : graphs ≤ 2 * k
  pub right : All IsRight (all_parts done)

pub right_so_far_more : (records : List Rec) (k : ℕ) (r : Rec) (graphs more : ℕ) → k < length records → r ≡ get_or records k r → RightSoFar (take k records) k
    graphs → All IsRight (parts_of r) → more ≡ length (parts_of r) → more ≤ 2
    → RightSoFar (take (k + 1) records) (k + 1) (graphs + more)
right_so_far_more records k r graphs more within read so here count few = record {
  count = count_more records k r graphs more within read so.count count;
  few = omega (arith, so.few, few);
  right = right_more records k r within read so.right here;
}

-- the verdict on bytes is that on their records
pub judged : (bytes : List ℕ) (records : List Rec) (v : Verdict) → IsTextOf records bytes → JudgesRecords records v → Judges bytes v
judged bytes records (Yes n) text h = subst (λ m. Judges bytes (Yes m)) (sym h.0) (right records text h.1)
judged bytes records (No position code) text h = faulty records text position code h

-- a right graph has no fault
no_fault : (p : Part) (code : ℕ) → IsRight p → HasFault p code → ⊥
no_fault p code h (misnamed f) = f h.names
no_fault p code h (too_low a f) = f h.degrees
no_fault p code h (loses a b f) = f h.lost
no_fault p code h (sets_aside a b c d f) = f (h.set_aside d)

one_code : (p : Part) (c d : ℕ) → HasFault p c → HasFault p d → c ≡ d
one_code p c d (misnamed f) (too_low n g) = absurd (f n)
one_code p c d (misnamed f) (loses n o g) = absurd (f n)
one_code p c d (misnamed f) (sets_aside n o q r g) = absurd (f n)
one_code p c d (too_low n f) (misnamed g) = absurd (g n)
one_code p c d (too_low n f) (loses m o g) = absurd (f o)
one_code p c d (too_low n f) (sets_aside m o q r g) = absurd (f o)
one_code p c d (loses n o f) (misnamed g) = absurd (g n)
one_code p c d (loses n o f) (too_low m g) = absurd (g o)
one_code p c d (loses n o f) (sets_aside m q r s g) = absurd (f r)
one_code p c d (sets_aside n o q r f) (misnamed g) = absurd (g n)
one_code p c d (sets_aside n o q r f) (too_low m g) = absurd (g o)
one_code p c d (sets_aside n o q r f) (loses m s g) = absurd (g q)
one_code p c d other one = refl

each_right : (ps : List Part) → All IsRight ps → (p : Part) → Includes ps p → IsRight p
each_right [] h p m = absurd m
each_right (q ∷ ps) h p (inl e) = subst IsRight e (h 0 p (omega arith))
each_right (q ∷ ps) h p (inr m) = each_right ps (λ k d within. h (suc k) d (omega (arith, within))) p m

-- the first fault is in one place
one_place : (front other : List Part) (p q : Part) (back rest : List Part) → front ++ p ∷ back ≡ other ++ q ∷ rest → ((x : Part) → Includes front x → IsRight x)
    → ((x : Part) → Includes other x → IsRight x) → (c d : ℕ) → HasFault p c → HasFault q d → (length front ≡ length other) × (p ≡ q)
one_place [] [] p q back rest e h k c d f g = (refl, cc)
one_place [] (y ∷ other) p q back rest e h k c d f g = let same : p ≡ y = cc in absurd (no_fault p c (k p (inl (sym same))) f)
one_place (x ∷ front) [] p q back rest e h k c d f g = let same : x ≡ q = cc in absurd (no_fault q d (h q (inl same)) g)
one_place (x ∷ front) (y ∷ other) p q back rest e h k c d f g =
    let tails : front ++ p ∷ back ≡ other ++ q ∷ rest = cc in
    let found = one_place front other p q back rest tails (λ z m. h z (inr m)) (λ z m. k z (inr m)) c d f g in
    (ap suc found.0, found.1)

one_first : (ps : List Part) (i j c d : ℕ) → IsFirstFault ps i c → IsFirstFault ps j d → (i ≡ j) × (c ≡ d)
one_first ps i j c d h k =
    let found = one_place h.front k.front h.faulty k.faulty h.back k.back (sym h.parts_are ∙ k.parts_are) (each_right h.front h.right) (each_right k.front k.right) c d h.fault k.fault in
    (omega (arith, h.position_is, k.position_is, found.0), one_code k.faulty c d (subst (λ p. HasFault p c) found.1 h.fault) k.fault)

none_first : (ps : List Part) (i c : ℕ) → All IsRight ps → IsFirstFault ps i c → ⊥
none_first ps i c all h = no_fault h.faulty c (each_right ps all h.faulty (subst (λ (xs : List Part). Includes xs h.faulty) (sym h.parts_are)
    (Includes-append_right h.front (h.faulty ∷ h.back) h.faulty (inl refl)))) h.fault

-- bytes are the text of one list of records
one_text : (bytes : List ℕ) (rs ss : List Rec) → IsTextOf rs bytes → IsTextOf ss bytes → rs ≡ ss
one_text bytes rs ss h k = same_records rs ss h.spells.writable h.small k.spells.writable k.small (sym h.spells.text ∙ k.spells.text)

-- no bytes have two verdicts
pub same_verdict : (bytes : List ℕ) (a b : Verdict) → Judges bytes a → Judges bytes b → a ≡ b
same_verdict bytes a b (unreadable n) (unreadable m) = refl
same_verdict bytes a b (unreadable n) (faulty rs t i c f) = absurd (n rs t.small t.spells)
same_verdict bytes a b (unreadable n) (right rs t h) = absurd (n rs t.small t.spells)
same_verdict bytes a b (faulty rs t i c f) (unreadable n) = absurd (n rs t.small t.spells)
same_verdict bytes a b (faulty rs t i c f) (faulty ss u j d g) =
    let found = one_first (all_parts rs) i j c d f (subst (λ (qs : List Rec). IsFirstFault (all_parts qs) j d) (sym (one_text bytes rs ss t u)) g) in
    λ k. No (found.0 k) (found.1 k)
same_verdict bytes a b (faulty rs t i c f) (right ss u h) = absurd (none_first (all_parts rs) i c (subst (λ (qs : List Rec). All IsRight (all_parts qs)) (sym (one_text bytes rs ss t u)) h) f)
same_verdict bytes a b (right rs t h) (unreadable n) = absurd (n rs t.small t.spells)
same_verdict bytes a b (right rs t h) (faulty ss u j d g) = absurd (none_first (all_parts ss) j d (subst (λ (qs : List Rec). All IsRight (all_parts qs)) (one_text bytes rs ss t u) h) g)
same_verdict bytes a b (right rs t h) (right ss u k) = ap (λ (qs : List Rec). Yes (length qs)) (one_text bytes rs ss t u)
