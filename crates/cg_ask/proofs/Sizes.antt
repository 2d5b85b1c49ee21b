-- A text is longer than what it encodes.
use Rattle.std.proofs.Common.{ap, ℕ, ◌+◌, ◌*◌, ◌<◌, ◌≤◌, List, [], ◌∷◌, ◌++◌, length, arith, length-append}
use Rattle.std.specs.Prelude.{codes, flat_map}
use Rattle.cg_snapshot.specs.declared.heap.Member.{Member}
use Rattle.cg_snapshot.specs.declared.reading.Snapshot.{Snapshot}
use Rattle.cg_snapshot.specs.Rows.{spaced, all_spaced}
use Rattle.cg_snapshot.specs.Text.{member_numbers, untold_text, member_text, question_text, text, Spells}
use Rattle.cg_ask.specs.Asked.{references_of, all_words_of}
use Rattle.cg_ask.specs.declared.run.TheConstants.{LIMIT}

spaced_long : (ns : List ℕ) → length ns ≤ length (all_spaced ns)
spaced_long [] = omega arith
spaced_long (n ∷ ns) = omega (arith, spaced_long ns, length-append (spaced n) (all_spaced ns))

untold_long : (ns : List ℕ) → length ns ≤ length (untold_text ns)
untold_long [] = omega arith
untold_long (n ∷ ns) = omega (arith, spaced_long (n ∷ ns), length-append (codes "u" ++ all_spaced (n ∷ ns)) (10 ∷ []), length-append (codes "u") (all_spaced (n ∷ ns)))

member_long : (m : Member) → length m.refs + length m.untold + 2 ≤ length (member_text m)
member_long m =
    omega (
      arith,
      spaced_long (member_numbers m),
      untold_long m.untold,
      length-append ((codes "m" ++ all_spaced (member_numbers m)) ++ 10 ∷ [])
          (untold_text m.untold),
      length-append (codes "m" ++ all_spaced (member_numbers m)) (10 ∷ []),
      length-append (codes "m") (all_spaced (member_numbers m)),
    )

members_long : (ms : List Member) → length (references_of ms) + length (all_words_of ms) + 2 * length ms ≤ length (flat_map member_text ms)
members_long [] = omega arith
members_long (m ∷ ms) = omega (
  arith,
  members_long ms,
  member_long m,
  length-append m.refs (references_of ms),
  length-append m.untold (all_words_of ms),
  length-append (member_text m) (flat_map member_text ms),
)

text_long : (s : Snapshot) → length (references_of s.members) + length (all_words_of s.members) + 2 * length s.members ≤ length (text s)
text_long s =
    omega (
      arith,
      members_long s.members,
      length-append ((codes "heap\n" ++ flat_map member_text s.members) ++ codes "end\n")
          (flat_map question_text s.questions),
      length-append (codes "heap\n" ++ flat_map member_text s.members) (codes "end\n"),
      length-append (codes "heap\n")
          (flat_map member_text s.members),
    )

-- the result of reading bytes that are not too many
module _ (bytes : List ℕ) (s : Snapshot) (short : length bytes < LIMIT) (spells : Spells bytes s) where
  all_long : length (references_of s.members) + length (all_words_of s.members) + 2 * length s.members ≤ length bytes
  all_long = omega (arith, text_long s, ap (λ (bs : List ℕ). length bs) spells.text)

  pub few_references : length (references_of s.members) < 4294967296
  few_references = omega (arith, all_long, short)

  pub few_words : length (all_words_of s.members) < 4294967296
  few_words = omega (arith, all_long, short)

  pub few_members : length s.members < 268435456
  few_members = omega (arith, all_long, short)
