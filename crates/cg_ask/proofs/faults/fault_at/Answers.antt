use Rattle.std.proofs.Common.{sym, ◌∙◌, ap, length, List, ℕ}
use Rattle.cg_snapshot.specs.Reading.{are_below}
use Rattle.cg_ask.specs.Asked.{references_of, all_words_of}
use Rattle.cg_ask.proofs.Counting.{count_read}
use Rattle.cg_ask.proofs.FaultsOfHeaps.{named_of, misnamed_refs, misnamed_words, low_fault, low_words, is_right, is_right_alone}
use Rattle.cg_ask.proofs.faults.fault_at.Goals as goal
use Rattle.cg_ask.proofs.faults.fault_at.Goals.{then-not-all_below-via-then-not-all_below, then-not-all_below-via-else-not-all_below+then-not-all_below-2, else-with_words-via-then-with_words+else-degree-told-2, else-with_words-via-else-with_words}

pub returns-then-not-all_below-clause-fault : goal.returns-then-not-all_below-clause-fault
returns-then-not-all_below-clause-fault c = elim c.then-not-all_below.branch [
  | then-not-all_below-via-then-not-all_below w ↦ misnamed_refs c.args.members.now c.args.with_words c.args.at c.index-members-at.result c.requires.within c.index-members-at.is
      (sym (c.all_below.ensures ∙ ap (λ (ns : List ℕ). are_below (length c.args.members.now) ns) c.as_slice.ensures) ∙ w.if-not-all_below.true)
  | then-not-all_below-via-else-not-all_below+then-not-all_below-2 w ↦ misnamed_words c.args.members.now c.args.with_words c.args.at c.index-members-at.result c.requires.within c.index-members-at.is
      (sym (w.all_below-else-not-all_below.ensures ∙ ap (λ (ns : List ℕ). are_below (length c.args.members.now) ns) w.as_slice-else-not-all_below.ensures) ∙ w.if-not-all_below-2.true)
]

pub returns-then-degree-told-clause-fault : goal.returns-then-degree-told-clause-fault
returns-then-degree-told-clause-fault c =
    let refs = sym (c.all_below.ensures ∙ ap (λ (ns : List ℕ). are_below (length c.args.members.now) ns) c.as_slice.ensures) ∙ c.if-not-all_below.false in
    let words = sym (c.all_below-else-not-all_below.ensures ∙ ap (λ (ns : List ℕ). are_below (length c.args.members.now) ns) c.as_slice-else-not-all_below.ensures) ∙ c.if-not-all_below-2.false in
    let told = count_read (length c.args.members.now) (references_of c.args.members.now) c.args.counts.now.told.items c.args.at c.index-told.result.now
    c.requires.counts.told c.requires.within c.index-told.ensures in
    let named = named_of c.args.members.now c.args.with_words c.args.at c.index-members-at.result c.requires.within c.index-members-at.is refs words in
    low_fault c.args.members.now c.args.with_words c.args.at c.index-members-at.result c.requires.within c.index-members-at.is c.index-told.result.now told named c.if-degree-told.true

pub returns-then-degree-told-2-clause-fault : goal.returns-then-degree-told-2-clause-fault
returns-then-degree-told-2-clause-fault c =
    let refs = sym (c.all_below.ensures ∙ ap (λ (ns : List ℕ). are_below (length c.args.members.now) ns) c.as_slice.ensures) ∙ c.if-not-all_below.false in
    let untold = sym (c.all_below-else-not-all_below.ensures ∙ ap (λ (ns : List ℕ). are_below (length c.args.members.now) ns) c.as_slice-else-not-all_below.ensures) ∙ c.if-not-all_below-2.false in
    let told = count_read (length c.args.members.now) (references_of c.args.members.now) c.args.counts.now.told.items c.args.at c.index-told.result.now
    c.requires.counts.told c.requires.within c.index-told.ensures in
    let words = count_read (length c.args.members.now) (all_words_of c.args.members.now) c.args.counts.now.words.items c.args.at c.index.result.now
    c.requires.counts.words c.requires.within c.index.ensures in
    let named = named_of c.args.members.now c.args.with_words c.args.at c.index-members-at.result c.requires.within c.index-members-at.is refs untold in
    low_words c.args.members.now c.args.with_words c.args.at c.index-members-at.result c.requires.within c.index-members-at.is c.index-told.result.now told
    named c.index.result.now words c.if-degree-told.false c.if-with_words.true c.if-degree-told-2.true

pub returns-clause-right : goal.returns-clause-right
returns-clause-right c =
    let refs = sym (c.all_below.ensures ∙ ap (λ (ns : List ℕ). are_below (length c.args.members.now) ns) c.as_slice.ensures) ∙ c.if-not-all_below.false in
    let untold = sym (c.all_below-else-not-all_below.ensures ∙ ap (λ (ns : List ℕ). are_below (length c.args.members.now) ns) c.as_slice-else-not-all_below.ensures) ∙ c.if-not-all_below-2.false in
    let told = count_read (length c.args.members.now) (references_of c.args.members.now) c.args.counts.now.told.items c.args.at c.index-told.result.now
    c.requires.counts.told c.requires.within c.index-told.ensures in
    let named = named_of c.args.members.now c.args.with_words c.args.at c.index-members-at.result c.requires.within c.index-members-at.is refs untold in
    elim c.else-with_words.branch [
      | else-with_words-via-then-with_words+else-degree-told-2 w ↦
          let words = count_read (length c.args.members.now) (all_words_of c.args.members.now) c.args.counts.now.words.items c.args.at w.index.result.now
          c.requires.counts.words c.requires.within w.index.ensures in
          is_right c.args.members.now c.args.with_words c.args.at c.index-members-at.result c.requires.within c.index-members-at.is c.index-told.result.now told
          named w.index.result.now words c.if-degree-told.false w.if-degree-told-2.false
      | else-with_words-via-else-with_words w ↦ is_right_alone c.args.members.now c.args.with_words c.args.at c.index-members-at.result c.requires.within
          c.index-members-at.is c.index-told.result.now told named c.if-degree-told.false w.if-with_words.false
    ]
