use Rattle.std.proofs.Common.{subst, ℕ, Option, length, refl}
use Rattle.std.proofs.lemmas.Option.{slice_get_read}
use Rattle.cg_search.proofs.Trails.{HasGoneBack, back_more}
use Rattle.cg_search.proofs.way.path_back.Goals as goal

pub holders-preserved : goal.holders-preserved
holders-preserved c =
    let found = c.args.found.now.items in
    let gone = subst (λ (k : Option ℕ). HasGoneBack found c.args.last c.holders.path.items k) c.in-Some.is c.holders.invariant in
    back_more found c.requires.trails.0 c.requires.trails.1 c.args.last c.in-Some.at c.index.result.now.0 c.index.result.now.1 c.holders.path.items c.push.new.self.items gone
    (slice_get_read found (length found) c.in-Some.at c.index.result.now refl gone.within c.index.ensures) c.in_ok-push.ensures.items
