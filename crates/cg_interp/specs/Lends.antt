-- What a stack ends as, where its top is lent to be changed in its place. (Ours.)
use Rattle.std.specs.Borrow.{Lends, Fml, MutBor}
use Rattle.cg_death.specs.declared.death.Death.{Death}
use Rattle.cg_death.specs.contracts.death.Death as death
use Rattle.cg_collect.specs.declared.collection.Collection.{Collection}
use Rattle.cg_collect.specs.contracts.collection.Collection as collection
use Rattle.cg_interp.specs.Stacks.{Stacked, with_death, with_collection}
use Rattle.cg_interp.specs.contracts.stack.Stack.{the_row}

-- once the borrow ends, the death last written through it is on top
abbrev pub lends_death : MutBor Stacked → MutBor Death → Fml
lends_death s r = Lends the_row death.the_row s r (with_death s.now)

-- the same of a collection
abbrev pub lends_collection : MutBor Stacked → MutBor Collection → Fml
lends_collection s r = Lends the_row collection.the_row s r (with_collection s.now)
