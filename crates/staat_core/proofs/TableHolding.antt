-- What a core of some pairs of a table says of all of them.
use Rattle.std.proofs.Common.{◌≡◌, ◌≢◌, subst, List}
use Rattle.staat_vec.specs.declared.vector.V3.{V3}
use Rattle.staat_vec.specs.Vectors.{origin}
use Rattle.staat_model.specs.declared.assembly.Part.{Part}
use Rattle.staat_model.specs.declared.certificate.Arc.{Arc}
use Rattle.staat_model.specs.declared.set.PartSet.{PartSet}
use Rattle.staat_core.specs.declared.cores.Core.{Core}
use Rattle.staat_core.specs.declared.joins.Moving.{Moving}
use Rattle.staat_core.specs.declared.listed.PairList.{PairList}
use Rattle.staat_core.specs.declared.table_core.TableCore.{TableCore}
use Rattle.staat_core.specs.Cores.{IsCore, core_pairs}
use Rattle.staat_core.specs.Listed.{pairs_in_use}
use Rattle.staat_core.specs.Moves.{HoldsMoves}
use Rattle.staat_core.specs.Sources.{both_ways}
use Rattle.staat_core.specs.TableCores.{CoreHolds}
use Rattle.staat_core.proofs.Leading.{ways_among}

-- the core is one for equal lists
pub core_of : (xs ys : List Arc) (speaks : List Part → Type 0) (k : Core) → xs ≡ ys → IsCore xs speaks k → IsCore ys speaks k
core_of xs ys speaks k e is = subst (λ l. IsCore l speaks k) e is

-- what some of the pairs hold, all of them hold
pub all_hold : (parts : List Part) (pairs : List Arc) (speaks : List Part → Type 0) (k : Core) (moving : Moving) (w : PartSet) (d : V3) → IsCore pairs speaks k → HoldsMoves parts (both_ways (core_pairs k)) moving w d → HoldsMoves parts (both_ways pairs) moving w d
all_hold parts pairs speaks k moving w d is held s moves free = held s moves (λ arc listed a_in b_in m. free arc (ways_among (core_pairs k) pairs arc is.among listed) a_in b_in m)

-- what a core holds, its pairs hold
pub core_holds : (parts : List Part) (k : TableCore) (moving : Moving) (w : PartSet) (d : V3) → k.moving ≡ moving → d ≢ origin → CoreHolds parts k w d
    → HoldsMoves parts (both_ways (pairs_in_use k.list)) moving w d
core_holds parts k moving w d is some holds = subst (λ (m : Moving). HoldsMoves parts (both_ways (pairs_in_use k.list)) m w d) is (holds some)

-- of two cores with the same pairs to grow by, for the same that may move, the one holds what the other does
pub alike_hold : (parts : List Part) (j k : TableCore) (w : PartSet) (d : V3) → j.list ≡ k.list → j.moving ≡ k.moving → CoreHolds parts j w d → CoreHolds parts k w d
alike_hold parts j k w d list moving holds some = subst (λ (l : PairList). HoldsMoves parts (both_ways (pairs_in_use l)) k.moving w d) list (core_holds parts j k.moving w d moving some holds)
