use Rattle.std.proofs.Common.{sym}
use Rattle.staat_pairs.specs.Tables.{WasMadeFrom}
use Rattle.staat_core.specs.Listed.{pairs_in_use}
use Rattle.staat_core.proofs.TableHolding.{all_hold, core_of}
use Rattle.staat_core.proofs.table_core.TableCore.holds.Goals as goal

pub holds-requires-clause-core : goal.holds-requires-clause-core
holds-requires-clause-core c = core_of (pairs_in_use c.args.self.now.list) c.pairs.result.now (λ parts. WasMadeFrom parts c.args.table.now) c.args.self.now.core (sym c.pairs.ensures) c.requires.core.core

pub returns-clause-core : goal.returns-clause-core
returns-clause-core c = record {
  room = c.requires.core.room;
  pairs = c.requires.core.pairs;
  core = core_of c.pairs.result.now (pairs_in_use c.args.self.now.list) (λ parts. WasMadeFrom parts c.args.table.now) c.holds.new.self c.pairs.ensures c.holds.ensures.core;
  low = c.requires.core.low;
}

pub returns-clause-held : goal.returns-clause-held
returns-clause-held c told parts d made some =
    all_hold parts (pairs_in_use c.args.self.now.list) (λ ps. WasMadeFrom ps c.args.table.now) c.holds.new.self c.args.self.now.moving c.args.w d (returns-clause-core c).core (c.holds.ensures.held told parts d made some)

pub returns-then-is_bonded-clause-held : goal.returns-then-is_bonded-clause-held
returns-then-is_bonded-clause-held c told parts d made some = c.is_bonded.ensures c.if-is_bonded.true parts d made some
