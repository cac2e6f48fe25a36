use Rattle.std.proofs.Common.{◌≢◌, sym}
use Rattle.staat_vec.specs.Vectors.{origin}
use Rattle.staat_pairs.specs.Tables.{WasMadeFrom}
use Rattle.staat_core.specs.Listed.{pairs_in_use}
use Rattle.staat_core.proofs.TableHolding.{all_hold, core_of}
use Rattle.staat_core.proofs.table_core.TableCore.holds_on.Goals as goal

pub holds_on-requires-clause-core : goal.holds_on-requires-clause-core
holds_on-requires-clause-core c = core_of (pairs_in_use c.args.self.now.list) c.pairs.result.now (λ parts. WasMadeFrom parts c.args.table.now) c.args.self.now.core (sym c.pairs.ensures) c.requires.core.core

pub returns-clause-core : goal.returns-clause-core
returns-clause-core c = record {
  room = c.requires.core.room;
  pairs = c.requires.core.pairs;
  core = core_of c.pairs.result.now (pairs_in_use c.args.self.now.list) (λ parts. WasMadeFrom parts c.args.table.now) c.holds_on.new.self c.pairs.ensures c.holds_on.ensures.core;
  low = c.requires.core.low;
}

pub returns-clause-held : goal.returns-clause-held
returns-clause-held c told parts d made on some =
    let some_g : c.args.g ≢ origin = λ e. (let same = c.is_same.ensures.1 e in let not = c.if-is_same.false in cc) in
    all_hold parts (pairs_in_use c.args.self.now.list) (λ ps. WasMadeFrom ps c.args.table.now) c.holds_on.new.self c.args.self.now.moving c.args.w d (returns-clause-core c).core (c.holds_on.ensures.held told parts d made some_g on some)
