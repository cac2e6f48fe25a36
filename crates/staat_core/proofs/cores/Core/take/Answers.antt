use Rattle.staat_core.proofs.Growing.{core_taken}
use Rattle.staat_core.proofs.cores.Core.take.Goals as goal

pub returns : goal.returns
returns g c =
    let e = c.add.ensures in
    record {
      core = core_taken (g.S.PairSource.pairs c.args.source.now) (g.S.PairSource.speaks c.args.source.now) c.args.self.now c.add.new.self c.args.pair c.facets.result.now c.requires.core c.requires.pair e.room e.planes c.facets.ensures.all e.each;
      grows = record { pairs = e.pairs; planes = e.planes };
      listed = e.pushed;
    }
