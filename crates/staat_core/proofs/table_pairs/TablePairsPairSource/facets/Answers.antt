use Rattle.staat_core.proofs.Listing.{low_facets, some_facets}
use Rattle.staat_core.proofs.table_pairs.TablePairsPairSource.facets.Goals as goal

pub returns-clause-each : goal.returns-clause-each
returns-clause-each c = some_facets c.args.self.now.table.now.planes c.kept_facets.result.now c.kept_facets.ensures.rules

pub returns-clause-low : goal.returns-clause-low
returns-clause-low c low = low_facets c.args.self.now.table.now.planes c.kept_facets.result.now c.kept_facets.ensures.rules (c.args.self.now.lowness low)
