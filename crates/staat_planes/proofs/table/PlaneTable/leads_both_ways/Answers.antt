use Rattle.std.proofs.Common.{◌≡◌, ◌↔◌, sym, subst, pos, ◌<ℤ◌, All}
use Rattle.std.specs.Prelude.{IsTrue}
use Rattle.staat_vec.specs.Vectors.{dot}
use Rattle.staat_pairs.specs.Tables.{back, facets_of, reversed_facets}
use Rattle.staat_pairs.proofs.TableLemmas.{facets_back}
use Rattle.staat_planes.proofs.BothWays.{behind_reversed}
use Rattle.staat_planes.proofs.table.PlaneTable.leads_both_ways.Goals as goal

pub returns-clause-ahead : goal.returns-clause-ahead
returns-clause-ahead c = subst (λ l. IsTrue c.past.result.ahead ↔ All (λ n. pos 0 <ℤ dot n c.args.heading.now.d) l) c.kept_facets.ensures.is c.past.ensures.ahead

pub returns-clause-behind : goal.returns-clause-behind
returns-clause-behind c =
    let facets = facets_of c.args.self.now c.args.arc in
    let other : facets_of c.args.self.now (back c.args.arc) ≡ reversed_facets facets = facets_back c.args.self.now (back c.args.arc) c.requires.order in
    let told : IsTrue c.past.result.behind ↔ All (λ n. dot n c.args.heading.now.d <ℤ pos 0) facets = subst (λ l. IsTrue c.past.result.behind ↔ All (λ n. dot n c.args.heading.now.d <ℤ pos 0) l) c.kept_facets.ensures.is c.past.ensures.behind in
    let law = behind_reversed facets c.args.heading.now.d in
    subst (λ l. IsTrue c.past.result.behind ↔ All (λ n. pos 0 <ℤ dot n c.args.heading.now.d) l) (sym other) (λ t. law.0 (told.0 t), λ all. told.1 (law.1 all))
