use Rattle.std.proofs.Common.{◌∙◌, refl, subst, sym}
use Rattle.std.proofs.lemmas.Bool.{false≢true}
use Rattle.staat_vec.specs.declared.vector.V3.{V3}
use Rattle.staat_model.specs.Sets.{Has}
use Rattle.staat_graph.proofs.Finite.{len_fewer}
use Rattle.staat_planes.specs.Tables.{GainsArcs, IsAhead}
use Rattle.staat_planes.proofs.GraphLaw.{arcs_in_are_blocking, shows_in}
use Rattle.staat_planes.proofs.GraphSteps.{all_left, none_left, row_gained, taken}
use Rattle.staat_planes.proofs.table.PlaneTable.graph_in.Goals as goal

pub loop-heading-init : goal.loop-heading-init
loop-heading-init c = record { within = λ q h. h; rows = all_left c.args.self.now c.args.w c.args.d }

pub loop-heading-smaller : goal.loop-heading-smaller
loop-heading-smaller c =
    let rest = taken c.loop-heading.left c.without-left.result c.single.result c.least-a.result c.single.ensures.members c.without-left.ensures.members in
    len_fewer c.without-left.result c.loop-heading.left c.least-a.result (λ q h. ((rest q).0 h).0) c.least-a.ensures.least.has (λ h. ((rest c.least-a.result).0 h).1 refl)

pub loop-heading-preserved : goal.loop-heading-preserved
loop-heading-preserved c =
    let left = c.loop-heading.left in
    let a = c.least-a.result in
    let rest = taken left c.without-left.result c.single.result a c.single.ensures.members c.without-left.ensures.members in
    let within = c.loop-heading.invariant.within in
    record {
      within = λ q h. within q ((rest q).0 h).0;
      rows = row_gained c.args.self.now c.args.w left c.without-left.result c.args.d c.loop-heading.rows c.put_pairs.new.rows a within c.least-a.ensures.least.has rest c.loop-heading.invariant.rows
          (subst (λ (e : V3). GainsArcs (IsAhead c.args.self.now e) c.least-a.result (Has c.without-left.result) c.loop-heading.rows c.put_pairs.new.rows) c.of-heading.ensures.is c.put_pairs.ensures);
    }

pub returns-clause-table : goal.returns-clause-table
returns-clause-table c = none_left c.args.self.now c.args.w c.loop-heading.left c.args.d c.loop-heading.rows (λ q h. false≢true (sym c.loop-heading-test.false ∙ c.meets.ensures.1 (q, h, h))) c.loop-heading.invariant.rows

pub returns-clause-arcs : goal.returns-clause-arcs
returns-clause-arcs c parts made = arcs_in_are_blocking parts c.args.self.now c.args.w c.args.d c.loop-heading.rows made c.requires.set (returns-clause-table c)

pub returns-clause-shows : goal.returns-clause-shows
returns-clause-shows c parts made = shows_in parts c.args.w c.args.d c.loop-heading.rows (returns-clause-arcs c parts made)
