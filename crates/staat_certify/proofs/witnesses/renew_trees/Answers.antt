use Rattle.staat_certify.specs.Visits.{KeepsTrees}
use Rattle.staat_certify.proofs.witnesses.renew_trees.Goals as goal
use Rattle.std.proofs.Common.{List, ℕ, subst, sym}
use Rattle.staat_model.specs.declared.set.PartSet.{PartSet}
use Rattle.staat_model.specs.Sets.{IsLeastOf}
use Rattle.staat_graph.specs.Blocking.{ShowsBlocking}
use Rattle.staat_graph.specs.Graphs.{AreTrees, HasArc, IsStrong}
use Rattle.staat_certify.proofs.WitnessLemmas.{stuck_is_strong, trees_along}
use Rattle.std.proofs.lemmas.Slice.Eq.{bytes_eq-Decides}

pub returns-then-eq-clause-along : goal.returns-then-eq-clause-along
returns-then-eq-clause-along c =
    let parts = c.args.at.now.sound.now in
    let t = c.args.at.now.table.now in
    let d = c.args.at.now.d in
    let known = c.in-Some.known in
    let same = (bytes_eq-Decides known.graph.rows c.graph-graph.result.rows).0 (sym c.if-eq.ensures) in
    trees_along parts t d known.trees c.least-root.result known.graph.rows c.requires.at.from c.set-w.ensures.rules (subst (λ (s : PartSet). IsLeastOf s c.least-root.result) c.set-w.ensures.is c.least-root.ensures.least)
    (subst (λ (rows : List ℕ). ShowsBlocking parts d t.of rows) (sym same) c.graph-graph.ensures) (subst (KeepsTrees t.of) c.in-Some.is c.requires.kept)

pub unreachable-requires : goal.unreachable-requires
unreachable-requires c =
    let rows = c.graph-graph.result.rows in
    stuck_is_strong c.args.at.now.sound.now c.args.at.now.table.now.of c.args.at.now.d rows c.requires.some c.graph-graph.ensures c.requires.stuck
    (λ strong. c.in-None.ensures.none (subst (λ (s : PartSet). IsStrong (HasArc rows) s) (sym c.set-w.ensures.is) strong))

pub returns-clause-along : goal.returns-clause-along
returns-clause-along c =
    trees_along c.args.at.now.sound.now c.args.at.now.table.now c.args.at.now.d c.in-Some-trees_of.trees c.least-root.result c.graph-graph.result.rows c.requires.at.from c.set-w.ensures.rules
    (subst (λ (s : PartSet). IsLeastOf s c.least-root.result) c.set-w.ensures.is c.least-root.ensures.least) c.graph-graph.ensures
    (subst (λ (s : PartSet). AreTrees (HasArc c.graph-graph.result.rows) s c.in-Some-trees_of.trees) c.set-w.ensures.is c.in-Some-trees_of.ensures.trees)
