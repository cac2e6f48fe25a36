use Rattle.std.proofs.Common.{◌≡◌, sym, subst, ap, ◌∙◌, ℕ, refl, List, [], ◌∷◌, ◌++◌, append_assoc}
use Rattle.std.specs.Prelude.{OnOk}
use Rattle.std.proofs.lemmas.Result.{on_ok_weaker}
use Rattle.staat_model.specs.declared.tree.Tree.{Tree}
use Rattle.staat_model.specs.Plans.{plan_of, parts_of, Plan, leaf, split}
use Rattle.staat_certify.specs.Plans.{AddsNodes}
use Rattle.staat_certify.proofs.nodes.+push_nodes.Goals as goal
use Rattle.staat_vec.specs.declared.vector.V3.{V3}
use Rattle.staat_model.specs.declared.assembly.Part.{Part}
use Rattle.staat_model.specs.declared.certificate.Node.{Node}
use Rattle.staat_model.specs.declared.certificate.Node.TheVariants.{Leaf, Split}
use Rattle.staat_model.specs.declared.certificate.Sep.{Sep}
use Rattle.staat_model.specs.declared.set.PartSet.{PartSet}
use Rattle.staat_model.specs.Certificates.{walled_leaf, walled_parts, walled_split}
use Rattle.staat_model.specs.Certify.{AreLeastWalls}

leaf_nodes : (parts : List Part) (p : ℕ) (old new : List Node) → new ≡ old ++ Leaf p ∷ [] → AddsNodes parts (leaf p) old new
leaf_nodes parts p old new e = record { nodes = Leaf p ∷ []; is = e; are = record { tree = walled_leaf p; nodes_are = refl; plan_is = refl; walls = tt } }

split_nodes : (parts : List Part) (d : V3) (seps : List Sep) (moved rest : Plan) (s r : PartSet) (old one two new : List Node) → s ≡ parts_of moved → r ≡ parts_of rest → AreLeastWalls parts s r d seps → one ≡ old ++ Split d seps ∷ [] → AddsNodes parts moved one two → AddsNodes parts rest two new → AddsNodes parts (split d moved rest) old new
split_nodes parts d seps moved rest s r old one two new es er walls e a b =
    let m = a.are in
    let t = b.are in
    let placed : AreLeastWalls parts (parts_of moved) (parts_of rest) d seps = subst (λ (u : PartSet). AreLeastWalls parts u (parts_of rest) d seps) es (subst (λ (u : PartSet). AreLeastWalls parts s u d seps) er walls) in
    record {
      nodes = Split d seps ∷ (a.nodes ++ b.nodes);
      is = b.is ∙ ap (λ l. l ++ b.nodes) (a.is ∙ ap (λ l. l ++ a.nodes) e) ∙ append_assoc (old ++ Split d seps ∷ []) a.nodes b.nodes ∙ append_assoc old (Split d seps ∷ []) (a.nodes ++ b.nodes);
      are = record {
        tree = walled_split d seps m.tree t.tree;
        nodes_are = λ i. Split d seps ∷ (m.nodes_are i ++ t.nodes_are i);
        plan_is = λ i. split d (m.plan_is i) (t.plan_is i);
        walls = (subst (λ (p : Plan). AreLeastWalls parts (parts_of p) (walled_parts t.tree) d seps) (sym m.plan_is) (subst (λ (p : Plan). AreLeastWalls parts (parts_of moved) (parts_of p) d seps) (sym t.plan_is) placed), m.walls, t.walls);
      };
    }

pub returns-in_ok-push-in-Leaf : goal.returns-in_ok-push-in-Leaf
returns-in_ok-push-in-Leaf g t c = subst (λ tree. AddsNodes c.args.assembly.now (plan_of tree) c.args.nodes.now.items c.push.new.self.items) (sym c.in-Leaf.is) (leaf_nodes c.args.assembly.now c.in-Leaf.p c.args.nodes.now.items c.push.new.self.items c.in_ok-push-in-Leaf.ensures.items)

pub returns-in_ok-push_nodes-in-Split : goal.returns-in_ok-push_nodes-in-Split
returns-in_ok-push_nodes-in-Split g t c =
    let parts = c.args.assembly.now in
    let old = c.args.nodes.now.items in
    let new = c.push_nodes-in-Split.new.nodes.items in
    let walls = c.in_ok-push_split-in-Split.ensures in
    let moved : c.deref.result.now ≡ c.in-Split.moved.value = c.deref.ensures in
    let rest : c.deref-in-Split.result.now ≡ c.in-Split.rest.value = c.deref-in-Split.ensures in
    let moved_again : c.deref-in-Split-2.result.now ≡ c.in-Split.moved.value = c.deref-in-Split-2.ensures in
    let rest_again : c.deref-in-Split-3.result.now ≡ c.in-Split.rest.value = c.deref-in-Split-3.ensures in
    subst (λ (tree : Tree). OnOk c.push_nodes-in-Split.result (AddsNodes parts (plan_of tree) old new)) (sym c.in-Split.is)
    (on_ok_weaker c.push_nodes-in-Split.result
    (split_nodes parts c.in-Split.d walls.seps (plan_of c.in-Split.moved.value) (plan_of c.in-Split.rest.value) c.leaves_of.result c.leaves_of-in-Split.result
    old c.push_split.new.nodes.items c.push_nodes.new.nodes.items new
    (c.leaves_of.ensures ∙ ap (λ (tree : Tree). parts_of (plan_of tree)) moved)
    (c.leaves_of-in-Split.ensures ∙ ap (λ (tree : Tree). parts_of (plan_of tree)) rest)
    walls.walls walls.is
    (subst (λ (tree : Tree). AddsNodes parts (plan_of tree) c.push_split.new.nodes.items c.push_nodes.new.nodes.items) moved_again c.in_ok-push_nodes-in-Split.ensures))
    (subst (λ (tree : Tree). OnOk c.push_nodes-in-Split.result (AddsNodes parts (plan_of tree) c.push_nodes.new.nodes.items new)) rest_again c.push_nodes-in-Split.ensures))
