use Rattle.std.proofs.Common.{◌≡◌, ℕ, ◌+◌, List, arith, ap, refl, sym, ◌∙◌, subst, map, take, true≢false}
use Rattle.std.specs.FinSet as set
use Rattle.staat_model.specs.declared.set.PartSet.{PartSet}
use Rattle.staat_model.specs.Bridges.{IsTree, Back, swapped}
use Rattle.staat_model.specs.Sets.{IsSubset, single}
use Rattle.staat_model.proofs.SetWords.{same_members}
use Rattle.staat_graph.specs.Graphs.{AreReversed, HasArc, IsStrong}
use Rattle.staat_graph.specs.Growing.{Grows, HasNoBridge}
use Rattle.staat_graph.specs.declared.graph.Graph.{Graph}
use Rattle.staat_graph.proofs.TreeLemmas.{all_of_strong, grows_carried, no_bridge_carried, strong_by_trees, take-swapped, swapped_twice, tree_from_root, tree_walks}
use Rattle.staat_graph.proofs.Walking.{turned}
use Rattle.staat_graph.proofs.trees.trees_of.Goals as goal

-- the tree that was grown in the reversed graph
back_grows : (rows back : List ℕ) (w s b : PartSet) (arcs : List (ℕ × ℕ)) → AreReversed rows back → Grows (HasArc back) w s arcs b → Grows (Back (HasArc rows)) w s arcs b
back_grows rows back w s b arcs rev g = grows_carried (HasArc back) (Back (HasArc rows)) (λ x y. (rev x y).0) (λ x y. (rev x y).1) w s b arcs g

back_none : (rows back : List ℕ) (w b : PartSet) → AreReversed rows back → HasNoBridge (HasArc back) w b → HasNoBridge (Back (HasArc rows)) w b
back_none rows back w b rev none = no_bridge_carried (HasArc back) (Back (HasArc rows)) (λ x y. (rev x y).0) (λ x y. (rev x y).1) w b none

strong_back : (R : ℕ → ℕ → Type 0) (w : PartSet) → IsStrong R w → IsStrong (Back R) w
strong_back R w strong a b ha hb = turned (strong b a hb ha)

-- the graph that is turned is the reversed one
is_reversed : (g ahead back there : Graph) → AreReversed ahead.rows back.rows → ahead ≡ g → there ≡ back → AreReversed g.rows there.rows
is_reversed g ahead back there rev e f = subst (λ h. AreReversed h.rows there.rows) e (subst (λ h. AreReversed ahead.rows h.rows) (sym f) rev)

grown_in : (g ahead : Graph) (w s b : PartSet) (arcs : List (ℕ × ℕ)) → ahead ≡ g → Grows (HasArc ahead.rows) w s arcs b → Grows (HasArc g.rows) w s arcs b
grown_in g ahead w s b arcs e grows = subst (λ h. Grows (HasArc h.rows) w s arcs b) e grows

none_in : (g ahead : Graph) (w b : PartSet) → ahead ≡ g → HasNoBridge (HasArc ahead.rows) w b → HasNoBridge (HasArc g.rows) w b
none_in g ahead w b e none = subst (λ h. HasNoBridge (HasArc h.rows) w b) e none

pub returns-then-not-within-clause-none : goal.returns-then-not-within-clause-none
returns-then-not-within-clause-none c strong =
    let R : ℕ → ℕ → Type 0 = HasArc c.args.g.now.rows in
    let arcs : List (ℕ × ℕ) = take c.grow-outs.result.count c.grow-outs.result.arcs in
    let grows = grown_in c.args.g.now c.new-g.result.ahead c.args.w (single c.least-root.result) c.grow-outs.result.reached arcs c.new-g.ensures c.grow-outs.ensures.grows in
    let whole = none_in c.args.g.now c.new-g.result.ahead c.args.w c.grow-outs.result.reached c.new-g.ensures c.grow-outs.ensures.whole in
    true≢false (sym (c.if-not-within.ensures.1 (all_of_strong R c.args.w c.least-root.result c.grow-outs.result.reached arcs c.least-root.ensures.least.has grows whole strong)))

pub returns-then-not-within-2-clause-none : goal.returns-then-not-within-2-clause-none
returns-then-not-within-2-clause-none c strong =
    let R : ℕ → ℕ → Type 0 = Back (HasArc c.args.g.now.rows) in
    let arcs : List (ℕ × ℕ) = take c.grow-ins.result.count c.grow-ins.result.arcs in
    let rev = is_reversed c.args.g.now c.new-g.result.ahead c.new-g.result.back c.turned.result.ahead c.new-g.result.reversed c.new-g.ensures c.turned.ensures.ahead in
    let grows = back_grows c.args.g.now.rows c.turned.result.ahead.rows c.args.w (single c.least-root.result) c.grow-ins.result.reached arcs rev c.grow-ins.ensures.grows in
    let whole = back_none c.args.g.now.rows c.turned.result.ahead.rows c.args.w c.grow-ins.result.reached rev c.grow-ins.ensures.whole in
    true≢false (sym (c.if-not-within-2.ensures.1 (all_of_strong R c.args.w c.least-root.result c.grow-ins.result.reached arcs c.least-root.ensures.least.has grows whole (strong_back (HasArc c.args.g.now.rows) c.args.w strong))))

pub returns-clause-trees : goal.returns-clause-trees
returns-clause-trees c =
    let R : ℕ → ℕ → Type 0 = HasArc c.args.g.now.rows in
    let w : PartSet = c.args.w in
    let root : ℕ = c.least-root.result in
    let outs : List (ℕ × ℕ) = take c.grow-outs.result.count c.grow-outs.result.arcs in
    let ins : List (ℕ × ℕ) = take c.grow-ins.result.count c.grow-ins.result.arcs in
    let rev = is_reversed c.args.g.now c.new-g.result.ahead c.new-g.result.back c.turned.result.ahead c.new-g.result.reversed c.new-g.ensures c.turned.ensures.ahead in
    let grows_out : Grows R w (single root) outs c.grow-outs.result.reached = grown_in c.args.g.now c.new-g.result.ahead w (single root) c.grow-outs.result.reached outs c.new-g.ensures c.grow-outs.ensures.grows in
    let grows_in : Grows (Back R) w (single root) ins c.grow-ins.result.reached = back_grows c.args.g.now.rows c.turned.result.ahead.rows w (single root) c.grow-ins.result.reached ins rev c.grow-ins.ensures.grows in
    let out_all : IsSubset w c.grow-outs.result.reached = c.if-not-within.ensures.0 refl in
    let in_all : IsSubset w c.grow-ins.result.reached = c.if-not-within-2.ensures.0 refl in
    let out_is : c.grow-outs.result.reached ≡ w = same_members c.grow-outs.result.reached w c.grow-outs.ensures.within out_all in
    let in_is : c.grow-ins.result.reached ≡ w = same_members c.grow-ins.result.reached w c.grow-ins.ensures.within in_all in
    let own = c.least-root.ensures.least in
    let out_size : c.grow-outs.result.count + 1 ≡ set.len w = sym c.grow-outs.ensures.size ∙ ap set.len out_is in
    let in_size : c.grow-ins.result.count + 1 ≡ set.len w = sym c.grow-ins.ensures.size ∙ ap set.len in_is in
    let count : c.grow-ins.result.count ≡ c.grow-outs.result.count = omega (arith, out_size, in_size) in
    let back : map swapped (take c.grow-outs.result.count c.exchange_ends.new.arcs) ≡ ins =
    ap (λ arcs. map swapped (take c.grow-outs.result.count arcs)) c.exchange_ends.ensures
    ∙ ap (map swapped) (take-swapped c.grow-outs.result.count c.grow-ins.result.arcs)
    ∙ swapped_twice (take c.grow-outs.result.count c.grow-ins.result.arcs)
    ∙ ap (λ n. take n c.grow-ins.result.arcs) (sym count) in
    record {
      strong = strong_by_trees R w root (λ q h. tree_walks R w root c.grow-outs.result.reached outs own.has grows_out q (out_all q h)) (λ q h. tree_walks (Back R) w root c.grow-ins.result.reached ins own.has grows_in q (in_all q h));
      count = out_size;
      outs = λ least is. tree_from_root R w root least c.grow-outs.result.reached outs grows_out out_is own is;
      ins = λ least is. subst (IsTree (Back R) w (single least)) (sym back) (tree_from_root (Back R) w root least c.grow-ins.result.reached ins grows_in in_is own is);
    }
