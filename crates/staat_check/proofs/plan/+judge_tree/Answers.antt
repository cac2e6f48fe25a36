use Rattle.std.proofs.Common.{◌∷◌, ◌∙◌, ap, sym, arith, length}
use Rattle.std.specs.Option.{option_or}
use Rattle.staat_model.specs.declared.certificate.Node.TheVariants.{Leaf, Split}
use Rattle.staat_check.proofs.TreeLemmas.{first_fits, leaf_judged, moved_begins, parts_of_sides, rest_begins, some_nodes, split_judged}
use Rattle.staat_check.proofs.plan.+judge_tree.Goals as goal

pub first_of-requires : goal.first_of-requires
first_of-requires t c = some_nodes c.args.assembly.now c.args.nodes.now c.args.number c.args.line c.requires

pub single-requires : goal.single-requires
single-requires t c = (first_fits c.args.assembly.now c.args.number c.args.line _ _ (Leaf c.in-Leaf.p) (c.first_of.ensures ∙ ap (λ n. n ∷ c.first_of.result.1.now) c.in-Leaf.is) c.requires).2

pub overflow_add-result : goal.overflow_add-result
overflow_add-result t c = omega (arith, (first_fits c.args.assembly.now c.args.number c.args.line _ _ _ c.first_of.ensures c.requires).0)

pub overflow_add-result-in-Leaf : goal.overflow_add-result-in-Leaf
overflow_add-result-in-Leaf t c = omega (arith, (first_fits c.args.assembly.now c.args.number c.args.line _ _ (Leaf c.in-Leaf.p) (c.first_of.ensures ∙ ap (λ n. n ∷ c.first_of.result.1.now) c.in-Leaf.is) c.requires).1)

pub returns-in-Leaf : goal.returns-in-Leaf
returns-in-Leaf t c = leaf_judged c.args.assembly.now c.args.number c.args.line c.args.nodes.now c.first_of.result.1.now c.in-Leaf.p _ (c.first_of.ensures ∙ ap (λ n. n ∷ c.first_of.result.1.now) c.in-Leaf.is) c.single.ensures.is

pub overflow_add-number : goal.overflow_add-number
overflow_add-number t c = omega (arith, (first_fits c.args.assembly.now c.args.number c.args.line _ _ _ c.first_of.ensures c.requires).0)

pub overflow_add-line : goal.overflow_add-line
overflow_add-line t c = omega (arith, (first_fits c.args.assembly.now c.args.number c.args.line _ _ (Split c.in-Split.d c.in-Split.seps) (c.first_of.ensures ∙ ap (λ n. n ∷ c.first_of.result.1.now) c.in-Split.is) c.requires).1)

pub overflow_cast-seps : goal.overflow_cast-seps
overflow_cast-seps t c = omega (arith, (first_fits c.args.assembly.now c.args.number c.args.line _ _ (Split c.in-Split.d c.in-Split.seps) (c.first_of.ensures ∙ ap (λ n. n ∷ c.first_of.result.1.now) c.in-Split.is) c.requires).1, ap length c.as_slice-seps.ensures)

pub overflow_add-line-in-Split : goal.overflow_add-line-in-Split
overflow_add-line-in-Split t c = omega (arith, (first_fits c.args.assembly.now c.args.number c.args.line _ _ (Split c.in-Split.d c.in-Split.seps) (c.first_of.ensures ∙ ap (λ n. n ∷ c.first_of.result.1.now) c.in-Split.is) c.requires).1, ap length c.as_slice-seps.ensures)

pub judge_tree-moved-requires : goal.judge_tree-moved-requires
judge_tree-moved-requires t c = (omega (arith, ap length c.first_of.ensures, c.decreases), moved_begins c.args.assembly.now c.args.number c.args.line c.in-Split.d c.as_slice-seps.result.now c.args.nodes.now c.first_of.result.1.now (c.first_of.ensures ∙ ap (λ n. n ∷ c.first_of.result.1.now) (c.in-Split.is ∙ ap (Split c.in-Split.d) (sym c.as_slice-seps.ensures))) c.requires)

pub judge_tree-rest-requires : goal.judge_tree-rest-requires
judge_tree-rest-requires t c =
    let rest = rest_begins c.args.assembly.now c.args.number c.args.line c.in-Split.d c.as_slice-seps.result.now c.args.nodes.now c.first_of.result.1.now (c.first_of.ensures ∙ ap (λ n. n ∷ c.first_of.result.1.now) (c.in-Split.is ∙ ap (Split c.in-Split.d) (sym c.as_slice-seps.ensures)))
    c.judge_tree-moved.result.leaves c.judge_tree-moved.result.behind.now c.judge_tree-moved.result.number c.judge_tree-moved.result.line c.judge_tree-moved.result.reason c.judge_tree-moved.ensures c.requires in
    (omega (arith, rest.1, c.decreases), rest.0)

pub reason-reason-requires : goal.reason-reason-requires
reason-reason-requires t c =
    let sides = parts_of_sides c.args.assembly.now c.args.number c.args.line c.in-Split.d c.as_slice-seps.result.now c.args.nodes.now c.first_of.result.1.now (c.first_of.ensures ∙ ap (λ n. n ∷ c.first_of.result.1.now) (c.in-Split.is ∙ ap (Split c.in-Split.d) (sym c.as_slice-seps.ensures)))
    c.judge_tree-moved.result.leaves c.judge_tree-moved.result.behind.now c.judge_tree-moved.result.number c.judge_tree-moved.result.line c.judge_tree-moved.result.reason c.judge_tree-moved.ensures c.judge_tree-rest.result.leaves c.judge_tree-rest.result.number c.judge_tree-rest.result.line c.judge_tree-rest.result.reason (λ t more e. (c.judge_tree-rest.ensures t more e).1) c.requires in
    let (next, few, node) = first_fits c.args.assembly.now c.args.number c.args.line _ _ (Split c.in-Split.d c.as_slice-seps.result.now) (c.first_of.ensures ∙ ap (λ n. n ∷ c.first_of.result.1.now) (c.in-Split.is ∙ ap (Split c.in-Split.d) (sym c.as_slice-seps.ensures))) c.requires in
    record { sides = record { moved_in = sides.0; rest_in = sides.1; direction = node.0 }; seps = node.1; ascending = node.2; few = omega (arith, few) }

pub returns-in-Split : goal.returns-in-Split
returns-in-Split t c = split_judged c.args.assembly.now c.args.number c.args.line c.in-Split.d c.as_slice-seps.result.now c.args.nodes.now c.first_of.result.1.now (c.first_of.ensures ∙ ap (λ n. n ∷ c.first_of.result.1.now) (c.in-Split.is ∙ ap (Split c.in-Split.d) (sym c.as_slice-seps.ensures)))
    c.judge_tree-moved.result.leaves c.judge_tree-moved.result.behind.now c.judge_tree-moved.result.number c.judge_tree-moved.result.line c.judge_tree-moved.result.reason c.judge_tree-moved.ensures
    c.judge_tree-rest.result.leaves c.union.result c.judge_tree-rest.result.behind.now c.judge_tree-rest.result.number c.judge_tree-rest.result.line c.reason-reason.result c.judge_tree-rest.result.reason c.or-in-Split.result c.judge_tree-rest.ensures
    c.reason-reason.ensures c.union.ensures.is (c.or-in-Split.ensures ∙ ap (λ o. option_or o c.judge_tree-rest.result.reason) c.or.ensures)
