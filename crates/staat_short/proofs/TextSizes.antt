-- How long the text of a plan for a product is at most.
use Rattle.std.proofs.Common.{◌≡◌, ◌∙◌, ◌+◌, ◌*◌, ◌≤◌, arith, refl, ap, List, [], ◌∷◌, length, length-append, All}
use Rattle.std.specs.Prelude.{flat_map}
use Rattle.std.proofs.lemmas.List.Concat.{flat_map-cons}
use Rattle.std.proofs.lemmas.List.Elements.{All-head, All-tail}
use Rattle.staat_limits.specs.declared.limits.TheConstants.{TEXT_LIMIT}
use Rattle.staat_model.specs.declared.assembly.Part.{Part}
use Rattle.staat_model.specs.Assemblies.{IsProduct}
use Rattle.staat_model.specs.Plans.{IsGood, Plan}
use Rattle.staat_model.specs.Sets.{below}
use Rattle.staat_holds.specs.Partials.{HasSmallDirections}
use Rattle.staat_short.specs.declared.line.ShortLine.{ShortLine}
use Rattle.staat_short.specs.declared.line.ShortLine.TheVariants as line
use Rattle.staat_short.specs.declared.short.ShortAnswer.TheVariants as answer
use Rattle.staat_short.specs.declared.short.ShortNode.{ShortNode}
use Rattle.staat_short.specs.declared.short.ShortNode.TheVariants.{Leaf, Split, Group}
use Rattle.staat_short.specs.PlanNodes.{plan_nodes}
use Rattle.staat_short.specs.ShortLines.{IsShortLine, short_line_text}
use Rattle.staat_short.specs.ShortTexts.{IsUngrouped, lines_of_short_node, short_lines, short_text}
use Rattle.staat_short.proofs.PlanTrees.{no_groups}
use Rattle.staat_short.proofs.ShortLineLemmas.{short_line_length}
use Rattle.staat_short.proofs.ShownOrders.{plan_ordered}

lines_long : (ls : List ShortLine) → All IsShortLine ls → length (flat_map short_line_text ls) ≤ 128 * length ls
lines_long [] all = omega arith
lines_long (l ∷ ls) all =
    let one = short_line_length l (All-head IsShortLine l ls all) in
    let rest = lines_long ls (All-tail IsShortLine l ls all) in
    let both = ap length (flat_map-cons short_line_text l ls) ∙ length-append (short_line_text l) (flat_map short_line_text ls) in
    omega (arith, one, rest, both)

-- ---- how many lines a plan has

one_line : (node : ShortNode) → IsUngrouped node → length (lines_of_short_node node) ≡ 1
one_line (Leaf p) is = refl
one_line (Split d) is = refl
one_line (Group holds) is = absurd is

as_many : (nodes : List ShortNode) → All IsUngrouped nodes → length (flat_map lines_of_short_node nodes) ≡ length nodes
as_many [] all = refl
as_many (node ∷ nodes) all =
    let one = one_line node (All-head IsUngrouped node nodes all) in
    let rest = as_many nodes (All-tail IsUngrouped node nodes all) in
    let both = ap length (flat_map-cons lines_of_short_node node nodes) ∙ length-append (lines_of_short_node node) (flat_map lines_of_short_node nodes) in
    omega (arith, one, rest, both)

pub plan_short : (parts : List Part) (t : Plan) → IsProduct parts → IsGood parts (below (length parts)) t → HasSmallDirections t → length (short_text (record { parts = length parts; answer = answer.Plan (plan_nodes t) })) ≤ TEXT_LIMIT
plan_short parts t product good small =
    let order = plan_ordered parts product t good small in
    let most = order.answer.0.most in
    let few = product.at_most in
    let long = lines_long (short_lines (record { parts = length parts; answer = answer.Plan (plan_nodes t) })) order.lines in
    let body = flat_map lines_of_short_node (plan_nodes t) in
    let nodes = as_many (plan_nodes t) (no_groups t) in
    let lines : length (short_lines (record { parts = length parts; answer = answer.Plan (plan_nodes t) })) ≡ 4 + length body = let e = length-append body (line.End ∷ []) in omega (arith, e) in
    omega (arith, most, few, long, nodes, lines)
