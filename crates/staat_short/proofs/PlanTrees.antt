-- The nodes of a plan are those of a whole tree without groups.
use Rattle.std.proofs.Common.{◌≡◌, ◌++◌, ◌∷◌, [], All, ap, ap₂, refl}
use Rattle.std.proofs.lemmas.List.Elements.{All-append, All-cons, All-nil}
use Rattle.staat_model.specs.Plans.{Plan, leaf, split}
use Rattle.staat_short.specs.declared.short.ShortNode.TheVariants.{Leaf, Split}
use Rattle.staat_short.specs.PlanNodes.{plan_nodes, without_groups}
use Rattle.staat_short.specs.ShortTexts.{IsUngrouped, short_nodes_of}

pub one_tree : (t : Plan) → plan_nodes t ≡ short_nodes_of (without_groups t)
one_tree (leaf p) = refl
one_tree (split d moved rest) = ap (λ l. Split d ∷ l) (ap₂ (λ x y. x ++ y) (one_tree moved) (one_tree rest))

pub no_groups : (t : Plan) → All IsUngrouped (plan_nodes t)
no_groups (leaf p) = All-cons IsUngrouped (Leaf p) [] tt (All-nil IsUngrouped)
no_groups (split d moved rest) = All-cons IsUngrouped (Split d) (plan_nodes moved ++ plan_nodes rest) tt (All-append IsUngrouped (plan_nodes moved) (plan_nodes rest) (no_groups moved) (no_groups rest))
