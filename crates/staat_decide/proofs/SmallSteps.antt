-- The directions of plans of sets that leave one after the other.
use Rattle.std.proofs.Common.{◌≡◌, ◌≤◌, List, [], ◌∷◌, ◌++◌, arith, length, map, refl, subst, sym}
use Rattle.std.proofs.lemmas.List.{map-append}
use Rattle.staat_vec.specs.declared.vector.V3.{V3}
use Rattle.staat_vec.specs.declared.vector.TheConstants.{DIRECTION}
use Rattle.staat_vec.specs.Vectors.{IsWithin}
use Rattle.staat_model.specs.declared.tree.Tree.{Tree}
use Rattle.staat_model.specs.Leaving.{in_turn}
use Rattle.staat_model.specs.Plans.{Plan, plan_of}
use Rattle.staat_holds.specs.Partials.{HasSmallDirections}

-- none of the plans has a direction that is too great
abbrev pub HaveSmallDirections : List Plan → Type 0
HaveSmallDirections [] = Unit {0}
HaveSmallDirections (plan ∷ plans) = HasSmallDirections plan × HaveSmallDirections plans

small_more : (plans : List Plan) (plan : Plan) → HaveSmallDirections plans → HasSmallDirections plan
    → HaveSmallDirections (plans ++ plan ∷ [])
small_more [] plan are small = (small, tt)
small_more (p ∷ plans) plan are small = (are.0, small_more plans plan are.1 small)

pub small_step : (trees next : List Tree) (tree : Tree) → HaveSmallDirections (map plan_of trees)
    → HasSmallDirections (plan_of tree) → next ≡ trees ++ tree ∷ [] → HaveSmallDirections (map plan_of next)
small_step trees next tree are small push =
    subst (λ (ts : List Tree). HaveSmallDirections (map plan_of ts)) (sym push)
    (subst HaveSmallDirections (sym (map-append plan_of trees (tree ∷ [])))
    (small_more (map plan_of trees) (plan_of tree) are small))

small_turn : (d : V3) (plan : Plan) (plans : List Plan) → IsWithin DIRECTION d → HasSmallDirections plan
    → HaveSmallDirections plans → HasSmallDirections (in_turn d plan plans)
small_turn d plan [] size small are = small
small_turn d plan (next ∷ plans) size small are = (size, small, small_turn d next plans size are.0 are.1)

pub small_whole : (d : V3) (trees : List Tree) (whole : Plan) → 1 ≤ length trees
    → IsWithin DIRECTION d → HaveSmallDirections (map plan_of trees)
    → ((plan : Plan) (plans : List Plan) → map plan_of trees ≡ plan ∷ plans → whole ≡ in_turn d plan plans)
    → HasSmallDirections whole
small_whole d [] whole some size are joins = absurd (omega (arith, some))
small_whole d (t ∷ trees) whole some size are joins =
    subst HasSmallDirections (sym (joins (plan_of t) (map plan_of trees) refl))
    (small_turn d (plan_of t) (map plan_of trees) size are.0 are.1)
