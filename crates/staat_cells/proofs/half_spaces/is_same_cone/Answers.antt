use Rattle.std.proofs.Common.{◌≡◌, ◌∙◌, sym, true, rules}
use lib.Pointwise.{pointwise_decides}
use Rattle.staat_cells.specs.declared.half_spaces.HalfSpace.{HalfSpace}
use Rattle.staat_cells.specs.contracts.half_spaces.HalfSpacePartialEq.TheImpl.{eq-value}
use Rattle.staat_cells.proofs.half_spaces.is_same_cone.Goals as goal

decides : (x y : HalfSpace) → (eq-value.it x y ≡ true → x ≡ y) × (x ≡ y → eq-value.it x y ≡ true)
decides x y = search rules

pub returns : goal.returns
returns c = let d = pointwise_decides {E = eq-value.it} decides c.args.cone.now c.args.other.now in
    (λ t. d.0 (sym c.eq.ensures ∙ t), λ e. c.eq.ensures ∙ d.1 e)
