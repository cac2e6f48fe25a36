use Rattle.std.proofs.Common.{◌≤◌, All, List, length, subst, sym}
use Rattle.std.specs.List.{AllZip}
use Rattle.staat_motion.specs.declared.shadow.Shadow.{Shadow}
use Rattle.staat_motion.specs.Shadows.{IsWholeOf}
use Rattle.staat_motion.proofs.Kept.{some_shadow, wholes_are}
use Rattle.staat_motion.proofs.along.Along.of.Goals as goal

pub wholes_of-requires : goal.wholes_of-requires
wholes_of-requires c =
    subst (λ (ss : List (List Shadow)). All (λ pieces. 1 ≤ length pieces) ss) (sym c.as_slice.ensures.value)
    (some_shadow c.frame_of-frame.result c.args.parts.now c.in_ok-shadows.shadows.items c.requires.bodies.parts_are c.in_ok-shadows.ensures)

pub returns-clause-made : goal.returns-clause-made
returns-clause-made c = record {
  parts_are = c.requires.bodies.parts_are;
  shadows = c.in_ok-shadows.ensures;
  wholes = wholes_are c.frame_of-frame.result c.args.parts.now c.in_ok-shadows.shadows.items c.in_ok-wholes.wholes.items c.in_ok-shadows.ensures
      (subst (λ (ss : List (List Shadow)). AllZip IsWholeOf ss c.in_ok-wholes.wholes.items) c.as_slice.ensures.value c.in_ok-wholes.ensures);
}
