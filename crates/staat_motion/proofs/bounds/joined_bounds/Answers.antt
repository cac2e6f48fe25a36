use Rattle.staat_motion.specs.Frames.{x_axis, y_axis, z_axis}
use Rattle.staat_motion.proofs.bounds.joined_bounds.Goals as goal

pub returns : goal.returns
returns c ps qs h k = record {
  x = c.joined_span.ensures x_axis ps qs h.x k.x;
  y = c.joined_span-2.ensures y_axis ps qs h.y k.y;
  z = c.joined_span-3.ensures z_axis ps qs h.z k.z;
}
