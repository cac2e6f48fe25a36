use Rattle.staat_motion.proofs.shadow.joined_shadow.Goals as goal

pub returns : goal.returns
returns c f ps qs h k = record {
  bounds = c.joined_bounds.ensures ps qs h.bounds k.bounds;
  across_x = c.joined_span.ensures f.x ps qs h.across_x k.across_x;
  across_y = c.joined_span-2.ensures f.y ps qs h.across_y k.across_y;
  across_z = c.joined_span-3.ensures f.z ps qs h.across_z k.across_z;
}
