use Rattle.staat_motion.proofs.bounds.Bodies.of.Goals as goal

pub returns : goal.returns
returns c = record { parts_are = c.requires; boxes = c.in_ok-boxes.ensures }
