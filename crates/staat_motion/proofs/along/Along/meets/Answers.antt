use Rattle.staat_motion.proofs.Kept.{has_shadows, meets_at, shadow_of_piece}
use Rattle.staat_motion.proofs.along.Along.meets.Goals as goal

pub shadow-s-requires-clause-part : goal.shadow-s-requires-clause-part
shadow-s-requires-clause-part g c = (has_shadows c.args.parts.now c.args.self.now c.args.arc c.requires.made c.requires.pieces).a_in

pub shadow-s-requires-clause-piece : goal.shadow-s-requires-clause-piece
shadow-s-requires-clause-piece g c = (has_shadows c.args.parts.now c.args.self.now c.args.arc c.requires.made c.requires.pieces).i_in

pub shadow-t-requires-clause-part : goal.shadow-t-requires-clause-part
shadow-t-requires-clause-part g c = (has_shadows c.args.parts.now c.args.self.now c.args.arc c.requires.made c.requires.pieces).b_in

pub shadow-t-requires-clause-piece : goal.shadow-t-requires-clause-piece
shadow-t-requires-clause-piece g c = (has_shadows c.args.parts.now c.args.self.now c.args.arc c.requires.made c.requires.pieces).j_in

pub pair_meets-requires-clause-first : goal.pair_meets-requires-clause-first
pair_meets-requires-clause-first g c = shadow_of_piece c.args.self.now.frame c.args.parts.now c.args.self.now.shadows c.args.arc.a c.args.arc.i c.piece_of-p.result.now c.shadow-s.result.now c.requires.made.shadows c.piece_of-p.ensures c.shadow-s.ensures

pub pair_meets-requires-clause-second : goal.pair_meets-requires-clause-second
pair_meets-requires-clause-second g c = shadow_of_piece c.args.self.now.frame c.args.parts.now c.args.self.now.shadows c.args.arc.b c.args.arc.j c.piece_of-q.result.now c.shadow-t.result.now c.requires.made.shadows c.piece_of-q.ensures c.shadow-t.ensures

pub returns : goal.returns
returns g c = meets_at c.args.parts.now c.args.arc c.args.self.now.d c.piece_of-p.result.now c.piece_of-q.result.now c.in_ok-answer.answer c.piece_of-p.ensures c.piece_of-q.ensures c.in_ok-answer.ensures
