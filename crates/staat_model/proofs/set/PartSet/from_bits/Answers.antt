use Rattle.staat_model.proofs.SetMembers.{bit_has, has_bit}
use Rattle.staat_model.proofs.set.PartSet.from_bits.Goals as goal

pub returns : goal.returns
returns c q = (λ h. (has_bit c.args.bits q h).1, bit_has c.args.bits q c.ranges.bits.fits)
