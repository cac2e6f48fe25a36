use Rattle.std.proofs.Common.{rules, w64}
use Rattle.std.proofs.lemmas.Nat.Bits.{bit_at-trailing_zeros}
use Rattle.staat_vec.proofs.OddParts.{multiple_from_bits}
use Rattle.staat_vec.proofs.rays.odd_part.Goals as goal

pub returns-clause-odd : goal.returns-clause-odd
returns-clause-odd c = (bit_at-trailing_zeros w64 c.args.a c.requires (search rules)).1

pub returns-clause-whole : goal.returns-clause-whole
returns-clause-whole c = multiple_from_bits _ c.args.a (bit_at-trailing_zeros w64 c.args.a c.requires (search rules)).2
