use Rattle.std.proofs.Common.{◌≡◌, drop, nat_le}
use Rattle.std.specs.List.{list_all}
use Rattle.staat_manifest.proofs.part.has_no_controls.Given as goal

abbrev pub invariant-loop-byte : goal.invariant-loop-byte
invariant-loop-byte l = list_all (λ b. nat_le 32 b) (drop l.byte-index l.bytes) ≡ list_all (λ b. nat_le 32 b) l.bytes
