use Rattle.std.proofs.Common.{◌≡◌, drop, map}
use Rattle.serde_json.specs.View.{view}
use Rattle.staat_manifest.specs.Rules.{first_refusal, piece_rules}
use Rattle.staat_manifest.proofs.part.check_pieces.Given as goal

abbrev pub invariant-loop-i : goal.invariant-loop-i
invariant-loop-i l = first_refusal (piece_rules l.k l.i (map view (drop l.i l.pieces))) ≡ first_refusal (piece_rules l.k 0 (map view l.pieces))
