use Rattle.std.proofs.Common.{◌≡◌, map, take}
use Rattle.serde_json.specs.View.{view}
use Rattle.staat_manifest.specs.Values.{text_in}
use Rattle.staat_manifest.proofs.reader.listed.Given as goal

abbrev pub invariant-loop-piece : goal.invariant-loop-piece
invariant-loop-piece l = l.pieces.items ≡ map text_in (map view (take l.piece-index l.form.pieces.now))
