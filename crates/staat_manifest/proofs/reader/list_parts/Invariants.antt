use Rattle.std.proofs.Common.{◌≡◌, [], drop, length, map, take}
use Rattle.serde_json.specs.View.{view}
use Rattle.staat_manifest.specs.Listings.{IsTally, listed}
use Rattle.staat_manifest.specs.Rules.{first_refusal, rules_from}
use Rattle.staat_manifest.proofs.reader.list_parts.Given as goal

abbrev pub invariant-loop-part : goal.invariant-loop-part
invariant-loop-part l = record {
  rules : first_refusal (rules_from l.most_pieces l.list.items (map view (drop l.part-index l.parts))) ≡ first_refusal (rules_from l.most_pieces [] (map view l.parts));
  list : l.list.items ≡ map listed (map view (take l.part-index l.parts));
  number : length l.list.items ≡ l.part-index;
  tallied : IsTally l.most_pieces l.list.items (map (λ s. s.now) l.names.keys) l.piece_count;
}
