use Rattle.std.proofs.Common.{rules}
use Rattle.staat_manifest.proofs.ValueLemmas.{array_from}
use Rattle.staat_manifest.proofs.json.array_at.Goals as goal

pub returns : goal.returns
returns c = search (rules, array_from)
