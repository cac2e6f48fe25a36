use Rattle.std.proofs.Common.{◌∙◌}
use Rattle.serde_json.specs.View.{view}
use Rattle.staat_manifest.proofs.ValueLemmas.{only_from}
use Rattle.staat_manifest.proofs.json.has_only.Goals as goal

pub returns-in-Some : goal.returns-in-Some
returns-in-Some c = c.all_among.ensures ∙ only_from c.args.names.now (view c.args.value.now) c.in-Some.members.now.entries c.in-Some.ensures
