use Rattle.std.proofs.Common.{ap, rules, subst, sym}
use Rattle.serde_json.specs.View.{view}
use Rattle.staat_manifest.specs.Answers.{AnswersList}
use Rattle.staat_manifest.specs.Rules.{answer_of, part_list_within}
use Rattle.staat_manifest.proofs.Accepted.{within_limits}
use Rattle.staat_manifest.proofs.ValueLemmas.{json_from, no_json}
use Rattle.staat_manifest.proofs.reader.read_listing.Goals as goal

pub returns-in-Ok-clause-exact : goal.returns-in-Ok-clause-exact
unfolding part_list_within
returns-in-Ok-clause-exact c =
    let read = json_from c.args.bytes.now (view c.in-Ok.value) c.in-Ok.ensures.ok.0 c.in-Ok.ensures.ok.1 in
    subst (λ found. AnswersList (answer_of c.args.most_parts c.args.most_pieces found) c.listing_of.result) (sym read) c.listing_of.ensures

pub returns-in-Ok-clause-bounds : goal.returns-in-Ok-clause-bounds
returns-in-Ok-clause-bounds c =
    within_limits c.args.most_parts c.args.most_pieces c.args.bytes.now c.listing_of.result (returns-in-Ok-clause-exact c)

pub returns-in-Err-2-clause-exact : goal.returns-in-Err-2-clause-exact
unfolding part_list_within
returns-in-Err-2-clause-exact c =
    ap (answer_of c.args.most_parts c.args.most_pieces) (no_json c.args.bytes.now (c.in-Err.ensures.err (search rules)))
