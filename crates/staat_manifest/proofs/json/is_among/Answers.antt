use Rattle.std.proofs.Common.{◌||◌, ◌+◌, ap, drop, sym, ◌∙◌}
use Rattle.std.proofs.lemmas.List.{at_drop_more}
use Rattle.std.specs.List.{list_any}
use Rattle.std.specs.Str.{bytes_eq}
use Rattle.staat_manifest.proofs.json.is_among.Goals as goal

pub loop-known-preserved : goal.loop-known-preserved
loop-known-preserved c =
    let names = c.args.names.now in
    let k = c.loop-known.known-index in
    sym (at_drop_more (list_any (λ known. bytes_eq c.args.name.now known.now)) names k _ c.loop-known-test.true
    ∙ ap (λ b. b || list_any (λ known. bytes_eq c.args.name.now known.now) (drop (k + 1) names)) (sym c.eq.ensures ∙ c.if-eq.false)) ∙ c.loop-known.invariant
