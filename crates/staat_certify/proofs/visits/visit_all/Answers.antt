use Rattle.std.proofs.Common.{All, ap, arith, length, map, subst, sym}
use Rattle.std.proofs.lemmas.List.Elements.{All-nil}
use Rattle.staat_model.specs.Certify.{IsDirection}
use Rattle.staat_model.proofs.PlaneLemmas.{planes_apart}
use Rattle.staat_certify.specs.Visits.{IsNamed}
use Rattle.staat_certify.proofs.ListedLemmas.{apart_by_keys, no_keys}
use Rattle.staat_certify.proofs.VisitLemmas.{all_sorted, all_visited, lists_all}
use Rattle.staat_certify.proofs.visits.visit_all.Goals as goal

pub go_round_all-requires-clause-found : goal.go_round_all-requires-clause-found
go_round_all-requires-clause-found c = record {
  kept = tt;
  keys_are = no_keys c.args.table.now (map (λ v. v.items) c.new.result.keys) c.new-2.result.items (ap (map (λ v. v.items)) c.new.ensures.empty) c.new-2.ensures.items;
  each = subst (All (λ visit. IsDirection c.args.version c.args.table.now.planes visit.d)) (sym c.new-3.ensures) (All-nil (λ visit. IsDirection c.args.version c.args.table.now.planes visit.d));
  named = subst (All (IsNamed c.args.sound.now c.args.table.now.of c.new-2.result.items)) (sym c.new-3.ensures) (All-nil (IsNamed c.args.sound.now c.args.table.now.of c.new-2.result.items));
  below = λ k j turned lt. absurd (omega arith);
}

pub returns-clause-apart : goal.returns-clause-apart
returns-clause-apart c =
    let found = c.go_round_all.new.found in
    apart_by_keys c.args.table.now (map (λ v. v.items) found.keys.keys) found.witnesses.items c.in_ok-go_round_all.ensures.found.keys_are

pub returns-clause-named : goal.returns-clause-named
returns-clause-named c =
    let found = c.go_round_all.new.found in
    all_sorted (IsNamed c.args.sound.now c.args.table.now.of found.witnesses.items) found.visited c.sort.new.self c.in_ok-sort.ensures c.in_ok-go_round_all.ensures.found.named

pub returns-clause-directions : goal.returns-clause-directions
returns-clause-directions c =
    let planes = c.args.table.now.planes in
    let visited = c.go_round_all.new.found.visited in
    lists_all c.args.version planes visited c.sort.new.self c.in_ok-sort.ensures c.in_ok-go_round_all.ensures.found.each
    (all_visited planes c.args.version visited (length planes) c.in_ok-go_round_all.ensures.found.below (omega arith) (planes_apart c.args.sound.now c.args.table.now.of planes c.requires.made.planes))
