use Rattle.std.proofs.Common.{Ok, ap, arith, length, length-append, map, refl, sym, ◌∙◌}
use Rattle.std.proofs.lemmas.Result.{err_from_is_err_and}
use Rattle.std.specs.List.{sum_by}
use Rattle.serde_json.specs.View.{view}
use Rattle.staat_manifest.specs.Rules.{first_refusal, rules_from}
use Rattle.staat_manifest.proofs.RuleLemmas.{all_listed, goes_on, list_more, part_refuses, passed_on}
use Rattle.staat_manifest.proofs.reader.list_parts.Goals as goal

pub returns-in_err-piece_count : goal.returns-in_err-piece_count
returns-in_err-piece_count c =
    let p = err_from_is_err_and c.from_residual.result
    c.from_residual.ensures.1 in
    rw (p.1, p.2) (passed_on _ _ _ _ (part_refuses c.args.most_pieces c.loop-part.list.items c.args.parts.now
    c.loop-part.part-index c.part-item.result (omega arith) c.part-item.is _ c.loop-part.invariant.rules)
    c.in_err-piece_count.ensures.rules)

pub loop-part-preserved : goal.loop-part-preserved
loop-part-preserved c =
    let added = c.in_ok-piece_count.ensures.added in
    record {
      rules = goes_on c.args.most_pieces c.loop-part.list.items c.args.parts.now c.loop-part.part-index
          c.part-item.result (omega arith) c.part-item.is _ c.loop-part.invariant.rules
          c.in_ok-piece_count.ensures.rules _ added;
      list = list_more c.args.most_pieces c.loop-part.list.items c.args.parts.now c.loop-part.part-index
          c.part-item.result (omega arith) c.part-item.is _ added c.loop-part.invariant.list;
      number = ap length added ∙ simp length-append (omega (arith, c.loop-part.invariant.number));
      tallied = c.in_ok-piece_count.ensures.tallied;
    }

pub loop-part-init : goal.loop-part-init
loop-part-init c =
    let none = c.new-list.ensures.items in
    record {
      rules = ap (λ list. first_refusal (rules_from c.args.most_pieces list (map view c.args.parts.now))) none;
      list = none;
      number = ap length none;
      tallied = record {
        named = rw (none, c.new-names.ensures.empty) refl;
        counted = sym (ap (sum_by (λ part. length part.pieces)) none);
        within = omega arith;
      };
    }

pub returns : goal.returns
returns c =
    all_listed c.args.most_pieces c.args.parts.now c.loop-part.part-index c.loop-part.list.items c.loop-part-test.false
    c.loop-part.invariant.rules c.loop-part.invariant.list ∙ ap Ok (sym c.from_vec.ensures)
