use Rattle.std.proofs.Common.{◌+◌, ◌*◌, arith, ap, ◌∙◌, refl, length}
use Rattle.staat_pairs.specs.Tables.{facets_of}
use Rattle.staat_ring.proofs.PairNumbers.{partly_more, partly_room, same_but}
use Rattle.staat_ring.proofs.index.add_pair.Goals as goal

pub push_facet-requires-clause-room : goal.push_facet-requires-clause-room
push_facet-requires-clause-room c =
    partly_room c.args.table.now.planes (facets_of c.args.table.now c.args.arc) c.want.new.self c.loop-m.signs c.args.q c.loop-m.m (length c.args.table.now.planes)
    (c.loop-m.invariant.partly.states ∙ (ap (λ s. length s.states) c.want.ensures ∙ c.requires.states))
    (let e = c.facet_count-count.ensures.is in let m = c.facet_count-count.ensures.most in omega (arith, e, m))
    c.set.ensures.most c.loop-m.invariant.partly

pub loop-m-preserved : goal.loop-m-preserved
loop-m-preserved c =
    let (w, lt, at, set) = c.in_ok-push_facet.ensures in
    record {
      all = c.loop-m.invariant.all;
      partly = partly_more c.args.table.now.planes (facets_of c.args.table.now c.args.arc) c.want.new.self c.loop-m.signs c.push_facet.new.signs c.args.q c.loop-m.m c.facet.result w
          (c.loop-m.invariant.partly.states ∙ (ap (λ s. length s.states) c.want.ensures ∙ c.requires.states)) c.facet.ensures.is lt at set c.loop-m.invariant.partly;
    }

pub returns-clause-others : goal.returns-clause-others
returns-clause-others c =
    same_but c.args.table.now c.args.arc c.args.signs.now c.want.new.self c.loop-m.signs c.args.q c.facet_count-count.result (32 * c.args.arc.a + c.args.arc.b) c.loop-m.m c.want.ensures c.requires.slot c.requires.pairs
    c.facet_count-count.ensures.is refl (let a = c.loop-m.invariant.all in let t = c.loop-m-test.false in omega (arith, a, t)) c.loop-m.invariant.partly
