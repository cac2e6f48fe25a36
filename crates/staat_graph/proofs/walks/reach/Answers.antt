use Rattle.std.proofs.Common.{◌<◌, ◌≤◌, arith, sym, subst, refl, inl, inr, ⊎_elim}
use Rattle.std.specs.FinSet as set
use Rattle.staat_model.specs.Sets.{Has}
use Rattle.staat_model.proofs.SetMembers.{has-single}
use Rattle.staat_graph.specs.Graphs.{HasArc, IsReach}
use Rattle.staat_graph.proofs.Finite.{len_fewer, len_subset}
use Rattle.staat_graph.proofs.Walking.{one_more, walk_ends, same_part, reach_from, reach_all}
use Rattle.staat_graph.proofs.walks.reach.Goals as goal

pub parts-init : goal.parts-init
parts-init c = record {
  start = subst (λ s. Has s c.args.from) (sym c.only-reached.ensures.is) ((has-single c.args.from c.args.from).1 refl);
  walks = λ q h. same_part (HasArc c.args.g.now.rows) c.args.w c.args.from q c.requires ((has-single c.args.from q).0 (subst (λ s. Has s q) c.only-reached.ensures.is h));
  left_in = λ q h. absurd (c.empty-left.ensures.members q h);
  left_by_all = λ a b h. absurd (c.empty-left.ensures.members a h);
}

pub parts-smaller : goal.parts-smaller
parts-smaller c =
    let own : Has c.union-left.result c.in-Some.p = (c.union-left.ensures.members c.in-Some.p).1 (inr ((c.single.ensures.members c.in-Some.p).1 refl)) in
    let more : set.len c.parts.left < set.len c.union-left.result = len_fewer c.parts.left c.union-left.result c.in-Some.p (λ q h. (c.union-left.ensures.members q).1 (inl h)) own c.in-Some.ensures.1 in
    let most : set.len c.union-left.result ≤ set.len c.args.w = len_subset c.union-left.result c.args.w
    (λ q h. ⊎_elim (c.parts.invariant.left_in q) (λ m. subst (Has c.args.w) (sym ((c.single.ensures.members q).0 m)) (walk_ends (c.parts.invariant.walks c.in-Some.p c.in-Some.ensures.0))) ((c.union-left.ensures.members q).0 h)) in
    omega (arith, more, most)

pub parts-preserved : goal.parts-preserved
parts-preserved c =
    let at : Has c.parts.reached c.in-Some.p = c.in-Some.ensures.0 in
    record {
      start = (c.union-reached.ensures.members c.args.from).1 (inl c.parts.invariant.start);
      walks = λ q h. ⊎_elim (c.parts.invariant.walks q)
          (λ m. let t = (c.both.ensures.members q).0 m in one_more (c.parts.invariant.walks c.in-Some.p at) ((c.arcs_from.ensures.members q).0 t.0) t.1)
          ((c.union-reached.ensures.members q).0 h);
      left_in = λ q h. ⊎_elim (c.parts.invariant.left_in q) (λ m. subst (Has c.args.w) (sym ((c.single.ensures.members q).0 m)) (walk_ends (c.parts.invariant.walks c.in-Some.p at))) ((c.union-left.ensures.members q).0 h);
      left_by_all = λ a b ha hb arc. ⊎_elim (λ m. (c.union-reached.ensures.members b).1 (inl (c.parts.invariant.left_by_all a b m hb arc)))
          (λ m. (c.union-reached.ensures.members b).1 (inr ((c.both.ensures.members b).1 ((c.arcs_from.ensures.members b).1 (subst (λ x. HasArc c.args.g.now.rows x b) ((c.single.ensures.members a).0 m) arc), hb))))
          ((c.union-left.ensures.members a).0 ha);
    }

pub returns : goal.returns
returns c =
    ⊎_elim {C = IsReach (HasArc c.args.g.now.rows) c.args.w c.args.from c.parts.reached}
    (λ all. reach_all (HasArc c.args.g.now.rows) c.args.w c.args.from c.parts.reached all c.parts.invariant.walks)
    (λ done. reach_from (HasArc c.args.g.now.rows) c.args.w c.args.from c.parts.reached c.parts.invariant.start c.parts.invariant.walks (λ a b ha hb arc. c.parts.invariant.left_by_all a b (done a ha) hb arc))
    c.in_default.ensures
