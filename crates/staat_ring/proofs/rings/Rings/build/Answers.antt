use Rattle.std.proofs.Common.{◌≡◌, ℕ, List, ◌≤◌, ap, false, get_or, length, replicate, subst, sym, take, true, ◌∙◌}
use Rattle.std.proofs.lemmas.List.{get_or-replicate, length-replicate}
use Rattle.staat_ring.specs.RingViews.{AreFlags, HaveTakenOut, arrangement_of}
use Rattle.staat_ring.specs.Rings.{WereMadeFrom}
use Rattle.staat_ring.proofs.Built.{kept, made, take_none}
use Rattle.staat_ring.proofs.Unlinking.{all_linked}
use Rattle.staat_ring.proofs.rings.Rings.build.Goals as goal

pub invariant_of-result : goal.invariant_of-result
invariant_of-result c =
    let n_is = c.len-planes.ensures.is in
    let flags : c.in_ok-linked.linked.items ≡ replicate c.len-planes.result true = c.in_ok-linked.ensures.items_if_clones_equal (λ y e. e) in
    record {
      arrays =
          subst (λ n. HaveTakenOut n 0 c.in_ok-order.order.items c.in_ok-arrays.arrays) (sym n_is)
          (kept c.args.table.now.planes c.len-planes.ensures.rules.planes (subst (λ n. n ≤ 1024) n_is c.len-planes.ensures.most) (subst (λ n. 3 ≤ n) n_is c.len-planes.ensures.least)
          c.in_ok-arrays.arrays c.sizes.ensures.circle_words c.sizes.ensures.vertex_words c.in_ok-arrays.ensures c.in_ok-order.order.items (c.in_ok-order.ensures.length ∙ n_is));
      flags = subst (λ (o : List ℕ). AreFlags c.len-planes.result o c.in_ok-linked.linked.items) (sym (take_none c.in_ok-order.order.items))
          (all_linked c.len-planes.result c.in_ok-linked.linked.items (ap length flags ∙ length-replicate c.len-planes.result true)
          (λ p lt. ap (λ fs. get_or fs p false) flags ∙ get_or-replicate c.len-planes.result p true false lt));
    }

pub returns-clause-made : goal.returns-clause-made
returns-clause-made c =
    let n_is = c.len-planes.ensures.is in
    subst (λ n. WereMadeFrom c.args.table.now.planes (arrangement_of n (take 0 c.in_ok-order.order.items) c.in_ok-arrays.arrays)) (sym n_is)
    (made c.args.table.now.planes c.len-planes.ensures.rules.planes (subst (λ n. n ≤ 1024) n_is c.len-planes.ensures.most) (subst (λ n. 3 ≤ n) n_is c.len-planes.ensures.least)
    c.in_ok-arrays.arrays c.sizes.ensures.circle_words c.sizes.ensures.vertex_words c.in_ok-arrays.ensures c.in_ok-order.order.items)
