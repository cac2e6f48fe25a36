use Rattle.std.proofs.Common.{◌≡◌, ℕ, ◌+◌, ◌<◌, ◌≤◌, arith, ap, sym, ◌∙◌, subst, refl, ⊎_elim, length, take}
use Rattle.std.specs.FinSet as set
use Rattle.std.proofs.lemmas.List.{take_more_set}
use Rattle.std.proofs.Math.ListN.{length-set}
use Rattle.staat_model.specs.Sets.{Has, single}
use Rattle.staat_model.proofs.SetMembers.{has-single}
use Rattle.staat_model.proofs.SetSizes.{len_more, len-single}
use Rattle.staat_graph.specs.Graphs.{HasArc}
use Rattle.staat_graph.specs.Growing.{Grows}
use Rattle.staat_graph.proofs.Finite.{len_some, same_by_len}
use Rattle.staat_graph.proofs.TreeLemmas.{ahead_more, grows_more, union_insert}
use Rattle.staat_graph.proofs.trees.grow.Goals as goal

pub overflow_sub-most : goal.overflow_sub-most
overflow_sub-most c = let some : 0 < set.len c.args.w = len_some c.args.w c.args.start c.requires in let e = c.count-most.ensures.is in omega (arith, some, e)

pub loop-k-init : goal.loop-k-init
loop-k-init c =
    let is = c.only-reached.ensures.is in
    let own : Has c.only-reached.result c.args.start = subst (λ s. Has s c.args.start) (sym is) ((has-single c.args.start c.args.start).1 refl) in
    let only : (q : ℕ) → Has c.only-reached.result q → q ≡ c.args.start = λ q h. (has-single c.args.start q).0 (subst (λ s. Has s q) is h) in
    record {
      grows = sym is;
      within = λ q h. subst (Has c.args.w) (sym (only q h)) c.requires;
      size = ap set.len is ∙ len-single c.args.start;
      long = refl;
      ahead = record {
        within = λ q h. ((c.both-ahead.ensures.members q).0 h).1;
        from = λ q h. (c.args.start, own, (c.arcs_from.ensures.members q).0 ((c.both-ahead.ensures.members q).0 h).0);
        all = λ f q hf hq r. (c.both-ahead.ensures.members q).1 ((c.arcs_from.ensures.members q).1 (subst (λ x. HasArc c.args.g.now.ahead.rows x q) (only f hf) r), hq);
      };
    }

pub loop-k-preserved : goal.loop-k-preserved
loop-k-preserved c =
    let R : ℕ → ℕ → Type 0 = HasArc c.args.g.now.ahead.rows in
    let next = c.in-Some.ensures.0 in
    let is : c.union-reached.result ≡ set.insert c.loop-k.reached c.in-Some.arc.1 = union_insert c.loop-k.reached c.single.result c.union-reached.result c.in-Some.arc.1 c.single.ensures.members c.union-reached.ensures.members in
    let lt : c.loop-k.k < length c.loop-k.arcs = let e = c.loop-k.invariant.long in let small = c.count-most.ensures.small in omega (arith, e, small) in
    let cut : take (c.loop-k.k + 1) _ ≡ _ = take_more_set c.loop-k.arcs c.loop-k.k c.in-Some.arc lt in
    let size : set.len c.union-reached.result ≡ set.len c.loop-k.reached + 1 = ap set.len is ∙ len_more c.loop-k.reached c.in-Some.arc.1 next.is.to_new in
    record {
      grows = subst (λ xs. Grows R c.args.w (single c.args.start) xs c.union-reached.result) (sym cut) (grows_more R c.args.w (single c.args.start) c.loop-k.reached c.union-reached.result (take c.loop-k.k c.loop-k.arcs) c.in-Some.arc c.loop-k.invariant.grows next is);
      within = λ q h. ⊎_elim (c.loop-k.invariant.within q) (λ m. subst (Has c.args.w) (sym ((c.single.ensures.members q).0 m)) next.is.to_in) ((c.union-reached.ensures.members q).0 h);
      size = let e = c.loop-k.invariant.size in omega (arith, e, size);
      long = let e = c.loop-k.invariant.long in length-set c.loop-k.arcs c.loop-k.k c.in-Some.arc ∙ e;
      ahead = ahead_more R c.args.w c.loop-k.reached c.union-reached.result c.single.result c.loop-k.ahead c.union-ahead.result c.both.result c.in-Some.arc.1 c.loop-k.invariant.ahead c.union-reached.ensures.members c.single.ensures.members c.union-ahead.ensures.members
          (λ q. (λ h. let m = (c.both.ensures.members q).0 h in ((c.arcs_from-in-Some.ensures.members q).0 m.0, m.1), λ m. (c.both.ensures.members q).1 ((c.arcs_from-in-Some.ensures.members q).1 m.0, m.1)));
    }

pub returns-clause-whole : goal.returns-clause-whole
returns-clause-whole c from to bridge =
    let le : set.len c.args.w ≤ set.len c.loop-k.reached = (let e = c.loop-k.invariant.size in let n = c.count-most.ensures.is in let done = c.loop-k-test.false in omega (arith, e, n, done)) in
    let all : c.loop-k.reached ≡ c.args.w = same_by_len c.loop-k.reached c.args.w c.loop-k.invariant.within le in
    bridge.to_new (subst (λ s. Has s to) (sym all) bridge.to_in)
