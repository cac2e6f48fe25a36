use Rattle.std.proofs.Common.{◌≡◌, ⊎_elim, true, inl, inr, sym, subst, Contains}
use Rattle.staat_core.specs.Cores.{GoesOn, HasCanons, core_pairs, core_planes}
use Rattle.staat_core.proofs.Growing.{goes_same}
use Rattle.staat_core.proofs.cores.Core.add.Goals as goal

pub returns-then-not-put_facets-clause-pairs : goal.returns-then-not-put_facets-clause-pairs
returns-then-not-put_facets-clause-pairs c = goes_same (core_pairs c.args.self.now) (core_pairs c.put_facets.new.self) c.put_facets.ensures.pairs

pub returns-then-not-put_facets-clause-each : goal.returns-then-not-put_facets-clause-each
returns-then-not-put_facets-clause-each c x h = inl (subst (λ l. Contains l x) c.put_facets.ensures.pairs h)

pub returns-clause-planes : goal.returns-clause-planes
returns-clause-planes c = subst (GoesOn (core_planes c.args.self.now)) (sym c.push_pair.ensures.planes) c.put_facets.ensures.planes

pub returns-clause-pairs : goal.returns-clause-pairs
returns-clause-pairs c = subst (λ l. GoesOn l (core_pairs c.push_pair.new.self)) c.put_facets.ensures.pairs c.push_pair.ensures.pairs

pub returns-clause-each : goal.returns-clause-each
returns-clause-each c x h =
    let put : c.put_facets.result ≡ true = (let e = c.if-not-put_facets.false in cc) in
    ⊎_elim (λ old. inl (subst (λ l. Contains l x) c.put_facets.ensures.pairs old))
    (λ e. inr (e, subst (λ ns. HasCanons ns c.args.facets.now) (sym c.push_pair.ensures.planes) (c.put_facets.ensures.put put))) (c.push_pair.ensures.each x h)
