use Rattle.std.proofs.Common.{◌≡◌, ◌∙◌, ap, true, get_or, refl, subst, Contains, take}
use Rattle.std.proofs.lemmas.List.{take_all}
use Rattle.std.proofs.lemmas.List.Elements.{All-more, All-nil}
use Rattle.staat_vec.specs.Primitives.{canon}
use Rattle.staat_core.specs.Cores.{HasCanons, core_planes}
use Rattle.staat_core.proofs.Growing.{canons_kept, goes_further, goes_same}
use Rattle.staat_core.proofs.cores.Core.put_facets.Goals as goal

pub loop-n-init : goal.loop-n-init
loop-n-init c = record {
  room = c.requires.room;
  planes = goes_same (core_planes c.args.self.now) (core_planes c.args.self.now) refl;
  pairs = refl;
  put = All-nil (λ n. Contains (core_planes c.args.self.now) (canon n));
}

pub loop-n-preserved : goal.loop-n-preserved
loop-n-preserved c =
    let facets = c.args.facets.now in
    let planes = core_planes c.put_plane.new.self in
    let told : c.put_plane.result ≡ true = (let e = c.if-not-put_plane.false in cc) in
    let n = c.n-item.result in
    let is = c.of.ensures ∙ c.canon.ensures.value ∙ ap canon (c.vector.ensures.is ∙ c.n-item.is) in
    let put : Contains planes (canon (get_or facets c.loop-n.n-index n)) = subst (Contains planes) is (c.put_plane.ensures.put told) in record {
      room = c.put_plane.ensures.room;
      planes = goes_further (core_planes c.args.self.now) (core_planes c.loop-n.self) planes c.loop-n.invariant.planes c.put_plane.ensures.planes;
      pairs = c.put_plane.ensures.pairs ∙ c.loop-n.invariant.pairs;
      put = All-more (λ n. Contains planes (canon n)) facets c.loop-n.n-index n c.loop-n-test.true
          (canons_kept (core_planes c.loop-n.self) planes (take c.loop-n.n-index facets) c.put_plane.ensures.planes c.loop-n.invariant.put) put;
    }

pub returns-clause-put : goal.returns-clause-put
returns-clause-put c told = subst (HasCanons (core_planes c.loop-n.self)) (take_all c.loop-n.n-index c.args.facets.now c.loop-n-test.false) c.loop-n.invariant.put
