use Rattle.std.proofs.Common.{◌≡◌, ◌∙◌, ap, inl, refl, subst, sym}
use Rattle.std.specs.FinSet as set
use Rattle.staat_model.specs.declared.set.PartSet.{PartSet}
use Rattle.staat_model.specs.Sets.{single}
use Rattle.staat_core.specs.Cores.{IsCore}
use Rattle.staat_core.specs.Sources.{both_ways}
use Rattle.staat_core.proofs.Bonding.{bond_together}
use Rattle.staat_core.proofs.Growing.{core_empty}
use Rattle.staat_core.proofs.TableHolding.{all_hold}
use Rattle.staat_core.specs.declared.joins.Moving.TheVariants.{AnySide}
use Rattle.staat_core.proofs.bonds.is_bond.Goals.{then-count-le-FEW_LINKS, else-count-le-FEW_LINKS}
use Rattle.staat_core.proofs.bonds.is_bond.Goals as goal

pub take_links-requires : goal.take_links-requires
take_links-requires g c = core_empty (g.S.PairSource.pairs c.args.source.now) (g.S.PairSource.speaks c.args.source.now) c.empty-core.result c.empty-core.ensures

pub holds-requires-clause-core : goal.holds-requires-clause-core
holds-requires-clause-core g c =
    let Is = IsCore (g.S.PairSource.pairs c.args.source.now) (g.S.PairSource.speaks c.args.source.now) in
    elim c.if-count-le-FEW_LINKS.branch [
      | then-count-le-FEW_LINKS w ↦ subst Is (sym w.core-is) w.take_links.ensures
      | else-count-le-FEW_LINKS w ↦ subst Is (sym w.core-is) (core_empty (g.S.PairSource.pairs c.args.source.now) (g.S.PairSource.speaks c.args.source.now) c.empty-core.result c.empty-core.ensures)
    ]

pub returns : goal.returns
returns g c told parts w d speaks some p_in q_in =
    let pairs = g.S.PairSource.pairs c.args.source.now in
    let says = g.S.PairSource.speaks c.args.source.now in
    let union_is : c.union-both.result ≡ set.union (single c.args.p) (single c.args.q) =
    c.union-both.ensures.is ∙ (ap (λ (s : PartSet). set.union s c.single-2.result) c.single.ensures.is ∙ ap (set.union (single c.args.p)) c.single-2.ensures.is) in
    bond_together parts (both_ways pairs) d c.args.p c.args.q c.union-both.result union_is (all_hold parts pairs says c.holds.new.self AnySide c.union-both.result d c.holds.ensures.core (c.holds.ensures.held told parts d speaks some)) w p_in q_in

pub holds-requires-clause-some : goal.holds-requires-clause-some
holds-requires-clause-some g c = (c.args.p, (c.union-both.ensures.members c.args.p).1 (inl ((c.single.ensures.members c.args.p).1 refl)))
