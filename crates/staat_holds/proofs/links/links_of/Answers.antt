use Rattle.std.proofs.Common.{sym, subst}
use Rattle.std.proofs.lemmas.List.Elements.{All-push}
use Rattle.staat_holds.specs.Links.{AreLinks, IsLink}
use Rattle.staat_holds.proofs.LinkLemmas.{links_more}
use Rattle.staat_holds.proofs.links.links_of.Goals as goal

pub loop-pair-preserved : goal.loop-pair-preserved
loop-pair-preserved g c =
    let link = c.in_ok-link_of.field-0 in record {
      are = subst (AreLinks c.args.parts.now c.args.nodes.now _) (sym c.in_ok-push.ensures.items) (links_more c.args.parts.now c.args.nodes.now c.args.core.now c.loop-pair.pair-index c.loop-pair.links.items _ link c.loop-pair-test.true c.loop-pair.invariant.are c.in_ok-link_of.ensures.is);
      links = subst (λ l. Rattle.std.proofs.Common.All (IsLink c.args.count) l) (sym c.in_ok-push.ensures.items) (All-push (IsLink c.args.count) c.loop-pair.links.items link c.loop-pair.invariant.links c.in_ok-link_of.ensures.link);
    }
