use Rattle.std.proofs.Common.{ap, get_or, subst, sym, ◌∙◌, ◌<◌, length, rules}
use Rattle.std.proofs.lemmas.List.Elements.{All-from_get_or}
use Rattle.staat_ring.specs.Links.{Arrays}
use Rattle.staat_ring.specs.Linking.{AreSized, IsKeptAt}
use Rattle.staat_ring.proofs.Rows.{head_circle, head_small, alone_rows, holds_now, homes_now, others_now}
use Rattle.staat_ring.proofs.arrays.RingArrays.link_circle.Goals as goal

pub link-requires-clause-alone : goal.link-requires-clause-alone
link-requires-clause-alone c = search (rules, head_circle, head_small)

pub link_stops-requires-clause-alone : goal.link_stops-requires-clause-alone
link_stops-requires-clause-alone c = search (rules, alone_rows)

pub link_stops-requires-clause-within : goal.link_stops-requires-clause-within
link_stops-requires-clause-within c = All-from_get_or (λ x. x < length c.self.inside.home.items) c.self.inside.home.items 0 c.self.invariant.home_in_vertices

pub returns-clause-holds : goal.returns-clause-holds
returns-clause-holds c = holds_now c.args.planes c.args.c c.requires.circle c.args.stops.now c.requires.stops _ _ (subst (AreSized c.args.planes) (sym c.self.view_is) c.requires.sizes) c.link.ensures.ring c.link.ensures.others c.link.ensures.length c.link_stops.ensures

pub returns-clause-others : goal.returns-clause-others
returns-clause-others c = λ x ne.
    let b : Arrays = record { circles = c.link.new.self; vertices = c.link_stops.new.vertices; home = c.link_stops.new.home.items } in
    subst (λ (a : Arrays). IsKeptAt a b x) c.self.view_is
    (others_now c.args.planes c.args.c c.requires.circle c.args.stops.now c.requires.stops _ b (subst (AreSized c.args.planes) (sym c.self.view_is) c.requires.sizes) c.link.ensures.ring c.link.ensures.others c.link.ensures.length c.link_stops.ensures x ne)

pub returns-clause-home : goal.returns-clause-home
returns-clause-home c = λ x le.
    homes_now c.args.planes c.args.c c.requires.circle c.args.stops.now c.requires.stops _ _ (subst (AreSized c.args.planes) (sym c.self.view_is) c.requires.sizes) c.link.ensures.ring c.link.ensures.others c.link.ensures.length c.link_stops.ensures x le
    ∙ ap (λ (a : Arrays). get_or a.home x 0) c.self.view_is
