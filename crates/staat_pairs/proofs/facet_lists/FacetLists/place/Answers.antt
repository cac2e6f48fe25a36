use Rattle.std.proofs.Common.{◌+◌, ◌∙◌, arith, ap, ◌∷◌, length, get_or}
use Rattle.std.specs.Prelude.{flat_map, slice_get}
use Rattle.staat_vec.specs.Vectors.{origin}
use Rattle.staat_pairs.proofs.CutLemmas.{cut_within, place_at, place_in}
use Rattle.staat_pairs.proofs.facet_lists.FacetLists.place.Goals as goal

pub start_at-requires : goal.start_at-requires
start_at-requires c =
    omega (arith, ap length c.as_slice.ensures.value, cut_within c.self.inside.ends.items c.self.inside.facets.items c.args.self.now c.args.k c.args.m c.self.view_is c.requires)

pub overflow_add-result : goal.overflow_add-result
overflow_add-result c =
    let lt = place_in c.self.inside.ends.items c.self.inside.facets.items c.args.self.now c.args.k c.args.m origin c.self.invariant c.self.view_is c.requires in
    let room = c.self.inside.facets.small in
    let len = c.self.inside.facets.ok.1 in
    omega (arith, lt, room, len, c.self.inside.facets.ok.0, c.start_at.ensures ∙ ap (λ es. get_or (0 ∷ es) c.args.k 0) c.as_slice.ensures.value)

pub returns : goal.returns
returns c n at =
    ap (λ s. slice_get (flat_map (λ l. l) c.args.self.now) (s + c.args.m)) (c.start_at.ensures ∙ ap (λ es. get_or (0 ∷ es) c.args.k 0) c.as_slice.ensures.value)
    ∙ place_at c.self.inside.ends.items c.self.inside.facets.items c.args.self.now c.args.k c.args.m n c.self.invariant c.self.view_is at
