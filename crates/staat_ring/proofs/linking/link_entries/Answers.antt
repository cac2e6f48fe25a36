use Rattle.std.proofs.Common.{◌<◌, ◌∙◌, arith, length, subst, sym}
use Rattle.std.proofs.lemmas.List.{get_or-map, length-map}
use Rattle.std.proofs.lemmas.List.Elements.{All-set}
use Rattle.staat_ring.specs.Numbered.{entry_number, entry_numbers}
use Rattle.staat_ring.proofs.Rows.{entries_within, homed_more, partly_more}
use Rattle.staat_ring.proofs.linking.link_entries.Goals as goal

pub loop-e-preserved : goal.loop-e-preserved
loop-e-preserved c =
    let es = c.args.entries.now in
    let k = c.loop-e.e-index in
    let nodes = entry_numbers c.args.planes c.args.c es in
    let lt : k < length nodes = subst (λ n. k < n) (sym (length-map es (entry_number c.args.planes c.args.c))) c.loop-e-test.true in
    let here = c.number_of_entry-x.ensures.is ∙ sym (get_or-map (entry_number c.args.planes c.args.c) es k _ 0 c.loop-e-test.true) in
    let inside = entries_within c.args.planes c.args.c es (length c.args.vertices.now.next) c.requires.circle c.requires.entries c.requires.room in
    record {
      ring = partly_more c.args.vertices.now c.loop-e.vertices c.append.new.self c.args.v c.number_of_entry-x.result k nodes lt here c.append.ensures.links c.requires.node inside c.requires.distinct c.loop-e.invariant.ring;
      homes = homed_more c.args.home.now.items c.loop-e.home.items c.args.v c.number_of_entry-x.result k nodes lt here (omega (arith, c.number_of_entry-x.ensures.within, c.requires.room, c.requires.homes, c.loop-e.invariant.homes.size)) c.loop-e.invariant.homes;
      within = All-set (λ x. x < length c.args.home.now.items) c.loop-e.home.items c.number_of_entry-x.result c.args.v (omega (arith, c.requires.node, c.requires.homes)) c.loop-e.invariant.within;
    }
