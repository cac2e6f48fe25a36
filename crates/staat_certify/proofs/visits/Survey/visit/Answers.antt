use Rattle.std.proofs.Common.{◌≡◌, ◌≢◌, ◌<◌, ◌∙◌, ◌++◌, ◌∷◌, [], Contains, ap, refl, subst, sym}
use Rattle.std.specs.Prelude.{Some}
use Rattle.staat_vec.specs.declared.vector.V3.{V3}
use Rattle.staat_vec.specs.Vectors.{origin}
use Rattle.staat_model.specs.Certify.{IsDirection, NamesWitness}
use Rattle.staat_ring.specs.WholeCircles.{AreSignsAt, stop_at}
use Rattle.staat_ring.proofs.StopLemmas.{vertex_first}
use Rattle.staat_ring.proofs.WholeCircles.{vertex_listed, vertex_some}
use Rattle.staat_certify.specs.declared.visit_list.Visit.{Visit}
use Rattle.staat_certify.specs.Visits.{IsNamed, IsVisitedDirection, NamesIfTold, visited_directions}
use Rattle.staat_certify.proofs.WitnessLemmas.{told_here, visited_next}
use Rattle.staat_certify.proofs.VisitLemmas.{all_more, gone_more, named_still, still_visited, visited_earlier, visited_here}
use Rattle.staat_certify.proofs.visits.Survey.visit.Goals as goal

pub returns-then-first_entry-plane-clause-to : goal.returns-then-first_entry-plane-clause-to
returns-then-first_entry-plane-clause-to c =
    let t = c.args.self.now.table.now in
    let u = c.reach-changes.new.signs in
    let known = c.still_told-known.result in
    visited_next c.args.self.now.sound.now t c.args.circle.now u c.args.found.now.witnesses.items known c.args.k c.reach-changes.ensures.signs
    (told_here c.args.self.now.sound.now t c.set-set.ensures.rules c.args.circle.now c.args.k c.args.signs.now u c.args.found.now.witnesses.items c.args.near c.reach-changes.result c.args.told known
    c.requires.survey.made c.requires.made c.reach-changes.ensures.made c.reach-changes.ensures.signs c.reach-changes.ensures.same c.requires.near c.still_told-known.ensures)

pub returns-then-first_entry-plane-clause-gone : goal.returns-then-first_entry-plane-clause-gone
returns-then-first_entry-plane-clause-gone c =
    let t = c.args.self.now.table.now in
    let version = c.args.self.now.version in
    let found = c.args.found.now in
    let r = c.args.circle.now in
    let e = c.first_entry.result in
    let lt : e.plane < r.plane = subst (λ k. e.plane < k) c.plane.ensures c.if-first_entry-plane.true in
    gone_more c.args.self.now.sound.now t version found found r c.args.k (λ v h. h) (λ below. c.requires.gone.so_far)
    (subst (IsVisitedDirection version found.visited) (vertex_first t.planes r.plane (stop_at r c.args.k).entries e c.first_entry.ensures)
    (visited_earlier t.planes version found.visited r.plane c.requires.gone.so_far.below r.plane e refl c.requires.circle.small lt))
    c.requires.gone

pub number_here-requires-clause-at : goal.number_here-requires-clause-at
number_here-requires-clause-at c = record {
  from = c.requires.survey.made;
  made = c.reach-changes.ensures.made;
  signs = subst (AreSignsAt c.args.self.now.table.now.planes c.reach-changes.new.signs) (sym (c.direction.ensures.is ∙ c.vertex-vertex.ensures)) c.reach-changes.ensures.signs;
}

pub number_here-requires-clause-some : goal.number_here-requires-clause-some
number_here-requires-clause-some c = subst (λ (v : V3). v ≢ origin) (sym (c.direction.ensures.is ∙ c.vertex-vertex.ensures))
    (vertex_some c.args.self.now.table.now.planes c.set-set.ensures.rules.planes c.args.circle.now c.requires.circle c.args.k c.requires.place)

pub number_here-requires-clause-told : goal.number_here-requires-clause-told
number_here-requires-clause-told c =
    let t = c.args.self.now.table.now in
    let known = c.still_told-known.result in
    subst (λ (v : V3). NamesIfTold c.args.self.now.sound.now t.of c.args.found.now.witnesses.items v known) (sym (c.direction.ensures.is ∙ c.vertex-vertex.ensures))
    (told_here c.args.self.now.sound.now t c.set-set.ensures.rules c.args.circle.now c.args.k c.args.signs.now c.reach-changes.new.signs c.args.found.now.witnesses.items c.args.near c.reach-changes.result c.args.told known
    c.requires.survey.made c.requires.made c.reach-changes.ensures.made c.reach-changes.ensures.signs c.reach-changes.ensures.same c.requires.near c.still_told-known.ensures)

pub returns-clause-to : goal.returns-clause-to
returns-clause-to c =
    let t = c.args.self.now.table.now in
    let p = c.in_ok-number.number in
    visited_next c.args.self.now.sound.now t c.args.circle.now c.reach-changes.new.signs c.number_here.new.found.witnesses.items (Some p) c.args.k c.reach-changes.ensures.signs
    (subst (λ (v : V3). NamesWitness c.args.self.now.sound.now t.of c.number_here.new.found.witnesses.items (record { d = v; witness = p }))
    (c.direction.ensures.is ∙ c.vertex-vertex.ensures) c.in_ok-number.ensures.number.names)

pub returns-clause-gone : goal.returns-clause-gone
returns-clause-gone c =
    let parts = c.args.self.now.sound.now in
    let t = c.args.self.now.table.now in
    let version = c.args.self.now.version in
    let r = c.args.circle.now in
    let old = c.args.found.now in
    let new = c.push.new.self in
    let here = c.in_ok-number.ensures.number in
    let before = c.requires.gone.so_far in
    let after = c.number_here.new.found.witnesses.items in
    let visit : Visit = record { d = c.direction.result; number = c.in_ok-number.number } in
    let place = c.direction.ensures.is ∙ c.vertex-vertex.ensures in
    let is : new ≡ old.visited ++ visit ∷ [] = c.in_ok-push.ensures ∙ ap (λ vs. vs ++ visit ∷ []) c.in_ok-number.ensures.visited in
    gone_more parts t version old (record { keys = c.number_here.new.found.keys; witnesses = c.number_here.new.found.witnesses; visited = c.push.new.self; kept = c.number_here.new.found.kept; room = c.number_here.new.found.room }) r c.args.k (still_visited old.visited new visit is)
    (λ below. record {
      kept = c.in_ok-number.ensures.kept;
      keys_are = here.keys_are;
      each = all_more old.visited new visit is (λ v. IsDirection version t.planes v.d) before.each (subst (IsDirection version t.planes) (sym place) (record {
        vertex = vertex_listed t.planes c.set-set.ensures.rules.planes r c.requires.circle c.args.k c.requires.place;
        canonical = c.requires.listed;
      }));
      named = all_more old.visited new visit is (IsNamed parts t.of after) (named_still parts t.of old.witnesses.items after old.visited here.kept before.named) here.names;
      below = below;
    })
    (λ canonical. subst (Contains (visited_directions new)) place (visited_here old.visited new visit is))
    c.requires.gone
