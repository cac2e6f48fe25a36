use Rattle.std.proofs.Common.{arith, length, subst}
use Rattle.std.specs.Prelude.{IfOk}
use Rattle.std.proofs.lemmas.List.{length-map}
use Rattle.staat_model.specs.Certify.{IsBodyOf}
use Rattle.staat_model.specs.Outcomes.{stuck}
use Rattle.staat_model.proofs.SetBits.{has-below}
use Rattle.staat_model.proofs.StuckSets.{stuck_exists}
use Rattle.staat_planes.specs.Refusals.{IsPlanesRefusal, IsTableWithin}
use Rattle.staat_certify.specs.declared.visit_list.Visit.{Visit}
use Rattle.staat_certify.specs.Visits.{visited_directions}
use Rattle.staat_certify.proofs.CertificateLemmas.{none_refused}
use Rattle.staat_certify.proofs.ListedLemmas.{few_directions, listed_end}
use Rattle.staat_certify.proofs.SomeMember.{some_member}
use Rattle.staat_certify.proofs.certificate.refusal_of.Goals as goal

pub tabulate-requires-clause-some : goal.tabulate-requires-clause-some
tabulate-requires-clause-some g c = some_member c.args.w (let two = c.requires.stuck.two in omega (arith, two))

pub tabulate-requires-clause-parts : goal.tabulate-requires-clause-parts
tabulate-requires-clause-parts g c = λ p h. (has-below (length c.args.sound.now) p).0 ((stuck_exists c.args.sound.now c.args.w c.requires.stuck).within p h)

pub unreachable-requires : goal.unreachable-requires
unreachable-requires g c = none_refused c.args.sound.now c.args.w 1024 c.in-Err-TooManyPlanes.field-0-0 c.requires.few (subst (IsPlanesRefusal c.args.sound.now c.args.w 1024) c.in-Err-TooManyPlanes.field-0-is c.in-Err-TooManyPlanes.ensures)

pub listing_of-requires-clause-few : goal.listing_of-requires-clause-few
listing_of-requires-clause-few g c =
    let within : IsTableWithin c.args.sound.now c.args.w 1024 c.in-Ok.table = c.in-Ok.ensures in
    let visited = c.in_ok-found-in-Ok.found.visited in
    omega (arith, few_directions c.args.version c.in-Ok.table.planes (visited_directions visited) within.few c.in_ok-found-in-Ok.ensures.directions, length-map visited (λ (visit : Visit). visit.d))

pub returns-in_ok-found-in-Ok : goal.returns-in_ok-found-in-Ok
returns-in_ok-found-in-Ok g c =
    let within : IsTableWithin c.args.sound.now c.args.w 1024 c.in-Ok.table = c.in-Ok.ensures in
    subst (λ v. IfOk c.listing_of.result (IsBodyOf c.args.sound.now c.args.version (stuck v))) within.table.set
    (listed_end c.args.sound.now c.args.version c.in-Ok.table.of c.in-Ok.table.planes (visited_directions c.in_ok-found-in-Ok.found.visited)
    c.listing_of.result within.table.made.planes c.in_ok-found-in-Ok.ensures.directions c.listing_of.ensures)
