-- What the step finds that counts the planes of all parts.
use Rattle.std.proofs.Common.{◌<◌, ℕ, List, Ok, Err, refl, ap, sym, subst}
use Rattle.staat_model.specs.declared.assembly.Part.{Part}
use Rattle.staat_model.specs.Planes.{ArePlanes}
use Rattle.staat_planes.specs.declared.refusal.PlanesRefusal.{PlanesRefusal}
use Rattle.staat_planes.specs.declared.refusal.PlanesRefusal.TheVariants as refusal
use Rattle.staat_planes.specs.Refusals.{IsPlanesRefusal, IsTableWithin}
use Rattle.staat_pairs.specs.Tables.{Table}
use Rattle.staat_fault.specs.declared.fault.Fault.TheVariants.{TooManyPlanes}
use Rattle.staat_input.specs.Work.{Follows}
use Rattle.staat_input.specs.Refusals.{planes_fault}
use Rattle.staat_input.specs.Counting.{AreCounted, all_parts, few, too_many}

pub counted_few : (parts : List Part) (limit : ℕ) (t : Table) → IsTableWithin parts (all_parts parts) limit t → AreCounted parts limit (Ok t.planes)
counted_few parts limit t h = few t.planes (subst (λ w. ArePlanes parts w t.planes) h.table.set h.table.made.planes) h.few refl

pub counted_many : (parts : List Part) (limit : ℕ) (r : PlanesRefusal) → IsPlanesRefusal parts (all_parts parts) limit r → Follows (AreCounted parts limit) (Err (planes_fault r))
counted_many parts limit (refusal.TooManyPlanes found) h =
    too_many h.planes h.planes_are (subst (λ n. limit < n) (sym h.count) h.many) (ap (λ n. Err (TooManyPlanes n)) (sym h.count))
counted_many parts limit refusal.OutOfMemory h = tt

pub ruleset counting = (counted_few, counted_many)
