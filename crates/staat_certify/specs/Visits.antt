-- What a survey of the vertices of a table's planes has found: the directions visited, and their witnesses.
use Rattle.std.specs.Prelude.{◌≡◌, ◌≢◌, ◌-◌, ℕ, ◌<◌, List, All}
use Rattle.std.specs.Prelude.{Bool, Contains, IfSome, Option, Some, length, map, slice_get, true}
use Rattle.std.specs.List.Sorted.{IsStrictlySortedBy}
use Rattle.staat_vec.specs.declared.vector.V3.{V3}
use Rattle.staat_vec.specs.Primitives.{IsCanon}
use Rattle.staat_vec.specs.Vectors.{dot, sign, vector_cmp}
use Rattle.staat_model.specs.declared.assembly.Part.{Part}
use Rattle.staat_model.specs.declared.certificate.Witness.{Witness}
use Rattle.staat_model.specs.declared.set.PartSet.{PartSet}
use Rattle.staat_model.specs.Certify.{IsDirection, NamesWitness}
use Rattle.staat_model.specs.Plans.{IsStuck}
use Rattle.staat_graph.specs.Graphs.{AreTrees, HasArc}
use Rattle.staat_pairs.specs.Tables.{Table, WasMadeFrom}
use Rattle.staat_certify.specs.declared.visits.Found.{Found}
use Rattle.staat_certify.specs.declared.visit_list.Visit.{Visit}
use Rattle.staat_certify.specs.declared.witnesses.GraphTrees.{GraphTrees}
use Rattle.staat_certify.specs.WitnessListings.{AreKeys}
use Rattle.staat_planes.specs.PairOrder.{plane_at}
use Rattle.staat_ring.specs.declared.entry.Entry.{Entry}
use Rattle.staat_ring.specs.Rings.{Ring, crossing}
use Rattle.staat_ring.specs.CountedSigns.{Signed}
use Rattle.staat_ring.specs.SignChanges.{stop_sign}
use Rattle.staat_ring.specs.WholeCircles.{AreSignsAt, stop_at, vertex_at}

-- the parts, some of which are stuck, and the table of these
pub record IsSurvey (parts : List Part) (t : Table) : Type 0 where
  pub made : WasMadeFrom parts t
  pub stuck : IsStuck parts t.of

-- the trees that are kept, if any are, are those of their graph
abbrev pub KeepsTrees : PartSet → Option GraphTrees → Type 0
KeepsTrees w kept = IfSome kept (λ known. AreTrees (HasArc known.graph.rows) w known.trees)

-- the number of the visit names the witness at its direction
abbrev pub IsNamed : List Part → PartSet → List Witness → Visit → Type 0
IsNamed parts w witnesses visit = NamesWitness parts w witnesses (record { d = visit.d; witness = visit.number })

abbrev pub visited_directions : List Visit → List V3
visited_directions visited = map (λ visit. visit.d) visited

-- the number names the witness at d; the old list of witnesses stands at the front of the new one, whose keys these
-- are
pub record IsNumberHere (parts : List Part) (t : Table) (d : V3) (keys : List (List ℕ)) (old new : List Witness)
    (p : ℕ) : Type 0 where
  pub keys_are : AreKeys t keys new
  pub kept : (k : ℕ) (x : Witness) → slice_get old k ≡ Some x → slice_get new k ≡ Some x
  pub names : NamesWitness parts t.of new (record { d = d; witness = p })

-- the vertex has been visited, if it is one of the directions
abbrev pub IsVisitedDirection : ℕ → List Visit → V3 → Type 0
IsVisitedDirection version visited v = (version ≡ 2 → IsCanon v) → Contains (visited_directions visited) v

-- what has been visited stays so
abbrev pub AreStillVisited : List Visit → List Visit → Type 0
AreStillVisited old new = (v : V3) → Contains (visited_directions old) v → Contains (visited_directions new) v

-- the number that is told, if any is, names the witness at d
abbrev pub NamesIfTold : List Part → PartSet → List Witness → V3 → Option ℕ → Type 0
NamesIfTold parts w witnesses d told =
    IfSome told (λ i. NamesWitness parts w witnesses (record { d = d; witness = i }))

-- the signs are those at the vertex of the circle before the one at k, and the number that is told, if any is, names
-- the witness there
pub record IsVisitedTo (parts : List Part) (t : Table) (r : Ring) (s : Signed) (witnesses : List Witness)
    (told : Option ℕ) (k : ℕ) : Type 0 where
  pub later : 0 < k
  pub signs : AreSignsAt t.planes s (vertex_at t.planes r (k - 1))
  pub names : NamesIfTold parts t.of witnesses (vertex_at t.planes r (k - 1)) told

-- the sign of the plane 0 at the vertex k, if it is told and the plane does not pass there
abbrev pub IsToldAhead : List V3 → Ring → Option Bool → ℕ → Type 0
IsToldAhead planes r ahead k = IfSome ahead (λ positive. k < length r.stops → (e : Entry)
    → slice_get (stop_at r k).entries 0 ≡ Some e → e.plane ≢ 0
    → sign (dot (plane_at planes 0) (vertex_at planes r k)) ≡ stop_sign true positive)

-- the crossings of the planes below n with all others have been visited
abbrev pub AreVisitedBelow : List V3 → ℕ → List Visit → ℕ → Type 0
AreVisitedBelow planes version visited n = (k j : ℕ) (turned : Bool) → k < n → j < length planes → j ≢ k
    → IsVisitedDirection version visited (crossing planes k (record { plane = j; turned = turned }))

-- what has been found where the crossings of the planes below n with all others have been visited, with the trees that
-- are kept and the keys of the witnesses
pub record HasFound (parts : List Part) (t : Table) (version : ℕ) (found : Found) (n : ℕ) : Type 0 where
  pub kept : KeepsTrees t.of found.kept
  pub keys_are : AreKeys t (map (λ v. v.items) found.keys.keys) found.witnesses.items
  pub each : All (λ visit. IsDirection version t.planes visit.d) found.visited
  pub named : All (IsNamed parts t.of found.witnesses.items) found.visited
  pub below : AreVisitedBelow t.planes version found.visited n

-- what has been found where the circles below r and the vertices of r at the places below k have been visited
pub record HasGone (parts : List Part) (t : Table) (version : ℕ) (found : Found) (r : Ring) (k : ℕ) : Type 0 where
  pub so_far : HasFound parts t version found r.plane
  pub on : (m : ℕ) → m < k → IsVisitedDirection version found.visited (vertex_at t.planes r m)

-- the new visits are some of the old ones, of each direction one, in the order of the directions
pub record SortsVisits (old new : List Visit) : Type 0 where
  pub ascending : IsStrictlySortedBy vector_cmp (visited_directions new)
  pub each : (visit : Visit) → Contains new visit → Contains old visit
  pub all : AreStillVisited old new
