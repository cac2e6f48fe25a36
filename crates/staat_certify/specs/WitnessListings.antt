-- The lines of a refusal that have been listed so far, and the key by which a witness is found again.
use Rattle.std.specs.Prelude.{◌≡◌, ◌≢◌, ◌⊎◌, ◌≤◌, ◌<◌, ◌∷◌, [], ◌++◌}
use Rattle.std.specs.Prelude.{ℕ, List, All, Option, Some, length, map, slice_get}
use Rattle.staat_vec.specs.declared.vector.V3.{V3}
use Rattle.staat_vec.specs.declared.vector.TheConstants.{DIRECTION}
use Rattle.staat_vec.specs.Vectors.{IsWithin, origin}
use Rattle.staat_model.specs.declared.assembly.Part.{Part}
use Rattle.staat_model.specs.declared.certificate.Body.{Body}
use Rattle.staat_model.specs.declared.certificate.Body.TheVariants as body
use Rattle.staat_model.specs.declared.certificate.Dir.{Dir}
use Rattle.staat_model.specs.declared.certificate.Witness.{Witness}
use Rattle.staat_model.specs.declared.set.PartSet.{PartSet}
use Rattle.staat_model.specs.Certify.{NamesWitness, NumbersByFirstUse}
use Rattle.staat_pairs.specs.Tables.{IsTableArc, Table, slot}
use Rattle.staat_certify.specs.declared.witnesses.WitnessRoom.{WitnessRoom}

-- the witness has arcs of the table, as many of them in the first list as in the second
pub record IsOfTable (t : Table) (witness : Witness) : Type 0 where
  pub outs : All (IsTableArc t) witness.outs
  pub ins : All (IsTableArc t) witness.ins
  pub even : length witness.outs ≡ length witness.ins

-- the witness in the room
abbrev pub witness_in : WitnessRoom → Witness
witness_in room = record { outs = room.outs.items; ins = room.ins.items }

-- the slots of the arcs of a witness, which no other witness of the table has
abbrev pub key_of : List ℕ → Witness → List ℕ
key_of pieces witness = map (slot pieces) witness.outs ++ map (slot pieces) witness.ins

-- not zero, and within the bound of directions
pub record IsSizedDirection (d : V3) : Type 0 where
  pub size : IsWithin DIRECTION d
  pub some : d ≢ origin

-- nothing stands at two places
abbrev pub EachStandsOnce : {X : Type 0} → List X → Type 0
EachStandsOnce {X} xs = (k m : ℕ) (x : X) → slice_get xs k ≡ Some x → slice_get xs m ≡ Some x → k ≡ m

-- each line names the witness of its direction, and the witnesses are numbered by first use
pub record AreListed (parts : List Part) (w : PartSet) (witnesses : List Witness) (dirs : List Dir) : Type 0 where
  pub each : All (NamesWitness parts w witnesses) dirs
  pub by_first_use : NumbersByFirstUse (length witnesses) (map (λ dir. dir.witness) dirs)
  pub few : length witnesses ≤ length dirs

-- what a certificate says of w, with such lines for these directions, and different witnesses
abbrev pub IsWitnessListing : List Part → PartSet → List V3 → Body → Type 0
IsWitnessListing parts w ds (body.Plan nodes) = ⊥
IsWitnessListing parts w ds (body.Stuck v witnesses dirs) = (v ≡ w) × EachStandsOnce witnesses
    × AreListed parts w witnesses dirs × (map (λ dir. dir.d) dirs ≡ ds)

-- x stands at its number in the new list, which is the old one or has it at the end
pub record IsNumberOf {X : Type 0} (old new : List X) (x : X) (i : ℕ) : Type 0 where
  pub which : ((new ≡ old) × (i < length old)) ⊎ ((new ≡ old ++ x ∷ []) × (i ≡ length old))
  pub at : slice_get new i ≡ Some x

-- these are the keys of the witnesses, which are of the table, and they are different
pub record AreKeys (t : Table) (keys : List (List ℕ)) (witnesses : List Witness) : Type 0 where
  pub are : keys ≡ map (key_of t.pieces) witnesses
  pub each : All (IsOfTable t) witnesses
  pub distinct : EachStandsOnce keys

-- the number, where there is one, at which a witness that was found stands among those that are listed, which have all
-- been found
pub record AreNames (found listed : List Witness) (names : List (Option ℕ)) : Type 0 where
  pub size : length names ≡ length found
  pub each : (p i : ℕ) → slice_get names p ≡ Some (Some i)
      → (x : Witness) × (slice_get found p ≡ Some x) × (slice_get listed i ≡ Some x)
  pub all : (i : ℕ) → i < length listed → (p : ℕ) × (slice_get names p ≡ Some (Some i))
