-- The faults that refusals are; those of the readers have the file's name.
use Rattle.std.specs.Prelude.{ℕ, List}
use Rattle.staat_fault.specs.declared.fault.Fault.{Fault}
use Rattle.staat_fault.specs.declared.fault.Fault.TheVariants as fault
use Rattle.staat_edge.specs.declared.whole.ReadRefusal.{ReadRefusal}
use Rattle.staat_edge.specs.declared.whole.ReadRefusal.TheVariants as read
use Rattle.staat_off.specs.declared.refusal.OffRefusal.{OffRefusal}
use Rattle.staat_off.specs.declared.refusal.OffRefusal.TheVariants as off
use Rattle.staat_mesh.specs.declared.refusal.MeshRefusal.{MeshRefusal}
use Rattle.staat_mesh.specs.declared.refusal.MeshRefusal.TheVariants as mesh
use Rattle.staat_asm.specs.declared.refusal.AsmRefusal.{AsmRefusal}
use Rattle.staat_asm.specs.declared.refusal.AsmRefusal.TheVariants as asm
use Rattle.staat_model.specs.declared.refusal.TextRefusal.{TextRefusal}
use Rattle.staat_model.specs.declared.refusal.TextRefusal.TheVariants as text
use Rattle.staat_planes.specs.declared.refusal.PlanesRefusal.{PlanesRefusal}
use Rattle.staat_planes.specs.declared.refusal.PlanesRefusal.TheVariants as planes
use Rattle.staat_manifest.specs.declared.refusal.ManifestRefusal.{ManifestRefusal}
use Rattle.staat_manifest.specs.declared.refusal.ManifestRefusal.TheVariants as manifest

abbrev pub read_fault : List ℕ → ReadRefusal → Fault
read_fault name read.ReadFault = fault.ReadFault name
read_fault name read.TooLong = fault.TooLong name
read_fault name read.OutOfMemory = fault.OutOfMemory

abbrev pub off_fault : List ℕ → OffRefusal → Fault
off_fault name off.NoHeader = fault.NoHeader name
off_fault name (off.BadNumber at) = fault.BadNumber name at
off_fault name (off.NotWhole at) = fault.NotWhole name at
off_fault name (off.TooBig at) = fault.TooBig name at
off_fault name (off.BadCount at) = fault.BadCount name at
off_fault name (off.BadIndex at) = fault.BadIndex name at
off_fault name off.ShortFile = fault.ShortFile name
off_fault name (off.Trailing at) = fault.Trailing name at
off_fault name off.OutOfMemory = fault.OutOfMemory

abbrev pub mesh_fault : List ℕ → MeshRefusal → Fault
mesh_fault name (mesh.TooFewPoints found) = fault.TooFewPoints name found
mesh_fault name (mesh.TooManyPoints found) = fault.TooManyPoints name found
mesh_fault name mesh.Flat = fault.Flat name
mesh_fault name (mesh.BadFace face) = fault.BadFace name face
mesh_fault name (mesh.NotConvex face) = fault.NotConvex name face
mesh_fault name (mesh.OpenEdge face corner) = fault.OpenEdge name face corner
mesh_fault name mesh.OutOfMemory = fault.OutOfMemory

abbrev pub manifest_fault : List ℕ → ManifestRefusal → Fault
manifest_fault name manifest.NotJson = fault.NotJson name
manifest_fault name (manifest.BadShape path) = fault.BadShape name path
manifest_fault name (manifest.RepeatedName part) = fault.RepeatedName name part
manifest_fault name (manifest.NoPieces part) = fault.NoPieces name part
manifest_fault name manifest.TooManyParts = fault.TooManyParts name
manifest_fault name manifest.TooManyPieces = fault.TooManyPieces name
manifest_fault name manifest.OutOfMemory = fault.OutOfMemory

abbrev pub asm_fault : AsmRefusal → Fault
asm_fault (asm.Overlap a i b j) = fault.Overlap a i b j
asm_fault asm.OutOfMemory = fault.OutOfMemory

abbrev pub text_fault : TextRefusal → Fault
text_fault (text.TextTooLong length) = fault.TextTooLong length
text_fault text.OutOfMemory = fault.OutOfMemory

abbrev pub planes_fault : PlanesRefusal → Fault
planes_fault (planes.TooManyPlanes found) = fault.TooManyPlanes found
planes_fault planes.OutOfMemory = fault.OutOfMemory
