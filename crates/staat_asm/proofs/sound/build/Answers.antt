use Rattle.std.proofs.Common.{List, subst, sym}
use Rattle.staat_model.specs.declared.assembly.Part.{Part}
use Rattle.staat_model.specs.declared.certificate.Arc.{Arc}
use Rattle.staat_model.specs.Assemblies.{IsSound}
use Rattle.staat_asm.specs.Overlaps.{IsOverlap}
use Rattle.staat_asm.proofs.SoundLemmas.{sound_from}
use Rattle.staat_asm.proofs.sound.build.Goals as goal

pub seal-requires : goal.seal-requires
seal-requires g c =
    let none = subst (λ (parts : List Part). (arc : Arc) → IsOverlap parts arc → ⊥) c.product.ensures.product c.in_ok-search.ensures in
    sound_from c.args.a none

pub returns-clause-sound : goal.returns-clause-sound
returns-clause-sound g c =
    let none = subst (λ (parts : List Part). (arc : Arc) → IsOverlap parts arc → ⊥) c.product.ensures.product c.in_ok-search.ensures in
    subst IsSound (sym c.seal.ensures) (sound_from c.args.a none)
