use Rattle.std.proofs.Common.{subst, sym}
use Rattle.staat_model.specs.Assemblies.{IsSound}
use Rattle.staat_asm.proofs.SoundLemmas.{sound_from}
use Rattle.staat_asm.proofs.sound.build_product.Goals as goal

pub seal-requires : goal.seal-requires
seal-requires g c = sound_from c.args.a c.in_ok-search.ensures

pub returns-clause-sound : goal.returns-clause-sound
returns-clause-sound g c = subst IsSound (sym c.seal.ensures) (sound_from c.args.a c.in_ok-search.ensures)
