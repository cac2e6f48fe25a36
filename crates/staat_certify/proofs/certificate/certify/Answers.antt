use Rattle.std.proofs.Common.{◌≡◌, length, refl, subst, ap, ◌∙◌}
use Rattle.staat_model.specs.Assemblies.{IsAssembly}
use Rattle.staat_model.specs.Outcomes.{finding_of}
use Rattle.staat_certify.proofs.CertificateLemmas.{formed, valid}
use Rattle.staat_certify.proofs.certificate.certify.Goals as goal

pub returns-clause-form : goal.returns-clause-form
returns-clause-form g c =
    let count : c.parts-parts.result ≡ length c.args.sound.now = c.parts-parts.ensures.count ∙ ap length c.assembly.ensures.assembly in
    formed c.args.sound.now c.args.version c.parts-parts.result (subst IsAssembly c.assembly.ensures.assembly c.parts-parts.ensures.assembly) c.requires.version count (finding_of c.args.outcome.now) c.in_ok-body.body c.requires.outcome c.in_ok-body.ensures

pub returns-clause-valid : goal.returns-clause-valid
returns-clause-valid g c =
    let count : c.parts-parts.result ≡ length c.args.sound.now = c.parts-parts.ensures.count ∙ ap length c.assembly.ensures.assembly in
    valid c.args.sound.now c.args.version (finding_of c.args.outcome.now) (record { version = c.args.version; parts = c.parts-parts.result; body = c.in_ok-body.body }) (subst IsAssembly c.assembly.ensures.assembly c.parts-parts.ensures.assembly) c.requires.outcome (record { version_is = refl; count = count; body = c.in_ok-body.ensures })
