use Rattle.std.proofs.Common.{◌≡◌, ◌∙◌, Err, ap, subst, sym}
use Rattle.staat_fault.specs.declared.fault.Fault.{Fault}
use Rattle.staat_fault.specs.declared.fault.Fault.TheVariants.{OutOfMemory}
use Rattle.staat_input.proofs.InputLemmas.{failed_with, memory_free, no_value}
use Rattle.staat_input.specs.Work.{Follows}
use Rattle.staat_judging.specs.Causes.{HasCertificateCause}
use Rattle.staat_judging.specs.Checking.{SaysCertificate, cert_fault}
use Rattle.staat_judging.proofs.CertificateLemmas.{read_formed, refused_cause, says_read, says_refused}
use Rattle.staat_judging.proofs.certificate.certificate_in.Goals as goal

pub returns-in-Ok : goal.returns-in-Ok
returns-in-Ok c =
    let certificate = c.in-Ok.certificate in
    let read = c.in-Ok.ensures.answer in
    record {
      says = λ text fed. says_read c.args.name.now text certificate (read text fed.fed);
      formed = read_formed c.requires.0 certificate (read c.requires.0 c.requires.1.fed);
      cause = λ shelf. tt;
    }

pub returns-in_ok-copied-in-Err : goal.returns-in_ok-copied-in-Err
returns-in_ok-copied-in-Err c =
    let name = c.args.name.now in
    let refusal = c.in-Err.refusal in
    let refused = c.in-Err.ensures.answer in
    let named : c.cert_fault.result ≡ cert_fault name refusal =
    c.cert_fault.ensures ∙ ap (λ text. cert_fault text refusal) c.in_ok-copied-in-Err.ensures in
    record {
      says = λ text fed. subst (λ (f : Fault). Follows (SaysCertificate name text) (Err f)) (sym named)
          (says_refused name text refusal fed.within (refused text fed.fed));
      formed = tt;
      cause = λ shelf. subst (HasCertificateCause name shelf) (sym named)
          (refused_cause shelf name c.requires.0 refusal c.requires.1.within (refused c.requires.0 c.requires.1.fed));
    }

pub returns-in_err-copied-in-Err : goal.returns-in_err-copied-in-Err
returns-in_err-copied-in-Err c =
    let found = c.from_residual.result in
    let is = c.from_residual.ensures.1 in
    record {
      says = λ text fed. memory_free (SaysCertificate c.args.name.now text) found is;
      formed = no_value _ _ found is;
      cause = λ shelf. failed_with (HasCertificateCause c.args.name.now shelf) OutOfMemory found tt is;
    }
