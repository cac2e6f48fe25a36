-- What the work on a short certificate finds is one thing.
use Rattle.std.proofs.Common.{◌≡◌, ◌≢◌, ℕ, List, ap, sym, ◌∙◌}
use Rattle.std.specs.Prelude.{Result, Ok, Err}
use Rattle.staat_model.specs.declared.assembly.Part.{Part}
use Rattle.staat_fault.specs.declared.fault.Fault.TheVariants.{ReadFault}
use Rattle.staat_cert.specs.declared.cert_refusal.CertRefusal.{CertRefusal}
use Rattle.staat_cert.specs.declared.cert_refusal.CertRefusal.TheVariants as cert
use Rattle.staat_short.specs.declared.short.ShortCertificate.{ShortCertificate}
use Rattle.staat_short.specs.ShortFeeds.{IsShortReadAnswer}
use Rattle.staat_short.proofs.ShortReadings.{one_short_answer}
use Rattle.staat_confirm.proofs.Unique.{verdict_one}
use Rattle.staat_limits.specs.declared.limits.TheConstants.{TEXT_LIMIT}
use Rattle.staat_words.specs.declared.request.CheckRequest.{CheckRequest}
use Rattle.staat_input.specs.declared.answer.Answer.{Answer}
use Rattle.staat_input.specs.Work.{Files, Found}
use Rattle.staat_input.specs.Assembling.{IsSoundProductOf}
use Rattle.staat_input.proofs.OneFinding.{FindsOne, then_one, taken_one, IsSaying, given_not_fault}
use Rattle.staat_input.proofs.OneInput.{sound_product_one}
use Rattle.staat_judging.specs.Checking.{cert_fault}
use Rattle.staat_judging.specs.Confirming.{SaysShortCertificate, says_short, says_no, IsShortCertificateIn}
use Rattle.staat_judging.specs.Confirming.{IsConfirmed, short_verdict_answer, ConfirmWork}

-- the answer of a reader gives what the step finds
found_in : (name : List ℕ) → Result ShortCertificate CertRefusal → Found ShortCertificate
found_in name (Ok c) = Ok c
found_in name (Err refusal) = Err (cert_fault name refusal)

-- an answer of a reader that had memory
record IsRead (name bytes : List ℕ) (f : Found ShortCertificate) : Type 0 where
  pub answer : Result ShortCertificate CertRefusal
  pub right : IsShortReadAnswer bytes answer
  pub memory : answer ≢ Err cert.OutOfMemory
  pub is : f ≡ found_in name answer

refused_alike : (r s : CertRefusal) → ◌≡◌ {A = Result ShortCertificate CertRefusal} (Err r) (Err s) → r ≡ s
refused_alike r s e = cc

certificate_read : (name bytes : List ℕ) (f : Found ShortCertificate) → SaysShortCertificate name bytes f
    → IsRead name bytes f
unfolding found_in
certificate_read name bytes f (says_short c h e) =
    record { answer = Ok c; right = h; memory = λ o. absurd cc; is = e }
certificate_read name bytes f (says_no r h some e) =
    record { answer = Err r; right = h; memory = λ o. some (refused_alike r cert.OutOfMemory o); is = e }

certificate_saying : (name : List ℕ) → IsSaying (SaysShortCertificate name)
certificate_saying name = record { one = one; no_read = no_read }
  where
    one : (bytes : List ℕ) (f g : Found ShortCertificate) → SaysShortCertificate name bytes f
        → SaysShortCertificate name bytes g → f ≡ g
    one bytes f g a b =
        let x = certificate_read name bytes f a in
        let y = certificate_read name bytes g b in
        x.is ∙ ap (found_in name) (one_short_answer bytes x.answer y.answer x.right y.right x.memory y.memory)
        ∙ sym y.is

    no_read : (bytes n : List ℕ) → SaysShortCertificate name bytes (Err (ReadFault n)) → ⊥
    no_read bytes n (says_short c h e) = absurd cc
    no_read bytes n (says_no (cert.BadLine k) h some e) = absurd cc
    no_read bytes n (says_no cert.ShortCert h some e) = absurd cc
    no_read bytes n (says_no cert.TooLong h some e) = absurd cc
    no_read bytes n (says_no cert.OutOfMemory h some e) = absurd cc

certificate_one : (files : Files) (name : List ℕ) → FindsOne files (IsShortCertificateIn files name)
certificate_one files name = taken_one TEXT_LIMIT files name (SaysShortCertificate name) (certificate_saying name)

confirmed_one : (files : Files) (parts : List Part) (c : ShortCertificate) → FindsOne files (IsConfirmed parts c)
confirmed_one files parts c =
    record {
      one = λ f g a b sf sg. one f g a b;
      held = λ name f at lacks step settled. given_not_fault _
          (ReadFault name) (sym at.is);
    }
  where
    one : (f g : Found Answer) → IsConfirmed parts c f → IsConfirmed parts c g → f ≡ g
    one f g a b = a.is ∙ ap (λ v. Ok (short_verdict_answer c.answer v))
        (verdict_one parts c a.verdict b.verdict a.right b.right) ∙ sym b.is

pub confirm_one : (request : CheckRequest) (files : Files) → FindsOne files (ConfirmWork request files)
confirm_one request files = then_one files (IsSoundProductOf files request.asked) _
    (sound_product_one files request.asked)
    (λ parts. then_one files (IsShortCertificateIn files request.certificate) _
    (certificate_one files request.certificate) (λ c. confirmed_one files parts c))
