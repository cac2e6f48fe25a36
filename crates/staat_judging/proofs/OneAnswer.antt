-- What the work on a certificate finds is one thing.
use Rattle.std.proofs.Common.{◌≡◌, ℕ, List, ap, sym, ◌∙◌}
use Rattle.std.specs.Prelude.{Ok, Err}
use Rattle.staat_model.specs.declared.assembly.Part.{Part}
use Rattle.staat_model.specs.declared.certificate.Certificate.{Certificate}
use Rattle.staat_fault.specs.declared.fault.Fault.TheVariants.{ReadFault, BadLine, ShortCert}
use Rattle.staat_input.specs.declared.answer.Answer.{Answer}
use Rattle.staat_input.specs.Work.{Files, Found}
use Rattle.staat_input.specs.Assembling.{IsSoundOf}
use Rattle.staat_limits.specs.declared.limits.TheConstants.{TEXT_LIMIT}
use Rattle.staat_model.specs.Texts.{Reading, IsReading, whole, bad_line, too_short as short_reading}
use Rattle.staat_model.proofs.OneReading.{IsReading-unique}
use Rattle.staat_model.proofs.OneReason.{IsVerdict-unique}
use Rattle.staat_judging.specs.Checking.{SaysCertificate, says_whole, says_bad, says_short, IsCertificateIn}
use Rattle.staat_judging.specs.Checking.{IsChecked, verdict_answer, CheckWork}
use Rattle.staat_input.proofs.OneFinding.{FindsOne, then_one, taken_one, IsSaying, given_not_fault}
use Rattle.staat_input.proofs.OneInput.{sound_one}
use Rattle.staat_words.specs.declared.request.CheckRequest.{CheckRequest}

-- what is read in a certificate's file gives what the step finds
found_in : (name : List ℕ) → Reading → Found Certificate
found_in name (whole c) = Ok c
found_in name (bad_line k) = Err (BadLine name k)
found_in name short_reading = Err (ShortCert name)

-- what the bytes of a certificate's file say is the finding of what is read in them
certificate_read : (name bytes : List ℕ) (f : Found Certificate) → SaysCertificate name bytes f → (r : Reading) × IsReading bytes r × (f ≡ found_in name r)
unfolding found_in
certificate_read name bytes f (says_whole c h e) = (whole c, h, e)
certificate_read name bytes f (says_bad k h e) = (bad_line k, h, e)
certificate_read name bytes f (says_short h e) = (short_reading, h, e)

certificate_saying : (name : List ℕ) → IsSaying (SaysCertificate name)
certificate_saying name = record { one = one; no_read = no_read }
  where
    one : (bytes : List ℕ) (f g : Found Certificate) → SaysCertificate name bytes f → SaysCertificate name bytes g → f ≡ g
    one bytes f g a b =
        let x = certificate_read name bytes f a in
        let y = certificate_read name bytes g b in
        x.2 ∙ ap (found_in name) (IsReading-unique bytes x.0 y.0 x.1 y.1) ∙ sym y.2

    no_read : (bytes n : List ℕ) → SaysCertificate name bytes (Err (ReadFault n)) → ⊥
    no_read bytes n (says_whole c h e) = absurd cc
    no_read bytes n (says_bad k h e) = absurd cc
    no_read bytes n (says_short h e) = absurd cc

certificate_one : (files : Files) (name : List ℕ) → FindsOne files (IsCertificateIn files name)
certificate_one files name = taken_one TEXT_LIMIT files name (SaysCertificate name) (certificate_saying name)

checked_one : (files : Files) (parts : List Part) (c : Certificate) → FindsOne files (IsChecked parts c)
checked_one files parts c = record { one = λ f g a b sf sg. one f g a b; held = λ name f at lacks step settled. given_not_fault _ (ReadFault name) (sym at.is) }
  where
    one : (f g : Found Answer) → IsChecked parts c f → IsChecked parts c g → f ≡ g
    one f g a b = a.is ∙ ap (λ v. Ok (verdict_answer v)) (IsVerdict-unique parts c a.verdict b.verdict a.right b.right) ∙ sym b.is

pub check_one : (request : CheckRequest) (files : Files) → FindsOne files (CheckWork request files)
check_one request files = then_one files (IsSoundOf files request.asked) _ (sound_one files request.asked)
    (λ parts. then_one files (IsCertificateIn files request.certificate) _ (certificate_one files request.certificate) (λ c. checked_one files parts c))
