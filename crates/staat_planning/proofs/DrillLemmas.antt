-- What is said of a product that the program makes itself.
use Rattle.std.proofs.Common.{◌≡◌, ◌∙◌, ◌≤◌, ◌⊎◌, ℕ, List, length, Some, Ok, Err, false, refl, ap, subst, sym, inl, inr}
use Rattle.std.specs.Prelude.{IsErrAnd, Result}
use Rattle.staat_model.specs.declared.assembly.Part.{Part}
use Rattle.staat_model.specs.declared.certificate.Certificate.{Certificate}
use Rattle.staat_limits.specs.declared.limits.TheConstants.{TEXT_LIMIT}
use Rattle.staat_model.specs.declared.verdict.Verdict.{Verdict}
use Rattle.staat_model.specs.declared.verdict.Verdict.TheVariants.{ValidPlan, ValidRefusal}
use Rattle.staat_model.specs.Assemblies.{IsAssembly, IsSound}
use Rattle.staat_model.specs.Certify.{IsCertificateOf}
use Rattle.staat_model.specs.Outcomes.{Finding, IsOutcome, planned, stuck}
use Rattle.staat_model.specs.Reasons.{IsVerdict}
use Rattle.staat_model.specs.Texts.{text_of}
use Rattle.staat_model.proofs.OneReason.{IsVerdict-unique}
use Rattle.staat_cert.specs.declared.cert_refusal.CertRefusal.{CertRefusal}
use Rattle.staat_cert.specs.declared.cert_refusal.CertRefusal.TheVariants.{BadLine, OutOfMemory as NoMemory}
use Rattle.staat_cert.specs.Feeds.{IsReadAnswer}
use Rattle.staat_cert.specs.Writing.{IsTextAnswer}
use Rattle.staat_cert.proofs.AnswerLemmas.{one_read_answer}
use Rattle.staat_drill.proofs.ProductLemmas.{nest_is_assembly, row_is_assembly}
use Rattle.staat_fault.specs.declared.fault.Fault.{Fault}
use Rattle.staat_certify.specs.Certifying.{IsValidFor}
use Rattle.staat_words.specs.declared.request.DrillProduct.{DrillProduct}
use Rattle.staat_words.specs.declared.request.DrillProduct.TheVariants.{Boxes, Cubes}
use Rattle.staat_words.specs.Requests.{IsNamedProduct}
use Rattle.staat_input.specs.Work.{Follows}
use Rattle.staat_planning.specs.Drills.{IsDrilled, drill_line, drill_too_long, drilled, parts_of_product}
use Rattle.staat_input.specs.Counting.{all_parts}
use Rattle.staat_input.specs.declared.answer.Answer.{Answer}
use Rattle.staat_input.proofs.InputLemmas.{follows_fault}
use Rattle.staat_planning.specs.Planning.{IsPrinted, certificate, text_too_long}
use Rattle.staat_planning.specs.Drills.{SaysDrilled}

pub product_is_assembly : (product : DrillProduct) → IsNamedProduct product → IsAssembly (parts_of_product product)
product_is_assembly (Cubes n) is = row_is_assembly n is.0 is.1
product_is_assembly (Boxes n) is = nest_is_assembly n is.0 is.1

-- the verdict on the certificate of an outcome
valid_verdict : (parts : List Part) (f : Finding) (c : Certificate) (v : Verdict) → IsValidFor parts f c → IsVerdict parts c v → (v ≡ ValidPlan) ⊎ (v ≡ ValidRefusal)
valid_verdict parts (planned plan marks) c v valid judged = inl (IsVerdict-unique parts c v ValidPlan judged valid)
valid_verdict parts (stuck w) c v valid judged = inr (IsVerdict-unique parts c v ValidRefusal judged valid)

pub says_drilled : (product : DrillProduct) (f : Finding) (c : Certificate) (v : Verdict) → IsNamedProduct product → IsSound (parts_of_product product)
    → ((assembly : IsAssembly (parts_of_product product)) → IsValidFor (parts_of_product product) f c)
    → IsOutcome false (parts_of_product product) (all_parts (parts_of_product product)) f
    → IsCertificateOf (parts_of_product product) 2 f c → IsVerdict (parts_of_product product) c v
    → SaysDrilled product (drill_line product f (length (text_of c)) v)
says_drilled product f c v is sound valid outcome certified judged =
    let assembly = product_is_assembly product is in
    record {
      assembly = assembly;
      sound = sound;
      finding = f;
      outcome = outcome;
      certificate = c;
      certified = certified;
      verdict = v;
      judged = judged;
      valid = valid_verdict (parts_of_product product) f c v (valid assembly) judged;
      says = refl;
    }

-- the certificate was not written
same_fault : (g x : Fault) → ◌≡◌ {A = Result (List ℕ) Fault} (Err g) (Err x) → g ≡ x
same_fault g x e = cc

not_written : (product : DrillProduct) (parts : List Part) (f : Finding) (g : Fault) → IsOutcome false parts (all_parts parts) f → IsPrinted parts f (Some 2) (Err g) → IsDrilled product parts (Err g)
not_written product parts f g outcome (certificate c is short e) = absurd cc
not_written product parts f g outcome (text_too_long c is many e) = drill_too_long f c outcome is many (ap Err (same_fault g _ e))

pub drill_failed : (product : DrillProduct) (parts : List Part) (f : Finding) (e : Fault) (r : Result Answer Fault) → IsOutcome false parts (all_parts parts) f → Follows (IsPrinted parts f (Some 2)) (Err e) → IsErrAnd r (λ x. x ≡ e) → Follows (IsDrilled product parts) r
drill_failed product parts f e (Ok a) outcome h fails = absurd fails
drill_failed product parts f e (Err x) outcome h fails = subst (λ g. Follows (IsDrilled product parts) (Err g)) (sym fails)
    (follows_fault (IsPrinted parts f (Some 2)) (IsDrilled product parts) e (λ g at. not_written product parts f g outcome at) h)

-- what is read in the text that was written, unless there is no memory
pub read_is : (c : Certificate) (text : List ℕ) (r : Result Certificate CertRefusal) → IsTextAnswer c (Ok text) → IsReadAnswer text r → (r ≡ Err NoMemory → ⊥) → r ≡ Ok c
read_is c text r written read some = one_read_answer text r (Ok c) read (written.1, written.0) some no_fault
  where
    no_fault : ◌≡◌ {A = Result Certificate CertRefusal} (Ok c) (Err NoMemory) → ⊥
    no_fault e = cc

pub read_same : (c d : Certificate) (text : List ℕ) → IsTextAnswer c (Ok text) → IsReadAnswer text (Ok d) → d ≡ c
read_same c d text written read = given (read_is c text (Ok d) written read (λ e. no_fault e))
  where
    given : ◌≡◌ {A = Result Certificate CertRefusal} (Ok d) (Ok c) → d ≡ c
    given e = cc

    no_fault : ◌≡◌ {A = Result Certificate CertRefusal} (Ok d) (Err NoMemory) → ⊥
    no_fault e = cc

pub no_bad_line : (c : Certificate) (text : List ℕ) (k : ℕ) → IsTextAnswer c (Ok text) → IsReadAnswer text (Err (BadLine k)) → ⊥
no_bad_line c text k written read = other (read_is c text (Err (BadLine k)) written read (λ e. no_fault e))
  where
    other : ◌≡◌ {A = Result Certificate CertRefusal} (Err (BadLine k)) (Ok c) → ⊥
    other e = cc

    no_fault : ◌≡◌ {A = Result Certificate CertRefusal} (Err (BadLine k)) (Err NoMemory) → ⊥
    no_fault e = cc

-- the line for what was written, read and judged
pub drill_answer : (product : DrillProduct) (parts : List Part) (f : Finding) (c : Certificate) (v : Verdict) (bytes line : List ℕ) (n : ℕ) → IsOutcome false parts (all_parts parts) f → IsCertificateOf parts 2 f c → IsTextAnswer c (Ok bytes) → IsVerdict parts c v → n ≡ length bytes
    → line ≡ drill_line product f n v → IsDrilled product parts (Ok (record { status = 0; text = line }))
drill_answer product parts f c v bytes line n outcome is (written, short) judged long says =
    drilled f c v outcome is (subst (λ (t : List ℕ). length t ≤ TEXT_LIMIT) written.is short) judged
    (ap (λ (t : List ℕ). Ok (record { status = 0; text = t })) (says ∙ ap (λ m. drill_line product f m v) (long ∙ ap length written.is)))
