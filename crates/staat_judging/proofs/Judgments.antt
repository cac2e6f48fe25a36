-- What a command does that reads parts and then a certificate, and judges it.
use Rattle.std.proofs.Common.{◌≡◌, ◌≤◌, ◌∙◌, List, [], ◌∷◌, Ok, Err, arith, false, true}
use Rattle.std.specs.Prelude.{IfErr, IfOk, IsErrAnd, ◌<◌}
use Rattle.staat_edge.specs.Fitting.{Fit}
use Rattle.staat_edge.specs.Told.{ShelfTold}
use Rattle.staat_fault.specs.declared.fault.Fault.{Fault}
use Rattle.staat_model.specs.declared.assembly.Part.{Part}
use Rattle.staat_words.specs.declared.request.CheckRequest.{CheckRequest}
use Rattle.staat_input.specs.declared.answer.Answer.{Answer}
use Rattle.staat_input.specs.declared.limits.Limits.{Limits}
use Rattle.staat_input.specs.Assembling.{IsTested, ReadsSound}
use Rattle.staat_input.specs.Causes.{HasCause, ShelfSide, over}
use Rattle.staat_input.specs.Inputs.{IsInputOfWithin}
use Rattle.staat_input.specs.Opened.{OpensSomeOf}
use Rattle.staat_input.specs.Taking.{DoesWork}
use Rattle.staat_input.specs.Work.{Files, Follows, Found, Then}
use Rattle.staat_input.proofs.InputLemmas.{failed_with, no_value, then_failed, then_given}
use Rattle.staat_judging.specs.Reading.{ReadsCertificate}
use Rattle.staat_judging.proofs.OpenedFurther.{fitted_before, input_begun, opened_after_input}

-- the step that reads the parts
abbrev Parts : Limits → CheckRequest → Files → Found (List Part) → Type 0
Parts limits request files = Then (IsInputOfWithin limits files request.asked) IsTested

module _ {C : Type 0} (limits : Limits) (request : CheckRequest) (Reads : Files → Found C → Type 0)
    (Judges : List Part → C → Found Answer → Type 0) (Cause : ShelfSide → Fault → Type 0) {before now : ShelfTold} (r : Found Answer) where
  -- the input is refused
  pub input_refused : (f : Fault) → ReadsSound limits request.asked before now (Err f) → Cause (over before now) f
      → IsErrAnd r (λ e. e ≡ f)
      → DoesWork (λ files. Then (Parts limits request files) (λ parts. Then (Reads files) (Judges parts)))
      (OpensSomeOf limits request.asked.input (request.certificate ∷ [])) Cause before now r
  input_refused f reads cause is = record {
    holds = reads.holds;
    count = reads.count;
    status = no_value _ _ r is;
    opens = input_begun limits request.asked.input (request.certificate ∷ []) before now reads.opens;
    found = λ files fit. then_failed (Parts limits request files) (λ parts. Then (Reads files) (Judges parts)) f r
        (reads.found files fit) is;
    cause = failed_with (Cause (over before now)) f r cause is;
  }

  -- the certificate is refused
  pub certificate_refused : (mid : ShelfTold) (parts : List Part) (f : Fault) → ReadsSound limits request.asked before mid (Ok parts)
      → ReadsCertificate Reads request.certificate mid now (Err f) → Cause (over before now) f → IsErrAnd r (λ e. e ≡ f)
      → DoesWork (λ files. Then (Parts limits request files) (λ parts. Then (Reads files) (Judges parts)))
      (OpensSomeOf limits request.asked.input (request.certificate ∷ [])) Cause before now r
  certificate_refused mid parts f first last cause is = record {
    holds = last.holds ∙ first.holds;
    count = omega (arith, first.count, last.count);
    status = no_value _ _ r is;
    opens = opened_after_input limits false request.asked.input (request.certificate ∷ []) before mid now first.opens last.opens;
    found = λ files fit.
        then_given (Parts limits request files) (λ parts. Then (Reads files) (Judges parts)) parts r
        (first.found files (fitted_before false (request.certificate ∷ []) mid now last.holds last.opens files fit))
        (then_failed (Reads files) (Judges parts) f r (last.found files fit) is);
    cause = failed_with (Cause (over before now)) f r cause is;
  }

  -- it is judged
  pub certificate_judged : (mid : ShelfTold) (parts : List Part) (certificate : C) → ReadsSound limits request.asked before mid (Ok parts)
      → ReadsCertificate Reads request.certificate mid now (Ok certificate) → IfOk r (λ a. a.status < 2)
      → Follows (Judges parts certificate) r → IfErr r (Cause (over before now))
      → DoesWork (λ files. Then (Parts limits request files) (λ parts. Then (Reads files) (Judges parts)))
      (OpensSomeOf limits request.asked.input (request.certificate ∷ [])) Cause before now r
  certificate_judged mid parts certificate first last status judged cause = record {
    holds = last.holds ∙ first.holds;
    count = omega (arith, first.count, last.count);
    status = status;
    opens = opened_after_input limits true request.asked.input (request.certificate ∷ []) before mid now first.opens last.opens;
    found = λ files fit.
        then_given (Parts limits request files) (λ parts. Then (Reads files) (Judges parts)) parts r
        (first.found files (fitted_before true (request.certificate ∷ []) mid now last.holds last.opens files fit))
        (then_given (Reads files) (Judges parts) certificate r (last.found files fit) judged);
    cause = cause;
  }
