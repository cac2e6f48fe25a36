-- Why the faults of `confirm` came.
use Rattle.std.proofs.Common.{◌≡◌, ◌∙◌, ◌≤◌, Err, ap, inl, inr}
use Rattle.staat_edge.specs.Files.{told_name}
use Rattle.staat_edge.specs.Fitting.{Fit}
use Rattle.staat_edge.specs.Told.{ShelfTold}
use Rattle.staat_fault.specs.declared.fault.Fault.{Fault}
use Rattle.staat_fault.specs.declared.fault.Fault.TheVariants as fault
use Rattle.staat_words.specs.declared.request.CheckRequest.{CheckRequest}
use Rattle.staat_input.specs.Work.{Files, Follows}
use Rattle.staat_input.specs.Assembling.{IsSoundProductOf}
use Rattle.staat_input.specs.Causes.{HasCause, IfTooLong, MayName, ShelfSide, over}
use Rattle.staat_judging.specs.Causes.{HasCertificateCause, HasConfirmCause}
use Rattle.staat_input.proofs.InputLemmas.{cause_from}

-- a fault of the input
pub input_cause : (request : CheckRequest) (shelf : ShelfSide) (f : Fault) → HasCause shelf f → IfTooLong (MayName request.asked.input) f
    → ((files : Files) → Fit shelf.new files → Follows (IsSoundProductOf files request.asked) (Err f)) → HasConfirmCause request shelf f
input_cause request shelf (fault.TooLong name) past named refused = inl (record { past = past; named = named; refused = refused })
input_cause request shelf f cause named refused = cause

-- a fault of the certificate's file, which is read later
pub certificate_cause : (request : CheckRequest) (before mid after : ShelfTold) (f : Fault) → before.faults ≤ mid.faults
    → mid.holds ≡ before.holds → HasCertificateCause request.certificate (over mid after) f → HasConfirmCause request (over before after) f
certificate_cause request before mid after (fault.TooLong name) le same h =
    inr (h.0, record { place = h.1.place; opened = h.1.opened ∙ ap (λ holds. told_name holds name) same })
certificate_cause request before mid after f le same h = cause_from before mid after f le same h
