-- How an answer comes of the steps of a command.
use Rattle.std.proofs.Common.{◌≡◌, ℕ, List, [], Ok, Err, true}
use Rattle.std.specs.Prelude.{IfErr, IfOk, IsErrAnd, ◌<◌}
use Rattle.staat_edge.specs.Fitting.{Fit}
use Rattle.staat_edge.specs.Told.{ShelfTold}
use Rattle.staat_words.specs.declared.request.Asked.{Asked}
use Rattle.staat_model.specs.declared.assembly.Part.{Part}
use Rattle.staat_fault.specs.declared.fault.Fault.{Fault}
use Rattle.staat_fault.specs.declared.fault.Fault.TheVariants.{OutOfMemory}
use Rattle.staat_input.specs.declared.answer.Answer.{Answer}
use Rattle.staat_input.specs.declared.limits.Limits.{Limits}
use Rattle.staat_input.specs.Assembling.{IsTested, ReadsSound}
use Rattle.staat_input.specs.Causes.{HasCause, ShelfSide, over}
use Rattle.staat_input.specs.Inputs.{IsInputOfWithin}
use Rattle.staat_input.specs.Opened.{OpensSomeOf}
use Rattle.staat_input.specs.Taking.{DoesWork, IsWorkedOut, TakesStep}
use Rattle.staat_input.specs.Work.{Files, Follows, Found, Then}
use Rattle.staat_input.proofs.InputLemmas.{failed_with, memory_free, no_value, then_failed, then_given}
use Rattle.staat_input.proofs.OpenedLemmas.{input_some}

-- there was no memory for the answer
pub memory_out : {Step : Found Answer → Type 0} {r : Found Answer} → IsErrAnd r (λ e. e ≡ OutOfMemory) → IsWorkedOut Step r
memory_out {Step} {r} is = record {
  status = no_value _ _ r is;
  found = memory_free Step r is;
  cause = λ shelf. failed_with (HasCause shelf) OutOfMemory r tt is;
}

module _ {X : Type 0} (First : Found X → Type 0) (Second : X → Found Answer → Type 0) (r : Found Answer) where
  -- the first step found a fault
  pub fault_out : (f : Fault) → Follows First (Err f) → ((shelf : ShelfSide) → HasCause shelf f) → IsErrAnd r (λ e. e ≡ f)
      → IsWorkedOut (Then First Second) r
  fault_out f first cause is = record {
    status = no_value _ _ r is;
    found = then_failed First Second f r first is;
    cause = λ shelf. failed_with (HasCause shelf) f r (cause shelf) is;
  }

  -- the answer is that of the second step
  pub then_out : (x : X) → First (Ok x) → IsWorkedOut (Second x) r → IsWorkedOut (Then First Second) r
  then_out x first out = record {
    status = out.status;
    found = then_given First Second x r first out.found;
    cause = out.cause;
  }

-- the work after the input is read and tested
abbrev Works : Limits → Asked → (Files → List Part → Found Answer → Type 0) → ShelfTold → ShelfTold → Found Answer → Type 0
Works limits asked Next before now r =
    DoesWork (λ files. Then (Then (IsInputOfWithin limits files asked) IsTested) (Next files)) (OpensSomeOf limits asked.input [])
    HasCause before now r

module _ (limits : Limits) (asked : Asked) {before now : ShelfTold} (r : Found Answer) where
  -- it stops where the input does not serve
  pub input_stops : (Next : Files → List Part → Found Answer → Type 0) (f : Fault) → ReadsSound limits asked before now (Err f)
      → IsErrAnd r (λ e. e ≡ f) → Works limits asked Next before now r
  input_stops Next f reads is = record {
    holds = reads.holds;
    count = reads.count;
    status = no_value _ _ r is;
    opens = reads.opens;
    found = λ files fit. then_failed (Then (IsInputOfWithin limits files asked) IsTested) (Next files) f r (reads.found files fit) is;
    cause = failed_with (HasCause (over before now)) f r reads.cause is;
  }

  -- it goes on with the parts
  pub parts_given : (Next : Files → List Part → Found Answer → Type 0) (parts : List Part) → ReadsSound limits asked before now (Ok parts)
      → IfOk r (λ a. a.status < 2) → ((files : Files) → Fit now files → Follows (Next files parts) r)
      → ((shelf : ShelfSide) → IfErr r (HasCause shelf)) → Works limits asked Next before now r
  parts_given Next parts reads status found cause = record {
    holds = reads.holds;
    count = reads.count;
    status = status;
    opens = input_some limits true asked.input [] before now reads.opens;
    found = λ files fit. then_given (Then (IsInputOfWithin limits files asked) IsTested) (Next files) parts r
        (reads.found files fit) (found files fit);
    cause = cause (over before now);
  }

  -- the answer is worked out from the parts
  pub parts_out : (Next : List Part → Found Answer → Type 0) (parts : List Part) → ReadsSound limits asked before now (Ok parts)
      → IsWorkedOut (Next parts) r → Works limits asked (λ files. Next) before now r
  parts_out Next parts reads out =
      parts_given (λ files. Next) parts reads out.status (λ files fit. out.found) out.cause

-- a step whose answer has status 0 or 1
pub work_done : {Work : Files → Found Answer → Type 0} {Opened : ShelfTold → ShelfTold → Type 0} {Long : List ℕ → Type 0}
    {before now : ShelfTold} (r : Found Answer) → TakesStep Work (λ found. Opened before now) Long before now r
    → IfOk r (λ a. a.status < 2) → DoesWork Work Opened HasCause before now r
work_done r takes status = record {
  holds = takes.holds;
  count = takes.count;
  status = status;
  opens = takes.opens;
  found = takes.found;
  cause = takes.cause;
}
