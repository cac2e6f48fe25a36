-- What a call of the program does to the outside.
use Rattle.std.specs.Prelude.{◌≡◌, ◌≢◌, ◌⊎◌, ◌<◌, ◌≤◌, ℕ, List, Option, Some, None, Ok}
use Rattle.std.specs.Prelude.{Err, true, ⊤}
use Rattle.staat_model.specs.declared.assembly.Part.{Part}
use Rattle.staat_edge.specs.Files.{bytes_of}
use Rattle.staat_edge.specs.Causes.{Rose}
use Rattle.staat_edge.specs.Fitting.{Fit}
use Rattle.staat_edge.specs.Sinks.{GrewBy, GrewByPart}
use Rattle.staat_edge.specs.Told.{SinkTold}
use Rattle.staat_words.specs.declared.request.Request.{Request}
use Rattle.staat_words.specs.declared.request.CheckRequest.{CheckRequest}
use Rattle.staat_words.specs.declared.request.DecideRequest.{DecideRequest}
use Rattle.staat_words.specs.declared.request.PlanRequest.{PlanRequest}
use Rattle.staat_words.specs.declared.request.Request.TheVariants.{Check, Confirm, Decide, Plan}
use Rattle.staat_words.specs.Requests.{HasBounds}
use Rattle.staat_fault.specs.declared.fault.Fault.{Fault}
use Rattle.staat_fault.specs.declared.fault.Fault.TheVariants.{Usage, WriteFault, OutOfMemory}
use Rattle.staat_fault.specs.Faults.{status_of, line_of}
use Rattle.staat_input.specs.declared.answer.Answer.{Answer}
use Rattle.staat_input.specs.Work.{Files, Found, Follows, answer}
use Rattle.staat_input.specs.Assembling.{AreSoundParts, AreSoundProductParts}
use Rattle.staat_input.specs.declared.limits.TheConstants.Limits.{ASSEMBLY, PRODUCT}
use Rattle.staat_input.specs.Kept.{KeepsNamed}
use Rattle.staat_planning.specs.Planning.{SaysGoodPlan, SaysStuckSet}
use Rattle.staat_judging.specs.Checking.{SaysValid}
use Rattle.staat_judging.specs.Confirming.{KeepsShortRules, SaysShortValid}
use Rattle.staat_deciding.specs.Deciding.{SaysDecidedPlan, SaysDecidedStuck}
use Rattle.staat_top.specs.Replies.{Reply, WorkOnWords, IsReply, HasOneReply, IsRight, IsDenied, answered}
use Rattle.staat_top.specs.Headline.{IsLongRefusal, IsWithinLimits, KeepsRules, valid_line}
use Rattle.staat_top.specs.Opened.{OpensWork}
use Rattle.staat_input.specs.Causes.{Over, ShelfSide, HasCause}
use Rattle.staat_judging.specs.Causes.{HasCheckCause, HasConfirmCause}

abbrev pub SinkSide : Type 0
SinkSide = Over SinkTold

-- the sink took the whole text
abbrev pub Took : SinkSide → List ℕ → Type 0
Took side text = GrewBy side.old.wrote side.new.wrote text

-- the sink failed in the call, or its count stands at its last value
abbrev pub SinkFailed : SinkSide → Type 0
SinkFailed side = Rose side.old.faults side.new.faults

-- the sink failed, and took a proper prefix of the text
pub record TookPart (side : SinkSide) (text : List ℕ) : Type 0 where
  pub part : GrewByPart side.old.wrote side.new.wrote text
  pub fault : SinkFailed side

-- the sink took nothing
abbrev pub Untouched : SinkSide → Type 0
Untouched side = side.new.wrote ≡ side.old.wrote

-- what shows why a fault of the work on a request came
abbrev pub HasRequestCause : Request → ShelfSide → Fault → Type 0
HasRequestCause (Check request) shelf fault = HasCheckCause request shelf fault
HasRequestCause (Confirm request) shelf fault = HasConfirmCause request shelf fault
HasRequestCause request shelf fault = HasCause shelf fault

-- the same of the words too: a usage fault comes only where they make no request
abbrev pub IsCaused : Option Request → ShelfSide → Fault → Type 0
IsCaused None shelf fault = (fault ≡ Usage) ⊎ (fault ≡ OutOfMemory)
IsCaused (Some request) shelf fault = HasRequestCause request shelf fault

-- in all files that fit what the shelf told, the work on the words finds that answer or that fault; want of memory is
-- free
abbrev pub IsFound : Option Request → ShelfSide → Found Answer → Type 0
IsFound asked shelf found =
    (files : Files) → Fit shelf.new files → Follows (WorkOnWords asked files) found

-- why the fault came, and where the work stands
pub record IsExplained (asked : Option Request) (shelf : ShelfSide) (fault : Fault) : Type 0 where
  pub cause : IsCaused asked shelf fault
  pub found : IsFound asked shelf (Err fault)

-- the words make no request, or one whose numbers are within their bounds
abbrev pub HasRequestBounds : Option Request → Type 0
HasRequestBounds None = ⊤
HasRequestBounds (Some request) = HasBounds request

-- The fault, or want of memory, since its line may have no memory.
abbrev pub IsSaid : Fault → Fault → Type 0
IsSaid fault said = (said ≡ fault) ⊎ (said ≡ OutOfMemory)

-- the line of what is said went out whole, with its status
pub record SaysWhole (fault : Fault) (err : SinkSide) (status : ℕ) : Type 0 where
  pub said : Fault
  pub is_said : IsSaid fault said
  pub is : status ≡ status_of said
  pub line : Took err (line_of said)

-- err failed on the line of what is said
pub record SaysPart (fault : Fault) (err : SinkSide) : Type 0 where
  pub said : Fault
  pub is_said : IsSaid fault said
  pub part : TookPart err (line_of said)

-- the fault's line went out whole
pub record RefusesWith (asked : Option Request) (shelf : ShelfSide) (err : SinkSide) (status : ℕ) : Type 0 where
  pub fault : Fault
  pub explained : IsExplained asked shelf fault
  pub is : status ≡ status_of fault
  pub line : Took err (line_of fault)

-- an answer's text went out whole
pub record Prints (asked : Option Request) (shelf : ShelfSide) (out : SinkSide) (status : ℕ) : Type 0 where
  pub answer : Answer
  pub found : IsFound asked shelf (Ok answer)
  pub is : status ≡ answer.status
  pub printed : Took out answer.text

-- out failed on an answer's text, and the line that says so went out on err, unless err failed too
pub record OutFails (asked : Option Request) (shelf : ShelfSide) (out err : SinkSide) : Type 0 where
  pub answer : Answer
  pub small : answer.status < 2
  pub found : IsFound asked shelf (Ok answer)
  pub part : TookPart out answer.text
  pub line : Took err (line_of WriteFault) ⊎ TookPart err (line_of WriteFault)

-- err failed on the line of a fault
pub record ErrFails (asked : Option Request) (shelf : ShelfSide) (out err : SinkSide) : Type 0 where
  pub fault : Fault
  pub explained : IsExplained asked shelf fault
  pub part : TookPart err (line_of fault)
  pub kept : Untouched out

-- the texts of the reply went out whole, with its status
pub record Gave (reply : Reply) (out err : SinkSide) (status : ℕ) : Type 0 where
  pub is : status ≡ reply.status
  pub to_out : Took out reply.out
  pub to_err : Took err reply.err

-- what is done is the reply
pub record Replied (asked : Option Request) (files : Files) (out err : SinkSide) (status : ℕ) : Type 0 where
  pub reply : Reply
  pub right : IsReply asked files reply
  pub gave : Gave reply out err status

-- the text that went out says what is so
pub record TookRight (out : SinkSide) (IsSo : List ℕ → Type 0) : Type 0 where
  pub text : List ℕ
  pub took : Took out text
  pub is_so : IsSo text

-- no count of faults rose, nor stands at its last value
pub record NoFault (shelf : ShelfSide) (out err : SinkSide) : Type 0 where
  pub shelf_well : Rose shelf.old.faults shelf.new.faults → ⊥
  pub out_well : SinkFailed out → ⊥
  pub err_well : SinkFailed err → ⊥

-- What a call of `check` says: it calls a certificate valid exactly where that keeps the written rules, and then
-- prints which of the two it is: a plan that takes all parts apart, or a set that is stuck.
pub record Judged (request : CheckRequest) (files : Files) (shelf : ShelfSide) (out err : SinkSide) (status : ℕ)
    : Type 0 where
  pub valid : status ≡ 0 → TookRight out (SaysValid files request)
  pub keeps : status ≡ 0 → KeepsRules files request
  pub breaks : status ≡ 1 → KeepsRules files request → ⊥
  pub called : KeepsRules files request → NoFault shelf out err → status ≢ 7 → status ≡ 0

-- What a call of `plan` says: with status 0 it printed a plan that takes all parts apart, and with status 1 a set that
-- is stuck. One of the two comes for all sound parts within the limits. A certificate that it printed is called valid
-- by `check`, over any files that hold it under some name, and hold all that the input names as it was.
pub record Planned (request : PlanRequest) (files : Files) (shelf : ShelfSide) (out err : SinkSide) (status : ℕ)
    : Type 0 where
  pub apart : status ≡ 0 → TookRight out (SaysGoodPlan files request)
  pub held : status ≡ 1 → TookRight out (SaysStuckSet files request)
  pub answers : (parts : List Part) → AreSoundParts files request.asked parts → IsWithinLimits parts request →
      NoFault shelf out err → status ≢ 7 → status < 2
  pub checked : (others : Files) (version : ℕ) (name : List ℕ) → request.certificate ≡ Some version →
      status < 2 →
      TookRight out (λ text. KeepsNamed ASSEMBLY files others request.asked.input →
      bytes_of name others ≡ Some text →
      IsReply (Some (Check (record { asked = request.asked; certificate = name }))) others
      (answered (answer 0 (valid_line status))))

-- What a call of `decide` says: with status 0 it printed a plan that takes all parts apart, and with status 1 what is
-- stuck. One of the two comes for all sound parts, unless the text of a valid refusal's certificate, which was asked
-- for, is too long. A certificate that it printed is called valid by `confirm`, over any files that hold it under some
-- name, and hold all that the input names as it was.
pub record Decided (request : DecideRequest) (files : Files) (shelf : ShelfSide) (out err : SinkSide) (status : ℕ)
    : Type 0 where
  pub apart : status ≡ 0 → TookRight out (SaysDecidedPlan files request)
  pub held : status ≡ 1 → TookRight out (SaysDecidedStuck files request)
  pub answers : (parts : List Part) → AreSoundProductParts files request.asked parts →
      NoFault shelf out err → status ≢ 7 → (status < 2) ⊎ IsLongRefusal parts request status
  pub confirmed : (others : Files) (name : List ℕ) → request.certificate ≡ true → status < 2 →
      TookRight out (λ text.
      KeepsNamed PRODUCT files others request.asked.input → bytes_of name others ≡ Some text →
      IsReply (Some (Confirm (record { asked = request.asked; certificate = name }))) others
      (answered (answer 0 (valid_line status))))

-- What a call of `confirm` says: it calls a short certificate valid exactly where that keeps the written rules, and
-- then prints which of the two it is: a plan that takes all parts apart, or a refusal, which shows that none does.
pub record Confirmed (request : CheckRequest) (files : Files) (shelf : ShelfSide) (out err : SinkSide) (status : ℕ)
    : Type 0 where
  pub valid : status ≡ 0 → TookRight out (SaysShortValid files request)
  pub keeps : status ≡ 0 → KeepsShortRules files request
  pub breaks : status ≡ 1 → KeepsShortRules files request → ⊥
  pub called : KeepsShortRules files request → NoFault shelf out err → status ≢ 7 → status ≡ 0

-- the headline of this call
abbrev pub Headlines : Option Request → Files → ShelfSide → (out err : SinkSide) → ℕ → Type 0
Headlines (Some (Check request)) files shelf out err status = Judged request files shelf out err status
Headlines (Some (Plan request)) files shelf out err status = Planned request files shelf out err status
Headlines (Some (Decide request)) files shelf out err status = Decided request files shelf out err status
Headlines (Some (Confirm request)) files shelf out err status = Confirmed request files shelf out err status
Headlines asked files shelf out err status = ⊤

-- All that is said of a call, whatever the shelf and the sinks tell and however often they fail.
pub record Ran (asked : Option Request) (shelf : ShelfSide) (out err : SinkSide) (status : ℕ) : Type 0 where
  -- a refusal leaves out as it was, and an answer err
  pub out_kept : 2 ≤ status → status ≢ 6 → Untouched out
  pub err_kept : status < 2 → Untouched err
  -- what each status says, and why it came
  pub answers : status < 2 → Prints asked shelf out status
  pub refuses : 2 ≤ status → status ≢ 6 → RefusesWith asked shelf err status
  pub write_fault : status ≡ 6 → OutFails asked shelf out err ⊎ ErrFails asked shelf out err
  pub usage : asked ≡ None → (status ≡ 2) ⊎ (status ≡ 6) ⊎ (status ≡ 7)
  -- the files opened are a beginning of those that the words and a part list name, in the order of the work
  pub opens : OpensWork asked shelf.old shelf.new
  -- Of all files that fit what the shelf told: what `check`, `plan`, `decide` and `confirm` say is so; statuses 0 to 4
  -- are a reply; the reply, where there is one, comes where nothing failed and there was memory; and what status 0 says
  -- is so, and what status 1 says.
  pub headline : (files : Files) → Fit shelf.new files → Headlines asked files shelf out err status
  pub reply : status ≤ 4 → (files : Files) → Fit shelf.new files →
      Replied asked files out err status
  pub complete : HasOneReply asked → (files : Files) → Fit shelf.new files → NoFault shelf out err →
      status ≢ 7 → (reply : Reply) → IsReply asked files reply → Gave reply out err status
  pub right : status ≡ 0 → (files : Files) → Fit shelf.new files →
      TookRight out (IsRight asked files)
  pub denied : status ≡ 1 → (files : Files) → Fit shelf.new files →
      TookRight out (IsDenied asked files)
