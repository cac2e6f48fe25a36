-- The reply to a request over some files, as the order of work finds it.
use Rattle.std.specs.Prelude.{◌≡◌, ℕ, List, [], Option, Some, None, Ok, Err}
use Rattle.staat_model.specs.declared.assembly.Part.{Part}
use Rattle.staat_words.specs.declared.request.Request.{Request}
use Rattle.staat_words.specs.declared.request.Request.TheVariants.{Pair, Look, Graph, Plan, Check, Cells, Drill}
use Rattle.staat_words.specs.declared.request.Request.TheVariants.{Explode, Linear, Local, Decide, Confirm, Blocks}
use Rattle.staat_fault.specs.declared.fault.Fault.{Fault}
use Rattle.staat_fault.specs.declared.fault.Fault.TheVariants.{Usage, ReadFault}
use Rattle.staat_fault.specs.Faults.{status_of, line_of}
use Rattle.staat_input.specs.declared.answer.Answer.{Answer}
use Rattle.staat_input.specs.Work.{Files, Found, answer}
use Rattle.staat_input.specs.Assembling.{AreSoundParts, AreSoundProductParts}
use Rattle.staat_planning.specs.Planning.{SaysGoodPlan, SaysStuckSet, PlanWork}
use Rattle.staat_directions.specs.CellTables.{SaysCells, CellsWork}
use Rattle.staat_planning.specs.Exploding.{SaysApart, plan_asked, ExplodeWork}
use Rattle.staat_orders.specs.Ordering.{SaysOrder, SaysLocked, LinearWork}
use Rattle.staat_orders.specs.Beginning.{SaysBeginning, SaysTight, LocalWork}
use Rattle.staat_judging.specs.Checking.{SaysValid, SaysNotValid, CheckWork}
use Rattle.staat_judging.specs.Confirming.{SaysShortValid, SaysShortNotValid, ConfirmWork}
use Rattle.staat_planning.specs.Drills.{SaysDrilled, DrillWork}
use Rattle.staat_directions.specs.Pairs.{PairWork, NeverMeet, IsNotShown}
use Rattle.staat_directions.specs.Looking.{LookWork}
use Rattle.staat_directions.specs.Graphing.{GraphWork}
use Rattle.staat_deciding.specs.Deciding.{DecideWork, SaysDecidedPlan, SaysDecidedStuck}
use Rattle.staat_deciding.specs.Blocks.{BlocksWork}

-- what the work on a request finds: a line for each command
abbrev pub WorkOn : Request → Files → Found Answer → Type 0
WorkOn (Pair request) files found = PairWork request files found
WorkOn (Look asked) files found = LookWork asked files found
WorkOn (Graph request) files found = GraphWork request files found
WorkOn (Plan request) files found = PlanWork request files found
WorkOn (Check request) files found = CheckWork request files found
WorkOn (Cells request) files found = CellsWork request files found
WorkOn (Drill product) files found = DrillWork product files found
WorkOn (Explode request) files found = ExplodeWork request files found
WorkOn (Linear request) files found = LinearWork request files found
WorkOn (Local request) files found = LocalWork request files found
WorkOn (Decide request) files found = DecideWork request files found
WorkOn (Confirm request) files found = ConfirmWork request files found
WorkOn (Blocks request) files found = BlocksWork request files found

-- what the work on words finds, which may make no request
abbrev pub WorkOnWords : Option Request → Files → Found Answer → Type 0
WorkOnWords None files found = found ≡ Err Usage
WorkOnWords (Some request) files found = WorkOn request files found

-- a status, a text for out and a text for err
pub record Reply : Type 0 where
  pub status : ℕ
  pub out : List ℕ
  pub err : List ℕ

-- a text on out alone
abbrev pub answered : Answer → Reply
answered answer = record { status = answer.status; out = answer.text; err = [] }

-- a line on err alone
abbrev pub refused : Fault → Reply
refused fault = record { status = status_of fault; out = []; err = line_of fault }

-- what the work finds makes this reply; none where a file is to be read next
abbrev pub MakesReply : Found Answer → Reply → Type 0
MakesReply (Ok answer) reply = reply ≡ answered answer
MakesReply (Err (ReadFault name)) reply = ⊥
MakesReply (Err fault) reply = reply ≡ refused fault

-- this is the reply
pub record IsReply (asked : Option Request) (files : Files) (reply : Reply) : Type 0 where
  pub found : Found Answer
  pub work : WorkOnWords asked files found
  pub makes : MakesReply found reply

-- There is one reply to it over some files: so to all but `decide`, to which each plan is a reply that takes all parts
-- apart, and each set that is stuck, or the certificate of either.
abbrev pub HasOneReply : Option Request → Type 0
HasOneReply (Some (Decide request)) = ⊥
HasOneReply asked = Unit {0}

-- what status 0 means, with the text that is printed
abbrev pub IsRight : Option Request → Files → List ℕ → Type 0
IsRight None files text = ⊥
IsRight (Some (Pair request)) files text = NeverMeet files request
IsRight (Some (Look asked)) files text = (parts : List Part) × AreSoundParts files asked parts
IsRight (Some (Graph request)) files text = (parts : List Part) × AreSoundParts files request.asked parts
IsRight (Some (Plan request)) files text = SaysGoodPlan files request text
IsRight (Some (Check request)) files text = SaysValid files request text
IsRight (Some (Cells request)) files text = SaysCells files request text
IsRight (Some (Drill product)) files text = SaysDrilled product text
IsRight (Some (Explode request)) files text = SaysApart files request text
IsRight (Some (Linear request)) files text = SaysOrder files request text
IsRight (Some (Local request)) files text = SaysBeginning files request text
IsRight (Some (Decide request)) files text = SaysDecidedPlan files request text
IsRight (Some (Confirm request)) files text = SaysShortValid files request text
IsRight (Some (Blocks request)) files text = (parts : List Part) × AreSoundProductParts files request.asked parts

-- what status 1 means, with the text that is printed
abbrev pub IsDenied : Option Request → Files → List ℕ → Type 0
IsDenied (Some (Pair request)) files text = IsNotShown files request
IsDenied (Some (Plan request)) files text = SaysStuckSet files request text
IsDenied (Some (Check request)) files text = SaysNotValid files request text
IsDenied (Some (Explode request)) files text = SaysStuckSet files (plan_asked request) text
IsDenied (Some (Linear request)) files text = SaysLocked files request text
IsDenied (Some (Local request)) files text = SaysTight files request text
IsDenied (Some (Decide request)) files text = SaysDecidedStuck files request text
IsDenied (Some (Confirm request)) files text = SaysShortNotValid files request text
IsDenied asked files text = ⊥
