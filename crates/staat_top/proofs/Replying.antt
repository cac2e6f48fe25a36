-- Which replies are those of answers.
use Rattle.std.proofs.Common.{◌≡◌, ◌<◌, ◌≤◌, Option, Ok, Err, ap, arith}
use Rattle.staat_fault.specs.declared.fault.Fault.{Fault}
use Rattle.staat_fault.specs.declared.fault.Fault.TheVariants.{Usage, ReadFault, TooLong, TooManyPlanes, TextTooLong, WriteFault, OutOfMemory}
use Rattle.staat_fault.specs.Faults.{status_of}
use Rattle.staat_words.specs.declared.request.Request.{Request}
use Rattle.staat_input.specs.declared.answer.Answer.{Answer}
use Rattle.staat_input.specs.Work.{Files, Found}
use Rattle.staat_top.specs.Replies.{MakesReply, Reply, WorkOnWords, answered}

pub least_status : (fault : Fault) → 2 ≤ status_of fault
least_status Usage = omega arith
least_status (ReadFault name) = omega arith
least_status (TooLong name) = omega arith
least_status (TooManyPlanes found) = omega arith
least_status (TextTooLong length) = omega arith
least_status WriteFault = omega arith
least_status OutOfMemory = omega arith
least_status fault = omega arith

-- a reply with status 0 or 1 is that of an answer
pub answer_in : (asked : Option Request) (files : Files) (found : Found Answer) (reply : Reply) → WorkOnWords asked files found → MakesReply found reply → reply.status < 2 → (a : Answer) × WorkOnWords asked files (Ok a) × (reply ≡ answered a)
answer_in asked files (Ok a) reply work makes lt = (a, work, makes)
answer_in asked files (Err (ReadFault name)) reply work makes lt = absurd makes
answer_in asked files (Err f) reply work makes lt = absurd (omega (arith, lt, least_status f, ap (λ (r : Reply). r.status) makes))
