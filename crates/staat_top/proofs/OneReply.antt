-- There is one reply to a request over some files, but where any plan is right, and none where a file that is reached
-- is not there.
use Rattle.std.proofs.Common.{◌≡◌, ℕ, List, Option, Some, None, sym, ◌∙◌, subst}
use Rattle.std.specs.Prelude.{Ok, Err}
use Rattle.staat_fault.specs.declared.fault.Fault.TheVariants.{Usage, ReadFault}
use Rattle.staat_edge.specs.Files.{bytes_of}
use Rattle.staat_words.specs.declared.request.Request.{Request}
use Rattle.staat_words.specs.declared.request.Request.TheVariants.{Pair, Look, Graph, Plan, Check, Cells, Drill}
use Rattle.staat_words.specs.declared.request.Request.TheVariants.{Explode, Linear, Local, Decide, Confirm, Blocks}
use Rattle.staat_input.specs.declared.answer.Answer.{Answer}
use Rattle.staat_input.specs.Work.{Files, Found}
use Rattle.staat_top.specs.Replies.{WorkOn, WorkOnWords, Reply, MakesReply, IsReply, HasOneReply}
use Rattle.staat_input.proofs.OneFinding.{IsSettled, FindsOne}
use Rattle.staat_directions.proofs.OneAnswer.{pair_one, look_one, graph_one, cells_one}
use Rattle.staat_planning.proofs.OneAnswer.{plan_one, explode_one, drill_one}
use Rattle.staat_judging.proofs.OneAnswer.{check_one}
use Rattle.staat_judging.proofs.OneShortAnswer.{confirm_one}
use Rattle.staat_orders.proofs.OneAnswer.{linear_one, local_one}
use Rattle.staat_deciding.proofs.OneAnswer.{blocks_one}
use Rattle.staat_top.proofs.DecideLemmas.{decide_reads}

work_one : (request : Request) (files : Files) → HasOneReply (Some request) → FindsOne files (WorkOn request files)
work_one (Pair request) files own = pair_one request files
work_one (Look asked) files own = look_one asked files
work_one (Graph request) files own = graph_one request files
work_one (Cells request) files own = cells_one request files
work_one (Plan request) files own = plan_one request files
work_one (Explode request) files own = explode_one request files
work_one (Drill product) files own = drill_one product files
work_one (Check request) files own = check_one request files
work_one (Linear request) files own = linear_one request files
work_one (Local request) files own = local_one request files
work_one (Decide request) files own = absurd own
work_one (Confirm request) files own = confirm_one request files
work_one (Blocks request) files own = blocks_one request files

pub words_one : (asked : Option Request) (files : Files) → HasOneReply asked → FindsOne files (WorkOnWords asked files)
words_one None files own = record { one = λ f g a b sf sg. a ∙ sym b; held = λ name f at lacks step settled. absurd (usage_reads name at) }
  where
    usage_reads : (name : List ℕ) → ◌≡◌ {A = Found Answer} (Err (ReadFault name)) (Err Usage) → ⊥
    usage_reads name e = cc
words_one (Some request) files own = work_one request files own

pub makes_settled : (found : Found Answer) (reply : Reply) → MakesReply found reply → IsSettled found
makes_settled (Ok a) reply h = tt
makes_settled (Err (ReadFault name)) reply h = h
makes_settled (Err f) reply h = tt

makes_one : (found : Found Answer) (r s : Reply) → MakesReply found r → MakesReply found s → r ≡ s
makes_one (Ok a) r s h k = h ∙ sym k
makes_one (Err (ReadFault name)) r s h k = absurd h
makes_one (Err f) r s h k = h ∙ sym k

-- there is one reply
pub one_reply : (asked : Option Request) (files : Files) (r s : Reply) → HasOneReply asked → IsReply asked files r → IsReply asked files s → r ≡ s
one_reply asked files r s own a b =
    let same : a.found ≡ b.found = (words_one asked files own).one a.found b.found a.work b.work (makes_settled a.found r a.makes) (makes_settled b.found s b.makes) in
    makes_one b.found r s (subst (λ found. MakesReply found r) same a.makes) b.makes

-- where a file is to be read and is not there, the work finds nothing
work_reads : (asked : Option Request) (files : Files) (name : List ℕ) (f : Found Answer) → WorkOnWords asked files (Err (ReadFault name)) → bytes_of name files ≡ None → WorkOnWords asked files f → IsSettled f → ⊥
work_reads (Some (Decide request)) files name f at lacks work settled = decide_reads request files name f at lacks work settled
work_reads asked files name f at lacks work settled = (words_one asked files tt).held name f at lacks work settled

-- where a file is to be read and is not there, there is no reply
pub no_reply : (asked : Option Request) (files : Files) (name : List ℕ) (r : Reply) → WorkOnWords asked files (Err (ReadFault name)) → bytes_of name files ≡ None → IsReply asked files r → ⊥
no_reply asked files name r at lacks is = work_reads asked files name is.found at lacks is.work (makes_settled is.found r is.makes)
