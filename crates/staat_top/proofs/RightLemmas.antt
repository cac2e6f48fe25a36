-- What statuses 0 and 1 mean.
use Rattle.std.proofs.Common.{◌≡◌, Option, Some, None}
use Rattle.std.specs.Prelude.{Ok}
use Rattle.staat_words.specs.declared.request.Request.{Request}
use Rattle.staat_words.specs.declared.request.Request.TheVariants.{Pair, Look, Graph, Plan, Check, Cells, Drill}
use Rattle.staat_words.specs.declared.request.Request.TheVariants.{Explode, Linear, Local, Decide, Confirm, Blocks}
use Rattle.staat_input.specs.declared.answer.Answer.{Answer}
use Rattle.staat_input.specs.Work.{Files}
use Rattle.staat_top.specs.Runs.{HasRequestBounds}
use Rattle.staat_top.specs.Replies.{WorkOnWords, IsRight, IsDenied}
use Rattle.staat_directions.proofs.RightAnswers.{pair_is_right, pair_is_denied, look_is_right, look_is_denied}
use Rattle.staat_directions.proofs.RightAnswers.{graph_is_right, graph_is_denied, cells_is_right, cells_is_denied}
use Rattle.staat_planning.proofs.RightAnswers.{plan_is_right, plan_is_denied, explode_is_right, explode_is_denied}
use Rattle.staat_planning.proofs.RightAnswers.{drill_is_right, drill_is_denied}
use Rattle.staat_judging.proofs.RightAnswers.{check_is_right, check_is_denied}
use Rattle.staat_judging.proofs.RightShortAnswers.{confirm_is_right, confirm_is_denied}
use Rattle.staat_orders.proofs.RightAnswers.{linear_is_right, linear_is_denied, local_is_right, local_is_denied}
use Rattle.staat_deciding.proofs.RightAnswers.{blocks_is_right, blocks_is_denied}
use Rattle.staat_top.proofs.DecideLemmas.{decide_is_right, decide_is_denied}

pub status_is_right : (asked : Option Request) (files : Files) (a : Answer) → HasRequestBounds asked → WorkOnWords asked files (Ok a) → a.status ≡ 0 → IsRight asked files a.text
status_is_right None files a bounds e zero = absurd cc
status_is_right (Some (Pair request)) files a bounds work zero = pair_is_right request files a bounds work zero
status_is_right (Some (Look asked)) files a bounds work zero = look_is_right asked files a bounds work zero
status_is_right (Some (Graph request)) files a bounds work zero = graph_is_right request files a bounds work zero
status_is_right (Some (Cells request)) files a bounds work zero = cells_is_right request files a bounds work zero
status_is_right (Some (Plan request)) files a bounds work zero = plan_is_right request files a bounds work zero
status_is_right (Some (Explode request)) files a bounds work zero = explode_is_right request files a bounds work zero
status_is_right (Some (Drill product)) files a bounds work zero = drill_is_right product files a bounds work zero
status_is_right (Some (Check request)) files a bounds work zero = check_is_right request files a bounds work zero
status_is_right (Some (Linear request)) files a bounds work zero = linear_is_right request files a bounds work zero
status_is_right (Some (Local request)) files a bounds work zero = local_is_right request files a bounds work zero
status_is_right (Some (Decide request)) files a bounds work zero = decide_is_right request files a bounds work zero
status_is_right (Some (Confirm request)) files a bounds work zero = confirm_is_right request files a bounds work zero
status_is_right (Some (Blocks request)) files a bounds work zero = blocks_is_right request files a bounds work zero

pub status_is_denied : (asked : Option Request) (files : Files) (a : Answer) → HasRequestBounds asked → WorkOnWords asked files (Ok a) → a.status ≡ 1 → IsDenied asked files a.text
status_is_denied None files a bounds e one = absurd cc
status_is_denied (Some (Pair request)) files a bounds work one = pair_is_denied request files a bounds work one
status_is_denied (Some (Look asked)) files a bounds work one = look_is_denied asked files a bounds work one
status_is_denied (Some (Graph request)) files a bounds work one = graph_is_denied request files a bounds work one
status_is_denied (Some (Cells request)) files a bounds work one = cells_is_denied request files a bounds work one
status_is_denied (Some (Plan request)) files a bounds work one = plan_is_denied request files a bounds work one
status_is_denied (Some (Explode request)) files a bounds work one = explode_is_denied request files a bounds work one
status_is_denied (Some (Drill product)) files a bounds work one = drill_is_denied product files a bounds work one
status_is_denied (Some (Check request)) files a bounds work one = check_is_denied request files a bounds work one
status_is_denied (Some (Linear request)) files a bounds work one = linear_is_denied request files a bounds work one
status_is_denied (Some (Local request)) files a bounds work one = local_is_denied request files a bounds work one
status_is_denied (Some (Decide request)) files a bounds work one = decide_is_denied request files a bounds work one
status_is_denied (Some (Confirm request)) files a bounds work one = confirm_is_denied request files a bounds work one
status_is_denied (Some (Blocks request)) files a bounds work one = blocks_is_denied request files a bounds work one
