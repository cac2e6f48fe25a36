-- What a call of `check`, `plan`, `decide` or `confirm` says is so.
use Rattle.std.proofs.Common.{◌≡◌, ◌≢◌, ◌<◌, ◌≤◌, ℕ, List, Option, Some, None, Ok, Err, refl, sym, ◌∙◌, subst, arith, inl, inr}
use Rattle.std.proofs.lemmas.Bool.{cases_lt}
use Rattle.staat_fault.specs.declared.fault.Fault.{Fault}
use Rattle.staat_fault.specs.declared.fault.Fault.TheVariants.{ReadFault}
use Rattle.staat_fault.specs.Faults.{status_of}
use Rattle.staat_words.specs.declared.request.CheckRequest.{CheckRequest}
use Rattle.staat_words.specs.declared.request.DecideRequest.{DecideRequest}
use Rattle.staat_words.specs.declared.request.PlanRequest.{PlanRequest}
use Rattle.staat_words.specs.declared.request.Request.{Request}
use Rattle.staat_words.specs.declared.request.Request.TheVariants.{Check, Confirm, Decide, Plan}
use Rattle.staat_edge.specs.Files.{bytes_of}
use Rattle.staat_input.specs.declared.answer.Answer.{Answer}
use Rattle.staat_input.specs.Work.{Files, answer}
use Rattle.staat_input.specs.Causes.{ShelfSide}
use Rattle.staat_top.specs.Replies.{Reply, WorkOnWords, IsReply, HasOneReply, answered}
use Rattle.staat_top.specs.Headline.{IsLongRefusal, valid_line}
use Rattle.staat_top.specs.Runs.{SinkSide, Took, HasRequestBounds, NoFault, Gave, Judged, Planned, Confirmed, Decided, Headlines}
use Rattle.staat_top.proofs.RightLemmas.{status_is_right, status_is_denied}
use Rattle.staat_top.proofs.HeadlineLemmas.{answered_plan, exactly, is_checked, keeps_rules, valid_reply}
use Rattle.staat_top.proofs.DecideLemmas.{decide_goes_on}
use Rattle.staat_top.proofs.ShortHeadlines.{is_confirmed, keeps_short_rules, short_exactly, valid_short_reply}

-- the work found an answer, which went out whole with its status, and the numbers of the request are within bounds
pub record Printed (asked : Option Request) (files : Files) (out : SinkSide) (status : ℕ) : Type 0 where
  pub bounds : HasRequestBounds asked
  pub answer : Answer
  pub work : WorkOnWords asked files (Ok answer)
  pub is : status ≡ answer.status
  pub took : Took out answer.text

-- the work stands at a fault, with its status, and a file that is to be read is not there
pub record Stops (asked : Option Request) (files : Files) (status : ℕ) : Type 0 where
  pub fault : Fault
  pub is : status ≡ status_of fault
  pub work : WorkOnWords asked files (Err fault)
  pub lacks : (name : List ℕ) → fault ≡ ReadFault name → bytes_of name files ≡ None

-- what the headline of a call rests on
pub record Called (asked : Option Request) (files : Files) (shelf : ShelfSide) (out err : SinkSide) (status : ℕ)
    : Type 0 where
  pub printed : status < 2 → Printed asked files out status
  pub bounds : NoFault shelf out err → status ≢ 7 → HasRequestBounds asked
  pub complete : HasOneReply asked → NoFault shelf out err → status ≢ 7 → (reply : Reply) → IsReply asked files reply → Gave reply out err status
  pub stops : 2 ≤ status → NoFault shelf out err → status ≢ 7 → Stops asked files status

judged : (request : CheckRequest) (files : Files) (shelf : ShelfSide) (out err : SinkSide) (status : ℕ) → Called (Some (Check request)) files shelf out err status → Judged request files shelf out err status
judged request files shelf out err status c = record {
  valid = λ none.
      let p = c.printed (omega (arith, none)) in
      record { text = p.answer.text; took = p.took; is_so = status_is_right (Some (Check request)) files p.answer p.bounds p.work (sym p.is ∙ none) };
  keeps = λ none.
      let p = c.printed (omega (arith, none)) in
      keeps_rules files request p.answer.text (status_is_right (Some (Check request)) files p.answer p.bounds p.work (sym p.is ∙ none));
  breaks = λ one k.
      let p = c.printed (omega (arith, one)) in
      let same : p.answer.status ≡ 0 = (exactly files request (answered p.answer) p.bounds (record { found = Ok p.answer; work = p.work; makes = refl })).1 k in
      absurd (omega (arith, one, p.is, same));
  called = λ k well memory.
      let own = valid_reply files request k in
      (c.complete tt well memory own.reply own.is).is ∙ own.well;
}

plans : (request : PlanRequest) (files : Files) (shelf : ShelfSide) (out err : SinkSide) (status : ℕ) → Called (Some (Plan request)) files shelf out err status → Planned request files shelf out err status
plans request files shelf out err status c = record {
  apart = λ none.
      let p = c.printed (omega (arith, none)) in
      record { text = p.answer.text; took = p.took; is_so = status_is_right (Some (Plan request)) files p.answer p.bounds p.work (sym p.is ∙ none) };
  held = λ one.
      let p = c.printed (omega (arith, one)) in
      record { text = p.answer.text; took = p.took; is_so = status_is_denied (Some (Plan request)) files p.answer p.bounds p.work (sym p.is ∙ one) };
  answers = λ parts are limits well memory.
      let own = answered_plan files request parts (c.bounds well memory) are limits in
      let given = c.complete tt well memory own.0 own.1 in
      subst (λ n. n < 2) (sym given.is) own.2;
  checked = λ others version name asks small.
      let p = c.printed small in record {
        text = p.answer.text;
        took = p.took;
        is_so = λ keeps held.
            subst (λ n. IsReply (Some (Check (record { asked = request.asked; certificate = name }))) others (answered (answer 0 (valid_line n)))) (sym p.is)
            (is_checked files others request version (answered p.answer) name p.bounds asks (record { found = Ok p.answer; work = p.work; makes = refl }) (subst (λ n. n < 2) p.is small) keeps held);
      };
}

decided : (request : DecideRequest) (files : Files) (shelf : ShelfSide) (out err : SinkSide) (status : ℕ) → Called (Some (Decide request)) files shelf out err status → Decided request files shelf out err status
decided request files shelf out err status c = record {
  apart = λ none.
      let p = c.printed (omega (arith, none)) in
      record { text = p.answer.text; took = p.took; is_so = status_is_right (Some (Decide request)) files p.answer p.bounds p.work (sym p.is ∙ none) };
  held = λ one.
      let p = c.printed (omega (arith, one)) in
      record { text = p.answer.text; took = p.took; is_so = status_is_denied (Some (Decide request)) files p.answer p.bounds p.work (sym p.is ∙ one) };
  answers = λ parts are well memory. elim (cases_lt status 2) [
    | inl lt ↦ inl lt
    | inr ge ↦
        let s = c.stops ge well memory in
        inr (subst (λ n. IsLongRefusal parts request n) (sym s.is) (decide_goes_on request files parts s.fault are s.work s.lacks))
  ];
  confirmed = λ others name asks small.
      let p = c.printed small in record {
        text = p.answer.text;
        took = p.took;
        is_so = λ keeps held.
            subst (λ n. IsReply (Some (Confirm (record { asked = request.asked; certificate = name }))) others (answered (answer 0 (valid_line n)))) (sym p.is)
            (is_confirmed files others request (answered p.answer) name asks (record { found = Ok p.answer; work = p.work; makes = refl }) (subst (λ n. n < 2) p.is small) keeps held);
      };
}

confirmed : (request : CheckRequest) (files : Files) (shelf : ShelfSide) (out err : SinkSide) (status : ℕ) → Called (Some (Confirm request)) files shelf out err status → Confirmed request files shelf out err status
confirmed request files shelf out err status c = record {
  valid = λ none.
      let p = c.printed (omega (arith, none)) in
      record { text = p.answer.text; took = p.took; is_so = status_is_right (Some (Confirm request)) files p.answer p.bounds p.work (sym p.is ∙ none) };
  keeps = λ none.
      let p = c.printed (omega (arith, none)) in
      keeps_short_rules files request p.answer.text (status_is_right (Some (Confirm request)) files p.answer p.bounds p.work (sym p.is ∙ none));
  breaks = λ one k.
      let p = c.printed (omega (arith, one)) in
      let same : p.answer.status ≡ 0 = (short_exactly files request (answered p.answer) p.bounds (record { found = Ok p.answer; work = p.work; makes = refl })).1 k in
      absurd (omega (arith, one, p.is, same));
  called = λ k well memory.
      let own = valid_short_reply files request k in
      (c.complete tt well memory own.reply own.is).is ∙ own.well;
}

pub headlines : (asked : Option Request) (files : Files) (shelf : ShelfSide) (out err : SinkSide) (status : ℕ) → Called asked files shelf out err status → Headlines asked files shelf out err status
headlines None files shelf out err status c = tt
headlines (Some (Check request)) files shelf out err status c = judged request files shelf out err status c
headlines (Some (Plan request)) files shelf out err status c = plans request files shelf out err status c
headlines (Some (Decide request)) files shelf out err status c = decided request files shelf out err status c
headlines (Some (Confirm request)) files shelf out err status c = confirmed request files shelf out err status c
headlines (Some request) files shelf out err status c = tt
