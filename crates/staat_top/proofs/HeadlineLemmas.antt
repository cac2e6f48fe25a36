-- What the answers of `check`, `plan`, `decide` and `confirm` mean.
use Rattle.std.proofs.Common.{◌≡◌, ◌∙◌, ◌↔◌, ◌⊎◌, ◌<◌, ◌≤◌, ℕ, List, length, Option, Some, None, Ok, refl, sym, ap, subst, arith, inl, inr}
use Rattle.staat_model.specs.declared.assembly.Part.{Part}
use Rattle.staat_model.specs.declared.certificate.Certificate.{Certificate}
use Rattle.staat_model.specs.declared.verdict.Verdict.{Verdict}
use Rattle.staat_model.specs.declared.verdict.Verdict.TheVariants.{ValidPlan, ValidRefusal}
use Rattle.staat_limits.specs.declared.limits.TheConstants.{TEXT_LIMIT}
use Rattle.staat_model.specs.Assemblies.{IsAssembly}
use Rattle.staat_model.specs.Certify.{IsCertificateOf}
use Rattle.std.specs.Prelude.{IfSome}
use Rattle.staat_limits.specs.Versions.{IsVersion}
use Rattle.staat_model.specs.Outcomes.{Finding, IsOutcome, planned, stuck}
use Rattle.staat_model.specs.Texts.{text_of}
use Rattle.staat_model.specs.Certificates.{IsValidPlan, IsValidRefusal}
use Rattle.staat_model.specs.Reasons.{IsVerdict}
use Rattle.staat_edge.specs.Files.{bytes_of}
use Rattle.staat_words.specs.declared.request.CheckRequest.{CheckRequest}
use Rattle.staat_words.specs.declared.request.PlanRequest.{PlanRequest}
use Rattle.staat_words.specs.declared.request.Request.TheVariants.{Check, Plan}
use Rattle.staat_words.specs.Requests.{IsAsked, IsPlanRequest}
use Rattle.staat_input.specs.declared.answer.Answer.{Answer}
use Rattle.staat_input.specs.Work.{Files}
use Rattle.staat_input.specs.Assembling.{sound}
use Rattle.staat_judging.specs.Checking.{verdict_answer}
use Rattle.staat_input.specs.declared.limits.TheConstants.Limits.{ASSEMBLY}
use Rattle.staat_input.specs.Kept.{KeepsNamed}
use Rattle.staat_planning.specs.Planning.{IsPrinted, certificate, outcome_answer, outcome_status, steps}
use Rattle.staat_input.specs.Counting.{few}
use Rattle.staat_text.specs.PlanTexts.{plan_text}
use Rattle.staat_input.specs.Assembling.{AreSoundParts}
use Rattle.staat_top.specs.Replies.{IsReply, Reply, WorkOn, answered}
use Rattle.staat_planning.specs.Planning.{SaysGoodPlan, SaysStuckSet}
use Rattle.staat_judging.specs.Checking.{SaysValid, ShowsValid, valid_plan, valid_refusal}
use Rattle.staat_input.specs.Work.{answer}
use Rattle.staat_top.specs.Headline.{Headline, IsWithinLimits, KeepsRules, valid_line}
use Rattle.staat_judging.proofs.RightShortAnswers.{plan_shown as short_plan_shown, refusal_shown as short_refusal_shown}
use Rattle.staat_top.proofs.OneReply.{one_reply}
use Rattle.staat_top.proofs.Replying.{answer_in}
use Rattle.staat_top.proofs.ShortHeadlines.{decides, is_confirmed, is_decided, is_denied, short_exactly}
use Rattle.staat_judging.proofs.RightAnswers.{plan_shown, refusal_shown}
use Rattle.staat_top.proofs.RightLemmas.{status_is_right, status_is_denied}
use Rattle.staat_input.specs.Counting.{all_parts}
use Rattle.staat_plan.proofs.OutcomeSizes.{outcome_certified}
use Rattle.staat_plan.proofs.Right.{right_lemma}
use Rattle.staat_certify.proofs.SomeRefusal.{some_refusal_certificate}
use Rattle.staat_planning.proofs.SomeOutcome.{some_outcome}
use Rattle.staat_top.proofs.PrintedLemmas.{printed_is_valid}

pub keeps_rules : (files : Files) (request : CheckRequest) (text : List ℕ) → SaysValid files request text → KeepsRules files request
keeps_rules files request text says = record { parts = says.parts; sound = says.sound; certificate = says.certificate; held = says.held; valid = go says.shows }
  where
    go : ShowsValid says.parts says.certificate text → IsValidPlan says.parts says.certificate ⊎ IsValidRefusal says.parts says.certificate
    go (valid_plan h shown e) = inl h
    go (valid_refusal h shown e) = inr h

-- a reply with status 0
pub record RepliesWell (request : CheckRequest) (files : Files) : Type 0 where
  pub reply : Reply
  pub is : IsReply (Some (Check request)) files reply
  pub well : reply.status ≡ 0

-- the verdict on a certificate makes the reply
verdict_reply : (files : Files) (request : CheckRequest) (v : Verdict) (k : KeepsRules files request) → IsVerdict k.parts k.certificate v → (verdict_answer v).status ≡ 0 → RepliesWell request files
verdict_reply files request v k right none = record {
  reply = answered (verdict_answer v);
  is = record {
    found = Ok (verdict_answer v);
    work = inr (k.parts, inr (k.parts, k.sound.named, sound k.sound.sound refl), inr (k.certificate, k.held, record { verdict = v; right = right; is = refl }));
    makes = refl;
  };
  well = none;
}

-- a certificate that keeps the rules has one
pub valid_reply : (files : Files) (request : CheckRequest) → KeepsRules files request → RepliesWell request files
valid_reply files request k = elim k.valid [ inl h ↦ verdict_reply files request ValidPlan k h refl | inr h ↦ verdict_reply files request ValidRefusal k h refl ]

pub exactly : (files : Files) (request : CheckRequest) (reply : Reply) → IsAsked request.asked → IsReply (Some (Check request)) files reply → (reply.status ≡ 0) ↔ KeepsRules files request
exactly files request reply bounds is = (there, back)
  where
    there : reply.status ≡ 0 → KeepsRules files request
    there none =
        let found = answer_in (Some (Check request)) files is.found reply is.work is.makes (omega (arith, none)) in
        keeps_rules files request found.0.text (status_is_right (Some (Check request)) files found.0 bounds found.1 (sym (ap (λ (r : Reply). r.status) found.2) ∙ none))

    back : KeepsRules files request → reply.status ≡ 0
    back k = let own = valid_reply files request k in ap (λ (r : Reply). r.status) (one_reply (Some (Check request)) files reply own.reply tt is own.is) ∙ own.well

is_planned : (files : Files) (request : PlanRequest) (reply : Reply) → IsPlanRequest request → IsReply (Some (Plan request)) files reply → reply.status ≡ 0 → SaysGoodPlan files request reply.out
is_planned files request reply bounds is none =
    let found = answer_in (Some (Plan request)) files is.found reply is.work is.makes (omega (arith, none)) in
    let status : found.0.status ≡ 0 = sym (ap (λ (r : Reply). r.status) found.2) ∙ none in
    subst (SaysGoodPlan files request) (sym (ap (λ (r : Reply). r.out) found.2)) (status_is_right (Some (Plan request)) files found.0 bounds found.1 status)

is_held : (files : Files) (request : PlanRequest) (reply : Reply) → IsPlanRequest request → IsReply (Some (Plan request)) files reply → reply.status ≡ 1 → SaysStuckSet files request reply.out
is_held files request reply bounds is one =
    let found = answer_in (Some (Plan request)) files is.found reply is.work is.makes (omega (arith, one)) in
    let status : found.0.status ≡ 1 = sym (ap (λ (r : Reply). r.status) found.2) ∙ one in
    subst (SaysStuckSet files request) (sym (ap (λ (r : Reply). r.out) found.2)) (status_is_denied (Some (Plan request)) files found.0 bounds found.1 status)

-- the answer of a plan is one whose certificate `check` calls valid
pub is_checked : (files others : Files) (request : PlanRequest) (version : ℕ) (reply : Reply) (name : List ℕ) → IsPlanRequest request → request.certificate ≡ Some version → IsReply (Some (Plan request)) files reply → reply.status < 2
    → KeepsNamed ASSEMBLY files others request.asked.input → bytes_of name others ≡ Some reply.out → IsReply (Some (Check (record { asked = request.asked; certificate = name }))) others (answered (answer 0 (valid_line reply.status)))
is_checked files others request version reply name bounds asks is lt keeps held =
    let found = answer_in (Some (Plan request)) files is.found reply is.work is.makes lt in go found.0 found.1 found.2
  where
    go : (a : Answer) → WorkOn (Plan request) files (Ok a) → reply ≡ answered a → IsReply (Some (Check (record { asked = request.asked; certificate = name }))) others (answered (answer 0 (valid_line reply.status)))
    go a (inl (fault, at, e)) same = absurd cc
    go a (inr (parts, read, inl (fault, at, e))) same = absurd cc
    go a (inr (parts, read, inr (planes, counted, p))) same = elim p.written [
      | inl (fault, at, e) ↦ absurd cc
      | inr (text, written, e) ↦
          let own : a ≡ outcome_answer p.finding text = cc in
          let all : reply ≡ answered (outcome_answer p.finding text) = same ∙ ap answered own in
          subst (λ (r : Reply). IsReply (Some (Check (record { asked = request.asked; certificate = name }))) others (answered (answer 0 (valid_line r.status)))) (sym all)
          (printed_is_valid files others request version name parts planes p.finding text bounds asks keeps (held ∙ ap (λ (r : Reply). Some r.out) all) read counted p.outcome written)
    ]

-- what is written of an outcome that was found
written_of : (parts : List Part) (f : Finding) (o : Option ℕ) → ((version : ℕ) → o ≡ Some version → (c : Certificate) × IsCertificateOf parts version f c × (length (text_of c) ≤ TEXT_LIMIT)) → (text : List ℕ) × IsPrinted parts f o (Ok text)
written_of parts f None short = (plan_text f, steps refl)
written_of parts f (Some version) short = let c = short version refl in (text_of c.0, certificate c.0 c.1 c.2 refl)

-- what is found has a certificate, and it is not too long: that of a plan never is
short_certificate : (request : PlanRequest) (parts : List Part) (f : Finding) → IsPlanRequest request → IsAssembly parts → IsWithinLimits parts request → IsOutcome request.robust parts (all_parts parts) f
    → (version : ℕ) → request.certificate ≡ Some version → (c : Certificate) × IsCertificateOf parts version f c × (length (text_of c) ≤ TEXT_LIMIT)
short_certificate request parts (planned plan marks) bounds is limits outcome version asks =
    outcome_certified parts is request.robust version plan marks (subst (λ o. IfSome o IsVersion) asks bounds.4) outcome
short_certificate request parts (stuck w) bounds is limits outcome version asks =
    let (c, is_of) = some_refusal_certificate parts version w is (right_lemma request.robust parts is (all_parts parts) (stuck w) outcome).1 in
    (c, is_of, limits.short version w c asks outcome is_of)

pub answered_plan : (files : Files) (request : PlanRequest) (parts : List Part) → IsPlanRequest request → AreSoundParts files request.asked parts → IsWithinLimits parts request → (reply : Reply) × IsReply (Some (Plan request)) files reply × (reply.status < 2)
answered_plan files request parts bounds are limits =
    let o = some_outcome request.robust parts are.assembly (λ robust. record { planes = limits.planes; planes_are = limits.planes_are; few = limits.cells robust }) in
    let w = written_of parts o.0 request.certificate (short_certificate request parts o.0 bounds are.assembly limits o.1) in (
      answered (outcome_answer o.0 w.0),
      record {
        found = Ok (outcome_answer o.0 w.0);
        work = inr (parts, inr (parts, are.named, sound are.sound refl), inr (limits.planes, few limits.planes limits.planes_are limits.few refl, record { finding = o.0; outcome = o.1; written = inr (w.0, w.1, refl) }));
        makes = refl;
      },
      small o.0,
    )
  where
    small : (f : Finding) → outcome_status f < 2
    small (planned plan marks) = omega arith
    small (stuck w) = omega arith

pub headline : Headline
headline = record {
  exact = exactly;
  plans = λ parts c is h. plan_shown parts c.version c.parts c.body is h;
  refusals = λ parts c is h. refusal_shown parts c.version c.parts c.body is h;
  planned = is_planned;
  held = is_held;
  answers = answered_plan;
  checked = is_checked;
  decided = is_decided;
  denied = is_denied;
  decides = decides;
  confirms = short_exactly;
  short_plans = λ parts c is order h. short_plan_shown parts c is.each order h;
  short_refusals = λ parts c is order h. short_refusal_shown parts c is.each order h;
  short_checked = is_confirmed;
}
