-- What statuses 0 and 1 of `plan`, `explode` and `drill` mean.
use Rattle.std.proofs.Common.{true, false, Bool, ◌≡◌, ℕ, List, length, Option, Some, None, refl, ap, sym, ◌∙◌, subst}
use Rattle.std.proofs.Common.{arith, inl, inr}
use Rattle.std.specs.Prelude.{Ok}
use Rattle.staat_vec.specs.declared.vector.V3.{V3}
use Rattle.staat_model.specs.declared.assembly.Part.{Part}
use Rattle.staat_model.specs.Assemblies.{IsAssembly}
use Rattle.staat_model.specs.Texts.{text_of}
use Rattle.staat_model.specs.Outcomes.{Finding, IsOutcome, planned, stuck}
use Rattle.staat_plan.specs.Marks.{MarksHold}
use Rattle.staat_plan.proofs.MarkLemmas.{marks_hold_lemma}
use Rattle.staat_plan.proofs.Right.{right_lemma}
use Rattle.staat_manifest.specs.declared.listing.ListedPart.{ListedPart}
use Rattle.staat_words.specs.declared.request.Asked.{Asked}
use Rattle.staat_words.specs.declared.request.DrillProduct.{DrillProduct}
use Rattle.staat_input.specs.declared.answer.Answer.{Answer}
use Rattle.staat_input.specs.Work.{Files, Found}
use Rattle.staat_input.specs.Inputs.{IsListingOf}
use Rattle.staat_asm.specs.Placing.{shifted}
use Rattle.staat_input.specs.Assembling.{IsTested, overlapping, sound, AreSoundParts}
use Rattle.staat_input.specs.Counting.{all_parts}
use Rattle.staat_model.specs.declared.certificate.Certificate.{Certificate}
use Rattle.staat_model.specs.Certify.{IsCertificateOf}
use Rattle.staat_model.proofs.StuckSets.{stuck_exists}
use Rattle.staat_model.proofs.ValidCertificates.{plan_certificate_valid, refusal_certificate_valid}
use Rattle.staat_certify.specs.Certifying.{IsValidFor}
use Rattle.staat_plan.specs.Planning.{Settles}
use Rattle.staat_words.specs.declared.request.PlanRequest.{PlanRequest}
use Rattle.staat_planning.specs.Planning.{IsPlanned, IsPrinted, certificate, outcome_answer, outcome_status, steps}
use Rattle.staat_planning.specs.Planning.{text_too_long, SaysOutcome, SaysGoodPlan, SaysStuckSet, PlanWork}
use Rattle.staat_model.specs.Reasons.{IsVerdict}
use Rattle.staat_words.specs.declared.request.ExplodeRequest.{ExplodeRequest}
use Rattle.staat_words.specs.Requests.{IsNamedProduct, IsPlanRequest, IsExplodeRequest}
use Rattle.staat_planning.specs.Drills.{IsDrilled, drill_line, drill_too_long, drilled, parts_of_product, SaysDrilled}
use Rattle.staat_planning.specs.Drills.{DrillWork}
use Rattle.staat_planning.proofs.DrillLemmas.{says_drilled}
use Rattle.staat_explode.specs.Shifts.{shifts_of}
use Rattle.staat_explode.proofs.Viewing as view
use Rattle.staat_model.specs.Plans.{IsGood, Plan as Tree}
use Rattle.staat_text.specs.PlanTexts.{plan_text}
use Rattle.staat_input.specs.Drawing.{solids_of}
use Rattle.staat_planning.specs.Exploding.{AreShifted, IsPlanViewed, IsOutcomeViewed, IsViewed, scene, scene_too_long}
use Rattle.staat_planning.specs.Exploding.{shifted_far, shifted_near, vectors, SaysApart, SaysView, plan_asked}
use Rattle.staat_planning.specs.Exploding.{ExplodeWork}
use Rattle.staat_input.proofs.SoundParts.{counted_answer, said, sound_parts, same_answer, same_status, same_points}

-- a certificate of an outcome is valid
pub certified : (parts : List Part) (version : ℕ) (f : Finding) (c : Certificate) → IsAssembly parts → Settles parts (all_parts parts) f → IsCertificateOf parts version f c → IsValidFor parts f c
certified parts version (planned tree marks) c assembly good is = plan_certificate_valid parts version tree marks c good is
certified parts version (stuck w) c assembly settled is = refusal_certificate_valid parts version w c assembly (stuck_exists parts w settled.1) is

same_text : (a b : List ℕ) → ◌≡◌ {A = Found (List ℕ)} (Ok a) (Ok b) → a ≡ b
same_text a b e = cc

-- what is written says the outcome
says_outcome : (parts : List Part) (f : Finding) (version : Option ℕ) (text : List ℕ) → IsAssembly parts → Settles parts (all_parts parts) f → IsPrinted parts f version (Ok text) → SaysOutcome parts f version text
says_outcome parts f None text assembly settled (steps e) = same_text text _ e
says_outcome parts f (Some version) text assembly settled (certificate c is few e) = (c, same_text text _ e, is, certified parts version f c assembly settled is)
says_outcome parts f (Some version) text assembly settled (text_too_long c is many e) = absurd cc

-- the answer of a plan takes all parts apart
plan_is_good : (files : Files) (request : PlanRequest) (parts : List Part) (f : Finding) (text : List ℕ) → AreSoundParts files request.asked parts → IsOutcome request.robust parts (all_parts parts) f → IsPrinted parts f request.certificate (Ok text) → outcome_status f ≡ 0 → SaysGoodPlan files request text
plan_is_good files request parts (planned tree marks) text are outcome written zero =
    let good = right_lemma request.robust parts are.assembly (all_parts parts) (planned tree marks) outcome in
    let hold : request.robust ≡ true → MarksHold parts tree marks = λ robust.
    marks_hold_lemma parts are.assembly (all_parts parts) tree marks (subst (λ b. IsOutcome b parts (all_parts parts) (planned tree marks)) robust outcome) in
    record { parts = parts; sound = are; tree = tree; marks = marks; good = good; marks_hold = hold; says = says_outcome parts (planned tree marks) request.certificate text are.assembly good written }
plan_is_good files request parts (stuck w) text are outcome written zero = absurd (omega (arith, zero))

-- the set that an answer names as stuck is stuck
set_is_stuck : (files : Files) (request : PlanRequest) (parts : List Part) (f : Finding) (text : List ℕ) → AreSoundParts files request.asked parts → IsOutcome request.robust parts (all_parts parts) f → IsPrinted parts f request.certificate (Ok text) → outcome_status f ≡ 1 → SaysStuckSet files request text
set_is_stuck files request parts (planned tree marks) text are outcome written one = absurd (omega (arith, one))
set_is_stuck files request parts (stuck w) text are outcome written one =
    let settled = right_lemma request.robust parts are.assembly (all_parts parts) (stuck w) outcome in
    record { parts = parts; sound = are; set = w; within = settled.0; is_stuck = settled.1; says = says_outcome parts (stuck w) request.certificate text are.assembly settled written }

-- the line of a drill says what it is about
drill_is_said : (product : DrillProduct) (built : List Part) (a : Answer) → IsNamedProduct product → IsTested (parts_of_product product) (Ok built) → IsDrilled product built (Ok a) → SaysDrilled product a.text
drill_is_said product built a is (overlapping arc first e) step = absurd cc
drill_is_said product built a is (sound are e) (drill_too_long f c o k long d) = absurd cc
drill_is_said product built a is (sound are e) (drilled f c v o k short j d) =
    let same : built ≡ parts_of_product product = cc in
    let outcome = subst (λ (ps : List Part). IsOutcome false ps (all_parts ps) f) same o in
    let certificate_is = subst (λ (ps : List Part). IsCertificateOf ps 2 f c) same k in
    let judged = subst (λ (ps : List Part). IsVerdict ps c v) same j in
    let valid : (assembly : IsAssembly (parts_of_product product)) → IsValidFor (parts_of_product product) f c = λ assembly. certified (parts_of_product product) 2 f c assembly (right_lemma false (parts_of_product product) assembly (all_parts (parts_of_product product)) f outcome) certificate_is in
    let text : record { status = 0; text = drill_line product f (length (text_of c)) v } ≡ a = same_answer a (record { status = 0; text = drill_line product f (length (text_of c)) v }) d in
    subst (λ (b : Answer). SaysDrilled product b.text) text (says_drilled product f c v is are valid outcome certificate_is judged)

-- what is written of vectors says them, or shows the files moved by them
view_is_said : (files : Files) (asked : Asked) (named : List ListedPart) (off : Bool) (shifts : List V3) (text : List ℕ) → IsListingOf files asked.input (Ok named) → IsViewed (solids_of files asked.digits named) shifts off (Ok text) → SaysView files asked off shifts text
view_is_said files asked named false shifts text listed (vectors e) = same_text text _ e
view_is_said files asked named true shifts text listed (scene short e) = (named, listed, same_text text _ e)
view_is_said files asked named true shifts text listed (scene_too_long many e) = absurd cc

-- the vectors that are found are those of the plan
shifts_found : (parts : List Part) (plan : Tree) (shifts : List V3) → AreShifted parts plan (Ok shifts) → shifts ≡ shifts_of parts plan
shifts_found parts plan shifts (shifted_far node far e) = absurd cc
shifts_found parts plan shifts (shifted_near near e) = same_points (shifts_of parts plan) shifts (sym e)

plan_is_said : (files : Files) (request : ExplodeRequest) (parts : List Part) (named : List ListedPart) (plan : Tree) (text : List ℕ) → AreSoundParts files request.asked parts → IsListingOf files request.asked.input (Ok named) → IsGood parts (all_parts parts) plan → IsPlanViewed parts (solids_of files request.asked.digits named) request.off plan (Ok text) → SaysApart files request text
plan_is_said files request parts named plan text are listed good (inl (f, at, e)) = absurd cc
plan_is_said files request parts named plan text are listed good (inr (shifts, shifted, viewed)) = record {
  parts = parts;
  sound = are;
  tree = plan;
  good = good;
  sums = view.sums parts plan good;
  apart = view.apart parts plan good;
  says = subst (λ (vs : List V3). SaysView files request.asked request.off vs text) (shifts_found parts plan shifts shifted) (view_is_said files request.asked named request.off shifts text listed viewed);
}

-- what is shown with status 0 is a view of a plan
apart_is_said : (files : Files) (request : ExplodeRequest) (parts : List Part) (named : List ListedPart) (f : Finding) (a : Answer) → AreSoundParts files request.asked parts → IsListingOf files request.asked.input (Ok named) → IsOutcome false parts (all_parts parts) f → IsOutcomeViewed parts (solids_of files request.asked.digits named) request.off f (Ok a) → a.status ≡ 0 → SaysApart files request a.text
apart_is_said files request parts named (stuck w) a are listed outcome e zero = absurd (omega (arith, zero, same_status _ _ e))
apart_is_said files request parts named (planned plan marks) a are listed outcome (inl (f, at, e)) zero = absurd cc
apart_is_said files request parts named (planned plan marks) a are listed outcome (inr (text, viewed, e)) zero =
    subst (λ (b : Answer). SaysApart files request b.text) (same_answer a (outcome_answer (planned plan marks) text) e)
    (plan_is_said files request parts named plan text are listed (right_lemma false parts are.assembly (all_parts parts) (planned plan marks) outcome) viewed)

-- with status 1 it is a set that is stuck
stuck_is_said : (files : Files) (request : ExplodeRequest) (parts : List Part) (named : List ListedPart) (f : Finding) (a : Answer) → AreSoundParts files request.asked parts → IsOutcome false parts (all_parts parts) f → IsOutcomeViewed parts (solids_of files request.asked.digits named) request.off f (Ok a) → a.status ≡ 1 → SaysStuckSet files (plan_asked request) a.text
stuck_is_said files request parts named (stuck w) a are outcome e one =
    subst (λ (b : Answer). SaysStuckSet files (plan_asked request) b.text) (same_answer a (outcome_answer (stuck w) (plan_text (stuck w))) e)
    (set_is_stuck files (plan_asked request) parts (stuck w) (plan_text (stuck w)) are outcome (steps refl) refl)
stuck_is_said files request parts named (planned plan marks) a are outcome (inl (f, at, e)) one = absurd cc
stuck_is_said files request parts named (planned plan marks) a are outcome (inr (text, viewed, e)) one = absurd (omega (arith, one, same_status _ _ e))

pub plan_is_right : (request : PlanRequest) (files : Files) (a : Answer) → IsPlanRequest request → PlanWork request files (Ok a) → a.status ≡ 0 → SaysGoodPlan files request a.text
plan_is_right request files a bounds work zero =
    let (parts, are, p) = counted_answer files request.asked request.planes (λ parts. IsPlanned parts request.robust request.certificate) a bounds.0 work in
    elim p.written [
      | inl (fault, at, e) ↦ absurd cc
      | inr (text, written, e) ↦ said (SaysGoodPlan files request) (outcome_answer p.finding text) a e
          (λ same. plan_is_good files request parts p.finding text are p.outcome written (same ∙ zero))
    ]

pub plan_is_denied : (request : PlanRequest) (files : Files) (a : Answer) → IsPlanRequest request → PlanWork request files (Ok a) → a.status ≡ 1 → SaysStuckSet files request a.text
plan_is_denied request files a bounds work one =
    let (parts, are, p) = counted_answer files request.asked request.planes (λ parts. IsPlanned parts request.robust request.certificate) a bounds.0 work in
    elim p.written [
      | inl (fault, at, e) ↦ absurd cc
      | inr (text, written, e) ↦ said (SaysStuckSet files request) (outcome_answer p.finding text) a e
          (λ same. set_is_stuck files request parts p.finding text are p.outcome written (same ∙ one))
    ]

pub explode_is_right : (request : ExplodeRequest) (files : Files) (a : Answer) → IsExplodeRequest request → ExplodeWork request files (Ok a) → a.status ≡ 0 → SaysApart files request a.text
explode_is_right request files a bounds (inl (fault, at, e)) zero = absurd cc
explode_is_right request files a bounds (inr (built, found, inl (fault, at, e))) zero = absurd cc
explode_is_right request files a bounds (inr (built, found, inr (planes, counted, p))) zero =
    apart_is_said files request built p.named p.finding a (sound_parts files request.asked built bounds.0 found) p.listed p.outcome p.shown zero

pub explode_is_denied : (request : ExplodeRequest) (files : Files) (a : Answer) → IsExplodeRequest request → ExplodeWork request files (Ok a) → a.status ≡ 1 → SaysStuckSet files (plan_asked request) a.text
explode_is_denied request files a bounds (inl (fault, at, e)) one = absurd cc
explode_is_denied request files a bounds (inr (built, found, inl (fault, at, e))) one = absurd cc
explode_is_denied request files a bounds (inr (built, found, inr (planes, counted, p))) one =
    stuck_is_said files request built p.named p.finding a (sound_parts files request.asked built bounds.0 found) p.outcome p.shown one

pub drill_is_right : (product : DrillProduct) (files : Files) (a : Answer) → IsNamedProduct product → DrillWork product files (Ok a) → a.status ≡ 0 → SaysDrilled product a.text
drill_is_right product files a bounds (inl (fault, at, e)) zero = absurd cc
drill_is_right product files a bounds (inr (built, found, inl (fault, at, e))) zero = absurd cc
drill_is_right product files a bounds (inr (built, found, inr (planes, counted, step))) zero = drill_is_said product built a bounds found step

pub drill_is_denied : (product : DrillProduct) (files : Files) (a : Answer) → IsNamedProduct product → DrillWork product files (Ok a) → a.status ≡ 1 → ⊥
drill_is_denied product files a bounds (inl (fault, at, e)) one = absurd cc
drill_is_denied product files a bounds (inr (built, found, inl (fault, at, e))) one = absurd cc
drill_is_denied product files a bounds (inr (built, found, inr (planes, counted, drilled f c v o k short j e))) one = absurd (omega (arith, one, same_status _ _ e))
drill_is_denied product files a bounds (inr (built, found, inr (planes, counted, drill_too_long f c o k long e))) one = absurd cc
