-- What the work on a plan, an exploded view or a drill finds is one thing.
use Rattle.std.proofs.Common.{true, false, ◌≡◌, ℕ, Bool, List, length, Option, Some, None, ap, sym, ◌∙◌, subst, arith}
use Rattle.std.specs.Prelude.{Ok, Err}
use Rattle.std.proofs.lemmas.List.Elements.{All-contains}
use Rattle.staat_vec.proofs.Unique.{IsFirst-in, IsFirst-unique}
use Rattle.staat_model.specs.declared.assembly.Part.{Part}
use Rattle.staat_model.specs.declared.certificate.Certificate.{Certificate}
use Rattle.staat_model.specs.Outcomes.{Finding, IsOutcome, planned, stuck}
use Rattle.staat_model.specs.Texts.{text_of}
use Rattle.staat_model.proofs.OneCertificate.{IsCertificateOf-unique}
use Rattle.staat_model.proofs.OneOutcome.{IsOutcome-unique}
use Rattle.staat_limits.specs.declared.limits.TheConstants.{MOST_PLANES}
use Rattle.staat_fault.specs.declared.fault.Fault.TheVariants.{ReadFault, TextTooLong, TooFar}
use Rattle.staat_manifest.specs.declared.listing.ListedPart.{ListedPart}
use Rattle.staat_vec.specs.declared.vector.V3.{V3}
use Rattle.staat_words.specs.declared.request.DrillProduct.{DrillProduct}
use Rattle.staat_input.specs.declared.answer.Answer.{Answer}
use Rattle.staat_input.specs.Work.{Files, Found, Then, answer}
use Rattle.staat_input.specs.Inputs.{IsListingOf}
use Rattle.staat_input.specs.Assembling.{IsTested, IsSoundOf}
use Rattle.staat_input.specs.Counting.{AreCounted, all_parts}
use Rattle.staat_model.specs.declared.verdict.Verdict.{Verdict}
use Rattle.staat_model.specs.Certify.{IsCertificateOf}
use Rattle.staat_model.specs.Reasons.{IsVerdict}
use Rattle.staat_planning.specs.Drills.{IsDrilled, drill_line, drill_too_long, drilled, parts_of_product, DrillWork}
use Rattle.staat_planning.specs.Planning.{IsPlanned, IsPrinted, certificate, outcome_answer, steps, text_too_long}
use Rattle.staat_planning.specs.Planning.{PlanWork}
use Rattle.staat_model.proofs.OneReason.{IsVerdict-unique}
use Rattle.staat_model.specs.Plans.{Plan as Tree}
use Rattle.staat_explode.specs.declared.scene.Solid.{Solid}
use Rattle.staat_explode.specs.Boxes.{boxes_of}
use Rattle.staat_explode.specs.Splits.{AllNear, IsFar, IsTooFarAt, SplitAt, splits_from}
use Rattle.staat_words.specs.declared.request.ExplodeRequest.{ExplodeRequest}
use Rattle.staat_input.specs.Drawing.{solids_of}
use Rattle.staat_planning.specs.Exploding.{AreShifted, IsExploded, IsPlanViewed, IsOutcomeViewed, IsViewed, scene}
use Rattle.staat_planning.specs.Exploding.{scene_too_long, shifted_far, shifted_near, vectors, ExplodeWork}
use Rattle.staat_input.proofs.OneFinding.{FindsOne, then_one, known_one, given_one}
use Rattle.staat_input.proofs.OneInput.{listing_one, tested_one, sound_one, counted_one}
use Rattle.staat_words.specs.declared.request.PlanRequest.{PlanRequest}

written_one : (files : Files) (parts : List Part) (finding : Finding) (version : Option ℕ) → FindsOne files (IsPrinted parts finding version)
written_one files parts finding version = record { one = λ f g a b sf sg. one version f g a b; held = λ name f at lacks step settled. no_read version name at }
  where
    one : (version : Option ℕ) (f g : Found (List ℕ)) → IsPrinted parts finding version f → IsPrinted parts finding version g → f ≡ g
    one None f g (steps e) (steps d) = e ∙ sym d
    one (Some v) f g (certificate c is short e) (certificate d also fits h) =
        e ∙ ap (λ (x : Certificate). Ok (text_of x)) (IsCertificateOf-unique parts v finding c d is also) ∙ sym h
    one (Some v) f g (certificate c is short e) (text_too_long d also many h) =
        let same : c ≡ d = IsCertificateOf-unique parts v finding c d is also in absurd (omega (arith, short, many, ap (λ (x : Certificate). length (text_of x)) same))
    one (Some v) f g (text_too_long c is many e) (certificate d also short h) =
        let same : c ≡ d = IsCertificateOf-unique parts v finding c d is also in absurd (omega (arith, short, many, ap (λ (x : Certificate). length (text_of x)) same))
    one (Some v) f g (text_too_long c is many e) (text_too_long d also much h) =
        e ∙ ap (λ (x : Certificate). Err (TextTooLong (length (text_of x)))) (IsCertificateOf-unique parts v finding c d is also) ∙ sym h

    no_read : (version : Option ℕ) (name : List ℕ) → IsPrinted parts finding version (Err (ReadFault name)) → ⊥
    no_read None name (steps e) = absurd cc
    no_read (Some v) name (certificate c is short e) = absurd cc
    no_read (Some v) name (text_too_long c is many e) = absurd cc

planned_one : (files : Files) (parts : List Part) (robust : Bool) (version : Option ℕ) → FindsOne files (IsPlanned parts robust version)
planned_one files parts robust version = record {
  one = λ f g a b sf sg. (writes b.finding).one f g (written_as f a b.finding b.outcome) b.written sf sg;
  held = λ name f at lacks step settled. (writes step.finding).held name f (written_as (Err (ReadFault name)) at step.finding step.outcome) lacks step.written settled;
}
  where
    writes : (finding : Finding) → FindsOne files (Then (IsPrinted parts finding version) (λ text found. found ≡ Ok (outcome_answer finding text)))
    writes finding = then_one files (IsPrinted parts finding version) _ (written_one files parts finding version) (λ text. known_one files (outcome_answer finding text))

    written_as : (f : Found Answer) (p : IsPlanned parts robust version f) (finding : Finding) → IsOutcome robust parts (all_parts parts) finding → Then (IsPrinted parts finding version) (λ text found. found ≡ Ok (outcome_answer finding text)) f
    written_as f p finding outcome =
        subst (λ (x : Finding). Then (IsPrinted parts x version) (λ text found. found ≡ Ok (outcome_answer x text)) f) (IsOutcome-unique robust parts p.outcome outcome) p.written

drilled_one : (files : Files) (product : DrillProduct) (parts : List Part) → FindsOne files (IsDrilled product parts)
drilled_one files product parts = record { one = λ f g a b sf sg. one f g a b; held = λ name f at lacks step settled. no_read name at }
  where
    same_certificate : (x y : Finding) (c d : Certificate) → IsOutcome false parts (all_parts parts) x → IsOutcome false parts (all_parts parts) y → IsCertificateOf parts 2 x c → IsCertificateOf parts 2 y d → (x ≡ y) × (c ≡ d)
    same_certificate x y c d o p k l =
        let found : x ≡ y = IsOutcome-unique false parts o p in
        (found, IsCertificateOf-unique parts 2 y c d (subst (λ z. IsCertificateOf parts 2 z c) found k) l)

    one : (f g : Found Answer) → IsDrilled product parts f → IsDrilled product parts g → f ≡ g
    one f g (drilled x c v o k short j e) (drilled y d w p l fits h i) =
        let same = same_certificate x y c d o p k l in
        let verdicts : v ≡ w = IsVerdict-unique parts d v w (subst (λ z. IsVerdict parts z v) same.1 j) h in
        e ∙ ap (λ (z : Finding). Ok (answer 0 (drill_line product z (length (text_of c)) v))) same.0 ∙
        ap (λ (z : Certificate). Ok (answer 0 (drill_line product y (length (text_of z)) v))) same.1 ∙
        ap (λ (z : Verdict). Ok (answer 0 (drill_line product y (length (text_of d)) z))) verdicts ∙ sym i
    one f g (drilled x c v o k short j e) (drill_too_long y d p l many i) =
        absurd (omega (arith, short, many, ap (λ (z : Certificate). length (text_of z)) (same_certificate x y c d o p k l).1))
    one f g (drill_too_long x c o k many e) (drilled y d w p l fits h i) =
        absurd (omega (arith, fits, many, ap (λ (z : Certificate). length (text_of z)) (same_certificate x y c d o p k l).1))
    one f g (drill_too_long x c o k many e) (drill_too_long y d p l much i) =
        e ∙ ap (λ (z : Certificate). Err (TextTooLong (length (text_of z)))) (same_certificate x y c d o p k l).1 ∙ sym i

    no_read : (name : List ℕ) → IsDrilled product parts (Err (ReadFault name)) → ⊥
    no_read name (drilled x c v o k short j e) = absurd cc
    no_read name (drill_too_long x c o k many e) = absurd cc

-- no split is too far where all are near
not_near : (parts : List Part) (plan : Tree) (node : ℕ) → IsTooFarAt (boxes_of parts) 0 plan node → AllNear (boxes_of parts) 0 plan → ⊥
not_near parts plan node far near =
    let there = IsFirst-in (IsFar (boxes_of parts)) (splits_from 0 plan) far.s far.first in
    All-contains (λ s. IsFar (boxes_of parts) s → ⊥) (splits_from 0 plan) far.s near there.0 there.1

shifted_one : (files : Files) (parts : List Part) (plan : Tree) → FindsOne files (AreShifted parts plan)
shifted_one files parts plan = record { one = λ f g a b sf sg. one f g a b; held = λ name f at lacks step settled. no_read name at }
  where
    one : (f g : Found (List V3)) → AreShifted parts plan f → AreShifted parts plan g → f ≡ g
    one f g (shifted_far n is e) (shifted_far m also d) =
        let same = IsFirst-unique (IsFar (boxes_of parts)) (splits_from 0 plan) is.s also.s is.first also.first in
        e ∙ ap (λ k. Err (TooFar k)) (is.is ∙ ap (λ (s : SplitAt). s.node) same ∙ sym also.is) ∙ sym d
    one f g (shifted_far n is e) (shifted_near near d) = absurd (not_near parts plan n is near)
    one f g (shifted_near near e) (shifted_far m is d) = absurd (not_near parts plan m is near)
    one f g (shifted_near near e) (shifted_near also d) = e ∙ sym d

    no_read : (name : List ℕ) → AreShifted parts plan (Err (ReadFault name)) → ⊥
    no_read name (shifted_far n is e) = absurd cc
    no_read name (shifted_near near e) = absurd cc

viewed_one : (files : Files) (solids : List Solid) (shifts : List V3) (off : Bool) → FindsOne files (IsViewed solids shifts off)
viewed_one files solids shifts off = record { one = λ f g a b sf sg. one off f g a b; held = λ name f at lacks step settled. no_read off name at }
  where
    one : (off : Bool) (f g : Found (List ℕ)) → IsViewed solids shifts off f → IsViewed solids shifts off g → f ≡ g
    one false f g (vectors e) (vectors d) = e ∙ sym d
    one true f g (scene short e) (scene fits d) = e ∙ sym d
    one true f g (scene short e) (scene_too_long many d) = absurd (omega (arith, short, many))
    one true f g (scene_too_long many e) (scene fits d) = absurd (omega (arith, fits, many))
    one true f g (scene_too_long many e) (scene_too_long much d) = e ∙ sym d

    no_read : (off : Bool) (name : List ℕ) → IsViewed solids shifts off (Err (ReadFault name)) → ⊥
    no_read false name (vectors e) = absurd cc
    no_read true name (scene short e) = absurd cc
    no_read true name (scene_too_long many e) = absurd cc

shown_one : (files : Files) (parts : List Part) (solids : List Solid) (off : Bool) (finding : Finding) → FindsOne files (IsOutcomeViewed parts solids off finding)
shown_one files parts solids off (stuck w) = known_one files _
shown_one files parts solids off (planned plan marks) =
    then_one files (IsPlanViewed parts solids off plan) _
    (then_one files (AreShifted parts plan) _ (shifted_one files parts plan) (λ shifts. viewed_one files solids shifts off))
    (λ text. known_one files _)

exploded_one : (files : Files) (request : ExplodeRequest) (parts : List Part) → FindsOne files (IsExploded files request parts)
exploded_one files request parts = record {
  one = λ f g a b sf sg. (shows b).one f g (shown_as f a b.named b.finding b.listed b.outcome) b.shown sf sg;
  held = λ name f at lacks step settled. (shows step).held name f (shown_as (Err (ReadFault name)) at step.named step.finding step.listed step.outcome) lacks step.shown settled;
}
  where
    shows : {f : Found Answer} (b : IsExploded files request parts f) → FindsOne files (IsOutcomeViewed parts (solids_of files request.asked.digits b.named) request.off b.finding)
    shows b = shown_one files parts (solids_of files request.asked.digits b.named) request.off b.finding

    shown_as : (f : Found Answer) (a : IsExploded files request parts f) (named : List ListedPart) (finding : Finding) → IsListingOf files request.asked.input (Ok named) → IsOutcome false parts (all_parts parts) finding → IsOutcomeViewed parts (solids_of files request.asked.digits named) request.off finding f
    shown_as f a named finding listed outcome =
        let names : a.named ≡ named = given_one a.named named ((listing_one files request.asked.input).one (Ok a.named) (Ok named) a.listed listed tt tt) in
        subst (λ (x : Finding). IsOutcomeViewed parts (solids_of files request.asked.digits named) request.off x f) (IsOutcome-unique false parts a.outcome outcome)
        (subst (λ (ns : List ListedPart). IsOutcomeViewed parts (solids_of files request.asked.digits ns) request.off a.finding f) names a.shown)

pub plan_one : (request : PlanRequest) (files : Files) → FindsOne files (PlanWork request files)
plan_one request files = then_one files (IsSoundOf files request.asked) _ (sound_one files request.asked)
    (λ parts. then_one files (AreCounted parts request.planes) _ (counted_one files parts request.planes) (λ planes. planned_one files parts request.robust request.certificate))

pub explode_one : (request : ExplodeRequest) (files : Files) → FindsOne files (ExplodeWork request files)
explode_one request files = then_one files (IsSoundOf files request.asked) _ (sound_one files request.asked)
    (λ parts. then_one files (AreCounted parts request.planes) _ (counted_one files parts request.planes) (λ planes. exploded_one files request parts))

pub drill_one : (product : DrillProduct) (files : Files) → FindsOne files (DrillWork product files)
drill_one product files = then_one files (IsTested (parts_of_product product)) _ (tested_one files (parts_of_product product))
    (λ parts. then_one files (AreCounted parts MOST_PLANES) _ (counted_one files parts MOST_PLANES) (λ planes. drilled_one files product parts))
