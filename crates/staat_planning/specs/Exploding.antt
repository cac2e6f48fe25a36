-- The exploded view of a plan, and how it is written.
use Rattle.std.specs.Prelude.{◌≡◌, ◌<◌, ◌≤◌, ℕ, List, length, Bool, true, false, Ok, Err, None}
use Rattle.staat_vec.specs.declared.vector.V3.{V3}
use Rattle.staat_model.specs.declared.assembly.Part.{Part}
use Rattle.staat_limits.specs.declared.limits.TheConstants.{TEXT_LIMIT}
use Rattle.staat_model.specs.Outcomes.{Finding, IsOutcome, planned, stuck}
use Rattle.staat_model.specs.Plans.{IsGood, Plan}
use Rattle.staat_manifest.specs.declared.listing.ListedPart.{ListedPart}
use Rattle.staat_explode.specs.declared.scene.Solid.{Solid}
use Rattle.staat_explode.specs.Boxes.{boxes_of}
use Rattle.staat_explode.specs.Scenes.{off_text, scene_of}
use Rattle.staat_explode.specs.ShiftTexts.{shifts_text}
use Rattle.staat_explode.specs.Shifts.{shifts_of}
use Rattle.staat_explode.specs.Splits.{AllNear, IsTooFarAt, AreSums}
use Rattle.staat_fault.specs.declared.fault.Fault.TheVariants.{TextTooLong, TooFar}
use Rattle.staat_text.specs.PlanTexts.{plan_text}
use Rattle.staat_words.specs.declared.request.ExplodeRequest.{ExplodeRequest}
use Rattle.staat_input.specs.declared.answer.Answer.{Answer}
use Rattle.staat_input.specs.Work.{Files, Found, Then}
use Rattle.staat_input.specs.Drawing.{solids_of}
use Rattle.staat_input.specs.Counting.{all_parts, AreCounted}
use Rattle.staat_input.specs.Inputs.{IsListingOf}
use Rattle.staat_planning.specs.Planning.{outcome_answer}
use Rattle.staat_words.specs.declared.request.Asked.{Asked}
use Rattle.staat_words.specs.declared.request.PlanRequest.{PlanRequest}
use Rattle.staat_fault.specs.declared.fault.Fault.{Fault}
use Rattle.staat_explode.specs.Apart.{StandApart}
use Rattle.staat_input.specs.Assembling.{IsSoundOf, AreSoundParts}
use Rattle.staat_fault.specs.declared.fault.Fault.TheVariants as fault
use Rattle.staat_explode.specs.declared.refusal.ExplodeRefusal.{ExplodeRefusal}
use Rattle.staat_explode.specs.declared.refusal.ExplodeRefusal.TheVariants as explode

-- the fault that a refusal is
abbrev pub explode_fault : ExplodeRefusal → Fault
explode_fault (explode.TooFar node) = fault.TooFar node
explode_fault explode.OutOfMemory = fault.OutOfMemory

-- What the step finds that moves the parts of a plan: the first split that is too far, or the vector of each part.
pub data AreShifted (parts : List Part) (plan : Plan) : Found (List V3) → Type 0 where
  shifted_far : {found : Found (List V3)} (node : ℕ) → IsTooFarAt (boxes_of parts) 0 plan node →
      found ≡ Err (TooFar node) → AreShifted parts plan found
  shifted_near : {found : Found (List V3)} → AllNear (boxes_of parts) 0 plan →
      found ≡ Ok (shifts_of parts plan) → AreShifted parts plan found

-- What the step finds that writes the view: the vectors, or the scene, which may be too long.
pub data IsViewed (solids : List Solid) (shifts : List V3) : Bool → Found (List ℕ) → Type 0 where
  vectors : {found : Found (List ℕ)} → found ≡ Ok (shifts_text shifts) → IsViewed solids shifts false found
  scene : {found : Found (List ℕ)} → length (off_text (scene_of solids shifts)) ≤ TEXT_LIMIT →
      found ≡ Ok (off_text (scene_of solids shifts)) → IsViewed solids shifts true found
  scene_too_long : {found : Found (List ℕ)} → TEXT_LIMIT < length (off_text (scene_of solids shifts)) →
      found ≡ Err (TextTooLong (length (off_text (scene_of solids shifts)))) →
      IsViewed solids shifts true found

-- the steps for a plan, one after the other
abbrev pub IsPlanViewed : List Part → List Solid → Bool → Plan → Found (List ℕ) → Type 0
IsPlanViewed parts solids off plan = Then (AreShifted parts plan) (λ shifts. IsViewed solids shifts off)

-- What the steps find for an outcome: a set that is stuck is named, and a plan is viewed.
abbrev pub IsOutcomeViewed : List Part → List Solid → Bool → Finding → Found Answer → Type 0
IsOutcomeViewed parts solids off (stuck w) found = found ≡ Ok (outcome_answer (stuck w) (plan_text (stuck w)))
IsOutcomeViewed parts solids off (planned plan marks) found =
    Then (IsPlanViewed parts solids off plan)
    (λ text found. found ≡ Ok (outcome_answer (planned plan marks) text)) found

-- The last step for an exploded view: the outcome of all parts, shown with the solids that the files hold.
pub record IsExploded (files : Files) (request : ExplodeRequest) (parts : List Part) (found : Found Answer)
    : Type 0 where
  pub named : List ListedPart
  pub listed : IsListingOf files request.asked.input (Ok named)
  pub finding : Finding
  pub outcome : IsOutcome false parts (all_parts parts) finding
  pub shown : IsOutcomeViewed parts (solids_of files request.asked.digits named) request.off finding found

-- what it finds for sound parts: their planes are counted, and then they are shown
abbrev pub IsCountedView : Files → ExplodeRequest → List Part → Found Answer → Type 0
IsCountedView files request parts found =
    Then (AreCounted parts request.planes) (λ planes. IsExploded files request parts) found

-- what the work on `explode` finds
abbrev pub ExplodeWork : ExplodeRequest → Files → Found Answer → Type 0
ExplodeWork request files found =
    Then (IsSoundOf files request.asked) (λ parts. Then (AreCounted parts request.planes)
    (λ planes. IsExploded files request parts)) found

-- the plan of which a view is asked for
abbrev pub plan_asked : ExplodeRequest → PlanRequest
plan_asked request = record { asked = request.asked; planes = request.planes; robust = false; certificate = None }

-- the text has the vectors of the parts; or, where the drawing is asked for, it is that of the scene of the files
abbrev pub SaysView : Files → Asked → Bool → List V3 → List ℕ → Type 0
SaysView files asked false shifts text = text ≡ shifts_text shifts
SaysView files asked true shifts text = (named : List ListedPart) × IsListingOf files asked.input (Ok named) ×
    (text ≡ off_text (scene_of (solids_of files asked.digits named) shifts))

-- The text shows the parts of a plan that takes all parts apart: each is moved by a sum of multiples of the directions
-- of the plan, one for each split, and the boxes of any two parts, so moved, are parted.
pub record SaysApart (files : Files) (request : ExplodeRequest) (text : List ℕ) : Type 0 where
  pub parts : List Part
  pub sound : AreSoundParts files request.asked parts
  pub tree : Plan
  pub good : IsGood parts (all_parts parts) tree
  pub sums : AreSums tree (shifts_of parts tree)
  pub apart : StandApart parts (shifts_of parts tree)
  pub says : SaysView files request.asked request.off (shifts_of parts tree) text
