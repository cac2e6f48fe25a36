-- The exploded view: what the steps find, and that they find one thing.
use Rattle.std.proofs.Common.{◌≡◌, ◌∙◌, ℕ, ◌+◌, ◌*◌, ◌^◌, ◌<◌, ◌≤◌, Bool, true, false, List, [], ◌∷◌, map, length, All, Ok, Err, refl, ap, subst, arith, inl, inr}
use Rattle.std.specs.List.{range_with_len}
use Rattle.std.proofs.lemmas.List.{length-map, length-append}
use Rattle.std.proofs.lemmas.List.FromFn.{length-range_with_len}
use Rattle.std.proofs.lemmas.List.Elements.{All-head, All-tail}
use Rattle.staat_vec.specs.declared.vector.V3.{V3}
use Rattle.staat_limits.specs.declared.limits.TheConstants.{MOST_COUNT}
use Rattle.staat_off.specs.Raws.{IsCounted}
use Rattle.staat_model.specs.declared.assembly.Part.{Part}
use Rattle.staat_limits.specs.declared.limits.TheConstants.{MOST_PIECES}
use Rattle.staat_model.specs.declared.refusal.TextRefusal.{TextRefusal}
use Rattle.staat_model.specs.declared.refusal.TextRefusal.TheVariants as text
use Rattle.staat_model.specs.Plans.{Plan}
use Rattle.staat_explode.specs.declared.refusal.ExplodeRefusal.{ExplodeRefusal}
use Rattle.staat_explode.specs.declared.refusal.ExplodeRefusal.TheVariants as refusal
use Rattle.staat_explode.specs.declared.scene.Solid.{Solid}
use Rattle.staat_explode.specs.Boxes.{boxes_of}
use Rattle.staat_explode.specs.Scenes.{count_of_points, faces_behind, off_text, scene_of}
use Rattle.staat_explode.specs.Sheets.{Written}
use Rattle.staat_explode.specs.Shifts.{shifted_of, shifts_of, vector_of_part}
use Rattle.staat_explode.specs.Splits.{Explodes}
use Rattle.staat_fault.specs.declared.fault.Fault.TheVariants.{TextTooLong}
use Rattle.staat_input.specs.Work.{Files, Follows, Found}
use Rattle.std.specs.Prelude.{Result}
use Rattle.staat_model.specs.Outcomes.{Finding, IsOutcome, planned, stuck}
use Rattle.staat_manifest.specs.declared.listing.ListedPart.{ListedPart}
use Rattle.staat_fault.specs.declared.fault.Fault.{Fault}
use Rattle.staat_words.specs.declared.request.ExplodeRequest.{ExplodeRequest}
use Rattle.staat_input.specs.declared.answer.Answer.{Answer}
use Rattle.staat_input.specs.Counting.{all_parts}
use Rattle.staat_input.specs.Inputs.{IsListingOf}
use Rattle.staat_input.proofs.InputLemmas.{follows_fault}
use Rattle.staat_input.specs.Drawing.{AreSmall, solids_of}
use Rattle.staat_planning.specs.Exploding.{AreShifted, IsExploded, IsPlanViewed, IsOutcomeViewed, IsViewed, scene}
use Rattle.staat_planning.specs.Exploding.{scene_too_long, shifted_far, shifted_near, vectors}
use Rattle.staat_planning.specs.Exploding.{explode_fault}
use Rattle.staat_input.specs.Refusals.{text_fault}

-- ---- vectors

pub shifted_given : (parts : List Part) (plan : Plan) (shifts : List V3) → Explodes parts plan (Ok shifts) → AreShifted parts plan (Ok shifts)
shifted_given parts plan shifts h = shifted_near h.1 (ap Ok h.0)

pub shifted_refused : (parts : List Part) (plan : Plan) (r : ExplodeRefusal) → Explodes parts plan (Err r) → Follows (AreShifted parts plan) (Err (explode_fault r))
shifted_refused parts plan (refusal.TooFar node) h = shifted_far node h refl
shifted_refused parts plan refusal.OutOfMemory h = tt

shifts_length : (parts : List Part) (plan : Plan) → length (shifts_of parts plan) ≡ length parts
shifts_length parts plan = length-map (range_with_len 0 (length parts)) (vector_of_part (shifted_of (boxes_of parts) plan)) ∙ length-range_with_len 0 (length parts)

pub shifted_each : (parts : List Part) (plan : Plan) (shifts : List V3) → Explodes parts plan (Ok shifts) → length shifts ≡ length parts
shifted_each parts plan shifts h = ap length h.0 ∙ shifts_length parts plan

pub ruleset shifting = (shifted_given, shifted_refused, shifted_each)

-- ---- how many points and faces there are in all

points_few : (solids : List Solid) → All (λ (s : Solid). IsCounted s.raw) solids → count_of_points solids ≤ MOST_COUNT * length solids
points_few [] all = omega arith
points_few (s ∷ ss) all =
    let here = (All-head (λ (t : Solid). IsCounted t.raw) s ss all).points in
    let rest = points_few ss (All-tail (λ (t : Solid). IsCounted t.raw) s ss all) in
    omega (arith, here, rest)

faces_few : (before : ℕ) (solids : List Solid) → All (λ (s : Solid). IsCounted s.raw) solids → length (faces_behind before solids) ≤ MOST_COUNT * length solids
faces_few before [] all = omega arith
faces_few before (s ∷ ss) all =
    let here = (All-head (λ (t : Solid). IsCounted t.raw) s ss all).faces in
    let rest = faces_few (before + length s.raw.points) ss (All-tail (λ (t : Solid). IsCounted t.raw) s ss all) in
    let own = length-map s.raw.faces (map (λ corner. before + corner)) in
    let both = length-append (map (map (λ corner. before + corner)) s.raw.faces) (faces_behind (before + length s.raw.points) ss) in
    omega (arith, here, rest, own, both)

pub points_counted : (parts : ℕ) (solids : List Solid) → AreSmall parts MOST_PIECES solids → count_of_points solids < 2 ^ 32
points_counted parts solids h = (let le = points_few solids h.counted in omega (arith, le, h.few))

pub faces_counted : (parts : ℕ) (solids : List Solid) → AreSmall parts MOST_PIECES solids → length (faces_behind 0 solids) < 2 ^ 32
faces_counted parts solids h = (let le = faces_few 0 solids h.counted in omega (arith, le, h.few))

-- ---- texts

pub viewed_scene : (solids : List Solid) (shifts : List V3) (bytes : List ℕ) → Written (off_text (scene_of solids shifts)) (Ok bytes) → IsViewed solids shifts true (Ok bytes)
viewed_scene solids shifts bytes h = scene h.1 (ap Ok h.0)

pub viewed_refused : (solids : List Solid) (shifts : List V3) (r : TextRefusal) → Written (off_text (scene_of solids shifts)) (Err r) → Follows (IsViewed solids shifts true) (Err (text_fault r))
viewed_refused solids shifts (text.TextTooLong n) h = scene_too_long h.1 (ap (λ k. Err (TextTooLong k)) h.0)
viewed_refused solids shifts text.OutOfMemory h = tt

pub ruleset viewing = (viewed_scene, viewed_refused, points_counted, faces_counted)

-- where no scene is asked for, the solids are free
pub viewed_with : (a b : List Solid) (shifts : List V3) (off : Bool) (found : Found (List ℕ)) → (off ≡ true → a ≡ b) → IsViewed a shifts off found → IsViewed b shifts off found
viewed_with a b shifts false found same (vectors e) = vectors e
viewed_with a b shifts true found same h = subst (λ (s : List Solid). IsViewed s shifts true found) (same refl) h

plan_viewed_with : (parts : List Part) (a b : List Solid) (off : Bool) (plan : Plan) (found : Found (List ℕ)) → (off ≡ true → a ≡ b) → IsPlanViewed parts a off plan found → IsPlanViewed parts b off plan found
plan_viewed_with parts a b off plan found same (inl h) = inl h
plan_viewed_with parts a b off plan found same (inr (shifts, shifted, h)) = inr (shifts, shifted, viewed_with a b shifts off found same h)

shown_with : (parts : List Part) (a b : List Solid) (off : Bool) (f : Finding) (found : Found Answer) → (off ≡ true → a ≡ b) → IsOutcomeViewed parts a off f found → IsOutcomeViewed parts b off f found
shown_with parts a b off (stuck w) found same h = h
shown_with parts a b off (planned plan marks) found same (inl (fault, h, e)) = inl (fault, plan_viewed_with parts a b off plan (Err fault) same h, e)
shown_with parts a b off (planned plan marks) found same (inr (text, h, e)) = inr (text, plan_viewed_with parts a b off plan (Ok text) same h, e)

-- ---- the whole

pub exploded_found : (files : Files) (request : ExplodeRequest) (parts : List Part) (solids : List Solid) (named : List ListedPart) (f : Finding) (r : Result Answer Fault) → IsListingOf files request.asked.input (Ok named) → IsOutcome false parts (all_parts parts) f → (request.off ≡ true → solids ≡ solids_of files request.asked.digits named) → Follows (IsOutcomeViewed parts solids request.off f) r → Follows (IsExploded files request parts) r
exploded_found files request parts solids named f r listed outcome same h = go r h
  where
    whole : (found : Found Answer) → IsOutcomeViewed parts solids request.off f found → IsExploded files request parts found
    whole found shown = record {
      named = named;
      listed = listed;
      finding = f;
      outcome = outcome;
      shown = shown_with parts solids (solids_of files request.asked.digits named) request.off f found same shown;
    }

    go : (r : Result Answer Fault) → Follows (IsOutcomeViewed parts solids request.off f) r → Follows (IsExploded files request parts) r
    go (Ok a) h = whole (Ok a) h
    go (Err e) h = follows_fault (IsOutcomeViewed parts solids request.off f) (IsExploded files request parts) e (λ g at. whole (Err g) at) h
