-- A product that the program makes itself is planned, and its certificate is judged.
use Rattle.std.specs.Prelude.{◌≡◌, ◌<◌, ◌≤◌, ℕ, List, length, false, Ok, Err, codes, ◌⊎◌}
use Rattle.staat_model.specs.declared.assembly.Part.{Part}
use Rattle.staat_model.specs.declared.certificate.Certificate.{Certificate}
use Rattle.staat_limits.specs.declared.limits.TheConstants.{TEXT_LIMIT, MOST_PLANES}
use Rattle.staat_model.specs.declared.verdict.Verdict.{Verdict}
use Rattle.staat_model.specs.Certify.{IsCertificateOf}
use Rattle.staat_model.specs.Outcomes.{Finding, IsOutcome}
use Rattle.staat_model.specs.Reasons.{IsVerdict}
use Rattle.staat_model.specs.Texts.{text_of}
use Rattle.staat_drill.specs.Products.{nested_boxes, row_of_cubes}
use Rattle.staat_fault.specs.declared.fault.Fault.TheVariants.{TextTooLong}
use Rattle.staat_text.specs.DrillTexts.{drill_text}
use Rattle.staat_words.specs.declared.request.DrillProduct.{DrillProduct}
use Rattle.staat_words.specs.declared.request.DrillProduct.TheVariants.{Boxes, Cubes}
use Rattle.staat_input.specs.declared.answer.Answer.{Answer}
use Rattle.staat_input.specs.Work.{Found, Files, Then}
use Rattle.staat_input.specs.Counting.{all_parts, AreCounted}
use Rattle.staat_model.specs.declared.verdict.Verdict.TheVariants.{ValidPlan, ValidRefusal}
use Rattle.staat_model.specs.Assemblies.{IsAssembly, IsSound}
use Rattle.staat_input.specs.Assembling.{IsTested}

-- the parts of the product
abbrev pub parts_of_product : DrillProduct → List Part
parts_of_product (Cubes n) = row_of_cubes n
parts_of_product (Boxes n) = nested_boxes n

-- the line for a product: what is found, how long its certificate is, and the verdict on it
abbrev pub drill_line : DrillProduct → Finding → ℕ → Verdict → List ℕ
drill_line (Cubes n) finding bytes verdict = drill_text (codes "row") n finding bytes verdict
drill_line (Boxes n) finding bytes verdict = drill_text (codes "box") n finding bytes verdict

-- The last step of a drill: the outcome of the parts, its certificate in the second version, and the verdict on that.
pub data IsDrilled (product : DrillProduct) (parts : List Part) : Found Answer → Type 0 where
  drilled : {found : Found Answer} (finding : Finding) (c : Certificate) (verdict : Verdict) →
      IsOutcome false parts (all_parts parts) finding → IsCertificateOf parts 2 finding c →
      length (text_of c) ≤ TEXT_LIMIT → IsVerdict parts c verdict →
      found ≡ Ok (record { status = 0; text = drill_line product finding (length (text_of c)) verdict }) →
      IsDrilled product parts found
  drill_too_long : {found : Found Answer} (finding : Finding) (c : Certificate) →
      IsOutcome false parts (all_parts parts) finding → IsCertificateOf parts 2 finding c →
      TEXT_LIMIT < length (text_of c) → found ≡ Err (TextTooLong (length (text_of c))) →
      IsDrilled product parts found

-- what it finds for sound parts: their planes are counted, and then they are planned
abbrev pub IsCountedDrill : DrillProduct → List Part → Found Answer → Type 0
IsCountedDrill product parts found = Then (AreCounted parts MOST_PLANES) (λ planes. IsDrilled product parts) found

-- what the work on `drill` finds, whatever the files are
abbrev pub DrillWork : DrillProduct → Files → Found Answer → Type 0
DrillWork product files found =
    Then (IsTested (parts_of_product product)) (λ parts. Then (AreCounted parts MOST_PLANES)
    (λ planes. IsDrilled product parts)) found

-- The text is the line for a product whose parts are sound: what is found for them, how long its certificate is, and
-- the verdict on this, which is that it is valid.
pub record SaysDrilled (product : DrillProduct) (text : List ℕ) : Type 0 where
  pub assembly : IsAssembly (parts_of_product product)
  pub sound : IsSound (parts_of_product product)
  pub finding : Finding
  pub outcome : IsOutcome false (parts_of_product product) (all_parts (parts_of_product product)) finding
  pub certificate : Certificate
  pub certified : IsCertificateOf (parts_of_product product) 2 finding certificate
  pub verdict : Verdict
  pub judged : IsVerdict (parts_of_product product) certificate verdict
  pub valid : (verdict ≡ ValidPlan) ⊎ (verdict ≡ ValidRefusal)
  pub says : text ≡ drill_line product finding (length (text_of certificate)) verdict
