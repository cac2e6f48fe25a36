-- What stands above all else: what the answers of `check`, `plan`, `decide` and `confirm` mean.
use Rattle.std.specs.Prelude.{◌≡◌, ◌↔◌, ◌⊎◌, ◌<◌, ◌≤◌, ℕ, zero, suc, true, List}
use Rattle.std.specs.Prelude.{length, Some, Ok, codes}
use Rattle.staat_vec.specs.declared.vector.V3.{V3}
use Rattle.staat_edge.specs.Files.{bytes_of}
use Rattle.staat_model.specs.declared.assembly.Part.{Part}
use Rattle.staat_model.specs.declared.certificate.Certificate.{Certificate}
use Rattle.staat_model.specs.declared.set.PartSet.{PartSet}
use Rattle.staat_model.specs.Assemblies.{IsAssembly, IsProduct}
use Rattle.staat_limits.specs.declared.limits.TheConstants.{TEXT_LIMIT}
use Rattle.staat_model.specs.Certificates.{IsValidPlan, IsValidRefusal}
use Rattle.staat_model.specs.Certify.{IsCertificateOf}
use Rattle.staat_model.specs.Outcomes.{IsOutcome, stuck}
use Rattle.staat_model.specs.Planes.{ArePlanes}
use Rattle.staat_model.specs.Texts.{text_of}
use Rattle.staat_limits.specs.declared.limits.TheConstants.{MOST_CELL_PLANES, MOST_PRODUCT_PARTS}
use Rattle.staat_check.specs.Verdicts.{IsPlanOf, IsRefusalWithSet}
use Rattle.staat_short.specs.declared.short.ShortCertificate.{ShortCertificate}
use Rattle.staat_short.specs.ShortTexts.{IsShortInOrder, short_text}
use Rattle.staat_confirm.specs.declared.verdict.ShortVerdict.TheVariants as verdicts
use Rattle.staat_confirm.specs.ShortVerdicts.{IsShortVerdict, ShowsPlan, ShowsRefusal}
use Rattle.staat_words.specs.declared.request.CheckRequest.{CheckRequest}
use Rattle.staat_words.specs.declared.request.DecideRequest.{DecideRequest}
use Rattle.staat_words.specs.declared.request.PlanRequest.{PlanRequest}
use Rattle.staat_words.specs.declared.request.Request.TheVariants.{Check, Confirm, Decide, Plan}
use Rattle.staat_words.specs.Requests.{IsAsked, IsAskedWithin, IsPlanRequest}
use Rattle.staat_input.specs.Work.{Files}
use Rattle.staat_judging.specs.Checking.{IsCertificateIn}
use Rattle.staat_judging.specs.Confirming.{KeepsShortRules}
use Rattle.staat_input.specs.Counting.{all_parts}
use Rattle.staat_input.specs.declared.limits.TheConstants.Limits.{ASSEMBLY, PRODUCT}
use Rattle.staat_input.specs.Kept.{KeepsNamed}
use Rattle.staat_input.specs.Assembling.{AreSoundParts, AreSoundProductParts}
use Rattle.staat_deciding.specs.Deciding.{IsShortRefusal, SaysDecidedPlan, SaysDecidedStuck}
use Rattle.staat_top.specs.Replies.{IsReply, Reply, answered}
use Rattle.staat_planning.specs.Planning.{SaysGoodPlan, SaysStuckSet}
use Rattle.staat_input.specs.Work.{answer}

-- the files hold sound parts, and the text of a certificate that is a valid plan or a valid refusal for them
pub record KeepsRules (files : Files) (request : CheckRequest) : Type 0 where
  pub parts : List Part
  pub sound : AreSoundParts files request.asked parts
  pub certificate : Certificate
  pub held : IsCertificateIn files request.certificate (Ok certificate)
  pub valid : IsValidPlan parts certificate ⊎ IsValidRefusal parts certificate

-- what `check` says of the certificate that `plan` printed with this status, and `confirm` of that of `decide`: of a
-- plan, or of what is stuck
abbrev pub valid_line : ℕ → List ℕ
valid_line zero = codes "valid plan\n"
valid_line (suc n) = codes "valid refusal\n"

-- No limit is exceeded: the parts have no more planes than the request allows, and for a robust plan no more than
-- where cells are listed; and if a certificate is asked for, and a set is stuck, the text of that set's certificate,
-- which there always is, is not too long. That of a plan never is.
pub record IsWithinLimits (parts : List Part) (request : PlanRequest) : Type 0 where
  pub planes : List V3
  pub planes_are : ArePlanes parts (all_parts parts) planes
  pub few : length planes ≤ request.planes
  pub cells : request.robust ≡ true → length planes ≤ MOST_CELL_PLANES
  pub short : (version : ℕ) (w : PartSet) (c : Certificate) → request.certificate ≡ Some version →
      IsOutcome request.robust parts (all_parts parts) (stuck w) → IsCertificateOf parts version (stuck w) c →
      length (text_of c) ≤ TEXT_LIMIT

-- A certificate is asked for, and the text of one that is a valid refusal of the parts is too long to be printed. That
-- of a plan never is.
pub record IsLongRefusal (parts : List Part) (request : DecideRequest) (status : ℕ) : Type 0 where
  pub is : status ≡ 4
  pub asks : request.certificate ≡ true
  pub refusal : ShortCertificate
  pub valid : IsShortVerdict parts refusal verdicts.ValidRefusal
  pub kind : IsShortRefusal request.rest refusal.answer
  pub order : IsShortInOrder refusal
  pub long : TEXT_LIMIT < length (short_text refusal)

-- For all files and requests:
pub record Headline : Type 0 where
  -- `check` answers that a certificate is valid exactly where it keeps the written rules.
  pub exact : (files : Files) (request : CheckRequest) (reply : Reply) → IsAsked request.asked →
      IsReply (Some (Check request)) files reply → (reply.status ≡ 0) ↔ KeepsRules files request
  -- A valid plan is one that takes all parts apart: at each step one side moves to infinity, and no inner points of
  -- the two sides ever meet.
  pub plans : (parts : List Part) (certificate : Certificate) → IsAssembly parts →
      IsValidPlan parts certificate → IsPlanOf parts certificate.body
  -- A valid refusal names a set that is stuck, and no plan for two hands takes all parts apart.
  pub refusals : (parts : List Part) (certificate : Certificate) → IsAssembly parts →
      IsValidRefusal parts certificate → IsRefusalWithSet parts certificate.body
  -- What `plan` prints with status 0 is a plan that takes all parts apart, and with status 1 a set that is truly
  -- stuck; or, if that is asked for, the text of a certificate of it, which is valid.
  pub planned : (files : Files) (request : PlanRequest) (reply : Reply) → IsPlanRequest request →
      IsReply (Some (Plan request)) files reply → reply.status ≡ 0 → SaysGoodPlan files request reply.out
  pub held : (files : Files) (request : PlanRequest) (reply : Reply) → IsPlanRequest request →
      IsReply (Some (Plan request)) files reply → reply.status ≡ 1 → SaysStuckSet files request reply.out
  -- For every input whose parts are sound `plan` has such a reply, where no limit is exceeded.
  pub answers : (files : Files) (request : PlanRequest) (parts : List Part) → IsPlanRequest request →
      AreSoundParts files request.asked parts → IsWithinLimits parts request →
      (reply : Reply) × IsReply (Some (Plan request)) files reply × (reply.status < 2)
  -- What `plan --cert` prints, where it refuses nothing, is a certificate that `check` calls valid: over any files
  -- that hold the printed text under some name, and hold all that the input names as it was, the reply to `check` with
  -- that name, the same digits and the same input is `valid plan` or `valid refusal`, with status 0.
  pub checked : (files others : Files) (request : PlanRequest) (version : ℕ) (reply : Reply) (name : List ℕ) →
      IsPlanRequest request → request.certificate ≡ Some version →
      IsReply (Some (Plan request)) files reply → reply.status < 2 →
      KeepsNamed ASSEMBLY files others request.asked.input → bytes_of name others ≡ Some reply.out →
      IsReply (Some (Check (record { asked = request.asked; certificate = name }))) others
      (answered (answer 0 (valid_line reply.status)))
  -- What `decide` prints with status 0 is a plan that takes all parts of a product apart, and with status 1 parts that
  -- are truly stuck, or all that comes apart and the groups that are stuck; or, if that is asked for, the text of a
  -- certificate of either, which is valid. For every input whose parts are sound each reply is one of the two, or says
  -- that the text of a valid refusal's certificate, which was asked for, is too long.
  pub decided : (files : Files) (request : DecideRequest) (reply : Reply) →
      IsAskedWithin MOST_PRODUCT_PARTS request.asked → IsReply (Some (Decide request)) files reply →
      reply.status ≡ 0 → SaysDecidedPlan files request reply.out
  pub denied : (files : Files) (request : DecideRequest) (reply : Reply) →
      IsAskedWithin MOST_PRODUCT_PARTS request.asked → IsReply (Some (Decide request)) files reply →
      reply.status ≡ 1 → SaysDecidedStuck files request reply.out
  pub decides : (files : Files) (request : DecideRequest) (parts : List Part) (reply : Reply) →
      AreSoundProductParts files request.asked parts → IsReply (Some (Decide request)) files reply →
      (reply.status < 2) ⊎ IsLongRefusal parts request reply.status
  -- `confirm` answers that a short certificate is valid exactly where it keeps the written rules.
  pub confirms : (files : Files) (request : CheckRequest) (reply : Reply) →
      IsAskedWithin MOST_PRODUCT_PARTS request.asked → IsReply (Some (Confirm request)) files reply →
      (reply.status ≡ 0) ↔ KeepsShortRules files request
  -- A valid short plan is one that takes all parts of a product apart. A valid short refusal names what is stuck, and
  -- no plan for two hands takes all parts apart.
  pub short_plans : (parts : List Part) (c : ShortCertificate) → IsProduct parts → IsShortInOrder c →
      IsShortVerdict parts c verdicts.ValidPlan → ShowsPlan parts c.answer
  pub short_refusals : (parts : List Part) (c : ShortCertificate) → IsProduct parts → IsShortInOrder c →
      IsShortVerdict parts c verdicts.ValidRefusal → ShowsRefusal parts c.answer
  -- What `decide --cert` prints, where it refuses nothing, is a short certificate that `confirm` calls valid: over any
  -- files that hold the printed text under some name, and hold all that the input names as it was, the reply to
  -- `confirm` with that name, the same digits and the same input is `valid plan` or `valid refusal`, with status 0.
  pub short_checked : (files others : Files) (request : DecideRequest) (reply : Reply) (name : List ℕ) →
      request.certificate ≡ true → IsReply (Some (Decide request)) files reply → reply.status < 2 →
      KeepsNamed PRODUCT files others request.asked.input → bytes_of name others ≡ Some reply.out →
      IsReply (Some (Confirm (record { asked = request.asked; certificate = name }))) others
      (answered (answer 0 (valid_line reply.status)))
