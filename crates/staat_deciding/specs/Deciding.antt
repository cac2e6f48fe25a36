-- A plan that takes a product of any size apart, or parts of it that are stuck, and how either is written.
use Rattle.std.specs.Prelude.{◌≡◌, ◌<◌, ◌≤◌, ◌^◌, ℕ, Bool, true, false, List, [], All, length, Ok}
use Rattle.std.specs.Prelude.{Err}
use Rattle.std.specs.List.Sorted.{IsStrictlySortedBy}
use Rattle.std.specs.Ordering.{nat_cmp}
use Rattle.staat_limits.specs.declared.limits.TheConstants.{TEXT_LIMIT}
use Rattle.staat_model.specs.declared.assembly.Part.{Part}
use Rattle.staat_model.specs.declared.set.PartSet.{PartSet}
use Rattle.staat_model.specs.Outcomes.{planned, stuck}
use Rattle.staat_model.specs.Plans.{IsGood, IsStuck, Plan as Tree}
use Rattle.staat_model.specs.SetLists.{set_of}
use Rattle.staat_model.specs.Sets.{IsSubset}
use Rattle.staat_holds.specs.Partials.{HasTogether, IsGoodPartial, PartialPlan}
use Rattle.staat_short.specs.declared.short.ShortAnswer.{ShortAnswer}
use Rattle.staat_short.specs.declared.short.ShortAnswer.TheVariants.{Plan, Stuck, Rest}
use Rattle.staat_short.specs.declared.short.ShortCertificate.{ShortCertificate}
use Rattle.staat_short.specs.ShortTexts.{IsShortInOrder, IsShortTextOf, short_text}
use Rattle.staat_confirm.specs.declared.verdict.ShortVerdict.TheVariants.{ValidPlan, ValidRefusal}
use Rattle.staat_confirm.specs.ShortVerdicts.{IsShortVerdict, ShowsPlan, ShowsRefusal}
use Rattle.staat_text.specs.PlanTexts.{plan_text}
use Rattle.staat_words.specs.declared.request.Asked.{Asked}
use Rattle.staat_words.specs.declared.request.DecideRequest.{DecideRequest}
use Rattle.staat_fault.specs.declared.fault.Fault.TheVariants.{TextTooLong}
use Rattle.staat_input.specs.declared.answer.Answer.{Answer}
use Rattle.staat_input.specs.Work.{Files, Found, Then, answer}
use Rattle.staat_input.specs.Assembling.{AreSoundProductParts, IsSoundProductOf}
use Rattle.staat_input.specs.Counting.{all_parts}
use Rattle.staat_deciding.specs.RestTexts.{rest_text}

-- ---- what the step finds that decides a product

-- The steps of some plan that takes all parts apart, or at least two parts that are stuck, ascending. One of the two
-- comes for each product.
pub data IsDecided (parts : List Part) : Found Answer → Type 0 where
  apart : {found : Found Answer} (tree : Tree) → IsGood parts (all_parts parts) tree →
      found ≡ Ok (answer 0 (plan_text (planned tree []))) → IsDecided parts found
  held : {found : Found Answer} (members : List ℕ) → IsStrictlySortedBy nat_cmp members → 2 ≤ length members →
      All (λ p. p < length parts) members → IsStuck parts (set_of members) →
      found ≡ Ok (answer 1 (plan_text (stuck (set_of members)))) → IsDecided parts found

-- The same where all is taken apart that comes apart: the steps of some plan that takes all parts apart, or of one that
-- ends in sets that are stuck, at least one, and these sets.
pub data IsDecidedDown (parts : List Part) : Found Answer → Type 0 where
  all_apart : {found : Found Answer} (tree : Tree) → IsGood parts (all_parts parts) tree →
      found ≡ Ok (answer 0 (plan_text (planned tree []))) → IsDecidedDown parts found
  some_apart : {found : Found Answer} (plan : PartialPlan) → IsGoodPartial parts (all_parts parts) plan →
      HasTogether plan → found ≡ Ok (answer 1 (rest_text plan)) → IsDecidedDown parts found

-- a refusal names one stuck set, or, where all is taken apart that comes apart, it is a plan that ends in groups
abbrev pub IsShortRefusal : Bool → ShortAnswer → Type 0
IsShortRefusal rest (Plan nodes) = ⊥
IsShortRefusal false (Stuck holds) = Unit {0}
IsShortRefusal true (Stuck holds) = ⊥
IsShortRefusal false (Rest nodes) = ⊥
IsShortRefusal true (Rest nodes) = Unit {0}

-- The same where a certificate is asked for: the text of some short certificate that is a valid plan, or a valid
-- refusal. Only that of a refusal can be too long.
pub data IsDecidedShort (rest : Bool) (parts : List Part) : Found Answer → Type 0 where
  short_plan : {found : Found Answer} (c : ShortCertificate) (text : List ℕ) → IsShortVerdict parts c ValidPlan →
      IsShortTextOf text c → length text ≤ TEXT_LIMIT → found ≡ Ok (answer 0 text) →
      IsDecidedShort rest parts found
  short_refusal : {found : Found Answer} (c : ShortCertificate) (text : List ℕ) →
      IsShortVerdict parts c ValidRefusal → IsShortRefusal rest c.answer → IsShortTextOf text c →
      length text ≤ TEXT_LIMIT → found ≡ Ok (answer 1 text) → IsDecidedShort rest parts found
  long_refusal : {found : Found Answer} (c : ShortCertificate) (n : ℕ) → IsShortVerdict parts c ValidRefusal →
      IsShortRefusal rest c.answer → IsShortInOrder c → TEXT_LIMIT < length (short_text c) →
      (length (short_text c) < 2 ^ 128 → n ≡ length (short_text c)) → found ≡ Err (TextTooLong n) →
      IsDecidedShort rest parts found

-- what the two flags ask for: all that comes apart, and a certificate
abbrev pub IsDecidedAs : (rest certificate : Bool) → List Part → Found Answer → Type 0
IsDecidedAs false false parts found = IsDecided parts found
IsDecidedAs true false parts found = IsDecidedDown parts found
IsDecidedAs rest true parts found = IsDecidedShort rest parts found

-- what the work on `decide` finds
abbrev pub DecideWork : DecideRequest → Files → Found Answer → Type 0
DecideWork request files found =
    Then (IsSoundProductOf files request.asked) (λ parts. IsDecidedAs request.rest request.certificate parts) found

-- ---- what is printed with status 0

-- the text is that of a plan that takes all parts of the product apart
pub record SaysProductPlan (files : Files) (asked : Asked) (text : List ℕ) : Type 0 where
  pub parts : List Part
  pub sound : AreSoundProductParts files asked parts
  pub tree : Tree
  pub good : IsGood parts (all_parts parts) tree
  pub says : text ≡ plan_text (planned tree [])

-- the text is that of a certificate that is a valid plan, which takes all parts of the product apart
pub record SaysShortPlan (files : Files) (asked : Asked) (text : List ℕ) : Type 0 where
  pub parts : List Part
  pub sound : AreSoundProductParts files asked parts
  pub certificate : ShortCertificate
  pub says : IsShortTextOf text certificate
  pub short : length text ≤ TEXT_LIMIT
  pub valid : IsShortVerdict parts certificate ValidPlan
  pub shows : ShowsPlan parts certificate.answer

abbrev pub SaysPlanAs : (certificate : Bool) → Files → Asked → List ℕ → Type 0
SaysPlanAs false files asked text = SaysProductPlan files asked text
SaysPlanAs true files asked text = SaysShortPlan files asked text

abbrev pub SaysDecidedPlan : Files → DecideRequest → List ℕ → Type 0
SaysDecidedPlan files request text = SaysPlanAs request.certificate files request.asked text

-- ---- what is printed with status 1

-- the text names parts of the product that no step takes apart
pub record SaysStuckParts (files : Files) (asked : Asked) (text : List ℕ) : Type 0 where
  pub parts : List Part
  pub sound : AreSoundProductParts files asked parts
  pub set : PartSet
  pub within : IsSubset set (all_parts parts)
  pub is_stuck : IsStuck parts set
  pub says : text ≡ plan_text (stuck set)

-- the text is that of a plan that takes the product apart down to sets that are stuck, at least one
pub record SaysPartialPlan (files : Files) (asked : Asked) (text : List ℕ) : Type 0 where
  pub parts : List Part
  pub sound : AreSoundProductParts files asked parts
  pub plan : PartialPlan
  pub good : IsGoodPartial parts (all_parts parts) plan
  pub some : HasTogether plan
  pub says : text ≡ rest_text plan

-- the text is that of a certificate that is a valid refusal: what it names is stuck, and no plan takes all parts apart
pub record SaysShortRefusal (rest : Bool) (files : Files) (asked : Asked) (text : List ℕ) : Type 0 where
  pub parts : List Part
  pub sound : AreSoundProductParts files asked parts
  pub certificate : ShortCertificate
  pub kind : IsShortRefusal rest certificate.answer
  pub says : IsShortTextOf text certificate
  pub short : length text ≤ TEXT_LIMIT
  pub valid : IsShortVerdict parts certificate ValidRefusal
  pub shows : ShowsRefusal parts certificate.answer

abbrev pub SaysStuckAs : (rest certificate : Bool) → Files → Asked → List ℕ → Type 0
SaysStuckAs false false files asked text = SaysStuckParts files asked text
SaysStuckAs true false files asked text = SaysPartialPlan files asked text
SaysStuckAs rest true files asked text = SaysShortRefusal rest files asked text

abbrev pub SaysDecidedStuck : Files → DecideRequest → List ℕ → Type 0
SaysDecidedStuck files request text = SaysStuckAs request.rest request.certificate files request.asked text
