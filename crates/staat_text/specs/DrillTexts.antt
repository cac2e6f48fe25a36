-- The text of a trial on a product that the program makes itself.
use Rattle.std.specs.Prelude.{◌++◌, ℕ, List, codes, decimal}
use Rattle.std.specs.FinSet as set
use Rattle.staat_model.specs.declared.verdict.Verdict.{Verdict}
use Rattle.staat_model.specs.declared.verdict.Verdict.TheVariants.{ValidPlan, ValidRefusal, Not}
use Rattle.staat_model.specs.Outcomes.{Finding, planned, stuck}
use Rattle.staat_text.specs.PlanTexts.{steps_of}
use Rattle.staat_text.specs.Verdicts.{verdict_text}

-- `K splits` of a plan, `stuck K parts` of a set
abbrev pub outcome_words : Finding → List ℕ
outcome_words (planned plan marks) = decimal (steps_of plan) ++ codes " splits"
outcome_words (stuck w) = codes "stuck " ++ decimal (set.len w) ++ codes " parts"

-- `valid`, of a plan as of a refusal; else the line that tells the rule
abbrev pub verdict_words : Verdict → List ℕ
verdict_words ValidPlan = codes "valid\n"
verdict_words ValidRefusal = codes "valid\n"
verdict_words (Not reason) = verdict_text (Not reason)

-- ` N: `
abbrev pub size_words : ℕ → List ℕ
size_words n = codes " " ++ decimal n ++ codes ": "

-- `, B bytes, `
abbrev pub length_words : ℕ → List ℕ
length_words bytes = codes ", " ++ decimal bytes ++ codes " bytes, "

-- `drill KIND N: .., B bytes, valid`
abbrev pub drill_text : List ℕ → ℕ → Finding → ℕ → Verdict → List ℕ
drill_text kind n finding bytes verdict =
    codes "drill " ++ kind ++ size_words n ++ outcome_words finding ++ length_words bytes ++ verdict_words verdict
