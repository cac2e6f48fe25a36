-- The text of a verdict on a certificate.
use Rattle.std.specs.Prelude.{◌++◌, ℕ, List, codes, decimal}
use Rattle.staat_model.specs.declared.verdict.Verdict.{Verdict}
use Rattle.staat_model.specs.declared.verdict.Verdict.TheVariants.{ValidPlan, ValidRefusal, Not}
use Rattle.staat_model.specs.declared.verdict.Reason.{Reason}
use Rattle.staat_model.specs.declared.verdict.Reason.TheVariants.{WrongParts, BadLeaves, ZeroDirection, BadSeparator}
use Rattle.staat_model.specs.declared.verdict.Reason.TheVariants.{MissingSeparator, BadStuckSet, BadArc, BadTree}
use Rattle.staat_model.specs.declared.verdict.Reason.TheVariants.{MissingDirection}
use Rattle.staat_model.specs.Lines.{vector_numbers}
use Rattle.staat_text.specs.PlanTexts.{numbers_before}

-- the rule that is broken, and where, up to the end of the line
unfoldable pub reason_text : Reason → List ℕ
reason_text (WrongParts stated) = codes "wrong parts " ++ decimal stated ++ codes "\n"
reason_text (BadLeaves node) = codes "bad leaves at node " ++ decimal node ++ codes "\n"
reason_text (ZeroDirection node) = codes "zero direction at node " ++ decimal node ++ codes "\n"
reason_text (BadSeparator line) = codes "bad separator on line " ++ decimal line ++ codes "\n"
reason_text (MissingSeparator a i b j) =
    codes "missing separator " ++ decimal a ++ codes " " ++ decimal i
    ++ codes " " ++ decimal b ++ codes " " ++ decimal j ++ codes "\n"
reason_text BadStuckSet = codes "bad stuck set\n"
reason_text (BadArc line) = codes "bad arc on line " ++ decimal line ++ codes "\n"
reason_text (BadTree witness) = codes "bad tree in witness " ++ decimal witness ++ codes "\n"
reason_text (MissingDirection d) = codes "missing direction" ++ numbers_before (vector_numbers d) (codes "\n")

-- the line of a verdict
unfoldable pub verdict_text : Verdict → List ℕ
verdict_text ValidPlan = codes "valid plan\n"
verdict_text ValidRefusal = codes "valid refusal\n"
verdict_text (Not reason) = codes "not valid: " ++ reason_text reason
