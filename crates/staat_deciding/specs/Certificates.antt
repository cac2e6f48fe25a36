-- What the certificates show that are written.
use Rattle.std.specs.Prelude.{◌≤◌, Bool, List, length}
use Rattle.staat_limits.specs.declared.limits.TheConstants.{TEXT_LIMIT}
use Rattle.staat_model.specs.declared.assembly.Part.{Part}
use Rattle.staat_short.specs.declared.short.ShortCertificate.{ShortCertificate}
use Rattle.staat_short.specs.ShortTexts.{IsShortInOrder, short_text}
use Rattle.staat_confirm.specs.declared.verdict.ShortVerdict.TheVariants.{ValidPlan, ValidRefusal}
use Rattle.staat_confirm.specs.ShortVerdicts.{IsShortVerdict}
use Rattle.staat_deciding.specs.Deciding.{IsShortRefusal}

-- the certificate is a valid plan, in order, and its text is not too long
pub record IsShownPlan (parts : List Part) (c : ShortCertificate) : Type 0 where
  pub order : IsShortInOrder c
  pub few : length (short_text c) ≤ TEXT_LIMIT
  pub valid : IsShortVerdict parts c ValidPlan

-- the certificate is a valid refusal, in order, of the kind that is asked for
pub record IsShownRefusal (rest : Bool) (parts : List Part) (c : ShortCertificate) : Type 0 where
  pub order : IsShortInOrder c
  pub valid : IsShortVerdict parts c ValidRefusal
  pub kind : IsShortRefusal rest c.answer
