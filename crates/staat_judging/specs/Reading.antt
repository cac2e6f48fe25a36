-- What a call tells of the shelf from which it reads a certificate.
use Rattle.std.specs.Prelude.{◌≡◌, ◌≤◌, List, [], ◌∷◌, ℕ, IfErr, is_ok}
use Rattle.staat_edge.specs.Fitting.{Fit}
use Rattle.staat_edge.specs.Opening.{OpensFiles}
use Rattle.staat_edge.specs.Told.{ShelfTold}
use Rattle.staat_input.specs.Causes.{over}
use Rattle.staat_input.specs.Work.{Files, Follows, Found}
use Rattle.staat_judging.specs.Causes.{HasCertificateCause}

-- The call answers what the step finds that reads the certificate in the file of that name, which alone it opens; and
-- it is shown why a fault came.
pub record ReadsCertificate {C : Type 0} (Step : Files → Found C → Type 0) (name : List ℕ) (before now : ShelfTold)
    (result : Found C) : Type 0 where
  pub holds : now.holds ≡ before.holds
  pub count : before.faults ≤ now.faults
  pub opens : OpensFiles (is_ok result) (name ∷ []) before now
  pub found : (files : Files) → Fit now files → Follows (Step files) result
  pub cause : IfErr result (HasCertificateCause name (over before now))
