-- Which files a fault may name that says that a file is too long.
use Rattle.std.proofs.Common.{ℕ, List, [], None, Ok, Err}
use Rattle.std.specs.Prelude.{Result, IfErr}
use Rattle.staat_edge.specs.Told.{ShelfTold}
use Rattle.staat_fault.specs.declared.fault.Fault.{Fault}
use Rattle.staat_fault.specs.declared.fault.Fault.TheVariants as fault
use Rattle.staat_input.specs.Causes.{HasCause, IfTooLong, ShelfSide, over}

abbrev silent : ShelfTold
silent = record { holds = None; faults = 0; failed = None; opened = None; place = None; given = [] }

-- a fault that comes whatever a shelf tells does not say that a file is too long
pub never_long : {X : Type 0} (P : List ℕ → Type 0) (r : Result X Fault) → ((shelf : ShelfSide) → IfErr r (HasCause shelf)) → IfErr r (IfTooLong P)
never_long P (Ok x) cause = tt
never_long P (Err f) cause = go f (cause (over silent silent))
  where
    go : (f : Fault) → HasCause (over silent silent) f → IfTooLong P f
    go (fault.TooLong name) past = absurd past.place
    go f h = tt
