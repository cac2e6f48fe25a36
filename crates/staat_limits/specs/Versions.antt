-- Which versions the text of a certificate has.
use Rattle.std.specs.Prelude.{ℕ, ◌≤◌}
use Rattle.staat_limits.specs.declared.limits.TheConstants.{LATEST_VERSION}

-- the versions of the format
abbrev pub IsVersion : ℕ → Type 0
IsVersion version = (1 ≤ version) × (version ≤ LATEST_VERSION)
