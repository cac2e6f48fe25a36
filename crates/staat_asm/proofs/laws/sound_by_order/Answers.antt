use Rattle.std.proofs.Common.{◌≡◌, ◌<◌, ℕ, arith}
use Rattle.staat_asm.proofs.SoundLemmas.{sound_from}
use Rattle.staat_asm.proofs.laws.sound_by_order.Goals as goal

apart : (a b : ℕ) → a < b → a ≡ b → ⊥
apart a b lt e = absurd (omega (arith, lt, e))

pub returns : goal.returns
returns c = λ parts. (λ sound arc is. sound arc (apart arc.a arc.b is.0) is.1, sound_from parts)
