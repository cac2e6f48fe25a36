use Rattle.std.proofs.Common.{◌≡◌, ◌∙◌, ℕ, Bool, List, [], ap, length, refl, sym}
use Rattle.std.specs.Prelude.{◌↔◌, ◌==◌, IsTrue}
use Rattle.std.proofs.lemmas.Bool.{eq-eqb, eqb-true}
use Rattle.std.proofs.lemmas.List.{nil_from_length}
use Rattle.staat_vec.specs.declared.vector.V3.{V3}
use Rattle.staat_cone.proofs.AxisWallLemmas.{kept_apart}
use Rattle.staat_cone.proofs.apart.overlap.Goals as goal

pub returns-then-is_apart : goal.returns-then-is_apart
returns-then-is_apart g c =
    let found = c.if-is_apart.ensures.wall refl in
    (λ e. cc, λ o. absurd (kept_apart c.args.p.now c.args.q.now found.0 c.points-points.ensures.piece found.1 o))

-- a list is empty exactly if its length is 0
empty_is : (P : Type 0) (b : Bool) (xs : List V3) (n : ℕ) → b ≡ (n == 0) → n ≡ length xs → (xs ≡ []) ↔ P → IsTrue b ↔ P
empty_is P b xs n e len h =
    (λ t. h.0 (nil_from_length xs (sym len ∙ eqb-true n 0 (sym e ∙ t))), λ p. e ∙ eq-eqb n 0 (len ∙ ap length (h.1 p)))
