-- A search that found nothing.
use Rattle.std.proofs.Common.{◌↔◌, false}
use Rattle.std.specs.Prelude.{IsTrue}

pub not_found : (P : Type 0) → (P → ⊥) → IsTrue false ↔ P
not_found P none = (λ t. absurd cc, λ p. absurd (none p))

pub no_more : (P : Type 0) → IsTrue false ↔ P → P → ⊥
no_more P told p = let wrong : IsTrue false = told.1 p in cc
