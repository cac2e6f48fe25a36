use Rattle.std.proofs.Common.{◌≡◌, ◌∙◌, ◌+◌, ◌++◌, ◌∷◌, ℕ, List, [], All, ap, arith, length, le-add_right, length-append, refl, subst, sym}
use Rattle.std.proofs.lemmas.Bool.{false≢true}
use Rattle.std.proofs.lemmas.List.Elements.{All-push}
use Rattle.staat_off.specs.Raws.{IsCounted}
use Rattle.staat_explode.specs.declared.scene.Solid.{Solid}
use Rattle.staat_explode.specs.Sizes.{IsSolidIn}
use Rattle.staat_input.specs.Drawing.{AreSmall}
use Rattle.staat_input.proofs.SketchLemmas.{small_more}
use Rattle.staat_input.proofs.sketch.Sketch.add.Goals as goal

-- one solid more
small_push : (parts most : ℕ) (solids now : List Solid) (solid : Solid) → now ≡ solids ++ solid ∷ [] → IsSolidIn parts solid
    → IsCounted solid.raw → AreSmall parts most solids → AreSmall parts (most + 1) now
small_push parts most solids now solid is placed counted small = record {
  placed = subst (All (IsSolidIn parts)) (sym is) (All-push (IsSolidIn parts) solids solid small.placed placed);
  counted = subst (All (λ (s : Solid). IsCounted s.raw)) (sym is) (All-push (λ (s : Solid). IsCounted s.raw) solids solid small.counted counted);
  few = omega (arith, ap length is, length-append solids (solid ∷ []), small.few);
}

pub returns-in_ok-push-clause-small : goal.returns-in_ok-push-clause-small
returns-in_ok-push-clause-small c = λ parts most here small.
    small_push parts most _ _ _ c.in_ok-push.ensures.items
    (record { part = here; at = c.requires.at; raw = c.requires.indexed }) c.requires.counted small

pub returns-in_ok-push-clause-drew : goal.returns-in_ok-push-clause-drew
returns-in_ok-push-clause-drew c = record { keep = refl; solids = λ on. c.in_ok-push.ensures.items }

pub returns-else-self-clause-small : goal.returns-else-self-clause-small
returns-else-self-clause-small c = λ parts most here small. small_more parts most (most + 1) _ (le-add_right most 1) small

pub returns-else-self-clause-drew : goal.returns-else-self-clause-drew
returns-else-self-clause-drew c = record { keep = refl; solids = λ on. absurd (false≢true (sym c.if-self.false ∙ on)) }
