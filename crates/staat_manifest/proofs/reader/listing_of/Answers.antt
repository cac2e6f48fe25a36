use Rattle.std.proofs.Common.{◌≡◌, ◌∙◌, ◌<◌, ◌≤◌, ◌∷◌, ℕ, Bor, true, false, List, [], Option, None, Some, Result, ap, arith, length, map}
use Rattle.std.proofs.Common.{refl, subst, sym}
use borrow.Author.Tests.{le-true, lt-false}
use Rattle.std.proofs.lemmas.List.{length-map}
use Rattle.std.specs.Prelude.{codes, is_some, nat_le, option_map, unwrap_or}
use Rattle.serde_json.specs.Data.{Data}
use Rattle.serde_json.specs.Find.{as_object}
use Rattle.serde_json.specs.View.{view}
use Rattle.serde_json.specs.declared.value.Value.{Value}
use Rattle.staat_manifest.specs.declared.listing.ListedPart.{ListedPart}
use Rattle.staat_manifest.specs.declared.refusal.ManifestRefusal.{ManifestRefusal}
use Rattle.staat_manifest.specs.declared.refusal.ManifestRefusal.TheVariants.{TooManyParts}
use Rattle.staat_manifest.specs.Answers.{AnswersList}
use Rattle.staat_manifest.specs.Rules.{whole_rules}
use Rattle.staat_manifest.specs.Values.{array_at, has_only, parts_value}
use Rattle.staat_manifest.proofs.RuleLemmas.{by_parts, whole_refuses}
use Rattle.staat_manifest.proofs.ValueLemmas.{no_values, some_values}
use Rattle.staat_manifest.proofs.reader.listing_of.Goals as goal

-- the parts that were found, or none
parts_are : (found : Option (Bor (List Value))) (r none : Bor (List Value)) (value : Data) → r ≡ unwrap_or found none → none.now ≡ []
    → option_map (λ s. map view s.now) found ≡ array_at (codes "parts") value → map view r.now ≡ parts_value value
parts_are None r none value is empty at =
    ap (λ s. map view s.now) is ∙ ap (map view) empty ∙ ap (λ o. unwrap_or o []) at
parts_are (Some s) r none value is empty at = ap (λ s. map view s.now) is ∙ ap (λ o. unwrap_or o []) at

few_parts : (vs : List Value) (most : ℕ) → length vs ≤ most → nat_le (length (map view vs)) most ≡ true
few_parts vs most few = sym (le-true _ most (rw length-map few))

many_parts : (vs : List Value) (most : ℕ) → most < length vs → nat_le (length (map view vs)) most ≡ false
many_parts vs most many = sym (lt-false _ most (rw length-map many))

pub returns-then-not-is_object : goal.returns-then-not-is_object
unfolding whole_rules
returns-then-not-is_object c =
    let value = view c.args.value.now in
    let object : is_some (as_object value) ≡ false = sym c.is_object.ensures ∙ c.if-not-is_object.true in
    whole_refuses c.args.most_parts c.args.most_pieces value _ (rw object c.bad_shape.ensures)

pub returns-then-is_empty : goal.returns-then-is_empty
unfolding whole_rules
returns-then-is_empty c =
    let value = view c.args.value.now in
    let object : is_some (as_object value) ≡ true = sym c.is_object.ensures ∙ c.if-not-is_object.false in
    let found = c.unwrap_or-parts.result.now in
    let parts : map view found ≡ parts_value value = parts_are c.array_at.result c.unwrap_or-parts.result _ value c.unwrap_or-parts.ensures refl c.array_at.ensures in
    let none = no_values found c.is_empty.result c.is_empty.ensures c.if-is_empty.true in
    whole_refuses c.args.most_parts c.args.most_pieces value _ (rw (object, ← parts, none) c.bad_shape-then-is_empty.ensures)

pub returns-then-not-has_only : goal.returns-then-not-has_only
unfolding whole_rules
returns-then-not-has_only c =
    let value = view c.args.value.now in
    let object : is_some (as_object value) ≡ true = sym c.is_object.ensures ∙ c.if-not-is_object.false in
    let found = c.unwrap_or-parts.result.now in
    let parts : map view found ≡ parts_value value = parts_are c.array_at.result c.unwrap_or-parts.result _ value c.unwrap_or-parts.ensures refl c.array_at.ensures in
    let some = some_values found c.is_empty.result c.is_empty.ensures c.if-is_empty.false in
    let only : has_only (codes "parts" ∷ []) value ≡ false = sym c.has_only.ensures ∙ c.if-not-has_only.true in
    whole_refuses c.args.most_parts c.args.most_pieces value _ (rw (object, ← parts, some, only) c.bad_shape-then-not-has_only.ensures)

pub returns-then-parts-most_parts : goal.returns-then-parts-most_parts
unfolding whole_rules
returns-then-parts-most_parts c =
    let value = view c.args.value.now in
    let object : is_some (as_object value) ≡ true = sym c.is_object.ensures ∙ c.if-not-is_object.false in
    let found = c.unwrap_or-parts.result.now in
    let parts : map view found ≡ parts_value value = parts_are c.array_at.result c.unwrap_or-parts.result _ value c.unwrap_or-parts.ensures refl c.array_at.ensures in
    let some = some_values found c.is_empty.result c.is_empty.ensures c.if-is_empty.false in
    let only : has_only (codes "parts" ∷ []) value ≡ true = sym c.has_only.ensures ∙ c.if-not-has_only.false in
    let many = many_parts found c.args.most_parts c.if-parts-most_parts.true in
    whole_refuses c.args.most_parts c.args.most_pieces value TooManyParts (rw (object, ← parts, some, only, many) refl)

pub list_parts-requires : goal.list_parts-requires
list_parts-requires c = omega (arith, c.if-parts-most_parts.false)

pub returns : goal.returns
unfolding whole_rules
returns c =
    let value = view c.args.value.now in
    let object : is_some (as_object value) ≡ true = sym c.is_object.ensures ∙ c.if-not-is_object.false in
    let found = c.unwrap_or-parts.result.now in
    let parts : map view found ≡ parts_value value = parts_are c.array_at.result c.unwrap_or-parts.result _ value c.unwrap_or-parts.ensures refl c.array_at.ensures in
    let some = some_values found c.is_empty.result c.is_empty.ensures c.if-is_empty.false in
    let only : has_only (codes "parts" ∷ []) value ≡ true = sym c.has_only.ensures ∙ c.if-not-has_only.false in
    let few = few_parts found c.args.most_parts c.if-parts-most_parts.false in
    subst (λ (wanted : Result (List ListedPart) ManifestRefusal). AnswersList wanted c.list_parts.result)
    (sym (by_parts c.args.most_parts c.args.most_pieces value (rw (object, ← parts, some, only, few) refl) _ parts)) c.list_parts.ensures
