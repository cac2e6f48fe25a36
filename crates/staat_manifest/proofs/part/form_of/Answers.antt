use Rattle.std.proofs.Common.{◌≡◌, ◌∙◌, ◌++◌, ◌∷◌, ℕ, Bool, true, false, [], None, Some, ap, append_assoc, map, subst, sym}
use Rattle.std.proofs.lemmas.Result.{err_from_is_err_and}
use Rattle.std.specs.Prelude.{codes, is_some}
use Rattle.serde_json.specs.Data.{Data}
use Rattle.serde_json.specs.Find.{as_object}
use Rattle.serde_json.specs.View.{view}
use Rattle.staat_manifest.specs.declared.refusal.ManifestRefusal.TheVariants.{BadShape}
use Rattle.staat_manifest.specs.Answers.{RefusesPart}
use Rattle.staat_manifest.specs.Placements.{placement_of}
use Rattle.staat_manifest.specs.Rules.{form_rules, is_name, part_path}
use Rattle.staat_manifest.specs.Values.{Text, array_at, has_only, name_of}
use Rattle.staat_manifest.proofs.ValueLemmas.{no_values, some_values}
use Rattle.staat_manifest.proofs.part.form_of.Goals as goal

is_named : (part : Data) (name : Text) (r : Bool) {b : Bool} → name ≡ name_of part → r ≡ is_name name → r ≡ b
    → is_name (name_of part) ≡ b
is_named part name r {b = b} same tested is = sym (ap is_name same) ∙ sym tested ∙ is

at_member : (k : ℕ) (name : Text) → Some (BadShape (part_path k ++ (codes "/" ++ name))) ≡ Some (BadShape (part_path k ++ codes "/" ++ name))
at_member k name = ap (λ p. Some (BadShape p)) (sym (append_assoc (part_path k) (codes "/") name))

pub returns-then-not-is_object-clause-rules : goal.returns-then-not-is_object-clause-rules
unfolding form_rules
returns-then-not-is_object-clause-rules c =
    let part = view c.args.part.now in
    let object : is_some (as_object part) ≡ false = sym c.is_object.ensures ∙ c.if-not-is_object.true in
    rw object c.bad_part.ensures

pub returns-then-not-is_name-clause-rules : goal.returns-then-not-is_name-clause-rules
unfolding form_rules
returns-then-not-is_name-clause-rules c =
    let part = view c.args.part.now in
    let object : is_some (as_object part) ≡ true = sym c.is_object.ensures ∙ c.if-not-is_object.false in
    let named : is_name (name_of part) ≡ false = is_named part c.text_at-name.result.now c.is_name.result c.text_at-name.ensures c.is_name.ensures c.if-not-is_name.true in
    rw (object, named) (subst (λ o. RefusesPart o c.bad_member.result) (sym (at_member c.args.k (codes "name"))) c.bad_member.ensures)

pub returns-in_default-clause-rules : goal.returns-in_default-clause-rules
unfolding form_rules
returns-in_default-clause-rules c =
    let part = view c.args.part.now in
    let object : is_some (as_object part) ≡ true = sym c.is_object.ensures ∙ c.if-not-is_object.false in
    let named : is_name (name_of part) ≡ true = is_named part c.text_at-name.result.now c.is_name.result c.text_at-name.ensures c.is_name.ensures c.if-not-is_name.false in
    let array : None ≡ array_at (codes "pieces") part = c.in_default.ensures in
    rw (object, named, ← array) (subst (λ o. RefusesPart o c.bad_member-in_default.result) (sym (at_member c.args.k (codes "pieces"))) c.bad_member-in_default.ensures)

pub returns-in_default-placement_of-clause-rules : goal.returns-in_default-placement_of-clause-rules
unfolding form_rules
returns-in_default-placement_of-clause-rules c =
    let part = view c.args.part.now in
    let object : is_some (as_object part) ≡ true = sym c.is_object.ensures ∙ c.if-not-is_object.false in
    let named : is_name (name_of part) ≡ true = is_named part c.text_at-name.result.now c.is_name.result c.text_at-name.ensures c.is_name.ensures c.if-not-is_name.false in
    let array : Some (map view c.in-Some.pieces.now) ≡ array_at (codes "pieces") part = c.in-Some.ensures in
    let placed : None ≡ placement_of part = c.in_default-placement_of.ensures in
    rw (object, named, ← array, ← placed)
    (subst (λ o. RefusesPart o c.bad_member-in_default-placement_of.result) (sym (at_member c.args.k (codes "at"))) c.bad_member-in_default-placement_of.ensures)

pub returns-then-not-has_only-clause-rules : goal.returns-then-not-has_only-clause-rules
unfolding form_rules
returns-then-not-has_only-clause-rules c =
    let part = view c.args.part.now in
    let object : is_some (as_object part) ≡ true = sym c.is_object.ensures ∙ c.if-not-is_object.false in
    let named : is_name (name_of part) ≡ true = is_named part c.text_at-name.result.now c.is_name.result c.text_at-name.ensures c.is_name.ensures c.if-not-is_name.false in
    let array : Some (map view c.in-Some.pieces.now) ≡ array_at (codes "pieces") part = c.in-Some.ensures in
    let placed : Some c.in-Some-placement_of.at ≡ placement_of part = c.in-Some-placement_of.ensures in
    let only : has_only (codes "name" ∷ codes "pieces" ∷ codes "at" ∷ []) part ≡ false = sym c.has_only.ensures ∙ c.if-not-has_only.true in
    rw (object, named, ← array, ← placed, only) c.bad_part-then-not-has_only.ensures

pub returns-then-is_empty-clause-rules : goal.returns-then-is_empty-clause-rules
unfolding form_rules
returns-then-is_empty-clause-rules c =
    let part = view c.args.part.now in
    let object : is_some (as_object part) ≡ true = sym c.is_object.ensures ∙ c.if-not-is_object.false in
    let named : is_name (name_of part) ≡ true = is_named part c.text_at-name.result.now c.is_name.result c.text_at-name.ensures c.is_name.ensures c.if-not-is_name.false in
    let array : Some (map view c.in-Some.pieces.now) ≡ array_at (codes "pieces") part = c.in-Some.ensures in
    let placed : Some c.in-Some-placement_of.at ≡ placement_of part = c.in-Some-placement_of.ensures in
    let only : has_only (codes "name" ∷ codes "pieces" ∷ codes "at" ∷ []) part ≡ true = sym c.has_only.ensures ∙ c.if-not-has_only.false in
    rw (object, named, ← array, ← placed, only, no_values c.in-Some.pieces.now c.is_empty.result c.is_empty.ensures c.if-is_empty.true)

pub returns-in_err-check_pieces-clause-rules : goal.returns-in_err-check_pieces-clause-rules
unfolding form_rules
returns-in_err-check_pieces-clause-rules c =
    let part = view c.args.part.now in
    let object : is_some (as_object part) ≡ true = sym c.is_object.ensures ∙ c.if-not-is_object.false in
    let named : is_name (name_of part) ≡ true = is_named part c.text_at-name.result.now c.is_name.result c.text_at-name.ensures c.is_name.ensures c.if-not-is_name.false in
    let array : Some (map view c.in-Some.pieces.now) ≡ array_at (codes "pieces") part = c.in-Some.ensures in
    let placed : Some c.in-Some-placement_of.at ≡ placement_of part = c.in-Some-placement_of.ensures in
    let only : has_only (codes "name" ∷ codes "pieces" ∷ codes "at" ∷ []) part ≡ true = sym c.has_only.ensures ∙ c.if-not-has_only.false in
    let some = some_values c.in-Some.pieces.now c.is_empty.result c.is_empty.ensures c.if-is_empty.false in
    let p = err_from_is_err_and c.from_residual.result c.from_residual.ensures.1 in
    rw (p.1, p.2, object, named, ← array, ← placed, only, some) c.in_err-check_pieces.ensures

pub returns-clause-rules : goal.returns-clause-rules
unfolding form_rules
returns-clause-rules c =
    let part = view c.args.part.now in
    let object : is_some (as_object part) ≡ true = sym c.is_object.ensures ∙ c.if-not-is_object.false in
    let named : is_name (name_of part) ≡ true = is_named part c.text_at-name.result.now c.is_name.result c.text_at-name.ensures c.is_name.ensures c.if-not-is_name.false in
    let array : Some (map view c.in-Some.pieces.now) ≡ array_at (codes "pieces") part = c.in-Some.ensures in
    let placed : Some c.in-Some-placement_of.at ≡ placement_of part = c.in-Some-placement_of.ensures in
    let only : has_only (codes "name" ∷ codes "pieces" ∷ codes "at" ∷ []) part ≡ true = sym c.has_only.ensures ∙ c.if-not-has_only.false in
    rw (object, named, ← array, ← placed, only, some_values c.in-Some.pieces.now c.is_empty.result c.is_empty.ensures c.if-is_empty.false) c.in_ok-check_pieces.ensures
