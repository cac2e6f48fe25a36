use Rattle.std.proofs.Common.{◌≡◌, ◌∙◌, ◌++◌, ◌∷◌, ◌⊎◌, ◌↔◌, [], All, Contains, List, inl, inr, subst, sym, ⊎_elim}
use Rattle.std.specs.Prelude.{IsTrue}
use Rattle.std.proofs.lemmas.List.Elements.{All-push, Contains-append_left, Contains-push, Contains-push_cases}
use Rattle.staat_vec.specs.declared.vector.TheConstants.{NORMAL}
use Rattle.staat_vec.specs.declared.vector.V3.{V3}
use Rattle.staat_vec.specs.Primitives.{canon}
use Rattle.staat_model.specs.Planes.{axes}
use Rattle.staat_holds.specs.Links.{IsOther}
use Rattle.staat_vec.specs.Vectors.{IsWithin}
use Rattle.staat_holds.proofs.planes.add_plane.Goals as goal

pub returns-clause-within : goal.returns-clause-within
returns-clause-within c =
    subst (All (IsWithin NORMAL)) (sym c.in_ok-push.ensures.items) (All-push (IsWithin NORMAL) c.args.others.now.items c.canon-n.result c.requires.within (c.canon-n.ensures.size NORMAL c.requires.short))

-- what is listed after one more
pushed : (olds news : List V3) (n facet : V3) → news ≡ olds ++ n ∷ [] → n ≡ canon facet → (Contains axes n → ⊥) → (m : V3)
    → Contains news m ↔ (Contains olds m ⊎ IsOther facet m)
pushed olds news n facet is value other m = (
  (λ h. ⊎_elim {C = Contains olds m ⊎ IsOther facet m} inl
      (λ same. inr (sym same ∙ value, λ a. other (subst (Contains axes) (sym same) a)))
      (Contains-push_cases olds n m (subst (λ l. Contains l m) is h))),
  (λ h. subst (λ l. Contains l m) (sym is) (⊎_elim {C = Contains (olds ++ n ∷ []) m} (Contains-append_left olds (n ∷ []) m)
      (λ o. subst (Contains (olds ++ n ∷ [])) (value ∙ sym o.0) (Contains-push olds n)) h)),
)

-- the normal of an axis is no other
kept : (olds : List V3) (n facet : V3) → n ≡ canon facet → Contains axes n → (m : V3) → Contains olds m ↔ (Contains olds m ⊎ IsOther facet m)
kept olds n facet value axis m = (inl, ⊎_elim {C = Contains olds m} (λ h. h) (λ o. absurd (o.1 (subst (Contains axes) (value ∙ sym o.0) axis))))

pub returns-clause-others : goal.returns-clause-others
returns-clause-others c =
    let other : Contains axes c.canon-n.result → ⊥ = λ a. let told : IsTrue c.is_axis.result = c.is_axis.ensures.1 a in cc (told, c.if-is_axis.false) in
    pushed c.args.others.now.items c.push.new.self.items c.canon-n.result c.args.facet c.in_ok-push.ensures.items c.canon-n.ensures.value other

pub returns-then-is_axis-clause-others : goal.returns-then-is_axis-clause-others
returns-then-is_axis-clause-others c = kept c.args.others.now.items c.canon-n.result c.args.facet c.canon-n.ensures.value (c.is_axis.ensures.0 c.if-is_axis.true)
