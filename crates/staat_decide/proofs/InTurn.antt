-- Plans of sets that leave one after the other, joined from the last one on.
use Rattle.std.proofs.Common.{◌≡◌, List, [], ◌∷◌, ◌++◌, ap, refl, sym, subst, ◌∙◌}
use Rattle.staat_vec.specs.declared.vector.V3.{V3}
use Rattle.staat_model.specs.declared.assembly.Part.{Part}
use Rattle.staat_model.specs.declared.set.PartSet.{PartSet}
use Rattle.staat_model.specs.Leaving.{AreGoodPlans, in_turn}
use Rattle.staat_model.specs.Plans.{IsGood, Plan, split}

same_behind : (d : V3) (p : Plan) (xs : List Plan) (m r : Plan)
    → in_turn d p ((xs ++ m ∷ []) ++ r ∷ []) ≡ in_turn d p (xs ++ split d m r ∷ [])
same_behind d p [] m r = refl
same_behind d p (x ∷ xs) m r = ap (split d p) (same_behind d x xs m r)

-- a list that begins with a plan, and what it is in turn
pub record IsInTurn (d : V3) (plans : List Plan) (whole : Plan) : Type 0 where
  pub first : Plan
  pub others : List Plan
  pub are : plans ≡ first ∷ others
  pub is : in_turn d first others ≡ whole

-- the two last ones may be joined before
pub turn_step : (d : V3) (xs : List Plan) (m r whole : Plan) → IsInTurn d ((xs ++ m ∷ []) ++ r ∷ []) whole
    → IsInTurn d (xs ++ split d m r ∷ []) whole
turn_step d [] m r whole h = record { first = split d m r; others = []; are = refl; is = same h }
  where
    same : IsInTurn d (m ∷ r ∷ []) whole → split d m r ≡ whole
    same h = go h.first h.others h.are h.is
      where
        go : (p : Plan) (ps : List Plan) → m ∷ r ∷ [] ≡ p ∷ ps → in_turn d p ps ≡ whole → split d m r ≡ whole
        go p ps e is =
            let first : m ≡ p = cc in
            let others : r ∷ [] ≡ ps = cc in
            subst (λ (qs : List Plan). in_turn d m qs ≡ whole) (sym others) (subst (λ (q : Plan). in_turn d q ps ≡ whole) (sym first) is)
turn_step d (x ∷ xs) m r whole h = record { first = x; others = xs ++ split d m r ∷ []; are = refl; is = go h.first h.others h.are h.is }
  where
    go : (p : Plan) (ps : List Plan) → x ∷ ((xs ++ m ∷ []) ++ r ∷ []) ≡ p ∷ ps → in_turn d p ps ≡ whole → in_turn d x (xs ++ split d m r ∷ []) ≡ whole
    go p ps e is =
        let first : x ≡ p = cc in
        let others : (xs ++ m ∷ []) ++ r ∷ [] ≡ ps = cc in
        sym (same_behind d x xs m r) ∙ subst (λ (qs : List Plan). in_turn d x qs ≡ whole) (sym others) (subst (λ (q : Plan). in_turn d q ps ≡ whole) (sym first) is)

-- ---- good plans for one more set

pub good_push : (parts : List Part) (sets : List PartSet) (plans : List Plan) (s : PartSet) (plan : Plan)
    → AreGoodPlans parts sets plans → IsGood parts s plan → AreGoodPlans parts (sets ++ s ∷ []) (plans ++ plan ∷ [])
good_push parts [] [] s plan are good = (good, tt)
good_push parts [] (p ∷ plans) s plan are good = absurd are
good_push parts (t ∷ sets) [] s plan are good = absurd are
good_push parts (t ∷ sets) (p ∷ plans) s plan are good = (are.0, good_push parts sets plans s plan are.1 good)
