-- Sets of which none blocks a later one leave one after the other.
use Rattle.std.proofs.Common.{◌≡◌, ℕ, sym, subst, inl, ⊎_elim, List, [], ◌∷◌, Contains}
use Rattle.std.specs.FinSet as set
use Rattle.staat_vec.specs.declared.vector.V3.{V3}
use Rattle.staat_model.specs.declared.assembly.Part.{Part}
use Rattle.staat_model.specs.declared.set.PartSet.{PartSet}
use Rattle.staat_model.specs.Leaving.{AreGoodPlans, IsLeavingOrder, LeaveInTurn, in_turn}
use Rattle.staat_model.specs.Plans.{IsGood, Plan, leaf, parts_of, split}
use Rattle.staat_model.specs.Removal.{IsFree}
use Rattle.staat_model.specs.SetLists.{union_of}
use Rattle.staat_model.specs.Sets.{AreApart, Has}
use Rattle.staat_model.proofs.SetMembers.{has-empty, has-union}
use Rattle.staat_model.proofs.SetWords.{same_members}
use Rattle.staat_vec.proofs.Unique.{Contains-front}
use Rattle.staat_vec.proofs.ListLaws.{Contains-there}

-- the set of the list that a member of the union is in
pub in_one : (sets : List PartSet) (p : ℕ) → Has (union_of sets) p → (t : PartSet) × Contains sets t × Has t p
in_one [] p h = absurd (has-empty p h)
in_one (s ∷ rest) p h = ⊎_elim
    (λ in_s. (s, Contains-front s rest, in_s))
    (λ in_rest. let (t, t_in, has) = in_one rest p in_rest in (t, Contains-there s t rest t_in, has))
    ((has-union s (union_of rest) p).0 h)

-- ---- each set and all later ones

later : (parts : List Part) (d : V3) (s : PartSet) (rest : List PartSet) → IsLeavingOrder parts d (s ∷ rest)
    → IsLeavingOrder parts d rest
later parts d s rest is = record { moves = is.moves; apart = is.apart.1; order = is.order.1 }

first_apart : (parts : List Part) (d : V3) (s : PartSet) (rest : List PartSet) → IsLeavingOrder parts d (s ∷ rest)
    → AreApart s (union_of rest)
first_apart parts d s rest is p in_s h = let (t, t_in, has) = in_one rest p h in is.apart.0 t t_in p in_s has

first_free : (parts : List Part) (d : V3) (s : PartSet) (rest : List PartSet) → IsLeavingOrder parts d (s ∷ rest)
    → IsFree parts s (union_of rest) d
first_free parts d s rest is = record {
  moves = is.moves;
  clear = λ arc a_in b_in m.
      let (t, t_in, has) = in_one rest arc.b b_in in
      is.order.0 t t_in arc.a arc.b a_in has (record {
        i = arc.i;
        j = arc.j;
        different = λ e. first_apart parts d s rest is arc.a a_in (subst (Has (union_of rest)) (sym e) b_in);
        meets = m;
      });
}

pub leave_in_turn_lemma : (parts : List Part) (d : V3) (sets : List PartSet) → IsLeavingOrder parts d sets
    → LeaveInTurn parts d sets
leave_in_turn_lemma parts d [] is = tt
leave_in_turn_lemma parts d (s ∷ rest) is =
    (first_free parts d s rest is, leave_in_turn_lemma parts d rest (later parts d s rest is))

-- ---- the plan

-- a plan takes apart the set of its parts, and no other
pub good_parts : (parts : List Part) (w : PartSet) (plan : Plan) → IsGood parts w plan → w ≡ parts_of plan
good_parts parts w (leaf p) good = good
good_parts parts w (split d moved rest) good = good.0

-- two sets with plans of their own, the one free of the other
split_good : (parts : List Part) (d : V3) (s r : PartSet) (moved rest : Plan) → AreApart s r → IsFree parts s r d
    → IsGood parts s moved → IsGood parts r rest → IsGood parts (set.union s r) (split d moved rest)
split_good parts d s r moved rest apart free first second =
    let e = good_parts parts s moved first in
    let f = good_parts parts r rest second in (
      (λ i. set.union (e i) (f i)),
      subst (λ (t : PartSet). AreApart t (parts_of rest)) e (subst (AreApart s) f apart),
      subst (λ (t : PartSet). IsFree parts t (parts_of rest) d) e (subst (λ (t : PartSet). IsFree parts s t d) f free),
      subst (λ (t : PartSet). IsGood parts t moved) e first,
      subst (λ (t : PartSet). IsGood parts t rest) f second,
    )

union_alone : (s : PartSet) → set.union s set.empty ≡ s
union_alone s = same_members (set.union s set.empty) s
    (λ p h. ⊎_elim (λ in_s. in_s) (λ none. absurd (has-empty p none)) ((has-union s set.empty p).0 h))
    (λ p h. (has-union s set.empty p).1 (inl h))

pub plans_in_turn_lemma : (parts : List Part) (d : V3) (s : PartSet) (sets : List PartSet) (plan : Plan)
    (plans : List Plan) → IsLeavingOrder parts d (s ∷ sets) → AreGoodPlans parts (s ∷ sets) (plan ∷ plans)
    → IsGood parts (union_of (s ∷ sets)) (in_turn d plan plans)
plans_in_turn_lemma parts d s [] plan [] is good =
    subst (λ (w : PartSet). IsGood parts w plan) (sym (union_alone s)) good.0
plans_in_turn_lemma parts d s [] plan (next ∷ plans) is good = absurd good.1
plans_in_turn_lemma parts d s (t ∷ sets) plan [] is good = absurd good.1
plans_in_turn_lemma parts d s (t ∷ sets) plan (next ∷ plans) is good =
    let rest = t ∷ sets in
    split_good parts d s (union_of rest) plan (in_turn d next plans)
    (first_apart parts d s rest is)
    (first_free parts d s rest is)
    good.0
    (plans_in_turn_lemma parts d t sets next plans (later parts d s rest is) good.1)
