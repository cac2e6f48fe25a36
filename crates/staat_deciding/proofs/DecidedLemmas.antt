-- What a decision is written as.
use Rattle.std.proofs.Common.{◌≡◌, ◌<◌, ◌≤◌, ℕ, ◌+◌, Bool, true, false, List, [], ◌∷◌, All, Ok, ap₂, arith, length}
use Rattle.std.specs.Prelude.{◌^◌, cond}
use Rattle.std.specs.FinSet as set
use Rattle.std.specs.Cmp.{nat_cmp_total}
use Rattle.std.specs.Ordering.{nat_cmp}
use Rattle.std.proofs.lemmas.List.Sums.{get_or-le-sum_by}
use Rattle.staat_model.specs.declared.assembly.Part.{Part}
use Rattle.staat_model.specs.Assemblies.{IsProduct}
use Rattle.staat_model.specs.Outcomes.{planned, stuck}
use Rattle.staat_model.specs.Plans.{IsGood, Plan}
use Rattle.staat_model.specs.SetLists.{set_of}
use Rattle.staat_model.specs.Sets.{Has}
use Rattle.staat_model.proofs.SetBits.{has-below}
use Rattle.staat_holds.specs.declared.hold.Hold.{Hold}
use Rattle.staat_decide.specs.Decided.{IsStuckHold}
use Rattle.staat_text.specs.PlanTexts.{HasLeaves, plan_text}
use Rattle.staat_text.proofs.PlanSteps.{product_leaves}
use Rattle.staat_input.specs.declared.answer.Answer.{Answer}
use Rattle.staat_input.specs.Counting.{all_parts}
use Rattle.staat_input.specs.Work.{answer}
use Rattle.staat_deciding.specs.Deciding.{IsDecided, apart, held}

pub few_pieces : (parts : List Part) → IsProduct parts → All (λ part. length part.pieces < 2 ^ 32) parts
few_pieces parts is i d lt =
    let le = get_or-le-sum_by (λ (part : Part). length part.pieces) parts i d lt in
    let most = is.pieces in
    omega (arith, le, most)

pub few_parts : (parts : List Part) → IsProduct parts → length parts < 2 ^ 32
few_parts parts is = let most = is.at_most in omega (arith, most)

part_small : (parts : List Part) (p : ℕ) → IsProduct parts → Has (all_parts parts) p → p < 1024
part_small parts p product h = omega (arith, (has-below (length parts) p).0 h, product.at_most)

pub good_shown : (parts : List Part) (plan : Plan) → IsProduct parts → IsGood parts (all_parts parts) plan → HasLeaves plan
good_shown parts plan product good = product_leaves parts plan (all_parts parts) (λ p h. part_small parts p product h) good

pub numbers_small : (parts : List Part) (members : List ℕ) → IsProduct parts → All (λ p. p < length parts) members → All (λ p. p < 1024) members
numbers_small parts members product small i d lt =
    let at = small i d lt in
    let most = product.at_most in
    omega (arith, at, most)

-- a set has no more members than a list of them
len_list : (members : List ℕ) → set.len (set_of members) ≤ length members
len_list [] = let e = set.len-empty nat_cmp in omega (arith, e)
len_list (p ∷ rest) =
    let e : set.len (set.insert (set_of rest) p) ≡ cond (set.contains (set_of rest) p) (set.len (set_of rest)) (set.len (set_of rest) + 1) = set.len-insert nat_cmp_total (set_of rest) p in
    let le : set.len (set.insert (set_of rest) p) ≤ length rest + 1 = go (set.contains (set_of rest) p) (set.len (set_of rest)) (set.len (set.insert (set_of rest) p)) (length rest) e (len_list rest) in
    omega (arith, le)
  where
    go : (b : Bool) (m n k : ℕ) → n ≡ cond b m (m + 1) → m ≤ k → n ≤ k + 1
    go true m n k e le = omega arith
    go false m n k e le = omega arith

pub plan_decided : (parts : List Part) (tree : Plan) (a : Answer) → IsGood parts (all_parts parts) tree → a.status ≡ 0 → a.text ≡ plan_text (planned tree []) → IsDecided parts (Ok a)
plan_decided parts tree a good s t = apart tree good (ap₂ (λ x y. Ok (answer x y)) s t)

pub hold_decided : (parts : List Part) (hold : Hold) (a : Answer) → IsStuckHold parts hold → a.status ≡ 1 → a.text ≡ plan_text (stuck (set_of hold.nodes)) → IsDecided parts (Ok a)
hold_decided parts hold a is s t =
    let two = is.stuck.two in
    held hold.nodes is.nodes_are.ascending (omega (arith, len_list hold.nodes, two)) is.within is.stuck (ap₂ (λ x y. Ok (answer x y)) s t)

pub ruleset deciding = (good_shown, numbers_small, plan_decided, hold_decided)

pub ruleset bounds = (few_pieces, few_parts)
