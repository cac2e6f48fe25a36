-- A set that leaves can be planned by itself, and what is planned so far.
use Rattle.std.proofs.Common.{◌≡◌, ◌∙◌, ℕ, ◌+◌, ◌<◌, ◌≤◌, All, List, [], ◌∷◌, ◌++◌, ap, get_or, length, map, subst, sym, take}
use Rattle.std.specs.List.Sorted.{IsStrictlySortedBy}
use Rattle.std.specs.Ordering.{nat_cmp}
use Rattle.std.proofs.lemmas.List.{take_all}
use Rattle.std.proofs.lemmas.List.Elements.{All-contains}
use Rattle.staat_vec.specs.declared.vector.V3.{V3}
use Rattle.staat_model.specs.declared.assembly.Part.{Part}
use Rattle.staat_model.specs.declared.tree.Tree.{Tree}
use Rattle.staat_model.specs.Leaving.{AreGoodPlans}
use Rattle.staat_model.specs.Plans.{IsGood, plan_of}
use Rattle.staat_model.specs.SetLists.{set_of}
use Rattle.staat_model.proofs.Members.{All-from_members}
use Rattle.staat_decide.specs.Peelings.{IsPeeling}
use Rattle.staat_decide.proofs.Deciding.{good_more}
use Rattle.staat_decide.proofs.Sides.{set_shorter, set_within}
use Rattle.staat_vec.proofs.ListLaws.{any_default}

-- the set has a part, ascends, has parts that exist, and fewer than w
pub record IsReady (parts : List Part) (w s : List ℕ) : Type 0 where
  pub less : length s < length w
  pub within : All (λ p. p < length parts) s
  pub ascending : IsStrictlySortedBy nat_cmp s
  pub some : 1 ≤ length s

-- an element of a list that is equal to this one
pub own_place : (sets slice : List (List ℕ)) (i : ℕ) (item kept : List ℕ) → slice ≡ sets → i < length slice
    → item ≡ get_or slice i item → kept ≡ item → kept ≡ get_or sets i []
own_place sets slice i item kept same lt at is =
    is ∙ at ∙ any_default slice i item [] lt ∙ ap (λ (xs : List (List ℕ)). get_or xs i []) same

pub set_ready : (parts : List Part) (d : V3) (w : List ℕ) (sets : List (List ℕ)) (i : ℕ) (s : List ℕ) → IsPeeling parts d w sets
    → IsStrictlySortedBy nat_cmp w → All (λ p. p < length parts) w → i < length sets → s ≡ get_or sets i [] → IsReady parts w s
set_ready parts d w sets i s is sorted within lt e = subst (IsReady parts w) (sym e) (record {
  less = set_shorter parts d w sets i sorted is lt;
  within = All-from_members (λ p. p < length parts) (get_or sets i []) (λ q c. All-contains (λ p. p < length parts) w q within (set_within parts d w sets i is lt q c));
  ascending = (is.each i [] lt).ascending;
  some = (is.each i [] lt).nonempty;
})

pub good_step : (parts : List Part) (sets slice : List (List ℕ)) (trees next : List Tree) (i : ℕ) (s : List ℕ) (tree : Tree) → slice ≡ sets
    → i < length slice → s ≡ get_or sets i [] → AreGoodPlans parts (map set_of (take i slice)) (map plan_of trees)
    → IsGood parts (set_of s) (plan_of tree) → next ≡ trees ++ tree ∷ []
    → AreGoodPlans parts (map set_of (take (i + 1) slice)) (map plan_of next)
good_step parts sets slice trees next i s tree same lt e are good push =
    let own : s ≡ get_or slice i [] = e ∙ ap (λ (xs : List (List ℕ)). get_or xs i []) (sym same) in
    subst (λ (ts : List Tree). AreGoodPlans parts (map set_of (take (i + 1) slice)) (map plan_of ts)) (sym push)
    (good_more parts slice trees i tree lt are (subst (λ (xs : List ℕ). IsGood parts (set_of xs) (plan_of tree)) own good))

-- at the end all sets are planned
pub all_planned : (parts : List Part) (sets slice : List (List ℕ)) (trees : List Tree) (n : ℕ) → slice ≡ sets → length slice ≤ n
    → AreGoodPlans parts (map set_of (take n slice)) (map plan_of trees) → AreGoodPlans parts (map set_of sets) (map plan_of trees)
all_planned parts sets slice trees n same le are =
    subst (λ (xs : List (List ℕ)). AreGoodPlans parts (map set_of xs) (map plan_of trees)) (take_all n slice le ∙ same) are
