-- What a plan that takes a product apart down to groups is written as.
use Rattle.std.proofs.Common.{◌≡◌, ◌∙◌, ◌↔◌, Bool, true, false, List, Ok, ap₂, arith, length, subst, sym, true≢false}
use Rattle.std.specs.Prelude.{IsTrue}
use Rattle.staat_model.specs.declared.assembly.Part.{Part}
use Rattle.staat_model.specs.declared.set.PartSet.{PartSet}
use Rattle.staat_model.specs.Assemblies.{IsProduct}
use Rattle.staat_model.specs.Sets.{Has, below}
use Rattle.staat_model.proofs.SetBits.{has-below}
use Rattle.staat_holds.specs.declared.grouped.GroupedTree.{GroupedTree, Leaf, Group, Split'}
use Rattle.staat_holds.specs.Partials.{HasShownGroups, HasTogether, IsShownRest, partial_of}
use Rattle.staat_input.specs.declared.answer.Answer.{Answer}
use Rattle.staat_input.specs.Work.{answer}
use Rattle.staat_deciding.specs.Deciding.{IsDecidedDown, all_apart, some_apart}
use Rattle.staat_deciding.specs.RestTexts.{CanBeWritten, HasAscendingGroups, HasSmallParts, rest_text}
use Rattle.staat_deciding.proofs.PartialLemmas.{good_plan, parts_are, plan_in, same_text, steps_small}

groups_ascend : (parts : List Part) (tree : GroupedTree) → HasShownGroups parts tree → HasAscendingGroups tree
groups_ascend parts (Leaf p) shown = tt
groups_ascend parts (Group group) shown = shown.members.ascending
groups_ascend parts (Split' d p moved q rest) shown = (groups_ascend parts moved shown.0, groups_ascend parts rest shown.1)

small_parts : (parts : List Part) (tree : GroupedTree) → IsProduct parts → IsShownRest parts tree → HasSmallParts (partial_of tree)
small_parts parts tree product shown p h =
    let in_all : Has (below (length parts)) p = subst (λ (s : PartSet). Has s p) (sym (parts_are parts (partial_of tree) (below (length parts)) shown.good)) h in
    omega (arith, (has-below (length parts) p).0 in_all, product.at_most)

pub can_be_written : (parts : List Part) (tree : GroupedTree) → IsProduct parts → IsShownRest parts tree → CanBeWritten tree
can_be_written parts tree product shown = record {
  small = small_parts parts tree product shown;
  few = steps_small parts (partial_of tree) (below (length parts)) shown.good (small_parts parts tree product shown);
  ascending = groups_ascend parts tree shown.groups;
}

pub down_some : (parts : List Part) (tree : GroupedTree) (a : Answer) (some : Bool) → IsShownRest parts tree → (IsTrue some ↔ HasTogether (partial_of tree)) → some ≡ true → a.status ≡ 1 → a.text ≡ rest_text (partial_of tree) → IsDecidedDown parts (Ok a)
down_some parts tree a some shown iff is status text = some_apart (partial_of tree) shown.good (iff.0 is) (ap₂ (λ n t. Ok (answer n t)) status text)

pub down_none : (parts : List Part) (tree : GroupedTree) (a : Answer) (some : Bool) → IsShownRest parts tree → (IsTrue some ↔ HasTogether (partial_of tree)) → some ≡ false → a.status ≡ 0 → a.text ≡ rest_text (partial_of tree) → IsDecidedDown parts (Ok a)
down_none parts tree a some shown iff is status text =
    let none : HasTogether (partial_of tree) → ⊥ = λ h. true≢false (sym (iff.1 h) ∙ is) in
    all_apart (plan_in (partial_of tree)) (good_plan parts (partial_of tree) (below (length parts)) none shown.good)
    (ap₂ (λ n t. Ok (answer n t)) status (text ∙ same_text (partial_of tree) none))

pub ruleset writing = (can_be_written, down_some, down_none)
