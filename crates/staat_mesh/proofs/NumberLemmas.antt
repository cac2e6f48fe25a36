-- What a binary search among the points of a mesh finds.
use Rattle.std.proofs.Common.{◌≡◌, ◌<◌, ◌≤◌, ◌+◌, ℕ, List, [], ◌∷◌, ◌++◌, length, take, get_or, Some, ap, sym, subst, ◌∙◌, arith, inl, inr}
use Rattle.std.specs.Prelude.{Contains, slice_get}
use Rattle.std.proofs.lemmas.List.{get_or_append_left, get_or_push, length-append, take_all, take_more}
use Rattle.std.proofs.lemmas.List.Elements.{All-push}
use Rattle.std.proofs.lemmas.Option.{slice_get_within}
use Rattle.staat_vec.specs.declared.vector.V3.{V3}
use Rattle.staat_vec.proofs.ListLaws.{push_cases}
use Rattle.staat_limits.specs.declared.limits.TheConstants.{MOST_POINTS}
use Rattle.staat_mesh.specs.Counts.{Numbers}

-- ---- the numbers of vertices, one after another

numbers_push : (points positions : List V3) (numbers : List ℕ) (p : V3) (n : ℕ) → Numbers points positions numbers → (Contains points p → slice_get points n ≡ Some p) → n < MOST_POINTS → Numbers points (positions ++ p ∷ []) (numbers ++ n ∷ [])
numbers_push points positions numbers p n so_far at below = record {
  each_once = omega (arith, length-append positions (p ∷ []), length-append numbers (n ∷ []), so_far.each_once);
  below = All-push (λ m. m < MOST_POINTS) numbers n so_far.below below;
  at = λ v q e h. elim (push_cases positions p q v e) [
    | inl old ↦ ap (slice_get points) (get_or_append_left numbers (n ∷ []) 0 v (omega (arith, slice_get_within positions v q old, so_far.each_once))) ∙ so_far.at v q old h
    | inr new ↦ ap (slice_get points) (get_or_push numbers n 0 v (so_far.each_once ∙ sym new.0)) ∙ at (subst (Contains points) (sym new.1) h) ∙ ap Some new.1
  ];
}

pub numbers_more : (points positions : List V3) (i : ℕ) (d : V3) (numbers : List ℕ) (n : ℕ) → i < length positions → Numbers points (take i positions) numbers → (Contains points (get_or positions i d) → slice_get points n ≡ Some (get_or positions i d)) → n < MOST_POINTS → Numbers points (take (i + 1) positions) (numbers ++ n ∷ [])
numbers_more points positions i d numbers n lt so_far at below =
    subst (λ ps. Numbers points ps (numbers ++ n ∷ [])) (sym (take_more positions i d lt)) (numbers_push points (take i positions) numbers (get_or positions i d) n so_far at below)

pub numbers_all : (points positions : List V3) (i : ℕ) (numbers : List ℕ) → length positions ≤ i → Numbers points (take i positions) numbers → Numbers points positions numbers
numbers_all points positions i numbers le so_far = subst (λ ps. Numbers points ps numbers) (take_all i positions le) so_far
