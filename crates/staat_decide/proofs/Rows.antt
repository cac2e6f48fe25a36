-- From labels that ascend against all arcs to sets that leave one after the other.
use Rattle.std.proofs.Common.{◌≡◌, ℕ, ◌<◌, ◌≤◌, ◌≢◌, ◌↔◌, ◌∙◌, ⊎_elim, Bool, false, List, [], ◌∷◌, All, Contains, IsTrue, arith, get_or, length, map, refl, subst, sym}
use Rattle.std.specs.List.Sorted.{IsStrictlySortedBy}
use Rattle.std.specs.Ordering.{nat_cmp}
use Rattle.std.proofs.lemmas.Bool.{cases_order}
use Rattle.std.proofs.lemmas.Grind.{get_or_default_zero}
use Rattle.std.proofs.lemmas.List.Elements.{Contains-get_or}
use Rattle.std.proofs.lemmas.Map.Keys.{Less-from_sorted}
use Rattle.staat_vec.specs.declared.vector.V3.{V3}
use Rattle.staat_vec.specs.Vectors.{origin}
use Rattle.staat_model.specs.declared.assembly.Part.{Part}
use Rattle.staat_model.specs.declared.set.PartSet.{PartSet}
use Rattle.staat_model.specs.Leaving.{BlockNoLater}
use Rattle.staat_model.specs.Removal.{Blocks}
use Rattle.staat_model.specs.SetLists.{AreAllApart, set_of, union_of}
use Rattle.staat_model.specs.Sets.{Has}
use Rattle.staat_model.proofs.SetListings.{has-set_of}
use Rattle.staat_model.proofs.SetWords.{same_members}
use Rattle.staat_motion.proofs.Zips.{zip_length, zip_read}
use Rattle.staat_decide.specs.Arcs.{AreBlockingRows, IsRow}
use Rattle.staat_decide.specs.Labels.{AllPrecede, AreClasses, HoldsOfLater, KeepsOrder, Precedes}
use Rattle.staat_decide.specs.Peelings.{IsPeeling}
use Rattle.staat_vec.proofs.ListLaws.{any_default}
use Rattle.staat_vec.proofs.Comparisons.{less_number}

-- ---- rows

pub row_count : (parts : List Part) (d : V3) (w : List ℕ) (rows : List (List Bool)) → AreBlockingRows parts d w rows
    → length rows ≡ length w
row_count parts d w rows is = sym (zip_length (IsRow parts d w) w rows is)

pub row_at : (parts : List Part) (d : V3) (w : List ℕ) (rows : List (List Bool)) (i : ℕ) → AreBlockingRows parts d w rows
    → i < length w → IsRow parts d w (get_or w i 0) (get_or rows i [])
row_at parts d w rows i is lt =
    zip_read (IsRow parts d w) w rows i (get_or w i 0) [] is lt (sym (get_or_default_zero w i (get_or w i 0) lt))

pub row_lengths : (parts : List Part) (d : V3) (w : List ℕ) (rows : List (List Bool)) → AreBlockingRows parts d w rows
    → All (λ row. length row ≡ length w) rows
row_lengths parts d w rows is k e lt =
    let at : k < length w = omega (arith, row_count parts d w rows is, lt) in
    let row = sym (zip_length (λ b answer. IsTrue answer ↔ Blocks parts d (get_or w k 0) b) w (get_or rows k []) (row_at parts d w rows k is at)) in
    subst (λ (r : List Bool). length r ≡ length w) (any_default rows k [] e lt) row

-- a part that blocks another has no lesser label
no_arc : (parts : List Part) (d : V3) (w labels : List ℕ) (rows : List (List Bool)) (i j : ℕ) → AreBlockingRows parts d w rows
    → length labels ≡ length w → KeepsOrder rows labels → i < length w → j < length w
    → Blocks parts d (get_or w i 0) (get_or w j 0) → get_or labels j 0 ≤ get_or labels i 0
no_arc parts d w labels rows i j is same keeps i_in j_in b =
    let entry = zip_read (λ q answer. IsTrue answer ↔ Blocks parts d (get_or w i 0) q) w (get_or rows i []) j (get_or w j 0) false
    (row_at parts d w rows i is i_in) j_in (sym (get_or_default_zero w j (get_or w j 0) j_in)) in
    keeps i (omega (arith, same, i_in)) j (omega (arith, same, j_in)) (entry.1 b)

clash : (parts : List Part) (d : V3) (w labels : List ℕ) (rows : List (List Bool)) (p q : ℕ) → AreBlockingRows parts d w rows
    → length labels ≡ length w → KeepsOrder rows labels → Precedes w labels p q → Blocks parts d p q → ⊥
clash parts d w labels rows p q is same keeps h b =
    let f = h.first in
    let s = h.second in
    let at : Blocks parts d (get_or w f.i 0) (get_or w s.i 0) =
    subst (λ x. Blocks parts d x (get_or w s.i 0)) (sym f.part) (subst (λ y. Blocks parts d p y) (sym s.part) b) in
    let le = no_arc parts d w labels rows f.i s.i is same keeps f.before s.before at in
    absurd (omega (arith, le, h.less, f.label, s.label))

-- ---- no part is in two of the sets

pub distinct : (w : List ℕ) (i j : ℕ) → IsStrictlySortedBy nat_cmp w → i < length w → j < length w
    → get_or w i 0 ≡ get_or w j 0 → i ≡ j
distinct w i j sorted i_in j_in e = ⊎_elim {C = i ≡ j}
    (λ same. same)
    (λ other. ⊎_elim {C = i ≡ j}
    (λ lt. let less = less_number (get_or w i 0) (get_or w j 0) (Less-from_sorted nat_cmp w i j 0 sorted lt j_in) in absurd (omega (arith, less, e)))
    (λ gt. let less = less_number (get_or w j 0) (get_or w i 0) (Less-from_sorted nat_cmp w j i 0 sorted gt i_in) in absurd (omega (arith, less, e)))
    other)
    (cases_order i j)

not_before_itself : (w labels : List ℕ) (p : ℕ) → IsStrictlySortedBy nat_cmp w → Precedes w labels p p → ⊥
not_before_itself w labels p sorted h =
    let f = h.first in
    let s = h.second in
    let same : f.i ≡ s.i = distinct w f.i s.i sorted f.before s.before (f.part ∙ sym s.part) in
    let label : get_or labels s.i 0 ≡ h.k = subst (λ i. get_or labels i 0 ≡ h.k) same f.label in
    absurd (omega (arith, h.less, label, s.label))

apart_from : (w labels : List ℕ) (sets : List PartSet) → IsStrictlySortedBy nat_cmp w
    → HoldsOfLater (AllPrecede w labels) sets → AreAllApart sets
apart_from w labels [] sorted h = tt
apart_from w labels (s ∷ rest) sorted h = (
  (λ t t_in p in_s in_t. not_before_itself w labels p sorted (h.0 t t_in p p in_s in_t)),
  apart_from w labels rest sorted h.1,
)

block_no_later : (parts : List Part) (d : V3) (w labels : List ℕ) (rows : List (List Bool)) (sets : List PartSet)
    → AreBlockingRows parts d w rows → length labels ≡ length w → KeepsOrder rows labels
    → HoldsOfLater (AllPrecede w labels) sets → BlockNoLater parts d sets
block_no_later parts d w labels rows [] is same keeps h = tt
block_no_later parts d w labels rows (s ∷ rest) is same keeps h = (
  (λ t t_in a b a_in b_in blocks. clash parts d w labels rows a b is same keeps (h.0 t t_in a b a_in b_in) blocks),
  block_no_later parts d w labels rows rest is same keeps h.1,
)

-- ---- all together

all_of : (w labels : List ℕ) (n : ℕ) (sets : List (List ℕ)) → length labels ≡ length w → All (λ l. l < n) labels
    → AreClasses w labels n sets → union_of (map set_of sets) ≡ set_of w
all_of w labels n sets same small is = same_members (union_of (map set_of sets)) (set_of w) within covers
  where
    within : (p : ℕ) → Has (union_of (map set_of sets)) p → Has (set_of w) p
    within p h =
        let below = (is.members p).0 h in
        let has = below.has in
        (has-set_of w p).1 (subst (Contains w) has.part (Contains-get_or w has.i 0 has.before))

    covers : (p : ℕ) → Has (set_of w) p → Has (union_of (map set_of sets)) p
    covers p h =
        let (i, lt, e) = (has-set_of w p).0 h in
        (is.members p).1 (record {
          k = get_or labels i 0;
          below = small i 0 (omega (arith, same, lt));
          has = record { i = i; before = lt; part = sym (get_or_default_zero w i p lt) ∙ e; label = refl };
        })

pub peeling_from : (parts : List Part) (d : V3) (w labels : List ℕ) (rows : List (List Bool)) (n : ℕ)
    (sets : List (List ℕ)) → d ≢ origin → AreBlockingRows parts d w rows → IsStrictlySortedBy nat_cmp w
    → length labels ≡ length w → All (λ l. l < n) labels → KeepsOrder rows labels → AreClasses w labels n sets
    → 2 ≤ length sets → IsPeeling parts d w sets
peeling_from parts d w labels rows n sets moves is sorted same small keeps classes two = record {
  two = two;
  each = λ i e lt. let h = classes.each i e lt in let lists = h.lists in record { nonempty = h.nonempty; ascending = lists.ascending };
  whole = all_of w labels n sets same small classes;
  order = record {
    moves = moves;
    apart = apart_from w labels (map set_of sets) sorted classes.order;
    order = block_no_later parts d w labels rows (map set_of sets) is same keeps classes.order;
  };
}
