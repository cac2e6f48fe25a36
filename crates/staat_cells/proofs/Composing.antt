-- Steps of the loops that join lists of signs and cells.
use Rattle.std.proofs.Common.{◌≡◌, ℕ, zero, suc, ◌+◌, ◌<◌, ◌≤◌, ap, arith, sym, ◌∙◌, refl, add-one, append_assoc, List, [], ◌∷◌, ◌++◌}
use Rattle.std.proofs.Common.{◌&&◌, eq-eqb, eqb-true, drop, length, get_or, map, take, Bool, false, true, if◌then◌else◌}
use Rattle.std.proofs.lemmas.Nat.{le_or_l, le_or_r}
use Rattle.std.proofs.lemmas.Nat.Bits.{bit_at-lt, bit_at-zero, bit_at_xor, same_from_bits}
use Rattle.std.specs.Int.{bit_at}
use Rattle.std.specs.Int.Bits.{bit_or, bit_xor, xor_self}
use Rattle.std.specs.Prelude.{nat_eq, slice_set}
use Rattle.staat_vec.proofs.Truth.{and_split, same_truth}
use Rattle.std.proofs.lemmas.List.{at_drop_more, drop_all, drop_more, get_or_at, get_or-map, length-take-le, map-append}
use Rattle.std.proofs.lemmas.List.{set_at, take_all, take_more}
use Rattle.staat_vec.specs.declared.vector.Sign.{Sign}
use Rattle.staat_model.specs.Cells.{CellEntry}
use Rattle.staat_cells.specs.declared.cell.Cell.{Cell}
use Rattle.staat_cells.specs.declared.incidence.Incidence.{Incidence}
use Rattle.staat_cells.specs.Compositions.{begins_cell, composed, entry_of, no_cell, no_incidence, same_words, told_up_to}
use Rattle.staat_cells.specs.Beside.{then_sign}
use Rattle.staat_cells.specs.Stages.{cell_at}
use Rattle.staat_vec.proofs.ListLaws.{any_default, append_nothing}

-- ---- signs that give way to composed ones, from the first on

composed_sign : (a b : List Sign) (j : ℕ) (d : Sign) → j < length a → length a ≡ length b
    → get_or (composed a b) j d ≡ then_sign (get_or a j d) (get_or b j d)
composed_sign [] b j d lt e = absurd (omega arith)
composed_sign (x ∷ a) [] j d lt e = absurd (omega arith)
composed_sign (x ∷ a) (y ∷ b) zero d lt e = refl
composed_sign (x ∷ a) (y ∷ b) (suc j) d lt e = composed_sign a b j d (omega arith) (omega arith)

composed_long : (a b : List Sign) → length a ≡ length b → length (composed a b) ≡ length a
composed_long [] b e = refl
composed_long (x ∷ a) [] e = absurd (omega arith)
composed_long (x ∷ a) (y ∷ b) e = let h = composed_long a b (omega arith) in omega (arith, h)

pub compose_next : (a b items : List Sign) (j : ℕ) (d e : Sign) → length a ≡ length b → j < length a
    → items ≡ take j (composed a b) ++ drop j a
    → slice_set items j (then_sign (get_or items j d) (get_or b j e)) ≡ take (j + 1) (composed a b) ++ drop (j + 1) a
compose_next a b items j d e same lt is =
    let p = take j (composed a b) in
    let rest = drop (j + 1) a in
    let long = composed_long a b same in
    let p_long : length p ≡ j = length-take-le j (composed a b) (omega (arith, long, lt)) in
    let split : items ≡ p ++ get_or a j d ∷ rest = is ∙ ap (λ l. p ++ l) (drop_more a j d lt) in
    let value : then_sign (get_or items j d) (get_or b j e) ≡ get_or (composed a b) j d =
    (λ i. then_sign ((ap (λ l. get_or l j d) split ∙ get_or_at p (get_or a j d) rest d j p_long) i)
    (any_default b j e d (omega (arith, same, lt)) i)) ∙ sym (composed_sign a b j d lt same) in
    (λ i. slice_set (split i) j (value i)) ∙ set_at p (get_or a j d) rest (get_or (composed a b) j d) j p_long
    ∙ sym (append_assoc p (get_or (composed a b) j d ∷ []) rest)
    ∙ ap (λ l. l ++ rest) (sym (take_more (composed a b) j d (omega (arith, long, lt))))

pub compose_end : (a b items : List Sign) (j : ℕ) → length a ≡ length b → length a ≤ j
    → items ≡ take j (composed a b) ++ drop j a → items ≡ composed a b
compose_end a b items j same le is =
    is ∙ (λ i. take_all j (composed a b) (let long = composed_long a b same in omega (arith, long, le)) i ++ drop_all j a le i)
    ∙ append_nothing (composed a b)

-- ---- words that are compared bit by bit

apart_bits : (x y : ℕ) → nat_eq (bit_xor x y) 0 ≡ nat_eq x y
apart_bits x y = same_truth (nat_eq (bit_xor x y) 0) (nat_eq x y)
    (λ e. eq-eqb x y (same_from_bits x y (λ i. let z = ap (λ n. bit_at n i) (eqb-true (bit_xor x y) 0 e) in
    omega (arith, z, bit_at_xor x y i, bit_at-zero i, bit_at-lt x i, bit_at-lt y i))))
    (λ e. eq-eqb (bit_xor x y) 0 (ap (λ z. bit_xor z y) (eqb-true x y e) ∙ xor_self y))

both_zero : (x y : ℕ) → nat_eq (bit_or x y) 0 ≡ (nat_eq x 0 && nat_eq y 0)
both_zero x y = same_truth (nat_eq (bit_or x y) 0) (nat_eq x 0 && nat_eq y 0)
    (λ e. let z = eqb-true (bit_or x y) 0 e in
    λ i. eq-eqb x 0 (omega (arith, z, le_or_l x y)) i && eq-eqb y 0 (omega (arith, z, le_or_r x y)) i)
    (λ e. let (p, q) = and_split (nat_eq x 0) (nat_eq y 0) e in
    eq-eqb (bit_or x y) 0 (λ i. bit_or (eqb-true x 0 p i) (eqb-true y 0 q i)))

pub words_same : (x y : Incidence)
    → nat_eq (bit_or (bit_xor x.a y.a) (bit_or (bit_xor x.b y.b) (bit_or (bit_xor x.c y.c) (bit_xor x.d y.d)))) 0 ≡ same_words x y
words_same x y =
    let last = both_zero (bit_xor x.c y.c) (bit_xor x.d y.d) ∙ (λ i. apart_bits x.c y.c i && apart_bits x.d y.d i) in
    let later = both_zero (bit_xor x.b y.b) (bit_or (bit_xor x.c y.c) (bit_xor x.d y.d)) ∙ (λ i. apart_bits x.b y.b i && last i) in
    both_zero (bit_xor x.a y.a) (bit_or (bit_xor x.b y.b) (bit_or (bit_xor x.c y.c) (bit_xor x.d y.d))) ∙ (λ i. apart_bits x.a y.a i && later i)

-- ---- what is told of the first places at which a cell begins

pub told_none : {X : Type 0} (of : ℕ → X) (incidences : List Incidence) → [] ≡ told_up_to of incidences 0
unfolding told_up_to
told_none of incidences = refl

module _ {X : Type 0} (of : ℕ → X) (incidences : List Incidence) (i : ℕ) where
  told_by : (b : Bool) → begins_cell incidences i ≡ b
      → told_up_to of incidences (i + 1) ≡ told_up_to of incidences i ++ (if b then of i ∷ [] else [])
  unfolding told_up_to
  told_by b is = ap (told_up_to of incidences) (add-one i)
      ∙ ap (λ b. told_up_to of incidences i ++ (if b then of i ∷ [] else [])) is

  pub told_more : begins_cell incidences i ≡ true
      → told_up_to of incidences (i + 1) ≡ told_up_to of incidences i ++ of i ∷ []
  told_more = told_by true

  pub told_same : begins_cell incidences i ≡ false → told_up_to of incidences (i + 1) ≡ told_up_to of incidences i
  told_same none = told_by false none ∙ append_nothing (told_up_to of incidences i)

-- ---- the cells of incidences, copied

pub entry_at : (lower : List Cell) (k : ℕ) (a : Cell) → k < length lower → a ≡ get_or lower k a
    → entry_of a ≡ get_or (map entry_of lower) k no_cell
entry_at lower k a lt e = ap entry_of e ∙ sym (get_or-map entry_of lower k a no_cell lt)

-- the cells of the first incidences were copied
abbrev pub AreCopiedTo : List Cell → List Incidence → ℕ → List Cell → Type 0
AreCopiedTo cells incidences i found =
    map entry_of found ++ map (λ x. cell_at (map entry_of cells) x.of) (drop i incidences)
    ≡ map (λ x. cell_at (map entry_of cells) x.of) incidences

pub copied_more : (cells : List Cell) (incidences : List Incidence) (i : ℕ) (old new : List Cell) (copy a : Cell)
    → i < length incidences → (get_or incidences i no_incidence).of < length cells
    → a ≡ get_or cells (get_or incidences i no_incidence).of a → entry_of copy ≡ entry_of a → new ≡ old ++ copy ∷ []
    → AreCopiedTo cells incidences i old → AreCopiedTo cells incidences (i + 1) new
copied_more cells incidences i old new copy a lt listed a_is same is so_far =
    let f : Incidence → CellEntry = λ x. cell_at (map entry_of cells) x.of in
    let rest = map f (drop (i + 1) incidences) in
    let at = same ∙ entry_at cells (get_or incidences i no_incidence).of a listed a_is in
    ap (λ l. map entry_of l ++ rest) is
    ∙ ap (λ l. l ++ rest) (map-append entry_of old (copy ∷ []))
    ∙ append_assoc (map entry_of old) (entry_of copy ∷ []) rest
    ∙ ap (λ e. map entry_of old ++ e ∷ rest) at
    ∙ ap (λ l. map entry_of old ++ l) (sym (at_drop_more (map f) incidences i no_incidence lt))
    ∙ so_far

pub copied_all : (cells : List Cell) (incidences : List Incidence) (i : ℕ) (found : List Cell)
    → length incidences ≤ i → AreCopiedTo cells incidences i found
    → map entry_of found ≡ map (λ x. cell_at (map entry_of cells) x.of) incidences
copied_all cells incidences i found le so_far =
    sym (append_nothing (map entry_of found))
    ∙ ap (λ l. map entry_of found ++ map (λ x. cell_at (map entry_of cells) x.of) l) (sym (drop_all i incidences le))
    ∙ so_far
