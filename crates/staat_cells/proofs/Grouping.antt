-- The incidences of a cell stand together in the list, and its cells are composed from the first two.
use Rattle.std.proofs.Common.{◌≡◌, ◌≢◌, ◌⊎◌, inl, inr, ⊎_elim, ℕ, zero, suc, ◌<◌, ◌≤◌, Bool, true, false, ◌&&◌, if◌then◌else◌, refl, sym, ap, subst, ◌∙◌, arith, add-one, List, [], ◌∷◌, ◌++◌, length, get_or, map, All, Contains}
use Rattle.std.specs.Prelude.{nat_eq}
use Rattle.std.specs.Ordering.{nat_cmp, ordering_then}
use Rattle.std.specs.declared.cmp.Ordering.TheVariants.{Less}
use Rattle.std.specs.List.Sorted.{IsStrictlySortedBy}
use Rattle.std.proofs.lemmas.Bool.{eq-eqb, eqb-true}
use Rattle.std.proofs.lemmas.Cmp.{tied_itself}
use Rattle.std.proofs.lemmas.List.{length-map, map-append}
use Rattle.std.proofs.lemmas.List.Elements.{All-nil, All-push, Contains-get_or, Contains-push, Contains-push_cases, Contains-append_left}
use Rattle.std.proofs.lemmas.Map.Keys.{Less-from_sorted}
use Rattle.staat_vec.specs.declared.vector.V3.{V3}
use Rattle.staat_vec.specs.declared.vector.Sign.{Sign}
use Rattle.staat_vec.specs.Lists.{Lists}
use Rattle.staat_vec.specs.Vectors.{dot, sign}
use Rattle.staat_vec.proofs.Unique.{Contains-nothing}
use Rattle.staat_model.specs.declared.tree.Kind.{Kind}
use Rattle.staat_model.specs.Cells.{kind_of, signs_cmp, CellEntry, IsCell, IsEntry, AreCellsOf}
use Rattle.staat_cells.specs.declared.incidence.Incidence.{Incidence}
use Rattle.staat_cells.specs.Compositions.{begins_cell, begun_up_to, composed, composed_at, composed_cell}
use Rattle.staat_cells.specs.Compositions.{composed_up_to, no_incidence, same_words, told_up_to, HavePairs}
use Rattle.staat_cells.specs.Packing.{incidence_cmp, incidence_of}
use Rattle.staat_cells.specs.Stages.{cell_at, words_of, HaveSigns, IsIncidence, IsUnder}
use Rattle.staat_cells.proofs.IncidenceOrder.{incidence_total}
use Rattle.staat_cells.proofs.SignOrder.{not_below_itself, signs_exact, signs_total, sorted_push, then_equal, then_less}
use Rattle.staat_cells.proofs.Words.{incidence_order}
use Rattle.staat_vec.proofs.Naturals.{lt_suc_cases, trichotomy}
use Rattle.staat_vec.proofs.Comparisons.{less_number}
use Rattle.staat_vec.proofs.Truth.{and_split, from_not_false, not_true_clash}
use Rattle.staat_vec.proofs.ListLaws.{append_nothing, any_default}

pub cell_length : (planes : List V3) (s : List Sign) → IsCell planes s → length s ≡ length planes
cell_length planes s cell = ap length (sym cell.is) ∙ length-map planes (λ n. sign (dot n cell.d))

words_themselves : (s : List Sign) (j k : ℕ) → same_words (incidence_of s j) (incidence_of s k) ≡ true
words_themselves s j k =
    let x = incidence_of s j in
    λ i. eq-eqb x.a x.a refl i && (eq-eqb x.b x.b refl i && (eq-eqb x.c x.c refl i && eq-eqb x.d x.d refl i))

-- the cells of the kind are made up of lower cells: each has two of them at least on its border, and the first two make it
pub record AreMadeUp (planes : List V3) (kind : Kind) (lower : List CellEntry) : Type 0 where
  pub some : (s : List Sign) → IsCell planes s → kind_of s ≡ kind → (k : ℕ) × IsUnder planes kind lower s k
  pub two : (s : List Sign) (k : ℕ) → IsUnder planes kind lower s k → (j : ℕ) × IsUnder planes kind lower s j × (j ≢ k)
  pub entry : (s : List Sign) (j k : ℕ) → IsUnder planes kind lower s j → IsUnder planes kind lower s k → j < k
      → ((m : ℕ) → IsUnder planes kind lower s m → (m ≡ j) ⊎ ((m ≡ k) ⊎ (k < m)))
      → IsEntry planes kind (composed_cell kind (cell_at lower j) (cell_at lower k)) × (composed (cell_at lower j).signs (cell_at lower k).signs ≡ s)

module _ (planes : List V3) (kind : Kind) (lower : List CellEntry) (incidences : List Incidence) (few : length planes ≤ 256) (lists : Lists incidence_cmp (IsIncidence planes kind lower) incidences) where
  -- the signs of the incidence at a place
  record HasSigns (i : ℕ) (s : List Sign) : Type 0 where
    lt : i < length incidences
    under : IsUnder planes kind lower s (get_or incidences i no_incidence).of
    is : get_or incidences i no_incidence ≡ incidence_of s (get_or incidences i no_incidence).of

  signs_at : (i : ℕ) → i < length incidences → (s : List Sign) × HasSigns i s
  signs_at i lt = let x = lists.each (get_or incidences i no_incidence) (Contains-get_or incidences i no_incidence lt) in (x.signs, record { lt = lt; under = x.under; is = x.is })

  same_lengths : (s t : List Sign) → IsCell planes s → IsCell planes t → length s ≡ length t
  same_lengths s t c d = cell_length planes s c ∙ sym (cell_length planes t d)

  short : (s : List Sign) → IsCell planes s → length s ≤ 256
  short s c = let e = cell_length planes s c in omega (arith, e, few)

  -- incidences of one packing have one list of signs
  same_signs : (s t : List Sign) (j k : ℕ) → IsCell planes s → IsCell planes t → incidence_of s j ≡ incidence_of t k → s ≡ t
  same_signs s t j k c d e =
      signs_exact s t (then_equal (signs_cmp s t) (nat_cmp j k) (sym (incidence_order s t j k (same_lengths s t c d) (short s c)) ∙ ap (incidence_cmp (incidence_of s j)) (sym e) ∙ tied_itself incidence_total (incidence_of s j)))

  one_list : (i : ℕ) (s t : List Sign) → HasSigns i s → HasSigns i t → s ≡ t
  one_list i s t a b = same_signs s t (get_or incidences i no_incidence).of (get_or incidences i no_incidence).of (let u = a.under in u.cell) (let u = b.under in u.cell) (sym a.is ∙ b.is)

  rising : (i j : ℕ) (s t : List Sign) → HasSigns i s → HasSigns j t → i < j → (signs_cmp s t ≡ Less) ⊎ ((s ≡ t) × ((get_or incidences i no_incidence).of < (get_or incidences j no_incidence).of))
  rising i j s t a b lt =
      let u = a.under in
      let v = b.under in
      let m = (get_or incidences i no_incidence).of in
      let n = (get_or incidences j no_incidence).of in
      let order : ordering_then (signs_cmp s t) (nat_cmp m n) ≡ Less = sym (incidence_order s t m n (same_lengths s t u.cell v.cell) (short s u.cell)) ∙ (λ k. incidence_cmp (sym a.is k) (sym b.is k)) ∙ Less-from_sorted incidence_cmp incidences i j no_incidence lists.ascending lt b.lt in
      ⊎_elim {C = (signs_cmp s t ≡ Less) ⊎ ((s ≡ t) × (m < n))} (λ less. inl less) (λ tied. inr (signs_exact s t tied.0, less_number m n tied.1)) (then_less (signs_cmp s t) (nat_cmp m n) order)

  -- what stands between two incidences of a cell is of that cell
  between : (i q j : ℕ) (s t : List Sign) → HasSigns i s → HasSigns q t → HasSigns j s → i < q → q < j → t ≡ s
  between i q j s t a b c lt gt = go (rising i q s t a b lt) (rising q j t s b c gt)
    where
      go : (signs_cmp s t ≡ Less) ⊎ ((s ≡ t) × ((get_or incidences i no_incidence).of < (get_or incidences q no_incidence).of)) → (signs_cmp t s ≡ Less) ⊎ ((t ≡ s) × ((get_or incidences q no_incidence).of < (get_or incidences j no_incidence).of)) → t ≡ s
      go (inr (e, o)) f = sym e
      go (inl less) (inr (e, o)) = e
      go (inl less) (inl more) = absurd (not_below_itself s (signs_total.trans s t s less more))

  words_at : (i j : ℕ) (s : List Sign) → HasSigns i s → HasSigns j s → same_words (get_or incidences i no_incidence) (get_or incidences j no_incidence) ≡ true
  words_at i j s a b = (λ k. same_words (a.is k) (b.is k)) ∙ words_themselves s (get_or incidences i no_incidence).of (get_or incidences j no_incidence).of

  -- no incidence of a cell stands before the one where it begins_cell
  none_before : (i j : ℕ) (s : List Sign) → HasSigns i s → HasSigns j s → begins_cell incidences i ≡ true → j < i → ⊥
  none_before zero j s a b first lt = absurd (omega arith)
  none_before (suc m) j s a b first lt =
      let (t, c) = signs_at m (let l = a.lt in omega (arith, l)) in
      not_true_clash (same_words (get_or incidences m no_incidence) (get_or incidences (suc m) no_incidence)) first (words_at m (suc m) s (subst (HasSigns m) (just_before t c) c) a)
    where
      just_before : (t : List Sign) → HasSigns m t → t ≡ s
      just_before t c = by_place (lt_suc_cases j m (omega arith))
        where
          by_place : (j < m) ⊎ (j ≡ m) → t ≡ s
          by_place (inl less) = between j m (suc m) s t b c a less (omega arith)
          by_place (inr same) = one_list m t s c (subst (λ k. HasSigns k s) same b)

  -- where no cell begins_cell, the cell of the incidence before goes on
  goes_on : (m : ℕ) (s t : List Sign) → HasSigns m s → HasSigns (suc m) t → begins_cell incidences (suc m) ≡ false → s ≡ t
  goes_on m s t a b e =
      let x = get_or incidences m no_incidence in
      let y = get_or incidences (suc m) no_incidence in
      let (ea, r1) = and_split (nat_eq x.a y.a) _ (from_not_false (same_words x y) e) in
      let (eb, r2) = and_split (nat_eq x.b y.b) _ r1 in
      let (ec, ed) = and_split (nat_eq x.c y.c) _ r2 in
      let u = a.under in
      let v = b.under in
      same_signs s t 0 0 u.cell v.cell
      (ap words_of (sym a.is)
      ∙ (λ i. record { a = eqb-true x.a y.a ea i; b = eqb-true x.b y.b eb i; c = eqb-true x.c y.c ec i; d = eqb-true x.d y.d ed i; of = 0 })
      ∙ ap words_of b.is)

  -- each incidence stands somewhere
  record StandsAt (s : List Sign) (k i : ℕ) : Type 0 where
    signs : HasSigns i s
    of : (get_or incidences i no_incidence).of ≡ k

  find : (s : List Sign) (k : ℕ) → IsUnder planes kind lower s k → (i : ℕ) × StandsAt s k i
  find s k under =
      let (i, lt, e) = lists.all (incidence_of s k) (record { signs = s; under = under; is = refl }) in
      let at : get_or incidences i no_incidence ≡ incidence_of s k = any_default incidences i no_incidence (incidence_of s k) lt ∙ e in
      let of : (get_or incidences i no_incidence).of ≡ k = ap (λ x. x.of) at in
      (i, record { signs = record { lt = lt; under = subst (IsUnder planes kind lower s) (sym of) under; is = at ∙ ap (incidence_of s) (sym of) }; of = of })

  module _ (made_up : AreMadeUp planes kind lower) where
    -- behind the incidence where a cell begins_cell there is another one of it
    second : (i : ℕ) (s : List Sign) → HasSigns i s → begins_cell incidences i ≡ true → HasSigns (suc i) s
    second i s a first =
        let (j, under, other) = made_up.two s (get_or incidences i no_incidence).of a.under in
        let (p, stands) = find s j under in
        by_place p stands.signs (λ e. other (sym stands.of ∙ ap (λ k. (get_or incidences k no_incidence).of) (sym e))) (trichotomy i p)
      where
        by_place : (p : ℕ) → HasSigns p s → i ≢ p → (i < p) ⊎ ((i ≡ p) ⊎ (p < i)) → HasSigns (suc i) s
        by_place p b other (inr (inl e)) = absurd (other e)
        by_place p b other (inr (inr g)) = absurd (none_before i p s a b first g)
        by_place p b other (inl l) = next (trichotomy (suc i) p)
          where
            next : (suc i < p) ⊎ ((suc i ≡ p) ⊎ (p < suc i)) → HasSigns (suc i) s
            next (inr (inl e)) = subst (λ k. HasSigns k s) (sym e) b
            next (inr (inr g)) = absurd (omega arith)
            next (inl more) =
                let (t, c) = signs_at (suc i) (let m = b.lt in omega (arith, m)) in
                subst (HasSigns (suc i)) (between i (suc i) p s t a c b (omega arith) more) c

    -- the first two incidences of a cell have the least numbers
    first_two : (i : ℕ) (s : List Sign) → HasSigns i s → begins_cell incidences i ≡ true → (m : ℕ) → IsUnder planes kind lower s m → (m ≡ (get_or incidences i no_incidence).of) ⊎ ((m ≡ (get_or incidences (suc i) no_incidence).of) ⊎ ((get_or incidences (suc i) no_incidence).of < m))
    first_two i s a first m under = let (p, stands) = find s m under in by_place p stands.signs (sym stands.of) (trichotomy i p)
      where
        Goal : Type 0
        Goal = (m ≡ (get_or incidences i no_incidence).of) ⊎ ((m ≡ (get_or incidences (suc i) no_incidence).of) ⊎ ((get_or incidences (suc i) no_incidence).of < m))

        by_place : (p : ℕ) → HasSigns p s → m ≡ (get_or incidences p no_incidence).of → (i < p) ⊎ ((i ≡ p) ⊎ (p < i)) → Goal
        by_place p b of (inr (inl e)) = inl (of ∙ ap (λ k. (get_or incidences k no_incidence).of) (sym e))
        by_place p b of (inr (inr g)) = absurd (none_before i p s a b first g)
        by_place p b of (inl l) = next (trichotomy (suc i) p)
          where
            next : (suc i < p) ⊎ ((suc i ≡ p) ⊎ (p < suc i)) → Goal
            next (inr (inl e)) = inr (inl (of ∙ ap (λ k. (get_or incidences k no_incidence).of) (sym e)))
            next (inr (inr g)) = absurd (omega arith)
            next (inl more) = ⊎_elim {C = Goal} (λ less. absurd (not_below_itself s less)) (λ r. inr (inr (subst (λ k. (get_or incidences (suc i) no_incidence).of < k) (sym of) r.1))) (rising (suc i) p s s (second i s a first) b more)

    first_less : (i : ℕ) (s : List Sign) → HasSigns i s → begins_cell incidences i ≡ true → (get_or incidences i no_incidence).of < (get_or incidences (suc i) no_incidence).of
    first_less i s a first = ⊎_elim (λ less. absurd (not_below_itself s less)) (λ r. r.1) (rising i (suc i) s s a (second i s a first) (omega arith))

    pub pairs : HavePairs incidences (length lower)
    pairs = record {
      listed = λ i d lt. subst (λ x. x.of < length lower) (any_default incidences i no_incidence d lt) (let (s, a) = signs_at i lt in let u = a.under in u.listed);
      follow = λ i lt first. let (s, a) = signs_at i lt in let b = second i s a first in let l = b.lt in rw add-one l;
    }

    -- ---- what is composed

    -- where a cell begins, its entry is composed
    made_at : (i : ℕ) (s : List Sign) → HasSigns i s → begins_cell incidences i ≡ true
        → IsEntry planes kind (composed_at kind lower incidences i) × ((composed_at kind lower incidences i).signs ≡ s)
    made_at i s a first =
        let b = second i s a first in
        let j = (get_or incidences i no_incidence).of in
        let k = (get_or incidences (suc i) no_incidence).of in
        let made = made_up.entry s j k a.under b.under (first_less i s a first) (first_two i s a first) in
        let at_new : composed_at kind lower incidences i ≡ composed_cell kind (cell_at lower j) (cell_at lower k) =
        ap (λ n. composed_cell kind (cell_at lower j) (cell_at lower (get_or incidences n no_incidence).of)) (add-one i) in
        (subst (IsEntry planes kind) (sym at_new) made.0, ap (λ c. c.signs) at_new ∙ made.1)

    abbrev signs_in : List CellEntry → List (List Sign)
    signs_in cells = map (λ c. c.signs) cells

    -- the cells of the first incidences
    record AreUpTo (i : ℕ) (cells : List CellEntry) (found : List Incidence) : Type 0 where
      ascending : IsStrictlySortedBy signs_cmp (signs_in cells)
      from : (s : List Sign) → Contains (signs_in cells) s → (j : ℕ) × (j < i) × HasSigns j s
      has : (j : ℕ) (s : List Sign) → HasSigns j s → j < i → Contains (signs_in cells) s
      each : All (IsEntry planes kind) cells
      begun : HaveSigns cells found

    none : AreUpTo 0 [] []
    unfolding IsStrictlySortedBy
    none = record { ascending = tt; from = λ s c. absurd (Contains-nothing s c); has = λ j s a lt. absurd (omega arith); each = All-nil (IsEntry planes kind); begun = refl }

    same : (i : ℕ) (cells : List CellEntry) (found : List Incidence) → i < length incidences → begins_cell incidences i ≡ false → AreUpTo i cells found
        → AreUpTo (suc i) cells found
    same zero cells found lt none up = cc
    same (suc m) cells found lt none up = record {
      ascending = up.ascending;
      from = λ s c. let (j, less, a) = up.from s c in (j, omega arith, a);
      has = has;
      each = up.each;
      begun = up.begun;
    }
      where
        has : (j : ℕ) (s : List Sign) → HasSigns j s → j < suc (suc m) → Contains (signs_in cells) s
        has j s a less = ⊎_elim (λ early. up.has j s a early)
            (λ e. let (t, b) = signs_at m (omega arith) in subst (Contains (signs_in cells)) (goes_on m t s b (subst (λ k. HasSigns k s) e a) none) (up.has m t b (omega arith)))
            (lt_suc_cases j (suc m) less)

    more : (i : ℕ) (cells : List CellEntry) (found : List Incidence) → i < length incidences → begins_cell incidences i ≡ true → AreUpTo i cells found
        → AreUpTo (suc i) (cells ++ composed_at kind lower incidences i ∷ []) (found ++ get_or incidences i no_incidence ∷ [])
    more i cells found lt first up = go (signs_at i lt)
      where
        go : (s : List Sign) × HasSigns i s → AreUpTo (suc i) (cells ++ composed_at kind lower incidences i ∷ []) (found ++ get_or incidences i no_incidence ∷ [])
        go (s, a) =
            let made = made_at i s a first in
            let list : signs_in (cells ++ composed_at kind lower incidences i ∷ []) ≡ signs_in cells ++ s ∷ [] =
            map-append (λ c. c.signs) cells (composed_at kind lower incidences i ∷ []) ∙ ap (λ t. signs_in cells ++ t ∷ []) made.1 in record {
              ascending = subst (IsStrictlySortedBy signs_cmp) (sym list) (sorted_push signs_cmp (signs_in cells) s up.ascending (λ t c. below s a t (up.from t c)));
              from = λ t c. from s a t (Contains-push_cases (signs_in cells) s t (subst (λ l. Contains l t) list c));
              has = λ m t d less. subst (λ l. Contains l t) (sym list) (has s a m t d (lt_suc_cases m i less));
              each = All-push (IsEntry planes kind) cells (composed_at kind lower incidences i) up.each made.0;
              begun = map-append words_of found (get_or incidences i no_incidence ∷ [])
                  ∙ (λ k. up.begun k ++ (ap words_of a.is ∙ ap (λ t. incidence_of t 0) (sym made.1)) k ∷ [])
                  ∙ sym (map-append (λ (c : CellEntry). incidence_of c.signs 0) cells (composed_at kind lower incidences i ∷ []));
            }
          where
            below : (s : List Sign) → HasSigns i s → (t : List Sign) → (m : ℕ) × (m < i) × HasSigns m t → signs_cmp t s ≡ Less
            below s a t (m, less, d) = ⊎_elim (λ h. h) (λ r. absurd (none_before i m s a (subst (HasSigns m) r.0 d) first less)) (rising m i t s d a less)

            from : (s : List Sign) → HasSigns i s → (t : List Sign) → Contains (signs_in cells) t ⊎ (s ≡ t) → (m : ℕ) × (m < suc i) × HasSigns m t
            from s a t (inl c) = let (m, less, d) = up.from t c in (m, omega arith, d)
            from s a t (inr e) = (i, omega arith, subst (HasSigns i) e a)

            has : (s : List Sign) → HasSigns i s → (m : ℕ) (t : List Sign) → HasSigns m t → (m < i) ⊎ (m ≡ i) → Contains (signs_in cells ++ s ∷ []) t
            has s a m t d (inl less) = Contains-append_left (signs_in cells) (s ∷ []) t (up.has m t d less)
            has s a m t d (inr e) = subst (Contains (signs_in cells ++ s ∷ [])) (one_list i s t a (subst (λ k. HasSigns k t) e d)) (Contains-push (signs_in cells) s)

    up_to : (i : ℕ) → i ≤ length incidences → AreUpTo i (composed_up_to kind lower incidences i) (begun_up_to incidences i)
    unfolding told_up_to
    up_to zero le = none
    up_to (suc i) le = by_start (begins_cell incidences i) refl (up_to i (omega arith))
      where
        cells : List CellEntry
        cells = composed_up_to kind lower incidences i

        found : List Incidence
        found = begun_up_to incidences i

        With : Bool → Type 0
        With b = AreUpTo (suc i) (cells ++ (if b then composed_at kind lower incidences i ∷ [] else []))
            (found ++ (if b then get_or incidences i no_incidence ∷ [] else []))

        by_start : (b : Bool) → begins_cell incidences i ≡ b → AreUpTo i cells found → With (begins_cell incidences i)
        by_start true e up = subst With (sym e) (more i cells found (omega arith) e up)
        by_start false e up = subst With (sym e) (subst (λ l. AreUpTo (suc i) l (found ++ [])) (sym (append_nothing cells))
            (subst (AreUpTo (suc i) cells) (sym (append_nothing found)) (same i cells found (omega arith) e up)))

    -- the incidences at which they begin have their signs
    pub begun_signs : HaveSigns (composed_up_to kind lower incidences (length incidences))
        (begun_up_to incidences (length incidences))
    begun_signs = (up_to (length incidences) (omega arith)).begun

    -- the composed cells are all cells of the kind
    pub composed_are_cells : AreCellsOf planes kind (composed_up_to kind lower incidences (length incidences))
    composed_are_cells =
        let up = up_to (length incidences) (omega arith) in record {
          each = up.each;
          signs = record {
            ascending = up.ascending;
            each = λ s c. let (j, less, a) = up.from s c in let u = a.under in (u.cell, u.by_count);
            all = λ s h. let (k, under) = made_up.some s h.0 h.1 in let (i, stands) = find s k under in let a = stands.signs in up.has i s a a.lt;
          };
        }
