-- Marks for pairs of pieces that touch: a slot stands for one pair, and marks for some arcs and then for others are marks for both.
use Rattle.std.proofs.Common.{◌≡◌, ◌↔◌, ◌⊎◌, inl, inr, ⊎_elim, ℕ, zero, suc, replicate, ◌<◌, ◌≤◌, refl, sym, ap, subst, arith, Bool, false, List}
use Rattle.staat_model.specs.declared.assembly.Part.{Part}
use Rattle.staat_model.specs.declared.certificate.Arc.{Arc}
use Rattle.staat_model.specs.Assemblies.{HoldsAt}
use Rattle.staat_model.specs.Sets.{Has}
use Rattle.staat_pairs.specs.Tables.{IsTable, IsTableArc, Table, back, pieces_of, place, slot}
use Rattle.staat_pairs.specs.Tabulating.{IsPieceAt}
use Rattle.staat_pairs.proofs.NumberingLemmas.{below_64, one_number, one_part}
use Rattle.staat_planes.proofs.Gaining.{adds_both, adds_same}
use Rattle.staat_local.specs.Contacts.{Contact}
use Rattle.staat_local.specs.Touching.{AreMarks, IsPairMarked, IsUpward, MarksTouching}
use Rattle.staat_vec.proofs.Naturals.{apart_cases, same_parts_of_64}
use Rattle.staat_pairs.proofs.TableLemmas.{back_across}

-- ---- slots

module _ (t : Table) (is : IsTable t) where
  one_piece : (a i b j : ℕ) → Has t.of a → i < pieces_of t a → Has t.of b → j < pieces_of t b → place t.pieces a i ≡ place t.pieces b j → (a ≡ b) × (i ≡ j)
  one_piece a i b j a_in i_is b_in j_is e =
      let n = place t.pieces b j in
      let x : IsPieceAt t.pieces n a i = record { small = is.small a a_in; there = i_is; is = e } in
      let y : IsPieceAt t.pieces n b j = record { small = is.small b b_in; there = j_is; is = refl } in
      let part : a ≡ b = one_part t.pieces n a b i j x y in
      (part, one_number t.pieces n b i j (subst (λ c. IsPieceAt t.pieces n c i) part x) y)

  one_slot : (x y : Arc) → IsTableArc t x → IsTableArc t y → slot t.pieces x ≡ slot t.pieces y → x ≡ y
  one_slot x y at there e =
      let places = same_parts_of_64 (place t.pieces x.a x.i) (place t.pieces x.b x.j) (place t.pieces y.a y.i) (place t.pieces y.b y.j)
      (below_64 t.pieces x.b x.j is.most at.j_is) (below_64 t.pieces y.b y.j is.most there.j_is) e in
      let (a, i) = one_piece x.a x.i y.a y.i at.a_in at.i_is there.a_in there.i_is places.0 in
      let (b, j) = one_piece x.b x.j y.b y.j at.b_in at.j_is there.b_in there.j_is places.1 in
      λ k. record { a = a k; i = i k; b = b k; j = j k }

-- the pieces of an arc touch the other way round too
pub contact_back : (parts : List Part) (arc : Arc) → HoldsAt parts arc Contact → HoldsAt parts (back arc) Contact
contact_back parts arc h =
    let c = h.holds in
    let some = c.some in
    let same = c.same_sum in
    record {
      p = h.q;
      q = h.p;
      p_is = h.q_is;
      q_is = h.p_is;
      holds = record { a = c.b; b = c.a; a_each = c.b_each; b_each = c.a_each; some = omega (arith, some, same); same_sum = sym same; same_place = sym c.same_place };
    }

module _ (parts : List Part) (t : Table) (is : IsTable t) where
  -- two slots are marked
  pub marked_arc : (arc : Arc) (old mid new : List Bool) → IsTableArc t arc → HoldsAt parts arc Contact
      → ((s : ℕ) → IsPairMarked mid s ↔ (IsPairMarked old s ⊎ (s ≡ slot t.pieces arc)))
      → ((s : ℕ) → IsPairMarked new s ↔ (IsPairMarked mid s ⊎ (s ≡ slot t.pieces (back arc)))) → MarksTouching parts t (λ x. x ≡ arc) old new
  marked_arc arc old mid new across touch first second x at = adds_same (adds_both (first (slot t.pieces x)) (second (slot t.pieces x))) to from
    where
      Both : Type 0
      Both = ((x ≡ arc) ⊎ (back x ≡ arc)) × HoldsAt parts x Contact

      to : (slot t.pieces x ≡ slot t.pieces arc) ⊎ (slot t.pieces x ≡ slot t.pieces (back arc)) → Both
      to (inl e) = let same : x ≡ arc = one_slot t is x arc at across e in (inl same, subst (λ y. HoldsAt parts y Contact) (sym same) touch)
      to (inr e) =
          let same : x ≡ back arc = one_slot t is x (back arc) at (back_across t arc across) e in
          (inr (ap back same), subst (λ y. HoldsAt parts y Contact) (sym same) (contact_back parts arc touch))

      from : Both → (slot t.pieces x ≡ slot t.pieces arc) ⊎ (slot t.pieces x ≡ slot t.pieces (back arc))
      from (inl e, h) = inl (ap (slot t.pieces) e)
      from (inr e, h) = inr (ap (λ y. slot t.pieces (back y)) e)

-- all arcs lead to a greater part, this way round or the other
pub all_marked : (parts : List Part) (t : Table) (n : ℕ) (start marks : List Bool) → IsTable t → 32 ≤ n → ((s : ℕ) → IsPairMarked start s → ⊥) → MarksTouching parts t (IsUpward n) start marks → AreMarks parts t marks
all_marked parts t n start marks is most none all x at = (
  (λ h. ⊎_elim {C = HoldsAt parts x Contact} (λ o. absurd (none (slot t.pieces x) o)) (λ r. r.1) ((all x at).0 h)),
  (λ touch. (all x at).1 (inr (
    ⊎_elim {C = IsUpward n x ⊎ IsUpward n (back x)}
        (λ lt. inl (record { order = lt; below = small x.a at.a_in }))
        (λ gt. inr (record { order = gt; below = small x.b at.b_in }))
        (apart_cases x.a x.b at.different),
    touch,
  ))),
)
  where
    small : (a : ℕ) → Has t.of a → a < n
    small a has = let lt : a < 32 = is.small a has in omega arith

none_in : (n s : ℕ) → IsPairMarked (replicate n false) s → ⊥
none_in zero s h = absurd cc
none_in (suc n) zero h = absurd cc
none_in (suc n) (suc s) h = none_in n s h

pub nothing_marked : (s : ℕ) → IsPairMarked (replicate 4096 false) s → ⊥
nothing_marked s h = none_in 4096 s h
