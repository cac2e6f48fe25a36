-- Parts that stay together.
use Rattle.std.proofs.Common.{◌≡◌, ◌≢◌, ◌⊎◌, ⊎_elim, inl, inr, ℕ, ◌≤◌, sym, subst, refl, List}
use Rattle.std.specs.FinSet as set
use Rattle.staat_vec.specs.declared.vector.V3.{V3}
use Rattle.staat_model.specs.declared.assembly.Part.{Part}
use Rattle.staat_model.specs.declared.certificate.Arc.{Arc}
use Rattle.staat_model.specs.declared.set.PartSet.{PartSet}
use Rattle.staat_model.specs.Cores.{IsFreeInCore}
use Rattle.staat_model.specs.Sets.{Has, IsSide, single}
use Rattle.staat_model.proofs.FreeSides.{member_or}
use Rattle.staat_model.proofs.OneOutcome.{not_single}
use Rattle.staat_model.proofs.OtherSides.{other_side}
use Rattle.staat_model.proofs.SetMembers.{has-difference, has-single, has-union}
use Rattle.staat_model.proofs.SetWords.{same_members}
use Rattle.staat_core.specs.declared.joins.Moving.{Moving}
use Rattle.staat_core.specs.declared.joins.Moving.TheVariants.{AnySide, OnePart}
use Rattle.staat_core.specs.Bonds.{AreTogether}
use Rattle.staat_core.specs.Moves.{HoldsMoves}
use Rattle.staat_vec.proofs.Naturals.{same_or}
use Rattle.staat_core.proofs.Holding.{single_within}

-- one part of a set is a side of it, if it is not the whole set
part_side : (w : PartSet) (p : ℕ) → Has w p → (w ≡ single p → ⊥) → IsSide w (single p)
part_side w p has more = record { nonempty = (p, (has-single p p).1 refl); within = single_within w p has; proper = λ e. more (sym e) }

-- two parts that hold each other do not come apart
module _ (parts : List Part) (arcs : List Arc) (d : V3) (p q : ℕ) (both : PartSet) (is : both ≡ set.union (single p) (single q)) (held : HoldsMoves parts arcs AnySide both d) where
  in_both : (x : ℕ) → Has both x → (x ≡ p) ⊎ (x ≡ q)
  in_both x h = ⊎_elim (λ m. inl ((has-single p x).0 m)) (λ m. inr ((has-single q x).0 m)) ((has-union (single p) (single q) x).0 (subst (λ (u : PartSet). Has u x) is h))

  first_in : Has both p
  first_in = subst (λ (u : PartSet). Has u p) (sym is) ((has-union (single p) (single q) p).1 (inl ((has-single p p).1 refl)))

  second_in : Has both q
  second_in = subst (λ (u : PartSet). Has u q) (sym is) ((has-union (single p) (single q) q).1 (inr ((has-single q q).1 refl)))

  -- one of the two is a side, if they differ
  apart_free : (a b : ℕ) (s r : PartSet) → Has both a → Has both b → ((x : ℕ) → Has both x → (x ≡ a) ⊎ (x ≡ b)) → a ≢ b → IsFreeInCore parts arcs s r d → Has s a → Has r b → ⊥
  apart_free a b s r a_in b_in only apart free a_s b_r =
      held (single a)
      (part_side both a a_in (λ e. apart (sym ((has-single a b).0 (subst (λ (u : PartSet). Has u b) e b_in)))))
      (λ arc listed from to m.
      let at : arc.a ≡ a = (has-single a arc.a).0 from in
      let out = (has-difference both (single a) arc.b).0 to in
      let at_b : arc.b ≡ b = ⊎_elim {C = arc.b ≡ b} (λ e. absurd (out.1 ((has-single a arc.b).1 e))) (λ e. e) (only arc.b out.0) in
      free arc listed (subst (Has s) (sym at) a_s) (subst (Has r) (sym at_b) b_r) m)

  swapped : (x : ℕ) → Has both x → (x ≡ q) ⊎ (x ≡ p)
  swapped x h = ⊎_elim (λ e. inr e) (λ e. inl e) (in_both x h)

  kept : (w s : PartSet) (a b : ℕ) → Has w b → ((r : PartSet) → IsFreeInCore parts arcs s r d → Has s a → Has r b → ⊥) → IsFreeInCore parts arcs s (set.difference w s) d → Has s a → Has s b
  kept w s a b b_in apart free a_s = ⊎_elim (λ h. h) (λ out. absurd (apart (set.difference w s) free a_s ((has-difference w s b).1 (b_in, out)))) (member_or s b)

  pub bond_together : (w : PartSet) → Has w p → Has w q → AreTogether parts arcs w d p q
  bond_together w p_in q_in s free = ⊎_elim {C = (Has s p → Has s q) × (Has s q → Has s p)}
      (λ same. (λ h. subst (Has s) same h, λ h. subst (Has s) (sym same) h))
      (λ differ. (
        kept w s p q q_in (λ r. apart_free p q s r first_in second_in in_both differ) free,
        kept w s q p p_in (λ r. apart_free q p s r second_in first_in swapped (λ e. differ (sym e))) free,
      ))
      (same_or p q)

-- ---- chains

module _ (parts : List Part) (arcs : List Arc) (w : PartSet) (d : V3) where
  pub together_same : (p q : ℕ) → q ≡ p → AreTogether parts arcs w d p q
  together_same p q e s free = (λ h. subst (Has s) (sym e) h, λ h. subst (Has s) e h)

  pub together_on : (p q r : ℕ) → AreTogether parts arcs w d p q → AreTogether parts arcs w d q r → AreTogether parts arcs w d p r
  together_on p q r t u s free = let a = t s free in let b = u s free in (λ h. b.0 (a.0 h), λ h. a.1 (b.1 h))

  pub together_from : (root p q : ℕ) → AreTogether parts arcs w d root p → AreTogether parts arcs w d root q → AreTogether parts arcs w d p q
  together_from root p q t u s free = let a = t s free in let b = u s free in (λ h. b.0 (a.1 h), λ h. a.0 (b.1 h))

  -- where all stay together, no side moves away from the rest
  sides_hold : ((p q : ℕ) → Has w p → Has w q → AreTogether parts arcs w d p q) → (s : PartSet) → IsSide w s → IsFreeInCore parts arcs s (set.difference w s) d → ⊥
  sides_hold all s side free =
      let p = side.nonempty in
      side.proper (same_members s w side.within (λ q h. (all p.0 q (side.within p.0 p.1) h s free).0 p.1))

  pub together_hold : (moving : Moving) → 2 ≤ set.len w → ((p q : ℕ) → Has w p → Has w q → AreTogether parts arcs w d p q) → HoldsMoves parts arcs moving w d
  together_hold AnySide two all s side free = sides_hold all s side free
  together_hold OnePart two all s (p, has, which) free =
      let side = part_side w p has (λ e. not_single w p e two) in
      sides_hold all s (⊎_elim (λ e. subst (IsSide w) (sym e) side) (λ e. subst (IsSide w) (sym e) (other_side w (single p) side)) which) free
