use Rattle.std.proofs.Common.{◌≡◌, ◌∙◌, ◌⊎◌, ◌↔◌, ⊎_elim, inl, inr, ℕ, ◌<◌, List, ap, arith, refl, subst, sym, ◌-◌, get_or, length, All}
use Rattle.std.specs.Int.{bit_at}
use Rattle.std.proofs.lemmas.List.Elements.{All-push, All-set}
use Rattle.std.proofs.lemmas.Nat.Bits.{bit_at-zero}
use Rattle.staat_cells.specs.declared.batches.ArcCones.{ArcCones}
use Rattle.staat_cells.specs.Batches.{HasParts, IsConeOf}
use Rattle.staat_cells.proofs.Growing.{any_pushed, any_set, grown_first, grown_same}
use Rattle.staat_cells.proofs.batches.add_arc.Goals as goal

-- arcs of the same parts, of which the new one has the cone j too
cone_more : (arc new : ArcCones) (a b j : ℕ) → arc.a ≡ a → arc.b ≡ b → new.a ≡ arc.a → new.b ≡ arc.b
    → ((k : ℕ) → (bit_at new.cones k ≡ 1) ↔ ((bit_at arc.cones k ≡ 1) ⊎ (k ≡ j)))
    → (x y k : ℕ) → IsConeOf new x y k ↔ (IsConeOf arc x y k ⊎ ((x ≡ a) × (y ≡ b) × (k ≡ j)))
cone_more arc new a b j arc_a arc_b new_a new_b bits x y k = (
  λ is. ⊎_elim {C = IsConeOf arc x y k ⊎ ((x ≡ a) × (y ≡ b) × (k ≡ j))} (λ one. inl (sym new_a ∙ is.0, sym new_b ∙ is.1, one))
      (λ here. inr (sym is.0 ∙ new_a ∙ arc_a, sym is.1 ∙ new_b ∙ arc_b, here)) ((bits k).0 is.2),
  ⊎_elim {C = IsConeOf new x y k} (λ is. (new_a ∙ is.0, new_b ∙ is.1, (bits k).1 (inl is.2)))
      (λ here. (new_a ∙ arc_a ∙ sym here.0, new_b ∙ arc_b ∙ sym here.1, (bits k).1 (inr here.2))),
)

pub returns : goal.returns
returns c =
    let old = c.args.arcs.now.items in
    let arc = c.with_bit-2.result in
    record {
      parts = subst (All HasParts) (sym c.in_ok-push.ensures.items) (All-push HasParts old arc c.requires.parts (record {
        a_is = subst (λ n. n < 32) (sym c.with_bit-2.ensures.a) c.requires.a;
        b_is = subst (λ n. n < 32) (sym c.with_bit-2.ensures.b) c.requires.b;
      }));
      cones = λ x y k. grown_same (any_pushed (λ w. IsConeOf w x y k) old c.push.new.self.items arc c.in_ok-push.ensures.items)
          (grown_first (cone_more (record { a = c.args.a; b = c.args.b; cones = 0 }) arc c.args.a c.args.b c.args.j refl refl
          c.with_bit-2.ensures.a c.with_bit-2.ensures.b c.with_bit-2.ensures.cones x y k)
          (λ is. let one = is.2 in let zero = bit_at-zero k in omega (arith, one, zero)));
    }

pub returns-then-is_last : goal.returns-then-is_last
returns-then-is_last c =
    let old = c.args.arcs.now.items in
    let i = c.len-last.result - 1 in
    let arc = c.index.result.now in
    let new = c.with_bit.result in
    let some = c.is_last.ensures.some c.if-is_last.true in
    let count : c.len-last.result ≡ length old = omega (arith, c.len-last.ensures, c.args.arcs.now.ok.0) in
    let long : 0 < length old = subst (λ (l : List ArcCones). 0 < length l) c.deref.ensures.value some in
    let inside : i < length old = omega (arith, count, long) in
    let seen : (d : ArcCones) → ((get_or old i d).a ≡ c.args.a) × ((get_or old i d).b ≡ c.args.b) =
    subst (λ n. (d : ArcCones) → ((get_or old (n - 1) d).a ≡ c.args.a) × ((get_or old (n - 1) d).b ≡ c.args.b)) (sym count)
    (subst (λ (l : List ArcCones). (d : ArcCones) → ((get_or l (length l - 1) d).a ≡ c.args.a) × ((get_or l (length l - 1) d).b ≡ c.args.b)) c.deref.ensures.value (c.is_last.ensures.last c.if-is_last.true)) in
    let a_is = ap (λ (w : ArcCones). w.a) c.index.ensures ∙ (seen arc).0 in
    let b_is = ap (λ (w : ArcCones). w.b) c.index.ensures ∙ (seen arc).1 in
    record {
      parts = All-set HasParts old i new (record { a_is = subst (λ n. n < 32) (sym (c.with_bit.ensures.a ∙ a_is)) c.requires.a; b_is = subst (λ n. n < 32) (sym (c.with_bit.ensures.b ∙ b_is)) c.requires.b }) c.requires.parts;
      cones = λ x y k. any_set (λ w. IsConeOf w x y k) old i arc new ((x ≡ c.args.a) × (y ≡ c.args.b) × (k ≡ c.args.j)) inside
          c.index.ensures
          (cone_more arc new c.args.a c.args.b c.args.j a_is b_is c.with_bit.ensures.a c.with_bit.ensures.b c.with_bit.ensures.cones x y k);
    }
