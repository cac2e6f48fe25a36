use Rattle.std.proofs.Common.{◌≡◌, ◌≢◌, ◌∙◌, ℤ, pos, suc, zero, arith, ap, refl, sym, of_z, to_z, negsuc}
use Rattle.std.specs.Int.{w128}
use Rattle.staat_vec.specs.declared.vector.TheConstants.{NORMAL, VERTEX}
use Rattle.staat_vec.specs.Primitives.{or_next}
use Rattle.staat_vec.proofs.ReadBack.{minor_of, read_back}
use Rattle.staat_vec.proofs.rays.first_of_cross.Goals as goal

or_next-some : (a b : ℤ) → a ≢ pos 0 → or_next a b ≡ a
or_next-some (pos zero) b some = absurd (some refl)
or_next-some (pos (suc n)) b some = refl
or_next-some (negsuc n) b some = refl

-- a component that was found not to be 0
here : (r a b : ℤ) → to_z w128 (of_z w128 r) ≡ a → r ≡ to_z w128 (of_z w128 r) → (of_z w128 r ≡ 0 → ⊥) → to_z w128 (of_z w128 r) ≡ or_next a b
here r a b e same test = e ∙ sym (or_next-some a b (λ none. test (ap (of_z w128) (same ∙ e ∙ none))))

-- one that was found to be 0
later : (r a b : ℤ) → to_z w128 (of_z w128 r) ≡ a → of_z w128 r ≡ 0 → b ≡ or_next a b
later r a b e none = ap (λ z. or_next z b) (sym (ap (to_z w128) none) ∙ e)

pub returns-then-x-ne0 : goal.returns-then-x-ne0
returns-then-x-ne0 c =
    let a = c.args.a in
    let b = c.args.b in
    let h = c.requires.a in
    let k = c.requires.b in
    let m = c.minor-x in
    here m.result _ _
    (minor_of w128 m.result a.y a.z b.y b.z VERTEX NORMAL h.y h.z k.y k.z (omega arith) m.ensures.size (omega arith) m.ensures.value)
    (sym (read_back w128 m.result VERTEX m.ensures.size (omega arith))) c.if-x-ne0.true

pub returns-then-y-ne0 : goal.returns-then-y-ne0
returns-then-y-ne0 c =
    let a = c.args.a in
    let b = c.args.b in
    let h = c.requires.a in
    let k = c.requires.b in
    let m = c.minor-y in
    here m.result _ _
    (minor_of w128 m.result a.z a.x b.z b.x VERTEX NORMAL h.z h.x k.z k.x (omega arith) m.ensures.size (omega arith) m.ensures.value)
    (sym (read_back w128 m.result VERTEX m.ensures.size (omega arith))) c.if-y-ne0.true
    ∙ later c.minor-x.result _ _
    (minor_of w128 c.minor-x.result a.y a.z b.y b.z VERTEX NORMAL h.y h.z k.y k.z (omega arith) c.minor-x.ensures.size (omega arith) c.minor-x.ensures.value)
    c.if-x-ne0.false

pub returns : goal.returns
returns c =
    let a = c.args.a in
    let b = c.args.b in
    let h = c.requires.a in
    let k = c.requires.b in
    minor_of w128 c.minor.result a.x a.y b.x b.y VERTEX NORMAL h.x h.y k.x k.y (omega arith) c.minor.ensures.size (omega arith) c.minor.ensures.value
    ∙ later c.minor-y.result _ _
    (minor_of w128 c.minor-y.result a.z a.x b.z b.x VERTEX NORMAL h.z h.x k.z k.x (omega arith) c.minor-y.ensures.size (omega arith) c.minor-y.ensures.value)
    c.if-y-ne0.false
    ∙ later c.minor-x.result _ _
    (minor_of w128 c.minor-x.result a.y a.z b.y b.z VERTEX NORMAL h.y h.z k.y k.z (omega arith) c.minor-x.ensures.size (omega arith) c.minor-x.ensures.value)
    c.if-x-ne0.false
