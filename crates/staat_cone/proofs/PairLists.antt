-- Lists that grow by what has a property.
use Rattle.std.proofs.Common.{◌≡◌, ℕ, ◌+◌, ◌<◌, ◌≤◌, ◌⊎◌, inl, inr, ⊎_elim, arith, sym, subst, List, [], ◌∷◌, ◌++◌, get_or, length, take, Contains}
use Rattle.std.proofs.Math.Seq.{take-suc}
use Rattle.std.proofs.lemmas.List.{take_all}
use Rattle.std.proofs.lemmas.List.Elements.{Contains-push, Contains-push_cases, Contains-append_left}
use Rattle.staat_vec.specs.declared.vector.V3.{V3}
use Rattle.staat_cone.specs.Pairs.{Adds, FromSome}

pub Adds-none : (P : V3 → Type 0) (xs : List V3) → ((x : V3) → P x → ⊥) → Adds P xs xs
Adds-none P xs none = record { kept = λ x h. h; added = λ x p. absurd (none x p); only = λ x h. inl h }

pub Adds-one : (P : V3 → Type 0) (xs : List V3) (n : V3) → P n → ((x : V3) → P x → x ≡ n) → Adds P xs (xs ++ n ∷ [])
Adds-one P xs n here same = record {
  kept = λ x h. Contains-append_left xs (n ∷ []) x h;
  added = λ x p. subst (Contains (xs ++ n ∷ [])) (sym (same x p)) (Contains-push xs n);
  only = λ x h. ⊎_elim (λ c. inl c) (λ e. inr (subst P e here)) (Contains-push_cases xs n x h);
}

pub Adds-then : (P Q R : V3 → Type 0) (xs ys zs : List V3) → ((x : V3) → P x → R x) → ((x : V3) → Q x → R x) → ((x : V3) → R x → P x ⊎ Q x) → Adds P xs ys → Adds Q ys zs → Adds R xs zs
Adds-then P Q R xs ys zs f g h a b = record {
  kept = λ x c. b.kept x (a.kept x c);
  added = λ x r. ⊎_elim (λ p. b.kept x (a.added x p)) (λ q. b.added x q) (h x r);
  only = λ x c. ⊎_elim (λ d. ⊎_elim (λ e. inl e) (λ p. inr (f x p)) (a.only x d)) (λ q. inr (g x q)) (b.only x c);
}

pub take_more : {X : Type 0} (hs : List X) (i : ℕ) (z : X) → i < length hs → take (i + 1) hs ≡ take i hs ++ get_or hs i z ∷ []
take_more hs i z lt = grind (arith, take-suc)

pub Adds-more : (R : V3 → V3 → Type 0) (hs : List V3) (i : ℕ) (z : V3) (xs ys zs : List V3) → i < length hs → Adds (FromSome R (take i hs)) xs ys → Adds (R (get_or hs i z)) ys zs → Adds (FromSome R (take (i + 1) hs)) xs zs
Adds-more R hs i z xs ys zs lt a b =
    let more : take (i + 1) hs ≡ take i hs ++ get_or hs i z ∷ [] = take_more hs i z lt in
    subst (λ l. Adds (FromSome R l) xs zs) (sym more)
    (Adds-then (FromSome R (take i hs)) (R (get_or hs i z)) (FromSome R (take i hs ++ get_or hs i z ∷ [])) xs ys zs
    (λ x (h, c, r). (h, Contains-append_left (take i hs) (get_or hs i z ∷ []) h c, r))
    (λ x r. (get_or hs i z, Contains-push (take i hs) (get_or hs i z), r))
    (λ x (h, c, r). ⊎_elim (λ d. inl (h, d, r)) (λ e. inr (subst (λ h. R h x) (sym e) r)) (Contains-push_cases (take i hs) (get_or hs i z) h c))
    a b)

pub Adds-all : (R : V3 → V3 → Type 0) (hs : List V3) (i : ℕ) (xs ys : List V3) → length hs ≤ i → Adds (FromSome R (take i hs)) xs ys → Adds (FromSome R hs) xs ys
Adds-all R hs i xs ys le a = subst (λ l. Adds (FromSome R l) xs ys) (take_all i hs le) a
