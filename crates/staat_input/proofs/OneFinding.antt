-- What a step finds is one thing, unless it stands at a file that is to be read.
use Rattle.std.proofs.Common.{◌≡◌, ℕ, ◌<◌, ◌≤◌, List, [], ◌∷◌, length, Option, Some, None, refl, ap, sym, ◌∙◌, subst}
use Rattle.std.proofs.Common.{arith, inl, inr}
use Rattle.std.specs.Prelude.{Ok, Err}
use Rattle.staat_fault.specs.declared.fault.Fault.TheVariants.{ReadFault}
use Rattle.staat_fault.specs.declared.fault.Fault.{Fault}
use Rattle.staat_edge.specs.Files.{bytes_of}
use Rattle.staat_input.specs.Work.{Files, Found, Then, Each, IsTakenWithin, to_read, too_long, taken}

-- what the step finds is no file that is to be read
abbrev pub IsSettled : {X : Type 0} → Found X → Type 0
IsSettled (Err (ReadFault name)) = ⊥
IsSettled found = Unit {0}

-- What a step finds is one thing, unless it stands at a file; and it finds nothing where that file is not there.
pub record FindsOne {X : Type 0} (files : Files) (Step : Found X → Type 0) : Type 0 where
  pub one : (f g : Found X) → Step f → Step g → IsSettled f → IsSettled g → f ≡ g
  pub held : (name : List ℕ) (f : Found X) → Step (Err (ReadFault name)) → bytes_of name files ≡ None → Step f → IsSettled f → ⊥

pub given_one : {X : Type 0} (x y : X) → ◌≡◌ {A = Found X} (Ok x) (Ok y) → x ≡ y
given_one x y e = cc

pub given_not_fault : {X : Type 0} (x : X) (f : Fault) → ◌≡◌ {A = Found X} (Ok x) (Err f) → ⊥
given_not_fault x f e = cc

fault_at : {X : Type 0} (found : Found X) (f : Fault) → found ≡ Err f → IsSettled found → IsSettled {X = X} (Err f)
fault_at found f e settled = subst IsSettled e settled

fault_of : {X : Type 0} (f g : Fault) → ◌≡◌ {A = Found X} (Err g) (Err f) → f ≡ g
fault_of f g e = cc

-- whether a fault is settled does not depend on what else the step might give
settled_fault : (X Y : Type 0) (f : Fault) → IsSettled {X = X} (Err f) → IsSettled {X = Y} (Err f)
settled_fault X Y (ReadFault name) h = h
settled_fault X Y f h = tt

fault_one : (X Y : Type 0) (f g : Fault) → ◌≡◌ {A = Found X} (Err f) (Err g) → ◌≡◌ {A = Found Y} (Err f) (Err g)
fault_one X Y f g e = ap (λ h. Err h) (fault_of f g (sym e))

-- two steps as one
pub then_one : {X Y : Type 0} (files : Files) (First : Found X → Type 0) (Second : X → Found Y → Type 0) → FindsOne files First → ((x : X) → FindsOne files (Second x)) → FindsOne files (Then First Second)
then_one {X} {Y} files First Second first second = record { one = one; held = held }
  where
    one : (f g : Found Y) → Then First Second f → Then First Second g → IsSettled f → IsSettled g → f ≡ g
    one f g (inl (a, fa, e)) (inl (b, fb, d)) sf sg =
        e ∙ fault_one X Y a b (first.one (Err a) (Err b) fa fb (settled_fault Y X a (fault_at f a e sf)) (settled_fault Y X b (fault_at g b d sg))) ∙ sym d
    one f g (inl (a, fa, e)) (inr (y, fy, ry)) sf sg = absurd (given_not_fault y a (first.one (Ok y) (Err a) fy fa tt (settled_fault Y X a (fault_at f a e sf))))
    one f g (inr (x, fx, rx)) (inl (b, fb, d)) sf sg = absurd (given_not_fault x b (first.one (Ok x) (Err b) fx fb tt (settled_fault Y X b (fault_at g b d sg))))
    one f g (inr (x, fx, rx)) (inr (y, fy, ry)) sf sg =
        let same : x ≡ y = given_one x y (first.one (Ok x) (Ok y) fx fy tt tt) in
        (second y).one f g (subst (λ z. Second z f) same rx) ry sf sg

    held : (name : List ℕ) (f : Found Y) → Then First Second (Err (ReadFault name)) → bytes_of name files ≡ None → Then First Second f → IsSettled f → ⊥
    held name f (inl (a, fa, e)) lacks (inl (b, fb, d)) settled =
        first.held name (Err b) (subst (λ z. First (Err z)) (fault_of a (ReadFault name) e) fa) lacks fb (settled_fault Y X b (fault_at f b d settled))
    held name f (inl (a, fa, e)) lacks (inr (y, fy, ry)) settled =
        first.held name (Ok y) (subst (λ z. First (Err z)) (fault_of a (ReadFault name) e) fa) lacks fy tt
    held name f (inr (x, fx, rx)) lacks (inl (b, fb, d)) settled = given_not_fault x b (first.one (Ok x) (Err b) fx fb tt (settled_fault Y X b (fault_at f b d settled)))
    held name f (inr (x, fx, rx)) lacks (inr (y, fy, ry)) settled =
        let same : x ≡ y = given_one x y (first.one (Ok x) (Ok y) fx fy tt tt) in
        (second y).held name f (subst (λ z. Second z (Err (ReadFault name))) same rx) lacks ry settled

-- a step that finds one thing, and no file that is to be read
pub known_one : {X : Type 0} (files : Files) (x : X) → FindsOne files (λ found. found ≡ Ok x)
known_one files x = record { one = λ f g a b sf sg. a ∙ sym b; held = λ name f at lacks step settled. given_not_fault x (ReadFault name) (sym at) }

-- a step for each member
pub each_one : {X Y : Type 0} (files : Files) (Step : X → Found Y → Type 0) → ((x : X) → FindsOne files (Step x)) → (xs : List X) → FindsOne files (Each Step xs)
each_one {X} {Y} files Step step [] = known_one files []
each_one {X} {Y} files Step step (x ∷ xs) =
    then_one files (Step x) (λ y. Then (Each Step xs) (λ ys found. found ≡ Ok (y ∷ ys))) (step x)
    (λ y. then_one files (Each Step xs) (λ ys found. found ≡ Ok (y ∷ ys)) (each_one files Step step xs) (λ ys. known_one files (y ∷ ys)))

bytes_one : (o : Option (List ℕ)) (a b : List ℕ) → o ≡ Some a → o ≡ Some b → a ≡ b
bytes_one o a b e f = cc

not_both : (o : Option (List ℕ)) (a : List ℕ) → o ≡ Some a → o ≡ None → ⊥
not_both o a e f = cc

at_reads : {X : Type 0} (f : Found X) (n m : List ℕ) → f ≡ Err (ReadFault n) → f ≡ Err (ReadFault m) → n ≡ m
at_reads f n m e d = cc

unsettled : {X : Type 0} (name : List ℕ) (f : Found X) → f ≡ Err (ReadFault name) → IsSettled f → ⊥
unsettled name f e settled = subst IsSettled e settled

not_long : (limit : ℕ) (o : Option (List ℕ)) (a b : List ℕ) → o ≡ Some a → o ≡ Some b → limit < length a → length b ≤ limit → ⊥
not_long limit o a b e f long short = absurd (omega (arith, ap length (bytes_one o a b e f)))

-- what bytes say is one thing, and no file that is to be read
pub record IsSaying {X : Type 0} (Says : List ℕ → Found X → Type 0) : Type 0 where
  pub one : (bytes : List ℕ) (f g : Found X) → Says bytes f → Says bytes g → f ≡ g
  pub no_read : (bytes name : List ℕ) → Says bytes (Err (ReadFault name)) → ⊥

-- a step that takes a whole file
pub taken_one : {X : Type 0} (limit : ℕ) (files : Files) (name : List ℕ) (Says : List ℕ → Found X → Type 0) → IsSaying Says → FindsOne files (IsTakenWithin limit files name Says)
taken_one {X} limit files name Says saying = record {
  one = one;
  held = λ n f at lacks step settled. not_there f (subst (λ m. bytes_of m files ≡ None) (its_own n at) lacks) step settled;
}
  where
    one : (f g : Found X) → IsTakenWithin limit files name Says f → IsTakenWithin limit files name Says g → IsSettled f → IsSettled g → f ≡ g
    one f g (to_read e) b sf sg = absurd (unsettled name f e sf)
    one f g a (to_read e) sf sg = absurd (unsettled name g e sg)
    one f g (too_long x xe xl e) (too_long y ye yl d) sf sg = e ∙ sym d
    one f g (too_long x xe xl e) (taken y ye ys yt) sf sg = absurd (not_long limit _ x y xe ye xl ys)
    one f g (taken x xe xs xt) (too_long y ye yl d) sf sg = absurd (not_long limit _ y x ye xe yl xs)
    one f g (taken x xe xs xt) (taken y ye ys yt) sf sg = saying.one y f g (subst (λ bytes. Says bytes f) (bytes_one _ x y xe ye) xt) yt

    not_there : (f : Found X) → bytes_of name files ≡ None → IsTakenWithin limit files name Says f → IsSettled f → ⊥
    not_there f lacks (to_read e) settled = unsettled name f e settled
    not_there f lacks (too_long x xe xl e) settled = not_both _ x xe lacks
    not_there f lacks (taken x xe xs xt) settled = not_both _ x xe lacks

    its_own : (n : List ℕ) → IsTakenWithin limit files name Says (Err (ReadFault n)) → n ≡ name
    its_own n (to_read e) = at_reads _ n name refl e
    its_own n (too_long x xe xl e) = absurd cc
    its_own n (taken x xe xs xt) = absurd (saying.no_read x n xt)
