-- So many things in a row, read one by one.
use Rattle.std.proofs.Common.{◌≡◌, ◌++◌, ◌+◌, ◌-◌, ◌<◌, ◌∷◌, ℕ, suc, List, [], Result, Ok, Err, ap, sym, subst, refl, ◌∙◌, append_assoc, append-nil, arith}
use Rattle.staat_off.specs.declared.refusal.OffRefusal.{OffRefusal}
use Rattle.staat_off.specs.declared.refusal.OffRefusal.TheVariants as refusal
use Rattle.staat_off.specs.Answers.{Refuses}
use Rattle.staat_off.specs.Scan.{Rest}
use Rattle.staat_off.specs.Readers.{Reader, many, resumed, return}

-- what is read, behind what was
abbrev pub with_front : {A : Type 0} → List A → Result (List A × Rest) OffRefusal → Result (List A × Rest) OffRefusal
with_front front read = resumed read (λ x. return (front ++ x))

-- a refusal ends all that follows
pub refused_on : {A B : Type 0} (e : OffRefusal) (read : Result (A × Rest) OffRefusal) (next : A → Reader B) → Refuses e read → Refuses e (resumed read next)
refused_on refusal.OutOfMemory read next h = tt
refused_on e read next h = ap (λ r. resumed r next) h

pub refuses_by : {A : Type 0} (e : OffRefusal) (read : Result A OffRefusal) → read ≡ Err e → Refuses e read
refuses_by refusal.OutOfMemory read h = tt
refuses_by e read h = h

module _ {A : Type 0} (read : Reader A) where
  one_more : (front : List A) (x : A) (rest : Result (List A × Rest) OffRefusal) → with_front front (resumed rest (λ xs. return (x ∷ xs))) ≡ with_front (front ++ x ∷ []) rest
  one_more front x (Ok xs) = ap (λ ys. Ok (ys, xs.1)) (sym (append_assoc front (x ∷ []) xs.0))
  one_more front x (Err f) = refl

  many-step : (n : ℕ) (front : List A) (rest : Rest) → with_front front (many (suc n) read rest) ≡ resumed (read rest) (λ x after. with_front (front ++ x ∷ []) (many n read after))
  unfolding many
  many-step n front rest = go (read rest)
    where
      go : (r : Result (A × Rest) OffRefusal) → with_front front (resumed r (λ x after. resumed (many n read after) (λ xs. return (x ∷ xs)))) ≡ resumed r (λ x after. with_front (front ++ x ∷ []) (many n read after))
      go (Ok x) = one_more front x.0 (many n read x.1)
      go (Err f) = refl

  -- the step at i of count
  step_at : (count i : ℕ) (front : List A) (rest : Rest) → i < count → with_front front (many (count - i) read rest) ≡ resumed (read rest) (λ x after. with_front (front ++ x ∷ []) (many (count - (i + 1)) read after))
  step_at count i front rest lt =
      let more : count - i ≡ suc (count - (i + 1)) = omega arith in
      ap (λ n. with_front front (many n read rest)) more ∙ many-step (count - (i + 1)) front rest

  pub many_fails : (count i : ℕ) (front : List A) (rest : Rest) (all : Result (List A × Rest) OffRefusal) (e : OffRefusal) → i < count → with_front front (many (count - i) read rest) ≡ all → Refuses e (read rest) → Refuses e all
  many_fails count i front rest all e lt same h =
      subst (λ (r : Result (List A × Rest) OffRefusal). Refuses e r) (sym (step_at count i front rest lt) ∙ same)
      (refused_on e (read rest) (λ x after. with_front (front ++ x ∷ []) (many (count - (i + 1)) read after)) h)

  pub many_goes : (count i : ℕ) (front more : List A) (x : A) (rest after : Rest) (all : Result (List A × Rest) OffRefusal) → i < count → with_front front (many (count - i) read rest) ≡ all → read rest ≡ Ok (x, after) → more ≡ front ++ x ∷ [] → with_front more (many (count - (i + 1)) read after) ≡ all
  many_goes count i front more x rest after all lt same e n =
      rw n (sym (ap (λ (r : Result (A × Rest) OffRefusal). resumed r (λ y later. with_front (front ++ y ∷ []) (many (count - (i + 1)) read later))) e) ∙ sym (step_at count i front rest lt) ∙ same)

  pub many_ends : (count i : ℕ) (front : List A) (rest : Rest) → count - i ≡ 0 → with_front front (many (count - i) read rest) ≡ Ok (front, rest)
  unfolding many
  many_ends count i front rest none =
      ap (λ n. with_front front (many n read rest)) none ∙ ap (λ ys. Ok (ys, rest)) (append-nil front)
