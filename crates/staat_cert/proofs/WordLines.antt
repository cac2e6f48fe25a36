-- A line is read exactly from its word and its numbers, whatever lines there are.
use Rattle.std.proofs.Common.{◌≡◌, ◌++◌, ℕ, Bool, true, false, List, [], All, ap, ap₂, sym, subst, refl, ◌∙◌, ℤ}
use Rattle.std.specs.Prelude.{Option, Some, None, cond, option_map, IfSome, IfNone}
use Rattle.std.specs.Str.{bytes_eq}
use Rattle.std.proofs.lemmas.Slice.Eq.{bytes_eq-Decides}
use Rattle.staat_vec.proofs.Options.{none_some, option_map_found, some_injective}
use Rattle.staat_model.specs.Lines.{ArePlain, spaced}
use Rattle.staat_model.proofs.LineTexts.{one_cut, parted_spaced}
use Rattle.staat_cert.specs.LineReading.{IsLineOf, bare_from}
use Rattle.staat_cert.specs.Spaced.{AreCut, IsBounded, IsSpaced}
use Rattle.staat_cert.specs.TextLines.{IsTextOfLine}
use Rattle.staat_cert.proofs.Cuts.{one_list}

-- the line has one word, small numbers, and is read from both
pub record IsReadable {L : Type 0} (word_of : L → List ℕ) (numbers_of : L → List ℤ) (read : List ℕ → List ℤ → Option L) (l : L) : Type 0 where
  pub plain : ArePlain (word_of l)
  pub bounded : All IsBounded (numbers_of l)
  pub line : L
  pub again : read (word_of l) (numbers_of l) ≡ Some line

module _ {L : Type 0} {word_of : L → List ℕ} {numbers_of : L → List ℤ} {InBounds : L → Type 0} where
  -- the line of what was read
  pub kind_found : {X : Type 0} (kind : X → L) (read : Option X) (word : List ℕ) (zs : List ℤ) (r : L) → ((x : X) → word ≡ word_of (kind x)) → ((x : X) → read ≡ Some x → (zs ≡ numbers_of (kind x)) × InBounds (kind x)) → option_map kind read ≡ Some r → IsLineOf word_of numbers_of InBounds word zs r
  kind_found kind read word zs r word_is is e =
      let s = option_map_found kind read r e in
      let found = is s.0 s.1 in
      subst (IsLineOf word_of numbers_of InBounds word zs) s.2 (record { word_is = word_is s.0; numbers_are = found.0; bounds = found.1 })

  pub bare_found : (l : L) (zs : List ℤ) (r : L) → IsLineOf word_of numbers_of InBounds (word_of l) [] l → bare_from l zs ≡ Some r → IsLineOf word_of numbers_of InBounds (word_of l) zs r
  unfolding bare_from
  bare_found l [] r is e = subst (IsLineOf word_of numbers_of InBounds (word_of l) []) (some_injective l r e) is
  bare_found l zs r is e = cc

  -- one test of the word
  pub tried : (word text : List ℕ) (zs : List ℤ) (r : L) (x y : Option L) → (x ≡ Some r → IsLineOf word_of numbers_of InBounds text zs r) → (y ≡ Some r → IsLineOf word_of numbers_of InBounds word zs r) → cond (bytes_eq word text) x y ≡ Some r → IsLineOf word_of numbers_of InBounds word zs r
  tried word text zs r x y f g e = go (bytes_eq word text) refl e
    where
      go : (b : Bool) → bytes_eq word text ≡ b → cond b x y ≡ Some r → IsLineOf word_of numbers_of InBounds word zs r
      go true same k = let is : word ≡ text = (bytes_eq-Decides word text).0 same in subst (λ (w : List ℕ). IsLineOf word_of numbers_of InBounds w zs r) (sym is) (f k)
      go false same k = g k

-- ---- lines of bytes

module _ {L : Type 0} (word_of : L → List ℕ) (numbers_of : L → List ℤ) (InBounds : L → Type 0) where
  abbrev TextOf : List ℕ → L → Type 0
  TextOf = IsTextOfLine (λ l. word_of l ++ spaced (numbers_of l)) InBounds

  module _ (bytes word rest : List ℕ) (cut : AreCut bytes word rest) where
    pub text_found : (zs : List ℤ) (o : Option L) → IsSpaced rest zs → ((r : L) → o ≡ Some r → IsLineOf word_of numbers_of InBounds word zs r) → IfSome o (TextOf bytes)
    text_found zs None s found = tt
    text_found zs (Some r) s found = let f = found r refl in record { text = cut.is ∙ ap₂ (λ a b. a ++ b) f.word_is (s.text ∙ ap spaced f.numbers_are); bounds = f.bounds }

    module _ (read : List ℕ → List ℤ → Option L) (readable : (l : L) → TextOf bytes l → IsReadable word_of numbers_of read l) where
      -- the word and the numbers of a line's text are the line's
      both_are : (l : L) → TextOf bytes l → (word ≡ word_of l) × IsSpaced rest (numbers_of l)
      both_are l h =
          let k = readable l h in
          let cuts = one_cut word (word_of l) rest (spaced (numbers_of l)) cut.plain k.plain cut.parted (parted_spaced (numbers_of l)) (sym cut.is ∙ h.text) in
          (cuts.0, record { text = cuts.1; bounded = k.bounded })

      pub text_none : (zs : List ℤ) (o : Option L) → IsSpaced rest zs → o ≡ read word zs → IfNone o ((l : L) → TextOf bytes l → ⊥)
      text_none zs (Some r) s e = tt
      text_none zs None s e = λ l h.
          let k = both_are l h in
          let is = readable l h in
          none_some is.line (e ∙ ap₂ read k.0 (one_list rest zs (numbers_of l) s k.1) ∙ is.again)

      pub text_no_numbers : ((zs : List ℤ) → IsSpaced rest zs → ⊥) → (l : L) → TextOf bytes l → ⊥
      text_no_numbers none l h = none (numbers_of l) (both_are l h).1
