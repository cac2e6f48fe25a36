-- The words and comments of a file, by the places of their bytes, counted from 0.
use Rattle.std.specs.Prelude.{◌≡◌, ◌≢◌, ◌==◌, ◌||◌, ◌&&◌, ◌+◌, ◌<◌, ◌≤◌}
use Rattle.std.specs.Prelude.{◌⊎◌, ℕ, suc, Bool, true, not, nat_le, List}
use Rattle.std.specs.Prelude.{length, take, drop, Some, slice_get}
use Rattle.staat_off.specs.declared.rest.TheConstants.{HASH, LINE_FEED}

-- a space, a tab, LF, VT, FF and CR
abbrev pub is_blank : ℕ → Bool
is_blank b = b == 32 || (nat_le 9 b && nat_le b 13)

-- a byte of which words consist: neither blank nor `#`
abbrev pub is_plain : ℕ → Bool
is_plain b = not (is_blank b || b == HASH)

-- no LF stands from place p on up to place q
abbrev pub HasNoLineEnd : List ℕ → ℕ → ℕ → Type 0
HasNoLineEnd file p q = (i : ℕ) → p ≤ i → i < q → slice_get file i ≢ Some LINE_FEED

-- the comment that a `#` at place j begins goes on at place i
pub record IsCommentFrom (file : List ℕ) (j i : ℕ) : Type 0 where
  pub begins : slice_get file j ≡ Some HASH
  pub before : j ≤ i
  pub goes_on : HasNoLineEnd file j (suc i)

-- the place is in a comment
abbrev pub IsCommented : List ℕ → ℕ → Type 0
IsCommented file i = (j : ℕ) × IsCommentFrom file j i

-- a word stands at the place: its byte is plain, and it is in no comment
pub record IsWordPlace (file : List ℕ) (i : ℕ) : Type 0 where
  pub byte : ℕ
  pub at : slice_get file i ≡ Some byte
  pub plain : is_plain byte ≡ true
  pub outside : IsCommented file i → ⊥

-- a word, and the offset of its first byte
pub record Word : Type 0 where
  pub text : List ℕ
  pub at : ℕ

-- the place behind a word
abbrev pub end_of : Word → ℕ
end_of w = w.at + length w.text

-- a longest run of such places
pub record IsWord (file : List ℕ) (w : Word) : Type 0 where
  pub nonempty : 0 < length w.text
  pub text : w.text ≡ take (length w.text) (drop w.at file)
  pub places : (i : ℕ) → w.at ≤ i → i < end_of w → IsWordPlace file i
  pub before : (i : ℕ) → suc i ≡ w.at → IsWordPlace file i → ⊥
  pub behind : IsWordPlace file (end_of w) → ⊥

-- no word stands from place p on up to place q
abbrev pub HasNoWord : List ℕ → ℕ → ℕ → Type 0
HasNoWord file p q = (i : ℕ) → p ≤ i → i < q → IsWordPlace file i → ⊥

-- the word is the first from place p on
pub record IsNextWord (file : List ℕ) (p : ℕ) (w : Word) : Type 0 where
  pub word : IsWord file w
  pub from : p ≤ w.at
  pub none_before : HasNoWord file p w.at

-- place q is behind the next LF from place p on, or at the file's end where there is none
abbrev pub IsNextLine : List ℕ → ℕ → ℕ → Type 0
IsNextLine file p q =
    ((i : ℕ) × (p ≤ i) × (q ≡ suc i) × (slice_get file i ≡ Some LINE_FEED) × HasNoLineEnd file p i)
    ⊎ ((q ≡ length file) × HasNoLineEnd file p q)

-- no word goes on from before place p to it, and no comment does so unless the file ends there
pub record IsStop (file : List ℕ) (p : ℕ) : Type 0 where
  pub within : p ≤ length file
  pub between : (i : ℕ) → suc i ≡ p → IsWordPlace file i → IsWordPlace file p → ⊥
  pub outside : (i : ℕ) → suc i ≡ p → p < length file → IsCommented file i → ⊥
