-- Every reader goes on from a stop to a stop, and refuses words of the file alone.
use Rattle.std.proofs.Common.{◌≡◌, ℕ, Bool, true, false, List, Option, Some, None, Result, Ok, Err, refl, cond, subst, sym, ap, ◌∙◌}
use Rattle.std.specs.Prelude.{codes}
use Rattle.std.specs.Str.{bytes_eq}
use Rattle.staat_off.specs.declared.raw.Raw.{Raw}
use Rattle.staat_off.specs.declared.refusal.OffRefusal.{OffRefusal}
use Rattle.staat_off.specs.declared.refusal.OffRefusal.TheVariants.{NoHeader}
use Rattle.staat_off.specs.Offsets.{BeginsWord, NamesWord}
use Rattle.staat_off.specs.Readers.{value_in}
use Rattle.staat_off.specs.Reading.{end, end_or_trailing, file, header, is_header, reading, word, word_or_short}
use Rattle.staat_off.specs.Scan.{Rest, after_line, next_word, rest_at}
use Rattle.staat_off.specs.Words.{IsStop, IsWord, Word, end_of}
use Rattle.staat_off.proofs.Bounds.{Any, IsBounded, Kept, Scans, file_keeps}
use Rattle.staat_off.proofs.NextWord.{begins_stopped, line_is_passed, next_is_found}

module _ (bytes : List ℕ) where
  -- what is left begins at a stop
  abbrev Stopped : Rest → Type 0
  Stopped rest = (q : ℕ) × IsStop bytes q × (rest ≡ rest_at bytes q)

  -- what the scan finds from a stop on
  abbrev Found : Option Word × Rest → Type 0
  Found (Some w, rest) = IsWord bytes w × Stopped rest
  Found (None, rest) = Unit {0}

  found : (rest : Rest) → Stopped rest → Found (next_word rest)
  found rest (p, stop, there) = subst (λ r. Found (next_word r)) (sym there) (go (next_word (rest_at bytes p)) refl)
    where
      go : (o : Option Word × Rest) → next_word (rest_at bytes p) ≡ o → Found o
      go (Some w, rest) e = let next = next_is_found bytes p stop w rest e in (next.0.word, (end_of w, next.1, next.2))
      go (None, rest) e = tt

  word_from : (rest : Rest) → Stopped rest → Kept Stopped (NamesWord bytes) (IsWord bytes) (word rest)
  unfolding word
  word_from rest stopped = go (next_word rest) (found rest stopped)
    where
      go : (o : Option Word × Rest) → Found o → Kept Stopped (NamesWord bytes) (IsWord bytes) (word_or_short o.0 o.1)
      go (Some w, rest) h = h
      go (None, rest) h = tt

  header_from : (rest : Rest) → Stopped rest → Kept {A = Unit {0}} Stopped (NamesWord bytes) Any (header rest)
  unfolding header
  header_from rest stopped = go (next_word rest) (found rest stopped)
    where
      go : (o : Option Word × Rest) → Found o → Kept {A = Unit {0}} Stopped (NamesWord bytes) Any (cond (is_header o.0) (Ok (tt, o.1)) (Err NoHeader))
      go (None, rest) h = tt
      go (Some w, rest) h = by_test (bytes_eq w.text (codes "OFF"))
        where
          by_test : (t : Bool) → Kept {A = Unit {0}} Stopped (NamesWord bytes) Any (cond t (Ok (tt, rest)) (Err NoHeader))
          by_test true = (tt, h.1)
          by_test false = tt

  begins : (w : Word) → IsWord bytes w → BeginsWord bytes w.at
  begins w is = record { found = w; word = is; begins = refl }

  end_from : (rest : Rest) → Stopped rest → Kept {A = Unit {0}} Any (NamesWord bytes) Any (end rest)
  unfolding end
  end_from rest stopped = go (next_word rest) (found rest stopped)
    where
      go : (o : Option Word × Rest) → Found o → Kept {A = Unit {0}} Any (NamesWord bytes) Any (end_or_trailing o.0 o.1)
      go (Some w, rest) h = begins w h.0
      go (None, rest) h = (tt, tt)

  line_from : (rest : Rest) → Stopped rest → Stopped (after_line rest)
  line_from rest (p, stop, there) =
      let line = line_is_passed bytes p stop.within in
      (line.0, line.2, ap after_line there ∙ line.3)

  scans : Scans Stopped (NamesWord bytes) (IsWord bytes)
  scans = record {
    finds = word_from;
    begins = header_from;
    ends = end_from;
    passes = line_from;
    refuses = λ w is. let there = begins w is in (there, there, there, there, there);
  }

-- each refusal names a word of the file
pub refusal_names_word : (digits : ℕ) (bytes : List ℕ) (e : OffRefusal) → reading digits bytes ≡ Err e → NamesWord bytes e
unfolding reading
refusal_names_word digits bytes e h =
    go (file digits (rest_at bytes 0)) (file_keeps (Stopped bytes) (NamesWord bytes) (IsWord bytes) (scans bytes) digits (rest_at bytes 0) (0, begins_stopped bytes, refl)) h
  where
    go : (r : Result (Raw × Rest) OffRefusal) → Kept Any (NamesWord bytes) IsBounded r → value_in r ≡ Err e → NamesWord bytes e
    go (Ok read) k same = cc
    go (Err refusal) k same = let told : refusal ≡ e = cc in subst (NamesWord bytes) told k
