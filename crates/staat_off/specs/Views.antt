-- Words and numerals without where they lie in memory.
use Rattle.staat_off.specs.declared.rest.Word.{Word as WordSlice}
use Rattle.staat_off.specs.declared.numeral.Numeral.{Numeral as NumeralSlices}
use Rattle.staat_off.specs.Words.{Word}
use Rattle.staat_off.specs.Numerals.{Numeral}

-- a word
abbrev pub word_view : WordSlice → Word
word_view w = record { text = w.text.now; at = w.at }

-- a numeral
abbrev pub numeral_view : NumeralSlices → Numeral
numeral_view n = record {
  is_negative = n.is_negative;
  whole = n.whole.now;
  fraction = n.fraction.now;
  is_down = n.is_down;
  exponent = n.exponent.now;
}
