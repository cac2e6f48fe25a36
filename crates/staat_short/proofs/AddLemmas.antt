-- Lines that were added, one after another, and the whole text.
use Rattle.std.proofs.Common.{◌++◌, ℕ, List, length, ap, arith}
use Rattle.std.specs.Prelude.{Result, Ok, Err}
use Rattle.staat_model.specs.declared.refusal.TextRefusal.{TextRefusal}
use Rattle.staat_model.specs.declared.refusal.TextRefusal.TheVariants.{TextTooLong, OutOfMemory}
use Rattle.staat_cert.specs.declared.writer.LineWriter.{LineWriter}
use Rattle.staat_cert.specs.Writing.{IsWritten}
use Rattle.staat_cert.proofs.AddLemmas.{both_added}
use Rattle.staat_short.specs.declared.short.ShortCertificate.{ShortCertificate}
use Rattle.staat_short.specs.declared.line.ShortLine.{ShortLine}
use Rattle.staat_short.specs.ShortLines.{short_line_text}
use Rattle.staat_short.specs.ShortTexts.{IsShortInOrder, short_text}
use Rattle.staat_short.specs.ShortWriting.{AddsShortLines, IsShortTextAnswer}

pub adds_both : (a b c : LineWriter) (xs ys : List ShortLine) → AddsShortLines a b xs → AddsShortLines b c ys → AddsShortLines a c (xs ++ ys)
adds_both = both_added short_line_text

pub text_answer : (c : ShortCertificate) → IsShortInOrder c → (r : Result (List ℕ) TextRefusal) → IsWritten (short_text c) r → IsShortTextAnswer c r
text_answer c h (Ok bytes) w = (record { form = h; is = w.0 }, omega (arith, ap length w.0, w.1))
text_answer c h (Err (TextTooLong n)) w = w
text_answer c h (Err OutOfMemory) w = absurd w
