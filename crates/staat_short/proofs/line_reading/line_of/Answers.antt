use Rattle.std.proofs.Common.{rules, sym, ◌∙◌}
use Rattle.staat_cert.proofs.WordLines.{text_found, text_none, text_no_numbers}
use Rattle.staat_short.specs.ShortLines.{IsShortLine, short_numbers, short_word}
use Rattle.staat_short.specs.ShortReading.{short_line_from}
use Rattle.staat_short.proofs.ShortLineLemmas.{is_title_text, readable, short_line_found}
use Rattle.staat_short.proofs.line_reading.line_of.Goals as goal

pub returns-then-is_title-clause-found : goal.returns-then-is_title-clause-found
returns-then-is_title-clause-found c = is_title_text c.args.bytes.now (sym c.is_title.ensures ∙ c.if-is_title.true)

pub returns-then-not-found-clause-none : goal.returns-then-not-found-clause-none
returns-then-not-found-clause-none c = text_no_numbers short_word short_numbers IsShortLine c.args.bytes.now _ _ c.cut_word.ensures short_line_from
    (readable c.args.bytes.now (sym c.is_title.ensures ∙ c.if-is_title.false)) (c.in_ok-found.ensures.none (search rules))

pub returns-clause-found : goal.returns-clause-found
returns-clause-found c = text_found short_word short_numbers IsShortLine c.args.bytes.now _ _ c.cut_word.ensures _ _ (c.in_ok-found.ensures.found (search rules)) (λ r e. short_line_found _ _ r (sym (search rules) ∙ e))

pub returns-clause-none : goal.returns-clause-none
returns-clause-none c = text_none short_word short_numbers IsShortLine c.args.bytes.now _ _ c.cut_word.ensures short_line_from
    (readable c.args.bytes.now (sym c.is_title.ensures ∙ c.if-is_title.false)) _ _ (c.in_ok-found.ensures.found (search rules)) (search rules)
