-- What statuses 0 and 1 of `pair`, `look`, `graph` and `cells` mean.
use Rattle.std.proofs.Common.{◌≡◌, ℕ, List, length, subst, arith, inl, inr}
use Rattle.std.specs.Prelude.{Ok}
use Rattle.staat_model.specs.declared.assembly.Part.{Part}
use Rattle.staat_model.proofs.WallLaws as walls
use Rattle.staat_words.specs.Requests.{IsAsked, IsPairRequest, IsGraphRequest, IsCellsRequest}
use Rattle.staat_words.specs.declared.request.Asked.{Asked}
use Rattle.staat_input.specs.declared.answer.Answer.{Answer}
use Rattle.staat_input.specs.Work.{Files}
use Rattle.staat_words.specs.declared.request.CellsRequest.{CellsRequest}
use Rattle.staat_cells.proofs.OneCell.{one_cell}
use Rattle.staat_text.specs.CellTexts.{IsCellsText}
use Rattle.staat_directions.specs.CellTables.{tabled, table_too_long, SaysCells, CellsWork}
use Rattle.staat_input.specs.Assembling.{AreSoundParts}
use Rattle.staat_directions.specs.Pairs.{free, not_shown, PairWork, NeverMeet, IsNotShown}
use Rattle.staat_input.proofs.SoundParts.{sound_parts, gives_piece, same_answer, same_status}
use Rattle.staat_words.specs.declared.request.PairRequest.{PairRequest}
use Rattle.staat_directions.specs.Looking.{LookWork}
use Rattle.staat_directions.specs.Graphing.{GraphWork}
use Rattle.staat_words.specs.declared.request.GraphRequest.{GraphRequest}

-- the table of an accepted assembly says of every direction in which cell it lies
cells_are_said : (files : Files) (request : CellsRequest) (parts : List Part) (text : List ℕ) → AreSoundParts files request.asked parts → IsCellsText parts (length parts) text → SaysCells files request text
cells_are_said files request parts text are table = record { parts = parts; sound = are; table = table; one = λ d some. one_cell table.planes d table.cells table.cells_are some }

pub pair_is_right : (request : PairRequest) (files : Files) (a : Answer) → IsPairRequest request → PairWork request files (Ok a) → a.status ≡ 0 → NeverMeet files request
pair_is_right request files a bounds (inl (fault, at, e)) zero = absurd cc
pair_is_right request files a bounds (inr (p, first, inl (fault, at, e))) zero = absurd cc
pair_is_right request files a bounds (inr (p, first, inr (q, second, free shown e))) zero =
    (p, q, first, second, walls.wall_keeps_apart p q request.along request.wall (gives_piece files request.digits request.first p first).solid shown)
pair_is_right request files a bounds (inr (p, first, inr (q, second, not_shown none e))) zero =
    absurd (omega (arith, zero, same_status _ _ e))

pub pair_is_denied : (request : PairRequest) (files : Files) (a : Answer) → IsPairRequest request → PairWork request files (Ok a) → a.status ≡ 1 → IsNotShown files request
pair_is_denied request files a bounds (inl (fault, at, e)) one = absurd cc
pair_is_denied request files a bounds (inr (p, first, inl (fault, at, e))) one = absurd cc
pair_is_denied request files a bounds (inr (p, first, inr (q, second, free shown e))) one =
    absurd (omega (arith, one, same_status _ _ e))
pair_is_denied request files a bounds (inr (p, first, inr (q, second, not_shown none e))) one = (p, q, first, second, none)

pub look_is_right : (asked : Asked) (files : Files) (a : Answer) → IsAsked asked → LookWork asked files (Ok a) → a.status ≡ 0 → (parts : List Part) × AreSoundParts files asked parts
look_is_right asked files a bounds (inl (fault, at, e)) zero = absurd cc
look_is_right asked files a bounds (inr (built, found, e)) zero = (built, sound_parts files asked built bounds found)

pub look_is_denied : (asked : Asked) (files : Files) (a : Answer) → IsAsked asked → LookWork asked files (Ok a) → a.status ≡ 1 → ⊥
look_is_denied asked files a bounds (inl (fault, at, e)) one = absurd cc
look_is_denied asked files a bounds (inr (built, found, e)) one = absurd (omega (arith, one, same_status _ _ e))

pub graph_is_right : (request : GraphRequest) (files : Files) (a : Answer) → IsGraphRequest request → GraphWork request files (Ok a) → a.status ≡ 0 → (parts : List Part) × AreSoundParts files request.asked parts
graph_is_right request files a bounds (inl (fault, at, e)) zero = absurd cc
graph_is_right request files a bounds (inr (built, found, rest)) zero = (built, sound_parts files request.asked built bounds.0 found)

pub graph_is_denied : (request : GraphRequest) (files : Files) (a : Answer) → IsGraphRequest request → GraphWork request files (Ok a) → a.status ≡ 1 → ⊥
graph_is_denied request files a bounds (inl (fault, at, e)) one = absurd cc
graph_is_denied request files a bounds (inr (built, found, inl (fault, at, e))) one = absurd cc
graph_is_denied request files a bounds (inr (built, found, inr (planes, counted, g))) one = absurd (omega (arith, one, same_status _ _ g.is))

pub cells_is_right : (request : CellsRequest) (files : Files) (a : Answer) → IsCellsRequest request → CellsWork request files (Ok a) → a.status ≡ 0 → SaysCells files request a.text
cells_is_right request files a bounds (inl (fault, at, e)) zero = absurd cc
cells_is_right request files a bounds (inr (built, found, inl (fault, at, e))) zero = absurd cc
cells_is_right request files a bounds (inr (built, found, inr (planes, counted, tabled text is short e))) zero =
    let same : record { status = 0; text = text } ≡ a = same_answer a (record { status = 0; text = text }) e in
    subst (λ (b : Answer). SaysCells files request b.text) same
    (cells_are_said files request built text (sound_parts files request.asked built bounds.0 found) is)
cells_is_right request files a bounds (inr (built, found, inr (planes, counted, table_too_long text is long e))) zero = absurd cc

pub cells_is_denied : (request : CellsRequest) (files : Files) (a : Answer) → IsCellsRequest request → CellsWork request files (Ok a) → a.status ≡ 1 → ⊥
cells_is_denied request files a bounds (inl (fault, at, e)) one = absurd cc
cells_is_denied request files a bounds (inr (built, found, inl (fault, at, e))) one = absurd cc
cells_is_denied request files a bounds (inr (built, found, inr (planes, counted, tabled text is short e))) one = absurd (omega (arith, one, same_status _ _ e))
cells_is_denied request files a bounds (inr (built, found, inr (planes, counted, table_too_long text is long e))) one = absurd cc
