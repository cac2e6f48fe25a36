-- What the lines so far have said, and which lines may follow.
use Rattle.std.specs.Prelude.{ℕ, ◌+◌, ◌*◌, ◌==◌, ◌&&◌, zero, suc, nat_le, List, [], ◌∷◌}
use Rattle.std.specs.Prelude.{◌++◌, length}
use Rattle.std.specs.Prelude.{Option, Some, None, if◌then◌else◌}
use Rattle.std.specs.Ordering.{nat_cmp}
use Rattle.staat_vec.specs.declared.vector.V3.{V3}
use Rattle.staat_model.specs.declared.certificate.Arc.{Arc}
use Rattle.staat_model.specs.Certificates.{arc_cmp}
use Rattle.staat_holds.specs.declared.hold.Hold.{Hold}
use Rattle.staat_cert.specs.Machine.{follows}
use Rattle.staat_cert.specs.TextLines.{run_by}
use Rattle.staat_short.specs.declared.short.ShortNode.{ShortNode}
use Rattle.staat_short.specs.declared.short.ShortNode.TheVariants.{Leaf, Split, Group}
use Rattle.staat_short.specs.declared.short.ShortAnswer.{ShortAnswer}
use Rattle.staat_short.specs.declared.short.ShortAnswer.TheVariants as answer
use Rattle.staat_short.specs.declared.short.ShortCertificate.{ShortCertificate}
use Rattle.staat_short.specs.declared.line.ShortLine.{ShortLine}
use Rattle.staat_short.specs.declared.line.ShortLine.TheVariants as line
use Rattle.staat_short.specs.declared.stage.PlanKind.{PlanKind}
use Rattle.staat_short.specs.declared.stage.PlanKind.TheVariants as kind

-- where holds stand: they are the whole answer, or a group behind the nodes so far, with so many trees wanted after it
pub data Place : Type 0 where
  whole_answer : Place
  in_plan : (nodes : List ShortNode) → (wanted : ℕ) → Place

-- a plan has the nodes so far, and the number of trees that are wanted; holds have those before the last one
pub data Front : Type 0 where
  untitled : Front
  titled : Front
  counting : (parts : ℕ) → Front
  planning : (parts : ℕ) → PlanKind → (nodes : List ShortNode) → (wanted : ℕ) → Front
  holding : (parts : ℕ) → Place → List Hold → (last : Option Hold) → Front
  complete : ShortCertificate → Front

-- the holds so far, the last one among them
abbrev pub holds_in : List Hold → Option Hold → List Hold
holds_in holds None = holds
holds_in holds (Some hold) = holds ++ hold ∷ []

-- a line that belongs to no hold closes a group
abbrev pub grouped_in : Front → Front
grouped_in (holding parts (in_plan nodes wanted) holds (Some hold)) =
    planning parts kind.Rest (nodes ++ Group (holds ++ hold ∷ []) ∷ []) wanted
grouped_in s = s

abbrev pub short_answer : PlanKind → List ShortNode → ShortAnswer
short_answer kind.Plan nodes = answer.Plan nodes
short_answer kind.Rest nodes = answer.Rest nodes

abbrev pub after_title : Front → Option Front
after_title untitled = Some titled
after_title s = None

abbrev pub after_parts : Front → ℕ → Option Front
after_parts titled n = Some (counting n)
after_parts s n = None

abbrev pub after_kind : PlanKind → Front → Option Front
after_kind k (counting n) = Some (planning n k [] 1)
after_kind k s = None

abbrev pub after_stuck : Front → Option Front
after_stuck (counting n) = Some (holding n whole_answer [] None)
after_stuck s = None

abbrev pub after_leaf : Front → ℕ → Option Front
after_leaf (planning n k nodes (suc wanted)) p = Some (planning n k (nodes ++ Leaf p ∷ []) wanted)
after_leaf s p = None

-- the split, and a leaf at least for each tree that is wanted after it, are not too many nodes
abbrev pub after_split : Front → V3 → Option Front
after_split (planning n k nodes (suc wanted)) d =
    if nat_le (length nodes + wanted + 4) (2 * n)
    then Some (planning n k (nodes ++ Split d ∷ []) (suc (suc wanted)))
    else None
after_split s d = None

abbrev pub after_group : Front → Option Front
after_group (planning n kind.Rest nodes (suc wanted)) = Some (holding n (in_plan nodes wanted) [] None)
after_group s = None

abbrev pub after_hold : Front → Option Front
after_hold (holding n place holds last) =
    Some (holding n place (holds_in holds last) (Some (record { nodes = []; pairs = [] })))
after_hold s = None

abbrev pub after_part : Front → ℕ → Option Front
after_part (holding n place holds (Some hold)) p =
    if (length hold.pairs == 0) && follows nat_cmp hold.nodes p
    then Some (holding n place holds (Some (record { nodes = hold.nodes ++ p ∷ []; pairs = hold.pairs })))
    else None
after_part s p = None

abbrev pub after_pair : Front → Arc → Option Front
after_pair (holding n place holds (Some hold)) pair =
    if follows arc_cmp hold.pairs pair
    then Some (holding n place holds (Some (record { nodes = hold.nodes; pairs = hold.pairs ++ pair ∷ [] })))
    else None
after_pair s pair = None

abbrev pub after_end : Front → Option Front
after_end (planning n k nodes zero) = Some (complete (record { parts = n; answer = short_answer k nodes }))
after_end (holding n whole_answer holds (Some hold)) =
    Some (complete (record { parts = n; answer = answer.Stuck (holds ++ hold ∷ []) }))
after_end s = None

-- what the next line makes of a front, or nothing where it can't stand there
abbrev pub front_after : Front → ShortLine → Option Front
front_after s line.Title = after_title s
front_after s (line.Parts n) = after_parts s n
front_after s line.Plan = after_kind kind.Plan s
front_after s line.Stuck = after_stuck s
front_after s line.Rest = after_kind kind.Rest s
front_after s (line.Leaf p) = after_leaf (grouped_in s) p
front_after s (line.Split d) = after_split (grouped_in s) d
front_after s line.Group = after_group (grouped_in s)
front_after s line.Hold = after_hold s
front_after s (line.Part p) = after_part s p
front_after s (line.Pair pair) = after_pair s pair
front_after s line.End = after_end (grouped_in s)

-- the front after all lines
abbrev pub after_lines : Option Front → List ShortLine → Option Front
after_lines = run_by front_after
