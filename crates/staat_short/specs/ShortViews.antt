-- The stages of reading as fronts, and the lines that they have taken.
use Rattle.std.specs.Prelude.{ℕ, Bool, List, Option, Some, None}
use Rattle.staat_holds.specs.declared.hold.Hold.{Hold}
use Rattle.staat_cert.specs.TextLines.{LeadsTo, MakesState}
use Rattle.staat_short.specs.declared.stage.OpenHold.{OpenHold}
use Rattle.staat_short.specs.declared.stage.Place.{Place as StagePlace}
use Rattle.staat_short.specs.declared.stage.Place.TheVariants.{Whole, InPlan}
use Rattle.staat_short.specs.declared.stage.Growth.{Growth}
use Rattle.staat_short.specs.declared.stage.Holding.{Holding as StageHolding}
use Rattle.staat_short.specs.declared.stage.PlanKind.{PlanKind}
use Rattle.staat_short.specs.declared.stage.Stage.{Stage}
use Rattle.staat_short.specs.declared.stage.Stage.TheVariants.{Untitled, Titled, Counting, Planning, Holding, Complete}
use Rattle.staat_short.specs.ShortLines.{IsShortLine, short_line_text}
use Rattle.staat_short.specs.Fronts.{Place, whole_answer, in_plan}
use Rattle.staat_short.specs.Fronts.{Front, untitled, titled, counting, planning, holding, complete, front_after}

abbrev pub hold_of : OpenHold → Hold
hold_of hold = record { nodes = hold.nodes.items; pairs = hold.pairs.items }

abbrev pub last_hold : Option OpenHold → Option Hold
last_hold None = None
last_hold (Some hold) = Some (hold_of hold)

abbrev pub place_in : StagePlace → Place
place_in Whole = whole_answer
place_in (InPlan growth) = in_plan growth.nodes.items growth.wanted

abbrev pub front_of : Stage → Front
front_of Untitled = untitled
front_of Titled = titled
front_of (Counting n) = counting n
front_of (Planning n k growth) = planning n k growth.nodes.items growth.wanted
front_of (Holding n h) = holding n (place_in h.place) h.holds.items (last_hold h.last)
front_of (Complete c) = complete c

-- what the holds make of the front of so many parts
abbrev pub holding_of : ℕ → StageHolding → Front
holding_of n h = holding n (place_in h.place) h.holds.items (last_hold h.last)

-- of each plan that has grown so far, the line made one that has grown on or was not taken
abbrev pub PlanGoesOn : (Front → Option Front) → (old : Growth) → Bool → (new : Growth) → Type 0
PlanGoesOn after old b new =
    (n : ℕ) (k : PlanKind) →
    MakesState (after (planning n k old.nodes.items old.wanted)) b (planning n k new.nodes.items new.wanted)

-- of all holds of which this is the last, the line made those of which that is the last or was not taken
abbrev pub HoldGoesOn : (Front → Option Front) → (old : OpenHold) → Bool → (new : OpenHold) → Type 0
HoldGoesOn after old b new =
    (n : ℕ) (place : Place) (holds : List Hold) →
    MakesState (after (holding n place holds (Some (hold_of old)))) b (holding n place holds (Some (hold_of new)))

-- the text is lines that lead to the stage
abbrev pub HasTakenShort : Stage → List ℕ → Type 0
HasTakenShort s = LeadsTo short_line_text IsShortLine front_after untitled (front_of s)
