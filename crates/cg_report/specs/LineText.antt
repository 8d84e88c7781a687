-- The line that shows a replica.
use Rattle.std.specs.Prelude.{ℕ, Bool, true, false, List, [], ◌∷◌, ◌++◌, decimal, codes, Option, Some, None}
use Rattle.cg_base.specs.declared.action_id.ActionId.{ActionId}
use Rattle.cg_base.specs.Text.{set_text, weight_set_text, id_list_text}
use Rattle.cg_report.specs.declared.line.StateName.{StateName}
use Rattle.cg_report.specs.declared.line.StateName.TheVariants.{RegPrim, TransPrim, ExchangeStates, ExchangeActions, Construct, No, Un, NonPrim, Left}
use Rattle.cg_report.specs.declared.line.ShownPhase.{ShownPhase}
use Rattle.cg_report.specs.declared.line.ShownPhase.TheVariants.{Alone, Regular, Transitional}
use Rattle.cg_records.specs.declared.primary.Primary.{Primary}
use Rattle.cg_records.specs.declared.vulnerable.Vulnerable.{Vulnerable}
use Rattle.cg_records.specs.declared.yellow.Yellow.{Yellow}
use Rattle.cg_report.specs.declared.line.View.{View}
use Rattle.cg_report.specs.declared.line.UpLine.{UpLine}
use Rattle.cg_report.specs.declared.line.Line.{Line}

abbrev pub state_text : StateName → List ℕ
state_text RegPrim = codes "RegPrim"
state_text TransPrim = codes "TransPrim"
state_text ExchangeStates = codes "ExchangeStates"
state_text ExchangeActions = codes "ExchangeActions"
state_text Construct = codes "Construct"
state_text No = codes "No"
state_text Un = codes "Un"
state_text NonPrim = codes "NonPrim"
state_text Left = codes "Left"

-- a phase, with the number of its configuration
abbrev pub phase_text : ShownPhase → List ℕ
phase_text Alone = codes "-"
phase_text (Regular conf) = codes "c" ++ decimal conf
phase_text (Transitional conf) = codes "t" ++ decimal conf

-- a primary component: index, configuration, members
abbrev pub prim_text : Primary → List ℕ
prim_text p = codes "p" ++ decimal p.index ++ codes "@" ++ decimal p.conf ++ weight_set_text p.set

-- the record of an attempt: configuration, from index, members, bits
abbrev pub vulnerable_text : Option Vulnerable → List ℕ
vulnerable_text None = codes "v-"
vulnerable_text (Some v) = codes "v" ++ decimal v.attempt ++ codes "/" ++ decimal v.from
    ++ set_text v.set ++ set_text v.bits

-- a yellow list: valid; invalid and empty; or invalid
abbrev pub yellow_in : Bool → List ActionId → List ℕ
yellow_in true list = codes "y!" ++ id_list_text list
yellow_in false [] = codes "y-"
yellow_in false (id ∷ ids) = codes "y?" ++ id_list_text (id ∷ ids)

abbrev pub yellow_text : Yellow → List ℕ
yellow_text y = yellow_in y.valid y.list

-- how many actions are green and white
abbrev pub counts_text : View → List ℕ
counts_text v = codes "g" ++ decimal v.green_count ++ codes " w" ++ decimal v.white_count

-- what it knows of primary components
abbrev pub components_text : View → List ℕ
components_text v = codes " " ++ prim_text v.prim ++ codes " a" ++ decimal v.attempt_index ++ codes " "
    ++ vulnerable_text v.vulnerable

-- what isn't green
abbrev pub actions_text : View → List ℕ
actions_text v = codes " " ++ yellow_text v.yellow ++ codes " r" ++ id_list_text v.reds
    ++ codes " o" ++ id_list_text v.own

-- the parts of a line behind the phase
abbrev pub view_text : View → List ℕ
view_text v = counts_text v ++ components_text v ++ actions_text v ++ codes " x" ++ set_text v.left
    ++ codes " b" ++ decimal v.buffered

-- what a line says behind the identifier
abbrev pub up_text : Option UpLine → List ℕ
up_text None = codes "Down"
up_text (Some up) = state_text up.state ++ codes " " ++ phase_text up.phase ++ codes " " ++ view_text up.view

abbrev pub line_text : Line → List ℕ
line_text l = decimal l.id ++ codes " " ++ up_text l.up
