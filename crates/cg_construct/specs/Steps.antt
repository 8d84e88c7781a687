-- What the step of a state in an attempt has come to.
use Rattle.cg_action.specs.ActionLimits.{IsAction}
use Rattle.cg_client.specs.declared.parts.DraftParts.{DraftParts}
use Rattle.cg_client.specs.Drafts.{turn_with}
use Rattle.cg_client.specs.Replica.{RegPrim, TransPrim, Un as UnState}
use Rattle.cg_client.specs.Summary.{enter_exchange}
use Rattle.cg_client.specs.Turn.{Turn, go_to}
use Rattle.cg_client.specs.Marks.{mark_yellow}
use Rattle.cg_construct.specs.Attempt.{in_construct, in_no}
use Rattle.cg_construct.specs.declared.step.ConstructStep.{ConstructStep}
use Rattle.cg_construct.specs.declared.step.ConstructStep.TheVariants.{Construct, No, Un, Installed, InstalledBy, Exchange}

-- the turn that a step leaves; an action behind an installation is still to be marked, an exchange still to be entered
abbrev pub turn_after : ConstructStep → DraftParts → Turn
turn_after (Construct s) d = in_construct s d
turn_after (No s) d = in_no s d
turn_after (Un s) d = turn_with s UnState d
turn_after (Installed i) d = turn_with i RegPrim d
turn_after (InstalledBy i action) d = go_to (mark_yellow (turn_with i UnState d) action) TransPrim
turn_after (Exchange core conf set) d = enter_exchange (turn_with core UnState d) conf set

-- an action that is still to be marked is within the limits of an action
abbrev pub HasLimits : ConstructStep → Type 0
HasLimits (InstalledBy i action) = IsAction action
HasLimits _ = Unit {0}
