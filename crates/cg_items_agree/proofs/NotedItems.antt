-- What items come to beside the world, where what is kept are made actions, and where it is something else.
use Rattle.std.proofs.Common.{◌≡◌, ℕ, Bool, true, false, List, [], ◌∷◌, ◌++◌, map, Option, Some, None, IfSome, option_and_then, refl, sym, ap, ◌∙◌, subst, append-nil}
use Rattle.std.specs.Option.{option_map_or}
use Rattle.cg_base.specs.Lists.{present}
use Rattle.cg_action.specs.declared.action.Action.{Action}
use Rattle.cg_model.specs.World.{World}
use Rattle.cg_model.specs.Run.{Step, world_after}
use Rattle.cg_follower_list.specs.declared.follow_line.FollowLine.{FollowLine}
use Rattle.cg_session_list.specs.declared.session_line.SessionLine.{SessionLine}
use Rattle.cg_made_rows.specs.declared.relaxed_event.RelaxedEvent.{RelaxedEvent}
use Rattle.cg_made_rows.specs.declared.relaxed_line.RelaxedLine.{RelaxedLine}
use Rattle.cg_items.specs.declared.companion.Companion.{Companion}
use Rattle.cg_items.specs.declared.companion.Companion.TheVariants.{Alone, Followers, Relaxed, Sessions, Comparing, Imaging}
use Rattle.cg_items.specs.declared.companion.Further.{Further}
use Rattle.cg_items.specs.declared.companion.Further.TheVariants as further
use Rattle.cg_items.specs.declared.companion.FurtherLine.{FurtherLine}
use Rattle.cg_items.specs.declared.companion.FurtherLine.TheVariants as line
use Rattle.cg_items.specs.Companion.{further_refusal, is_own, session_event}
use Rattle.cg_items.specs.Followers.{follow_acts}
use Rattle.cg_items.specs.Items.{Item, steps_of}
use Rattle.cg_items.specs.Kept.{AreNoted, IsTaken, kept_behind, next_world, noted_by}
use Rattle.cg_items.specs.RelaxedAgree.{relaxed_event, relaxed_line, relaxed_shown}
use Rattle.cg_items.specs.Relaxing.{relaxed_lines, relaxed_refusal}
use Rattle.cg_items.specs.Sessions.{sessions_act, sessions_follow}
use Rattle.cg_items_agree.proofs.MadeRows.{rows_of}

-- ---- items one behind the other

world-next : (w : World) (o : Option Step) (items : List Item) →
    world_after (next_world w o) (steps_of items) ≡ world_after w (present (o ∷ map (λ (i : Item). i.step) items))
world-next w None items = refl
world-next w (Some s) items = refl

-- an item behind others is taken, and noted, in the world behind them
pub record IsNotedIn (w : World) (c : Companion) (i : Item) : Type 0 where
  pub taken : IfSome i.further (IsTaken w c i.step)
  pub lines : i.lines ≡ (noted_by w c i.further i.step).lines

pub noted-at : (w : World) (c : Companion) (count : ℕ) (earlier : List Item) (i : Item) (later : List Item) →
    AreNoted w c count (earlier ++ i ∷ later) → IsNotedIn (world_after w (steps_of earlier)) (kept_behind w c earlier) i
noted-at w c count [] i later noted = record { taken = noted.2; lines = noted.3 }
noted-at w c count (x ∷ earlier) i later noted =
    subst (λ (v : World). IsNotedIn v (kept_behind w c (x ∷ earlier)) i) (world-next w x.step earlier)
    (noted-at (next_world w x.step) (noted_by w c x.further x.step).companion _ earlier i later noted.4)

-- ---- where made actions are kept

rows-noted : (w : World) (rows : List (List Action)) (asked : Option Further) (o : Option Step) (items : List Item) →
    kept_behind (next_world w o) (noted_by w (Relaxed rows) asked o).companion items ≡ kept_behind (next_world w o) (Relaxed (rows_of rows (present (o ∷ [])))) items
rows-noted w rows asked (Some s) items = refl
rows-noted w rows None None items = refl
rows-noted w rows (Some (further.Relaxed e)) None items = refl
rows-noted w rows (Some (further.Session e)) None items = refl
rows-noted w rows (Some (further.Follow e)) None items = refl

rows-next : (rows : List (List Action)) (o : Option Step) (items : List Item) → rows_of (rows_of rows (present (o ∷ []))) (steps_of items) ≡ rows_of rows (present (o ∷ map (λ (i : Item). i.step) items))
rows-next rows None items = refl
rows-next rows (Some s) items = refl

pub kept-rows : (w : World) (rows : List (List Action)) (items : List Item) →
    kept_behind w (Relaxed rows) items ≡ Relaxed (rows_of rows (steps_of items))
kept-rows w rows [] = refl
kept-rows w rows (i ∷ items) =
    rows-noted w rows i.further i.step items ∙ kept-rows (next_world w i.step) (rows_of rows (present (i.step ∷ []))) items ∙ ap Relaxed (rows-next rows i.step items)

-- ---- which lines show the relaxed database

pub shown-alone : (i : Item) (lines : List FurtherLine) → i.lines ≡ lines →
    relaxed_shown (i ∷ []) ≡ present (map relaxed_line lines)
shown-alone i lines is = ap (λ (ls : List FurtherLine). present (map relaxed_line ls)) (append-nil i.lines ∙ is)

relaxed-alone : (lines : List RelaxedLine) → present (map relaxed_line (map line.Relaxed lines)) ≡ lines
relaxed-alone [] = refl
relaxed-alone (l ∷ lines) = ap (λ ls. l ∷ ls) (relaxed-alone lines)

sessions-none : (lines : List SessionLine) → present (map relaxed_line (map line.Session lines)) ≡ []
sessions-none [] = refl
sessions-none (l ∷ lines) = sessions-none lines

followers-none : (lines : List FollowLine) → present (map relaxed_line (map line.Follow lines)) ≡ []
followers-none [] = refl
followers-none (l ∷ lines) = followers-none lines

-- what is due of an event
abbrev pub shown_of : World → List (List Action) → Option RelaxedEvent → List RelaxedLine
shown_of w rows (Some e) = relaxed_lines w rows e
shown_of w rows None = []

pub relaxed-noted : (w : World) (rows : List (List Action)) (asked : Option Further) (step : Option Step) →
    IfSome asked (IsTaken w (Relaxed rows) step) →
    present (map relaxed_line (noted_by w (Relaxed rows) asked step).lines) ≡ shown_of w rows (option_and_then relaxed_event asked)
relaxed-noted w rows None None taken = refl
relaxed-noted w rows None (Some s) taken = refl
relaxed-noted w rows (Some (further.Relaxed e)) None taken = relaxed-alone (relaxed_lines w rows e)
relaxed-noted w rows (Some (further.Relaxed e)) (Some s) taken = absurd (let clash : Some s.event ≡ None = taken.2 in cc)
relaxed-noted w rows (Some (further.Session e)) step taken = absurd (let clash : false ≡ true = taken.0 in cc)
relaxed-noted w rows (Some (further.Follow e)) step taken = absurd (let clash : false ≡ true = taken.0 in cc)

pub relaxed-taken : (w : World) (rows : List (List Action)) (asked : Option Further) (step : Option Step) (e : RelaxedEvent) → IfSome asked (IsTaken w (Relaxed rows) step) →
    option_and_then relaxed_event asked ≡ Some e → relaxed_refusal w e ≡ None
relaxed-taken w rows None step e taken is = absurd (let clash : None ≡ Some e = is in cc)
relaxed-taken w rows (Some (further.Relaxed x)) step e taken is =
    let same : x ≡ e = ap (λ o. option_map_or (λ y. y) o x) is in
    subst (λ (y : RelaxedEvent). relaxed_refusal w y ≡ None) same taken.1
relaxed-taken w rows (Some (further.Session x)) step e taken is = absurd (let clash : None ≡ Some e = is in cc)
relaxed-taken w rows (Some (further.Follow x)) step e taken is = absurd (let clash : None ≡ Some e = is in cc)

-- ---- where something else is kept

abbrev pub is_relaxed : Companion → Bool
is_relaxed (Relaxed rows) = true
is_relaxed other = false

kind-noted : (w : World) (c : Companion) (asked : Option Further) (step : Option Step) →
    is_relaxed (noted_by w c asked step).companion ≡ is_relaxed c
kind-noted w Alone asked (Some s) = refl
kind-noted w (Followers fs) asked (Some s) = refl
kind-noted w (Relaxed rows) asked (Some s) = refl
kind-noted w (Sessions ss) asked (Some s) = refl
kind-noted w Comparing asked (Some s) = refl
kind-noted w (Imaging replica) asked (Some s) = refl
kind-noted w c None None = refl
kind-noted w Alone (Some e) None = refl
kind-noted w (Followers fs) (Some (further.Follow e)) None = refl
kind-noted w (Followers fs) (Some (further.Relaxed e)) None = refl
kind-noted w (Followers fs) (Some (further.Session e)) None = refl
kind-noted w (Relaxed rows) (Some (further.Follow e)) None = refl
kind-noted w (Relaxed rows) (Some (further.Relaxed e)) None = refl
kind-noted w (Relaxed rows) (Some (further.Session e)) None = refl
kind-noted w (Sessions ss) (Some (further.Follow e)) None = refl
kind-noted w (Sessions ss) (Some (further.Relaxed e)) None = refl
kind-noted w (Sessions ss) (Some (further.Session e)) None = refl
kind-noted w Comparing (Some e) None = refl
kind-noted w (Imaging replica) (Some e) None = refl

pub kind-kept : (w : World) (c : Companion) (items : List Item) → is_relaxed (kept_behind w c items) ≡ is_relaxed c
kind-kept w c [] = refl
kind-kept w c (i ∷ items) = kind-kept (next_world w i.step) (noted_by w c i.further i.step).companion items ∙ kind-noted w c i.further i.step

module _ (w : World) where
  pub others-noted : (c : Companion) (asked : Option Further) (step : Option Step) → is_relaxed c ≡ false →
      present (map relaxed_line (noted_by w c asked step).lines) ≡ []
  others-noted (Relaxed rows) asked step other = absurd (let clash : true ≡ false = other in cc)
  others-noted Alone asked (Some s) other = refl
  others-noted (Followers fs) asked (Some s) other = refl
  others-noted (Sessions ss) asked (Some s) other = sessions-none (sessions_follow ss (option_and_then session_event asked) s).lines
  others-noted Comparing asked (Some s) other = refl
  others-noted (Imaging replica) asked (Some s) other = refl
  others-noted Alone None None other = refl
  others-noted (Followers fs) None None other = refl
  others-noted (Sessions ss) None None other = refl
  others-noted Comparing None None other = refl
  others-noted (Imaging replica) None None other = refl
  others-noted Alone (Some e) None other = refl
  others-noted (Followers fs) (Some (further.Follow e)) None other = followers-none (follow_acts w fs e).lines
  others-noted (Followers fs) (Some (further.Relaxed e)) None other = refl
  others-noted (Followers fs) (Some (further.Session e)) None other = refl
  others-noted (Sessions ss) (Some (further.Session e)) None other = sessions-none (sessions_act w ss e).lines
  others-noted (Sessions ss) (Some (further.Follow e)) None other = refl
  others-noted (Sessions ss) (Some (further.Relaxed e)) None other = refl
  others-noted Comparing (Some e) None other = refl
  others-noted (Imaging replica) (Some e) None other = refl

  not-own : (c : Companion) (e : RelaxedEvent) → is_relaxed c ≡ false → is_own c (further.Relaxed e) ≡ false
  not-own (Relaxed rows) e other = absurd (let clash : true ≡ false = other in cc)
  not-own Alone e other = refl
  not-own (Followers fs) e other = refl
  not-own (Sessions ss) e other = refl
  not-own Comparing e other = refl
  not-own (Imaging replica) e other = refl

  pub others-ask : (c : Companion) (asked : Option Further) (step : Option Step) → is_relaxed c ≡ false →
      IfSome asked (IsTaken w c step) → option_and_then relaxed_event asked ≡ None
  others-ask c None step other taken = refl
  others-ask c (Some (further.Relaxed e)) step other taken = absurd (let clash : false ≡ true = sym (not-own c e other) ∙ taken.0 in cc)
  others-ask c (Some (further.Session e)) step other taken = refl
  others-ask c (Some (further.Follow e)) step other taken = refl

  pub others-refuse : (c : Companion) (e : RelaxedEvent) → is_relaxed c ≡ false →
      further_refusal w c (further.Relaxed e) ≡ None
  others-refuse (Relaxed rows) e other = absurd (let clash : true ≡ false = other in cc)
  others-refuse Alone e other = refl
  others-refuse (Followers fs) e other = refl
  others-refuse (Sessions ss) e other = refl
  others-refuse Comparing e other = refl
  others-refuse (Imaging replica) e other = refl
