-- Actions that become known, one after another, and the name of one that becomes green.
use Rattle.std.proofs.Common.{◌≡◌, suc, List, [], ◌∷◌, ◌++◌, fold, true, false, not, ◌||◌, Some, refl, sym, ap, ◌∙◌, subst, inl, inr, eqb-true, append-nil, cond, Option, None}
use Rattle.std.specs.Prelude.{◌==◌, option_and_then}
use Rattle.std.proofs.lemmas.Bool.{and_parts, cases_Bool}
use Rattle.std.proofs.lemmas.List.{append_assoc}
use Rattle.cg_base.specs.Cuts.{index_in}
use Rattle.cg_action.specs.declared.action.Action.{Action}
use Rattle.cg_queue.specs.Queue.{QueueView, names_of, placed_red, action_of}
use Rattle.cg_client.specs.Replica.{Held, NonPrim}
use Rattle.cg_client.specs.Turn.{Turn, begin}
use Rattle.cg_client.specs.Marks.{after_first, is_first, marked, newly_known, with_green}
use Rattle.cg_client.specs.Summary.{redden, forget_own, own_to_red}
use Rattle.cg_disk_records.specs.Following.{fits_known, turn_green, green_by_name, all_of}
use Rattle.cg_disk_records.specs.Holds.{run_on, Holds}
use Rattle.cg_base.specs.IdLaws.{same_id-self}
use Rattle.cg_queue.specs.MarkLaws.{red-placed}
use Rattle.cg_disk_records.specs.RunMarkLaws.{run-head, run-rest}
use Rattle.cg_disk_records.specs.HeldLaws.{after-here}
use Rattle.std.proofs.lemmas.Option.{none-some, same_Some}
use Rattle.cg_base.specs.declared.action_id.ActionId.{ActionId}
use Rattle.cg_disk_records.specs.Stored.{Stored, recovery_turn}
use Rattle.cg_disk_records.specs.HoldsMarkLaws.{known_by, holds-known}

-- the action is the next of its creator
pub fits-next : (s : Held) (a : Action) → fits_known s a ≡ true →
    a.id.index ≡ suc (index_in s.queue.red_cut a.id.creator)
fits-next s a fits =
    eqb-true a.id.index (suc (index_in s.queue.red_cut a.id.creator))
    (and_parts (a.id.index == suc (index_in s.queue.red_cut a.id.creator)) (not (a.id.creator == s.id)
    || is_first (names_of s.own) a.id) fits).0

-- ---- the own actions become known

abbrev pub known_all : Held → List Action → Held
known_all h list = fold known_by h list

pub holds-known_all : (list : List Action) (h : Held) → Holds h → run_on h.queue.red_cut (names_of list) ≡ true →
    Holds (known_all h list)
holds-known_all [] h is run = is
holds-known_all (a ∷ list) h is run =
    holds-known_all list (known_by h a) (holds-known h is a (run-head h.queue.red_cut a.id (names_of list) run))
    (run-rest h.queue.red_cut a.id (names_of list) run)

-- what becomes of a turn whose own actions become red
pub record Reddened (t u : Turn) (h : Held) (list : List Action) : Type 0 where
  pub held : u.replica.held ≡ known_all h list
  pub known : u.known ≡ t.known ++ list
  pub green : u.green ≡ t.green
  pub made : u.made ≡ t.made

reddens : (list : List Action) (h : Held) (t : Turn) → t.replica.held ≡ record h { own = [] } → h.own ≡ list →
    run_on h.queue.red_cut (names_of list) ≡ true →
    Reddened t (fold redden t list) h list
reddens [] h t held own run = record {
  held = held ∙ ap (λ (o : List Action). record h { own = o }) (sym own);
  known = sym (append-nil t.known);
  green = refl;
  made = refl;
}
reddens (a ∷ list) h t held own run =
    let next : a.id.index ≡ suc (index_in h.queue.red_cut a.id.creator) =
    run-head h.queue.red_cut a.id (names_of list) run in
    let queue : t.replica.held.queue ≡ h.queue = ap (λ (x : Held). x.queue) held in
    let u = newly_known t a (placed_red t.replica.held.queue a) in
    let placed : redden t a ≡ u =
    ap (marked t a) (red-placed t.replica.held.queue
    a (next ∙ ap (λ (q : QueueView). suc (index_in q.red_cut a.id.creator)) (sym queue))) in
    let there : u.replica.held ≡ record (known_by h a) { own = [] } =
    ap (λ (x : Held). record x { queue = placed_red x.queue a; own = after_first x.own a.id }) held in
    let rest = reddens list (known_by h a) u there (ap (λ xs. after_first xs a.id) own
    ∙ after-here a list a.id (same_id-self a.id)) (run-rest h.queue.red_cut a.id (names_of list) run) in
    subst (λ (v : Turn). Reddened t (fold redden v list) h (a ∷ list)) (sym placed) (record {
      held = rest.held;
      known = rest.known ∙ append_assoc t.known (a ∷ []) list;
      green = rest.green;
      made = rest.made;
    })

pub own-reddened : (t : Turn) → Holds t.replica.held → Reddened t (own_to_red t) t.replica.held t.replica.held.own
unfolding own_to_red
own-reddened t is =
    let rest = reddens t.replica.held.own t.replica.held (forget_own t) refl refl is.own in
    record { held = rest.held; known = rest.known; green = rest.green; made = rest.made }

pub holds-own : (t : Turn) → Holds t.replica.held → Holds (own_to_red t).replica.held
holds-own t is =
    let red = own-reddened t is in
    subst Holds (sym red.held) (holds-known_all t.replica.held.own t.replica.held is is.own)

pub holds-recovered : (s : Stored) → Holds s → Holds (recovery_turn s).replica.held
unfolding recovery_turn
holds-recovered s is = holds-own (begin (record { held = s; state = NonPrim false })) is

-- ---- the name of an action that becomes green

pub record Greened (s : Stored) (id : ActionId) (z : Stored) : Type 0 where
  pub action : Action
  pub found : action_of s.queue id ≡ Some action
  pub next : action.id.index ≡ suc (index_in s.queue.green_cut action.id.creator)
  pub is : z ≡ with_green s action

pub greened-from : (s : Stored) (id : ActionId) (z : Stored) → green_by_name s id ≡ Some z → Greened s id z
greened-from s id z e = go (action_of s.queue id) refl e where
  go : (o : Option Action) → action_of s.queue id ≡ o → option_and_then (turn_green s) o ≡ Some z → Greened s id z
  go None found e = absurd (none-some z e)
  go (Some b) found e = elim (cases_Bool (b.id.index == suc (index_in s.queue.green_cut b.id.creator))) [
    | inl next ↦ record {
      action = b;
      found = found;
      next = eqb-true b.id.index (suc (index_in s.queue.green_cut b.id.creator)) next;
      is = sym (same_Some (with_green s b) z (let f : (cond true (Some (with_green s b)) None) ≡
          Some z = rw next at e in f));
    }
    | inr other ↦ absurd (none-some z (let f : (cond false (Some (with_green s b)) None) ≡ Some z = rw other at e in f))
  ]

pub none-all : {A : Type 0} (go : Stored → A → Option Stored) (items : List A) → all_of go None items ≡ None
none-all go [] = refl
none-all go (x ∷ items) = none-all go items
