-- A database that a step of a run shows, and a weak answer, are those of their replica's prefix of the order.
use Rattle.std.proofs.Common.{◌≡◌, ℕ, true, is_some, List, [], ◌∷◌, Option, Some, None, IfSome, Contains, refl, sym, ap, ◌∙◌, subst}
use Rattle.std.specs.Option.{option_map_or}
use Rattle.cg_action.specs.declared.query.Query.{Query}
use Rattle.cg_action.specs.declared.entry.DbEntry.{DbEntry}
use Rattle.cg_db.specs.Apply.{fold_actions}
use Rattle.cg_db.specs.Find.{answer}
use Rattle.cg_group.specs.State.{is_up}
use Rattle.cg_client.specs.Replica.{Replica}
use Rattle.cg_report.specs.declared.entry.Shown.TheVariants.{Weak as ShownWeak, Database}
use Rattle.cg_schedule.specs.declared.event.Event.TheVariants.{Weak, Show}
use Rattle.cg_model.specs.World.{World, no_world, replica_of}
use Rattle.cg_model.specs.Admission.{first_refusal}
use Rattle.cg_model.specs.Show.{Moved, ended}
use Rattle.cg_model.specs.Step.{happens, world_step}
use Rattle.cg_model.specs.Run.{Step, IsRunFrom}
use Rattle.cg_model.specs.Shown.{ordered_actions, position_of}
use Rattle.cg_model.specs.FactsReplica.{IsModeData}
use Rattle.cg_model.specs.Agreement.{ComesAfter, through}
use Rattle.cg_model.specs.Played.{AlwaysHolds}
use Rattle.cg_agree_lemmas.specs.MadeAlone.{takes-part, is-running}
use Rattle.cg_agree_lemmas.specs.HappensShown.{shown_by, step-shows, OfShown, each-shown}
use Rattle.cg_agree.proofs.RunSteps.{IsStepAt, step-of, StandsFor, stands-for}
use Rattle.cg_agree.proofs.FoldHeld.{own-fold}
use Rattle.cg_base.specs.ElementLaws.{each-contains}
use Rattle.cg_model.specs.RunLaws.{world_of, chronicle_of}

-- a replica that shows itself stays as it is
shows-still : (w : World) (p q : ℕ) → replica_of (world_step w (Show p)).world q ≡ replica_of w q
unfolding world_step ended happens
shows-still w p q = refl

-- ---- a weak answer

weak-still : (w : World) (p : ℕ) (q : Query) (x : ℕ) → replica_of (world_step w (Weak p q)).world x ≡ replica_of w x
unfolding world_step ended happens
weak-still w p q x = refl

weak-admitted : (w : World) (p : ℕ) (q : Query) → first_refusal w (Weak p q) ≡ None → is_up w.group p ≡ true
unfolding first_refusal
weak-admitted w p q admitted = (takes-part w p admitted).up

-- ---- the fields

module _ (always : AlwaysHolds) (steps : List Step) (run : IsRunFrom no_world steps) (earlier : List Step) (s : Step) (after : ComesAfter steps earlier s) where
  abbrev is : IsStepAt earlier s
  is = step-of always steps run earlier s after

  abbrev now : List Step
  now = through earlier s

  abbrev behind : StandsFor now
  behind = stands-for always now is.behind

  abbrev before : StandsFor earlier
  before = stands-for always earlier is.before

  -- what a replica that is up answers
  prefix-fold : (p : ℕ) (r : Replica) → replica_of (world_of now) p ≡ Some r → r.held.db ≡ fold_actions (ordered_actions now (position_of p now))
  prefix-fold p r runs = own-fold now behind p r runs ∙ ap (λ n. fold_actions (ordered_actions now n)) (sym (behind.tells.position p r runs))

  named : (p : ℕ) (r : Replica) → replica_of (world_of now) p ≡ Some r → r.held.id ≡ p
  named p r runs =
      let here : replica_of (chronicle_of now).world p ≡ Some r = sym (behind.stands.same.running p) ∙ runs in
      (subst (λ (o : Option Replica). IfSome o (IsModeData (chronicle_of now) p)) here (behind.stands.facts.replica.mode_data p)).id

  -- A database that is shown.
  pub fold-database : (p : ℕ) (entries : List DbEntry) → Contains s.entry.shown (Database p entries) → entries ≡ fold_actions (ordered_actions now (position_of p now))
  fold-database p entries there =
      let w = world_of earlier in
      let list : s.entry.shown ≡ shown_by w s.event = ap (λ (m : Moved). m.entry.shown) is.moved ∙ step-shows w s.event in
      let found = each-contains (OfShown w s.event) (shown_by w s.event) (Database p entries) (each-shown w s.event) (subst (λ xs. Contains xs (Database p entries)) list there) in
      let r = found.0 in
      let shown = found.1 in
      let still : replica_of (world_of now) shown.asked ≡ Some r =
      ap (λ (v : World). replica_of v shown.asked) (is.world ∙ ap (λ (m : Moved). m.world) is.moved ∙ ap (λ e. (world_step w e).world) shown.event) ∙ shows-still w shown.asked shown.asked ∙ shown.runs in
      let same : p ≡ shown.asked = shown.named ∙ named shown.asked r still in
      found.2 ∙ prefix-fold shown.asked r still ∙ ap (λ n. fold_actions (ordered_actions now (position_of n now))) (sym same)

  -- A weak answer.
  pub fold-weak : (p : ℕ) (q : Query) → s.event ≡ Weak p q → s.entry.shown ≡ ShownWeak p (answer (fold_actions (ordered_actions now (position_of p now))) q) ∷ []
  fold-weak p q event =
      let w = world_of earlier in
      let up = weak-admitted w p q (ap (first_refusal w) (sym event) ∙ is.admitted) in
      let there : is_some (replica_of w p) ≡ true = ap is_some (before.stands.same.running p) ∙ before.stands.facts.net.phase_sound.up p ∙ ap (λ g. is_up g p) (sym before.stands.same.group) ∙ up in
      let here = is-running w p there in
      let moved = is.moved ∙ ap (world_step w) event in
      let still : replica_of (world_of now) p ≡ Some here.replica = ap (λ (v : World). replica_of v p) (is.world ∙ ap (λ (m : Moved). m.world) moved) ∙ weak-still w p q p ∙ here.is in
      ap (λ (m : Moved). m.entry.shown) moved ∙ step-shows w (Weak p q) ∙ ap (λ (o : Option Replica). option_map_or (λ r. ShownWeak p (answer r.held.db q) ∷ []) o []) here.is ∙ ap (λ db. ShownWeak p (answer db q) ∷ []) (prefix-fold p here.replica still)
