-- A dirty answer is read from the replica's prefix of the order, then its yellow list, then its other reds.
use Rattle.std.proofs.Common.{◌≡◌, ℕ, ◌≤◌, true, not, List, [], ◌∷◌, ◌++◌, take, length, Option, Some, None, IfSome, is_some, sym, ap, ap₂, ◌∙◌, subst}
use Rattle.std.specs.Option.{option_map_or}
use Rattle.std.proofs.lemmas.Bool.{le-leb}
use Rattle.std.proofs.lemmas.List.{map-append}
use Rattle.std.proofs.lemmas.List.Sums.{fold-append}
use Rattle.cg_base.specs.Cuts.{index_in}
use Rattle.cg_base.specs.Ids.{has_name}
use Rattle.cg_action.specs.declared.action.Action.{Action}
use Rattle.cg_action.specs.declared.query.Query.{Query}
use Rattle.cg_action.specs.declared.entry.DbEntry.{DbEntry}
use Rattle.cg_db.specs.Apply.{apply, fold_actions_from, fold_actions}
use Rattle.cg_db.specs.Find.{answer}
use Rattle.cg_queue.specs.Queue.{green_count, names_of}
use Rattle.cg_base.specs.Lists.{Each}
use Rattle.cg_base.specs.EachLaws.{Each-filter, Each-append, Each-drop, Each-front}
use Rattle.cg_group.specs.State.{is_up}
use Rattle.cg_client.specs.Install.{actions_named}
use Rattle.cg_client.specs.Queries.{plain_reds, dirty_answer, view_of}
use Rattle.cg_client.specs.Replica.{Held, Replica}
use Rattle.cg_report.specs.declared.entry.Shown.TheVariants.{Dirty as ShownDirty}
use Rattle.cg_report.specs.declared.line.UpLine.{UpLine}
use Rattle.cg_report.specs.declared.line.View.{View}
use Rattle.cg_schedule.specs.declared.event.Event.TheVariants.{Dirty}
use Rattle.cg_model.specs.World.{World, no_world, replica_of}
use Rattle.cg_model.specs.Admission.{first_refusal}
use Rattle.cg_model.specs.Show.{Moved, ended}
use Rattle.cg_model.specs.Step.{happens, world_step}
use Rattle.cg_model.specs.Run.{Step, IsRunFrom, world_after}
use Rattle.cg_model.specs.Shown.{order_of, made_names, made_actions, ordered_actions}
use Rattle.cg_model.specs.Agreement.{through, known_actions, DirtyAnswers}
use Rattle.cg_model.specs.Chronicle.{Chronicle, no_chronicle}
use Rattle.cg_model.specs.Fronts.{IsSomeWith}
use Rattle.cg_model.specs.Looks.{greens_of}
use Rattle.cg_model.specs.Noting.{chronicle_after}
use Rattle.cg_model.specs.FactsReplica.{AreBooked}
use Rattle.cg_model.specs.Played.{StandsBeside, AlwaysHolds}
use Rattle.cg_agree_lemmas.specs.BookGrows.{IsNamed}
use Rattle.cg_agree_lemmas.specs.BookedCores.{each-booked}
use Rattle.cg_agree.proofs.CreatorNumbered.{stands-of}
use Rattle.cg_agree_lemmas.specs.FrontFacts.{take-Front}
use Rattle.cg_agree_lemmas.specs.HeldAll.{yellow-named}
use Rattle.cg_agree.proofs.LinesShown.{up-shown}
use Rattle.cg_agree_lemmas.specs.MadeAlone.{takes-part, is-running}
use Rattle.cg_agree.proofs.MadeTold.{IsMadeTold, made-told}
use Rattle.cg_agree.proofs.OrderReached.{in-order, run-some}
use Rattle.cg_agree_lemmas.specs.OrderTold.{order_told}
use Rattle.cg_agree.proofs.OrderedActions.{IsShownAs, shown-as, each-shown_as, all-as, ordered-as}
use Rattle.cg_agree.proofs.RedsShown.{reds-shown}
use Rattle.cg_agree.proofs.RunPrefix.{comes}
use Rattle.cg_agree.proofs.TellsRun.{has-told}
use Rattle.cg_agree_lemmas.specs.TurnRows.{each-named}
use Rattle.cg_model.specs.RunLaws.{world-last}
use Rattle.cg_queue.specs.NameLaws.{names-count}

-- ---- the actions that a line names

module _ (steps : List Step) (c : Chronicle) (w : World) (stands : StandsBeside c w) (told : IsMadeTold steps c w) where
  -- the action is the one that was shown of its name
  abbrev Is : Action → Type 0
  Is a = IsShownAs steps c w stands told a

  shown-each : (list : List Action) → Each (IsNamed c.book) list → Each (λ (a : Action). a.id.index ≤ index_in w.made a.id.creator) list → Each (λ id. 1 ≤ id.index) (names_of list) → Each Is list
  shown-each [] booked low some = tt
  shown-each (a ∷ list) booked low some =
      let name : has_name (made_names steps) a.id ≡ true = made-told steps c w told a.id some.0 ∙ le-leb a.id.index (index_in w.made a.id.creator) low.0 in
      (shown-as steps c w stands told a booked.0 name, shown-each list booked.1 low.1 some.1)

  module _ (p : ℕ) (r : Replica) (runs : replica_of w p ≡ Some r) (low : Each (λ (a : Action). a.id.index ≤ index_in w.made a.id.creator) r.held.queue.reds) where
    abbrev h : Held
    h = r.held

    here : replica_of c.world p ≡ Some r
    here = sym (stands.same.running p) ∙ runs

    green_booked : Each (IsNamed c.book) (greens_of c p)
    green_booked = each-booked c (greens_of c p) (stands.facts.replica.made_once.in_greens p)

    reds-are : Each Is h.queue.reds
    reds-are =
        let booked = subst (λ (o : Option Replica). IfSome o (λ r. AreBooked c (r.held.queue.reds ++ r.held.own))) here (stands.facts.replica.made_once.in_memory p) in
        shown-each h.queue.reds (Each-front (IsNamed c.book) h.queue.reds h.own (each-booked c (h.queue.reds ++ h.own) booked)) low
        (run-some h.queue.green_cut (names_of h.queue.reds) (in-order c w stands p r runs).core.contiguous.reds)

    greens-are : Each Is h.queue.greens
    greens-are =
        let is = in-order c w stands p r runs in
        subst (Each Is) (sym is.core.made_of.kept) (Each-drop Is h.queue.white (greens_of c p) (each-shown_as steps c w stands told (greens_of c p) is.front green_booked))

    -- the yellow actions and then the other reds
    marked-shown : Each Is (actions_named h.queue h.queue.yellow ++ plain_reds h.queue)
    marked-shown =
        Each-append Is (actions_named h.queue h.queue.yellow) (plain_reds h.queue)
        (each-named Is h.queue h.queue.yellow (Each-append Is h.queue.greens h.queue.reds greens-are reds-are))
        (Each-filter Is (λ a. not (has_name h.queue.yellow a.id)) h.queue.reds reds-are)

    marked-made : made_actions steps (h.queue.yellow ++ names_of (plain_reds h.queue)) ≡ actions_named h.queue h.queue.yellow ++ plain_reds h.queue
    marked-made =
        let core = (in-order c w stands p r runs).core in
        let yellow : names_of (actions_named h.queue h.queue.yellow) ≡ h.queue.yellow =
        yellow-named c.start h (greens_of c p) (record { made_of = core.made_of; contiguous = core.contiguous; yellow_closed = core.yellow_closed }) in
        ap (made_actions steps)
        (ap (λ ids. ids ++ names_of (plain_reds h.queue)) (sym yellow) ∙ sym (map-append (λ (a : Action). a.id) (actions_named h.queue h.queue.yellow) (plain_reds h.queue)))
        ∙ all-as steps c w stands told (actions_named h.queue h.queue.yellow ++ plain_reds h.queue) marked-shown

    prefix-made : order_of steps ≡ w.order → ordered_actions steps (green_count h.queue) ≡ greens_of c p
    prefix-made order =
        let is = in-order c w stands p r runs in
        let count : green_count h.queue ≡ length (names_of (greens_of c p)) = is.count ∙ sym (names-count (greens_of c p)) in
        ap (made_actions steps) (ap₂ (λ n ids. take n ids) count order ∙ sym (take-Front (names_of (greens_of c p)) w.order is.front))
        ∙ ordered-as steps c w stands told (greens_of c p) is.front green_booked

    known-are : (up : UpLine) → up.view ≡ view_of h → order_of steps ≡ w.order → known_actions steps up ≡ greens_of c p ++ (actions_named h.queue h.queue.yellow ++ plain_reds h.queue)
    unfolding view_of
    known-are up view order =
        ap (λ (v : View). ordered_actions steps v.green_count ++ made_actions steps (v.yellow.list ++ v.reds)) view ∙ ap₂ (λ xs ys. xs ++ ys) (prefix-made order) marked-made

    pub dirty-is : (up : UpLine) → up.view ≡ view_of h → order_of steps ≡ w.order → (q : Query) → dirty_answer h q ≡ answer (fold_actions (known_actions steps up)) q
    dirty-is up view order q =
        let marked = actions_named h.queue h.queue.yellow ++ plain_reds h.queue in
        let run : List DbEntry → Action → List DbEntry = λ db a. (apply db a).db in
        let db : fold_actions (greens_of c p ++ marked) ≡ fold_actions_from h.db marked =
        fold-append run [] (greens_of c p) marked ∙ ap (λ x. fold_actions_from x marked) (sym (in-order c w stands p r runs).core.made_of.db) in
        ap (λ x. answer x q) (sym (ap fold_actions (known-are up view order) ∙ db))

-- ---- runs

-- the event is admitted where the replica is up, and shows what that answers
up-asked : (w : World) (p : ℕ) (q : Query) → first_refusal w (Dirty p q) ≡ None → is_up w.group p ≡ true
unfolding first_refusal
up-asked w p q admitted = (takes-part w p admitted).up

shows : (w : World) (p : ℕ) (q : Query) (r : Replica) → replica_of w p ≡ Some r →
    ((world_step w (Dirty p q)).entry.shown ≡ ShownDirty p (dirty_answer r.held q) ∷ []) × (replica_of (world_step w (Dirty p q)).world p ≡ Some r)
unfolding world_step ended happens
shows w p q r up = (ap (λ o. option_map_or (λ (r : Replica). ShownDirty p (dirty_answer r.held q) ∷ []) o []) up, up)

pub dirty-answers : AlwaysHolds → (steps : List Step) → IsRunFrom no_world steps → DirtyAnswers steps
dirty-answers always steps run earlier s p q up after event last =
    let there = comes always steps run earlier s after in
    let now = through earlier s in
    let w = world_after no_world earlier in
    let v = world_after no_world now in
    let before = there.step.before in
    let told = has-told always now there.upto in
    let admitted : first_refusal w (Dirty p q) ≡ None = ap (first_refusal w) (sym event) ∙ there.step.admitted in
    let is_there : is_some (replica_of w p) ≡ true =
    ap is_some (before.same.running p) ∙ before.facts.net.phase_sound.up p ∙ ap (λ g. is_up g p) (sym before.same.group) ∙ up-asked w p q admitted in
    let up_there = is-running w p is_there in
    let r = up_there.replica in
    let moved : (let m : Moved = record { entry = s.entry; world = s.world } in m) ≡ world_step w (Dirty p q) = there.step.moved ∙ ap (world_step w) event in
    let shown = shows w p q r up_there.is in
    let runs : replica_of v p ≡ Some r = ap (λ (x : World). replica_of x p) (world-last no_world earlier s ∙ ap (λ (m : Moved). m.world) moved) ∙ shown.1 in
    let view : up.view ≡ view_of r.held =
    subst (λ (o : Option UpLine). IsSomeWith o (λ up. up.view ≡ view_of r.held)) last (up-shown v now told.lines.shown told.lines.stand p r runs) in
    ap (λ (m : Moved). m.entry.shown) moved ∙ shown.0
    ∙ ap (λ x. ShownDirty p x ∷ [])
    (dirty-is now (chronicle_after no_chronicle no_world now) v (stands-of always now there.upto) told.made p r runs (reds-shown always now there.upto p r runs) up view (sym (order_told no_world now there.upto)) q)
