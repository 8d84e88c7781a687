-- Of each creator a step shows as made the next ones behind those that were shown before, each as it was made.
use Rattle.std.proofs.Common.{◌≡◌, ℕ, suc, ◌+◌, max, true, List, [], ◌∷◌, ◌++◌, map, length, Option, Some, None, IfSome, Contains, refl, sym, ap, ◌∙◌, subst, inl, inr, arith, eq-eqb, option_map, option_and_then}
use Rattle.std.specs.Prelude.{◌==◌}
use Rattle.std.specs.Option.{option_map_or}
use Rattle.std.proofs.lemmas.Bool.{cases_eq, cond-true, cond-false, ne_eqb}
use Rattle.std.proofs.lemmas.List.Elements.{Contains-append_left}
use Rattle.cg_base.specs.Lists.{Each}
use Rattle.cg_group.specs.State.{phase_of}
use Rattle.cg_base.specs.declared.action_id.ActionId.{ActionId}
use Rattle.cg_base.specs.Cuts.{index_in, raise}
use Rattle.cg_base.specs.IdLaws.{same_name}
use Rattle.cg_action.specs.declared.action.Action.{Action}
use Rattle.cg_queue.specs.Queue.{green_count, names_of}
use Rattle.cg_report.specs.declared.entry.Made.{Made}
use Rattle.cg_report.specs.declared.line.UpLine.{UpLine}
use Rattle.cg_client.specs.Replica.{Replica}
use Rattle.cg_client.specs.Queries.{view_of}
use Rattle.cg_schedule.specs.declared.event.Event.{Event}
use Rattle.cg_model.specs.World.{Node, World, no_world, running, node_of, replica_of}
use Rattle.cg_model.specs.Show.{line_of, up_line}
use Rattle.cg_model.specs.Step.{world_step}
use Rattle.cg_model.specs.Run.{Step}
use Rattle.cg_model.specs.Agreement.{through}
use Rattle.cg_model.specs.Chronicle.{Chronicle, no_chronicle}
use Rattle.cg_model.specs.FactsReplica.{AreBooked}
use Rattle.cg_model.specs.Noting.{chronicle_step}
use Rattle.cg_model.specs.Played.{StandsBeside, HoldsFrom}
use Rattle.cg_model.specs.Standing.{LeadTo, IsReached}
use Rattle.cg_model.specs.Telling.{printed}
use Rattle.cg_model.specs.Making.{made_of_action, position_on, printed_position, made_as, newly_made, made_by, AreNextOf, AlwaysMadeInBook}
use Rattle.cg_agree.proofs.AlwaysMade.{always-holds}
use Rattle.cg_agree_lemmas.specs.BookedCores.{each-booked}
use Rattle.cg_agree_lemmas.specs.BookGrows.{IsNamed}
use Rattle.cg_agree_lemmas.specs.BookStays.{event-book}
use Rattle.cg_disk_records.specs.Holds.{run_on, cut_behind, Rising}
use Rattle.cg_agree.proofs.EventsLead.{are-admitted, always-stands}
use Rattle.cg_agree.proofs.LinesShown.{ArePrinted, each-find, lines-on}
use Rattle.cg_agree_lemmas.specs.MadeShown.{IsThere, Adds, names_in}
use Rattle.cg_agree.proofs.MadeTold.{found-in, step-adds}
use Rattle.cg_agree.proofs.PrimaryOne.{holds-here}
use Rattle.cg_agree.proofs.RunForward.{IsStepOf}
use Rattle.cg_agree_lemmas.specs.NodeFacts.{node-id}
use Rattle.cg_agree.proofs.TellsRun.{HasTold, told-on, nothing-told}
use Rattle.cg_disk_records.specs.CutRaiseLaws.{rising-raise, index-same, index-other}
use Rattle.cg_disk_records.specs.RunMarkLaws.{run-head, run-rest}
use Rattle.cg_base.specs.ElementLaws.{each-contains}

-- ---- names that run on, of each creator

module _ (p : ℕ) where
  mine-first : (a : Action) (list : List Action) → a.id.creator ≡ p → made_by p (a ∷ list) ≡ a ∷ made_by p list
  mine-first a list mine = cond-true (a.id.creator == p) (a ∷ made_by p list) (made_by p list) (eq-eqb a.id.creator p mine)

  other-first : (a : Action) (list : List Action) → (a.id.creator ≡ p → ⊥) → made_by p (a ∷ list) ≡ made_by p list
  other-first a list other = cond-false (a.id.creator == p) (a ∷ made_by p list) (made_by p list) (ne_eqb a.id.creator p other)

  -- the cut behind its next action
  raised-next : (cut : List ActionId) (a : Action) (list : List Action) → Rising 0 cut → run_on cut (names_of (a ∷ list)) ≡ true → a.id.creator ≡ p →
      (a.id.index ≡ suc (index_in cut p)) × (index_in (raise cut a.id) p ≡ suc (index_in cut p))
  raised-next cut a list rising run mine =
      let next : a.id.index ≡ suc (index_in cut a.id.creator) = run-head cut a.id (names_of list) run in
      let at : index_in cut a.id.creator ≡ index_in cut p = ap (index_in cut) mine in
      let raised : index_in (raise cut a.id) p ≡ max (index_in cut p) a.id.index = index-same cut a.id rising p mine in
      (omega arith, omega arith)

  next-run : (list : List Action) (cut : List ActionId) → Rising 0 cut → run_on cut (names_of list) ≡ true → AreNextOf p (index_in cut p) (made_by p list)
  next-run [] cut rising run = tt
  next-run (a ∷ list) cut rising run =
      let rest = next-run list (raise cut a.id) (rising-raise cut a.id rising) (run-rest cut a.id (names_of list) run) in
      elim (cases_eq a.id.creator p) [
        | inl mine ↦
            let next = raised-next cut a list rising run mine in
            subst (AreNextOf p (index_in cut p)) (sym (mine-first a list mine)) (
              same_name a.id (record { creator = p; index = suc (index_in cut p) }) mine next.0,
              subst (λ n. AreNextOf p n (made_by p list)) next.1 rest,
            )
        | inr other ↦ subst (AreNextOf p (index_in cut p)) (sym (other-first a list other)) (subst (λ n. AreNextOf p n (made_by p list)) (index-other cut a.id rising p other) rest)
      ]

  count-run : (list : List Action) (cut : List ActionId) → Rising 0 cut → run_on cut (names_of list) ≡ true → index_in (cut_behind cut (names_of list)) p ≡ index_in cut p + length (made_by p list)
  count-run [] cut rising run = omega arith
  count-run (a ∷ list) cut rising run =
      let rest : index_in (cut_behind (raise cut a.id) (names_of list)) p ≡ index_in (raise cut a.id) p + length (made_by p list) =
      count-run list (raise cut a.id) (rising-raise cut a.id rising) (run-rest cut a.id (names_of list) run) in
      elim (cases_eq a.id.creator p) [
        | inl mine ↦
            let next = raised-next cut a list rising run mine in
            let raised : index_in (raise cut a.id) p ≡ suc (index_in cut p) = next.1 in
            rest ∙ (let more : index_in (raise cut a.id) p + length (made_by p list) ≡ index_in cut p + suc (length (made_by p list)) = omega arith in more)
            ∙ sym (ap (λ (xs : List Action). index_in cut p + length xs) (mine-first a list mine))
        | inr other ↦
            let same : index_in (raise cut a.id) p ≡ index_in cut p = index-other cut a.id rising p other in
            rest ∙ ap (λ n. n + length (made_by p list)) same ∙ sym (ap (λ (xs : List Action). index_in cut p + length xs) (other-first a list other))
      ]

as-names : (w : World) (list : List Made) → names_of (map (made_as w) list) ≡ names_in list
as-names w [] = refl
as-names w (m ∷ list) = ap (λ ids. m.id ∷ ids) (as-names w list)

-- ---- each as it was made

-- the line of a replica that is up has its greens
position-printed : (w : World) → ArePrinted w → (p : ℕ) (r : Replica) → replica_of w p ≡ Some r → printed_position w p ≡ green_count r.held.queue
unfolding view_of
position-printed w stand p r runs = at (node_of w p) refl runs where
  at : (o : Option Node) → node_of w p ≡ o → option_and_then (λ s. running s.life) o ≡ Some r → printed_position w p ≡ green_count r.held.queue
  at None found is = absurd (let clash : None ≡ Some r = is in cc)
  at (Some s) found is =
      let id : s.id ≡ p = node-id w p s found in
      let line : printed w p ≡ Some (line_of w.group s) =
      subst (λ n. printed w n ≡ Some (line_of w.group s)) id (each-find (λ s. printed w s.id ≡ Some (line_of w.group s)) (λ s. s.id == p) w.nodes s stand found) in
      ap (λ o. option_map_or position_on o 0) line ∙ ap (λ (o : Option Replica). option_map_or (λ (up : UpLine). up.view.green_count) (option_map (up_line (phase_of w.group s.id)) o) 0) is

module _ (d : Chronicle) (w : World) (stands : StandsBeside d w) (stand : ArePrinted w) where
  booked-as : (m : Made) → IsThere w.nodes m → Contains d.book (made_as w m)
  booked-as m there =
      let p = m.id.creator in
      let r = there.replica in
      let e : m ≡ made_of_action there.action = sym there.is in
      let line : printed_position w p ≡ there.action.green_line = position-printed w stand p r there.runs ∙ sym there.line in
      let same : made_as w m ≡ there.action = (λ i. record { id = (e i).id; green_line = line i; kind = (e i).kind }) in
      let here : replica_of d.world p ≡ Some r = sym (stands.same.running p) ∙ there.runs in
      let booked = subst (λ (o : Option Replica). IfSome o (λ r. AreBooked d (r.held.queue.reds ++ r.held.own))) here (stands.facts.replica.made_once.in_memory p) in
      let named : IsNamed d.book there.action =
      each-contains (IsNamed d.book) (r.held.queue.reds ++ r.held.own) there.action (each-booked d (r.held.queue.reds ++ r.held.own) booked) there.among in
      subst (Contains d.book) (sym same) (found-in d.book there.action.id there.action named)

  all-booked : (list : List Made) → Each (IsThere w.nodes) list → Each (Contains d.book) (map (made_as w) list)
  all-booked [] there = tt
  all-booked (m ∷ list) there = (booked-as m there.0, all-booked list there.1)

-- ---- worlds that events lead to

-- the step of an event
step-at : World → Event → Step
step-at w e = record { event = e; entry = (world_step w e).entry; world = (world_step w e).world }

-- some steps have told of what events lead to
record HaveTold (c : Chronicle) (w : World) : Type 0 where
  steps : List Step
  told : HasTold steps c w

told-along : (earlier : List Step) (c : Chronicle) (w : World) (events : List Event) (d : Chronicle) (v : World) → LeadTo c w events d v → HoldsFrom c w events → HasTold earlier c w → HaveTold d v
unfolding step-at
told-along earlier c w [] d v lead holds told = record { steps = earlier; told = subst (HasTold earlier d) lead.1 (subst (λ (x : Chronicle). HasTold earlier x w) lead.0 told) }
told-along earlier c w (e ∷ events) d v lead holds told =
    let s = step-at w e in
    let c2 = chronicle_step c w e in
    let step : IsStepOf c w s = record { may = lead.0; admitted = lead.1; moved = refl; before = holds.0; behind = holds-here c2 (world_step w e).world events holds.1 } in
    told-along (through earlier s) c2 (world_step w e).world events d v lead.2 holds.1 (told-on earlier c w s step told)

have-told : (c : Chronicle) (w : World) → IsReached c w → HaveTold c w
have-told c w is =
    told-along [] no_chronicle no_world is.events c w is.lead (always-holds is.events (are-admitted no_chronicle no_world is.events c w is.lead)) nothing-told

-- ---- a step

pub always-made : AlwaysMadeInBook
unfolding step-at
always-made c w e reached may admitted =
    let have = have-told c w reached in
    let told = have.told in
    let s = step-at w e in
    let d = chronicle_step c w e in
    let v = (world_step w e).world in
    let behind = always-stands.beside d v (always-stands.step c w e reached may admitted) in
    let step : IsStepOf c w s = record { may = may; admitted = admitted; moved = refl; before = always-stands.beside c w reached; behind = behind } in
    let there = step-adds c w s step told.made.fits told.made.last in
    let adds : Adds w there.0 s.entry.made v = there.1 in
    let lines = lines-on have.steps c w s step told.lines in
    let list = newly_made (world_step w e) in
    let names : names_of list ≡ names_in s.entry.made = as-names v s.entry.made in
    let rising = told.made.fits.rising in
    let run : run_on w.made (names_of list) ≡ true = ap (run_on w.made) names ∙ adds.run in
    let cut : v.made ≡ cut_behind w.made (names_of list) = adds.cut ∙ sym (ap (cut_behind w.made) names) in
    let book = event-book c w e in
    record {
      next = λ p. next-run p list w.made rising run;
      count = λ p. ap (λ (cut : List ActionId). index_in cut p) cut ∙ count-run p list w.made rising run;
      booked = all-booked d v behind lines.stand s.entry.made adds.there;
      stays = λ a there. subst (λ (book : List Action). Contains book a) (sym book.all) (Contains-append_left c.book book.more a there);
    }
