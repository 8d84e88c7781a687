-- The actions that a run shows as made are those up to the world's cut, each as it was made.
use Rattle.std.proofs.Common.{◌≡◌, ℕ, zero, suc, ◌<◌, ◌≤◌, true, ◌&&◌, List, [], ◌∷◌, ◌++◌, map, flat_map, length, Option, Some, None, IfSome, Contains, sym, ap, ap₂, ◌∙◌, subst, inl, inr, arith}
use Rattle.std.specs.Prelude.{nat_le}
use Rattle.std.specs.Option.{option_map_or}
use Rattle.std.proofs.lemmas.Bool.{cases_Bool, cond-true, cond-false, lt-ltb, and_from}
use Rattle.std.proofs.lemmas.List.{append-nil, append_assoc, map-append}
use Rattle.std.proofs.lemmas.List.Elements.{Contains-append_left, Contains-append_right}
use Rattle.cg_base.specs.Lists.{Each}
use Rattle.cg_base.specs.EachLaws.{Each-append, Each-weaker}
use Rattle.cg_base.specs.declared.action_id.ActionId.{ActionId}
use Rattle.cg_base.specs.Cuts.{index_in}
use Rattle.cg_base.specs.Ids.{has_name, same_id}
use Rattle.cg_action.specs.declared.action.Action.{Action}
use Rattle.cg_queue.specs.Queue.{green_count}
use Rattle.cg_report.specs.declared.entry.Made.{Made}
use Rattle.cg_client.specs.Replica.{Replica}
use Rattle.cg_model.specs.FactsBooks.{MadeFits}
use Rattle.cg_model.specs.World.{World, replica_of}
use Rattle.cg_model.specs.Show.{Moved}
use Rattle.cg_model.specs.Run.{Step}
use Rattle.cg_model.specs.Shown.{made_names, made_at, position_of}
use Rattle.cg_model.specs.Telling.{made_of}
use Rattle.cg_model.specs.Agreement.{through}
use Rattle.cg_model.specs.Chronicle.{Chronicle}
use Rattle.cg_model.specs.Noting.{chronicle_step}
use Rattle.cg_model.specs.Played.{StandsBeside}
use Rattle.cg_model.specs.FactsReplica.{AreBooked}
use Rattle.cg_model.specs.Making.{made_of_action}
use Rattle.cg_disk_records.specs.Holds.{run_on, cut_behind}
use Rattle.cg_disk_records.specs.RunLaws.{cut_behind-append, run_on-append}
use Rattle.cg_agree_lemmas.specs.BookGrows.{IsNamed, named_in}
use Rattle.cg_agree_lemmas.specs.BookedCores.{each-booked}
use Rattle.cg_agree_lemmas.specs.BookStays.{event-book}
use Rattle.cg_agree.proofs.MadeBookKept.{event-made}
use Rattle.cg_agree_lemmas.specs.MadeShown.{IsThere, AreLast, Adds, names_in}
use Rattle.cg_agree.proofs.MadeEvents.{AddsSome, event-adds}
use Rattle.cg_agree.proofs.RunForward.{IsStepOf}
use Rattle.cg_disk_records.specs.RunMarkLaws.{run-names}
use Rattle.cg_base.specs.ElementLaws.{each-contains}
use Rattle.cg_model.specs.MadeLaws.{made-last}

-- what was shown as made so far, against the world and the book
pub record IsMadeTold (earlier : List Step) (c : Chronicle) (w : World) : Type 0 where
  pub fits : MadeFits w
  pub last : AreLast w.made w.nodes
  pub run : run_on [] (made_names earlier) ≡ true
  pub cut : w.made ≡ cut_behind [] (made_names earlier)
  pub booked : Each (Contains c.book) (made_of earlier)

-- ---- lists of steps

flat-last : (earlier : List Step) (s : Step) → flat_map (λ s. s.entry.made) (through earlier s) ≡ flat_map (λ s. s.entry.made) earlier ++ s.entry.made
flat-last [] s = append-nil s.entry.made
flat-last (x ∷ earlier) s = ap (λ list. x.entry.made ++ list) (flat-last earlier s) ∙ sym (append_assoc x.entry.made (flat_map (λ s. s.entry.made) earlier) s.entry.made)

pub names-last : (earlier : List Step) (s : Step) → made_names (through earlier s) ≡ made_names earlier ++ names_in s.entry.made
names-last earlier s = ap (map (λ (m : Made). m.id)) (flat-last earlier s) ∙ map-append (λ (m : Made). m.id) (flat_map (λ s. s.entry.made) earlier) s.entry.made

-- ---- each as it was made

pub found-in : (xs : List Action) (id : ActionId) (a : Action) → named_in xs id ≡ Some a → Contains xs a
found-in [] id a e = absurd (let clash : None ≡ Some a = e in cc)
found-in (x ∷ xs) id a e = elim (cases_Bool (same_id x.id id)) [
  | inl here ↦
      let is : Some x ≡ Some a = sym (cond-true (same_id x.id id) (Some x) (named_in xs id) here) ∙ e in
      (zero, (let less : 0 < suc (length xs) = omega arith in less), ap (λ o. option_map_or (λ y. y) o x) is)
  | inr other ↦ Contains-append_right (x ∷ []) xs a (found-in xs id a (sym (cond-false (same_id x.id id) (Some x) (named_in xs id) other) ∙ e))
]

-- how far replicas that are up have come, as their lines show it
abbrev pub ArePlaced : List Step → World → Type 0
ArePlaced steps w = (p : ℕ) (r : Replica) → replica_of w p ≡ Some r → position_of p steps ≡ green_count r.held.queue

module _ (d : Chronicle) (w : World) (steps : List Step) (stands : StandsBeside d w) (placed : ArePlaced steps w) where
  booked-at : (m : Made) → IsThere w.nodes m → Contains d.book (made_at steps m)
  booked-at m there =
      let p = m.id.creator in
      let r = there.replica in
      let e : m ≡ made_of_action there.action = sym there.is in
      let line : position_of p steps ≡ there.action.green_line = placed p r there.runs ∙ sym there.line in
      let same : made_at steps m ≡ there.action = (λ i. record { id = (e i).id; green_line = line i; kind = (e i).kind }) in
      let here : replica_of d.world p ≡ Some r = sym (stands.same.running p) ∙ there.runs in
      let booked = subst (λ (o : Option Replica). IfSome o (λ r. AreBooked d (r.held.queue.reds ++ r.held.own))) here (stands.facts.replica.made_once.in_memory p) in
      let named : IsNamed d.book there.action =
      each-contains (IsNamed d.book) (r.held.queue.reds ++ r.held.own) there.action (each-booked d (r.held.queue.reds ++ r.held.own) booked) there.among in
      subst (Contains d.book) (sym same) (found-in d.book there.action.id there.action named)

  all-booked : (list : List Made) → Each (IsThere w.nodes) list → Each (Contains d.book) (map (made_at steps) list)
  all-booked [] there = tt
  all-booked (m ∷ list) there = (booked-at m there.0, all-booked list there.1)

-- ---- a step

pub step-adds : (c : Chronicle) (w : World) (s : Step) → IsStepOf c w s → MadeFits w → AreLast w.made w.nodes → AddsSome w s.entry.made s.world
step-adds c w s step fits last = subst (λ (m : Moved). AddsSome w m.entry.made m.world) (sym step.moved) (event-adds c w step.before fits last s.event step.may)

pub made-on : (earlier : List Step) (c : Chronicle) (w : World) (s : Step) → IsStepOf c w s → ArePlaced (through earlier s) s.world → IsMadeTold earlier c w → IsMadeTold (through earlier s) (chronicle_step c w s.event) s.world
made-on earlier c w s step placed told =
    let d = chronicle_step c w s.event in
    let there = step-adds c w s step told.fits told.last in
    let adds : Adds w there.0 s.entry.made s.world = there.1 in
    let names = names-last earlier s in
    let news = names_in s.entry.made in
    let book = event-book c w s.event in
    record {
      fits = subst (λ (m : Moved). MadeFits m.world) (sym step.moved) (event-made c w step.before told.fits s.event step.may step.admitted);
      last = adds.last;
      run = ap (run_on []) names ∙ run_on-append [] (made_names earlier) news
          ∙ and_from (run_on [] (made_names earlier)) (run_on (cut_behind [] (made_names earlier)) news) told.run (ap (λ cut. run_on cut news) (sym told.cut) ∙ adds.run);
      cut = adds.cut ∙ ap (λ cut. cut_behind cut news) told.cut ∙ sym (ap (cut_behind []) names ∙ cut_behind-append [] (made_names earlier) news);
      booked = subst (Each (Contains d.book)) (sym (made-last [] earlier s))
          (Each-append (Contains d.book) (made_of earlier) (map (made_at (through earlier s)) s.entry.made)
          (Each-weaker (Contains c.book) (Contains d.book) (λ a there. subst (λ (book : List Action). Contains book a) (sym book.all) (Contains-append_left c.book book.more a there)) (made_of earlier) told.booked)
          (all-booked d s.world (through earlier s) step.behind placed s.entry.made adds.there));
    }

-- ---- what it says

pub made-told : (earlier : List Step) (c : Chronicle) (w : World) → IsMadeTold earlier c w → (id : ActionId) → 1 ≤ id.index → has_name (made_names earlier) id ≡ nat_le id.index (index_in w.made id.creator)
made-told earlier c w told id some =
    run-names [] (made_names earlier) id tt told.run
    ∙ ap₂ (λ a b. a && b) (lt-ltb 0 id.index (omega arith)) (ap (λ cut. nat_le id.index (index_in cut id.creator)) (sym told.cut))

pub as-made : (earlier : List Step) (c : Chronicle) (w : World) → IsMadeTold earlier c w → (a : Action) → Contains (made_of earlier) a → Contains c.book a
as-made earlier c w told a there = each-contains (Contains c.book) (made_of earlier) a told.booked there
