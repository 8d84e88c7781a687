-- What stands behind the steps of a run, and what one more step shows: its replies ascend, and each is to an action that was made.
use Rattle.std.proofs.Common.{◌≡◌, zero, suc, ◌<◌, ◌≤◌, Bool, true, false, List, [], ◌∷◌, ◌++◌, map, flat_map, length, None, Contains, refl, sym, ap, subst, ◌∙◌, arith, if◌then◌else◌, append-nil}
use Rattle.std.proofs.lemmas.List.{map-append}
use Rattle.cg_base.specs.declared.action_id.ActionId.{ActionId}
use Rattle.cg_base.specs.Ids.{same_id, has_name}
use Rattle.cg_base.specs.IdLaws.{same_id-is, has_name-contained}
use Rattle.cg_base.specs.Lists.{Each}
use Rattle.cg_report.specs.declared.entry.Made.{Made}
use Rattle.cg_report.specs.declared.entry.Placed.{Placed}
use Rattle.cg_report.specs.declared.entry.Reply.{Reply}
use Rattle.cg_model.specs.World.{World, no_world}
use Rattle.cg_model.specs.Admission.{first_refusal}
use Rattle.cg_model.specs.Show.{Answered, Moved, ended}
use Rattle.cg_model.specs.Step.{happens, world_step}
use Rattle.cg_model.specs.Run.{Step, MayStand, IsRunFrom, world_after}
use Rattle.cg_model.specs.Shown.{order_of, made_names}
use Rattle.cg_model.specs.Agreement.{through}
use Rattle.cg_model.specs.EveryRun.{EveryRunAgrees, Agreement}
use Rattle.cg_model.specs.Chronicle.{Chronicle, no_chronicle}
use Rattle.cg_model.specs.Making.{AlwaysMadeInBook}
use Rattle.cg_model.specs.Noting.{chronicle_step, chronicle_after}
use Rattle.cg_model.specs.Places.{place_of}
use Rattle.cg_model.specs.Played.{StandsBeside, with_world}
use Rattle.cg_model.specs.Standing.{IsReached, AlwaysStands}
use Rattle.cg_model.specs.Telling.{EveryRunTells, Tells}
use Rattle.cg_terms.specs.Linearizable.{AllDiffer, replied_in}
use Rattle.cg_terms.specs.Terms.{AgreementGuarantees, Guarantees}
use Rattle.cg_items_agree.proofs.SessionsRising.{Ascends}
use Rattle.cg_items_agree.proofs.RepliesAt.{IsAt, replies-fine}
use Rattle.cg_items_agree.proofs.RepliesAscend.{ascends}
use Rattle.cg_base.specs.ElementLaws.{flat-append}
use Rattle.cg_model.specs.RunLaws.{front-run, world-last, world_of, chronicle_of}

-- the laws of the crates below that are cited
pub record Laws : Type 0 where
  pub agree : EveryRunAgrees
  pub guarantee : AgreementGuarantees
  pub stand : AlwaysStands
  pub tell : EveryRunTells
  pub made : AlwaysMadeInBook

-- ---- runs

-- what the run says of a step
pub record IsStepOf (w : World) (s : Step) : Type 0 where
  pub may : MayStand w s.event
  pub admitted : first_refusal w s.event ≡ None
  pub moved : (record { entry = s.entry; world = s.world } ≡ world_step w s.event)

step-last : (w : World) (xs : List Step) (s : Step) → IsRunFrom w (through xs s) → IsStepOf (world_after w xs) s
step-last w [] s run = record { may = run.0; admitted = run.1; moved = run.2 }
step-last w (x ∷ xs) s run = step-last x.world xs s run.3

reached-from : AlwaysStands → (c : Chronicle) (w : World) (steps : List Step) → IsReached c w → IsRunFrom w steps → IsReached (chronicle_after c w steps) (world_after w steps)
reached-from always c w [] is run = is
reached-from always c w (s ∷ steps) is run =
    reached-from always (chronicle_step c w s.event) s.world steps
    (subst (IsReached (chronicle_step c w s.event)) (sym (ap (λ (m : Moved). m.world) run.2)) (always.step c w s.event is run.0 run.1)) run.3

-- what stands behind the steps of a run
pub record StandsBehind (steps : List Step) : Type 0 where
  pub reached : IsReached (chronicle_of steps) (world_of steps)
  pub stands : StandsBeside (chronicle_of steps) (world_of steps)
  pub tells : Tells steps (with_world (chronicle_of steps) (world_of steps))
  pub agree : Agreement steps None
  pub guarantees : Guarantees steps

pub stands-behind : Laws → (steps : List Step) → IsRunFrom no_world steps → StandsBehind steps
stands-behind laws steps run =
    let reached = reached-from laws.stand no_chronicle no_world steps laws.stand.first run in
    let agree = laws.agree steps None run tt in
    record {
      reached = reached;
      stands = laws.stand.beside (chronicle_of steps) (world_of steps) reached;
      tells = laws.tell steps run;
      agree = agree;
      guarantees = laws.guarantee steps None agree;
    }

-- ---- lists

pub order-through : (steps : List Step) (s : Step) → order_of (through steps s) ≡ order_of steps ++ map (λ o. o.id) s.entry.orders
order-through steps s =
    ap (map (λ (o : Placed). o.id)) (flat-append (λ (s : Step). s.entry.orders) steps (s ∷ []) ∙ ap (λ xs. flat_map (λ (s : Step). s.entry.orders) steps ++ xs) (append-nil s.entry.orders))
    ∙ map-append (λ (o : Placed). o.id) (flat_map (λ (s : Step). s.entry.orders) steps) s.entry.orders

pub made-through : (steps : List Step) (s : Step) → made_names (through steps s) ≡ made_names steps ++ map (λ m. m.id) s.entry.made
made-through steps s =
    ap (map (λ (m : Made). m.id)) (flat-append (λ (s : Step). s.entry.made) steps (s ∷ []) ∙ ap (λ xs. flat_map (λ (s : Step). s.entry.made) steps ++ xs) (append-nil s.entry.made))
    ∙ map-append (λ (m : Made). m.id) (flat_map (λ (s : Step). s.entry.made) steps) s.entry.made

-- a name whose place is within so many stands among so many
pub placed-there : (order : List ActionId) (id : ActionId) → place_of order id ≤ length order → Contains order id
placed-there [] id within = absurd (omega arith)
placed-there (x ∷ order) id within = at (same_id x id) refl within (placed-there order id) where
  at : (b : Bool) → same_id x id ≡ b → (if b then 1 else suc (place_of order id)) ≤ suc (length order) → (place_of order id ≤ length order → Contains order id) → Contains (x ∷ order) id
  at true is within rest = (zero, (let n = length order in let less : 0 < suc n = omega arith in less), same_id-is x id is)
  at false is within rest = (let there = rest (omega arith) in (suc there.0, (let less = there.1 in omega arith), there.2))

differ-back : (xs ys : List ActionId) → AllDiffer (xs ++ ys) → AllDiffer ys
differ-back [] ys differ = differ
differ-back (x ∷ xs) ys differ = differ-back xs ys differ.1

-- ---- one more step

module _ (laws : Laws) (before : List Step) (s : Step) (run : IsRunFrom no_world (through before s)) where
  abbrev pub now : List Step
  now = through before s

  abbrev pub w : World
  w = world_of before

  abbrev c : Chronicle
  c = chronicle_of before

  pub step-is : IsStepOf w s
  step-is = step-last no_world before s run

  pub was : StandsBehind before
  was = stands-behind laws before (front-run no_world before (s ∷ []) run)

  pub is : StandsBehind now
  is = stands-behind laws now run

  pub order-now : s.world.order ≡ order_of now
  order-now = ap (λ (v : World). v.order) (sym (world-last no_world before s)) ∙ sym is.tells.order

  order-here : (happens w s.event).world.order ≡ order_of now
  unfolding world_step ended
  order-here = sym (ap (λ (m : Moved). m.world.order) step-is.moved) ∙ order-now

  replies-here : s.entry.replies ≡ map (λ (a : Answered). a.reply) (happens w s.event).replies
  unfolding world_step ended
  replies-here = ap (λ (m : Moved). m.entry.replies) step-is.moved

  differ : AllDiffer (happens w s.event).world.order
  differ = subst AllDiffer (sym order-here) is.guarantees.exactly_once.ordered

  replied-differ : AllDiffer (map (λ r. r.id) s.entry.replies)
  replied-differ = differ-back (flat_map replied_in before) (map (λ r. r.id) s.entry.replies)
      (subst AllDiffer (flat-append replied_in before (s ∷ []) ∙ ap (λ ids. flat_map replied_in before ++ ids) (append-nil (map (λ r. r.id) s.entry.replies))) is.guarantees.exactly_once.replied)

  -- the replies ascend by place, and have places in the order
  pub record RepliesStand : Type 0 where
    pub ascend : Ascends 0 (map (λ id. place_of s.world.order id) (map (λ r. r.id) s.entry.replies))
    pub within : Each (λ id. place_of s.world.order id ≤ length s.world.order) (map (λ r. r.id) s.entry.replies)

  pub replies-stand : RepliesStand
  replies-stand =
      let reached = laws.stand.step c w s.event was.reached step-is.may step-is.admitted in
      let behind = laws.stand.beside (chronicle_step c w s.event) (world_step w s.event).world reached in
      let fine = replies-fine c w s.event was.stands step-is.may step-is.admitted behind differ in
      let V = (happens w s.event).world.order in
      let list = (happens w s.event).replies in
      let ids : map (λ (r : Reply). r.id) s.entry.replies ≡ map (λ (r : Reply). r.id) (map (λ (a : Answered). a.reply) list) = ap (map (λ (r : Reply). r.id)) replies-here in
      let same : V ≡ s.world.order = order-here ∙ sym order-now in
      record {
        ascend = subst (λ (v : List ActionId). Ascends 0 (map (λ id. place_of v id) (map (λ (r : Reply). r.id) s.entry.replies))) same
            (subst (λ (xs : List ActionId). Ascends 0 (map (λ id. place_of V id) xs)) (sym ids)
            (ascends V differ list fine.1 fine.0 (subst AllDiffer ids replied-differ)));
        within = subst (λ (v : List ActionId). Each (λ id. place_of v id ≤ length v) (map (λ (r : Reply). r.id) s.entry.replies)) same
            (subst (Each (λ id. place_of V id ≤ length V)) (sym ids) (placed list fine.0));
      } where
        placed : (list : List Answered) → Each (IsAt (happens w s.event).world.order differ) list →
            Each (λ id. place_of (happens w s.event).world.order id ≤ length (happens w s.event).world.order) (map (λ (r : Reply). r.id) (map (λ (a : Answered). a.reply) list))
        placed [] each = tt
        placed (a ∷ list) each = ((let at = each.0.0 in let low = each.0.1 in omega arith), placed list each.1)

  -- what stands in the order was made
  pub ordered-made : (id : ActionId) → place_of s.world.order id ≤ length s.world.order → has_name (made_names now) id ≡ true
  ordered-made id within =
      let there : Contains (order_of now) id = subst (λ (v : List ActionId). Contains v id) order-now (placed-there s.world.order id within) in
      has_name-contained (made_names now) id (is.agree.creator_order.made_before before s id ([], refl) there)
