-- The facts hold behind all events: small steps keep them, and what was shown as made, what stands in the printed order, and that others
-- have nothing that wasn't shown are carried from event to event.
use Rattle.std.proofs.Common.{◌≡◌, List, [], ◌∷◌, None}
use Rattle.cg_schedule.specs.declared.event.Event.{Event}
use Rattle.cg_model.specs.FactsBooks.{MadeFits, OrderFits}
use Rattle.cg_model.specs.World.{World, no_world}
use Rattle.cg_model.specs.Admission.{first_refusal}
use Rattle.cg_model.specs.Run.{MayStand}
use Rattle.cg_model.specs.Step.{world_step}
use Rattle.cg_model.specs.Chronicle.{Chronicle, no_chronicle}
use Rattle.cg_model.specs.Smalls.{smalls_in}
use Rattle.cg_model.specs.Noting.{chronicle_step}
use Rattle.cg_model.specs.Played.{StandsBeside, AreAdmitted, HoldsFrom, AlwaysHolds}
use Rattle.cg_agree.proofs.MadeOfSmalls.{made-of-smalls}
use Rattle.cg_agree.proofs.MovesKept.{kept-by-smalls}
use Rattle.cg_agree_lemmas.specs.NothingStands.{nothing-stands}
use Rattle.cg_agree.proofs.RestsKept.{rests-kept}
use Rattle.cg_agree.proofs.MadeBookKept.{made_book-of, nothing-made, event-made}
use Rattle.cg_agree_lemmas.specs.TurnGreens.{facts-along}
use Rattle.cg_agree.proofs.OrdersKept.{orders-kept}

-- the facts of a world and of the chronicle beside it, and what they need besides to stand behind the next event
pub record IsCarried (c : Chronicle) (w : World) : Type 0 where
  pub beside : StandsBeside c w
  pub made : MadeFits w
  pub order : OrderFits c w

pub stands-first : IsCarried no_chronicle no_world
stands-first = record { beside = nothing-stands; made = nothing-made; order = record { book = nothing-stands.rests.order_book; down = λ p. tt; others = λ p down. absurd down } }

-- Each event that may stand and is admitted keeps all of it.
pub stands-step : (c : Chronicle) (w : World) (e : Event) → StandsBeside c w → MadeFits w → OrderFits c w → MayStand w e → first_refusal w e ≡ None →
    IsCarried (chronicle_step c w e) (world_step w e).world
stands-step c w e stands fits order may admitted =
    let made = made-of-smalls c w e stands may admitted in
    let facts = facts-along kept-by-smalls (smalls_in w e) c stands.facts made.0 in
    let fits_on = event-made c w stands fits e may admitted in
    let order_on = orders-kept c w e stands fits order may admitted facts in
    record {
      beside = record {
        facts = facts;
        same = made.1;
        rests = record {
          replica = rests-kept c w stands e may admitted facts;
          order_book = order_on.book;
          made_book = made_book-of (chronicle_step c w e) (world_step w e).world fits_on;
        };
      };
      made = fits_on;
      order = order_on;
    }

-- Behind all events that may stand and are admitted the facts hold.
pub always-holds : AlwaysHolds
always-holds events admitted = from no_chronicle no_world events stands-first admitted where
  from : (c : Chronicle) (w : World) (events : List Event) → IsCarried c w → AreAdmitted w events → HoldsFrom c w events
  from c w [] is admitted = is.beside
  from c w (e ∷ events) is admitted =
      (is.beside, from (chronicle_step c w e) (world_step w e).world events (stands-step c w e is.beside is.made is.order admitted.0 admitted.1) admitted.2)
