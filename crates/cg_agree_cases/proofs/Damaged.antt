-- The tests can fail: a chronicle in which one thing was changed by hand fails the test of the fact that speaks of it.
use Rattle.std.specs.Prelude.{◌≡◌, refl, ℕ, ◌==◌, Bool, false, ◌||◌, List, [], ◌∷◌, None, codes, pos, map, reverse, if◌then◌else◌}
use Rattle.cg_action.specs.declared.command.Cmd.TheVariants.{Put}
use Rattle.cg_action.specs.declared.value.Value.TheVariants.{Int}
use Rattle.cg_schedule.specs.declared.event.Event.{Event}
use Rattle.cg_schedule.specs.declared.event.Event.TheVariants.{Start, Merge, Request, Rounds}
use Rattle.cg_wire.specs.declared.message.Msg.{Msg}
use Rattle.cg_group.specs.State.{Configuration}
use Rattle.cg_model.specs.Chronicle.{Past, Told, Attempt, Chronicle}
use Rattle.cg_agree_cases.specs.TestsNet.{receipts_inside}
use Rattle.cg_agree_cases.specs.TestsTalk.{sent_iff_due}
use Rattle.cg_agree_cases.specs.TestsReplica.{made_of_greens, made_once, origins, disk_behind}
use Rattle.cg_agree_cases.specs.TestsExchange.{summary_of_sender}
use Rattle.cg_agree_cases.specs.TestsAttempts.{attempt_shape, levels_stand}
use Rattle.cg_agree_cases.specs.TestsGreens.{one_order, primary_greens}
use Rattle.cg_agree_cases.specs.TestsBooks.{order_book}
use Rattle.cg_agree_cases.specs.Audit.{tried}
use Rattle.cg_agree_cases.specs.Computing.{cases_compute}
use Rattle.cg_base.specs.Weights.{each_once}

-- a primary component of three replicas, with two green actions
abbrev two_greens : List Event
two_greens =
    Start (each_once (1 ∷ 2 ∷ 3 ∷ []))
    ∷ Merge (1 ∷ 2 ∷ 3 ∷ [])
    ∷ Rounds 2
    ∷ Request 1 (Put (codes "x") (Int (pos 1)) ∷ []) None
    ∷ Request 2 (Put (codes "y") (Int (pos 2)) ∷ []) None
    ∷ Rounds 1
    ∷ []

-- replica 2 has its greens in another order
abbrev turned_round : Chronicle → Chronicle
turned_round c = record c { pasts = map (λ (x : Past). if x.id == 2 then record x { greens = reverse x.greens } else x) c.pasts }

-- nobody has installed an attempt; an attempt has another set; nothing was told; all is green as it was told; no action was made;
-- nobody has received anything; and another order was printed
abbrev uninstalled : Chronicle → Chronicle
uninstalled c = record c { attempts = map (λ (a : Attempt). record a { installed = [] }) c.attempts }

abbrev narrowed : Chronicle → Chronicle
narrowed c = record c { attempts = map (λ (a : Attempt). record a { set = 1 ∷ 2 ∷ [] }) c.attempts }

abbrev untold : Chronicle → Chronicle
untold c = record c { told = [] }

abbrev overcounted : Chronicle → Chronicle
overcounted c = record c { told = map (λ (t : Told). record t { greens = c.book }) c.told }

abbrev unbooked : Chronicle → Chronicle
unbooked c = record c { book = [] }

abbrev emptied : Configuration Msg → Configuration Msg
emptied k = record k { received = map (λ (set : List ℕ). []) k.received }

abbrev unreceived : Chronicle → Chronicle
unreceived c =
    let w = c.world in let g = w.group in
    record c { world = record w { group = record g { configurations = map emptied g.configurations } } }

-- a fourth server was there from the start
abbrev widened : Chronicle → Chronicle
widened c = record c { start = each_once (1 ∷ 2 ∷ 3 ∷ 4 ∷ []) }

abbrev printed_otherwise : Chronicle → Chronicle
printed_otherwise c = let w = c.world in record c { world = record w { order = reverse w.order } }

-- some test doesn't see what was changed
abbrev any_passes : Chronicle → Bool
any_passes c =
    one_order (turned_round c) || made_of_greens (turned_round c) || primary_greens (turned_round c) || disk_behind (turned_round c)
    || levels_stand (uninstalled c) || attempt_shape (narrowed c) || sent_iff_due (untold c) || summary_of_sender (overcounted c)
    || made_once (unbooked c) || origins (widened c) || receipts_inside (unreceived c) || order_book (printed_otherwise c)

damages_are_seen : any_passes (tried two_greens).chronicle ≡ false
unfolding cases_compute
damages_are_seen = refl
