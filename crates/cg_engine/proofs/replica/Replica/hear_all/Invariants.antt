use Rattle.std.proofs.Common.{◌≡◌, fold, take}
use Rattle.cg_states.specs.Hearing.{hear_delivery}
use Rattle.cg_engine.specs.Seen.{turn_of}
use Rattle.cg_engine.proofs.replica.Replica.hear_all.Given as goal

-- the deliveries so far were heard
abbrev pub invariant-loop-d : goal.invariant-loop-d
invariant-loop-d l = turn_of l.replica l.draft ≡ fold hear_delivery (turn_of l.fn.self l.fn.draft) (take l.d-index l.list)
