use Rattle.std.proofs.Common.{◌≡◌, fold, map, drop}
use Rattle.cg_session_list.specs.Sessions.{own_by}
use Rattle.cg_session_list.specs.Parts.{noted}
use Rattle.cg_run.proofs.sessions.own_all.Given as goal

-- those that are left lead to where all lead
abbrev pub invariant-loop-m : goal.invariant-loop-m
invariant-loop-m l =
    fold (own_by l.s) (noted l.sessions l.lines) (map (λ m. m.id) (drop l.m-index l.made))
    ≡ fold (own_by l.s) (noted l.fn.sessions l.fn.lines) (map (λ m. m.id) l.made)
