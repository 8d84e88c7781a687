use Rattle.std.proofs.Common.{◌≡◌, fold, map, drop}
use Rattle.cg_session_list.specs.Parts.{noted}
use Rattle.cg_run.specs.Replying.{replied_in}
use Rattle.cg_run.proofs.sessions.reply_all.Given as goal

-- those that are left lead to where all lead
abbrev pub invariant-loop-reply : goal.invariant-loop-reply
invariant-loop-reply l =
    fold (replied_in l.world.world) (noted l.sessions l.lines) (map (λ r. r.id) (drop l.reply-index l.replies))
    ≡ fold (replied_in l.world.world) (noted l.fn.sessions l.fn.lines) (map (λ r. r.id) l.replies)
