use Rattle.std.proofs.Common.{take}
use Rattle.cg_base.specs.Lists.{Each}
use Rattle.cg_short.specs.Short.{IsShortReply}
use Rattle.cg_short.proofs.entry.replies_are_short.Given as goal

abbrev pub invariant-loop-reply : goal.invariant-loop-reply
invariant-loop-reply l = Each IsShortReply (take l.reply-index l.replies)
