use Rattle.std.proofs.Common.{sym, rules}
use Rattle.cg_store.proofs.Replaying.{first_is, none_first}
use Rattle.cg_store.proofs.replay.is_first_own.Goals as goal

pub returns-in-Some : goal.returns-in-Some
returns-in-Some c = rw (first_is c.args.core.now.own c.in-Some.a.now c.args.id.now (sym c.in-Some.ensures.value)) search rules

pub returns-in-None : goal.returns-in-None
returns-in-None c = sym (none_first c.args.core.now.own c.args.id.now (sym c.in-None.ensures.value))
