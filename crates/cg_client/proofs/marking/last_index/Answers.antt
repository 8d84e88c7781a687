use Rattle.std.proofs.Common.{refl}
use Rattle.cg_client.specs.OwnLaws.{last_index-get}
use Rattle.cg_client.proofs.marking.last_index.Goals as goal

pub returns-in-Some : goal.returns-in-Some
returns-in-Some c = rw (← last_index-get c.args.own.now, ← c.last.ensures, c.in-Some.is) refl

pub returns-in-None : goal.returns-in-None
returns-in-None c = rw (← last_index-get c.args.own.now, ← c.last.ensures, c.in-None.is) refl
