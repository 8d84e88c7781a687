use Rattle.std.proofs.Common.{◌≡◌, ◌++◌, length, map, take, drop}
use Rattle.std.specs.Prelude.{filter}
use Rattle.cg_session.specs.Token.{raises, replied}
use Rattle.cg_session_list.specs.declared.session_line.SessionLine.TheVariants.{At}
use Rattle.cg_session_list.specs.Apart.{ids}
use Rattle.cg_session_list.specs.Sessions.{changed}
use Rattle.cg_session_list.proofs.session_list.reply_to_each.Given as goal

abbrev pub invariant-loop-i : goal.invariant-loop-i
invariant-loop-i l = record {
  count : length l.sessions.items ≡ length l.fn.sessions.items;
  same : ids l.sessions.items ≡ ids l.fn.sessions.items;
  seen : l.sessions.items ≡ map (changed (λ t. replied t l.id l.place)) (take l.i l.fn.sessions.items) ++ drop l.i l.fn.sessions.items;
  shown : l.lines ≡ l.fn.lines ++ map (λ o. At o.id l.place) (filter (λ o. raises o.token l.id l.place) (take l.i l.fn.sessions.items));
}
