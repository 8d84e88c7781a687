use Rattle.std.proofs.Common.{◌≡◌, List, None, sym, subst}
use Rattle.cg_session_list.specs.declared.session.Session.{Session}
use Rattle.cg_session_list.specs.Apart.{AreApart}
use Rattle.cg_session_list.specs.Sessions.{session_used}
use Rattle.cg_session_list.proofs.Changing.{apart-opened}
use Rattle.cg_session_list.proofs.session_list.SessionList.open.Goals as goal

pub invariant_of-self-2 : goal.invariant_of-self-2
invariant_of-self-2 c =
    let unused = subst (λ (sessions : List Session). session_used sessions c.args.s ≡ None) (sym c.self.view_is) c.requires in
    subst AreApart (sym c.in_ok-push.ensures.items)
    (apart-opened c.self.inside.sessions.items (record { id = c.args.s; token = c.new-token.result }) unused c.self.invariant)
