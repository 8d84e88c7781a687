use Rattle.std.proofs.Common.{Result, Ok, Err, OnOk, List, ap, ◌∙◌}
use Rattle.cg_session_list.specs.declared.session.Session.{Session}
use Rattle.cg_session_list.specs.Parts.{noted}
use Rattle.cg_session_list.specs.Sessions.{with_reply}
use Rattle.cg_session_list.proofs.Changing.{with-reply}
use Rattle.cg_session_list.proofs.session_list.SessionList.reply.Goals as goal

both : {A E P Q R : Type 0} (r : Result A E) → (P → Q → R) → OnOk r P → OnOk r Q → OnOk r R
both (Ok a) f p q = f p q
both (Err e) f p q = tt

pub returns : goal.returns
returns c =
    let sessions = c.self.inside.sessions.items in
    let lines = c.args.lines.now in
    both c.reply_to_each.result
    (λ seen told. with-reply sessions c.reply_to_each.new.sessions.items lines c.reply_to_each.new.lines c.args.id c.args.place seen told
    ∙ ap (λ (xs : List Session). with_reply (noted xs lines) c.args.id c.args.place) c.self.view_is)
    c.reply_to_each.ensures.seen c.reply_to_each.ensures.lines
