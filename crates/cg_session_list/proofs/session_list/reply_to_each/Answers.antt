use Rattle.std.proofs.Common.{◌≡◌, ◌<◌, ◌+◌, ◌++◌, suc, length, arith, ap, ◌∙◌, length-set}
use Rattle.cg_session.specs.Token.{Token, replied}
use Rattle.cg_session_list.specs.declared.session.Session.{Session}
use Rattle.cg_session_list.specs.Parts.{told_to}
use Rattle.cg_session_list.specs.Sessions.{changed}
use Rattle.cg_session_list.proofs.Changing.{ids-heard, reply-next, reply-step, lines-step}
use Rattle.cg_session_list.proofs.session_list.reply_to_each.Goals as goal

pub loop-i-preserved : goal.loop-i-preserved
loop-i-preserved c =
    let id = c.args.id.now in
    let place = c.args.place in
    let change = λ (t : Token). replied t id place in
    let sessions = c.args.sessions.now.items in
    let seen = c.loop-i.sessions.items in
    let i = c.loop-i.i in
    let d = c.index_mut.result.now in
    let there = c.index_mut.ensures.value in
    let invariant = c.loop-i.invariant in
    let within : i < length seen = omega (arith, invariant.count) in
    let less : i < length sessions = omega (arith, invariant.count) in
    let step : i + 1 ≡ suc i = omega arith in
    let next = reply-next change sessions i d seen less invariant.seen in
    record {
      count = length-set seen i c.reply_to.new.session ∙ invariant.count;
      same = ids-heard change seen i d c.reply_to.new.session (c.reply_to.ensures.seen ∙ ap (λ (o : Session). changed change o) there) within ∙ invariant.same;
      seen = reply-step change sessions i (i + 1) d c.reply_to.new.session seen step less invariant.seen (c.reply_to.ensures.seen ∙ ap (λ (o : Session). changed change o) (there ∙ next));
      shown = lines-step id place sessions seen i (i + 1) d c.args.lines.now c.loop-i.lines c.reply_to.new.lines step less next invariant.shown
          (c.in_ok-reply_to.ensures.lines ∙ ap (λ (o : Session). c.loop-i.lines ++ told_to o id place) there);
    }

pub returns-in_err-reply_to-clause-same : goal.returns-in_err-reply_to-clause-same
returns-in_err-reply_to-clause-same c =
    let change = λ (t : Token). replied t c.args.id.now c.args.place in
    let within : c.loop-i.i < length c.loop-i.sessions.items = omega (arith, c.loop-i.invariant.count) in
    ids-heard change c.loop-i.sessions.items c.loop-i.i c.index_mut.result.now c.reply_to.new.session
    (c.reply_to.ensures.seen ∙ ap (λ (o : Session). changed change o) c.index_mut.ensures.value) within ∙ c.loop-i.invariant.same
