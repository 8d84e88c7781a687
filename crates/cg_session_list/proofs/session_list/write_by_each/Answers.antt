use Rattle.std.proofs.Common.{sym, ◌∙◌, Result, Ok, Err, OnOk, ap, rules}
use Rattle.cg_session.specs.Token.{Token, wrote}
use Rattle.cg_session_list.specs.declared.session.Session.{Session}
use Rattle.cg_session_list.proofs.Changing.{written-at, written-none, ids-set}
use Rattle.cg_session_list.proofs.session_list.write_by_each.Goals as goal

on : {A E P Q : Type 0} (r : Result A E) → (P → Q) → OnOk r P → OnOk r Q
on (Ok a) f p = f p
on (Err e) f p = tt

pub returns-in_default-clause-ok : goal.returns-in_default-clause-ok
returns-in_default-clause-ok c =
    written-none c.args.s (λ (t : Token). wrote t c.args.id.now) c.args.sessions.now.items (search (rules, c.place_of.ensures, c.as_slice.ensures.value, c.in_default.is))

pub returns-clause-same : goal.returns-clause-same
returns-clause-same c = let h = ids-set c.args.sessions.now.items c.in-Some.i c.index_mut.result.now c.write_by.new.token in search (rules, h, c.index_mut.ensures.value)

pub returns-clause-ok : goal.returns-clause-ok
returns-clause-ok c =
    let sessions = c.args.sessions.now.items in
    let i = c.in-Some.i in
    let old = c.index_mut.result.now in
    let found = sym c.place_of.ensures ∙ c.in-Some.is in
    let there = c.index_mut.ensures.value in
    on c.write_by.result (λ is. rw there
    (written-at c.args.s (λ (t : Token). wrote t c.args.id.now) sessions i old c.write_by.new.token c.requires (search (rules, found, c.as_slice.ensures.value))
    (is ∙ ap (λ (o : Session). wrote o.token c.args.id.now) there))) c.write_by.ensures
