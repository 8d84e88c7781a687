use Rattle.std.proofs.Common.{◌≡◌, List, [], ◌∷◌, Result, Ok, Err, IfOk, set, sym, ap, subst, ◌∙◌, rules}
use Rattle.cg_session.specs.Token.{read}
use Rattle.cg_session_list.specs.declared.session.Session.{Session}
use Rattle.cg_session_list.specs.declared.session_line.SessionLine.{SessionLine}
use Rattle.cg_session_list.specs.Apart.{ids}
use Rattle.cg_session_list.specs.Parts.{noted, reads, after_read, read_line}
use Rattle.cg_session_list.proofs.Changing.{ids-apart, ids-set, read-at, read-none}
use Rattle.cg_session_list.proofs.session_list.SessionList.read.Goals as goal

on : {A E : Type 0} (r : Result A E) {P Q : A → Type 0} → ((a : A) → P a → Q a) → IfOk r P → IfOk r Q
on (Ok a) f p = f a p
on (Err e) f p = tt

pub returns-in_default : goal.returns-in_default
returns-in_default c =
    let sessions = c.self.inside.sessions.items in
    rw c.new.ensures (subst (λ (s : List Session). noted s [] ≡ reads s c.args.s c.args.answer c.args.pos) c.self.view_is
    (read-none c.args.s sessions c.args.answer c.args.pos (search (rules, c.place_of.ensures, c.as_slice.ensures.value, c.in_default.is))))

pub invariant_of-self : goal.invariant_of-self
invariant_of-self c =
    let sessions = c.self.inside.sessions.items in
    let i = c.in-Some.i in
    let old = c.index_mut.result.now in
    let t = c.read_by-line.new.token in
    let kept = ids-set sessions i old t in
    ids-apart sessions (set sessions i (record { id = old.id; token = t })) (ap (λ (o : Session). ids (set sessions i (record { id = o.id; token = t }))) c.index_mut.ensures.value ∙ kept) c.self.invariant

pub returns : goal.returns
returns c =
    let sessions = c.self.inside.sessions.items in
    let i = c.in-Some.i in
    let old = c.index_mut.result.now in
    let there = c.index_mut.ensures.value in
    let t = c.read_by-line.new.token in
    let line = c.read_by-line.result in
    let s = c.args.s in
    let answer = c.args.answer in
    let pos = c.args.pos in
    let found = sym c.place_of.ensures ∙ c.in-Some.is in
    let done = read-at s sessions i old answer pos t line c.self.invariant (search (rules, found, c.as_slice.ensures.value))
    (c.read_by-line.ensures.line ∙ ap (λ (o : Session). read_line s answer pos (read o.token pos)) there)
    (c.read_by-line.ensures.seen ∙ ap (λ (o : Session). after_read o.token (read o.token pos)) there) in
    let same : noted (set sessions i (record { id = old.id; token = t })) (line ∷ []) ≡ reads c.args.self.now s answer pos =
    ap (λ (o : Session). noted (set sessions i (record { id = o.id; token = t })) (line ∷ [])) there ∙ done ∙ ap (λ (xs : List Session). reads xs s answer pos) c.self.view_is in
    on c.only.result (λ (lines : List SessionLine) is. rw is same) c.only.ensures
