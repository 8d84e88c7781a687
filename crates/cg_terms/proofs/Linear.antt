-- The global order is a sequential history that stands for the run.
use Rattle.std.proofs.Common.{◌≡◌, List, [], ◌∷◌, ◌++◌, Option, Some, Contains, refl, sym, ap, ap₂, ◌∙◌, subst, inl, inr, append_assoc}
use Rattle.std.specs.Prelude.{option_map}
use Rattle.std.proofs.lemmas.List.Elements.{Contains-append_cases}
use Rattle.cg_base.specs.declared.action_id.ActionId.{ActionId}
use Rattle.cg_action.specs.declared.action.Action.{Action}
use Rattle.cg_action.specs.declared.answer.Answer.{Answer}
use Rattle.cg_action.specs.declared.entry.DbEntry.{DbEntry}
use Rattle.cg_db.specs.Apply.{apply, fold_actions, fold_actions_from}
use Rattle.cg_db.specs.Find.{answer, query_of}
use Rattle.cg_queue.specs.Queue.{names_of}
use Rattle.cg_report.specs.declared.entry.Reply.{Reply}
use Rattle.cg_model.specs.Run.{Step}
use Rattle.cg_model.specs.Shown.{made_names, made_action, made_actions, order_of}
use Rattle.cg_model.specs.Agreement.{ComesAfter, through, CreatorOrder, FoldAnswers}
use Rattle.cg_model.specs.Fronts.{Front}
use Rattle.cg_terms.specs.Linearizable.{AllDiffer, StandsBefore, IsOverBefore, responses, Linearizes, Linearizable, history_of, StronglyLinearizable}
use Rattle.cg_terms.proofs.Places.{contains-map_back, split-at, front-append, differ-front}
use Rattle.cg_model.specs.MadeLaws.{AreMade, made-found, actions-more, actions-append, actions-head, names-made, each-made}
use Rattle.cg_terms.proofs.Numbered.{differ-numbered}
use Rattle.cg_base.specs.ElementLaws.{contains-none, contains-here, contains-later, last-of, contains-at}
use Rattle.cg_model.specs.RunLaws.{through-append, order-append}

-- ---- the sequential object

abbrev answered : List DbEntry → Action → Option Answer
answered db a = option_map (answer (apply db a).db) (query_of a.kind)

responses-at : (db : List DbEntry) (before : List Action) (a : Action) (after : List Action) (r : Reply) → r.id ≡ a.id → r.effect ≡ (apply (fold_actions_from db before) a).effect →
    r.answer ≡ answered (fold_actions_from db before) a → Contains (responses db (before ++ a ∷ after)) r
responses-at db [] a after r name effect told =
    let reply : Reply = record { id = a.id; effect = (apply db a).effect; answer = answered db a } in
    let same : reply ≡ r = λ i. record { id = sym name i; effect = sym effect i; answer = sym told i } in
    subst (Contains (reply ∷ responses (apply db a).db after)) same (contains-here reply (responses (apply db a).db after))
responses-at db (x ∷ before) a after r name effect told =
    contains-later (record { id = x.id; effect = (apply db x).effect; answer = answered db x }) (responses (apply db x).db (before ++ a ∷ after)) r
    (responses-at (apply db x).db before a after r name effect told)

-- ---- what the history rests on

-- the reply is what its action brings about in the order, as it stands
abbrev pub IsReplyIn : List Step → Reply → Type 0
IsReplyIn now r =
    (before after : List ActionId) × (a : Action) × (order_of now ≡ before ++ r.id ∷ after) × (made_action now r.id ≡ Some a)
    × (let applied = apply (fold_actions (made_actions now before)) a in
    (r.effect ≡ applied.effect) × (r.answer ≡ option_map (answer applied.db) (query_of a.kind)))

pub record Grounds (steps : List Step) : Type 0 where
  pub differ : AllDiffer (order_of steps)
  pub made : (earlier : List Step) (s : Step) (id : ActionId) → ComesAfter steps earlier s →
      Contains (order_of (through earlier s)) id → Contains (made_names (through earlier s)) id
  pub reply : (earlier : List Step) (s : Step) (r : Reply) → ComesAfter steps earlier s → Contains s.entry.replies r → IsReplyIn (through earlier s) r

pub grounds-of : (steps : List Step) → CreatorOrder steps → FoldAnswers steps → Grounds steps
grounds-of steps creators answers =
    record {
      differ = differ-numbered (λ p. 1) (order_of steps) creators.numbered;
      made = creators.made_before;
      reply = answers.reply;
    }

pub comes-after-more : (steps earlier later front : List Step) (s : Step) → steps ≡ front ++ later → ComesAfter front earlier s → ComesAfter steps earlier s
comes-after-more steps earlier later front s is there = (there.0 ++ later, is ∙ ap (λ xs. xs ++ later) there.1 ∙ append_assoc earlier (s ∷ there.0) later)

pub grounds-front : (steps front later : List Step) → steps ≡ front ++ later → Grounds steps → Grounds front
grounds-front steps front later is g =
    record {
      differ = differ-front (order_of front) (order_of later) (subst AllDiffer (ap (λ (xs : List Step). order_of xs) is ∙ order-append front later) g.differ);
      made = λ earlier s id there. g.made earlier s id (comes-after-more steps earlier later front s is there);
      reply = λ earlier s r there. g.reply earlier s r (comes-after-more steps earlier later front s is there);
    }

-- all names of the order were made
pub all-made : (steps : List Step) → Grounds steps → AreMade steps (order_of steps)
all-made steps g = elim (last-of steps) [
  | inl none ↦ λ id there. absurd (contains-none id (subst (λ (xs : List Step). Contains (order_of xs) id) none there))
  | inr some ↦ λ id there.
      subst (λ (xs : List Step). Contains (made_names xs) id) (sym some.is)
      (g.made some.front some.last id ([], some.is) (subst (λ (xs : List Step). Contains (order_of xs) id) some.is there))
]

-- ---- the history

history-names : (steps : List Step) → Grounds steps → names_of (history_of steps) ≡ order_of steps
history-names steps g = names-made steps (order_of steps) (all-made steps g)

-- the history behind a front begins the whole one
pub history-begins : (steps front later : List Step) → steps ≡ front ++ later → Grounds steps → history_of steps ≡ history_of front ++ made_actions steps (order_of later)
history-begins steps front later is g =
    let made : AreMade front (order_of front) = all-made front (grounds-front steps front later is g) in
    ap (λ (ids : List ActionId). made_actions steps ids) (ap (λ (xs : List Step). order_of xs) is ∙ order-append front later)
    ∙ actions-append steps (order_of front) (order_of later)
    ∙ ap (λ (list : List Action). list ++ made_actions steps (order_of later))
    (ap (λ (xs : List Step). made_actions xs (order_of front)) is ∙ actions-more front later (order_of front) made)

reply-there : (steps : List Step) → Grounds steps → (s : Step) (r : Reply) → Contains steps s → Contains s.entry.replies r → Contains (responses [] (history_of steps)) r
reply-there steps g s r there told =
    let at = split-at steps s there in
    let earlier : List Step = at.before in
    let later : List Step = at.after in
    let now : List Step = through earlier s in
    let is : steps ≡ now ++ later = at.is ∙ sym (through-append earlier s later) in
    let reply : IsReplyIn now r = g.reply earlier s r (later, at.is) told in
    let before : List ActionId = reply.0 in
    let after : List ActionId = reply.1 in
    let a : Action = reply.2 in
    let order : order_of now ≡ before ++ r.id ∷ after = reply.3 in
    let made : AreMade now (order_of now) = all-made now (grounds-front steps now later is g) in
    let made_it : Contains (made_names now) r.id = made r.id (subst (λ (ids : List ActionId). Contains ids r.id) (sym order) (contains-at before r.id after)) in
    let found = made-found now r.id made_it in
    let same : Some found.action ≡ Some a = sym found.found ∙ reply.4 in
    let itself : found.action ≡ a = cc in
    let name : r.id ≡ a.id = sym found.name ∙ ap (λ (x : Action). x.id) itself in
    let history : history_of now ≡ made_actions now before ++ a ∷ made_actions now after =
    ap (λ (ids : List ActionId). made_actions now ids) order ∙ actions-append now before (r.id ∷ after)
    ∙ ap (λ (list : List Action). made_actions now before ++ list) (actions-head now r.id after a reply.4) in
    let whole : history_of steps ≡ made_actions now before ++ a ∷ (made_actions now after ++ made_actions steps (order_of later)) =
    history-begins steps now later is g ∙ ap (λ (list : List Action). list ++ made_actions steps (order_of later)) history
    ∙ append_assoc (made_actions now before) (a ∷ made_actions now after) (made_actions steps (order_of later)) in
    subst (λ (list : List Action). Contains (responses [] list) r) (sym whole)
    (responses-at [] (made_actions now before) a (made_actions now after ++ made_actions steps (order_of later)) r name reply.5.0 reply.5.1)

-- what was over before another began stands before it
stands-before : (steps : List Step) → Grounds steps → (a b : ActionId) → IsOverBefore steps a b → Contains (order_of steps) b → StandsBefore (order_of steps) a b
stands-before steps g a b over there =
    let earlier : List Step = over.0 in
    let s : Step = over.1 in
    let later : List Step = over.2.0 in
    let now : List Step = through earlier s in
    let is : steps ≡ now ++ later = over.2.1 ∙ sym (through-append earlier s later) in
    let order : order_of steps ≡ order_of now ++ order_of later = ap (λ (xs : List Step). order_of xs) is ∙ order-append now later in
    let told = contains-map_back (λ (r : Reply). r.id) s.entry.replies a over.3 in
    let reply : IsReplyIn now told.from = g.reply earlier s told.from over.2 told.there in
    let first : order_of now ≡ reply.0 ++ a ∷ reply.1 = reply.3 ∙ ap (λ (id : ActionId). reply.0 ++ id ∷ reply.1) told.is in
    let second : Contains (order_of later) b = elim (Contains-append_cases (order_of now) (order_of later) b (subst (λ (ids : List ActionId). Contains ids b) order there)) [
      | inl early ↦ absurd (over.4 (g.made earlier s b over.2 early))
      | inr late ↦ late
    ] in
    let at = split-at (order_of later) b second in (
      reply.0,
      reply.1 ++ at.before,
      at.after,
      order ∙ ap₂ (λ (xs ys : List ActionId). xs ++ ys) first at.is ∙ append_assoc reply.0 (a ∷ reply.1) (at.before ++ b ∷ at.after)
          ∙ ap (λ (ids : List ActionId). reply.0 ++ a ∷ ids) (sym (append_assoc reply.1 at.before (b ∷ at.after))),
    )

pub order-linearizes : (steps : List Step) → Grounds steps → Linearizes steps (history_of steps)
order-linearizes steps g =
    let names : names_of (history_of steps) ≡ order_of steps = history-names steps g in
    record {
      invoked = each-made steps (order_of steps) (all-made steps g);
      distinct = subst AllDiffer (sym names) g.differ;
      legal = reply-there steps g;
      real_time = λ a b over there.
          subst (λ (ids : List ActionId). StandsBefore ids a b) (sym names) (stands-before steps g a b over (subst (λ (ids : List ActionId). Contains ids b) names there));
    }

pub linearizable : (steps : List Step) → Grounds steps → Linearizable steps
linearizable steps g = (history_of steps, order-linearizes steps g)

pub strongly-linearizable : (steps : List Step) → Grounds steps → StronglyLinearizable steps
strongly-linearizable steps g earlier between later is =
    let now : List Step = earlier ++ between in
    let grounds : Grounds now = grounds-front steps now later (is ∙ sym (append_assoc earlier between later)) g in (
      order-linearizes earlier (grounds-front now earlier between refl grounds),
      subst (Front (history_of earlier)) (sym (history-begins now earlier between refl grounds)) (front-append (history_of earlier) (made_actions now (order_of between))),
    )
