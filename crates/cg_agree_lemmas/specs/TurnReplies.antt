-- What a replica's whole step answers: as each action becomes green it is applied, and where it is the first whose reply is owed,
-- the reply is given.
use Rattle.std.proofs.Common.{◌≡◌, suc, Bool, true, false, cond, List, [], ◌∷◌, ◌++◌, fold, refl, sym, ap, ap₂, ◌∙◌, append-nil, append_assoc, if◌then◌else◌}
use Rattle.std.specs.Prelude.{◌==◌, nat_le}
use Rattle.std.proofs.lemmas.Bool.{cond_both}
use Rattle.cg_base.specs.EachLaws.{Each-all}
use Rattle.cg_base.specs.declared.action_id.ActionId.{ActionId}
use Rattle.cg_base.specs.Cuts.{index_in, raise}
use Rattle.cg_action.specs.declared.action.Action.{Action}
use Rattle.cg_action.specs.declared.action.Kind.{Kind}
use Rattle.cg_action.specs.declared.entry.DbEntry.{DbEntry}
use Rattle.cg_db.specs.Apply.{apply}
use Rattle.cg_queue.specs.Queue.{Marks, Gaps, placed_red, names_of}
use Rattle.cg_queue.specs.declared.mark.Mark.TheVariants.{Placed, Known}
use Rattle.cg_report.specs.declared.entry.Reply.{Reply}
use Rattle.cg_client.specs.Replica.{Held, State, RegPrim, TransPrim, ExchangeStates, ExchangeActions, Construct, No, Un, NonPrim, Left, Replica}
use Rattle.cg_client.specs.Turn.{Turn, begin}
use Rattle.cg_client.specs.Marks.{marked, after_owed, given_to, place_green}
use Rattle.cg_client.specs.Requests.{is_creating, next_action, create, create_kept, empty_buffer, buffer, settle, request_in, request}
use Rattle.cg_client.specs.Summary.{redden, forget_own, own_to_red}
use Rattle.cg_states.specs.ReplicaStep.{Input, Deliveries, Asks, replica_step, after_delivery}
use Rattle.cg_disk_records.specs.Holds.{run_on, cut_behind}
use Rattle.cg_disk_records.specs.RunLaws.{cut_behind-append, run_on-next}
use Rattle.cg_disk_records.specs.HeldLaws.{names-behind}
use Rattle.cg_agree_lemmas.specs.TurnRows.{IsRule, of-deliveries}
use Rattle.cg_model.specs.RowLaws.{any-deliveries}

-- a database behind actions, the replies that are owed behind them, and those that they give
abbrev pub db_behind : List DbEntry → List Action → List DbEntry
db_behind db actions = fold (λ db a. (apply db a).db) db actions

abbrev pub owed_behind : List ActionId → List Action → List ActionId
owed_behind owed actions = fold (λ owed a. after_owed owed a.id) owed actions

abbrev pub replies_in : List ActionId → List DbEntry → List Action → List Reply
replies_in owed db [] = []
replies_in owed db (a ∷ actions) = given_to owed a (apply db a) ++ replies_in (after_owed owed a.id) (apply db a).db actions

-- these actions became green in the turn, with what they bring about; and the replies to what was made in it are owed too
pub record IsAnswered (old : Held) (t : Turn) : Type 0 where
  pub more : List Action
  pub white : t.replica.held.queue.white ≡ old.queue.white
  pub greens : t.replica.held.queue.greens ≡ old.queue.greens ++ more
  pub green : t.green ≡ names_of more
  pub db : t.replica.held.db ≡ db_behind old.db more
  pub replies : t.replies ≡ replies_in old.owed old.db more
  pub owed : t.replica.held.owed ≡ owed_behind old.owed more ++ names_of t.made
  pub cut : t.replica.held.queue.green_cut ≡ cut_behind old.queue.green_cut (names_of more)
  pub run : run_on old.queue.green_cut (names_of more) ≡ true

db-next : (db : List DbEntry) (xs : List Action) (a : Action) → (apply (db_behind db xs) a).db ≡ db_behind db (xs ++ a ∷ [])
db-next db [] a = refl
db-next db (x ∷ xs) a = db-next (apply db x).db xs a

owed-next : (owed : List ActionId) (xs : List Action) (a : Action) → after_owed (owed_behind owed xs) a.id ≡ owed_behind owed (xs ++ a ∷ [])
owed-next owed [] a = refl
owed-next owed (x ∷ xs) a = owed-next (after_owed owed x.id) xs a

replies-next : (owed : List ActionId) (db : List DbEntry) (xs : List Action) (a : Action) →
    replies_in owed db xs ++ given_to (owed_behind owed xs) a (apply (db_behind db xs) a) ≡ replies_in owed db (xs ++ a ∷ [])
replies-next owed db [] a = sym (append-nil (given_to owed a (apply db a)))
replies-next owed db (x ∷ xs) a =
    append_assoc (given_to owed x (apply db x)) (replies_in (after_owed owed x.id) (apply db x).db xs) (given_to (owed_behind owed (x ∷ xs)) a (apply (db_behind db (x ∷ xs)) a))
    ∙ ap (λ rs. given_to owed x (apply db x) ++ rs) (replies-next (after_owed owed x.id) (apply db x).db xs a)

-- ---- deliveries: nothing is made

record IsTakenUp (old : Held) (t : Turn) : Type 0 where
  made : t.made ≡ []
  is : IsAnswered old t

-- the turns agree in all that is said of answers
record SameAnswers (t u : Turn) : Type 0 where
  white : u.replica.held.queue.white ≡ t.replica.held.queue.white
  greens : u.replica.held.queue.greens ≡ t.replica.held.queue.greens
  green : u.green ≡ t.green
  db : u.replica.held.db ≡ t.replica.held.db
  replies : u.replies ≡ t.replies
  owed : u.replica.held.owed ≡ t.replica.held.owed
  made : u.made ≡ t.made
  cut : u.replica.held.queue.green_cut ≡ t.replica.held.queue.green_cut

same-answers : (t : Turn) → SameAnswers t t
same-answers t = record { white = refl; greens = refl; green = refl; db = refl; replies = refl; owed = refl; made = refl; cut = refl }

answered-same : (old : Held) (t u : Turn) → SameAnswers t u → IsAnswered old t → IsAnswered old u
answered-same old t u same is = record {
  more = is.more;
  white = same.white ∙ is.white;
  greens = same.greens ∙ is.greens;
  green = same.green ∙ is.green;
  db = same.db ∙ is.db;
  replies = same.replies ∙ is.replies;
  owed = same.owed ∙ is.owed ∙ ap (λ made. owed_behind old.owed is.more ++ names_of made) (sym same.made);
  cut = same.cut ∙ is.cut;
  run = is.run;
}

up-same : (old : Held) (t u : Turn) → SameAnswers t u → IsTakenUp old t → IsTakenUp old u
up-same old t u same p = record { made = same.made ∙ p.made; is = answered-same old t u same p.is }

redden-same : (t : Turn) (a : Action) → SameAnswers t (redden t a)
redden-same t a =
    let q = t.replica.held.queue in
    let cut = index_in q.red_cut a.id.creator in
    cond_both (nat_le a.id.index cut) (Marks Known q) (if a.id.index == suc cut then Marks Placed (placed_red q a) else Gaps cut) (λ m. SameAnswers t (marked t a m))
    (λ y. record { white = refl; greens = refl; green = refl; db = refl; replies = refl; owed = refl; made = refl; cut = refl })
    (λ n. cond_both (a.id.index == suc cut) (Marks Placed (placed_red q a)) (Gaps cut) (λ m. SameAnswers t (marked t a m))
    (λ y. record { white = refl; greens = refl; green = refl; db = refl; replies = refl; owed = refl; made = refl; cut = refl })
    (λ n. same-answers t))

same-then : (t u v : Turn) → SameAnswers t u → SameAnswers u v → SameAnswers t v
same-then t u v a b = record {
  white = b.white ∙ a.white;
  greens = b.greens ∙ a.greens;
  green = b.green ∙ a.green;
  db = b.db ∙ a.db;
  replies = b.replies ∙ a.replies;
  owed = b.owed ∙ a.owed;
  made = b.made ∙ a.made;
  cut = b.cut ∙ a.cut;
}

reddens-same : (list : List Action) (t : Turn) → SameAnswers t (fold redden t list)
reddens-same [] t = same-answers t
reddens-same (a ∷ list) t = same-then t (redden t a) (fold redden (redden t a) list) (redden-same t a) (reddens-same list (redden t a))

own-same : (t : Turn) → SameAnswers t (own_to_red t)
unfolding own_to_red
own-same t =
    let rest = reddens-same t.replica.held.own (forget_own t) in
    record { white = rest.white; greens = rest.greens; green = rest.green; db = rest.db; replies = rest.replies; owed = rest.owed; made = rest.made; cut = rest.cut }

-- one action more becomes green
green-answered : (old : Held) (t : Turn) (a : Action) → a.id.index ≡ suc (index_in t.replica.held.queue.green_cut a.id.creator) → IsTakenUp old t → IsTakenUp old (place_green t a)
unfolding place_green
green-answered old t a next p =
    let h = t.replica.held in
    let is = p.is in
    let more = is.more ++ a ∷ [] in
    let none : names_of t.made ≡ [] = ap names_of p.made in
    let owed : h.owed ≡ owed_behind old.owed is.more = is.owed ∙ ap (λ ids. owed_behind old.owed is.more ++ ids) none ∙ append-nil (owed_behind old.owed is.more) in
    record {
      made = p.made;
      is = record {
        more = more;
        white = is.white;
        greens = ap (λ xs. xs ++ a ∷ []) is.greens ∙ append_assoc old.queue.greens is.more (a ∷ []);
        green = ap (λ ids. ids ++ a.id ∷ []) is.green ∙ sym (names-behind is.more a);
        db = ap (λ db. (apply db a).db) is.db ∙ db-next old.db is.more a;
        replies = ap₂ (λ rs (x : List Reply). rs ++ x) is.replies (ap₂ (λ o db. given_to o a (apply db a)) owed is.db) ∙ replies-next old.owed old.db is.more a;
        owed = ap (λ o. after_owed o a.id) owed ∙ owed-next old.owed is.more a ∙ sym (ap (λ ids. owed_behind old.owed more ++ ids) none ∙ append-nil (owed_behind old.owed more));
        cut = ap (λ cut. raise cut a.id) is.cut ∙ sym (ap (cut_behind old.queue.green_cut) (names-behind is.more a) ∙ cut_behind-append old.queue.green_cut (names_of is.more) (a.id ∷ []));
        run = ap (run_on old.queue.green_cut) (names-behind is.more a) ∙ run_on-next old.queue.green_cut (names_of is.more) a.id is.run (next ∙ ap (λ cut. suc (index_in cut a.id.creator)) is.cut);
      };
    }

answered-rule : (old : Held) → IsRule (IsTakenUp old) (λ a. Unit {0})
answered-rule old = record {
  greens = λ t p. Each-all (λ (a : Action). Unit {0}) (λ a. tt) t.replica.held.queue.greens;
  reds = λ t p. Each-all (λ (a : Action). Unit {0}) (λ a. tt) t.replica.held.queue.reds;
  goes = λ t state apart p. up-same old t _ (record { white = refl; greens = refl; green = refl; db = refl; replies = refl; owed = refl; made = refl; cut = refl }) p;
  leaves = λ t p. up-same old t _ (record { white = refl; greens = refl; green = refl; db = refl; replies = refl; owed = refl; made = refl; cut = refl }) p;
  says = λ t m none p. up-same old t _ (record { white = refl; greens = refl; green = refl; db = refl; replies = refl; owed = refl; made = refl; cut = refl }) p;
  part = λ t part p. up-same old t _ (record { white = refl; greens = refl; green = refl; db = refl; replies = refl; owed = refl; made = refl; cut = refl }) p;
  values = λ t yellow valid prim index v p. up-same old t _ (record { white = refl; greens = refl; green = refl; db = refl; replies = refl; owed = refl; made = refl; cut = refl }) p;
  known = λ t a fine next made p. up-same old t _ (record { white = refl; greens = refl; green = refl; db = refl; replies = refl; owed = refl; made = refl; cut = refl }) p;
  green = λ t a fine next made p. green-answered old t a next p;
  own_red = λ t p. up-same old t (own_to_red t) (own-same t) p;
}

pub first-answered : (r : Replica) → IsAnswered r.held (begin r)
first-answered r = record { more = []; white = refl; greens = sym (append-nil r.held.queue.greens); green = refl; db = refl; replies = refl; owed = sym (append-nil r.held.owed); cut = refl; run = refl }

-- ---- requests

create-answered : (old : Held) (t : Turn) (kind : Kind) → IsAnswered old t → IsAnswered old (create t kind)
unfolding create
create-answered old t kind is =
    let a = next_action t.replica.held kind in
    record {
      more = is.more;
      white = is.white;
      greens = is.greens;
      green = is.green;
      db = is.db;
      replies = is.replies;
      owed = ap (λ ids. ids ++ a.id ∷ []) is.owed ∙ append_assoc (owed_behind old.owed is.more) (names_of t.made) (a.id ∷ [])
          ∙ ap (λ ids. owed_behind old.owed is.more ++ ids) (sym (names-behind t.made a));
      cut = is.cut;
      run = is.run;
    }

creates-answered : (old : Held) (list : List Kind) (t : Turn) → IsAnswered old t → IsAnswered old (fold create t list)
creates-answered old [] t is = is
creates-answered old (kind ∷ list) t is = creates-answered old list (create t kind) (create-answered old t kind is)

settle-answered : (old : Held) (t : Turn) → IsAnswered old t → IsAnswered old (settle t)
unfolding create_kept
settle-answered old t is = at (is_creating t.replica.state) where
  at : (b : Bool) → IsAnswered old (cond b (create_kept t) t)
  at true = creates-answered old t.replica.held.buffered (empty_buffer t)
      (answered-same old t (empty_buffer t) (record { white = refl; greens = refl; green = refl; db = refl; replies = refl; owed = refl; made = refl; cut = refl }) is)
  at false = is

request-answered : (old : Held) (t : Turn) (kind : Kind) → IsAnswered old t → IsAnswered old (request t kind)
request-answered old t kind is = at t.replica.state where
  made : IsAnswered old (create t kind)
  made = create-answered old t kind is

  kept : IsAnswered old (buffer t kind)
  kept = answered-same old t (buffer t kind) (record { white = refl; greens = refl; green = refl; db = refl; replies = refl; owed = refl; made = refl; cut = refl }) is

  at : (state : State) → IsAnswered old (request_in state t kind)
  at RegPrim = made
  at (NonPrim true) = made
  at Left = is
  at TransPrim = kept
  at (ExchangeStates conf set heard) = kept
  at (ExchangeActions conf heard accepted) = kept
  at (Construct conf heard) = kept
  at (No conf heard) = kept
  at Un = kept
  at (NonPrim false) = kept

-- ---- a whole step

pub step-answered : (r : Replica) (input : Input) → IsAnswered r.held (replica_step r input)
unfolding replica_step
step-answered r (Deliveries list) =
    let t = fold after_delivery (begin r) list in
    settle-answered r.held t (of-deliveries (IsTakenUp r.held) (λ a. Unit {0}) (answered-rule r.held) (begin r) list (any-deliveries list) (record { made = refl; is = first-answered r })).is
step-answered r (Asks kind) = request-answered r.held (begin r) kind (first-answered r)

-- own actions that become red change nothing of what is owed
pub owed-own : (t : Turn) → (own_to_red t).replica.held.owed ≡ t.replica.held.owed
owed-own t = (own-same t).owed
