-- That each action which a replica, its disk or a snapshot has is the one of its name, as a fact of all cores; and of all messages.
use Rattle.std.proofs.Common.{◌≡◌, ℕ, ◌-◌, true, false, List, [], ◌∷◌, ◌++◌, filter_map, Option, Some, None, IfSome, refl, sym, ap, ◌∙◌, subst, option_map, is_some}
use Rattle.std.specs.Option.{option_map_or}
use Rattle.std.specs.List.{cons_option}
use Rattle.cg_base.specs.Lists.{Each}
use Rattle.cg_base.specs.EachLaws.{Each-append, Each-rest, Each-front, Each-drop}
use Rattle.cg_base.specs.Cuts.{index_in}
use Rattle.cg_action.specs.declared.action.Action.{Action}
use Rattle.cg_wire.specs.declared.message.Msg.{Msg}
use Rattle.cg_wire.specs.declared.message.Msg.TheVariants.{Action as ActionMsg, State as StateMsg, GreenItem, RedItem, Cpc}
use Rattle.cg_group.specs.State.{Sent, unordered_of}
use Rattle.cg_client.specs.Replica.{Held, Replica, NonPrim}
use Rattle.cg_client.specs.Turn.{begin}
use Rattle.cg_client.specs.Whitening.{white_at}
use Rattle.cg_disk_records.specs.Stored.{whiten, recovery_turn}
use Rattle.cg_model.specs.Recorded.{OfMessage}
use Rattle.cg_model.specs.FactsBooks.{HoldsFine}
use Rattle.cg_model.specs.World.{Node, TransferState, node_of, replica_of, has_begun}
use Rattle.cg_model.specs.Step.{joiner_replica}
use Rattle.cg_model.specs.Chronicle.{Past, Chronicle}
use Rattle.cg_model.specs.Fronts.{Front}
use Rattle.cg_model.specs.Looks.{greens_of, stood_of, past_of, on_disk, disk_held, ordered_in, snapshot_of, copied_for, OfCores}
use Rattle.cg_model.specs.Talk.{action_in}
use Rattle.cg_model.specs.FactsNet.{Hosted}
use Rattle.cg_model.specs.FactsReplica.{IsCore, DiskBehind, AreBooked, MadeOnce}
use Rattle.cg_model.specs.Facts.{Invariant}
use Rattle.cg_agree_lemmas.specs.CoresKept.{IsClosed}
use Rattle.cg_agree_lemmas.specs.BookedRows.{own-fine}
use Rattle.cg_agree_lemmas.specs.BookGrows.{IsNamed, cut_of}

-- all that is held, and these greens, are the actions of their names
abbrev pub FineHeld : List Action → Held → List Action → Type 0
FineHeld book h all = HoldsFine (IsNamed book) h × Each (IsNamed book) all

-- what a joiner is to begin with was made, and who hasn't begun has made nothing
pub record JoinersBooked (c : Chronicle) : Type 0 where
  pub copied : (joiner : ℕ) → IfSome (snapshot_of c.world joiner) (λ s. Each (IsNamed c.book) (copied_for c joiner))
  pub unbegun : (p : ℕ) → has_begun c.world p ≡ false → index_in (cut_of c.book) p ≡ 0

-- ---- lists

pub each-booked : (c : Chronicle) (list : List Action) → AreBooked c list → Each (IsNamed c.book) list
each-booked c [] are = tt
each-booked c (a ∷ list) are = (are.0, each-booked c list are.1)

pub booked-each : (c : Chronicle) (list : List Action) → Each (IsNamed c.book) list → AreBooked c list
booked-each c [] each = tt
booked-each c (a ∷ list) each = (each.0, booked-each c list each.1)

module _ (P : Action → Type 0) where
  pub front-each : (xs ys : List Action) → Front xs ys → Each P ys → Each P xs
  front-each [] ys front each = tt
  front-each (x ∷ xs) [] front each = absurd front
  front-each (x ∷ xs) (y ∷ ys) front each = (subst P (sym front.0) each.0, front-each xs ys front.1 each.1)

  messages-each : (list : List Msg) → Each P (filter_map action_in list) → Each (OfMessage P) list
  messages-each [] each = tt
  messages-each (ActionMsg a ∷ list) each = (each.0, messages-each list each.1)
  messages-each (GreenItem at a ∷ list) each = (each.0, messages-each list each.1)
  messages-each (RedItem a ∷ list) each = (each.0, messages-each list each.1)
  messages-each (StateMsg s ∷ list) each = (tt, messages-each list each)
  messages-each (Cpc id conf ∷ list) each = (tt, messages-each list each)

  each-messages : (list : List Msg) → Each (OfMessage P) list → Each P (filter_map action_in list)
  each-messages [] each = tt
  each-messages (ActionMsg a ∷ list) each = (each.0, each-messages list each.1)
  each-messages (GreenItem at a ∷ list) each = (each.0, each-messages list each.1)
  each-messages (RedItem a ∷ list) each = (each.0, each-messages list each.1)
  each-messages (StateMsg s ∷ list) each = each-messages list each.1
  each-messages (Cpc id conf ∷ list) each = each-messages list each.1

  sent-one : (m : Msg) (rest : List Action) (R : Type 0) → (Each P rest → R) → Each P (cons_option (action_in m) rest) → OfMessage P m × R
  sent-one (ActionMsg a) rest R go each = (each.0, go each.1)
  sent-one (GreenItem at a) rest R go each = (each.0, go each.1)
  sent-one (RedItem a) rest R go each = (each.0, go each.1)
  sent-one (StateMsg s) rest R go each = (tt, go each)
  sent-one (Cpc id conf) rest R go each = (tt, go each)

  sent-each : (list : List (Sent Msg)) → Each P (filter_map (λ s. action_in s.message) list) → Each (λ s. OfMessage P s.message) list
  sent-each [] each = tt
  sent-each (s ∷ list) each = sent-one s.message (filter_map (λ s. action_in s.message) list) (Each (λ s. OfMessage P s.message) list) (λ e. sent-each list e) each

  one-sent : (m : Msg) (rest : List Action) → Each P rest → OfMessage P m → Each P (cons_option (action_in m) rest)
  one-sent (ActionMsg a) rest each is = (is, each)
  one-sent (GreenItem at a) rest each is = (is, each)
  one-sent (RedItem a) rest each is = (is, each)
  one-sent (StateMsg s) rest each is = each
  one-sent (Cpc id conf) rest each is = each

  each-sent : (list : List (Sent Msg)) → Each (λ s. OfMessage P s.message) list → Each P (filter_map (λ s. action_in s.message) list)
  each-sent [] each = tt
  each-sent (s ∷ list) each = one-sent s.message (filter_map (λ s. action_in s.message) list) (each-sent list each.1) each.0

pub placed-booked : (c : Chronicle) → MadeOnce c → (conf : ℕ) → Each (λ s. OfMessage (IsNamed c.book) s.message) (ordered_in c conf)
placed-booked c made conf = sent-each (IsNamed c.book) (ordered_in c conf) (each-booked c (filter_map (λ s. action_in s.message) (ordered_in c conf)) (made.in_messages conf))

pub waiting-booked : (c : Chronicle) → MadeOnce c → (p : ℕ) → Each (OfMessage (IsNamed c.book)) (unordered_of c.world.group p)
waiting-booked c made p = messages-each (IsNamed c.book) (unordered_of c.world.group p) (each-booked c (filter_map action_in (unordered_of c.world.group p)) (made.in_waiting p))

-- ---- cores

-- the facts say it of all cores
pub cores-booked : (c : Chronicle) → Invariant c → JoinersBooked c → OfCores c (FineHeld c.book)
cores-booked c i joiners = record {
  memory = λ p. of_memory p (replica_of c.world p) (i.replica.cores.memory p) (i.replica.made_once.in_memory p);
  disk = λ p. of_disk p (disk_held c.world p) (i.replica.cores.disk p) (i.replica.made_once.on_disk p);
  snapshot = λ joiner. of_copy joiner (snapshot_of c.world joiner) (i.replica.cores.snapshot joiner) (joiners.copied joiner);
} where
  greens : (p : ℕ) → Each (IsNamed c.book) (greens_of c p)
  greens p = each-booked c (greens_of c p) (i.replica.made_once.in_greens p)

  kept-greens : (h : Held) (all : List Action) → IsCore c h all → Each (IsNamed c.book) all → Each (IsNamed c.book) h.queue.greens
  kept-greens h all core each = subst (Each (IsNamed c.book)) (sym core.made_of.kept) (Each-drop (IsNamed c.book) h.queue.white all each)

  holds : (h : Held) (all : List Action) → IsCore c h all → Each (IsNamed c.book) all → AreBooked c (h.queue.reds ++ h.own) → FineHeld c.book h all
  holds h all core each are =
      let both = each-booked c (h.queue.reds ++ h.own) are in
      (record { greens = kept-greens h all core each; reds = Each-front (IsNamed c.book) h.queue.reds h.own both; own = Each-rest (IsNamed c.book) h.queue.reds h.own both }, each)

  of_memory : (p : ℕ) (o : Option Replica) → IfSome o (λ r. IsCore c r.held (greens_of c p)) → IfSome o (λ r. AreBooked c (r.held.queue.reds ++ r.held.own)) → IfSome o (λ r. FineHeld c.book r.held (greens_of c p))
  of_memory p None core are = tt
  of_memory p (Some r) core are = holds r.held (greens_of c p) core (greens p) are

  of_disk : (p : ℕ) (o : Option Held) → IfSome o (λ h. IsCore c h (stood_of c p)) → IfSome o (λ h. AreBooked c (h.queue.reds ++ h.own)) → IfSome o (λ h. FineHeld c.book h (stood_of c p))
  of_disk p None core are = tt
  of_disk p (Some h) core are = holds h (stood_of c p) core (front-each (IsNamed c.book) (stood_of c p) (greens_of c p) (i.replica.disk_behind.behind p) (greens p)) are

  of_copy : (joiner : ℕ) (o : Option TransferState) → IfSome o (λ s. IsCore c (joiner_replica joiner s.content).held (copied_for c joiner)) → IfSome o (λ s. Each (IsNamed c.book) (copied_for c joiner)) →
      IfSome o (λ s. FineHeld c.book (joiner_replica joiner s.content).held (copied_for c joiner))
  of_copy joiner None core each = tt
  of_copy joiner (Some s) core each =
      (record { greens = kept-greens (joiner_replica joiner s.content).held (copied_for c joiner) core each; reds = tt; own = tt }, each)

-- what a commit, a crash, a recovery and a join make of what is held is made of the same actions
pub booked-closed : (book : List Action) → IsClosed (FineHeld book)
unfolding whiten recovery_turn
booked-closed book = record {
  whitened = λ h all is. (record { greens = Each-drop (IsNamed book) (white_at h - h.queue.white) h.queue.greens is.0.greens; reds = is.0.reds; own = is.0.own }, is.1);
  stored = λ h all is. (record { greens = is.0.greens; reds = is.0.reds; own = is.0.own }, is.1);
  recovers = λ h all is. (own-fine (IsNamed book) (begin (record { held = h; state = NonPrim false })) is.0, is.1);
  joins = λ p h all is. (record { greens = is.0.greens; reds = tt; own = tt }, is.1);
}

-- where each core's actions are those of their names, and so are those in messages, the facts say so
module _ (d : Chronicle) (cores : OfCores d (FineHeld d.book)) where
  pub greens-booked : Hosted d → DiskBehind d → (p : ℕ) → AreBooked d (greens_of d p)
  greens-booked hosted behind p = booked-each d (greens_of d p) (at (replica_of d.world p) refl (cores.memory p)) where
    from_disk : (o : Option Held) → disk_held d.world p ≡ o → IfSome o (λ h. FineHeld d.book h (stood_of d p)) → greens_of d p ≡ stood_of d p → Each (IsNamed d.book) (greens_of d p)
    from_disk (Some h) e is same = subst (Each (IsNamed d.book)) (sym same) is.1
    from_disk None e is same = subst (Each (IsNamed d.book)) (sym (nothing (past_of d p) refl)) tt where
      begun : (o : Option Node) → option_map (λ s. on_disk s.life) o ≡ None → is_some o ≡ false
      begun None n = refl
      begun (Some s) n = absurd (let clash : Some (on_disk s.life) ≡ None = n in cc)

      nothing : (o : Option Past) → past_of d p ≡ o → greens_of d p ≡ []
      nothing None n = ap (λ (o : Option Past). option_map_or (λ x. x.greens) o []) n
      nothing (Some x) n = absurd (let clash : true ≡ false = sym (ap is_some n) ∙ hosted.past p ∙ begun (node_of d.world p) e in cc)

    at : (o : Option Replica) → replica_of d.world p ≡ o → IfSome o (λ r. FineHeld d.book r.held (greens_of d p)) → Each (IsNamed d.book) (greens_of d p)
    at None e is = from_disk (disk_held d.world p) refl (cores.disk p) (behind.down p e)
    at (Some r) e is = is.1

  pub memory-booked : (p : ℕ) → IfSome (replica_of d.world p) (λ r. AreBooked d (r.held.queue.reds ++ r.held.own))
  memory-booked p = at (replica_of d.world p) (cores.memory p) where
    at : (o : Option Replica) → IfSome o (λ r. FineHeld d.book r.held (greens_of d p)) → IfSome o (λ r. AreBooked d (r.held.queue.reds ++ r.held.own))
    at None is = tt
    at (Some r) is = booked-each d (r.held.queue.reds ++ r.held.own) (Each-append (IsNamed d.book) r.held.queue.reds r.held.own is.0.reds is.0.own)

  pub disk-booked : (p : ℕ) → IfSome (disk_held d.world p) (λ h. AreBooked d (h.queue.reds ++ h.own))
  disk-booked p = at (disk_held d.world p) (cores.disk p) where
    at : (o : Option Held) → IfSome o (λ h. FineHeld d.book h (stood_of d p)) → IfSome o (λ h. AreBooked d (h.queue.reds ++ h.own))
    at None is = tt
    at (Some h) is = booked-each d (h.queue.reds ++ h.own) (Each-append (IsNamed d.book) h.queue.reds h.own is.0.reds is.0.own)

  pub copies-booked : (joiner : ℕ) → IfSome (snapshot_of d.world joiner) (λ s. Each (IsNamed d.book) (copied_for d joiner))
  copies-booked joiner = at (snapshot_of d.world joiner) (cores.snapshot joiner) where
    at : (o : Option TransferState) → IfSome o (λ s. FineHeld d.book (joiner_replica joiner s.content).held (copied_for d joiner)) → IfSome o (λ s. Each (IsNamed d.book) (copied_for d joiner))
    at None is = tt
    at (Some s) is = is.1

pub messages-booked : (d : Chronicle) (conf : ℕ) → Each (λ s. OfMessage (IsNamed d.book) s.message) (ordered_in d conf) → AreBooked d (filter_map (λ s. action_in s.message) (ordered_in d conf))
messages-booked d conf each = booked-each d (filter_map (λ s. action_in s.message) (ordered_in d conf)) (each-sent (IsNamed d.book) (ordered_in d conf) each)

pub waits-booked : (d : Chronicle) (p : ℕ) → Each (OfMessage (IsNamed d.book)) (unordered_of d.world.group p) → AreBooked d (filter_map action_in (unordered_of d.world.group p))
waits-booked d p each = booked-each d (filter_map action_in (unordered_of d.world.group p)) (each-messages (IsNamed d.book) (unordered_of d.world.group p) each)
