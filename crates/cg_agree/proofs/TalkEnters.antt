-- The small step by which a replica enters the newest configuration keeps the facts about what is said.
use Rattle.std.proofs.Common.{◌≡◌, ℕ, zero, suc, Bool, true, false, cond, not, [], ◌∷◌, ◌++◌, IfSome, refl, sym, ap, ap₂, ◌∙◌, eqb-true, eq-eqb, append-nil, subst, arith}
use Rattle.std.specs.Prelude.{◌==◌}
use Rattle.std.specs.Option.{option_map_or}
use Rattle.std.proofs.lemmas.Bool.{cond-true, false_from_ne_true, and_parts, ne_eqb, not-true}
use Rattle.cg_base.specs.BoolLaws.{cond_twice}
use Rattle.cg_wire.specs.declared.message.Msg.{Msg}
use Rattle.cg_wire.specs.declared.message.Msg.TheVariants.{State as StateMsg}
use Rattle.cg_group.specs.declared.phase.Phase.{Phase}
use Rattle.cg_group.specs.declared.phase.Phase.TheVariants.{Regular, Transitional, Alone, Down}
use Rattle.cg_group.specs.State.{GroupState, phase_of, is_regular, regular_in, delivered_to, unordered_of}
use Rattle.cg_group.specs.Events.{become_regular, send_all}
use Rattle.cg_group.specs.LookupLaws.{unordered_of-set}
use Rattle.cg_client.specs.Turn.{Turn}
use Rattle.cg_client.specs.Summary.{summary_of}
use Rattle.cg_model.specs.World.{Up, replica_of}
use Rattle.cg_model.specs.Chronicle.{Chronicle}
use Rattle.cg_model.specs.Looks.{told_in, is_regular_at, is_regular_in, members_in, ordered_in}
use Rattle.cg_model.specs.FactsNet.{PhaseSound, IsPhase}
use Rattle.cg_model.specs.FactsReplica.{IsModeData}
use Rattle.cg_model.specs.FactsTalk.{TalkFacts}
use Rattle.cg_model.specs.Small.{Enters, small_step, coming, newest_conf, after_turn}
use Rattle.cg_model.specs.Smalls.{may_make, is_between}
use Rattle.cg_agree_lemmas.specs.EntersTurn.{TellsItsSummary as ToldIn, told-newest}
use Rattle.cg_agree_lemmas.specs.GroupTurn.{Moved, moved-sent}
use Rattle.cg_agree_lemmas.specs.OneStands.{Stands, stands-entered}
use Rattle.cg_agree.proofs.PastKept.{EntersNow, enters-now, entry_turn, entry_told, enters-is, told_in-enters, summary-conf, summary-id}
use Rattle.cg_agree_lemmas.specs.SmallTalk.{conf-there}
use Rattle.cg_agree.proofs.TalkAlone.{replica-set}
use Rattle.cg_agree_lemmas.specs.TalkComes.{Comes, talk-comes}
use Rattle.cg_agree_lemmas.specs.CoresSmall.{nil-is}

module _ (c : Chronicle) (p : ℕ) (sound : PhaseSound c) (now : EntersNow c p) where
  abbrev g : GroupState Msg
  g = c.world.group

  abbrev conf : ℕ
  conf = newest_conf g

  abbrev u : Turn
  u = entry_turn c now.replica

  abbrev entered : GroupState Msg
  entered = become_regular conf g p

  abbrev d : Chronicle
  d = after_turn (coming c p) p now.replica now.disk u

  turn : ToldIn conf (members_in c conf) now.replica u
  turn = told-newest g now.replica now.between

  -- it has a number
  there : (conf == 0) ≡ false
  there = let range = conf-there g conf p now.may.member in ne_eqb conf 0 (λ e. (let lt = range.0 in omega arith))

  was_regular : is_regular g p ≡ false
  was_regular = not-true (is_regular g p) (and_parts (not (is_regular g p)) (option_map_or (λ r. is_between r.state) (replica_of c.world p) false) now.may.comes).0

  nowhere : (k : ℕ) (x : Phase) → not (regular_in x == 0) ≡ false → (k == 0) ≡ false → is_regular_at k x ≡ false
  nowhere k Down e pos = refl
  nowhere k Alone e pos = refl
  nowhere k (Transitional at set) e pos = refl
  nowhere k (Regular at) e pos = false_from_ne_true (at == k) (λ y. absurd (let clash : true ≡ false = ap not (sym (ap (λ x. x == 0) (eqb-true at k y) ∙ pos)) ∙ e in cc))

  -- regular in no configuration, also in none without a number
  was-out : (k : ℕ) → is_regular_in c k p ≡ false
  was-out zero = false_from_ne_true (is_regular_in c 0 p) (λ y. absurd (none (phase_of g p) y (sound.phase p))) where
    none : (x : Phase) → is_regular_at 0 x ≡ true → IsPhase c p (delivered_to g p) x → ⊥
    none Down y is = let clash : false ≡ true = y in cc
    none Alone y is = let clash : false ≡ true = y in cc
    none (Transitional at set) y is = let clash : false ≡ true = y in cc
    none (Regular at) y is = (let range = conf-there g at p is.0 in let zero' : at ≡ 0 = eqb-true at 0 y in let lt = range.0 in omega arith)
  was-out (suc n) = nowhere (suc n) (phase_of g p) was_regular (ne_eqb (suc n) 0 (λ e. omega arith))

  first : Stands g entered p (Regular conf) 0 true
  first = stands-entered conf g p

  own : (p == p) ≡ true
  own = eq-eqb p p refl

  entered-waits : (q : ℕ) → unordered_of entered q ≡ cond (q == p) [] (unordered_of g q)
  unfolding become_regular
  entered-waits q = unordered_of-set g (record { id = p; phase = Regular conf; delivered = 0; unordered = [] }) q

  regular-now : is_regular entered p ≡ true
  regular-now = ap (λ x. not (regular_in x == 0)) (first.phase p ∙ cond-true (p == p) (Regular conf) (phase_of g p) own) ∙ ap not there

  none-yet : unordered_of entered p ≡ []
  none-yet = entered-waits p ∙ cond-true (p == p) [] (unordered_of g p) own

  zero-yet : delivered_to entered p ≡ 0
  zero-yet = first.delivered p ∙ cond-true (p == p) 0 (delivered_to g p) own

  moved : Moved entered (send_all entered p u.sent) p 0 u.sent
  moved = moved-sent u.sent entered entered p 0 [] itself regular-now where
    itself : Moved entered entered p 0 []
    itself = record {
      conf = λ k. refl;
      phase = λ q. refl;
      delivered = λ q. same q (q == p) refl;
      waits = λ q. waiting q (q == p) refl;
    } where
      same : (q : ℕ) (b : Bool) → (q == p) ≡ b → delivered_to entered q ≡ cond b 0 (delivered_to entered q)
      same q true y = ap (delivered_to entered) (eqb-true q p y) ∙ zero-yet
      same q false n = refl

      waiting : (q : ℕ) (b : Bool) → (q == p) ≡ b → unordered_of entered q ≡ cond b (unordered_of entered p ++ []) (unordered_of entered q)
      waiting q true y = ap (unordered_of entered) (eqb-true q p y) ∙ sym (append-nil (unordered_of entered p))
      waiting q false n = refl

  comes : Comes c d p conf (entry_told c p now.replica) u.replica
  comes = record {
    confs = λ k. moved.conf k ∙ first.conf k;
    unsaid = nil-is (ordered_in c conf) now.may.unsaid;
    member = now.may.member;
    was_out = was-out;
    phase = λ q. moved.phase q ∙ first.phase q;
    delivered = λ q. moved.delivered q ∙ ap (cond (q == p) 0) (first.delivered q) ∙ cond_twice (q == p) 0 0 (delivered_to g q);
    waits = λ q. moved.waits q ∙ ap₂ (cond (q == p)) (ap₂ (λ xs ys. xs ++ ys) none-yet turn.sent) (entered-waits q) ∙ cond_twice (q == p) (StateMsg (summary_of u.replica.held conf) ∷ []) [] (unordered_of g q);
    told = λ k q. ap (λ (x : Chronicle). told_in x k q) (sym (enters-is c p now)) ∙ told_in-enters c p now k q;
    replica = λ q. replica-set c.world p (Up u.replica now.disk) q;
    id = summary-id c p now;
    at = summary-conf c now.replica;
    state = turn.state;
  }

  pub enters-talk : TalkFacts c → TalkFacts (small_step c (Enters p))
  enters-talk old = subst TalkFacts (sym (enters-is c p now)) (talk-comes c d p conf (entry_told c p now.replica) u.replica comes old)

pub talk-enters : (c : Chronicle) (p : ℕ) → PhaseSound c → IfSome (replica_of c.world p) (IsModeData c p) → may_make c (Enters p) ≡ true → TalkFacts c → TalkFacts (small_step c (Enters p))
talk-enters c p sound mode may old = enters-talk c p sound (enters-now c p sound mode may) old
