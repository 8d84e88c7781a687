-- A place that is handed to a member keeps the facts about what is said.
use Rattle.std.proofs.Common.{◌≡◌, ℕ, zero, suc, true, false, cond, not, ◌&&◌, List, [], ◌∷◌, ◌++◌, Option, Some, None, map, take, drop, fold, filter_map, find, refl, sym, ap, ◌∙◌, eq-eqb, append-nil, subst, if◌then◌else◌, option_and_then}
use Rattle.std.specs.Prelude.{◌==◌, slice_get}
use Rattle.std.specs.Option.{option_map_or}
use Rattle.std.proofs.lemmas.Bool.{and_from}
use Rattle.std.proofs.lemmas.List.{append_assoc, map-append}
use Rattle.std.proofs.lemmas.List.Elements.{filter_map-append}
use Rattle.std.proofs.lemmas.List.Sums.{fold-append}
use Rattle.cg_base.specs.Sets.{has}
use Rattle.cg_knowledge.specs.declared.summary.Summary.{Summary}
use Rattle.cg_knowledge.specs.Summaries.{gone, remaining}
use Rattle.cg_knowledge.specs.Verdict.{decides}
use Rattle.cg_wire.specs.declared.message.Msg.{Msg}
use Rattle.cg_wire.specs.declared.message.Msg.TheVariants.{Action as ActionMsg, State as StateMsg, GreenItem, RedItem, Cpc}
use Rattle.cg_group.specs.declared.phase.Phase.TheVariants.{Regular}
use Rattle.cg_group.specs.State.{Sent, GroupState, phase_of, is_regular, regular_in, delivered_to, unordered_of, configuration}
use Rattle.cg_group.specs.Events.{with_delivered, delivery_at}
use Rattle.cg_client.specs.Replica.{State, Replica}
use Rattle.cg_group.specs.declared.delivery.Delivery.TheVariants.{Message}
use Rattle.cg_group.specs.LookupLaws.{at-cond, eqb_comm}
use Rattle.cg_client.specs.Turn.{Turn, begin}
use Rattle.cg_states.specs.Construct.{attempt_set}
use Rattle.cg_states.specs.ReplicaStep.{after_delivery as take_one, on_message}
use Rattle.cg_disk_records.specs.Crash.{Disk}
use Rattle.cg_model.specs.World.{Up, Node, node_of, replica_of, running}
use Rattle.cg_model.specs.Chronicle.{Told, Chronicle}
use Rattle.cg_model.specs.Looks.{told_in, greens_of, is_regular_in, is_regular_at, members_in, ordered_in, sent_by, placed_of, waiting_in, said_in}
use Rattle.cg_model.specs.Talk.{Talk, no_talk, talk_of, hears, hears_from, is_full, is_ended, may_say, is_legal, state_in, summary_in}
use Rattle.cg_model.specs.FactsTalk.{whole_talk, handed_talk, TalkLegal, SaysWhatIsDue, SentIffDue, HeardIsTold, ModeFits}
use Rattle.cg_model.specs.Small.{Hands, small_step, after_turn, turning_as, handed_next, take_next}
use Rattle.cg_agree_lemmas.specs.TalkEarly.{IsEarly, early-legal, early-none}
use Rattle.cg_agree_lemmas.specs.TalkCommute.{legal-append}
use Rattle.cg_agree_lemmas.specs.DueAll.{take-next}
use Rattle.cg_agree_lemmas.specs.SaidSoFar.{placed-append, placed-own}
use Rattle.cg_agree_lemmas.specs.HandKept.{hand-message}
use Rattle.cg_agree_lemmas.specs.HandTalk.{says-summary, says-green, says-red, says-cpc, says-act}
use Rattle.cg_agree_lemmas.specs.HandMay.{IsHanded, HasFirst, HasNext, all_said, may-summary, may-green, may-red, may-cpc, may-act, legal-parts, nil-behind}
use Rattle.cg_agree_lemmas.specs.ChronicleFacts.{node_of-set}
use Rattle.cg_agree_lemmas.specs.GroupTurn.{Moved, moved-handed, moved-sent, regular-moved}
use Rattle.cg_agree_lemmas.specs.TalkKept.{Turns, FitsAt, legal-kept, says-kept, told-kept, mode-kept}

-- what has to be there for a message to be answered
abbrev pub HasAnswer : List ℕ → Turn → Talk → ℕ → ℕ → Msg → Type 0
HasAnswer set tr t me from (StateMsg s) = is_full set (hears_from t from (StateMsg s)) ≡ true → HasFirst tr (hears_from t from (StateMsg s)) me
HasAnswer set tr t me from (GreenItem at a) = HasNext tr t me (GreenItem at a)
HasAnswer set tr t me from (RedItem a) = HasNext tr t me (RedItem a)
HasAnswer set tr t me from _ = Unit {0}

-- ---- one message at one member, apart from the world

pub record Keeps (set : List ℕ) (conf me : ℕ) (handed : List (Sent Msg)) (s : Sent Msg) (rest : List (Sent Msg)) (told : Option Told) (u : Turn) : Type 0 where
  pub state : u.replica.state ≡ state_in set conf (talk_of (handed ++ s ∷ [])) me
  pub says : SaysWhatIsDue set conf me (placed_of me (handed ++ s ∷ rest) ++ u.sent) (talk_of (handed ++ s ∷ [])) told
  pub legal : is_legal set conf (talk_of (handed ++ s ∷ rest)) (map (sent_by me) u.sent) ≡ true

module _ (set : List ℕ) (conf me : ℕ) (handed : List (Sent Msg)) (from : ℕ) (rest : List (Sent Msg)) (told : Option Told) (tr : Turn) where
  abbrev answer_to : Msg → List Msg
  answer_to m = (on_message (state_in set conf (talk_of handed) me) from m tr).sent

  abbrev all_with : Msg → List (Sent Msg)
  all_with m = all_said set conf me handed from m rest

  says-any : (m : Msg) → IsHanded set conf me handed from m rest told tr → HasAnswer set tr (talk_of handed) me from m →
      SaysWhatIsDue set conf me (placed_of me (all_with m) ++ answer_to m) (hears_from (talk_of handed) from m) told
  says-any m h has_answer = at m h has_answer (legal-parts set conf me handed from m rest h.legal).1 (early-legal set conf handed no_talk (early-none set) (legal-parts set conf me handed from m rest h.legal).0) where
    at : (m : Msg) → IsHanded set conf me handed from m rest told tr → HasAnswer set tr (talk_of handed) me from m → may_say set conf (talk_of handed) from m ≡ true → IsEarly set (talk_of handed) →
        SaysWhatIsDue set conf me (placed_of me (all_with m) ++ answer_to m) (hears_from (talk_of handed) from m) told
    at (StateMsg s) h has may early = says-summary set conf me (talk_of handed) early h.member tr h.id h.none (placed_of me (all_with (StateMsg s))) told h.says from s may has
    at (GreenItem n a) h has may early = says-green set conf me (talk_of handed) early h.member tr h.id h.none (placed_of me (all_with (GreenItem n a))) told h.says from n a may has
    at (RedItem a) h has may early = says-red set conf me (talk_of handed) early h.member tr h.id h.none (placed_of me (all_with (RedItem a))) told h.says from a may has
    at (Cpc i k) h has may early = says-cpc set conf me (talk_of handed) early h.member tr h.id h.none (placed_of me (all_with (Cpc i k))) told h.says from i k may
    at (ActionMsg a) h has may early = says-act set conf me (talk_of handed) early h.member tr h.id h.none (placed_of me (all_with (ActionMsg a))) told h.says from a may

  may-any : (m : Msg) → IsHanded set conf me handed from m rest told tr → HasAnswer set tr (talk_of handed) me from m →
      is_legal set conf (talk_of (all_with m)) (map (sent_by me) (answer_to m)) ≡ true
  may-any (StateMsg s) h has = may-summary set conf me handed from rest told tr s h has
  may-any (GreenItem n a) h has = may-green set conf me handed from rest told tr n a h has
  may-any (RedItem a) h has = may-red set conf me handed from rest told tr a h has
  may-any (Cpc i k) h has = may-cpc set conf me handed from rest told tr i k h
  may-any (ActionMsg a) h has = may-act set conf me handed from rest told tr a h

module _ (set : List ℕ) (conf me : ℕ) (handed : List (Sent Msg)) (from : ℕ) (m : Msg) (rest : List (Sent Msg)) (told : Option Told) (tr : Turn)
    (h : IsHanded set conf me handed from m rest told tr) (at : tr.replica.state ≡ state_in set conf (talk_of handed) me)
    (attempt : is_ended set (talk_of handed) ≡ true → has (gone (talk_of handed).heard) me ≡ false → decides (talk_of handed).heard ≡ true →
    attempt_set tr.replica.held ≡ remaining (talk_of handed).heard) where
  abbrev here : Sent Msg
  here = record { from = from; message = m }

  abbrev x : Talk
  x = talk_of handed

  abbrev answer : Turn
  answer = on_message (state_in set conf x me) from m tr

  behind-one : talk_of (handed ++ here ∷ []) ≡ hears_from x from m
  behind-one = fold-append hears no_talk handed (here ∷ [])

  pub keeps : HasAnswer set tr x me from m → Keeps set conf me handed here rest told answer
  keeps has_answer =
      let parts = legal-parts set conf me handed from m rest h.legal in
      let early = early-legal set conf handed no_talk (early-none set) parts.0 in
      record {
        state = hand-message set conf me x early tr h.id at attempt from m parts.1 ∙ ap (λ t. state_in set conf t me) (sym behind-one);
        says = subst (λ (t : Talk). SaysWhatIsDue set conf me (placed_of me (handed ++ here ∷ rest) ++ answer.sent) t told) (sym behind-one) (says-any set conf me handed from rest told tr m h has_answer);
        legal = may-any set conf me handed from rest told tr m h has_answer;
      }

-- ---- in the world

pub split-at : {X : Type 0} (xs : List X) (n : ℕ) (x : X) → slice_get xs n ≡ Some x → xs ≡ take n xs ++ x ∷ drop (suc n) xs
split-at [] n x e = absurd (let none : None ≡ Some x = e in cc)
split-at (y ∷ xs) zero x e = let is : y ≡ x = cc in ap (λ z. z ∷ xs) is
split-at (y ∷ xs) (suc n) x e = ap (λ zs. y ∷ zs) (split-at xs n x e)

-- a member is handed a place: what it is, and what other facts say of it
pub record HandsAt (c : Chronicle) (p conf : ℕ) (r : Replica) (disk : Disk) (s : Sent Msg) : Type 0 where
  pub node : node_of c.world p ≡ Some (record { id = p; life = Up r disk })
  pub regular : phase_of c.world.group p ≡ Regular conf
  pub number : (conf == 0) ≡ false
  pub next : slice_get (ordered_in c conf) (delivered_to c.world.group p) ≡ Some s
  pub member : has (members_in c conf) p ≡ true
  pub id : r.held.id ≡ p
  pub attempt : is_ended (members_in c conf) (handed_talk c conf p) ≡ true → has (gone (handed_talk c conf p).heard) p ≡ false →
      decides (handed_talk c conf p).heard ≡ true → attempt_set r.held ≡ remaining (handed_talk c conf p).heard
  pub has_answer : HasAnswer (members_in c conf) (begin r) (handed_talk c conf p) p s.from s.message

pub record SaidFacts (c : Chronicle) : Type 0 where
  pub legal : TalkLegal c
  pub says : SentIffDue c
  pub told : HeardIsTold c
  pub modes : ModeFits c

module _ (c : Chronicle) (p conf : ℕ) (r : Replica) (disk : Disk) (s : Sent Msg) (h : HandsAt c p conf r disk s) (old : SaidFacts c) where
  abbrev g : GroupState Msg
  g = c.world.group

  abbrev pub count : ℕ
  count = delivered_to g p

  abbrev pub set : List ℕ
  set = members_in c conf

  abbrev pub list : List (Sent Msg)
  list = ordered_in c conf

  abbrev pub front : List (Sent Msg)
  front = take count list

  abbrev pub waiting : List Msg
  waiting = unordered_of g p

  abbrev pub rest : List (Sent Msg)
  rest = drop (suc count) list ++ map (sent_by p) waiting

  -- the turn
  abbrev pub now : Turn
  now = on_message r.state s.from s.message (begin r)

  abbrev pub behind : Chronicle
  behind = after_turn (handed_next c p) p r disk now

  pub turn-is : take_next g p (begin r) ≡ now
  unfolding delivery_at take_one
  turn-is =
      ap (λ (x : ℕ). fold take_one (begin r) (delivery_at (configuration g x) (suc count))) (ap regular_in h.regular)
      ∙ ap (λ (o : Option (Sent Msg)). fold take_one (begin r) (option_map_or (λ s. Message (suc count) s.from s.message ∷ []) o [])) h.next

  pub step-is : small_step c (Hands p) ≡ behind
  unfolding small_step
  step-is =
      ap (λ (o : Option Node). option_map_or (λ s. turning_as (handed_next c p) p (take_next g p) s.life) o (handed_next c p)) h.node
      ∙ ap (after_turn (handed_next c p) p r disk) turn-is

  pub regular-in : is_regular_in c conf p ≡ true
  regular-in = ap (is_regular_at conf) h.regular ∙ eq-eqb conf conf refl

  regular-group : is_regular g p ≡ true
  regular-group = ap (λ x. not (regular_in x == 0)) h.regular ∙ ap not h.number

  waiting-is : waiting_in c conf p ≡ waiting
  waiting-is = ap (λ b. if b then waiting else []) regular-in

  pub all-is : front ++ s ∷ rest ≡ list ++ map (sent_by p) waiting
  all-is = sym (append_assoc front (s ∷ drop (suc count) list) (map (sent_by p) waiting)) ∙ ap (λ xs. xs ++ map (sent_by p) waiting) (sym (split-at list count s h.next))

  pub placed-is : placed_of p (front ++ s ∷ rest) ≡ said_in c conf p
  placed-is = ap (placed_of p) all-is ∙ placed-append p list (map (sent_by p) waiting) ∙ ap (λ xs. placed_of p list ++ xs) (placed-own p waiting ∙ sym waiting-is)

  pub waits-legal : is_legal set conf (whole_talk c conf) (map (sent_by p) waiting) ≡ true
  waits-legal = ap (λ xs. is_legal set conf (whole_talk c conf) (map (sent_by p) xs)) (sym waiting-is) ∙ old.legal.waiting conf p

  pub state-is : r.state ≡ state_in set conf (talk_of front) p
  state-is =
      let running' : replica_of c.world p ≡ Some r = ap (option_and_then (λ (x : Node). running x.life)) h.node in
      let mode = old.modes p in
      rw (running', h.regular) at mode

  pub is-handed : IsHanded set conf p front s.from s.message rest (told_in c conf p) (begin r)
  is-handed = record {
    member = h.member;
    legal = ap (is_legal set conf no_talk) all-is ∙ legal-append set conf list (map (sent_by p) waiting) no_talk
        ∙ and_from (is_legal set conf no_talk list) (is_legal set conf (whole_talk c conf) (map (sent_by p) waiting)) (old.legal.ordered conf) waits-legal;
    says = rw placed-is (old.says conf p regular-in);
    id = h.id;
    none = refl;
  }

  pub kept : Keeps set conf p front s rest (told_in c conf p) now
  kept = subst (λ (x : State). Keeps set conf p front s rest (told_in c conf p) (on_message x s.from s.message (begin r))) (sym state-is)
      (keeps set conf p front s.from s.message rest (told_in c conf p) (begin r) is-handed state-is h.attempt h.has_answer)

  pub next-talk : talk_of (take (suc count) list) ≡ talk_of (front ++ s ∷ [])
  next-talk = ap talk_of (take-next list count s h.next)

  pub whole-behind : fold hears (whole_talk c conf) (map (sent_by p) waiting) ≡ talk_of (front ++ s ∷ rest)
  whole-behind = sym (fold-append hears no_talk list (map (sent_by p) waiting)) ∙ ap talk_of (sym all-is)

  pub fits : FitsAt c p conf (suc count) now.sent now.replica
  fits = record {
    regular = h.regular;
    legal = ap (is_legal set conf (whole_talk c conf)) (map-append (sent_by p) waiting now.sent)
        ∙ legal-append set conf (map (sent_by p) waiting) (map (sent_by p) now.sent) (whole_talk c conf)
        ∙ and_from (is_legal set conf (whole_talk c conf) (map (sent_by p) waiting)) (is_legal set conf (fold hears (whole_talk c conf) (map (sent_by p) waiting)) (map (sent_by p) now.sent)) waits-legal
        (ap (λ t. is_legal set conf t (map (sent_by p) now.sent)) whole-behind ∙ kept.legal);
    says = rw (sym placed-is, next-talk) kept.says;
    state = kept.state ∙ ap (λ t. state_in set conf t p) (sym next-talk);
  }

  -- no summary is told
  pub no-summary : filter_map summary_in now.sent ≡ []
  no-summary =
      let said = placed_of p (front ++ s ∷ rest) in
      nil-behind (filter_map summary_in said) (filter_map summary_in now.sent)
      (sym (filter_map-append summary_in said now.sent) ∙ kept.says.summary ∙ sym is-handed.says.summary)

  moved : Moved g behind.world.group p (suc count) now.sent
  moved =
      let handed = moved-handed g p (suc count) regular-group in
      moved-sent now.sent g (with_delivered g p (suc count)) p (suc count) [] handed (regular-moved g (with_delivered g p (suc count)) p (suc count) [] handed regular-group)

  pub turns : Turns c behind p (suc count) now.sent now.replica
  turns = record {
    conf = moved.conf;
    phase = moved.phase;
    delivered = moved.delivered;
    waits = moved.waits;
    told = λ k q. ap (λ xs. find (λ (t : Told). (t.summary.conf == k) && (t.summary.id == q)) (c.told ++ map (λ x. told-by x) xs)) no-summary
        ∙ ap (find (λ (t : Told). (t.summary.conf == k) && (t.summary.id == q))) (append-nil c.told);
    replica = λ q. ap (option_and_then (λ (x : Node). running x.life)) (node_of-set c.world p (Up now.replica disk) q)
        ∙ at-cond (option_and_then (λ (x : Node). running x.life)) (p == q) (Some (record { id = p; life = Up now.replica disk })) (node_of c.world q)
        ∙ ap (λ b. cond b (Some now.replica) (replica_of c.world q)) (eqb_comm p q);
  } where
    told-by : Summary → Told
    told-by x = record { summary = x; greens = greens_of (handed_next c p) p }

  -- a place that is handed keeps the facts about what is said
  pub hands-said : SaidFacts (small_step c (Hands p))
  hands-said = subst SaidFacts (sym step-is) (record {
    legal = legal-kept c behind p conf (suc count) now.sent now.replica turns fits old.legal;
    says = says-kept c behind p conf (suc count) now.sent now.replica turns fits old.says;
    told = told-kept c behind p conf (suc count) now.sent now.replica turns fits old.told;
    modes = mode-kept c behind p conf (suc count) now.sent now.replica turns fits old.modes;
  })
