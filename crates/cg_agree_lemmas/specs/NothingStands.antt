-- Before the start there is nothing to tell: the empty chronicle stands beside the empty world.
use Rattle.std.proofs.Common.{◌≡◌, ℕ, zero, suc, false, List, [], ◌++◌, length, filter_map, Option, Some, None, refl, sym, ap, ap₂, ◌∙◌, subst, arith}
use Rattle.cg_base.specs.Sets.{has}
use Rattle.cg_knowledge.specs.Summaries.{senders, remaining}
use Rattle.cg_wire.specs.declared.message.Msg.{Msg}
use Rattle.cg_group.specs.State.{Sent, Configuration, configuration, no_configuration, standing_of, has_received}
use Rattle.cg_model.specs.World.{no_world}
use Rattle.cg_model.specs.Chronicle.{Told, no_chronicle}
use Rattle.cg_model.specs.Looks.{conf_of, members_in, ordered_in, placed_of, waiting_in, said_in, is_regular_in}
use Rattle.cg_model.specs.Talk.{talk_of, no_talk, is_legal, announcer_in, act_in, action_in}
use Rattle.cg_model.specs.FactsNet.{NetFacts}
use Rattle.cg_model.specs.FactsTalk.{AreTold, whole_talk, TalkFacts}
use Rattle.cg_model.specs.FactsReplica.{AreBooked, ReplicaFacts}
use Rattle.cg_model.specs.FactsExchange.{ExchangeFacts}
use Rattle.cg_model.specs.FactsAttempts.{AttemptFacts}
use Rattle.cg_model.specs.FactsGreens.{GreenFacts}
use Rattle.cg_model.specs.Facts.{Invariant, Rests}
use Rattle.cg_model.specs.Played.{StandsBeside, with_world}
use Rattle.cg_base.specs.BoolLaws.{impossible}

-- ---- no configuration is made

conf-none : (k : ℕ) → conf_of no_chronicle k ≡ no_configuration
unfolding configuration
conf-none zero = refl
conf-none (suc k) = refl

ordered-none : (k : ℕ) → ordered_in no_chronicle k ≡ []
ordered-none k = ap (λ (x : Configuration Msg). x.ordered) (conf-none k)

heard-none : (k : ℕ) → whole_talk no_chronicle k ≡ no_talk
heard-none k = ap talk_of (ordered-none k)

received-nothing : (p place : ℕ) → has_received {M = Msg} no_configuration p place ≡ false
unfolding has_received
received-nothing p zero = refl
received-nothing p (suc place) = refl

unreceived : (conf p place : ℕ) → has_received (conf_of no_chronicle conf) p place ≡ false
unreceived conf p place = ap (λ (x : Configuration Msg). has_received x p place) (conf-none conf) ∙ received-nothing p place

irregular : (conf p : ℕ) → is_regular_in no_chronicle conf p ≡ false
unfolding standing_of
irregular conf p = refl

waits-none : (conf p : ℕ) → waiting_in no_chronicle conf p ≡ []
unfolding standing_of
waits-none conf p = refl

said-none : (conf p : ℕ) → said_in no_chronicle conf p ≡ []
said-none conf p = ap₂ (λ (xs : List (Sent Msg)) ys. placed_of p xs ++ ys) (ordered-none conf) (waits-none conf p)

-- ---- the facts

net : NetFacts no_chronicle
unfolding standing_of
net = record {
  hosted = record { past = λ p. refl; disk = λ p. tt; copied = λ joiner. refl; once = λ joiner. omega arith; before = λ e. refl };
  phase_sound = record { phase = λ p. tt; up = λ p. refl };
  receipts_inside = record {
    places = λ conf. ap (λ (x : Configuration Msg). length x.received) (conf-none conf) ∙ sym (ap (λ (x : Configuration Msg). length x.ordered) (conf-none conf));
    member = λ conf p place e. impossible (sym (unreceived conf p place) ∙ e);
    sender = λ conf place some within. absurd (let none = ap length (ordered-none conf) in omega arith);
  };
  sender_closed = λ conf p earlier place some before same e. impossible (sym (unreceived conf p place) ∙ e);
  handed_received = λ conf p e. impossible (sym (irregular conf p) ∙ e);
  unordered_regular = λ p out. refl;
  members_begun = record {
    member = λ conf p e. impossible (sym (ap (λ (x : Configuration Msg). has x.members p) (conf-none conf)) ∙ e);
    server = λ p e. impossible e;
    told = λ conf p. tt;
  };
  past_left = record { member = λ conf p e. impossible e; left = λ conf p earlier e less. impossible e };
}

nobody-remains : (p : ℕ) → has (remaining []) p ≡ false
unfolding remaining senders
nobody-remains p = refl

talk : TalkFacts no_chronicle
unfolding standing_of
talk = record {
  talk_legal = record {
    ordered = λ conf. ap (is_legal (members_in no_chronicle conf) conf no_talk) (ordered-none conf);
    waiting = λ conf p. refl;
  };
  sent_iff_due = λ conf p e. impossible (sym (irregular conf p) ∙ e);
  heard_is_told = λ conf. subst (λ t. AreTold no_chronicle conf t.heard) (sym (heard-none conf)) tt;
  mode_fits = λ p. tt;
  content = λ conf p. tt;
  acts_numbered = record {
    said = λ conf p ended remains. impossible (sym (nobody-remains p) ∙ sym (ap (λ t. has (remaining t.heard) p) (heard-none conf)) ∙ remains);
    handed = λ p. tt;
  };
}

replica : ReplicaFacts no_chronicle
unfolding standing_of
replica = record {
  cores = record { memory = λ p. tt; disk = λ p. tt; snapshot = λ joiner. tt };
  mode_data = λ p. tt;
  disk_behind = record { behind = λ p. tt; down = λ p e. refl };
  made_once = record {
    numbered = refl;
    counted = λ p. tt;
    in_greens = λ p. tt;
    in_memory = λ p. tt;
    on_disk = λ p. tt;
    in_messages = λ conf. subst (λ (xs : List (Sent Msg)). AreBooked no_chronicle (filter_map (λ s. action_in s.message) xs)) (sym (ordered-none conf)) tt;
    in_waiting = λ p. tt;
  };
  origins = record { unbegun = λ p none. refl; starters = λ p was. impossible was; parts = λ conf. tt };
  lines_below = record { actions = tt; cores = record { memory = λ p. tt; disk = λ p. tt; snapshot = λ joiner. tt } };
}

abbrev no_told : Option Told
no_told = None

exchange : ExchangeFacts no_chronicle
exchange = record {
  summary_of_sender = record { fits = λ conf p. tt; levels = λ conf p. tt; outdone = λ conf p. tt; inside = λ conf p e. tt };
  summary_lines = λ conf p q. tt;
  tellers_still = λ conf p t told nothing last. absurd (let none : no_told ≡ Some t = told in cc);
  exchange_progress = λ conf p e. impossible (sym (irregular conf p) ∙ e);
}

attempt : AttemptFacts no_chronicle
attempt = record {
  attempt_shape = λ conf. tt;
  attempt_list = λ p. tt;
  yellow_valid = λ p. tt;
  left_out = λ conf p here. refl;
  levels_stand = record { opened = λ level less. absurd (omega arith); opens = λ conf. tt; known = record { memory = λ p. tt; disk = λ p. tt; snapshot = λ joiner. tt } };
  announced_entered = λ conf p some. absurd (let none = ap (λ xs. length (filter_map announcer_in xs)) (said-none conf p) in omega arith);
  installed_announced = λ conf p e. impossible e;
  act_installed = λ conf p decided some. absurd (let none = ap (λ xs. length (filter_map act_in xs)) (said-none conf p) in omega arith);
  record_of_attempt = record { memory = λ p. tt; disk = λ p. tt; snapshot = λ joiner. tt };
  installed_index = record { index = λ conf p. tt; count = λ conf p. tt };
  bits_witness = record { cores = record { memory = λ p. tt; disk = λ p. tt; snapshot = λ joiner. tt }; told = λ conf p. tt };
  dead_evidence = record { member = λ conf p out. tt; told = λ conf p later less. tt; cut_short = λ p. tt };
  one_attempt = λ conf later less. tt;
}

green : GreenFacts no_chronicle
green = record {
  begins_with = record { memory = λ p. tt; disk = λ p. tt; snapshot = λ joiner. tt };
  primary_greens = λ p. tt;
  installed_count = λ conf p. tt;
  spine = λ level less. absurd (omega arith);
  one_order = record { memory = λ p. tt; disk = λ p. tt; snapshot = λ joiner. tt };
  trans_coverage = λ p. tt;
  coverage = record { cores = record { memory = λ p. tt; disk = λ p. tt; snapshot = λ joiner. tt }; told = λ conf p. tt; attempts = λ conf. tt };
}

pub nothing-holds : Invariant no_chronicle
nothing-holds = record {
  lists = record { nodes = tt; standings = tt; received = tt; served = tt };
  net = net;
  talk = talk;
  replica = replica;
  exchange = exchange;
  attempt = attempt;
  green = green;
}

pub nothing-rests : Rests (with_world no_chronicle no_world)
nothing-rests = record {
  replica = record { disk_agrees = record { up = λ p. tt; greens = λ p. refl }; buffer_empty = λ p. tt };
  order_book = record { line = tt; reached = omega arith; up = λ p. tt; told = λ conf p. tt; copied = λ joiner. tt; made = refl };
  made_book = record { begun = λ p. tt; up = λ p. tt };
}

-- The empty chronicle stands beside the empty world.
pub nothing-stands : StandsBeside no_chronicle no_world
nothing-stands = record {
  facts = nothing-holds;
  same = record { group = refl; nodes = refl; running = λ p. refl; disk = λ p. refl; given = λ joiner. refl };
  rests = nothing-rests;
}
