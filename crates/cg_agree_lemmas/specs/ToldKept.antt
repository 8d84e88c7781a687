-- What was told in configurations: every small step but an entry leaves it.
use Rattle.std.proofs.Common.{◌≡◌, ℕ, true, false, ◌&&◌, List, [], ◌∷◌, ◌++◌, Option, Some, None, map, find, fold, filter_map, refl, ap, ◌∙◌, append-nil}
use Rattle.std.specs.Prelude.{◌==◌}
use Rattle.std.specs.Option.{option_map_or}
use Rattle.std.proofs.lemmas.Bool.{cond_both}
use Rattle.std.proofs.lemmas.List.Elements.{filter_map-append}
use Rattle.cg_action.specs.declared.action.Kind.{Kind}
use Rattle.cg_knowledge.specs.declared.summary.Summary.{Summary}
use Rattle.cg_wire.specs.declared.message.Msg.{Msg}
use Rattle.cg_group.specs.State.{GroupState}
use Rattle.cg_client.specs.Replica.{State, RegPrim, TransPrim, ExchangeStates, ExchangeActions, Construct, No, Un, NonPrim, Left}
use Rattle.cg_client.specs.Turn.{Turn, begin}
use Rattle.cg_client.specs.Requests.{is_creating, create, create_kept, empty_buffer, settle, request_in}
use Rattle.cg_model.specs.World.{NodeState, Up, Down as DownLife, Node, node_of, replica_of}
use Rattle.cg_model.specs.Chronicle.{Told, Chronicle}
use Rattle.cg_model.specs.Looks.{greens_of, told_in, snapshot_of}
use Rattle.cg_model.specs.Talk.{summary_in}
use Rattle.cg_model.specs.Small.{Small, Starts, Makes, Enters, Orders, Receives, Hands, Leaves, Asks, Settles, Commits, Crashes, Recovers, Copies, Joins, small_step, turning_as, turning, commit_as, crash_as, recover_as, copy_as, join_with, take_request, take_next, take_parting, handed_next, leaving}
use Rattle.cg_agree_lemmas.specs.DeliveriesSay.{silent-next, silent-parting}

-- nothing that is told comes out of a part of a turn
abbrev pub TellsNothing : (Turn → Turn) → Type 0
TellsNothing f = (t : Turn) → filter_map summary_in (f t).sent ≡ filter_map summary_in t.sent

pub untold-next : (g : GroupState Msg) (p : ℕ) → TellsNothing (take_next g p)
untold-next g p = silent-next summary_in (λ n a. refl) (λ a. refl) (λ i k. refl) g p

pub untold-parting : (g : GroupState Msg) (p : ℕ) (set places : List ℕ) → TellsNothing (take_parting g p set places)
untold-parting g p set places = silent-parting summary_in (λ n a. refl) (λ a. refl) (λ i k. refl) g p set places

untold-create : (t : Turn) (kind : Kind) → filter_map summary_in (create t kind).sent ≡ filter_map summary_in t.sent
unfolding create
untold-create t kind = filter_map-append summary_in t.sent _ ∙ append-nil (filter_map summary_in t.sent)

untold-creates : (kinds : List Kind) (t : Turn) → filter_map summary_in (fold create t kinds).sent ≡ filter_map summary_in t.sent
untold-creates [] t = refl
untold-creates (kind ∷ kinds) t = untold-creates kinds (create t kind) ∙ untold-create t kind

pub untold-settle : TellsNothing settle
unfolding create_kept
untold-settle t =
    cond_both (is_creating t.replica.state) (create_kept t) t (λ u. filter_map summary_in u.sent ≡ filter_map summary_in t.sent)
    (λ y. untold-creates t.replica.held.buffered (empty_buffer t)) (λ n. refl)

pub untold-request : (kind : Kind) → TellsNothing (take_request kind)
untold-request kind t = at t.replica.state where
  at : (state : State) → filter_map summary_in (request_in state t kind).sent ≡ filter_map summary_in t.sent
  at RegPrim = untold-create t kind
  at (NonPrim true) = untold-create t kind
  at (NonPrim false) = refl
  at Left = refl
  at TransPrim = refl
  at (ExchangeStates conf set heard) = refl
  at (ExchangeActions conf set heard) = refl
  at (Construct conf heard) = refl
  at (No conf heard) = refl
  at Un = refl

-- ---- behind a turn

abbrev told-by : Chronicle → ℕ → Summary → Told
told-by c p s = record { summary = s; greens = greens_of c p }

pub told-turning : (c : Chronicle) (p : ℕ) (part : Turn → Turn) → TellsNothing part → (turning c p part).told ≡ c.told
told-turning c p part untold = at (node_of c.world p) where
  life : (l : NodeState) → (turning_as c p part l).told ≡ c.told
  life (Up r disk) = ap (λ xs. c.told ++ map (told-by c p) xs) (untold (begin r)) ∙ append-nil c.told
  life (DownLife disk green) = refl

  at : (o : Option Node) → (option_map_or (λ s. turning_as c p part s.life) o c).told ≡ c.told
  at None = refl
  at (Some s) = life s.life

-- at a node, where there is one
at-some : {X : Type 0} (o : Option X) (change : X → Chronicle) (c : Chronicle) → ((x : X) → (change x).told ≡ c.told) → (option_map_or change o c).told ≡ c.told
at-some None change c each = refl
at-some (Some x) change c each = each x

commit-told : (c : Chronicle) (p : ℕ) (l : NodeState) → (commit_as c p l).told ≡ c.told
commit-told c p (Up r disk) = refl
commit-told c p (DownLife disk green) = refl

crash-told : (c : Chronicle) (p : ℕ) (l : NodeState) → (crash_as c p l).told ≡ c.told
crash-told c p (Up r disk) = refl
crash-told c p (DownLife disk green) = refl

recover-told : (c : Chronicle) (l : NodeState) → (recover_as c l).told ≡ c.told
recover-told c (Up r disk) = refl
recover-told c (DownLife disk green) = refl

-- a small step by which nothing is told
abbrev pub IsUntold : Small → Type 0
IsUntold (Enters p) = ⊥
IsUntold _ = Unit {0}

pub told-same : (c : Chronicle) (s : Small) → IsUntold s → (small_step c s).told ≡ c.told
unfolding small_step
told-same c (Starts set) is = refl
told-same c (Makes set) is = refl
told-same c (Enters p) is = absurd is
told-same c (Orders p) is = refl
told-same c (Receives p place) is = refl
told-same c (Hands p) is = told-turning (handed_next c p) p (take_next c.world.group p) (untold-next c.world.group p)
told-same c (Leaves p set own places) is = told-turning (leaving c p set own) p (take_parting c.world.group p set places) (untold-parting c.world.group p set places)
told-same c (Asks p kind) is = told-turning c p (take_request kind) (untold-request kind)
told-same c (Settles p) is = told-turning c p settle untold-settle
told-same c (Commits p) is = at-some (node_of c.world p) (λ s. commit_as c p s.life) c (λ s. commit-told c p s.life)
told-same c (Crashes p) is = at-some (node_of c.world p) (λ s. crash_as c p s.life) c (λ s. crash-told c p s.life)
told-same c (Recovers p) is = at-some (node_of c.world p) (λ s. recover_as c s.life) c (λ s. recover-told c s.life)
told-same c (Copies p joiner) is = at-some (replica_of c.world p) (copy_as c p joiner) c (λ r. refl)
told-same c (Joins joiner) is = at-some (snapshot_of c.world joiner) (λ s. join_with c joiner s.content) c (λ s. refl)

pub told_in-same : (c d : Chronicle) → d.told ≡ c.told → (conf p : ℕ) → told_in d conf p ≡ told_in c conf p
told_in-same c d same conf p = ap (find (λ (t : Told). (t.summary.conf == conf) && (t.summary.id == p))) same
