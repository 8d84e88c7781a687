-- No small step takes an action out of the book, so that what stands in it behind an event stands in it for ever.
use Rattle.std.proofs.Common.{◌≡◌, ℕ, List, [], ◌∷◌, ◌++◌, Option, Some, None, refl, sym, ap, ◌∙◌}
use Rattle.std.specs.Option.{option_map_or}
use Rattle.std.proofs.lemmas.List.{append-nil, append_assoc}
use Rattle.cg_action.specs.declared.action.Action.{Action}
use Rattle.cg_client.specs.Replica.{Replica}
use Rattle.cg_client.specs.Turn.{Turn, begin}
use Rattle.cg_client.specs.Requests.{settle}
use Rattle.cg_schedule.specs.declared.event.Event.{Event}
use Rattle.cg_model.specs.World.{NodeState, Up, Down, Node, TransferState, World, node_of, replica_of}
use Rattle.cg_model.specs.Chronicle.{Chronicle}
use Rattle.cg_model.specs.Looks.{snapshot_of}
use Rattle.cg_model.specs.Small.{Small, Starts, Makes, Enters, Orders, Receives, Hands, Leaves, Asks, Settles, Commits, Crashes, Recovers, Copies, Joins, small_step, turning, turning_as, commit_as, crash_as, recover_as, coming, take_newest, handed_next, take_next, leaving, take_parting, take_request, copy_as, join_with}
use Rattle.cg_model.specs.Smalls.{smalls_in}
use Rattle.cg_model.specs.Noting.{chronicle_step, played}

pub record BookGoesOn (c d : Chronicle) : Type 0 where
  pub more : List Action
  pub all : d.book ≡ c.book ++ more

same-book : (c d : Chronicle) → d.book ≡ c.book → BookGoesOn c d
same-book c d e = record { more = []; all = e ∙ sym (append-nil c.book) }

book-then : (c d e : Chronicle) → BookGoesOn c d → BookGoesOn d e → BookGoesOn c e
book-then c d e first second =
    record { more = first.more ++ second.more; all = second.all ∙ ap (λ xs. xs ++ second.more) first.all ∙ append_assoc c.book first.more second.more }

-- a turn, also behind a change of the group
book-turning : (c b : Chronicle) (p : ℕ) (part : Turn → Turn) → b.book ≡ c.book → BookGoesOn c (turning b p part)
book-turning c b p part same = at (node_of b.world p) where
  life : (l : NodeState) → BookGoesOn c (turning_as b p part l)
  life (Up r disk) = record { more = (part (begin r)).made; all = ap (λ xs. xs ++ (part (begin r)).made) same }
  life (Down disk green) = same-book c b same

  at : (o : Option Node) → BookGoesOn c (option_map_or (λ s. turning_as b p part s.life) o b)
  at None = same-book c b same
  at (Some s) = life s.life

by_node : (c : Chronicle) (change : NodeState → Chronicle) → ((l : NodeState) → (change l).book ≡ c.book) → (o : Option Node) → (option_map_or (λ s. change s.life) o c).book ≡ c.book
by_node c change each None = refl
by_node c change each (Some s) = each s.life

by_replica : (c : Chronicle) (p joiner : ℕ) (o : Option Replica) → (option_map_or (copy_as c p joiner) o c).book ≡ c.book
by_replica c p joiner None = refl
by_replica c p joiner (Some r) = refl

by_snapshot : (c : Chronicle) (joiner : ℕ) (o : Option TransferState) → (option_map_or (λ s. join_with c joiner s.content) o c).book ≡ c.book
by_snapshot c joiner None = refl
by_snapshot c joiner (Some s) = refl

pub book-on : (c : Chronicle) (s : Small) → BookGoesOn c (small_step c s)
unfolding small_step
book-on c (Starts set) = same-book c _ refl
book-on c (Makes set) = same-book c _ refl
book-on c (Enters p) = book-turning c (coming c p) p (take_newest c.world.group) refl
book-on c (Orders p) = same-book c _ refl
book-on c (Receives p place) = same-book c _ refl
book-on c (Hands p) = book-turning c (handed_next c p) p (take_next c.world.group p) refl
book-on c (Leaves p set own places) = book-turning c (leaving c p set own) p (take_parting c.world.group p set places) refl
book-on c (Asks p kind) = book-turning c c p (take_request kind) refl
book-on c (Settles p) = book-turning c c p settle refl
book-on c (Commits p) = same-book c _ (by_node c (commit_as c p) each (node_of c.world p)) where
  each : (l : NodeState) → (commit_as c p l).book ≡ c.book
  each (Up r disk) = refl
  each (Down disk green) = refl
book-on c (Crashes p) = same-book c _ (by_node c (crash_as c p) each (node_of c.world p)) where
  each : (l : NodeState) → (crash_as c p l).book ≡ c.book
  each (Up r disk) = refl
  each (Down disk green) = refl
book-on c (Recovers p) = same-book c _ (by_node c (recover_as c) each (node_of c.world p)) where
  each : (l : NodeState) → (recover_as c l).book ≡ c.book
  each (Up r disk) = refl
  each (Down disk green) = refl
book-on c (Copies p joiner) = same-book c _ (by_replica c p joiner (replica_of c.world p))
book-on c (Joins joiner) = same-book c _ (by_snapshot c joiner (snapshot_of c.world joiner))

book-played : (smalls : List Small) (c : Chronicle) → BookGoesOn c (played c smalls)
book-played [] c = same-book c c refl
book-played (s ∷ smalls) c = book-then c (small_step c s) (played c (s ∷ smalls)) (book-on c s) (book-played smalls (small_step c s))

pub event-book : (c : Chronicle) (w : World) (e : Event) → BookGoesOn c (chronicle_step c w e)
event-book c w e = book-played (smalls_in w e) c
