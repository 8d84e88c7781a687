-- Where the greens of each replica behind a small step come from: they are as before, but where a place is handed to it, where it
-- installs its attempt as it parts, and where it begins.
use Rattle.std.proofs.Common.{◌≡◌, ℕ, Bool, true, false, cond, List, [], ◌∷◌, ◌++◌, append-nil, drop, length, find, map, eq-eqb, Option, Some, None, IfSome, is_some, option_and_then, refl, sym, ap, ◌∙◌, subst, inl, inr, ◌⊎◌}
use Rattle.std.specs.Prelude.{◌==◌}
use Rattle.std.specs.Option.{option_map_or}
use Rattle.std.proofs.lemmas.Bool.{cases_eq, cond-true, cond-false, and_parts, ne_eqb}
use Rattle.cg_base.specs.Weights.{ids}
use Rattle.cg_base.specs.declared.weighted.Weighted.{Weighted}
use Rattle.cg_base.specs.Text.{is_nil}
use Rattle.cg_action.specs.declared.action.Kind.{Kind}
use Rattle.cg_group.specs.State.{home, regular_in, configuration}
use Rattle.cg_client.specs.Replica.{State, RegPrim, TransPrim, ExchangeStates, ExchangeActions, Construct, No, Un, NonPrim, Left, Replica}
use Rattle.cg_client.specs.Turn.{Turn, begin}
use Rattle.cg_client.specs.Requests.{is_creating, create_kept, empty_buffer, request_in, settle}
use Rattle.cg_model.specs.World.{NodeState, Up, Down, Node, TransferState, running, node_of, replica_of, has_begun}
use Rattle.cg_model.specs.Chronicle.{Past, Chronicle, no_chronicle}
use Rattle.cg_model.specs.Looks.{past_of, greens_of, snapshot_of, copied_for}
use Rattle.cg_model.specs.Levels.{is_installed}
use Rattle.cg_model.specs.FactsReplica.{IsCore}
use Rattle.cg_model.specs.Facts.{Invariant}
use Rattle.cg_model.specs.Played.{AtRest}
use Rattle.cg_model.specs.Small.{Small, Starts, Makes, Enters, Orders, Receives, Hands, Leaves, Asks, Settles, Commits, Crashes, Recovers, Copies, Joins, small_step, start, new_past, turning, turning_as, newly_green, coming, handed_next, leaving, take_newest, take_next, take_parting, take_request, commit_as, crash_as, recover_as, copy_as, join_with}
use Rattle.cg_model.specs.Smalls.{may_make, is_set}
use Rattle.cg_agree.proofs.AttemptSteps.{Installing, leaves-installing, act-shows}
use Rattle.cg_agree.proofs.BegunKept.{nothing-before}
use Rattle.cg_agree_lemmas.specs.ChronicleFacts.{greens_of-other, past-begun}
use Rattle.cg_agree_lemmas.specs.CoresKept.{greens-turn}
use Rattle.cg_agree_lemmas.specs.EntryGreens.{entry-greens, nothing-new}
use Rattle.cg_agree.proofs.ExchangeSmalls.{replica-behind}
use Rattle.cg_agree_lemmas.specs.GreenMembers.{creates-same, drop-front}
use Rattle.cg_agree.proofs.GreensFront.{crash-same}
use Rattle.cg_agree_lemmas.specs.GroupKept.{leaving-regular}
use Rattle.cg_agree_lemmas.specs.HandsKept.{Sits, hosted}
use Rattle.cg_agree_lemmas.specs.HeldAll.{installed_by}
use Rattle.cg_agree_lemmas.specs.HeldMarks.{IsOneself}
use Rattle.cg_agree_lemmas.specs.OneSteps.{may-join}
use Rattle.cg_agree_lemmas.specs.PartedGreens.{PartedGreens, NoneGreen, Waiting, AllGreen, parting-greens}
use Rattle.cg_agree_lemmas.specs.PartingActs.{IsActAt, PartedBy, parting-by}
use Rattle.cg_agree_lemmas.specs.RecordKept.{enters-between, turn-is}
use Rattle.cg_agree.proofs.TellersStill.{turn-same}
use Rattle.cg_agree_lemmas.specs.TurnKinds.{HasInstalled}
use Rattle.cg_agree_lemmas.specs.TurnAlong.{commit-same}
use Rattle.cg_group.specs.RefusalLaws.{regular-up}
use Rattle.cg_agree_lemmas.specs.Looking.{greens-in}

-- a replica has installed its attempt as it parted
pub record InstalledLate (c d : Chronicle) (q : ℕ) : Type 0 where
  pub old : Replica
  pub new : Replica
  pub installing : Installing c q old
  pub done : HasInstalled old new
  pub greens : greens_of d q ≡ greens_of c q ++ installed_by old.held
  pub moved : replica_of d.world q ≡ Some new
  pub before : is_installed installing.a ≡ true

pub data GreensMove (c d : Chronicle) (q : ℕ) : Type 0 where
  Stays : (same : greens_of d q ≡ greens_of c q) → GreensMove c d q
  IsHanded : (may : may_make c (Hands q) ≡ true) (step : d ≡ small_step c (Hands q)) → GreensMove c d q
  Parts : (late : InstalledLate c d q) → GreensMove c d q
  Begins : (none : has_begun c.world q ≡ false) (greens : (greens_of d q ≡ []) ⊎ ((is_some (snapshot_of c.world q) ≡ true) × (greens_of d q ≡ copied_for c q))) → GreensMove c d q

-- ---- turns in which nothing becomes green

asked-none : (r : Replica) (kind : Kind) → newly_green r (take_request kind (begin r)).replica ≡ []
asked-none r kind = nothing-new r (take_request kind (begin r)).replica (at r.state) where
  at : (state : State) → (request_in state (begin r) kind).replica.held.queue.greens ≡ r.held.queue.greens
  at RegPrim = (creates-same (kind ∷ []) (begin r)).greens
  at (NonPrim true) = (creates-same (kind ∷ []) (begin r)).greens
  at Left = refl
  at TransPrim = refl
  at (ExchangeStates conf set heard) = refl
  at (ExchangeActions conf heard accepted) = refl
  at (Construct conf heard) = refl
  at (No conf heard) = refl
  at Un = refl
  at (NonPrim false) = refl

settled-none : (r : Replica) → newly_green r (settle (begin r)).replica ≡ []
unfolding create_kept
settled-none r = nothing-new r (settle (begin r)).replica (at (is_creating r.state)) where
  at : (b : Bool) → (cond b (create_kept (begin r)) (begin r)).replica.held.queue.greens ≡ r.held.queue.greens
  at true = (creates-same r.held.buffered (empty_buffer (begin r))).greens
  at false = refl

-- those of another replica
other-turn : (c b : Chronicle) (p : ℕ) (part : Turn → Turn) (q : ℕ) → b.pasts ≡ c.pasts → (q ≡ p → ⊥) → greens_of (turning b p part) q ≡ greens_of c q
other-turn c b p part q pasts apart = at (node_of b.world p) where
  same : greens_of b q ≡ greens_of c q
  same = ap (λ xs. greens-in (find (λ (x : Past). x.id == q) xs)) pasts

  life : (l : NodeState) → greens_of (turning_as b p part l) q ≡ greens_of c q
  life (Up r disk) = greens_of-other b p r disk (part (begin r)) q apart ∙ same
  life (Down disk green) = same

  at : (o : Option Node) → greens_of (option_map_or (λ s. turning_as b p part s.life) o b) q ≡ greens_of c q
  at None = same
  at (Some s) = life s.life

-- ---- a parting

module _ (c : Chronicle) (i : Invariant c) (p : ℕ) (set : List ℕ) (own : ℕ) (places : List ℕ) (may : may_make c (Leaves p set own places) ≡ true) where
  sits : Sits c.world p
  sits = hosted c.world p (i.net.phase_sound.up p ∙ regular-up c.world.group p (leaving-regular c p set own places may))

  up : replica_of c.world p ≡ Some sits.replica
  up = ap (λ (o : Option Node). option_and_then (λ s. running s.life) o) sits.node

  core : IsCore c sits.replica.held (greens_of c p)
  core = subst (λ (o : Option Replica). IfSome o (λ r. IsCore c r.held (greens_of c p))) up (i.replica.cores.memory p)

  itself : IsOneself c.start sits.replica.held (greens_of c p)
  itself = record { made_of = core.made_of; contiguous = core.contiguous; yellow_closed = core.yellow_closed }

  abbrev d : Chronicle
  d = turning (leaving c p set own) p (take_parting c.world.group p set places)

  grows : greens_of d p ≡ greens_of c p ++ newly_green sits.replica (take_parting c.world.group p set places (begin sits.replica)).replica
  grows =
      ap (λ (x : Chronicle). greens_of x p) (turn-is (leaving c p set own) p (take_parting c.world.group p set places) sits.replica sits.disk sits.node)
      ∙ greens-turn (leaving c p set own) p sits.replica sits.disk (take_parting c.world.group p set places (begin sits.replica)) i.net.hosted.past sits.node

  stays : (take_parting c.world.group p set places (begin sits.replica)).replica.held.queue.greens ≡ sits.replica.held.queue.greens → greens_of d p ≡ greens_of c p
  stays same = grows ∙ ap (λ xs. greens_of c p ++ xs) (nothing-new sits.replica (take_parting c.world.group p set places (begin sits.replica)).replica same) ∙ append-nil (greens_of c p)

  leaves-move : GreensMove c d p
  leaves-move = at (parting-greens c.start (greens_of c p) sits.replica itself c.world.group p set places) (parting-by c.world.group p set places sits.replica) where
    at : PartedGreens sits.replica (take_parting c.world.group p set places (begin sits.replica)).replica →
        PartedBy (home c.world.group p) sits.replica (take_parting c.world.group p set places (begin sits.replica)).replica → GreensMove c d p
    at (NoneGreen greens resting) by = Stays (stays greens)
    at (Waiting held waiting was) by = Stays (stays (ap (λ h. h.queue.greens) held))
    at (AllGreen greens was resting) (inl quiet) = Stays (stays (ap (λ q. q.greens) (quiet.still was).queue))
    at (AllGreen greens was resting) (inr done) = Parts (record {
      old = sits.replica;
      new = (take_parting c.world.group p set places (begin sits.replica)).replica;
      installing = leaves-installing c i p set own places may sits.replica (take_parting c.world.group p set places (begin sits.replica)).replica up done.0 done.1;
      done = done.0;
      greens = grows ∙ ap (λ xs. greens_of c p ++ xs) (newly greens);
      moved = replica-behind (leaving c p set own) p (take_parting c.world.group p set places) sits.replica sits.disk sits.node;
      before = (let ins = leaves-installing c i p set own places may sits.replica (take_parting c.world.group p set places (begin sits.replica)).replica up done.0 done.1 in
          act-shows c i ins.conf ins.a ins.found (subst IsActAt (ap (λ x. configuration c.world.group (regular_in x)) ins.regular) done.1));
    }) where
      newly : (take_parting c.world.group p set places (begin sits.replica)).replica.held.queue.greens ≡ sits.replica.held.queue.greens ++ installed_by sits.replica.held →
          newly_green sits.replica (take_parting c.world.group p set places (begin sits.replica)).replica ≡ installed_by sits.replica.held
      newly is = ap (drop (length sits.replica.held.queue.greens)) is ∙ drop-front sits.replica.held.queue.greens (installed_by sits.replica.held)

-- ---- each small step

some-same : {X : Type 0} (o : Option X) (change : X → Chronicle) (c : Chronicle) (q : ℕ) → ((x : X) → greens_of (change x) q ≡ greens_of c q) → GreensMove c (option_map_or change o c) q
some-same None change c q each = Stays refl
some-same (Some x) change c q each = Stays (each x)

recover-same : (c : Chronicle) (l : NodeState) (q : ℕ) → greens_of (recover_as c l) q ≡ greens_of c q
recover-same c (Up r disk) q = refl
recover-same c (Down disk green) q = refl

none-found : (list : List ℕ) (q : ℕ) → greens-in (find (λ (x : Past). x.id == q) (map (new_past []) list)) ≡ []
none-found [] q = refl
none-found (p ∷ list) q = either (p == q) (none-found list q) where
  either : (b : Bool) → greens-in (find (λ (x : Past). x.id == q) (map (new_past []) list)) ≡ [] → greens-in (cond b (Some (new_past [] p)) (find (λ (x : Past). x.id == q) (map (new_past []) list))) ≡ []
  either true rest = refl
  either false rest = rest

starts-move : (c : Chronicle) (set : List Weighted) (q : ℕ) → c ≡ no_chronicle → GreensMove c (start c set) q
starts-move c set q is = subst (λ (x : Chronicle). GreensMove x (start x set) q) (sym is) (Begins refl (inl (none-found (ids set) q)))

pub greens-move : (c : Chronicle) (s : Small) (i : Invariant c) → may_make c s ≡ true → AtRest c s → (q : ℕ) → GreensMove c (small_step c s) q
unfolding small_step may_make
greens-move c (Starts set) i may rest q = starts-move c set q (nothing-before c i.net.hosted (and_parts (is_nil c.world.nodes) (is_set (ids set)) may).0)
greens-move c (Makes set) i may rest q = Stays refl
greens-move c (Enters p) i may rest q = Stays (turn-same c (coming c p) p (take_newest c.world.group) i refl refl (λ r disk node.
    nothing-new r (take_newest c.world.group (begin r)).replica (entry-greens c.world.group r (enters-between c p r (ap (λ (o : Option Node). option_and_then (λ s. running s.life) o) node) may))) q)
greens-move c (Orders p) i may rest q = Stays refl
greens-move c (Receives p place) i may rest q = Stays refl
greens-move c (Hands p) i may rest q = elim (cases_eq q p) [
  | inl same ↦ IsHanded (ap (λ x. may_make c (Hands x)) same ∙ may) (ap (λ x. small_step c (Hands x)) (sym same))
  | inr apart ↦ Stays (other-turn c (handed_next c p) p (take_next c.world.group p) q refl apart)
]
greens-move c (Leaves p set own places) i may rest q = elim (cases_eq q p) [
  | inl same ↦ subst (GreensMove c (turning (leaving c p set own) p (take_parting c.world.group p set places))) (sym same) (leaves-move c i p set own places may)
  | inr apart ↦ Stays (other-turn c (leaving c p set own) p (take_parting c.world.group p set places) q refl apart)
]
greens-move c (Asks p kind) i may rest q = Stays (turn-same c c p (take_request kind) i refl refl (λ r disk node. asked-none r kind) q)
greens-move c (Settles p) i may rest q = Stays (turn-same c c p settle i refl refl (λ r disk node. settled-none r) q)
greens-move c (Commits p) i may rest q = some-same (node_of c.world p) (λ s. commit_as c p s.life) c q (λ s. commit-same c p s.life q)
greens-move c (Crashes p) i may rest q = some-same (node_of c.world p) (λ s. crash_as c p s.life) c q (λ s. crash-same c p rest.greens s.life q)
greens-move c (Recovers p) i may rest q = some-same (node_of c.world p) (λ s. recover_as c s.life) c q (λ s. recover-same c s.life q)
greens-move c (Copies p joiner) i may rest q = some-same (replica_of c.world p) (copy_as c p joiner) c q (λ r. refl)
greens-move c (Joins joiner) i may rest q = joins (snapshot_of c.world joiner) where
  fresh : has_begun c.world joiner ≡ false
  fresh = (may-join c joiner may).fresh

  nothing : (o : Option Past) → is_some o ≡ false → o ≡ None
  nothing None e = refl
  nothing (Some s) e = absurd (let clash : true ≡ false = e in cc)

  absent : past_of c joiner ≡ None
  absent = nothing (past_of c joiner) (i.net.hosted.past joiner ∙ fresh)

  joins : (o : Option TransferState) → GreensMove c (option_map_or (λ s. join_with c joiner s.content) o c) q
  joins None = Stays refl
  joins (Some s) =
      let behind = past-begun c.pasts (new_past (copied_for c joiner) joiner) q absent in
      elim (cases_eq joiner q) [
        | inl same ↦ Begins (ap (has_begun c.world) (sym same) ∙ fresh)
            (inr (ap (λ x. is_some (snapshot_of c.world x)) (sym same) ∙ ap is_some (may-join c joiner may).there, ap greens-in (behind ∙ cond-true (joiner == q) (Some (new_past (copied_for c joiner) joiner)) (past_of c q) (eq-eqb joiner q same)) ∙ ap (copied_for c) same))
        | inr apart ↦ Stays (ap greens-in (behind ∙ cond-false (joiner == q) (Some (new_past (copied_for c joiner) joiner)) (past_of c q) (ne_eqb joiner q apart)))
      ]
