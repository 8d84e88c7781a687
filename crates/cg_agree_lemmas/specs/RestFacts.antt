-- Where a replica crashes in small steps, its disk agrees: nothing of it has changed in the event, or its commit came last.
use Rattle.std.proofs.Common.{◌≡◌, ℕ, suc, ◌-◌, ◌≤◌, Bool, true, false, cond, List, [], ◌∷◌, ◌++◌, Option, Some, None, IfSome, flat_map, find, drop, length, refl, sym, ap, ◌∙◌, ⊎_elim, ◌⊎◌, inl, inr, eq-eqb, subst, is_some, option_and_then, option_map, arith}
use Rattle.std.specs.Prelude.{◌==◌}
use Rattle.std.specs.Option.{option_map_or}
use Rattle.std.proofs.lemmas.Bool.{or_right, cond-true, cond-false, cond_both, ne_eqb}
use Rattle.cg_base.specs.Lists.{Each}
use Rattle.cg_base.specs.EachLaws.{Each-append}
use Rattle.cg_base.specs.Sets.{has}
use Rattle.cg_client.specs.Replica.{Held, State, RegPrim, TransPrim, ExchangeStates, ExchangeActions, Construct, No, Un, NonPrim, Left, Replica}
use Rattle.cg_client.specs.Turn.{Turn, begin}
use Rattle.cg_client.specs.Requests.{settle}
use Rattle.cg_disk_records.specs.Stored.{stored_of, whiten}
use Rattle.cg_disk_records.specs.Commit.{commits}
use Rattle.cg_states.specs.ReplicaStep.{Input, replica_step}
use Rattle.cg_disk_records.specs.Crash.{Disk, EventEnd, Runs, Crashes as EndsInCrash, at_rest}
use Rattle.cg_model.specs.World.{NodeState, Up, Down, Node, World, running, node_of, replica_of, set_life}
use Rattle.cg_model.specs.Chronicle.{Past, Chronicle}
use Rattle.cg_model.specs.Looks.{past_of, on_disk}
use Rattle.cg_model.specs.Turns.{Taken, taken, taken_as, taken_by, stands}
use Rattle.cg_model.specs.Small.{Small, Starts, Makes, Enters, Orders, Receives, Hands, Leaves, Asks, Settles, Commits, Crashes, Recovers, Copies, Joins, changed_past, written, struck, coming, handed_next, leaving, take_newest, take_next, take_parting, take_request, turning, turning_as, commit, commit_as, crash, crash_as, small_step}
use Rattle.cg_model.specs.Smalls.{is_running, may_make, ending, ending_as}
use Rattle.cg_model.specs.Noting.{played}
use Rattle.cg_model.specs.FactsLists.{IsRising}
use Rattle.cg_model.specs.FactsReplica.{GoesOn, IsAsOnDisk}
use Rattle.cg_model.specs.Played.{IsWritten}
use Rattle.cg_agree_lemmas.specs.ChronicleFacts.{node_of-set, past_of-turn}
use Rattle.cg_agree_lemmas.specs.GatherReceipts.{member-same}
use Rattle.cg_agree_lemmas.specs.Keyed.{found-changed}
use Rattle.cg_agree_lemmas.specs.EventTurns.{is-up}
use Rattle.cg_agree_lemmas.specs.SmallWorlds.{small_in, may_in, played_in, MayIn, Needs, RestAlong, played-world, rest-append}

-- ---- steps of one replica

-- parts of a turn
abbrev pub IsOpening : ℕ → Small → Type 0
IsOpening p (Hands q) = q ≡ p
IsOpening p (Leaves q set own places) = q ≡ p
IsOpening p (Asks q kind) = q ≡ p
IsOpening p (Settles q) = q ≡ p
IsOpening p _ = ⊥

-- and its ends
abbrev pub IsOf : ℕ → Small → Type 0
IsOf p (Enters q) = q ≡ p
IsOf p (Commits q) = q ≡ p
IsOf p (Crashes q) = q ≡ p
IsOf p s = IsOpening p s

-- a replica has the same node and the same greens in two chronicles
pub record IsKept (c d : Chronicle) (q : ℕ) : Type 0 where
  pub node : node_of d.world q ≡ node_of c.world q
  pub past : past_of d q ≡ past_of c q

kept-then : (c d e : Chronicle) (q : ℕ) → IsKept c d q → IsKept d e q → IsKept c e q
kept-then c d e q a b = record { node = b.node ∙ a.node; past = b.past ∙ a.past }

pub written-kept : (c d : Chronicle) (q : ℕ) → IsKept c d q → IsWritten c q → IsWritten d q
written-kept c d q kept is = record {
  up = subst (λ (o : Option Node). IfSome (option_and_then (λ s. running s.life) o) (λ r. IfSome (option_map (λ s. on_disk s.life) o) (λ disk. GoesOn r.held disk × IsAsOnDisk r.held disk r.state))) (sym kept.node) is.up;
  greens = subst (λ (o : Option Past). option_map_or (λ x. x.greens) o [] ≡ option_map_or (λ x. x.stood) o []) (sym kept.past) is.greens;
}

module _ (c : Chronicle) (p q : ℕ) (apart : q ≡ p → ⊥) where
  other-node : (w : World) (life : NodeState) → node_of (set_life w p life) q ≡ node_of w q
  other-node w life =
      node_of-set w p life q ∙ cond-false (p == q) (Some (let s : Node = record { id = p; life = life } in s)) (node_of w q) (ne_eqb p q (λ e. apart (sym e)))

  other-past : (f : Past → Past) → ((x : Past) → (f x).id ≡ x.id) → find (λ x. x.id == q) (changed_past f p c.pasts) ≡ past_of c q
  other-past f keeps = found-changed (λ (x : Past). x.id) f keeps p c.pasts q ∙ cond-false (q == p) (option_map f (past_of c q)) (past_of c q) (ne_eqb q p apart)

  turned-kept : (part : Turn → Turn) (life : NodeState) → IsKept c (turning_as c p part life) q
  turned-kept part (Up r disk) = record { node = other-node c.world (Up (part (begin r)).replica disk); past = past_of-turn c p r disk (part (begin r)) q ∙ cond-false (q == p) _ (past_of c q) (ne_eqb q p apart) }
  turned-kept part (Down disk green) = record { node = refl; past = refl }

  pub turning-kept : (part : Turn → Turn) → IsKept c (turning c p part) q
  turning-kept part = at (node_of c.world p) where
    at : (o : Option Node) → IsKept c (option_map_or (λ s. turning_as c p part s.life) o c) q
    at None = record { node = refl; past = refl }
    at (Some s) = turned-kept part s.life

  commit-kept : IsKept c (commit c p) q
  commit-kept = at (node_of c.world p) where
    life-kept : (life : NodeState) → IsKept c (commit_as c p life) q
    life-kept (Up r disk) = record { node = other-node c.world (Up (record r { held = whiten r.held }) (record disk { content = stored_of (whiten r.held) })); past = other-past written (λ x. refl) }
    life-kept (Down disk green) = record { node = refl; past = refl }

    at : (o : Option Node) → IsKept c (option_map_or (λ s. commit_as c p s.life) o c) q
    at None = record { node = refl; past = refl }
    at (Some s) = life-kept s.life

  crash-kept : IsKept c (crash c p) q
  crash-kept = at (node_of c.world p) where
    life-kept : (life : NodeState) → IsKept c (crash_as c p life) q
    life-kept (Up r disk) = record { node = other-node c.world (Down (at_rest disk) []); past = other-past struck (λ x. refl) }
    life-kept (Down disk green) = record { node = refl; past = refl }

    at : (o : Option Node) → IsKept c (option_map_or (λ s. crash_as c p s.life) o c) q
    at None = record { node = refl; past = refl }
    at (Some s) = life-kept s.life

as-it-was : (c d : Chronicle) (q : ℕ) → IsKept d c q → (x : Chronicle) → IsKept c x q → IsKept d x q
as-it-was c d q a x b = kept-then d c x q a b

-- a step of one replica changes nothing of another
pub others-kept : (c : Chronicle) (s : Small) (p q : ℕ) → IsOf p s → (q ≡ p → ⊥) → IsKept c (small_step c s) q
unfolding small_step
others-kept c (Enters x) p q is apart = as-it-was (coming c x) c q (record { node = refl; past = refl }) _ (turning-kept (coming c x) x q (λ e. apart (e ∙ is)) (take_newest c.world.group))
others-kept c (Hands x) p q is apart = as-it-was (handed_next c x) c q (record { node = refl; past = refl }) _ (turning-kept (handed_next c x) x q (λ e. apart (e ∙ is)) (take_next c.world.group x))
others-kept c (Leaves x set own places) p q is apart =
    as-it-was (leaving c x set own) c q (record { node = refl; past = refl }) _ (turning-kept (leaving c x set own) x q (λ e. apart (e ∙ is)) (take_parting c.world.group x set places))
others-kept c (Asks x kind) p q is apart = turning-kept c x q (λ e. apart (e ∙ is)) (take_request kind)
others-kept c (Settles x) p q is apart = turning-kept c x q (λ e. apart (e ∙ is)) settle
others-kept c (Commits x) p q is apart = commit-kept c x q (λ e. apart (e ∙ is))
others-kept c (Crashes x) p q is apart = crash-kept c x q (λ e. apart (e ∙ is))
others-kept c (Starts set) p q is apart = absurd is
others-kept c (Makes set) p q is apart = absurd is
others-kept c (Orders x) p q is apart = absurd is
others-kept c (Receives x place) p q is apart = absurd is
others-kept c (Recovers x) p q is apart = absurd is
others-kept c (Copies x joiner) p q is apart = absurd is
others-kept c (Joins joiner) p q is apart = absurd is

pub kept-along : (smalls : List Small) (c : Chronicle) (p q : ℕ) → Each (IsOf p) smalls → (q ≡ p → ⊥) → IsKept c (played c smalls) q
kept-along [] c p q each apart = record { node = refl; past = refl }
kept-along (s ∷ smalls) c p q each apart = kept-then c (small_step c s) (played (small_step c s) smalls) q (others-kept c s p q each.0 apart) (kept-along smalls (small_step c s) p q each.1 apart)

-- ---- steps that need nothing

abbrev pub IsQuiet : Small → Type 0
IsQuiet (Crashes p) = ⊥
IsQuiet (Enters p) = ⊥
IsQuiet _ = Unit {0}

rest-one : (c : Chronicle) (s : Small) → IsQuiet s → Needs c s
rest-one c (Crashes p) is = absurd is
rest-one c (Starts set) is = tt
rest-one c (Makes set) is = tt
rest-one c (Enters p) is = absurd is
rest-one c (Orders p) is = tt
rest-one c (Receives p place) is = tt
rest-one c (Hands p) is = tt
rest-one c (Leaves p set own places) is = tt
rest-one c (Asks p kind) is = tt
rest-one c (Settles p) is = tt
rest-one c (Commits p) is = tt
rest-one c (Recovers p) is = tt
rest-one c (Copies p joiner) is = tt
rest-one c (Joins joiner) is = tt

pub rest-quiet : (smalls : List Small) (c : Chronicle) → Each IsQuiet smalls → RestAlong c smalls
rest-quiet [] c each = tt
rest-quiet (s ∷ smalls) c each = (rest-one c s each.0, rest-quiet smalls (small_step c s) each.1)

opening-quiet : (p : ℕ) (s : Small) → IsOpening p s → IsQuiet s × IsOf p s
opening-quiet p (Enters q) is = absurd is
opening-quiet p (Hands q) is = (tt, is)
opening-quiet p (Leaves q set own places) is = (tt, is)
opening-quiet p (Asks q kind) is = (tt, is)
opening-quiet p (Settles q) is = (tt, is)
opening-quiet p (Starts set) is = absurd is
opening-quiet p (Makes set) is = absurd is
opening-quiet p (Orders q) is = absurd is
opening-quiet p (Receives q place) is = absurd is
opening-quiet p (Commits q) is = absurd is
opening-quiet p (Crashes q) is = absurd is
opening-quiet p (Recovers q) is = absurd is
opening-quiet p (Copies q joiner) is = absurd is
opening-quiet p (Joins joiner) is = absurd is

pub openings-quiet : (p : ℕ) (smalls : List Small) → Each (IsOpening p) smalls → Each IsQuiet smalls × Each (IsOf p) smalls
openings-quiet p [] each = (tt, tt)
openings-quiet p (s ∷ smalls) each = (let one = opening-quiet p s each.0 in let rest = openings-quiet p smalls each.1 in ((one.0, rest.0), (one.1, rest.1)))

-- ---- behind a commit

no-less : (n : ℕ) → n - n ≡ 0
no-less n = omega arith

pub written-committed : (c : Chronicle) (p : ℕ) → is_running c p ≡ true → IsWritten (small_step c (Commits p)) p
unfolding small_step
written-committed c p runs =
    let here = is-up c.world p runs in
    let r = here.replica in
    let d = commit_as c p (Up r here.disk) in
    let chosen : commit c p ≡ d = ap (λ (o : Option Node). option_map_or (λ s. commit_as c p s.life) o c) here.node in
    subst (λ x. IsWritten x p) (sym chosen) (agrees r here.disk) where
      goes-on : (h : Held) → GoesOn h (stored_of h)
      goes-on h = record {
        white = refl;
        green = refl;
        red = λ creator. omega arith;
        yellow = refl;
        yellow_valid = refl;
        prim = refl;
        attempt_index = refl;
        vulnerable = refl;
        created = refl;
        own = sym (ap (λ n. drop n h.own) (no-less (length h.own)));
      }

      same-reds : (h : Held) (state : State) → IsAsOnDisk h (stored_of h) state
      same-reds h (Construct conf heard) = refl
      same-reds h (No conf heard) = refl
      same-reds h Un = refl
      same-reds h RegPrim = tt
      same-reds h TransPrim = tt
      same-reds h (ExchangeStates conf set heard) = tt
      same-reds h (ExchangeActions conf summaries accepted) = tt
      same-reds h (NonPrim regular) = tt
      same-reds h Left = tt

      same-greens : (o : Option Past) → option_map_or (λ x. x.greens) (option_map written o) [] ≡ option_map_or (λ x. x.stood) (option_map written o) []
      same-greens None = refl
      same-greens (Some x) = refl

      agrees : (r : Replica) (disk : Disk) → IsWritten (commit_as c p (Up r disk)) p
      agrees r disk =
          let h = whiten r.held in
          let life : NodeState = Up (record r { held = h }) (record disk { content = stored_of h }) in
          let s : Node = record { id = p; life = life } in
          let node : node_of (set_life c.world p life) p ≡ Some s = node_of-set c.world p life p ∙ cond-true (p == p) (Some s) (node_of c.world p) (eq-eqb p p refl) in
          let past : find (λ x. x.id == p) (changed_past written p c.pasts) ≡ option_map written (past_of c p) =
          found-changed (λ (x : Past). x.id) written (λ x. refl) p c.pasts p ∙ cond-true (p == p) (option_map written (past_of c p)) (past_of c p) (eq-eqb p p refl) in
          record {
            up = subst (λ (o : Option Node). IfSome (option_and_then (λ s. running s.life) o) (λ r. IfSome (option_map (λ s. on_disk s.life) o) (λ disk. GoesOn r.held disk × IsAsOnDisk r.held disk r.state)))
                (sym node) (goes-on h, same-reds h r.state);
            greens = subst (λ (o : Option Past). option_map_or (λ x. x.greens) o [] ≡ option_map_or (λ x. x.stood) o []) (sym past) (same-greens (past_of c p));
          }

-- ---- a turn with its end, and all turns of an event

may-behind : (w : World) (xs ys : List Small) → MayIn w (xs ++ ys) → MayIn (played_in w xs) ys
may-behind w [] ys may = may
may-behind w (s ∷ xs) ys may = may-behind (small_in w s) xs ys may.1

runs-in : (w : World) (p : ℕ) → may_in w (Commits p) ≡ true → is_some (replica_of w p) ≡ true
unfolding may_in may_make
runs-in w p may = may

pub rest-ending : (c : Chronicle) (k : Taken) (opening : List Small) (end : EventEnd) → RestAlong c opening → Each (IsOf k.id) opening → MayIn c.world (ending_as k opening end) → IsWritten c k.id →
    RestAlong c (ending_as k opening end) × Each (IsOf k.id) (ending_as k opening end)
rest-ending c k opening (Runs r disk) rests each may is =
    cond_both (commits k.before.held k.turn) (Commits k.id ∷ []) [] (λ list. RestAlong c (opening ++ list) × Each (IsOf k.id) (opening ++ list))
    (λ y. (rest-append c opening (Commits k.id ∷ []) rests (tt, tt), Each-append (IsOf k.id) opening (Commits k.id ∷ []) each (refl, tt)))
    (λ n. (rest-append c opening [] rests tt, Each-append (IsOf k.id) opening [] each tt))
rest-ending c k opening (EndsInCrash disk green) rests each may is = at (stands k) refl where
  at : (b : Bool) → stands k ≡ b → RestAlong c (cond (stands k) (opening ++ Commits k.id ∷ Crashes k.id ∷ []) (Crashes k.id ∷ [])) × Each (IsOf k.id) (cond (stands k) (opening ++ Commits k.id ∷ Crashes k.id ∷ []) (Crashes k.id ∷ []))
  at true e =
      let steps = cond-true (stands k) (opening ++ Commits k.id ∷ Crashes k.id ∷ []) (Crashes k.id ∷ []) e in
      let here = may-behind c.world opening (Commits k.id ∷ Crashes k.id ∷ []) (subst (MayIn c.world) steps may) in
      let runs = subst (λ w. is_some (replica_of w k.id) ≡ true) (sym (played-world c opening)) (runs-in (played_in c.world opening) k.id here.0) in
      rw steps (
        rest-append c opening (Commits k.id ∷ Crashes k.id ∷ []) rests (tt, (written-committed (played c opening) k.id runs, tt)),
        Each-append (IsOf k.id) opening (Commits k.id ∷ Crashes k.id ∷ []) each (refl, (refl, tt)),
      )
  at false e =
      let steps = cond-false (stands k) (opening ++ Commits k.id ∷ Crashes k.id ∷ []) (Crashes k.id ∷ []) e in
      rw steps ((is, tt), (refl, tt))

-- a replica takes one turn, or none
pub record IsTaken (w : World) (p : ℕ) (input : Input) : Type 0 where
  pub turn : Taken
  pub is : taken w p input ≡ turn ∷ []
  pub id : turn.id ≡ p

pub taken-cases : (w : World) (p : ℕ) (input : Input) → (taken w p input ≡ []) ⊎ IsTaken w p input
taken-cases w p input = at (node_of w p) refl where
  life : (l : NodeState) → option_map_or (λ (s : Node). taken_as p input s.life) (node_of w p) [] ≡ taken_as p input l → (taken w p input ≡ []) ⊎ IsTaken w p input
  life (Up r disk) e = inr (record { turn = taken_by p r disk (replica_step r input); is = e; id = refl })
  life (Down disk green) e = inl e

  at : (o : Option Node) → node_of w p ≡ o → (taken w p input ≡ []) ⊎ IsTaken w p input
  at None e = inl (ap (λ (o : Option Node). option_map_or (λ s. taken_as p input s.life) o []) e)
  at (Some s) e = life s.life (ap (λ (o : Option Node). option_map_or (λ s. taken_as p input s.life) o []) e)

abbrev pub smalls_for : World → (ℕ → Input) → (ℕ → List Small) → List ℕ → List Small
smalls_for w input block rest = flat_map (ending block) (flat_map (λ q. taken w q (input q)) rest)

may-front : (w : World) (xs ys : List Small) → MayIn w (xs ++ ys) → MayIn w xs
may-front w [] ys may = tt
may-front w (s ∷ xs) ys may = (may.0, may-front (small_in w s) xs ys may.1)

-- the turns of several replicas: each is ready for its own steps, and the steps of another one leave it so
module _ (w : World) (input : ℕ → Input) (block : ℕ → List Small) (own : (q : ℕ) → Each (IsOf q) (block q)) (P : Chronicle → ℕ → Type 0)
    (opens : (c : Chronicle) (q : ℕ) → P c q → RestAlong c (block q)) (keeps : (c : Chronicle) (k : Taken) (q : ℕ) → (q ≡ k.id → ⊥) → P c k.id → P c q → P (played c (ending block k)) q) where
  pub rest-with : (rest : List ℕ) (low : ℕ) → IsRising low rest → (c : Chronicle) → ((q : ℕ) → has rest q ≡ true → IsWritten c q × P c q) → MayIn c.world (smalls_for w input block rest) →
      RestAlong c (smalls_for w input block rest)
  rest-with [] low rise c ready may = tt
  rest-with (p ∷ rest) low rise c ready may = ⊎_elim (none (rest-with rest (suc p) rise.1)) (one (rest-with rest (suc p) rise.1)) (taken-cases w p (input p)) where
    -- the turns of the others
    Again : Type 0
    Again = (d : Chronicle) → ((q : ℕ) → has rest q ≡ true → IsWritten d q × P d q) → MayIn d.world (smalls_for w input block rest) → RestAlong d (smalls_for w input block rest)

    later : (q : ℕ) → has rest q ≡ true → has (p ∷ rest) q ≡ true
    later q there = or_right (p == q) (has rest q) there

    none : Again → taken w p (input p) ≡ [] → RestAlong c (smalls_for w input block (p ∷ rest))
    none again e =
        let same : smalls_for w input block (p ∷ rest) ≡ smalls_for w input block rest = ap (λ list. flat_map (ending block) (list ++ flat_map (λ q. taken w q (input q)) rest)) e in
        rw same (again c (λ q there. ready q (later q there)) (subst (MayIn c.world) same may))

    one : Again → IsTaken w p (input p) → RestAlong c (smalls_for w input block (p ∷ rest))
    one again t =
        let k = t.turn in
        let first = ending block k in
        let same : smalls_for w input block (p ∷ rest) ≡ first ++ smalls_for w input block rest = ap (λ list. flat_map (ending block) (list ++ flat_map (λ q. taken w q (input q)) rest)) t.is in
        let all : MayIn c.world (first ++ smalls_for w input block rest) = subst (MayIn c.world) same may in
        let mine = ready k.id (subst (λ n. has (p ∷ rest) n ≡ true) (sym t.id) (rw (eq-eqb p p refl) refl)) in
        let here = rest-ending c k (block k.id) k.ended (opens c k.id mine.1) (own k.id) (may-front c.world first (smalls_for w input block rest) all) mine.0 in
        let apart : (q : ℕ) → has rest q ≡ true → q ≡ k.id → ⊥ = λ q there e. (let above : suc p ≤ q = (member-same (suc p) q rest rise.1 there).1 in let same : q ≡ p = e ∙ t.id in omega arith) in
        rw same (rest-append c first (smalls_for w input block rest) here.0
        (again (played c first)
        (λ q there. (let old = ready q (later q there) in
        (written-kept c (played c first) q (kept-along first c k.id q here.1 (apart q there)) old.0, keeps c k q (apart q there) mine.1 old.1)))
        (subst (λ v. MayIn v (smalls_for w input block rest)) (sym (played-world c first)) (may-behind c.world first (smalls_for w input block rest) all))))

-- where the steps need nothing of each but that its disk agrees
pub rest-among : (w : World) (input : ℕ → Input) (block : ℕ → List Small) → ((q : ℕ) → Each (IsOpening q) (block q)) → (rest : List ℕ) (low : ℕ) → IsRising low rest → (c : Chronicle) →
    ((q : ℕ) → IsWritten c q) → MayIn c.world (smalls_for w input block rest) → RestAlong c (smalls_for w input block rest)
rest-among w input block openings rest low rise c written may =
    rest-with w input block (λ q. (openings-quiet q (block q) (openings q)).1) (λ c q. Unit {0}) (λ c q is. rest-quiet (block q) c (openings-quiet q (block q) (openings q)).0) (λ c k q apart mine is. tt)
    rest low rise c (λ q there. (written q, tt)) may
