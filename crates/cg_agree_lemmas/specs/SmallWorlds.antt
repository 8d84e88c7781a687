-- What a small step makes of the world; and what it asks of it: neither looks at what is noted beside the world.
use Rattle.std.proofs.Common.{◌≡◌, ℕ, suc, Bool, true, ◌&&◌, List, [], ◌∷◌, ◌++◌, Option, Some, None, fold, refl, sym, ap, ◌∙◌}
use Rattle.std.specs.Option.{option_map_or}
use Rattle.std.proofs.lemmas.Bool.{and_parts, and_from}
use Rattle.std.specs.Prelude.{is_none}
use Rattle.cg_base.specs.Text.{is_nil}
use Rattle.cg_base.specs.Weights.{ids}
use Rattle.cg_wire.specs.declared.message.Msg.{Msg}
use Rattle.cg_group.specs.State.{GroupState, delivered_to}
use Rattle.cg_group.specs.Events.{send_all, order, receive, with_delivered, become_regular}
use Rattle.cg_client.specs.Replica.{Held, Replica}
use Rattle.cg_client.specs.Turn.{Turn, begin}
use Rattle.cg_client.specs.Requests.{settle}
use Rattle.cg_disk_records.specs.Stored.{stored_of, whiten}
use Rattle.cg_disk_records.specs.Crash.{Disk, new_disk, at_rest, recovered, disk_recovered}
use Rattle.cg_model.specs.World.{NodeState, Up, Down, World, node_of, replica_of, set_life, bring_up, bring_down}
use Rattle.cg_model.specs.Step.{begin_replica, joiner_replica, without_snapshot}
use Rattle.cg_model.specs.Chronicle.{Told, Chronicle, no_chronicle}
use Rattle.cg_model.specs.Looks.{told_in, ordered_in, is_member, snapshot_of}
use Rattle.cg_model.specs.Small.{Small, Starts, Makes, Enters, Orders, Receives, Hands, Leaves, Asks, Settles, Commits, Crashes, Recovers, Copies, Joins, turning, turning_as, commit_as, crash_as, recover_as, copy_as, join_with, coming, handed_next, leaving, newest_conf, make_configuration, become_past, take_newest, take_next, take_parting, take_request, small_step}
use Rattle.cg_model.specs.Smalls.{may_come, may_make}
use Rattle.cg_model.specs.Noting.{played}
use Rattle.cg_model.specs.Played.{IsWritten, AtRest, MayBeMade}

-- ---- worlds

abbrev pub grouped : World → GroupState Msg → World
grouped w g = record w { group = g }

-- a replica was this, and has come so far in its turn
abbrev pub turned_to : World → ℕ → Disk → Turn → World
turned_to w p disk t = let v = set_life w p (Up t.replica disk) in record v { group = send_all v.group p t.sent }

abbrev pub turned_in : World → ℕ → (Turn → Turn) → NodeState → World
turned_in w p part (Up r disk) = turned_to w p disk (part (begin r))
turned_in w p part (Down disk green) = w

abbrev pub turning_in : World → ℕ → (Turn → Turn) → World
turning_in w p part = option_map_or (λ s. turned_in w p part s.life) (node_of w p) w

abbrev pub commit_in : World → ℕ → NodeState → World
commit_in w p (Up r disk) = let h = whiten r.held in set_life w p (Up (record r { held = h }) (record disk { content = stored_of h }))
commit_in w p (Down disk green) = w

abbrev pub crash_in : World → ℕ → NodeState → World
crash_in w p (Up r disk) = bring_down w p (Down (at_rest disk) [])
crash_in w p (Down disk green) = w

abbrev pub recover_in : World → NodeState → World
recover_in w (Up r disk) = w
recover_in w (Down disk green) = bring_up w (recovered disk) (disk_recovered disk)

abbrev pub copy_in : World → ℕ → ℕ → Replica → World
copy_in w p joiner r =
    let v = without_snapshot w joiner in
    record v { snapshots = record { joiner = joiner; giver = p; content = r.held; taken = 0 } ∷ v.snapshots }

abbrev pub join_in : World → ℕ → Held → World
join_in w joiner content = let r = joiner_replica joiner content in bring_up (without_snapshot w joiner) r (new_disk r.held)

unfoldable pub small_in : World → Small → World
small_in w (Starts set) = fold (begin_replica set) w (ids set)
small_in w (Makes set) = grouped w (make_configuration w.group set)
small_in w (Enters p) = turning_in (grouped w (become_regular (newest_conf w.group) w.group p)) p (take_newest w.group)
small_in w (Orders p) = grouped w (order w.group p)
small_in w (Receives p place) = grouped w (receive w.group p place)
small_in w (Hands p) = turning_in (grouped w (with_delivered w.group p (suc (delivered_to w.group p)))) p (take_next w.group p)
small_in w (Leaves p set own places) = turning_in (grouped w (become_past w.group p set own)) p (take_parting w.group p set places)
small_in w (Asks p kind) = turning_in w p (take_request kind)
small_in w (Settles p) = turning_in w p settle
small_in w (Commits p) = option_map_or (λ s. commit_in w p s.life) (node_of w p) w
small_in w (Crashes p) = option_map_or (λ s. crash_in w p s.life) (node_of w p) w
small_in w (Recovers p) = option_map_or (λ s. recover_in w s.life) (node_of w p) w
small_in w (Copies p joiner) = option_map_or (copy_in w p joiner) (replica_of w p) w
small_in w (Joins joiner) = option_map_or (λ s. join_in w joiner s.content) (snapshot_of w joiner) w

abbrev pub played_in : World → List Small → World
played_in w smalls = fold small_in w smalls

-- what is asked of a world before a step
abbrev pub noting_nothing : World → Chronicle
noting_nothing w = record no_chronicle { world = w }

unfoldable pub may_in : World → Small → Bool
may_in w s = may_make (noting_nothing w) s

abbrev pub MayIn : World → List Small → Type 0
MayIn w [] = Unit {0}
MayIn w (s ∷ smalls) = (may_in w s ≡ true) × MayIn (small_in w s) smalls

-- ---- the small steps of a chronicle are these

world_at : {X : Type 0} (f : X → Chronicle) (k : X → World) (o : Option X) (c : Chronicle) → ((x : X) → (f x).world ≡ k x) → (option_map_or f o c).world ≡ option_map_or k o c.world
world_at f k None c same = refl
world_at f k (Some x) c same = same x

turned-world : (c : Chronicle) (p : ℕ) (part : Turn → Turn) (life : NodeState) → (turning_as c p part life).world ≡ turned_in c.world p part life
turned-world c p part (Up r disk) = refl
turned-world c p part (Down disk green) = refl

turning-world : (c : Chronicle) (p : ℕ) (part : Turn → Turn) → (turning c p part).world ≡ turning_in c.world p part
turning-world c p part = world_at (λ s. turning_as c p part s.life) (λ s. turned_in c.world p part s.life) (node_of c.world p) c (λ s. turned-world c p part s.life)

committed-world : (c : Chronicle) (p : ℕ) (life : NodeState) → (commit_as c p life).world ≡ commit_in c.world p life
committed-world c p (Up r disk) = refl
committed-world c p (Down disk green) = refl

crashed-world : (c : Chronicle) (p : ℕ) (life : NodeState) → (crash_as c p life).world ≡ crash_in c.world p life
crashed-world c p (Up r disk) = refl
crashed-world c p (Down disk green) = refl

recovered-world : (c : Chronicle) (life : NodeState) → (recover_as c life).world ≡ recover_in c.world life
recovered-world c (Up r disk) = refl
recovered-world c (Down disk green) = refl

pub small-world : (c : Chronicle) (s : Small) → (small_step c s).world ≡ small_in c.world s
unfolding small_step small_in
small-world c (Starts set) = refl
small-world c (Makes set) = refl
small-world c (Enters p) = turning-world (coming c p) p (take_newest c.world.group)
small-world c (Orders p) = refl
small-world c (Receives p place) = refl
small-world c (Hands p) = turning-world (handed_next c p) p (take_next c.world.group p)
small-world c (Leaves p set own places) = turning-world (leaving c p set own) p (take_parting c.world.group p set places)
small-world c (Asks p kind) = turning-world c p (take_request kind)
small-world c (Settles p) = turning-world c p settle
small-world c (Commits p) = world_at (λ s. commit_as c p s.life) (λ s. commit_in c.world p s.life) (node_of c.world p) c (λ s. committed-world c p s.life)
small-world c (Crashes p) = world_at (λ s. crash_as c p s.life) (λ s. crash_in c.world p s.life) (node_of c.world p) c (λ s. crashed-world c p s.life)
small-world c (Recovers p) = world_at (λ s. recover_as c s.life) (λ s. recover_in c.world s.life) (node_of c.world p) c (λ s. recovered-world c s.life)
small-world c (Copies p joiner) = world_at (copy_as c p joiner) (copy_in c.world p joiner) (replica_of c.world p) c (λ r. refl)
small-world c (Joins joiner) = world_at (λ s. join_with c joiner s.content) (λ s. join_in c.world joiner s.content) (snapshot_of c.world joiner) c (λ s. refl)

pub played-world : (c : Chronicle) (smalls : List Small) → (played c smalls).world ≡ played_in c.world smalls
played-world c [] = refl
played-world c (s ∷ smalls) = played-world (small_step c s) smalls ∙ ap (λ w. played_in w smalls) (small-world c s)

-- what is asked of a chronicle beside its world: a crash comes where the replica's disk agrees, and who enters has told nothing there
abbrev pub Needs : Chronicle → Small → Type 0
Needs c (Crashes p) = IsWritten c p
Needs c (Enters p) = told_in c (newest_conf c.world.group) p ≡ None
Needs c _ = Unit {0}

may-needs : (c : Chronicle) (s : Small) → may_in c.world s ≡ true → Needs c s → (may_make c s ≡ true) × AtRest c s
unfolding may_make may_in
may-needs c (Starts set) may need = (may, tt)
may-needs c (Makes set) may need = (may, tt)
may-needs c (Enters p) may need =
    let conf = newest_conf c.world.group in
    (ap (λ (o : Option Told). is_member c conf p && may_come c p && is_none o && is_nil (ordered_in c conf)) need ∙ may, tt)
may-needs c (Orders p) may need = (may, tt)
may-needs c (Receives p place) may need = (may, tt)
may-needs c (Hands p) may need = (may, tt)
may-needs c (Leaves p set own places) may need = (may, tt)
may-needs c (Asks p kind) may need = (may, tt)
may-needs c (Settles p) may need = (may, tt)
may-needs c (Commits p) may need = (may, tt)
may-needs c (Crashes p) may need = (may, need)
may-needs c (Recovers p) may need = (may, tt)
may-needs c (Copies p joiner) may need = (may, tt)
may-needs c (Joins joiner) may need = (may, tt)

pub may-of : (c : Chronicle) (s : Small) → may_make c s ≡ true → may_in c.world s ≡ true
unfolding may_make may_in
may-of c (Starts set) may = may
may-of c (Makes set) may = may
may-of c (Enters p) may =
    let conf = newest_conf c.world.group in
    let last = and_parts (is_member c conf p && may_come c p && is_none (told_in c conf p)) (is_nil (ordered_in c conf)) may in
    let first = and_parts (is_member c conf p && may_come c p) (is_none (told_in c conf p)) last.0 in
    and_from _ _ (and_from _ _ first.0 refl) last.1
may-of c (Orders p) may = may
may-of c (Receives p place) may = may
may-of c (Hands p) may = may
may-of c (Leaves p set own places) may = may
may-of c (Asks p kind) may = may
may-of c (Settles p) may = may
may-of c (Commits p) may = may
may-of c (Crashes p) may = may
may-of c (Recovers p) may = may
may-of c (Copies p joiner) may = may
may-of c (Joins joiner) may = may

-- ---- which may be made

-- each step has what it needs
abbrev pub RestAlong : Chronicle → List Small → Type 0
RestAlong c [] = Unit {0}
RestAlong c (s ∷ smalls) = Needs c s × RestAlong (small_step c s) smalls

pub may-all : (c : Chronicle) (smalls : List Small) → MayIn c.world smalls → RestAlong c smalls → MayBeMade c smalls
may-all c [] may rest = tt
may-all c (s ∷ smalls) may rest =
    let one = may-needs c s may.0 rest.0 in
    (one.0, one.1, may-all (small_step c s) smalls (subst_may (sym (small-world c s)) may.1) rest.1) where
      subst_may : {w v : World} → w ≡ v → MayIn w smalls → MayIn v smalls
      subst_may e m = rw (sym e) m

-- steps behind others
pub played-append : (w : World) (xs ys : List Small) → played_in w (xs ++ ys) ≡ played_in (played_in w xs) ys
played-append w [] ys = refl
played-append w (s ∷ xs) ys = played-append (small_in w s) xs ys

pub may-append : (w : World) (xs ys : List Small) → MayIn w xs → MayIn (played_in w xs) ys → MayIn w (xs ++ ys)
may-append w [] ys a b = b
may-append w (s ∷ xs) ys a b = (a.0, may-append (small_in w s) xs ys a.1 b)

pub rest-append : (c : Chronicle) (xs ys : List Small) → RestAlong c xs → RestAlong (played c xs) ys → RestAlong c (xs ++ ys)
rest-append c [] ys a b = b
rest-append c (s ∷ xs) ys a b = (a.0, rest-append (small_step c s) xs ys a.1 b)
